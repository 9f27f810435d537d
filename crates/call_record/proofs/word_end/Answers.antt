-- `call_record::word_end` meets its contract by its loop's invariant. Assumes nothing.
use mathlib.Core.Path.{◌≡◌, sym, ap, ◌∙◌}
use Prim.Native.Nat.{◌+◌}
use Rattle.std.specs.Prelude.{Ok}
use lib.ListN.{length, drop}
use native.Mathlib.Omega.{arith}
use Rattle.format.specs.Ends.{wrong}
use Rattle.format.specs.Places.{word_end}
use Rattle.call_record.specs.Paths as laws
use Rattle.call_record.proofs.word_end.Goals as goal

pub returns-in_err-byte_at : goal.returns-in_err-byte_at
returns-in_err-byte_at c =
    let z = laws.byte-past _ _ _ (sym c.byte_at.ensures ∙ c.in_err-byte_at.was) in
    laws.handed_on c.from_residual.result _ c.from_residual.ensures.1
    ∙ ap wrong z.1
    ∙ sym (c.loop-k.invariant.1 ∙ laws.turn-out _ _ _ _ c.loop-k-test.true z.0)

pub returns-then-branch-word : goal.returns-then-branch-word
returns-then-branch-word c =
    let z = laws.byte-is _ _ _ (sym c.byte_at.ensures ∙ c.in_ok-byte_at.was) in
    let n = c.if-branch-word.true in
    sym (c.loop-k.invariant.1 ∙ laws.turn-bad _ _ _ _ c.loop-k-test.true z.0 (λ e. n (sym z.1 ∙ e)))

pub loop-k-preserved : goal.loop-k-preserved
loop-k-preserved c =
    let z = laws.byte-is _ _ _ (sym c.byte_at.ensures ∙ c.in_ok-byte_at.was) in (
      omega arith,
      c.loop-k.invariant.1
          ∙ laws.turn-go _ _ _ _ c.loop-k-test.true z.0 (z.1 ∙ c.if-branch-word.false)
          ∙ ap (word_end (drop (c.loop-k.k + 1) c.args.word.now) c.args.s.now) (omega arith),
    )

pub returns : goal.returns
returns c =
    let i : c.args.at + c.loop-k.k ≡ c.args.at + length c.args.word.now = omega arith in
    sym (c.loop-k.invariant.1 ∙ laws.turn-done _ _ _ _ c.loop-k-test.false c.loop-k.invariant.0 ∙ ap Ok i)
