-- `call_record::number_end` meets its contract by its loop's invariant. Assumes nothing.
use mathlib.Core.Path.{◌≡◌, sym, ap, ◌∙◌}
use Prim.Native.Nat.{ℕ, ◌+◌, ◌-◌, ◌/◌}
use native.Mathlib.Omega.{arith}
use Rattle.format.specs.Ends.{wrong}
use Rattle.format.specs.Places as laws
use Rattle.call_record.specs.Paths.{handed_on, byte-is, byte-past}
use Rattle.call_record.proofs.number_end.Goals as goal

pub returns-in_err-byte_at : goal.returns-in_err-byte_at
returns-in_err-byte_at c =
    let k = c.loop-k.k in
    let z = byte-past _ _ _ (sym c.byte_at.ensures ∙ c.in_err-byte_at.was) in
    handed_on c.from_residual.result _ c.from_residual.ensures.1
    ∙ ap wrong z.1
    ∙ sym (c.loop-k.invariant.1 ∙ laws.number-out (c.args.w - (k + 1)) (c.args.w - k) _ _ _ (omega arith) z.0)

pub returns-then-b-room : goal.returns-then-b-room
returns-then-b-room c =
    let k = c.loop-k.k in
    let z = byte-is _ _ _ (sym c.byte_at.ensures ∙ c.in_ok-byte_at.was) in
    let e = z.1 in
    let f = c.from-b.ensures in
    sym (c.loop-k.invariant.1
    ∙ laws.number-bad (c.args.w - (k + 1)) (c.args.w - k) _ _ _ (omega arith) z.0 (omega arith))

pub loop-k-preserved : goal.loop-k-preserved
loop-k-preserved c =
    let k = c.loop-k.k in
    let w : ℕ = c.args.w - (k + 1) in
    let z = byte-is _ _ _ (sym c.byte_at.ensures ∙ c.in_ok-byte_at.was) in
    let e = z.1 in
    let f = c.from-b.ensures in (
      omega arith,
      c.loop-k.invariant.1
          ∙ laws.number-go w (c.args.w - k) _ _ _ (omega arith) z.0 (c.type_inv.s (c.args.at + k)).fits (omega arith)
          ∙ ap (λ (b : ℕ). laws.number_end w ((c.loop-k.room - b) / 256) c.args.s.now (c.args.at + k + 1)) (e ∙ sym f)
          ∙ ap (laws.number_end w ((c.loop-k.room - c.from-b.result) / 256) c.args.s.now) (omega arith),
    )

pub returns : goal.returns
returns c =
    let z : c.args.w - c.loop-k.k ≡ 0 = omega arith in
    let i : c.args.at + c.loop-k.k ≡ c.args.at + c.args.w = omega arith in
    sym (c.loop-k.invariant.1 ∙ rw (z, i) (laws.number-none _ _ _ (rw (← i) c.loop-k.invariant.0)))
