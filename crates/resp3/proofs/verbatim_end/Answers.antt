use mathlib.Core.Path.{sym, ◌∙◌}
use Prim.Native.Nat.{◌+◌}
use native.Mathlib.Omega.{arith}
use Rattle.buffer.specs.Places.{get_or-out}
use Rattle.resp3.specs.Paths as paths
use Rattle.resp3.proofs.verbatim_end.Goals as goal

pub returns-in_err-n : goal.returns-in_err-n
returns-in_err-n c = c.from_residual.ensures ∙ sym (paths.verb-bad _ _ (sym c.length_at.ensures ∙ c.in_err-n.was))

pub returns-then-n-lt4 : goal.returns-then-n-lt4
returns-then-n-lt4 c = sym (paths.verb-short _ _ _ _ (sym c.length_at.ensures ∙ c.in_ok-n.was) c.if-n-lt4.true)

pub overflow_add-e : goal.overflow_add-e
overflow_add-e c = let k = paths.length-bounds _ _ _ _ (sym c.length_at.ensures ∙ c.in_ok-n.was) in omega arith

pub returns-then-e-s : goal.returns-then-e-s
returns-then-e-s c =
    sym (paths.verb-colon _ _ _ _ (sym c.length_at.ensures ∙ c.in_ok-n.was)
    c.if-n-lt4.false
    (λ z. let k = get_or-out c.args.s.now (c.in_ok-n.e + 3)
    c.if-e-s.true in omega arith))

pub returns-then-s-e-ne58 : goal.returns-then-s-e-ne58
returns-then-s-e-ne58 c =
    sym (paths.verb-colon _ _ _ _
    (sym c.length_at.ensures ∙ c.in_ok-n.was)
    c.if-n-lt4.false c.if-s-e-ne58.true)

pub overflow_add-e-3 : goal.overflow_add-e-3
overflow_add-e-3 c =
    let k = paths.length-bounds _ _ _ _
    (sym c.length_at.ensures ∙ c.in_ok-n.was) in
    omega arith

pub returns : goal.returns
returns c =
    c.crlf_end.ensures ∙ sym
    (paths.verb-val _ _ _ _
    (sym c.length_at.ensures
    ∙ c.in_ok-n.was) c.if-n-lt4.false c.if-s-e-ne58.false)
