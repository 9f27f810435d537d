-- `resp3_prefix::values_begun`, which calls itself, meets its contract. The measure is the depth. Assumes nothing.
use Rattle.std.specs.Prelude.{refl, Ok}
use mathlib.Core.Path.{sym, ap, ◌∙◌}
use native.Mathlib.Omega.{arith}
use Rattle.resp3_prefix.specs.Paths as paths
use Rattle.resp3_prefix.proofs.Rows as rows
use Rattle.resp3_prefix.proofs.+values_begun.Goals as goal

pub loop-left-init : goal.loop-left-init
loop-left-init t c = refl

pub returns-then-depth-eq0 : goal.returns-then-depth-eq0
returns-then-depth-eq0 t c = sym (c.loop-left.invariant ∙ rows.row-deep _ _ _ _ c.loop-left-test.true c.if-depth-eq0.true)

pub loop-left-preserved-in-Ok-eq0-default : goal.loop-left-preserved-in-Ok-eq0-default
loop-left-preserved-in-Ok-eq0-default t c =
    let k = c.in-Ok-eq0-default in
    c.loop-left.invariant
    ∙ rows.row-leaf _ _ _ _ c.loop-left-test.true c.if-depth-eq0.false _
    (sym c.head_begun.ensures ∙ k.is ∙ ap (λ i. Ok (i, k.e)) k.field-0-0-test)

pub loop-left-preserved : goal.loop-left-preserved
loop-left-preserved t c =
    c.loop-left.invariant
    ∙ rows.row-inside _ _ _ _ c.loop-left-test.true c.if-depth-eq0.false _ _ _
    (sym c.head_begun.ensures ∙ c.in-Ok.is) (sym c.values_begun.ensures ∙ c.in-Ok-values_begun.is)

pub returns-in-Err-values_begun : goal.returns-in-Err-values_begun
returns-in-Err-values_begun t c =
    c.lacking_before.ensures
    ∙ sym (c.loop-left.invariant
    ∙ rows.row-part _ _ _ _ c.loop-left-test.true c.if-depth-eq0.false _ _ _
    (sym c.head_begun.ensures ∙ c.in-Ok.is) (sym c.values_begun.ensures ∙ c.in-Err-values_begun.is))

pub returns-in-Err : goal.returns-in-Err
returns-in-Err t c =
    c.lacking_before-in-Err.ensures
    ∙ sym (c.loop-left.invariant
    ∙ rows.row-no-head _ _ _ _ c.loop-left-test.true c.if-depth-eq0.false _
    (sym c.head_begun.ensures ∙ c.in-Err.is))

pub returns : goal.returns
returns t c = sym (c.loop-left.invariant ∙ paths.row-none _ _ _ _ (omega arith))
