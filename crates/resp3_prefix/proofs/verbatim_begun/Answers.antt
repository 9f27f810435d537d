-- `resp3_prefix::verbatim_begun` meets its contract. Assumes nothing.
use mathlib.Core.Path.{sym, ◌∙◌}
use native.Mathlib.Omega.{arith}
use Rattle.resp3_prefix.specs.CountSays.{count-says, whole-bounds}
use Rattle.resp3_prefix.specs.Paths as paths
use Rattle.resp3_prefix.proofs.verbatim_begun.Goals as goal

pub verbatim_body-requires : goal.verbatim_body-requires
verbatim_body-requires c =
    let b = whole-bounds _ _ _ _ _ (sym c.count_begun.ensures ∙ c.in-Whole.is) in (c.requires, b.0, b.1)

pub verbatim_digits-requires : goal.verbatim_digits-requires
verbatim_digits-requires c = (count-says _ _ _ _ (sym c.count_begun.ensures ∙ c.in-Digits.is)).0

pub overflow_add-result : goal.overflow_add-result
overflow_add-result c = let w = count-says _ _ _ _ (sym c.count_begun.ensures ∙ c.in-Ended.is) in omega (arith, w.0)

pub returns-in-Whole : goal.returns-in-Whole
returns-in-Whole c =
    c.verbatim_body.ensures ∙ sym (paths.verbatim-is _ _ _ (sym c.count_begun.ensures ∙ c.in-Whole.is))

pub returns-in-Nothing : goal.returns-in-Nothing
returns-in-Nothing c = sym (paths.verbatim-is _ _ _ (sym c.count_begun.ensures ∙ c.in-Nothing.is))

pub returns-in-Digits : goal.returns-in-Digits
returns-in-Digits c =
    c.verbatim_digits.ensures ∙ sym (paths.verbatim-is _ _ _ (sym c.count_begun.ensures ∙ c.in-Digits.is))

pub returns-then-m-ge4 : goal.returns-then-m-ge4
returns-then-m-ge4 c =
    sym ((paths.verbatim-is _ _ _ (sym c.count_begun.ensures ∙ c.in-Ended.is))
    ∙ paths.ended-four c.args.s.now _ c.if-m-ge4.true)

pub returns-else-m-ge4 : goal.returns-else-m-ge4
returns-else-m-ge4 c =
    sym ((paths.verbatim-is _ _ _ (sym c.count_begun.ensures ∙ c.in-Ended.is))
    ∙ paths.ended-few c.args.s.now _ c.if-m-ge4.false)

pub returns-in-Never : goal.returns-in-Never
returns-in-Never c = sym (paths.verbatim-is _ _ _ (sym c.count_begun.ensures ∙ c.in-Never.is))
