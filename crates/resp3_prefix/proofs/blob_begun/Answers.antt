-- `resp3_prefix::blob_begun` meets its contract. Assumes nothing.
use mathlib.Core.Path.{sym, ◌∙◌}
use native.Mathlib.Omega.{arith}
use Rattle.resp3_prefix.specs.CountSays.{count-says, whole-bounds}
use Rattle.resp3_prefix.specs.Paths as paths
use Rattle.resp3_prefix.proofs.blob_begun.Goals as goal

pub overflow_add-e : goal.overflow_add-e
overflow_add-e c =
    let b = whole-bounds _ _ _ _ _ (sym c.count_begun.ensures ∙ c.in-Whole.is) in
    omega (arith, b.0, b.1, c.requires)

pub crlf_begun-requires : goal.crlf_begun-requires
crlf_begun-requires c =
    let b = whole-bounds _ _ _ _ _ (sym c.count_begun.ensures ∙ c.in-Whole.is) in
    (c.requires, omega (arith, b.0, b.1, c.requires))

pub overflow_add-result : goal.overflow_add-result
overflow_add-result c = let w = count-says _ _ _ _ (sym c.count_begun.ensures ∙ c.in-Digits.is) in omega (arith, w.0)

pub overflow_add-result-in-Ended : goal.overflow_add-result-in-Ended
overflow_add-result-in-Ended c = let w = count-says _ _ _ _ (sym c.count_begun.ensures ∙ c.in-Ended.is) in omega (arith, w.0)

pub returns-in-Whole : goal.returns-in-Whole
returns-in-Whole c = c.crlf_begun.ensures ∙ sym (paths.blob-is _ _ _ (sym c.count_begun.ensures ∙ c.in-Whole.is))

pub returns-in-Nothing : goal.returns-in-Nothing
returns-in-Nothing c = sym (paths.blob-is _ _ _ (sym c.count_begun.ensures ∙ c.in-Nothing.is))

pub returns-in-Digits : goal.returns-in-Digits
returns-in-Digits c = sym (paths.blob-is _ _ _ (sym c.count_begun.ensures ∙ c.in-Digits.is))

pub returns-in-Ended : goal.returns-in-Ended
returns-in-Ended c = sym (paths.blob-is _ _ _ (sym c.count_begun.ensures ∙ c.in-Ended.is))

pub returns-in-Never : goal.returns-in-Never
returns-in-Never c = sym (paths.blob-is _ _ _ (sym c.count_begun.ensures ∙ c.in-Never.is))
