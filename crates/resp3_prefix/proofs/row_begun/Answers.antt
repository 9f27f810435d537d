-- `resp3_prefix::row_begun` meets its contract. Assumes nothing.
use mathlib.Core.Path.{sym, ap, ◌∙◌}
use native.Mathlib.Omega.{arith}
use Rattle.resp3_prefix.specs.Begun.{alone_of, row_of}
use Rattle.resp3_prefix.specs.CountSays.{count-says, whole-bounds}
use Rattle.resp3_prefix.specs.Paths as paths
use Rattle.resp3_prefix.proofs.row_begun.Goals as goal

pub overflow_mul-result : goal.overflow_mul-result
overflow_mul-result c =
    let b = whole-bounds _ _ _ _ _ (sym c.count_begun.ensures ∙ c.in-Whole.is) in
    let k = paths.product _ _ _ c.requires.1 b.0 in
    omega arith

pub overflow_add-result : goal.overflow_add-result
overflow_add-result c =
    let b = whole-bounds _ _ _ _ _ (sym c.count_begun.ensures ∙ c.in-Whole.is) in
    let k = paths.product _ _ _ c.requires.1 b.0 in
    omega (arith, c.requires.2)

pub overflow_mul-per : goal.overflow_mul-per
overflow_mul-per c =
    let w = count-says _ _ _ _ (sym c.count_begun.ensures ∙ c.in-Digits.is) in
    let k = paths.product _ _ _ c.requires.1 w.0 in
    omega arith

pub overflow_add-per : goal.overflow_add-per
overflow_add-per c =
    let w = count-says _ _ _ _ (sym c.count_begun.ensures ∙ c.in-Digits.is) in
    let k = paths.product _ _ _ c.requires.1 w.0 in
    omega (arith, c.requires.2)

pub overflow_mul-per-in-Ended : goal.overflow_mul-per-in-Ended
overflow_mul-per-in-Ended c =
    let w = count-says _ _ _ _ (sym c.count_begun.ensures ∙ c.in-Ended.is) in
    let k = paths.product _ _ _ c.requires.1 w.0 in
    omega arith

pub overflow_add-per-in-Ended : goal.overflow_add-per-in-Ended
overflow_add-per-in-Ended c =
    let w = count-says _ _ _ _ (sym c.count_begun.ensures ∙ c.in-Ended.is) in
    let k = paths.product _ _ _ c.requires.1 w.0 in
    omega (arith, c.requires.2)

pub returns-in-Whole : goal.returns-in-Whole
returns-in-Whole c =
    sym (ap (row_of c.args.depth c.args.per c.args.more)
    (sym c.count_begun.ensures ∙ c.in-Whole.is))

pub returns-in-Nothing : goal.returns-in-Nothing
returns-in-Nothing c =
    c.alone.ensures ∙ ap alone_of c.lacking_below.ensures
    ∙ sym (ap (row_of c.args.depth c.args.per c.args.more)
    (sym c.count_begun.ensures ∙ c.in-Nothing.is))

pub returns-in-Digits : goal.returns-in-Digits
returns-in-Digits c =
    c.alone-in-Digits.ensures ∙ ap alone_of c.lacking_below-in-Digits.ensures
    ∙ sym (ap (row_of c.args.depth c.args.per c.args.more) (sym c.count_begun.ensures ∙ c.in-Digits.is))

pub returns-in-Ended : goal.returns-in-Ended
returns-in-Ended c =
    c.alone-in-Ended.ensures ∙ ap alone_of c.lacking_below-in-Ended.ensures
    ∙ sym (ap (row_of c.args.depth c.args.per c.args.more) (sym c.count_begun.ensures ∙ c.in-Ended.is))

pub returns-in-Never : goal.returns-in-Never
returns-in-Never c =
    sym (ap (row_of c.args.depth c.args.per c.args.more) (sym c.count_begun.ensures ∙ c.in-Never.is))
