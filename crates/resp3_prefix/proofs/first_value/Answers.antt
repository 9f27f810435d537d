-- `resp3_prefix::first_value` meets its contract. Assumes nothing.
use mathlib.Core.Path.{◌∙◌}
use Rattle.resp3_prefix.specs.Paths as paths
use Rattle.resp3_prefix.proofs.Rows as rows
use Rattle.resp3_prefix.proofs.first_value.Goals as goal

pub slice_bounds-values_begun-end : goal.slice_bounds-values_begun-end
slice_bounds-values_begun-end c = paths.most-long c.args.s.now _ c.min-end.ensures

pub values_begun-requires : goal.values_begun-requires
values_begun-requires c = paths.most-small c.args.s.now _ c.min-end.ensures

pub returns : goal.returns
returns c =
    c.within.ensures ∙ rows.first-of-one c.args.s.now _ _ c.min-end.ensures c.values_begun.ensures
