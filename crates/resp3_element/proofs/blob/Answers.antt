-- `resp3_element::blob` meets its contract. Assumes nothing.
use mathlib.Core.Path.{ap}
use native.Mathlib.Omega.{arith}
use Rattle.resp3_element.specs.Places.{in_range}
use Rattle.resp3_element.specs.Law as law
use Rattle.resp3_element.proofs.blob.Goals as goal

pub slice_bounds-result-count : goal.slice_bounds-result-count
slice_bounds-result-count c = let k = law.range-in _ _ c.range_at.ensures in omega arith

pub slice_bounds-result-start : goal.slice_bounds-result-start
slice_bounds-result-start c = let k = law.range-in _ _ c.range_at.ensures in omega arith

pub slice_bounds-result-end : goal.slice_bounds-result-end
slice_bounds-result-end c = let k = law.range-in _ _ c.range_at.ensures in omega arith

pub returns : goal.returns
returns c = record { value = λ v m. law.blob-law _ _ v c.range_at.ensures m; any = ap (in_range c.args.s.now) c.range_at.ensures }
