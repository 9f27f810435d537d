-- `clear` meets its contract: header and items are zeroed, and what follows is zero (`emptied`). Assumes nothing.
use native.Mathlib.Omega.{arith}
use mathlib.Core.Path.{◌∙◌}
use Rattle.shard.proofs.Fields.{used-read}
use Rattle.shard.proofs.Edits.{emptied}
use Rattle.shard.proofs.clear.Goals as goal

pub fill_zero-requires : goal.fill_zero-requires
fill_zero-requires c =
    let h = c.requires.holds in
    let u = used-read h in
    let r = h.room in
    omega arith

pub returns : goal.returns
returns c row h = (
  c.fill_zero.ensures ∙ emptied h _
      (c.read_u32.ensures ∙ used-read h),
  c.all_entries-n.ensures row h,
)
