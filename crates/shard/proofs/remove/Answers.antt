-- `remove` meets its contract: the steps of `taken_out`. Assumes nothing.
use native.Mathlib.Omega.{arith}
use mathlib.Core.Path.{ap, ◌∙◌}
use Prim.Native.Nat.{ℕ, ◌-◌}
use Rattle.buffer.specs.Same.{Bytes}
use Rattle.buffer.specs.Field.{le32}
use Rattle.buffer.specs.Part.{put}
use Rattle.shard.proofs.Fields.{fields, count-read, used-read}
use Rattle.shard.proofs.Edits.{taken_out}
use Rattle.shard.proofs.remove.Goals as goal

pub overflow_add-at : goal.overflow_add-at
overflow_add-at c =
    let w = c.requires in
    let f = fields w.stands in
    let e = c.item_len-size.ensures w.front w.back w.item w.stands in
    omega arith

pub resize-requires : goal.resize-requires
resize-requires c =
    let w = c.requires in
    let f = fields w.stands in
    let e = c.item_len-size.ensures w.front w.back w.item w.stands in
    omega arith

pub overflow_sub-count : goal.overflow_sub-count
overflow_sub-count c = let f = fields c.requires.stands in omega arith

pub overflow_sub-used : goal.overflow_sub-used
overflow_sub-used c =
    let w = c.requires in
    let f = fields w.stands in
    let e = c.item_len-size.ensures w.front
    w.back w.item w.stands in
    omega arith

pub returns : goal.returns
returns c front back it w =
    let size : ℕ = c.item_len-size.result in
    let count : ℕ = c.read_u32-count.result in
    let used : ℕ = c.read_u32-used.result in
    c.write_u32-2.ensures
    ∙ ap (λ (z : Bytes). put z 4 (le32 (used - size)))
    (c.write_u32.ensures
    ∙ ap (λ (z : Bytes). put z 0 (le32 (count - 1))) c.resize.ensures)
    ∙ taken_out w size count used
    (c.item_len-size.ensures front back it w)
    (c.read_u32-count.ensures ∙ count-read w.holds)
    (c.read_u32-used.ensures ∙ used-read w.holds)
