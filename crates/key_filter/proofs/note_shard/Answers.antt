-- `key_filter::note_shard` meets its contract: a walk over the items, with the bits of those passed set. Assumes nothing.
use mathlib.Core.Path.{refl, ◌∙◌}
use native.Mathlib.Omega.{arith}
use Rattle.book.specs.Book.{Row, row_bytes}
use Rattle.shard.specs.Holds.{Holds}
use Rattle.shard.proofs.Fields.{fields, used-read}
use Rattle.shard.proofs.Walk.{items-count, begun, Here, here, passed, finished}
use Rattle.shard.proofs.Items.{stands, there}
use Rattle.key_filter.proofs.Paths.{grows-set, Left, left-next}
use Rattle.key_filter.proofs.note_shard.Goals.{In-loop-at}
use Rattle.key_filter.proofs.note_shard.Goals as goal

-- the item that a turn has come to
look : (c : In-loop-at) (row : Row) → Holds c.args.s.now row
    → Here row_bytes 16 row c.loop-at.at (Left c.loop-at.seen row)
look c row h = let u = used-read h in here items-count (c.loop-at.invariant.1 row h) (omega arith)

pub read_u32-requires : goal.read_u32-requires
read_u32-requires c = let r = c.requires.holds.room in omega arith

pub loop-at-init : goal.loop-at-init
loop-at-init c = (λ b h. h, λ row h. begun items-count refl (λ later g w. w), refl)

pub note_item-requires : goal.note_item-requires
note_item-requires c = let h = c.requires.holds in there h (look (goal.at.note_item-requires c).In-loop-at _ h)

pub item_len-at-requires : goal.item_len-at-requires
item_len-at-requires c = let h = c.requires.holds in there h
    (look (goal.at.item_len-at-requires c).In-loop-at _ h)

pub overflow_add-at : goal.overflow_add-at
overflow_add-at c =
    let h = c.requires.holds in
    let t = look (goal.at.overflow_add-at c).In-loop-at _ h in
    let f = fields (stands h t) in
    let e = c.item_len-at.ensures t.front t.back t.thing (stands h t) in
    omega arith

pub loop-at-smaller : goal.loop-at-smaller
loop-at-smaller c =
    let h = c.requires.holds in
    let t = look (goal.at.loop-at-smaller c).In-loop-at _ h in
    let e = c.item_len-at.ensures t.front t.back t.thing (stands h t) in
    omega arith

pub loop-at-preserved : goal.loop-at-preserved
unfolding row_bytes
loop-at-preserved c =
    let h = c.requires.holds in
    let t₀ = look (goal.at.loop-at-preserved c).In-loop-at _ h in
    let n₀ = c.note_item.ensures t₀.front t₀.back t₀.thing (stands h t₀) in (
      λ d z. grows-set _ _ _ n₀ d (c.loop-at.invariant.0 d z),
      λ row h.
          let t = look (goal.at.loop-at-preserved c).In-loop-at row h in
          let e = c.item_len-at.ensures t.front t.back t.thing (stands h t) in
          let n = c.note_item.ensures t.front t.back t.thing (stands h t) in
          passed items-count t _ (omega arith) (left-next _ _ row t.back t.thing n t.left),
      c.seen-1.given ∙ c.loop-at.invariant.2,
    )

pub shape_of-seen : goal.shape_of-seen
shape_of-seen c = c.loop-at.invariant.2

pub returns : goal.returns
returns c = (
  c.loop-at.invariant.0,
  λ row h. let u = used-read h in finished items-count (c.loop-at.invariant.1 row h) (omega arith) _ (λ b z. z) tt,
)
