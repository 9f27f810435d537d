-- `find` meets its contract: a walk over the items, of which those passed do not have the key. Assumes nothing.
use mathlib.Core.Path.{refl, sym, ap, ◌∙◌}
use Prim.Native.Nat.{ℕ}
use native.Mathlib.Omega.{arith}
use Rattle.book.specs.Book.{Row, row_bytes}
use Rattle.shard.specs.Holds.{Holds}
use Rattle.shard.specs.Position.{position_from}
use Rattle.shard.proofs.Fields.{fields, used-read}
use Rattle.shard.proofs.Walk.{items-count, begun, Here, here, passed, finished}
use Rattle.shard.proofs.Items.{stands, there, position_here, position-next}
use Rattle.shard.proofs.find.Goals.{In-loop-at}
use Rattle.shard.proofs.find.Invariants.{Elsewhere}
use Rattle.shard.proofs.find.Goals as goal

-- the item that a turn has come to
look : (c : In-loop-at) (row : Row)
    → let a = c.args in
    let at = c.loop-at.at in
    Holds a.s.now row → Here row_bytes 16 row at (Elsewhere a.key.now row at)
look c row h = let u = used-read h in here items-count (c.loop-at.invariant row h) (omega arith)

pub read_u32-requires : goal.read_u32-requires
read_u32-requires c = let r = c.requires.holds.room in omega arith

pub loop-at-init : goal.loop-at-init
loop-at-init c = λ row h. begun items-count refl refl

pub has_key-requires : goal.has_key-requires
has_key-requires c = let h = c.requires.holds in there h (look (goal.at.has_key-requires c).In-loop-at _ h)

pub returns-then-has_key : goal.returns-then-has_key
returns-then-has_key c row h =
    let t = look (goal.at.returns-then-has_key c).In-loop-at row h in
    let e = c.has_key.ensures t.front t.back t.thing (stands h t) in
    sym (t.left ∙ position_here _ _ t.thing t.back (sym e ∙ c.if-has_key.true))

pub item_len-at-requires : goal.item_len-at-requires
item_len-at-requires c = let h = c.requires.holds in there h (look (goal.at.item_len-at-requires c).In-loop-at _ h)

pub overflow_add-at : goal.overflow_add-at
overflow_add-at c =
    let h = c.requires.holds in
    let t = look (goal.at.overflow_add-at c).In-loop-at _ h in
    let f = fields (stands h t) in
    let e = c.item_len-at.ensures t.front t.back t.thing (stands h t) in
    omega arith

pub loop-at-smaller : goal.loop-at-smaller
loop-at-smaller c =
    let h = c.requires.holds in
    let t = look (goal.at.loop-at-smaller c).In-loop-at _ h in
    let e = c.item_len-at.ensures t.front t.back t.thing (stands h t) in
    omega arith

pub loop-at-preserved : goal.loop-at-preserved
unfolding row_bytes
loop-at-preserved c row h =
    let k = c.args.key.now in
    let t = look (goal.at.loop-at-preserved c).In-loop-at row h in
    let e = c.item_len-at.ensures t.front t.back t.thing (stands h t) in
    let d = c.has_key.ensures t.front t.back t.thing (stands h t) in
    passed items-count t _ (omega arith)
    (t.left ∙ position-next _ _ t.thing t.back (sym d ∙ c.if-has_key.false) ∙ ap (λ (n : ℕ). position_from n k t.back) (omega arith))

pub returns : goal.returns
unfolding position_from
returns c row h =
    let u = used-read h in
    sym (finished items-count (c.loop-at.invariant row h) (omega arith))
