-- `oldest` meets its contract: a walk over the items, to the one at whose end the row ends. Assumes nothing.
use Prim.Native.Nat.{◌-◌}
use native.Mathlib.Omega.{arith}
use Rattle.book.specs.Book.{Row}
use Rattle.shard.specs.Holds.{Holds}
use Rattle.shard.proofs.Fields.{fields, used-read}
use Rattle.shard_store.proofs.Walk.{Standing, some_item, newest-stands, next-stands, oldest-stands, Reached}
use Rattle.shard_store.proofs.oldest.Goals.{In-loop-next}
use Rattle.shard_store.proofs.oldest.Goals as goal

-- the item that a turn comes to
look : (c : In-loop-next) (row : Row) → let s = c.args.s.now in
    Holds s row → Standing s row c.loop-next.next
look c row h =
    let t = c.loop-next.invariant row h in
    let u = used-read h in
    next-stands t.standing _ h t.next-is (omega arith)

pub read_u32-requires : goal.read_u32-requires
read_u32-requires c = let r = c.requires.stands.holds.room in omega arith

pub item_len-next-requires : goal.item_len-next-requires
item_len-next-requires c = c.requires

pub overflow_add-next : goal.overflow_add-next
overflow_add-next c =
    let w = c.requires in
    let f = fields w.stands in
    let e = c.item_len-next.ensures w.front w.back w.item w.stands in
    omega arith

pub loop-next-init : goal.loop-next-init
loop-next-init c row h =
    let f = fields c.requires.stands in
    let u = used-read h in
    let t = newest-stands h (omega arith) in
    let e = c.item_len-next.ensures t.front t.back t.item t.stands in
    record { standing = t; next-is = omega arith }

pub item_len-requires : goal.item_len-requires
item_len-requires c = some_item (look (goal.at.item_len-requires c).In-loop-next _ c.requires.stands.holds)

pub overflow_add-next-in-loop-next : goal.overflow_add-next-in-loop-next
overflow_add-next-in-loop-next c =
    let t = look (goal.at.overflow_add-next-in-loop-next c).In-loop-next _ c.requires.stands.holds in
    let f = fields t.stands in
    let e = c.item_len.ensures t.front t.back t.item t.stands in
    omega arith

pub loop-next-smaller : goal.loop-next-smaller
loop-next-smaller c =
    let t = look (goal.at.loop-next-smaller c).In-loop-next _ c.requires.stands.holds in
    let f = fields t.stands in
    let e = c.item_len.ensures t.front t.back t.item t.stands in
    omega arith

pub loop-next-preserved : goal.loop-next-preserved
loop-next-preserved c row h =
    let t = look (goal.at.loop-next-preserved c).In-loop-next row h in
    let e = c.item_len.ensures t.front t.back t.item t.stands in
    record { standing = t; next-is = omega arith }

pub returns : goal.returns
returns c row h =
    let t = c.loop-next.invariant row h in
    let n = t.next-is in
    let u = used-read h in
    oldest-stands t.standing (omega arith)
