-- `all_entries` meets its contract: a walk over the items, with the entries of those passed counted. Assumes nothing.
use mathlib.Core.Path.{refl}
use native.Mathlib.Omega.{arith}
use Rattle.book.specs.Book.{Row, row_entries, row_bytes}
use Rattle.shard.specs.Holds.{Holds}
use Rattle.shard.proofs.Fields.{fields, used-read, all-few}
use Rattle.shard.proofs.Walk.{items-count, begun, Here, here, passed, finished}
use Rattle.shard.proofs.Items.{stands, there}
use Rattle.shard.proofs.all_entries.Goals.{In-loop-at}
use Rattle.shard.proofs.all_entries.Invariants.{Passed}
use Rattle.shard.proofs.all_entries.Goals as goal

-- the item that a turn has come to
look : (c : In-loop-at) (row : Row) → Holds c.args.s.now row
    → Here row_bytes 16 row c.loop-at.at (Passed row c.loop-at.n)
look c row h = let u = used-read h in here items-count (c.loop-at.invariant row h) (omega arith)

pub read_u32-requires : goal.read_u32-requires
read_u32-requires c = let r = c.requires.holds.room in omega arith

pub loop-at-init : goal.loop-at-init
loop-at-init c = λ row h. begun items-count refl (omega arith)

pub entry_count-n-requires : goal.entry_count-n-requires
entry_count-n-requires c = let h = c.requires.holds in there h (look (goal.at.entry_count-n-requires c).In-loop-at _ h)

pub overflow_add-n : goal.overflow_add-n
unfolding row_entries
overflow_add-n c =
    let h = c.requires.holds in
    let t = look (goal.at.overflow_add-n c).In-loop-at _ h in
    let e = c.entry_count-n.ensures t.front t.back t.thing (stands h t) in
    let l = t.left in
    let f = all-few c.requires.row in
    let r = h.room in
    let b = h.short in
    omega arith

pub item_len-at-requires : goal.item_len-at-requires
item_len-at-requires c = let h = c.requires.holds in there h (look (goal.at.item_len-at-requires c).In-loop-at _ h)

pub overflow_add-at : goal.overflow_add-at
overflow_add-at c =
    let h = c.requires.holds in
    let t = look (goal.at.overflow_add-at c).In-loop-at _ h in
    let f = fields (stands h t) in
    let e = c.item_len-at.ensures t.front t.back t.thing (stands h t) in
    omega arith

pub loop-at-smaller : goal.loop-at-smaller
loop-at-smaller c =
    let h = c.requires.holds in
    let t = look (goal.at.loop-at-smaller c).In-loop-at _ h in
    let e = c.item_len-at.ensures t.front t.back t.thing (stands h t) in
    omega arith

pub loop-at-preserved : goal.loop-at-preserved
unfolding row_bytes row_entries
loop-at-preserved c row h =
    let t = look (goal.at.loop-at-preserved c).In-loop-at row h in
    let e = c.item_len-at.ensures t.front t.back t.thing (stands h t) in
    let d = c.entry_count-n.ensures t.front t.back t.thing (stands h t) in
    let l = t.left in
    passed items-count t _ (omega arith) (omega arith)

pub returns : goal.returns
unfolding row_entries
returns c row h =
    let u = used-read h in
    let f = finished items-count (c.loop-at.invariant row h) (omega arith) in
    omega arith
