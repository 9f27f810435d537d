-- `store_new` meets its contract: where there is room for one more key a new item, else one in the place of the oldest. Assumes nothing.
use native.Mathlib.Omega.{arith}
use mathlib.Core.Path.{refl, sym, ap, ◌∙◌}
use mathlib.Core.List.{[], ◌∷◌, append-nil}
use lib.ListN.{length}
use Rattle.book.specs.Book.{Row, new_item, without_oldest}
use Rattle.shard.proofs.Fields.{count-read}
use Rattle.arena.proofs.Image.{items-few}
use Rattle.shard_store.proofs.Walk.{some_item, newest-stands, last_of, last-stands}
use Rattle.shard_store.proofs.Cases.{same_rows, case-new, case-evict}
use borrow.Author.Rules.{rules}
use Rattle.shard_store.proofs.store_new.Goals as goal

pub returns-then-read_u32-keys : goal.returns-then-read_u32-keys
returns-then-read_u32-keys c row h f =
    let a = c.args in
    let n = count-read h in
    same_rows (length a.s.now)
    (case-new a.keys a.key.now a.command.now a.value.now a.expiry a.epoch row f (omega arith)) refl
    (c.store_front.ensures row h)

pub oldest-at-requires : goal.oldest-at-requires
oldest-at-requires c =
    let w = c.requires.0 in
    let one = c.requires.2 in
    let n = count-read w.holds in
    let m = items-few w.row in
    some_item (newest-stands w.holds (omega arith))

pub store_instead-requires : goal.store_instead-requires
store_instead-requires c =
    let w = c.requires.0 in
    let one = c.requires.2 in
    let n = count-read w.holds in
    let l = last_of w.row (omega arith) in (
      record { front = _; back = _; item = _; stands = last-stands w.holds l (c.oldest-at.ensures w.row w.holds) },
      c.requires.1,
    )

pub returns : goal.returns
returns c row h f =
    let a = c.args in
    let one = c.requires.2 in
    let n = count-read h in
    let l = last_of row (omega arith) in
    let p = c.store_instead.ensures (without_oldest row) [] l.item
    (last-stands h l (c.oldest-at.ensures row h)) in
    same_rows (length a.s.now)
    (ap (λ (z : Row). new_item a.key.now a.command.now a.value.now a.expiry a.epoch ∷ z) (append-nil (without_oldest row))
    ∙ case-evict a.keys a.key.now a.command.now a.value.now a.expiry a.epoch row f (omega arith))
    (sym l.splits) p
