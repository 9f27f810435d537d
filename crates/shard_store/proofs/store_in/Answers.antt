-- `store_in` meets its contract: each of the book's cases is one call. Assumes nothing.
use mathlib.Core.Path.{sym, ◌∙◌}
use lib.ListN.{length}
use Rattle.shard.proofs.Items.{key-at, item-at, no_item}
use Rattle.shard_store.proofs.Cases.{same_rows, case-update, case-replace}
use borrow.Author.Rules.{rules}
use Rattle.shard_store.proofs.store_in.Goals as goal

pub epoch_of-requires : goal.epoch_of-requires
epoch_of-requires c =
    let h = c.requires.0.holds in
    let g = key-at h (sym (c.find.ensures _ h) ∙ c.in-Some.is) in
    item-at g

pub store_update-requires : goal.store_update-requires
store_update-requires c =
    let h = c.requires.0.holds in
    let g = key-at h (sym (c.find.ensures _ h)
    ∙ c.in-Some.is) in
    (item-at g, c.requires.1.command, c.requires.1.value)

pub returns-then-epoch_of-epoch : goal.returns-then-epoch_of-epoch
returns-then-epoch_of-epoch c row h =
    let a = c.args in
    let g = key-at h (sym (c.find.ensures row h)
    ∙ c.in-Some.is) in
    let q = c.epoch_of.ensures g.place.front g.place.back g.item g.stands in
    let p = c.store_update.ensures g.place.front g.place.back g.item g.stands in
    same_rows (length a.s.now)
    (case-update a.keys a.key.now a.command.now a.value.now a.expiry a.epoch row g.item g.place g.is
    (sym c.if-epoch_of-epoch.true ∙ q))
    (sym g.place.splits) p

pub store_instead-requires : goal.store_instead-requires
store_instead-requires c =
    let h = c.requires.0.holds in
    let g = key-at h (sym (c.find.ensures _ h)
    ∙ c.in-Some.is) in
    (item-at g, c.requires.1)

pub returns-else-epoch_of-epoch : goal.returns-else-epoch_of-epoch
returns-else-epoch_of-epoch c row h =
    let a = c.args in
    let g = key-at h (sym (c.find.ensures row h)
    ∙ c.in-Some.is) in
    let q = c.epoch_of.ensures g.place.front g.place.back g.item g.stands in
    let p = c.store_instead.ensures g.place.front g.place.back g.item g.stands in
    same_rows (length a.s.now)
    (case-replace a.keys a.key.now a.command.now a.value.now a.expiry a.epoch row g.item g.place g.is
    (λ e. c.if-epoch_of-epoch.false (q ∙ sym e)))
    (sym g.place.splits) p

pub returns-in-None : goal.returns-in-None
returns-in-None c row h =
    c.store_new.ensures row h
    (no_item 16 _ row (sym (c.find.ensures row h) ∙ c.in-None.is))
