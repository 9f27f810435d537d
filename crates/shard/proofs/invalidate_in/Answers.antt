-- `invalidate_in` meets its contract: the key's item is removed, or there is none. Assumes nothing.
use mathlib.Core.Path.{sym, ap, ◌∙◌}
use Rattle.book.specs.Book.{Row, entries_of}
use Rattle.book.proofs.Rows.{without-absent}
use Rattle.arena.specs.Layout.{enc_shard}
use Rattle.shard.specs.Holds.{Holds}
use Rattle.shard.proofs.Items.{KeyAt, key-at, item-at, no_item}
use Rattle.shard.proofs.invalidate_in.Goals.{In-Some}
use Rattle.shard.proofs.invalidate_in.Goals as goal

-- the key's item
key : (c : In-Some) (row : Row)
    → let a = c.args in
    Holds a.s.now row → KeyAt a.s.now a.key.now row c.in-Some.at
key c row h = key-at h (sym (c.find.ensures row h) ∙ c.in-Some.is)

pub entry_count-dropped-requires : goal.entry_count-dropped-requires
entry_count-dropped-requires c = let h = c.requires.holds in item-at (key (goal.at.entry_count-dropped-requires c).In-Some _ h)

pub remove-requires : goal.remove-requires
remove-requires c =
    let h = c.requires.holds in
    item-at (key (goal.at.remove-requires c).In-Some _ h)

pub returns-in-Some : goal.returns-in-Some
unfolding entries_of
returns-in-Some c row h =
    let g = key (goal.at.returns-in-Some c).In-Some row h in (
      c.remove.ensures g.place.front g.place.back g.item g.stands ∙ ap (enc_shard _) (sym g.place.gone),
      c.entry_count-dropped.ensures g.place.front g.place.back g.item g.stands ∙ sym (ap entries_of g.is),
    )

pub returns-in-None : goal.returns-in-None
unfolding entries_of
returns-in-None c row h =
    let n = no_item 16 _ row (sym (c.find.ensures row h) ∙ c.in-None.is) in
    (h.is ∙ ap (enc_shard _) (sym (without-absent _ row n)), sym (ap entries_of n))
