-- `key_filter::insert` meets its contract: a store keeps what the filter says, once it knows the key. Assumes nothing.
use mathlib.Core.Path.{sym, ap, ◌∙◌}
use mathlib.Core.List.{List}
use Prim.Native.Nat.{ℕ}
use Rattle.book.specs.Book.{store}
use Rattle.key_filter.specs.Filter.{bit_of, may_hold}
use Rattle.key_filter.specs.Laws.{set_same, filters-grows, filters-after, filters-absent}
use Rattle.key_filter.proofs.Paths.{grows-set}
use Rattle.key_filter.proofs.insert.Goals as goal

pub returns-then-may_hold : goal.returns-then-may_hold
returns-then-may_hold c =
    let a = c.args in
    let p = c.requires in
    let f = c.insert.ensures in (
      f,
      filters-after a.g _ _ _ (store a.key.now a.command.now a.value.now a.expiry a.epoch) p.0
          (sym c.may_hold.ensures ∙ c.if-may_hold.true) (λ rows l. (f rows l).0) p.3,
    )

pub returns : goal.returns
returns c =
    let a = c.args in
    let p = c.requires in
    let n = c.note.ensures in
    let clear = filters-absent a.g _ _ a.key.now p.3
    (sym c.may_hold.ensures
    ∙ c.if-may_hold.false) in
    let f = c.insert_new.ensures in (
      λ rows l. f rows l (clear rows l),
      filters-after a.g _ _ _ (store a.key.now a.command.now a.value.now a.expiry a.epoch) p.0
          (ap (λ (t : List ℕ). may_hold t a.key.now) n ∙ set_same _ (bit_of a.key.now)) (λ rows l. (f rows l (clear rows l)).0)
          (filters-grows a.g _ _ _ (grows-set _ _ _ n) p.3),
    )
