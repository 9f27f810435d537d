-- `store_update` meets its contract: the command's entry gives way, or the new one goes behind the others. Assumes nothing.
use native.Mathlib.Omega.{arith}
use mathlib.Core.Path.{refl, sym, ◌∙◌}
use mathlib.Core.List.{[], ◌∷◌}
use lib.ListN.{length}
use Rattle.arena.proofs.Stores.{set_new}
use Rattle.shard.proofs.Fields.{fields}
use Rattle.shard_lookup.specs.Whole.{whole_in}
use Rattle.shard_lookup.proofs.Entries.{entry-fields}
use Rattle.shard_store.proofs.Updates.{set-in, none_in, entry-of, at-replaces, end-replaces, entries-same}
use Rattle.shard_store.proofs.Cases.{same_rows}
use borrow.Author.Rules.{rules}
use Rattle.shard_store.proofs.store_update.Goals as goal

pub find_entry-requires : goal.find_entry-requires
find_entry-requires c = (c.requires.0, whole_in _)

pub entry_len-requires : goal.entry_len-requires
entry_len-requires c =
    let w = c.requires.0.stands in
    let g = set-in w c.args.command.now
    (sym (c.find_entry.ensures _ _ _ w) ∙ c.in-Some.is) in
    record { entry = g.entry; stands = entry-of w g }

pub overflow_add-to : goal.overflow_add-to
overflow_add-to c =
    let w = c.requires.0.stands in
    let g = set-in w c.args.command.now
    (sym (c.find_entry.ensures _ _ _ w) ∙ c.in-Some.is) in
    let e = c.entry_len.ensures g.entry (entry-of w g) in
    let f = entry-fields (entry-of w g) in
    omega arith

pub store_entry-requires : goal.store_entry-requires
store_entry-requires c =
    let w = c.requires.0.stands in
    let g = set-in w c.args.command.now
    (sym (c.find_entry.ensures _ _ _ w) ∙ c.in-Some.is) in
    let e = c.entry_len.ensures g.entry (entry-of w g) in (
      record { front = _; back = _; item = _; ef = g.front; em = g.entry ∷ []; eb = g.back; replaces = at-replaces w g _ (omega arith) },
      c.requires.1,
      c.requires.2,
    )

pub overflow_add-end : goal.overflow_add-end
overflow_add-end c =
    let w = c.requires.0.stands in
    let f = fields w in
    let e = c.item_len.ensures _ _ _ w in
    omega arith

pub store_entry-requires-in-None : goal.store_entry-requires-in-None
store_entry-requires-in-None c =
    let w = c.requires.0.stands in
    let e = c.item_len.ensures _ _ _ w in (
      record {
        front = _;
        back = _;
        item = _;
        ef = _;
        em = [];
        eb = [];
        replaces = end-replaces w _
            (omega arith);
      },
      c.requires.1,
      c.requires.2,
    )

pub returns-in-Some : goal.returns-in-Some
returns-in-Some c front back it w =
    let a = c.args in
    let g = set-in w a.command.now
    (sym (c.find_entry.ensures front back it w)
    ∙ c.in-Some.is) in
    let e = c.entry_len.ensures g.entry (entry-of w g) in
    let p = c.store_entry.ensures front back it g.front (g.entry ∷ []) g.back (at-replaces w g _ (omega arith)) in
    same_rows (length a.s.now) (entries-same front back it a.expiry (sym (g.set a.value.now))) refl p

pub returns-in-None : goal.returns-in-None
returns-in-None c front back it w =
    let a = c.args in
    let n = none_in w a.command.now
    (sym (c.find_entry.ensures front back it w)
    ∙ c.in-None.is) in
    let e = c.item_len.ensures front back it w in
    let p = c.store_entry-in-None.ensures front back it it.entries [] [] (end-replaces w _ (omega arith)) in
    same_rows (length a.s.now) (entries-same front back it a.expiry (sym (set_new a.command.now a.value.now it.entries n))) refl p
