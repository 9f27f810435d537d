-- A store to an item that is there: where the entry goes, and the sizes after it, read off the bytes. Assumes that the bytes hold a row.
use mathlib.Core.Path.{◌≡◌, refl, sym, ap, ◌∙◌}
use Prim.Native.Nat.{ℕ, ◌+◌, ◌≤◌}
use native.Mathlib.Omega.{arith}
use mathlib.Core.Option.{none}
use mathlib.Core.List.{List, [], ◌∷◌, ◌++◌, append-nil}
use lib.ListN.{length, length-append}
use Rattle.buffer.specs.Same.{Bytes}
use Rattle.buffer.specs.Field.{read32}
use Rattle.config.specs.Limits.{max_arena}
use Rattle.book.specs.Book.{Entry, Item, Row, value_for, entry_bytes, row_bytes}
use Rattle.arena.specs.Layout.{enc_shard}
use Rattle.arena.proofs.Image.{entries-few}
use Rattle.arena.specs.Edit.{item_bytes, place_after}
use Rattle.arena.specs.Pieces.{item_of}
use Rattle.arena.proofs.Pieces.{entry_bytes-append}
use Rattle.command_key.specs.Key.{key_bytes}
use Rattle.std.specs.Prelude.{Some, None}
use Rattle.shard.specs.Holds.{Stands}
use Rattle.shard.proofs.Fields.{fields, used-read}
use Rattle.shard_lookup.specs.Entries.{entry_size, entry_of, EntryStands}
use Rattle.shard_lookup.specs.Whole.{whole_key, whole-bytes}
use Rattle.shard_lookup.proofs.Entries.{stands-entry, CommandAt, command-at, no_value}
use Rattle.shard_write.specs.Places.{new_entry, entry_room, EntriesAt}
use Rattle.shard_write.proofs.Changes.{entry-space}
use Rattle.shard_store.specs.Replaces.{Replaces}

module _ {s : Bytes} {at from to added : ℕ} {front back : Row} {it : Item} {ef em eb : List Entry}
    (w : Replaces s at from to added front back it ef em eb) where
  -- the item with other entries
  abbrev row_with : List Entry → Row
  row_with es = front ++ (item_of it.key it.epoch it.expiry es ∷ back)

  -- the same in terms of the item's parts
  pub ranged : (end : ℕ) → end ≡ place_after (front ++ (it ∷ back))
      → EntriesAt s at from to end front back it.key it.epoch it.expiry ef em eb
  ranged end e =
      record {
        is = w.stands.holds.is ∙ ap (λ (es : List Entry). enc_shard (length s) (row_with es)) w.splits;
        place = w.stands.place;
        starts = w.starts;
        stops = w.stops;
        ends = e ∙ ap (λ (es : List Entry). place_after (row_with es)) w.splits;
      }

  -- what the code reads, and what it makes of that: the sizes after the store
  pub record Sizes (c v : Bytes) (x : ℕ) : Type 0 where
    pub after : at + 32 ≤ from
    pub range : to ≡ from + entry_bytes em
    pub inside : to ≤ 16 + read32 s 4
    pub room : 16 + read32 s 4 ≤ length s
    pub short : length s ≤ max_arena
    pub few : read32 s (at + 4) + added ≤ max_arena
    pub less : entry_bytes em ≤ read32 s (at + 24)
    pub within : read32 s (at + 24) ≤ read32 s 4
    pub count : read32 s (at + 4) + added ≡ length (ef ++ (new_entry c v ∷ eb))
    pub bytes : read32 s (at + 24) + entry_room c v ≡ entry_bytes (ef ++ (new_entry c v ∷ eb)) + entry_bytes em
    pub used : read32 s 4 + entry_room c v ≡ row_bytes (front ++ (item_of it.key it.epoch x (ef ++ (new_entry c v ∷ eb)) ∷ back)) + entry_bytes em

  -- for every command key, value and expiry
  pub sizes : (c v : Bytes) (x : ℕ) → Sizes c v x
  unfolding entry_bytes
  sizes c v x =
      let f = fields w.stands in
      let u = used-read w.stands.holds in
      let b₁ = ap entry_bytes w.splits ∙ entry_bytes-append ef (em ++ eb) in
      let b₂ = entry_bytes-append em eb in
      let b₃ = entry_bytes-append ef (new_entry c v ∷ eb) in
      let n₁ = ap length w.splits ∙ length-append ef (em ++ eb) in
      let n₂ = length-append em eb in
      let n₃ = length-append ef (new_entry c v ∷ eb) in
      let few = entries-few it.entries in
      let space = entry-space front back it.key it.epoch it.expiry x ef em eb (new_entry c v) in
      let was = ap (λ (es : List Entry). row_bytes (row_with es)) w.splits in
      let one = w.one in
      let starts = w.starts in
      let stops = w.stops in
      record {
        after = omega arith;
        range = stops;
        inside = omega arith;
        room = f.room;
        short = f.short;
        few = omega arith;
        less = omega arith;
        within = omega arith;
        count = omega arith;
        bytes = omega arith;
        used = omega arith;
      }

-- ---- the command's entry

module _ {s : Bytes} {at : ℕ} {front back : Row} {it : Item} (w : Stands s at front back it) where
  -- the command's entry in an item that stands at `at`
  pub set-in : (c : Bytes) {e : ℕ} → entry_of at (key_bytes c (whole_key c)) it ≡ Some e → CommandAt (at + 32 + length it.key) c it.entries e
  set-in c {e} q = command-at (at + 32 + length it.key) c it.entries e (rw (whole-bytes c) at q)

  -- it has none
  pub none_in : (c : Bytes) → entry_of at (key_bytes c (whole_key c)) it ≡ None → value_for c it.entries ≡ none
  none_in c q = no_value _ c it.entries (rw (whole-bytes c) at q)

  -- it stands in the bytes
  pub entry-of : {c : Bytes} {e : ℕ} (g : CommandAt (at + 32 + length it.key) c it.entries e) → EntryStands s e g.entry
  entry-of g =
      stands-entry {P = λ ens. Unit {0}} w
      (record { front = g.front; thing = g.entry; back = g.back; splits = g.splits; place = g.place; left = tt })

  -- it gives way
  pub at-replaces : {c : Bytes} {e : ℕ} (g : CommandAt (at + 32 + length it.key) c it.entries e) (to : ℕ) → to ≡ e + entry_size g.entry
      → Replaces s at e to 0 front back it g.front (g.entry ∷ []) g.back
  unfolding entry_bytes
  at-replaces g to q = record { stands = w; splits = g.splits; starts = g.place; stops = omega arith; one = refl }

  -- or the new one goes behind the others
  pub end-replaces : (to : ℕ) → to ≡ at + item_bytes it → Replaces s at to to 1 front back it it.entries [] []
  unfolding entry_bytes
  end-replaces to q = record { stands = w; splits = sym (append-nil it.entries); starts = omega arith; stops = omega arith; one = refl }

-- rows that differ in an item's entries alone are equal where those are
pub entries-same : (front back : Row) (it : Item) (x : ℕ) {ens enz : List Entry} → ens ≡ enz
    → front ++ (item_of it.key it.epoch x ens ∷ back) ≡ front ++ (item_of it.key it.epoch x enz ∷ back)
entries-same front back it x q = ap (λ (es : List Entry). front ++ (item_of it.key it.epoch x es ∷ back)) q
