-- Entries of an item: where one stands, what is read in it, and the one that `entry_from` finds. Assumes that the bytes hold a row.
use mathlib.Core.Path.{◌≡◌, refl, sym, ap, ◌∙◌, subst}
use Prim.Native.Nat.{ℕ, ◌+◌, ◌-◌, ◌≤◌}
use native.Mathlib.Omega.{arith}
use mathlib.Core.Bool.{true, false}
use mathlib.Core.Option.{none, some}
use mathlib.Core.List.{List, [], ◌∷◌, ◌++◌, append_assoc}
use lib.ListN.{length, length-append}
use Rattle.buffer.specs.Cases.{by_test}
use Rattle.buffer.specs.Same.{Bytes, same}
use Rattle.buffer.specs.Field.{read_le, read32}
use Rattle.buffer.specs.FieldLaws.{read_past}
use Rattle.buffer.specs.Part.{part}
use Rattle.buffer.specs.PartLaws.{part-past, part-within}
use Rattle.book.specs.Book.{Entry, Item, Row, current, value_for, set_value, entry_bytes}
use Rattle.arena.specs.Layout.{item_head, enc_entry, enc_entries, enc_item}
use Rattle.arena.proofs.Length.{length-item_head, length-entry, length-entries, length-item}
use Rattle.arena.proofs.Pieces.{enc_entries-append, entry_bytes-append}
use Rattle.arena.proofs.Read.{command-length, value-length, entry-command, entry_value}
use Rattle.arena.specs.Edit.{item_bytes}
use Rattle.arena.specs.Place.{entries_place}
use Rattle.std.specs.Prelude.{Some, None}
use Rattle.shard_lookup.specs.declared.Reading.TheVariants.{Value}
use Rattle.shard_lookup.specs.Looked.{Reads}
use Rattle.shard.specs.Holds.{Stands}
use Rattle.shard_lookup.specs.Entries.{entry_size, entry_from, entry_of, EntryStands, EntryAt}
use Rattle.shard.proofs.Fields.{Pieces, pieces}
use Rattle.shard.proofs.Walk.{Counting, Here}

-- a walk over entries counts their bytes
pub entries-count : Counting entry_bytes
unfolding entry_bytes
entries-count = record { none = refl; some = λ en ens. omega arith; append = entry_bytes-append }

-- ---- what is read in an entry

pub record EntryFields (s : Bytes) (at : ℕ) (en : Entry) : Type 0 where
  pub command-len : read32 s at ≡ length en.command
  pub value_len : read32 s (at + 4) ≡ length en.value
  pub command : part s (at + 16) (length en.command) ≡ en.command
  pub ends : at + entry_size en ≤ length s
  pub short : length s ≤ 2147483648

pub entry-fields : {s : Bytes} {at : ℕ} {en : Entry} → EntryStands s at en → EntryFields s at en
entry-fields {s} {at} {en} w =
    let b = w.starts in
    let m = w.short in
    let l : length s ≡ length w.before + (length (enc_entry en) + length w.behind) = ap length w.is ∙ simp length-append in
    let n = length-entry en in
    let at-0 : at ≡ at + 0 = omega arith in
    record {
      command-len = ap (read_le 4 s) at-0 ∙ field 0 ∙ command-length en w.behind (omega arith);
      value_len = field 4 ∙ value-length en w.behind (omega arith);
      command =
          ap (λ (z : Bytes). part z (at + 16) (length en.command)) w.is ∙ part-past w.before _ at 16 _ w.starts ∙ entry-command en w.behind;
      ends = omega arith;
      short = w.short;
    }
  where
    -- a field of the entry is read in its own bytes
    field : (k : ℕ) → read_le 4 s (at + k) ≡ read_le 4 (enc_entry en ++ w.behind) k
    field k = ap (λ (z : Bytes). read_le 4 z (at + k)) w.is ∙ read_past 4 w.before _ at k w.starts

-- ---- an entry within its item

-- the bytes of the item before and behind it
record Within (it : Item) (ef : List Entry) (en : Entry) : Type 0 where
  pub before : Bytes
  pub behind : Bytes
  pub is : enc_item it ≡ before ++ (enc_entry en ++ behind)
  pub starts : length before ≡ 32 + length it.key + entry_bytes ef

within : (it : Item) (ef : List Entry) (en : Entry) (eb : List Entry) → it.entries ≡ ef ++ (en ∷ eb) → Within it ef en
unfolding enc_item enc_entries
within it ef en eb e =
    let H : Bytes = item_head (length it.key) (length it.entries) it.epoch it.expiry (entry_bytes it.entries) in
    record {
      before = H ++ (it.key ++ enc_entries ef);
      behind = enc_entries eb;
      is = ap (λ (z : Bytes). H ++ (it.key ++ z)) (ap enc_entries e ∙ enc_entries-append ef (en ∷ eb)) ∙ simp append_assoc;
      starts = simp (length-append, length-item_head, length-entries) (omega arith);
    }

-- it stands in the shard
entry-stands : {s : Bytes} {at e : ℕ} {front back : Row} {it : Item} → Stands s at front back it
    → (ef : List Entry) (en : Entry) (eb : List Entry) → it.entries ≡ ef ++ (en ∷ eb) → e ≡ at + 32 + length it.key + entry_bytes ef → EntryStands s e en
entry-stands {s} {at} {e} {front} {back} {it} w ef en eb q l =
    let p = pieces (length s) front back it w.holds.is w.place in
    let i = within it ef en eb q in
    let a = p.starts in
    let b = i.starts in
    record {
      before = p.before ++ i.before;
      behind = i.behind ++ p.behind;
      is = p.is ∙ ap (λ (z : Bytes). p.before ++ (z ++ p.behind)) i.is ∙ simp append_assoc;
      starts = simp length-append (omega arith);
      short = w.holds.short;
    }

-- so does the one that a walk has come to
pub stands-entry : {s : Bytes} {at e : ℕ} {front back : Row} {it : Item} {P : List Entry → Type 0} → Stands s at front back it
    → (t : Here entry_bytes (at + 32 + length it.key) it.entries e P) → EntryStands s e t.thing
stands-entry w t = entry-stands w t.front t.thing t.back t.splits t.place

pub there-entry : {s : Bytes} {at e : ℕ} {front back : Row} {it : Item} {P : List Entry → Type 0} → Stands s at front back it
    → Here entry_bytes (at + 32 + length it.key) it.entries e P → EntryAt s e
there-entry w t = record { entry = t.thing; stands = stands-entry w t }

-- its value is where its fields say
value-within : (it : Item) (ef : List Entry) (en : Entry) (eb : List Entry) → it.entries ≡ ef ++ (en ∷ eb) → (skip : ℕ)
    → skip ≡ 32 + length it.key + entry_bytes ef + (16 + length en.command)
    → (skip + length en.value ≤ item_bytes it) × (part (enc_item it) skip (length en.value) ≡ en.value)
value-within it ef en eb q skip l =
    let i = within it ef en eb q in
    let n = length-entry en in
    let m : length (enc_item it) ≡ length i.before + (length (enc_entry en) + length i.behind) = ap length i.is ∙ simp length-append in
    let k = length-item it in
    let b = i.starts in (
      omega arith,
      ap (λ (j : ℕ). part (enc_item it) j (length en.value)) l
          ∙ ap (λ (z : Bytes). part z (32 + length it.key + entry_bytes ef + (16 + length en.command)) (length en.value)) i.is
          ∙ part-past i.before _ _ (16 + length en.command) _ i.starts ∙ entry_value en i.behind,
    )

-- the item's bytes in the shard
pub part-item : {s : Bytes} {at : ℕ} {it : Item} → Pieces s at it → (skip len : ℕ) → skip + len ≤ item_bytes it
    → part s (at + skip) len ≡ part (enc_item it) skip len
part-item {s} {at} {it} p skip len h =
    let n = length-item it in
    ap (λ (z : Bytes). part z (at + skip) len) p.is ∙ part-past p.before _ at skip len p.starts
    ∙ part-within (enc_item it) p.behind skip len (omega arith)

-- ---- the command key's entry

pub entry_here : (at : ℕ) (c : Bytes) (en : Entry) (ens : List Entry) → same c en.command ≡ true → entry_from at c (en ∷ ens) ≡ Some at
unfolding entry_from
entry_here at c en ens e = rw e

pub entry_next : (at : ℕ) (c : Bytes) (en : Entry) (ens : List Entry) → same c en.command ≡ false
    → entry_from at c (en ∷ ens) ≡ entry_from (at + entry_size en) c ens
unfolding entry_from
entry_next at c en ens e = rw e

-- the entry found, among entries the first of which stands at `from`: what it serves, and what setting its value does
pub record CommandAt (from : ℕ) (c : Bytes) (ens : List Entry) (at : ℕ) : Type 0 where
  pub front : List Entry
  pub entry : Entry
  pub back : List Entry
  pub splits : ens ≡ front ++ (entry ∷ back)
  pub serves : value_for c ens ≡ some entry.value
  pub place : at ≡ from + entry_bytes front
  pub value-place : entries_place c ens ≡ entry_bytes front + (16 + length entry.command)
  pub set : (v : Bytes) → set_value c v ens ≡ front ++ (record { command = c; value = v } ∷ back)

pub command-at : (from : ℕ) (c : Bytes) (ens : List Entry) (at : ℕ) → entry_from from c ens ≡ Some at → CommandAt from c ens at
unfolding entry_from value_for set_value entry_bytes entries_place
command-at from c [] at e = let z : ◌≡◌ {A = ℕ} 0 1 = cc in absurd (omega arith)
command-at from c (en ∷ ens) at e =
    by_test (same c en.command)
    (λ q.
    let a : Some from ≡ Some at = rw q at e in
    let b : from ≡ at = cc in
    record { front = []; entry = en; back = ens; splits = refl; serves = rw q; place = omega arith; value-place = rw q (omega arith); set = λ v. rw q })
    (λ q.
    let was : CommandAt _ c ens at = command-at (from + entry_size en) c ens at (rw q at e) in
    let w = was.place in
    record {
      front = en ∷ was.front;
      entry = was.entry;
      back = was.back;
      splits = ap (λ (z : List Entry). en ∷ z) was.splits;
      serves = rw q was.serves;
      place = omega arith;
      value-place = let h = was.value-place in rw q (omega arith);
      set = λ v. rw q (ap (λ (z : List Entry). en ∷ z) (was.set v));
    })

-- what is read at the command key's entry, in the item at `at`
pub record ValueAt (s : Bytes) (at : ℕ) (it : Item) (c : Bytes) (e : ℕ) : Type 0 where
  pub entry : Entry
  pub fields : EntryFields s e entry
  pub after : at ≤ e
  pub reads : (t u skip len : ℕ) → current t u it ≡ true → skip ≡ e - at + 16 + length entry.command → len ≡ length entry.value
      → Reads t u c it (Value skip len)

pub value-at : {s : Bytes} {at e : ℕ} {front back : Row} {it : Item} {c : Bytes} → Stands s at front back it → entry_of at c it ≡ Some e → ValueAt s at it c e
value-at {s} {at} {e} {front} {back} {it} {c} w q =
    let g = command-at (at + 32 + length it.key) c it.entries e q in
    let p = g.place in
    record {
      entry = g.entry;
      fields = entry-fields (entry-stands w g.front g.entry g.back g.splits g.place);
      after = omega arith;
      reads = λ t u skip len r l m.
          let v = value-within it g.front g.entry g.back g.splits skip (omega arith) in (
            r,
            subst (λ (i : ℕ). skip + i ≤ item_bytes it) (sym m) v.0,
            g.serves ∙ ap some (sym (ap (λ (i : ℕ). part (enc_item it) skip i) m ∙ v.1)),
            let h = g.value-place in omega arith,
          );
    }

-- a command key with no place has no value
pub no_value : (from : ℕ) (c : Bytes) (ens : List Entry) → entry_from from c ens ≡ None → value_for c ens ≡ none
unfolding entry_from value_for
no_value from c [] e = refl
no_value from c (en ∷ ens) e =
    by_test (same c en.command)
    (λ q. let a : Some from ≡ None = rw q at e in let z : ◌≡◌ {A = ℕ} 0 1 = cc in absurd (omega arith))
    (λ q. rw q (no_value (from + entry_size en) c ens (rw q at e)))
