-- A new item in front, and an entry set in an item, as the code writes them: what they make of a shard's bytes. Assumes that there is room.
use mathlib.Core.Path.{◌≡◌, sym, ap, ◌∙◌}
use Prim.Native.Nat.{ℕ, ◌+◌, ◌≤◌}
use native.Mathlib.Omega.{arith}
use mathlib.Core.List.{List, [], ◌∷◌, ◌++◌, append-nil}
use lib.ListN.{length}
use Rattle.buffer.specs.Same.{Bytes}
use Rattle.buffer.specs.Field.{le32, le64}
use Rattle.buffer.specs.Part.{put}
use Rattle.buffer.specs.Move.{resized, spliced, resized-put}
use Rattle.book.specs.Book.{Entry, Row, new_item, entry_bytes, row_bytes}
use Rattle.arena.specs.Layout.{enc_entry, enc_entries, enc_item, enc_shard}
use Rattle.arena.proofs.Length.{length-entry, length-item}
use Rattle.arena.specs.Edit.{place_after}
use Rattle.arena.proofs.Edit.{entries-replaced}
use Rattle.arena.proofs.Steps.{pushed}
use Rattle.arena.specs.Pieces.{item_of}
use Rattle.arena.proofs.Pieces.{row_bytes-append, entry_bytes-append}
use Rattle.shard_write.specs.Places.{new_entry, entry_room, item_room, Spliceable, Pushable, EntriesAt, Counts}
use Rattle.shard_write.specs.declared.Fields.{Fields}

-- room made and an entry written in it
pub entry-spliced : (s c v : Bytes) (from to end : ℕ) → Spliceable (length s) from to end (entry_room c v)
    → put (resized s from to end (entry_room c v)) from (enc_entry (new_entry c v)) ≡ spliced s from to end (enc_entry (new_entry c v))
entry-spliced s c v from to end g =
    let b : Bytes = enc_entry (new_entry c v) in
    let l : length b ≡ entry_room c v = length-entry (new_entry c v) in
    ap (λ (m : ℕ). put (resized s from to end m) from b) (sym l) ∙ resized-put s b from to end (omega arith)

-- room made and an item written in it
pub item-spliced : (s k c v : Bytes) (x e from to end : ℕ) → Spliceable (length s) from to end (item_room k c v)
    → put (resized s from to end (item_room k c v)) from (enc_item (new_item k c v x e)) ≡ spliced s from to end (enc_item (new_item k c v x e))
unfolding entry_bytes
item-spliced s k c v x e from to end g =
    let b : Bytes = enc_item (new_item k c v x e) in
    let l : length b ≡ item_room k c v = omega (arith, length-item (new_item k c v x e)) in
    ap (λ (m : ℕ). put (resized s from to end m) from b) (sym l) ∙ resized-put s b from to end (omega arith)

-- an item's bytes set before those of the others, and the shard's count of items and bytes used written
pub pushed_front : (s k c v : Bytes) (x e end count used : ℕ) (row : Row) → Spliceable (length s) 16 16 end (item_room k c v)
    → Pushable s end count used row (new_item k c v x e)
    → put (put (spliced s 16 16 end (enc_item (new_item k c v x e))) 0 (le32 count)) 4 (le32 used) ≡ enc_shard (length s) (new_item k c v x e ∷ row)
unfolding row_bytes entry_bytes
pushed_front s k c v x e end count used row g w =
    let ends = w.ends in
    (λ i. put (put (spliced (w.is i) 16 16 (ends i) (enc_item (new_item k c v x e))) 0 (le32 (w.items i))) 4 (le32 (w.bytes i)))
    ∙ pushed (length s) row (new_item k c v x e) (omega arith) (omega arith)

-- the bytes of a row in which some entries of an item gave way to one
pub entry-space : (front back : Row) (k : Bytes) (e x t : ℕ) (ef em eb : List Entry) (en : Entry)
    → row_bytes (front ++ (item_of k e t (ef ++ (en ∷ eb)) ∷ back)) + entry_bytes em
    ≡ row_bytes (front ++ (item_of k e x (ef ++ (em ++ eb)) ∷ back)) + entry_room en.command en.value
unfolding row_bytes entry_bytes
entry-space front back k e x t ef em eb en =
    omega (
      arith,
      row_bytes-append front (item_of k e t (ef ++ (en ∷ eb)) ∷ back),
      row_bytes-append front (item_of k e x (ef ++ (em ++ eb)) ∷ back),
      entry_bytes-append ef (en ∷ eb),
      entry_bytes-append ef (em ++ eb),
      entry_bytes-append em eb,
    )

-- an entry's bytes set in those of an item, and the fields written
pub entry_set : (s c v : Bytes) (at from to end : ℕ) (f : Fields) (front back : Row) (k : Bytes) (e x : ℕ) (ef em eb : List Entry)
    → Spliceable (length s) from to end (entry_room c v) → EntriesAt s at from to end front back k e x ef em eb
    → Counts f front back k e (ef ++ (new_entry c v ∷ eb))
    → put
    (put
    (put (put (spliced s from to end (enc_entry (new_entry c v))) (at + 4) (le32 f.count)) (at + 16) (le64 f.expiry))
    (at + 24)
    (le32 f.bytes))
    4
    (le32 f.used)
    ≡ enc_shard (length s) (front ++ (item_of k e f.expiry (ef ++ (new_entry c v ∷ eb)) ∷ back))
unfolding enc_entries
entry_set s c v at from to end f front back k e x ef em eb g w u =
    let one : enc_entry (new_entry c v) ≡ enc_entries (new_entry c v ∷ []) = sym (append-nil (enc_entry (new_entry c v))) in
    let starts : from ≡ place_after front + 32 + length k + entry_bytes ef = w.starts ∙ ap (λ (a : ℕ). a + 32 + length k + entry_bytes ef) w.place in
    let stops : to ≡ place_after front + 32 + length k + entry_bytes ef + entry_bytes em = w.stops ∙ ap (λ (a : ℕ). a + entry_bytes em) starts in
    (λ i. put
    (put
    (put (put (spliced (w.is i) (starts i) (stops i) (w.ends i) (one i)) (w.place i + 4) (le32 (u.count i))) (w.place i + 16) (le64 f.expiry))
    (w.place i + 24)
    (le32 (u.bytes i)))
    4
    (le32 (u.used i)))
    ∙ entries-replaced (length s) front back k e x f.expiry ef em eb (new_entry c v ∷ []) (before-fits) (after-fits)
  where
    before-fits : 16 + row_bytes (front ++ (item_of k e x (ef ++ (em ++ eb)) ∷ back)) ≤ length s
    before-fits = let a = w.ends in let b = g.ends in omega arith

    after-fits : 16 + row_bytes (front ++ (item_of k e f.expiry (ef ++ (new_entry c v ∷ eb)) ∷ back)) ≤ length s
    after-fits =
        let space = entry-space front back k e x f.expiry ef em eb (new_entry c v) in
        let a = w.starts in
        let b = w.stops in
        let d = w.ends in
        let r = g.room in
        let o = g.inside in
        omega arith
