-- Writes in a row, each behind the one before, are one: an entry, an item's head, an item of one entry. Assumes that there is room.
use mathlib.Core.Path.{◌≡◌, refl, ap, ◌∙◌}
use Prim.Native.Nat.{ℕ, ◌+◌, ◌≤◌}
use native.Mathlib.Omega.{arith}
use mathlib.Core.List.{◌++◌, append_assoc, append-nil}
use lib.ListN.{length, length-append}
use Rattle.buffer.specs.Same.{Bytes}
use Rattle.buffer.specs.Field.{le, le32, le64}
use Rattle.buffer.specs.Part.{put}
use Rattle.buffer.specs.PartLaws.{put-put}
use Rattle.book.specs.Book.{new_item, entry_bytes}
use Rattle.arena.specs.Layout.{head, item_head, enc_entry, enc_entries, enc_item}
use Rattle.arena.proofs.Length.{length-item_head}
use Rattle.shard_write.specs.Places.{new_entry, entry_room, item_room}

-- a write on what the writes before it left
pub written : {y z x : Bytes} (at : ℕ) (bs : Bytes) → y ≡ put z at bs → z ≡ x → y ≡ put x at bs
written at bs e q = e ∙ ap (λ (t : Bytes). put t at bs) q

-- an entry: its two lengths, 8 zero bytes, command key, value
pub entry-written : (s c v : Bytes) (at : ℕ) → at + entry_room c v ≤ length s
    → put (put (put (put (put s at (le32 (length c))) (at + 4) (le32 (length v))) (at + 8) (le64 0)) (at + 16) c) (at + 16 + length c) v
    ≡ put s at (enc_entry (new_entry c v))
unfolding enc_entry head le
entry-written s c v at h =
    let A : Bytes = le32 (length c) in
    let B : Bytes = le32 (length v) in
    let Z : Bytes = le64 0 in
    let lb : length (A ++ B) ≡ 8 = simp length-append in
    let lz : length ((A ++ B) ++ Z) ≡ 16 = simp length-append in
    let lc : length (((A ++ B) ++ Z) ++ c) ≡ 16 + length c = simp length-append in
    rw (
      put-put s A B at (at + 4) refl (omega arith),
      put-put s (A ++ B) Z at (at + 8) (omega arith) (omega arith),
      put-put s ((A ++ B) ++ Z) c at (at + 16) (omega arith) (omega arith),
      put-put s (((A ++ B) ++ Z) ++ c) v at (at + 16 + length c) (omega arith) (omega arith),
    )
    (ap (put s at) (simp append_assoc))

-- an item's head
pub head-written : (s : Bytes) (at key count epoch expiry bytes : ℕ) → at + 32 ≤ length s
    → put (put (put (put (put (put s at (le32 key)) (at + 4) (le32 count)) (at + 8) (le64 epoch)) (at + 16) (le64 expiry)) (at + 24) (le32 bytes))
    (at + 28) (le32 0)
    ≡ put s at (item_head key count epoch expiry bytes)
unfolding item_head le
head-written s at key count epoch expiry bytes h =
    let A : Bytes = le32 key in
    let B : Bytes = le32 count in
    let C : Bytes = le64 epoch in
    let D : Bytes = le64 expiry in
    let E : Bytes = le32 bytes in
    rw (
      put-put s A B at (at + 4) refl (omega arith),
      put-put s (A ++ B) C at (at + 8) (omega arith) (omega arith),
      put-put s ((A ++ B) ++ C) D at (at + 16) (omega arith) (omega arith),
      put-put s (((A ++ B) ++ C) ++ D) E at (at + 24) (omega arith) (omega arith),
      put-put s ((((A ++ B) ++ C) ++ D) ++ E) (le32 0) at (at + 28) (omega arith) (omega arith),
    )
    (ap (put s at) (simp append_assoc))

-- an item of one entry: head, key, entry
pub item-written : (s k c v : Bytes) (at x e : ℕ) → at + item_room k c v ≤ length s
    → put (put (put s at (item_head (length k) 1 e x (16 + length c + length v))) (at + 32) k) (at + 32 + length k) (enc_entry (new_entry c v))
    ≡ put s at (enc_item (new_item k c v x e))
unfolding enc_item enc_entries entry_bytes
item-written s k c v at x e h =
    let H : Bytes = item_head (length k) 1 e x (16 + length c + length v) in
    let b : 16 + length c + length v + 0 ≡ 16 + length c + length v = omega arith in
    let lh : length H ≡ 32 = length-item_head _ _ _ _ _ in
    let lk : length (H ++ k) ≡ 32 + length k = simp (length-append, length-item_head) in
    rw (
      b,
      put-put s H k at (at + 32) (omega arith) (omega arith),
      put-put s (H ++ k) (enc_entry (new_entry c v)) at (at + 32 + length k) (omega arith) (omega arith),
      append-nil (enc_entry (new_entry c v)),
      append_assoc H k (enc_entry (new_entry c v)),
    )
