-- How many bytes each piece of the arena takes: what the book's space rule counts. Assumes nothing.
use Rattle.std.specs.Prelude.{◌≡◌, refl, ℕ, zero, suc, ◌+◌, ◌*◌, ◌≤◌, List, [], ◌∷◌, length}
use Rattle.std.proofs.Common.{arith, length-append}
use Rattle.std.proofs.lemmas.List.{length-replicate}
use Rattle.buffer.specs.Same.{Bytes}
use Rattle.buffer.specs.FieldLaws.{length-le}
use Rattle.book.specs.Book.{Setup, Entry, Item, Row, new_item, entry_bytes, row_bytes}
use Rattle.arena.specs.Layout.{head, item_head, enc_entry, enc_entries, enc_item, enc_items, enc_shard, enc_shards, encode}

pub length-head : (a b : ℕ) → length (head a b) ≡ 16
unfolding head
length-head a b = simp (length-append, length-le, length-replicate)

pub length-item_head : (key count epoch expiry bytes : ℕ) → length (item_head key count epoch expiry bytes) ≡ 32
unfolding item_head
length-item_head key count epoch expiry bytes = simp (length-append, length-le, length-replicate)

-- an entry's bytes are what the space rule counts for it (rule B9)
pub length-entry : (en : Entry) → length (enc_entry en) ≡ 16 + length en.command + length en.value
unfolding enc_entry
length-entry en = simp (length-append, length-head) (omega arith)

pub length-entries : (ens : List Entry) → length (enc_entries ens) ≡ entry_bytes ens
unfolding enc_entries entry_bytes
length-entries [] = refl
length-entries (en ∷ ens) = simp (length-append, length-entry) (omega (arith, length-entries ens))

-- and so are an item's
pub length-item : (it : Item) → length (enc_item it) ≡ 32 + length it.key + entry_bytes it.entries
unfolding enc_item
length-item it = simp (length-append, length-item_head, length-entries) (omega arith)

-- a row takes what the book counts
pub length-items : (row : Row) → length (enc_items row) ≡ row_bytes row
unfolding enc_items row_bytes
length-items [] = refl
length-items (it ∷ row) = simp (length-append, length-item) (omega (arith, length-items row))

-- P: key 3, command 6, value 7 bytes take 64, on the arena too
pub sixty-four : (k c v : Bytes) (x e : ℕ) → length k ≡ 3 → length c ≡ 6 → length v ≡ 7 → length (enc_item (new_item k c v x e)) ≡ 64
unfolding entry_bytes
sixty-four k c v x e a b d = omega (arith, length-item (new_item k c v x e))

-- a shard of n bytes has n bytes, where its row is within them
pub length-shard : (n : ℕ) (row : Row) → 16 + row_bytes row ≤ n → length (enc_shard n row) ≡ n
unfolding enc_shard
length-shard n row h = simp (length-append, length-head, length-items, length-replicate) (omega arith)

pub length-shards : (n m : ℕ) (rows : ℕ → Row) → ((i : ℕ) → 16 + row_bytes (rows i) ≤ n) → length (enc_shards n m rows) ≡ m * n
unfolding enc_shards
length-shards n zero rows h = omega arith
length-shards n (suc m) rows h = simp (length-append, length-shard n (rows m) (h m), length-shards n m rows h) (omega arith)

-- an arena of n bytes has n bytes, where it has that many for its shards and each row is within its shard's
pub length-encode : (p : Setup) (n : ℕ) (rows : ℕ → Row) → p.shards * p.bytes ≤ n → ((i : ℕ) → 16 + row_bytes (rows i) ≤ p.bytes)
    → length (encode p n rows) ≡ n
unfolding encode
length-encode p n rows e h = simp (length-append, length-shards p.bytes p.shards rows h, length-replicate) (omega arith)
