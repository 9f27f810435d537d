-- A row with one item more: its bytes, and the shard that a new item is put in front of. Assumes that the row is within the shard's bytes, before and after.
use Rattle.std.specs.Prelude.{◌≡◌, ℕ, ◌+◌, ◌≤◌, [], ◌∷◌, ◌++◌, length}
use Rattle.std.proofs.Common.{arith, append-nil}
use Rattle.buffer.specs.Field.{le32}
use Rattle.buffer.specs.Move.{spliced}
use Rattle.buffer.specs.Part.{put}
use Rattle.book.specs.Book.{Item, Row, row_bytes}
use Rattle.arena.specs.Layout.{enc_item, enc_items, enc_shard}
use Rattle.arena.specs.Edit.{item_bytes, place_after}
use Rattle.arena.proofs.Edit.{items-replaced}
use Rattle.arena.proofs.Pieces.{row_bytes-append}

-- a row with one item more takes its bytes more
pub bytes-around : (front back : Row) (it : Item) → row_bytes (front ++ (it ∷ back)) ≡ item_bytes it + row_bytes (front ++ back)
unfolding row_bytes
bytes-around front back it = omega (arith, row_bytes-append front (it ∷ back), row_bytes-append front back)

-- one item
one-item : (it : Item) → enc_items (it ∷ []) ≡ enc_item it
unfolding enc_items
one-item it = append-nil (enc_item it)

-- an item is put in front, and the shard's count of items and bytes used written
pub pushed : (n : ℕ) (row : Row) (new : Item) → 16 + row_bytes row ≤ n → 16 + row_bytes (new ∷ row) ≤ n
    → put (put (spliced (enc_shard n row) 16 16 (place_after row) (enc_item new)) 0 (le32 (length (new ∷ row)))) 4 (le32 (row_bytes (new ∷ row)))
    ≡ enc_shard n (new ∷ row)
unfolding row_bytes
pushed n row new h l = rw (one-item new) at (items-replaced n [] [] row (new ∷ []) h l)
