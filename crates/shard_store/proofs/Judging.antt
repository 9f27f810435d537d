-- The space rule, as the code tests it: what a store leaves where the row after it fits, and where it does not. Assumes nothing.
use mathlib.Core.Path.{◌≡◌}
use Prim.Native.Nat.{ℕ, ◌+◌, ◌-◌, ◌≤◌, ◌<◌}
use native.Mathlib.Omega.{arith}
use mathlib.Core.Bool.{true, false}
use mathlib.Core.List.{◌∷◌, ◌++◌}
use lib.ListN.{length, length-append}
use borrow.Author.Tests.{le-leb, lt-leb}
use Rattle.buffer.specs.Same.{Bytes}
use Rattle.book.specs.Book.{Item, Row, new_item, fits, if_fits, entry_bytes, row_bytes}
use Rattle.arena.specs.Layout.{enc_shard}
use Rattle.arena.specs.Edit.{item_bytes}
use Rattle.arena.proofs.Steps.{bytes-around}
use Rattle.shard_store.specs.Store.{judged, Leaves}
use Rattle.shard_write.specs.Places.{item_room}

module _ (s : Bytes) (new old : Row) where
  -- the row after the store does not fit, and nothing was changed
  pub refused : s ≡ enc_shard (length s) old → length s - 16 < row_bytes new → Leaves s s false (judged (length s) new old)
  unfolding fits if_fits
  refused is l =
      let t : fits (length s) new ≡ false = lt-leb _ _ l in
      record { answer = rw t; bytes = rw t is }

  -- it fits, and the bytes are its
  pub kept : (left : Bytes) → left ≡ enc_shard (length s) new → row_bytes new ≤ length s - 16 → Leaves s left true (judged (length s) new old)
  unfolding fits if_fits
  kept left is l =
      let t : fits (length s) new ≡ true = le-leb _ _ l in
      record { answer = rw t; bytes = rw t is }

-- the bytes of a row with a new item in front
pub front-space : (k c v : Bytes) (x e : ℕ) (row : Row) → row_bytes (new_item k c v x e ∷ row) ≡ item_room k c v + row_bytes row
unfolding row_bytes entry_bytes
front-space k c v x e row = omega arith

-- and where another item goes
pub instead-space : (k c v : Bytes) (x e : ℕ) (front back : Row) (it : Item)
    → row_bytes (new_item k c v x e ∷ (front ++ back)) + item_bytes it ≡ item_room k c v + row_bytes (front ++ (it ∷ back))
instead-space k c v x e front back it = omega (arith, front-space k c v x e (front ++ back), bytes-around front back it)

-- one item less where one goes
pub same_count : (front back : Row) (it : Item) → length (front ++ (it ∷ back)) ≡ 1 + length (front ++ back)
same_count front back it = simp length-append (omega arith)
