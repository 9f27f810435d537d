-- The oldest item of a row, and the walk to it: the item that it has come to, the next, the last. Assumes that the bytes hold a row.
use mathlib.Core.Path.{◌≡◌, refl, sym, ap, ◌∙◌, subst}
use Prim.Native.Nat.{ℕ, ◌+◌, ◌≤◌, ◌<◌}
use native.Mathlib.Omega.{arith}
use mathlib.Core.List.{[], ◌∷◌, ◌++◌}
use lib.ListN.{length}
use lib.Seq.{append_snoc}
use Rattle.buffer.specs.Same.{Bytes}
use Rattle.book.specs.Book.{Item, Row, without_oldest, row_bytes}
use Rattle.book.proofs.Rows.{oldest-goes}
use Rattle.arena.specs.Edit.{item_bytes, place_after}
use Rattle.arena.proofs.Pieces.{row_bytes-append}
use Rattle.shard.specs.Holds.{Holds, Stands, ItemAt}

-- an item of the row stands at `at`
pub record Standing (s : Bytes) (row : Row) (at : ℕ) : Type 0 where
  pub front : Row
  pub back : Row
  pub item : Item
  pub stands : Stands s at front back item
  pub splits : row ≡ front ++ (item ∷ back)

-- some item does, then
pub some_item : {s : Bytes} {row : Row} {at : ℕ} → Standing s row at → ItemAt s at
some_item t = record { front = t.front; back = t.back; item = t.item; stands = t.stands }

-- one does behind the items of `front`, as long as the row goes on
standing : {s : Bytes} {row : Row} {at : ℕ} (front back : Row) → Holds s row → row ≡ front ++ back → at ≡ place_after front → at < place_after row
    → Standing s row at
unfolding row_bytes
standing front [] h e p l = let b = ap row_bytes e ∙ row_bytes-append front [] in absurd (omega arith)
standing {s} front (it ∷ back) h e p l =
    record { front = front; back = back; item = it; stands = record { holds = subst (Holds s) e h; place = p }; splits = e }

-- the newest
pub newest-stands : {s : Bytes} {row : Row} → Holds s row → 16 < place_after row → Standing s row 16
unfolding row_bytes
newest-stands {s} {row} h l = standing [] row h refl refl l

-- the next older one
pub next-stands : {s : Bytes} {row : Row} {at : ℕ} (t : Standing s row at) (next : ℕ) → Holds s row → next ≡ at + item_bytes t.item
    → next < place_after row → Standing s row next
unfolding row_bytes
next-stands t next h e l =
    let p = t.stands.place in
    standing (t.front ++ (t.item ∷ [])) t.back h (t.splits ∙ sym (append_snoc t.front t.item t.back))
    (omega (arith, row_bytes-append t.front (t.item ∷ []))) l

-- the one at the end of the row is the oldest
pub oldest-stands : {s : Bytes} {row : Row} {at : ℕ} (t : Standing s row at) → place_after row ≤ at + item_bytes t.item
    → at ≡ place_after (without_oldest row)
unfolding row_bytes
oldest-stands {s} {row} {at} t l = go t.back t.splits
  where
    go : (back : Row) → row ≡ t.front ++ (t.item ∷ back) → at ≡ place_after (without_oldest row)
    go [] e = t.stands.place ∙ ap place_after (sym (ap without_oldest e ∙ oldest-goes t.front t.item))
    go (jt ∷ back) e =
        let p = t.stands.place in
        let b = ap row_bytes e ∙ row_bytes-append t.front (t.item ∷ (jt ∷ back)) in
        absurd (omega arith)

-- the walk has come to the item at `at`, behind which `next` is
pub record Reached (s : Bytes) (row : Row) (at next : ℕ) : Type 0 where
  pub standing : Standing s row at
  pub next-is : next ≡ at + item_bytes standing.item

-- the oldest item of a row that has one
pub record Last (row : Row) : Type 0 where
  pub item : Item
  pub splits : row ≡ without_oldest row ++ (item ∷ [])

-- such a row has one
pub last_of : (row : Row) → 1 ≤ length row → Last row
unfolding without_oldest
last_of [] l = absurd (omega arith)
last_of (it ∷ []) l = record { item = it; splits = refl }
last_of (it ∷ (older ∷ row)) l =
    let was : Last (older ∷ row) = last_of (older ∷ row) (omega arith) in
    record { item = was.item; splits = ap (λ (z : Row). it ∷ z) was.splits }

-- where it stands
pub last-stands : {s : Bytes} {row : Row} {at : ℕ} → Holds s row → (l : Last row) → at ≡ place_after (without_oldest row)
    → Stands s at (without_oldest row) [] l.item
last-stands {s} h l e = record { holds = subst (Holds s) l.splits h; place = e }
