-- Items of a shard: the one that a walk has come to, and the one that `position_of` finds. Assumes that the bytes hold a row.
use mathlib.Core.Path.{◌≡◌, refl, ap, ◌∙◌, subst}
use Prim.Native.Nat.{ℕ, ◌+◌}
use native.Mathlib.Omega.{arith}
use mathlib.Core.Bool.{true, false}
use mathlib.Core.Option.{none, some}
use mathlib.Core.List.{[], ◌∷◌}
use Rattle.buffer.specs.Cases.{by_test}
use Rattle.buffer.specs.Same.{Bytes, same}
use Rattle.buffer.specs.SameLaws.{same-eq}
use Rattle.book.specs.Book.{Item, Row, find, without, replace, row_bytes}
use Rattle.book.proofs.Rows.{Place, without-absent}
use Rattle.book.specs.Sound.{Distinct}
use Rattle.arena.specs.Edit.{item_bytes}
use Rattle.std.specs.Prelude.{Some, None}
use Rattle.shard.specs.Holds.{Holds, Stands, ItemAt}
use Rattle.shard.specs.Position.{position_from, position_of}
use Rattle.shard.proofs.Walk.{Here}

-- ---- the item that a walk has come to

pub stands : {s : Bytes} {row : Row} {at : ℕ} {P : Row → Type 0} → Holds s row → (t : Here row_bytes 16 row at P) → Stands s at t.front t.back t.thing
stands {s} h t = record { holds = subst (Holds s) t.splits h; place = t.place }

pub there : {s : Bytes} {row : Row} {at : ℕ} {P : Row → Type 0} → Holds s row → Here row_bytes 16 row at P → ItemAt s at
there h t = record { front = t.front; back = t.back; item = t.thing; stands = stands h t }

-- ---- the key's item

-- an item that has the key is the one
pub position_here : (at : ℕ) (k : Bytes) (it : Item) (row : Row) → same k it.key ≡ true → position_from at k (it ∷ row) ≡ Some at
unfolding position_from
position_here at k it row e = rw e

-- one that does not is passed
pub position-next : (at : ℕ) (k : Bytes) (it : Item) (row : Row) → same k it.key ≡ false
    → position_from at k (it ∷ row) ≡ position_from (at + item_bytes it) k row
unfolding position_from
position-next at k it row e = rw e

-- the item found, in a row the first item of which stands at `from`
record Found (from : ℕ) (k : Bytes) (row : Row) (at : ℕ) : Type 0 where
  pub item : Item
  pub is : find k row ≡ some item
  pub place : Place k row item
  pub at-is : at ≡ from + row_bytes place.front

found : (from : ℕ) (k : Bytes) (row : Row) (at : ℕ) → Distinct row → position_from from k row ≡ Some at → Found from k row at
unfolding position_from find without replace row_bytes
found from k [] at d e = let z : ◌≡◌ {A = ℕ} 0 1 = cc in absurd (omega arith)
found from k (it ∷ row) at d e =
    by_test (same k it.key)
    (λ q.
    let a : Some from ≡ Some at = rw q at e in
    let b : from ≡ at = cc in
    record {
      item = it;
      is = rw q;
      place = record {
        front = [];
        back = row;
        splits = refl;
        gone = rw q (without-absent k row (ap (λ (z : Bytes). find z row) (same-eq k it.key q) ∙ d.0));
        replaced = λ new. rw q;
      };
      at-is = omega arith;
    })
    (λ q.
    let was : Found _ k row at = found (from + item_bytes it) k row at d.1 (rw q at e) in
    let w = was.at-is in
    record {
      item = was.item;
      is = rw q was.is;
      place = record {
        front = it ∷ was.place.front;
        back = was.place.back;
        splits = ap (λ (z : Row). it ∷ z) was.place.splits;
        gone = rw q (ap (λ (z : Row). it ∷ z) was.place.gone);
        replaced = λ new. rw q (ap (λ (z : Row). it ∷ z) (was.place.replaced new));
      };
      at-is = omega arith;
    })

-- the key's item, where it stands
pub record KeyAt (s k : Bytes) (row : Row) (at : ℕ) : Type 0 where
  pub item : Item
  pub is : find k row ≡ some item
  pub place : Place k row item
  pub stands : Stands s at place.front place.back item

pub key-at : {s : Bytes} {k : Bytes} {row : Row} {at : ℕ} → Holds s row → position_of k row ≡ Some at → KeyAt s k row at
key-at {s} {k} {row} {at} h e =
    let f = found 16 k row at h.distinct e in
    record {
      item = f.item;
      is = f.is;
      place = f.place;
      stands = record { holds = subst (Holds s) f.place.splits h; place = f.at-is };
    }

pub item-at : {s k : Bytes} {row : Row} {at : ℕ} → KeyAt s k row at → ItemAt s at
item-at g = record { front = g.place.front; back = g.place.back; item = g.item; stands = g.stands }

-- a key with no place has no item
pub no_item : (from : ℕ) (k : Bytes) (row : Row) → position_from from k row ≡ None → find k row ≡ none
unfolding position_from find
no_item from k [] e = refl
no_item from k (it ∷ row) e =
    by_test (same k it.key)
    (λ q. let a : Some from ≡ None = rw q at e in let z : ◌≡◌ {A = ℕ} 0 1 = cc in absurd (omega arith))
    (λ q. rw q (no_item (from + item_bytes it) k row (rw q at e)))
