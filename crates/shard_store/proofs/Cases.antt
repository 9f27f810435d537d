-- The book's store by cases, and what it leaves. Assumes nothing.
use mathlib.Core.Path.{◌≡◌, sym, ap, ap₂, ◌∙◌}
use Prim.Native.Nat.{ℕ, ◌≤◌, ◌<◌}
use mathlib.Core.Bool.{Bool}
use mathlib.Core.Option.{none, some}
use mathlib.Core.List.{◌∷◌, ◌++◌}
use lib.ListN.{length}
use borrow.Author.Tests.{le-leb, lt-leb, eq-eqb, ne_eqb}
use Rattle.buffer.specs.Same.{Bytes}
use Rattle.book.specs.Book.{Item, Row, find, without_oldest, new_item, updated, room_for_one, stored_row}
use Rattle.book.proofs.Rows.{Place}
use Rattle.arena.specs.Layout.{enc_shard}
use Rattle.shard_store.specs.Store.{judged, Leaves}

-- rows that are equal
pub same_rows : {s t : Bytes} {r : Bool} (n : ℕ) {new new₂ old old₂ : Row} → new ≡ new₂ → old ≡ old₂ → Leaves s t r (judged n new old)
    → Leaves s t r (judged n new₂ old₂)
same_rows {s} {t} {r} n p q w =
    record {
      answer = w.answer ∙ ap₂ (λ (a b : Row). (judged n a b).answer) p q;
      bytes = w.bytes ∙ ap₂ (λ (a b : Row). enc_shard (length s) (judged n a b).row) p q;
    }

module _ (n : ℕ) (k c v : Bytes) (x e : ℕ) (row : Row) where
  -- an item of this epoch is changed in its place (rule B7)
  pub case-update : (it : Item) (g : Place k row it) → find k row ≡ some it → e ≡ it.epoch
      → g.front ++ (updated c v x it ∷ g.back) ≡ stored_row n (find k row) k c v x e row
  unfolding stored_row
  case-update it g f q = rw f (rw (eq-eqb e it.epoch q) (sym (g.replaced (updated c v x it))))

  -- one of another epoch makes way for a new item in front (rule B8)
  pub case-replace : (it : Item) (g : Place k row it) → find k row ≡ some it → (e ≡ it.epoch → ⊥)
      → new_item k c v x e ∷ (g.front ++ g.back) ≡ stored_row n (find k row) k c v x e row
  unfolding stored_row
  case-replace it g f q = rw f (rw (ne_eqb e it.epoch q) (ap (λ (z : Row). new_item k c v x e ∷ z) (sym g.gone)))

  -- no item, and room for one more key
  pub case-new : find k row ≡ none → length row < n → new_item k c v x e ∷ row ≡ stored_row n (find k row) k c v x e row
  unfolding stored_row room_for_one
  case-new f l = rw f (rw (lt-leb n (length row) l))

  -- no item, and a full shard: the oldest makes way (rule B8)
  pub case-evict : find k row ≡ none → n ≤ length row → new_item k c v x e ∷ without_oldest row ≡ stored_row n (find k row) k c v x e row
  unfolding stored_row room_for_one
  case-evict f l = rw f (rw (le-leb n (length row) l))
