-- A property of single items that holds of whatever is stored holds of every item in every book that events leave. Assumes nothing.
use Rattle.std.specs.Prelude.{◌≡◌, ℕ, Bool, eqb, leb, length}
use Rattle.std.proofs.Math.Path.{refl, subst}
use Rattle.std.proofs.Math.Bool.{true, false}
use Rattle.std.proofs.Math.Option.{Option, none, some, none-ne-some, some-injective}
use mathlib.Core.List.{[], ◌∷◌}
use Rattle.buffer.specs.Cases.{by_test}
use Rattle.buffer.specs.Same.{Bytes, same}
use Rattle.book.specs.Book.{Item, Row, Setup, Keyed, lookup, store, invalidate, find, without, replace, without_oldest, value_for, current}
use Rattle.book.specs.Book.{serve, lookup_item, updated, room_for_one, stored_row, if_fits, effect_on}
use Rattle.book.proofs.Rows.{found-key}
use Rattle.book.specs.Each.{Each, Brings}

module _ (P : Item → Type 0) where
  -- the item found has it
  pub each-find : (k : Bytes) (row : Row) (it : Item) → Each P row → find k row ≡ some it → P it
  unfolding find
  each-find k [] it w f = absurd (none-ne-some it f)
  each-find k (jt ∷ row) it w f =
      by_test (same k jt.key) (λ e. subst P (some-injective jt it (rw e at f)) w.0)
      (λ e. each-find k row it w.1 (rw e at f))

  -- items that stay keep the property
  each-without : (k : Bytes) (row : Row) → Each P row → Each P (without k row)
  unfolding without
  each-without k [] w = tt
  each-without k (it ∷ row) w =
      by_test (same k it.key) (λ e. rw e (each-without k row w.1)) (λ e. rw e (w.0, each-without k row w.1))

  -- one that is replaced is exchanged for one that has it
  each-replace : (k : Bytes) (new : Item) (row : Row) → P new → Each P row → Each P (replace k new row)
  unfolding replace
  each-replace k new [] n w = tt
  each-replace k new (it ∷ row) n w =
      by_test (same k it.key) (λ e. rw e (n, w.1)) (λ e. rw e (w.0, each-replace k new row n w.1))

  -- the oldest may go
  each-without_oldest : (row : Row) → Each P row → Each P (without_oldest row)
  unfolding without_oldest
  each-without_oldest [] w = tt
  each-without_oldest (it ∷ []) w = tt
  each-without_oldest (it ∷ (jt ∷ row)) w = (w.0, each-without_oldest (jt ∷ row) w.1)

  -- a lookup brings no item in
  each-lookup : (k c : Bytes) (t e : ℕ) (row : Row) → Each P row → (o : Option Item) → find k row ≡ o → Each P (lookup_item o k c t e row).row
  unfolding lookup_item serve
  each-lookup k c t e row w none f = w
  each-lookup k c t e row w (some it) f =
      by_test (current t e it) (λ l. rw l (at (value_for c it.entries))) (λ l. rw l (each-without k row w))
    where
      at : (o : Option Bytes) → Each P (serve o (it ∷ without k row)).row
      at none = (each-find k row it w f, each-without k row w)
      at (some v) = (each-find k row it w f, each-without k row w)

  -- a store brings in one that has it
  each-store : (n : ℕ) (k c v : Bytes) (x e : ℕ) (row : Row) → Brings P (store k c v x e) → Each P row
      → (o : Option Item) → find k row ≡ o → Each P (stored_row n o k c v x e row)
  unfolding stored_row room_for_one
  each-store n k c v x e row g w none f =
      by_test (leb n (length row)) (λ l. rw l (g.0, each-without_oldest row w)) (λ l. rw l (g.0, w))
  each-store n k c v x e row g w (some it) f =
      by_test (eqb e it.epoch)
      (λ l. rw l (each-replace k (updated c v x it) row (g.1 it (found-key k row it f) (each-find k row it w f)) w))
      (λ l. rw l (g.0, each-without k row w))

  -- or leaves the row as it was
  each-if_fits : (b : Bool) (new old : Row) → Each P new → Each P old → Each P (if_fits b new old).row
  unfolding if_fits
  each-if_fits true new old n w = n
  each-if_fits false new old n w = w

  -- an event keeps the property in its row
  pub each-effect_on : (p : Setup) (q : Keyed) (row : Row) → Brings P q → Each P row → Each P (effect_on p q row).row
  unfolding effect_on
  each-effect_on p (lookup k c t e) row g w = each-lookup k c t e row w (find k row) refl
  each-effect_on p (store k c v x e) row g w =
      each-if_fits _ (stored_row p.keys (find k row) k c v x e row) row
      (each-store p.keys k c v x e row g w (find k row) refl) w
  each-effect_on p (invalidate k) row g w = each-without k row w
