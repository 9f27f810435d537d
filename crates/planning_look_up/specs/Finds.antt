-- What one lookup finds, and that it changes no other's answer: a planning's lookups share clock and epoch, so each key's place stays what it was on the
-- rows before. Assumes nothing.
-- Letters: g settings, p setup, t clock, e epoch, w and u keys with their command keys, a the arena's bytes, n the counts.
use Rattle.std.specs.Prelude.{◌≡◌, refl, ℕ}
use Rattle.std.proofs.Math.Path.{sym, ap}
use Rattle.std.proofs.Common.{◌∙◌}
use mathlib.Core.List.{List, [], ◌∷◌}
use Rattle.buffer.specs.Same.{Bytes}
use Rattle.config.specs.declared.Settings.{Settings}
use Rattle.statistics.specs.OfBook.{counts_of}
use Rattle.statistics.specs.declared.Statistics.{Statistics}
use Rattle.book.specs.Book.{Setup, Book, Row, Answer, lookup, on, after, after_all, answers}
use Rattle.book.specs.Calls.{Wanted, lookups, ons}
use Rattle.book.specs.Lookups.{dry}
use Rattle.book.proofs.Lookups.{planned}
use Rattle.planning.specs.Outcome as plan
use Rattle.sharded_lru.specs.Laws.{lent_same}
use Rattle.sharded_lru.specs.Lent.{setup_now, Lent}
use Rattle.planning_outcome.specs.Result.{said_on, place_on, PlaceTold}
use Rattle.planning_outcome.specs.Places.{said-dry}
use Rattle.planning_look_up.specs.Looks.{Looks}
use Rattle.planning_look_up.specs.declared.Found.{Found}

-- the lookup is done, and what is told is the key's place on the rows before
pub record Finds (g : Settings) (t e : ℕ) (w : Wanted) (a : Bytes) (n : Statistics) (a₁ : Bytes) (r : Found) : Type 0 where
  pub looks : Looks g t e (w ∷ []) a n a₁ r.counts
  pub told : (rows : ℕ → Row) → Lent g a rows → PlaceTold a₁ w (place_on (setup_now g) rows t e w) r.looked

module _ (p : Setup) (t e : ℕ) where
  -- a lookup changes no answer
  pub dry-one : (w : Wanted) (bk : Book) (us : List Wanted) → dry p (after p (on (lookup w.key w.command t e)) bk) t e us ≡ dry p bk t e us
  unfolding answers ons lookups dry
  dry-one w bk us =
      let x = planned p t e (w ∷ us) bk in
      let y : answers p (ons (lookups t e us)) (after p (on (lookup w.key w.command t e)) bk) ≡ dry p bk t e us = cc in
      sym (planned p t e us (after p (on (lookup w.key w.command t e)) bk)) ∙ y

  -- and so no place
  place-one : (w : Wanted) (bk : Book) (u : Wanted) → place_on p (after p (on (lookup w.key w.command t e)) bk).rows t e u ≡ place_on p bk.rows t e u
  unfolding place_on said_on plan.place
  place-one w bk u =
      let b : Book = after p (on (lookup w.key w.command t e)) bk in
      ap (λ (l : List Answer). plan.place l u) (sym (said-dry p b t e (u ∷ [])) ∙ dry-one w bk (u ∷ []) ∙ said-dry p bk t e (u ∷ []))

-- on the arena that a lookup leaves
pub place-steady : (g : Settings) (t e : ℕ) (w : Wanted) (a a₁ : Bytes) (n n₁ : Statistics) → Looks g t e (w ∷ []) a n a₁ n₁ → (rows rows₁ : ℕ → Row)
    → Lent g a rows
    → Lent g a₁ rows₁ → (u : Wanted) → place_on (setup_now g) rows₁ t e u ≡ place_on (setup_now g) rows t e u
unfolding after_all ons lookups
place-steady g t e w a a₁ n n₁ x rows rows₁ o o₁ u =
    let bk : Book = record { rows = rows; counts = counts_of n; next = 0 } in
    let k : Lent g a₁ (after (setup_now g) (on (lookup w.key w.command t e)) bk).rows = (x bk (record { rows = o; counts = refl })).rows in
    ap (λ (z : ℕ → Row). place_on (setup_now g) z t e u) (sym (lent_same k o₁)) ∙ place-one (setup_now g) t e w bk u
