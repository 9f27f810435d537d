-- Shards emptied one after the other: the rows of which the first so many are empty, and the entries that they had. Assumes nothing more than `Lent`.
use mathlib.Core.Path.{◌≡◌, refl, sym, ap, ◌∙◌, subst, fun_ext}
use Prim.Native.Nat.{ℕ, zero, suc, ◌+◌, ◌*◌, ◌≤◌, ◌<◌}
use native.Mathlib.Omega.{arith}
use mathlib.Core.Bool.{cond}
use mathlib.Core.List.{[]}
use lib.ListN.{length}
use lib.Dec.{eqb, ltb}
use borrow.Author.Tests.{eqb-true, eqb-false, ltb-true, ltb-false, lt-ltb, le-ltb}
use Rattle.buffer.specs.Cases.{by_test}
use Rattle.buffer.specs.Same.{Bytes}
use Rattle.config.specs.Limits.{max_arena}
use Rattle.config.specs.declared.Settings.{Settings}
use Rattle.book.specs.Book.{Row, row_entries, all_entries, invalidate_all, set_row}
use Rattle.book.proofs.SoundLaws.{sound-nil}
use Rattle.book.proofs.Trace.{row_here, row-elsewhere}
use Rattle.arena.specs.Layout.{enc_shard}
use Rattle.arena.specs.SetupOf.{setup_of}
use Rattle.shard.proofs.Fields.{all-few}
use Rattle.sharded_lru.specs.Lent.{setup_now, Lent, rows_after}
use Rattle.sharded_lru.specs.Laws.{ends-within}
use Rattle.sharded_lru.proofs.Parts.{lent_part, back_part, lent_back}

-- the rows with the first n empty
unfoldable pub cleared : ℕ → (ℕ → Row) → ℕ → Row
cleared n rows i = cond (ltb i n) [] (rows i)

cleared-none : (rows : ℕ → Row) → cleared 0 rows ≡ rows
unfolding cleared
cleared-none rows = fun_ext (λ i. rw (le-ltb i 0 (omega arith)))

-- the next one is as it was
pub cleared-here : (n : ℕ) (rows : ℕ → Row) → cleared n rows n ≡ rows n
unfolding cleared
cleared-here n rows = rw (le-ltb n n (omega arith))

cleared_more : (n : ℕ) (rows : ℕ → Row) → set_row n [] (cleared n rows) ≡ cleared (suc n) rows
unfolding cleared
cleared_more n rows =
    fun_ext
    (λ i.
    by_test (eqb i n)
    (λ e. let q = eqb-true i n e in
    ap (λ (j : ℕ). set_row n [] (cleared n rows) j) q ∙ row_here n [] (cleared n rows) ∙ sym (rw (lt-ltb i (suc n) (omega arith))))
    (λ e.
    let q = eqb-false i n e in
    row-elsewhere n i [] (cleared n rows) e
    ∙ by_test (ltb i n)
    (λ l. let h = ltb-true i n l in rw (l, lt-ltb i (suc n) (omega arith)))
    (λ l. let h = ltb-false i n l in rw (l, le-ltb i (suc n) (omega arith)))))

module _ (g : Settings) (s : Bytes) (rows : ℕ → Row) where
  -- none is empty yet
  pub clear_first : Lent g s rows → Lent g s (cleared 0 rows) × (0 ≡ all_entries 0 rows)
  unfolding all_entries
  clear_first w = (subst (Lent g s) (sym (cleared-none rows)) w, refl)

  -- one more
  pub clear_next : (i m n r from : ℕ) (t : Bytes) → Lent g s (cleared i rows) → n ≡ all_entries i rows → i < g.shards → m ≡ suc i → from ≡ i * g.bytes
      → t ≡ enc_shard (length (lent_part g s from)) [] → r ≡ row_entries (cleared i rows i)
      → Lent g (back_part g s from t) (cleared m rows) × (n + r ≡ all_entries m rows)
  unfolding all_entries
  clear_next i m n r from t w e h q a b c = (
    subst (Lent g (back_part g s from t)) (cleared_more i rows ∙ ap (λ (j : ℕ). cleared j rows) (sym q))
        (lent_back g s (cleared i rows) w i from h a [] t (record { sound = sound-nil (setup_now g) i; fits = tt }) b),
    let d : r ≡ row_entries (rows i) = c ∙ ap row_entries (cleared-here i rows) in
        let f : n + r ≡ row_entries (rows i) + all_entries i rows = omega arith in
        f ∙ ap (λ (j : ℕ). all_entries j rows) (sym q),
  )

  -- the entries of the first so many are no more than their bytes
  few : Lent g s rows → (i : ℕ) → all_entries i rows ≤ i * g.bytes
  unfolding all_entries setup_of
  few w zero = omega arith
  few w (suc i) =
      let l = (w.image.formed.fine i).sound.light in
      omega (arith, few w i, all-few (rows i))

  pub clear-bound : Lent g s rows → (i : ℕ) → i < g.shards → all_entries i rows + row_entries (rows i) ≤ max_arena
  unfolding setup_of
  clear-bound w i h =
      let l = (w.image.formed.fine i).sound.light in
      let z = ends-within g s rows w i h in
      let b = w.largest in
      omega (arith, few w i, all-few (rows i))

  -- all are
  pub clear-last : (s₀ : Bytes) → Lent g s₀ rows → (i n : ℕ) → Lent g s (cleared i rows) → n ≡ all_entries i rows → i ≡ g.shards
      → Lent g s (rows_after (setup_now g) invalidate_all rows) × (n ≡ all_entries g.shards rows)
  unfolding cleared rows_after setup_of
  clear-last s₀ w₀ i n w e q = (
    subst (Lent g s)
        (fun_ext
        (λ j.
        by_test (ltb j i)
        (λ l. rw l)
        (λ l. let h = ltb-false j i l in rw l (w₀.image.formed.beyond j (omega arith))))) w,
    e ∙ ap (λ (j : ℕ). all_entries j rows) q,
  )
