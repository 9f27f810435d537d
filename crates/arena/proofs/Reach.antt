-- Every well-formed book is reached: single stores, shard by shard, leave its rows from a fresh book. Assumes of the rows that they are sound.
use Rattle.std.specs.Prelude.{◌≡◌, ℕ, zero, suc, ◌≤◌, ◌<◌, false, eqb}
use Rattle.std.proofs.Math.Path.{refl, ap}
use Rattle.std.proofs.Common.{sym, ◌∙◌, subst, arith, eqb-true, ne_eqb}
use mathlib.Core.List.{List, [], ◌∷◌, ◌++◌, map}
use Rattle.std.proofs.lemmas.Bool.{eqb-false}
use Rattle.buffer.specs.Cases.{by_test}
use Rattle.book.specs.Book.{Setup, Entry, Item, Row, Book, Counts, Keyed, key_of, effect_on, fresh, put, effect, after, after_all}
use Rattle.book.specs.Calls.{Call, single, ons, after_call, after_calls, call-defs}
use Rattle.book.specs.Each.{Each}
use Rattle.book.specs.Sound.{SoundItem, Sound}
use Rattle.book.proofs.Trace.{row_here, row-elsewhere}
use Rattle.format.specs.Runs.{all_append}
use Rattle.format.specs.Lists.{All}
use Rattle.arena.proofs.Stores.{storing, making, making-all, row_after, made}

-- the stores that make the first n rows
unfoldable pub building : ℕ → (ℕ → Row) → List Keyed
building zero rows = []
building (suc n) rows = building n rows ++ making (rows n)

-- what holds of every entry's store holds of those that make the rows
pub building-all : (P : Keyed → Type 0) (n : ℕ) (rows : ℕ → Row)
    → ((i : ℕ) → Each (λ it. All (λ en. P (storing it en)) it.entries) (rows i)) → All P (building n rows)
unfolding building
building-all P zero rows w = tt
building-all P (suc n) rows w = all_append P (building n rows) (making (rows n)) (building-all P n rows w) (making-all P (rows n) (w n))

-- each a call of its own
abbrev pub singles : List Keyed → List Call
singles qs = map single qs

-- ---- what such calls do to the book

module _ (p : Setup) where
  -- the book after single calls, in their order
  abbrev book : List Keyed → Book → Book
  book qs bk = after_calls p (singles qs) bk

  book-append : (xs ys : List Keyed) (bk : Book) → book (xs ++ ys) bk ≡ book ys (book xs bk)
  unfolding after_calls
  book-append [] ys bk = refl
  book-append (q ∷ xs) ys bk = book-append xs ys (after_call p (single q) bk)

  -- the key's shard is s
  abbrev In : ℕ → Keyed → Type 0
  In s q = p.shard_of (key_of q) ≡ s

  -- a single call changes its key's row as the book says
  row-changed : (s : ℕ) (q : Keyed) (bk : Book) → In s q → (after_call p (single q) bk).rows s ≡ (effect_on p q (bk.rows s)).row
  unfolding call-defs ons after_all after put effect
  row-changed s q bk e = rw e (row_here s (effect_on p q (bk.rows s)).row bk.rows)

  -- and no other
  row_stays : (s i : ℕ) (q : Keyed) (bk : Book) → In s q → eqb i s ≡ false → (after_call p (single q) bk).rows i ≡ bk.rows i
  unfolding call-defs ons after_all after put effect
  row_stays s i q bk e d = rw e (row-elsewhere s i (effect_on p q (bk.rows s)).row bk.rows d)

  -- calls of one shard do to its row what `row_after` says
  book-here : (s : ℕ) (qs : List Keyed) (bk : Book) → All (In s) qs → (book qs bk).rows s ≡ row_after p qs (bk.rows s)
  unfolding after_calls row_after
  book-here s [] bk w = refl
  book-here s (q ∷ qs) bk w = book-here s qs (after_call p (single q) bk) w.1 ∙ ap (row_after p qs) (row-changed s q bk w.0)

  -- and nothing to the others
  book-there : (s i : ℕ) (qs : List Keyed) (bk : Book) → All (In s) qs → eqb i s ≡ false → (book qs bk).rows i ≡ bk.rows i
  unfolding after_calls
  book-there s i [] bk w d = refl
  book-there s i (q ∷ qs) bk w d = book-there s i qs (after_call p (single q) bk) w.1 d ∙ row_stays s i q bk w.0 d

  -- ---- the rows that the stores leave

  entries-in : (s : ℕ) (it : Item) (ens : List Entry) → p.shard_of it.key ≡ s → All (λ en. In s (storing it en)) ens
  unfolding key_of
  entries-in s it [] e = tt
  entries-in s it (en ∷ ens) e = (e, entries-in s it ens e)

  items-in : (s : ℕ) (row : Row) → Each (SoundItem p s) row → Each (λ it. All (λ en. In s (storing it en)) it.entries) row
  items-in s [] w = tt
  items-in s (it ∷ row) w = (entries-in s it it.entries w.0.home, items-in s row w.1)

  module _ (lent : Counts) (rows : ℕ → Row) (w : (s : ℕ) → Sound p s (rows s)) where
    -- the book after the stores that make the first n rows
    abbrev built : ℕ → Book
    built n = book (building n rows) (fresh lent)

    -- those of the last row come last
    built-suc : (n i : ℕ) → (built (suc n)).rows i ≡ (book (making (rows n)) (built n)).rows i
    unfolding building
    built-suc n i = ap (λ (b : Book). b.rows i) (book-append (building n rows) (making (rows n)) (fresh lent))

    own : (n : ℕ) → All (In n) (making (rows n))
    own n = making-all (In n) (rows n) (items-in n (rows n) (w n).items)

    -- rows that are not yet made are empty
    pub not_yet : (n i : ℕ) → n ≤ i → (built n).rows i ≡ []
    not_yet zero i l = unfold building after_calls fresh in refl
    not_yet (suc n) i l =
        built-suc n i ∙ book-there n i (making (rows n)) (built n) (own n) (ne_eqb i n (λ e. omega arith)) ∙ not_yet n i (omega arith)

    -- and those that are made are the given ones
    pub reached : (n i : ℕ) → i < n → (built n).rows i ≡ rows i
    reached zero i l = absurd (omega arith)
    reached (suc n) i l =
        by_test (eqb i n)
        (λ e. subst (λ (z : ℕ). (built (suc n)).rows z ≡ rows z) (sym (eqb-true i n e)) last)
        (λ e.
        built-suc n i ∙ book-there n i (making (rows n)) (built n) (own n) e
        ∙ reached n i (let ne = eqb-false i n e in omega arith))
      where
        last : (built (suc n)).rows n ≡ rows n
        last =
            built-suc n n ∙ book-here n (making (rows n)) (built n) (own n) ∙ ap (row_after p (making (rows n))) (not_yet n n (omega arith))
            ∙ made p n (rows n) (w n)
