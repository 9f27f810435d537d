-- What the code's paths come to: one law for each return of `may_hold` and `note`, and the turns of the two walks. Assumes nothing.
use mathlib.Core.Path.{◌≡◌, sym, ap, ◌∙◌, subst}
use Prim.Native.Nat.{ℕ, suc, ◌*◌, ◌/◌, ◌%◌, ◌^◌, ◌≤◌, ◌<◌}
use native.Mathlib.Omega.{arith}
use native.Mathlib.Nat.{mod-eq_of_lt, one-mul}
use lib.Pow.{pow-lt}
use mathlib.Core.Bool.{true}
use mathlib.Core.List.{List, ◌∷◌}
use lib.Bits.{bit_or}
use lib.Dec.{eqb, ltb}
use lib.ListN.{length, get_or, set}
use lib.Seq.{set_out}
use borrow.Author.Tests.{eqb-true, eqb-false, ltb-true, ltb-false, lt-ltb, le-ltb}
use Rattle.buffer.specs.Cases.{by_test}
use Rattle.buffer.specs.Same.{Bytes}
use Rattle.config.specs.declared.Settings.{Settings}
use Rattle.book.specs.Book.{Item, Row}
use Rattle.arena.specs.SetupOf.{setup_of}
use Rattle.sharded_lru.specs.Lent.{Lent}
use Rattle.key_filter.specs.Filter.{bit_of, is_set, set_bit, may_hold, Grows, Marked, Filters}
use Rattle.key_filter.specs.Laws.{set_same, set-grows, marked-grows}

-- ---- one bit

-- a bit set keeps the others
pub grows-set : (seen then : List ℕ) (b : ℕ) → then ≡ set_bit seen b → Grows seen then
grows-set seen then b e d h = ap (λ (t : List ℕ). is_set t d) e ∙ set-grows seen b d h

module _ (seen : List ℕ) (k : Bytes) (b : ℕ) (e : b ≡ bit_of k) where
  -- a bit past the table
  pub told-past : length seen ≤ b / 64 → true ≡ may_hold seen k
  unfolding is_set
  told-past l = sym (ap (is_set seen) (sym e) ∙ rw (le-ltb (b / 64) (length seen) l))

  -- and one in it
  pub told-bit : b / 64 < length seen → eqb (get_or seen (b / 64) 0 / 2 ^ (b % 64) % 2) 1 ≡ may_hold seen k
  unfolding is_set
  told-bit l = sym (ap (is_set seen) (sym e) ∙ rw (lt-ltb (b / 64) (length seen) l))

  -- a word that gets it
  pub noted-bit : (u : List ℕ) → u ≡ set seen (b / 64) (bit_or (get_or seen (b / 64) 0) (1 * 2 ^ (b % 64) % 2 ^ 64)) → u ≡ set_bit seen (bit_of k)
  unfolding set_bit
  noted-bit u q =
      let one : 1 * 2 ^ (b % 64) % 2 ^ 64 ≡ 2 ^ (b % 64) = ap (λ (n : ℕ). n % 2 ^ 64) (one-mul (2 ^ (b % 64)))
      ∙ mod-eq_of_lt (pow-lt {i = b % 64} {j = 64} (omega arith)) in
      q ∙ ap (λ (n : ℕ). set seen (b / 64) (bit_or (get_or seen (b / 64) 0) n)) one ∙ ap (set_bit seen) e

  -- no word has it
  pub noted-past : length seen ≤ b / 64 → seen ≡ set_bit seen (bit_of k)
  unfolding set_bit
  noted-past l = sym (ap (set_bit seen) (sym e) ∙ set_out seen (b / 64) _ l)

-- ---- the items of a shard

-- with the bits of those passed set, it takes those of the ones that are left
abbrev pub Left : List ℕ → Row → Row → Type 0
Left seen row left = (later : List ℕ) → Grows seen later → Marked later left → Marked later row

-- an item is passed
pub left-next : (seen then : List ℕ) (row back : Row) (it : Item) → then ≡ set_bit seen (bit_of it.key) → Left seen row (it ∷ back) → Left then row back
left-next seen then row back it e w later h m =
    let own : may_hold then it.key ≡ true = ap (λ (t : List ℕ). may_hold t it.key) e ∙ set_same seen (bit_of it.key) in
    w later (λ d z. h d (grows-set seen then (bit_of it.key) e d z)) (h (bit_of it.key) own, m)

-- ---- the shards of an arena

-- the bits of the first n shards are set
abbrev pub MarkedTo : Settings → Bytes → List ℕ → ℕ → Type 0
MarkedTo g s seen n = (rows : ℕ → Row) → Lent g s rows → (j : ℕ) → j < n → Marked seen (rows j)

-- one more
pub marked_next : (g : Settings) (s : Bytes) (seen then : List ℕ) (i n : ℕ) → n ≡ suc i → Grows seen then
    → ((rows : ℕ → Row) → Lent g s rows → Marked then (rows i)) → MarkedTo g s seen i → MarkedTo g s then n
marked_next g s seen then i n q h own w rows l j m =
    by_test (eqb j i)
    (λ e. subst (λ (x : ℕ). Marked then (rows x)) (sym (eqb-true j i e)) (own rows l))
    (λ e. marked-grows seen then (rows j) h (w rows l j (omega (arith, eqb-false j i e))))

-- all
pub marked_all : (g : Settings) (s : Bytes) (seen : List ℕ) (n : ℕ) → g.shards ≤ n → MarkedTo g s seen n → Filters g s seen
unfolding setup_of
marked_all g s seen n h w rows l j =
    by_test (ltb j n)
    (λ e. w rows l j (ltb-true j n e))
    (λ e. let z = ltb-false j n e in
    subst (Marked seen) (sym (l.image.formed.beyond j (omega arith))) tt)
