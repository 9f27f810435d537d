-- What a filter that tells of an arena is good for, and what keeps it true: a set bit, and every lookup, store of a key that it knows, and invalidation.
-- Assumes nothing.
use Rattle.std.specs.Prelude.{◌≡◌, refl, ℕ, ◌/◌, ◌%◌, ◌^◌, ◌≤◌, ◌<◌, max, true, false, List, [], ◌∷◌, eqb, ltb, length, get_or, set}
use Rattle.std.proofs.Common.{sym, ap, ◌∙◌, subst, arith, pow_pos, true≢false, length-set, get_or-set_same, get_or-set_other, eqb-true, eq-eqb, ltb-true, le-ltb}
use Rattle.std.proofs.Math.Nat.{div_self, max-le, le-max_left, le-max_right}
use Rattle.std.proofs.Math.Option.{none}
use Rattle.std.specs.Int.Bits.{bit_or, or_step}
use Rattle.std.proofs.lemmas.Nat.{or_shr}
use Rattle.std.proofs.lemmas.Bool.{eqb-false}
use Rattle.buffer.specs.Cases.{by_test}
use Rattle.buffer.specs.Same.{Bytes, same}
use Rattle.buffer.specs.SameLaws.{same-eq}
use Rattle.config.specs.declared.Settings.{Settings}
use Rattle.siphash.specs.Shard.{shard_of}
use Rattle.book.specs.Book.{Setup, Row, Keyed, lookup, store, invalidate, key_of, on, find, set_row}
use Rattle.book.specs.Each.{Brings}
use Rattle.book.proofs.EachLaws.{each-effect_on}
use Rattle.book.proofs.Trace.{row_here, row-elsewhere}
use Rattle.sharded_lru.specs.Lent.{setup_now, Lent, Arena, effect_in, rows_after}
use Rattle.sharded_lru.specs.Laws.{lent_same}
use Rattle.key_filter.specs.Filter.{bit_of, is_set, set_bit, may_hold, Grows, Marked, Covers, Filters}

-- ---- bits

-- the last bit of two words together, where either has it
or-odd : (x y : ℕ) → 1 ≤ max (x % 2) (y % 2) → bit_or x y % 2 ≡ 1
or-odd x y l =
    let e = or_step x y in
    let m : max (x % 2) (y % 2) ≤ 1 = max-le (omega arith) (omega arith) in
    omega arith

-- a bit that the first has
or_left : (a b j : ℕ) → a / 2 ^ j % 2 ≡ 1 → bit_or a b / 2 ^ j % 2 ≡ 1
or_left a b j h =
    let l = le-max_left (a / 2 ^ j % 2) (b / 2 ^ j % 2) in
    ap (λ (n : ℕ). n % 2) (or_shr a b j) ∙ or-odd (a / 2 ^ j) (b / 2 ^ j) (omega arith)

-- the bit that the second is
or-bit : (a j : ℕ) → bit_or a (2 ^ j) / 2 ^ j % 2 ≡ 1
or-bit a j =
    let o : 2 ^ j / 2 ^ j ≡ 1 = div_self (pow_pos j) in
    let l = le-max_right (a / 2 ^ j % 2) (2 ^ j / 2 ^ j % 2) in
    ap (λ (n : ℕ). n % 2) (or_shr a (2 ^ j) j) ∙ or-odd (a / 2 ^ j) (2 ^ j / 2 ^ j) (omega arith)

-- the bit that is set is set
pub set_same : (seen : List ℕ) (b : ℕ) → is_set (set_bit seen b) b ≡ true
unfolding is_set set_bit
set_same seen b =
    let w = bit_or (get_or seen (b / 64) 0) (2 ^ (b % 64)) in
    by_test (ltb (b / 64) (length (set seen (b / 64) w)))
    (λ l.
    let h : b / 64 < length seen = subst (λ (n : ℕ). b / 64 < n) (length-set seen (b / 64) w) (ltb-true _ _ l) in
    rw (l, get_or-set_same seen (b / 64) w 0 h) (eq-eqb _ 1 (or-bit (get_or seen (b / 64) 0) (b % 64))))
    (λ l. rw l)

-- the others stay
pub set-grows : (seen : List ℕ) (b : ℕ) → Grows seen (set_bit seen b)
unfolding is_set set_bit
set-grows seen b d h =
    let w = bit_or (get_or seen (b / 64) 0) (2 ^ (b % 64)) in
    by_test (ltb (d / 64) (length seen))
    (λ l.
    let was : get_or seen (d / 64) 0 / 2 ^ (d % 64) % 2 ≡ 1 = eqb-true _ 1 (rw l at h) in
    rw (length-set seen (b / 64) w, l)
    (by_test (eqb (d / 64) (b / 64))
    (λ e.
    let q : d / 64 ≡ b / 64 = eqb-true _ _ e in
    let v : get_or (set seen (b / 64) w) (d / 64) 0 ≡ w =
    ap (λ (n : ℕ). get_or (set seen (b / 64) w) n 0) q ∙ get_or-set_same seen (b / 64) w 0 (subst (λ (n : ℕ). n < length seen) q (ltb-true _ _ l)) in
    eq-eqb _ 1 (ap (λ (n : ℕ). n / 2 ^ (d % 64) % 2) v
    ∙ or_left (get_or seen (b / 64) 0) (2 ^ (b % 64)) (d % 64) (ap (λ (n : ℕ). get_or seen n 0 / 2 ^ (d % 64) % 2) (sym q) ∙ was)))
    (λ e.
    eq-eqb _ 1 (ap (λ (n : ℕ). n / 2 ^ (d % 64) % 2) (get_or-set_other seen (b / 64) (d / 64) w 0 (eqb-false _ _ e)) ∙ was))))
    (λ l. rw (length-set seen (b / 64) w, l))

-- ---- rows

-- a key whose bit is clear has no item
pub marked-absent : (seen : List ℕ) (k : Bytes) (row : Row) → Marked seen row → may_hold seen k ≡ false → find k row ≡ none
unfolding find
marked-absent seen k [] w h = refl
marked-absent seen k (it ∷ row) w h =
    by_test (same k it.key)
    (λ e. absurd (true≢false (sym (ap (may_hold seen) (same-eq k it.key e) ∙ w.0) ∙ h)))
    (λ e. rw e (marked-absent seen k row w.1 h))

-- more bits mark as much
pub marked-grows : (old new : List ℕ) (row : Row) → Grows old new → Marked old row → Marked new row
marked-grows old new [] g w = tt
marked-grows old new (it ∷ row) g w = (g (bit_of it.key) w.0, marked-grows old new row g w.1)

-- the key of a store, whose bit has to be set; no other event brings a key
abbrev pub Knows : List ℕ → Keyed → Type 0
Knows seen (lookup k c t e) = Unit {0}
Knows seen (store k c v x e) = may_hold seen k ≡ true
Knows seen (invalidate k) = Unit {0}

brings : (seen : List ℕ) (q : Keyed) → Knows seen q → Brings (λ it. may_hold seen it.key ≡ true) q
brings seen (lookup k c t e) h = tt
brings seen (store k c v x e) h = (h, λ it n w. w)
brings seen (invalidate k) h = tt

-- the rows after such an event are covered
pub covers-after : (p : Setup) (seen : List ℕ) (q : Keyed) (rows : ℕ → Row) → Knows seen q → Covers seen rows → Covers seen (rows_after p (on q) rows)
unfolding rows_after
covers-after p seen q rows h w i =
    let home : ℕ = p.shard_of (key_of q) in
    by_test (eqb i home)
    (λ e.
    subst (λ (n : ℕ). Marked seen (set_row home (effect_in p q rows).row rows n)) (sym (eqb-true i home e))
    (rw row_here (each-effect_on (λ it. may_hold seen it.key ≡ true) p q (rows home) (brings seen q h) (w home))))
    (λ e. rw (row-elsewhere home i (effect_in p q rows).row rows e) (w i))

-- ---- arenas

-- so it is enough to look at rows that are at hand
pub filters-one : (g : Settings) (s : Bytes) (rows : ℕ → Row) (seen : List ℕ) → Lent g s rows → Covers seen rows → Filters g s seen
filters-one g s rows seen l w others m = subst (Covers seen) (lent_same l m) w

-- the table of no words tells of every arena
pub filters-none : (g : Settings) (s : Bytes) → Filters g s []
unfolding is_set
filters-none g s rows l i = every (rows i)
  where
    every : (row : Row) → Marked [] row
    every [] = tt
    every (it ∷ row) = (rw (le-ltb (bit_of it.key / 64) 0 (omega arith)), every row)

-- more bits tell as much
pub filters-grows : (g : Settings) (s : Bytes) (old new : List ℕ) → Grows old new → Filters g s old → Filters g s new
filters-grows g s old new h f rows l i = marked-grows old new (rows i) h (f rows l i)

-- the filter tells of the arena that an event leaves
pub filters-after : (g : Settings) (s t : Bytes) (seen : List ℕ) (q : Keyed) → Arena g s → Knows seen q
    → ((rows : ℕ → Row) → Lent g s rows → Lent g t (rows_after (setup_now g) (on q) rows)) → Filters g s seen → Filters g t seen
filters-after g s t seen q a h f w =
    filters-one g t (rows_after (setup_now g) (on q) a.rows) seen (f a.rows a.lent)
    (covers-after (setup_now g) seen q a.rows h (w a.rows a.lent))

-- a key whose bit is clear has no item in its shard
pub filters-absent : (g : Settings) (s : Bytes) (seen : List ℕ) (k : Bytes) → Filters g s seen → may_hold seen k ≡ false → (rows : ℕ → Row) → Lent g s rows
    → find k (rows (shard_of k g.shards)) ≡ none
filters-absent g s seen k f h rows l = marked-absent seen k (rows (shard_of k g.shards)) (f rows l (shard_of k g.shards)) h
