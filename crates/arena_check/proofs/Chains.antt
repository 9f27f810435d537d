-- Keys among those before a thing, and the chains of those that share a mark: one law for each step of the code. Assumes nothing.
use mathlib.Core.Path.{◌≡◌, refl, sym, ap, ◌∙◌, subst}
use Prim.Native.Nat.{ℕ, zero, suc, ◌+◌, ◌-◌, ◌≤◌, ◌<◌}
use native.Mathlib.Omega.{arith}
use mathlib.Core.Bool.{Bool, true, false, true≢false, false≢true}
use mathlib.Core.List.{List}
use lib.ListN.{length, get_or, set, length-set}
use lib.Seq.{get_or-set_same, get_or-set_other}
use lib.Dec.{eqb, ltb}
use borrow.Author.Tests.{eqb-true, eqb-false, ltb-true, ltb-false}
use Rattle.buffer.specs.Cases.{by_test}
use Rattle.buffer.specs.Same.{Bytes, same}
use Rattle.buffer.specs.SameLaws.{unequal-same}
use Rattle.buffer.specs.Field.{read32}
use Rattle.arena_check.specs.Walk.{nth, before}
use Rattle.arena_check.specs.Check.{key_in, next_in}
use Rattle.arena_check.specs.Chain.{Stand, keys_from, Apart, Twice, Among, Latest, Chains, Linked, Tables}

-- a thing that stands among others is within the bytes
pub stands_at : (h f : ℕ) (s : Bytes) (n first at i : ℕ) → Stand h f s n first → at ≡ nth (next_in h f s) i first → i < n → next_in h f s at ≤ length s
stands_at h f s n first at i w p l = subst (λ (j : ℕ). next_in h f s j ≤ length s) (sym p) (w.0 i l)

-- ---- what the comparison with all before says

module _ (key_at : ℕ → Bytes) (next : ℕ → ℕ) (first : ℕ) where
  -- the key of the t-th thing
  abbrev pub key_of : ℕ → Bytes
  key_of t = key_at (nth next t first)

  -- the first of those from the k-th on, or a later one
  later : (k m t : ℕ) → k ≤ t → t < k + suc m → (t ≡ k → ⊥) → (suc k ≤ t) × (t < suc k + m)
  later k m t p q f = by_test (eqb t k) (λ z. absurd (f (eqb-true t k z))) (λ z. (omega (arith, eqb-false t k z), omega arith))

  none_from : (k m at : ℕ) → before key_at next m (nth next k first) at ≡ false → (t : ℕ) → k ≤ t → t < k + m → same (key_of t) (key_at at) ≡ false
  unfolding before nth
  none_from k zero at b t p q = absurd (omega arith)
  none_from k (suc m) at b t p q =
      by_test (same (key_of k) (key_at at))
      (λ e. absurd (true≢false (rw e at b)))
      (λ e.
      by_test (eqb t k)
      (λ z. subst (λ (i : ℕ). same (key_of i) (key_at at) ≡ false) (sym (eqb-true t k z)) e)
      (λ z. let l = later k m t p q (eqb-false t k z) in none_from (suc k) m at (rw e at b) t l.0 l.1))

  some-from : (k m at : ℕ) → before key_at next m (nth next k first) at ≡ true → (t : ℕ) × (t < k + m) × (same (key_of t) (key_at at) ≡ true)
  unfolding before nth
  some-from k zero at b = absurd (false≢true b)
  some-from k (suc m) at b =
      by_test (same (key_of k) (key_at at))
      (λ e. (k, omega arith, e))
      (λ e. let g = some-from (suc k) m at (rw e at b) in (g.0, omega (arith, g.1), g.2))

  -- what it answers says whether the key of the i-th is among them
  pub before-says : (r : Bool) (k i at : ℕ) → at ≡ nth next i first → r ≡ before key_at next k first at → Among key_of r k (key_of i)
  unfolding nth
  before-says true k i at p e =
      let g = some-from 0 k at (sym e) in (g.0, omega (arith, g.1), ap (λ (j : ℕ). same (key_of g.0) (key_at j)) (sym p) ∙ g.2)
  before-says false k i at p e =
      (λ t h. ap (λ (j : ℕ). same (key_of t) (key_at j)) (sym p) ∙ none_from 0 k at (sym e) t (omega arith) (omega arith))

-- ---- none twice, so far

module _ (key : ℕ → Bytes) where
  -- one thing more, whose key is none of the first w
  pub apart_more : (m i w : ℕ) → Apart key m i → Among key false w (key i) → ((j : ℕ) → j < m → j < i → j < w) → Apart key m (i + 1)
  apart_more m i w a x g j k p q r =
      by_test (ltb k i)
      (λ t. a j k p q (ltb-true k i t))
      (λ t.
      let e : i ≡ k = omega (arith, ltb-false k i t) in
      subst (λ (z : ℕ). same (key j) (key z) ≡ false) e (x j (g j p (omega arith))))

  -- a thing whose key is one of those before it
  pub twice-now : (n i w : ℕ) → Among key true w (key i) → w ≤ i → i < n → Twice key n
  twice-now n i w x l h = let b = x.1 in record { one = x.0; other = i; order = omega arith; below = h; equal = x.2 }

-- ---- a chain is followed

module _ (mark : Bytes → ℕ) (key : ℕ → Bytes) where
  -- of the first k those from c on do not have the key x, and the one before has its mark
  pub record Left (x : Bytes) (k c : ℕ) : Type 0 where
    pub low : c ≤ k
    pub seen : (t : ℕ) → c ≤ t → t < k → same (key t) x ≡ false
    pub its : 0 < c → mark (key (c - 1)) ≡ mark x

  -- a key of another mark is another
  other-mark : (x : Bytes) (t m : ℕ) → m ≡ mark x → (mark (key t) ≡ m → ⊥) → same (key t) x ≡ false
  other-mark x t m e f = unequal-same (key t) x (λ q. f (ap mark q ∙ sym e))

  pub left-start : (x : Bytes) (k c : ℕ) → Latest mark key (mark x) c k → Left x k c
  left-start x k c l = record { low = l.low; seen = λ t p q. other-mark x t (mark x) refl (l.none t p q); its = l.its }

  -- the one before had another key
  pub left-next : (x : Bytes) (k c q : ℕ) → Left x k c → 0 < c → Latest mark key (mark (key (c - 1))) q (c - 1) → same (key (c - 1)) x ≡ false → Left x k q
  left-next x k c q l h w e =
      let a = l.low in
      let b = w.low in
      record {
        low = omega arith;
        seen = λ t p r.
            by_test (ltb t (c - 1))
            (λ z. other-mark x t (mark (key (c - 1))) (l.its h) (w.none t p (ltb-true t (c - 1) z)))
            (λ z.
            by_test (eqb t (c - 1))
            (λ y. subst (λ (i : ℕ). same (key i) x ≡ false) (sym (eqb-true t (c - 1) y)) e)
            (λ y. l.seen t (above t z (eqb-false t (c - 1) y)) r));
        its = λ z. w.its z ∙ l.its h;
      }
    where
      above : (t : ℕ) → ltb t (c - 1) ≡ false → (t ≡ c - 1 → ⊥) → c ≤ t
      above t z y = omega (arith, ltb-false t (c - 1) z, y)

  -- the one before has it
  pub left-hit : (x : Bytes) (k c : ℕ) → Left x k c → 0 < c → same (key (c - 1)) x ≡ true → Among key true k x
  left-hit x k c l h e = let a = l.low in (c - 1, omega arith, e)

  -- none is left
  pub left-none : (x : Bytes) (k c : ℕ) → Left x k c → c ≤ 0 → Among key false k x
  left-none x k c l h t q = l.seen t (omega arith) q

-- the thing that stands before, of a chain that can be followed
pub followed : (h : ℕ) (s : Bytes) (place prev : List ℕ) (last c p : ℕ) → Linked h s place prev last → 0 < c → c ≤ last → p ≡ get_or place (c - 1) 0
    → p + h + read32 s p ≤ length s
followed h s place prev last c p w a b e = subst (λ (i : ℕ). i + h + read32 s i ≤ length s) (sym e) (w.inside (c - 1) (omega arith))

-- and its key, as it was compared
pub compared : (mark : Bytes → ℕ) (key key_at : ℕ → Bytes) (place prev : List ℕ) (k c p : ℕ) (x : Bytes) (r : Bool)
    → Chains mark key key_at place prev k → 0 < c → c ≤ k → p ≡ get_or place (c - 1) 0 → same (key_at p) x ≡ r → same (key (c - 1)) x ≡ r
compared mark key key_at place prev k c p x r w a b e q =
    ap (λ (z : Bytes). same z x) (sym (w.keyed (c - 1) (omega arith)) ∙ ap key_at (sym e)) ∙ q

-- ---- chains are made

module _ (mark : Bytes → ℕ) (top : ℕ) (key_at : ℕ → Bytes) (next : ℕ → ℕ) (first : ℕ) where
  abbrev key : ℕ → Bytes
  key t = key_of key_at next first t

  -- the first i of m things are chained, and the latest of each mark is known
  pub record Chaining (m : ℕ) (last prev place : List ℕ) (i : ℕ) : Type 0 where
    pub marked : top < length last
    pub linked : m ≤ length prev
    pub placed : m ≤ length place
    pub places : (t : ℕ) → t < i → get_or place t 0 ≡ nth next t first
    pub links : (t : ℕ) → t < i → Latest mark key (mark (key t)) (get_or prev t 0) t
    pub latest : (v : ℕ) → v ≤ top → Latest mark key v (get_or last v 0) i

  pub chaining-none : (m : ℕ) (last prev place : List ℕ) → Tables top m last prev place → Chaining m last prev place 0
  chaining-none m last prev place w =
      record {
        marked = w.marked;
        linked = w.linked;
        placed = w.placed;
        places = λ t h. absurd (omega arith);
        links = λ t h. absurd (omega arith);
        latest = λ v h.
            let e = w.none v h in
            record { low = omega arith; none = λ t p q. absurd (omega arith); its = λ p. absurd (omega arith) };
      }

  module _ (size : ℕ) (last prev place : List ℕ) (i : ℕ) (w : Chaining size last prev place i) where
    pub chains : Chains mark key key_at place prev i
    chains = record { keyed = λ t h. ap key_at (w.places t h); links = w.links }

    -- one thing more, with the mark m
    pub chaining-more : (at m : ℕ) → i < size → at ≡ nth next i first → m ≡ mark (key i) → m ≤ top
        → Chaining size (set last m (i + 1)) (set prev i (get_or last m 0)) (set place i at) (i + 1)
    chaining-more at m h p e l =
        let a = w.marked in
        let b = w.linked in
        let c = w.placed in
        record {
          marked = let z = length-set last m (i + 1) in omega arith;
          linked = let z = length-set prev i (get_or last m 0) in omega arith;
          placed = let z = length-set place i at in omega arith;
          places = λ t q.
              by_test (eqb t i)
              (λ z.
              ap (λ (j : ℕ). get_or (set place i at) j 0) (eqb-true t i z) ∙ get_or-set_same place i at 0 (omega arith) ∙ p
              ∙ ap (λ (j : ℕ). nth next j first) (sym (eqb-true t i z)))
              (λ z. get_or-set_other place i t at 0 (eqb-false t i z) ∙ w.places t (earlier t q (eqb-false t i z)));
          links = λ t q.
              by_test (eqb t i)
              (λ z.
              subst (λ (j : ℕ). Latest mark key (mark (key j)) (get_or (set prev i (get_or last m 0)) j 0) j) (sym (eqb-true t i z))
              (subst (λ (v : ℕ). Latest mark key (mark (key i)) v i) (sym (get_or-set_same prev i (get_or last m 0) 0 (omega arith)))
              (subst (λ (v : ℕ). Latest mark key v (get_or last m 0) i) e (w.latest m l))))
              (λ z.
              subst (λ (v : ℕ). Latest mark key (mark (key t)) v t) (sym (get_or-set_other prev i t (get_or last m 0) 0 (eqb-false t i z)))
              (w.links t (earlier t q (eqb-false t i z))));
          latest = λ v q.
              by_test (eqb v m)
              (λ z.
              subst (λ (j : ℕ). Latest mark key j (get_or (set last m (i + 1)) j 0) (i + 1)) (sym (eqb-true v m z))
              (subst (λ (u : ℕ). Latest mark key m u (i + 1)) (sym (get_or-set_same last m (i + 1) 0 (omega arith))) (newest m e)))
              (λ z.
              subst (λ (u : ℕ). Latest mark key v u (i + 1)) (sym (get_or-set_other last m v (i + 1) 0 (eqb-false v m z)))
              (older m v e (eqb-false v m z) (w.latest v q)));
        }
      where
        earlier : (t : ℕ) → t < i + 1 → (t ≡ i → ⊥) → t < i
        earlier t q f = omega (arith, f)

        newest : (m : ℕ) → m ≡ mark (key i) → Latest mark key m (i + 1) (i + 1)
        newest m e =
            record {
              low = omega arith;
              none = λ t p q. absurd (omega arith);
              its = λ p. let z : i + 1 - 1 ≡ i = omega arith in ap (λ (j : ℕ). mark (key j)) z ∙ sym e;
            }

        older : (m v : ℕ) → m ≡ mark (key i) → (v ≡ m → ⊥) → Latest mark key v (get_or last v 0) i → Latest mark key v (get_or last v 0) (i + 1)
        older m v e f o =
            let a = o.low in
            record {
              low = omega arith;
              none = λ t p q y.
                  by_test (eqb t i)
                  (λ z. f (sym y ∙ ap (λ (j : ℕ). mark (key j)) (eqb-true t i z) ∙ sym e))
                  (λ z. o.none t p (earlier t q (eqb-false t i z)) y);
              its = o.its;
            }

-- chains of things within the bytes can be followed
pub chaining-linked : (mark : Bytes → ℕ) (top h f : ℕ) (s : Bytes) (first n size : ℕ) (last prev place : List ℕ) (i m q : ℕ)
    → Chaining mark top (key_in h s) (next_in h f s) first size last prev place i → ((k : ℕ) → k < n → next_in h f s (nth (next_in h f s) k first) ≤ length s)
    → i ≤ n → i ≤ size → size ≤ 4096 → m ≤ top → q ≡ get_or last m 0 → Linked h s place prev q
chaining-linked mark top h f s first n size last prev place i m q w g l v u b e =
    let o = (w.latest m b).low in
    let y = w.placed in
    let z = w.linked in
    record {
      few = omega arith;
      places = omega arith;
      links = omega arith;
      back = λ t p. (w.links t (omega arith)).low;
      inside = λ t p.
          let r : next_in h f s (get_or place t 0) ≤ length s =
          subst (λ (j : ℕ). next_in h f s j ≤ length s) (sym (w.places t (omega arith))) (g t (omega arith)) in
          omega arith;
    }

-- what was found in the chain of the i-th thing's mark says whether its key is among the first k
pub chain-says : (mark : Bytes → ℕ) (top h f : ℕ) (s : Bytes) (first size : ℕ) (last prev place : List ℕ) (k i at m q : ℕ) (r b : Bool)
    → Chaining mark top (key_in h s) (next_in h f s) first size last prev place k → at ≡ nth (next_in h f s) i first → m ≡ mark (key_in h s at) → m ≤ top
    → q ≡ get_or last m 0
    → ((mark : Bytes → ℕ) (key : ℕ → Bytes) (n : ℕ) → Chains mark key (key_in h s) place prev n → Latest mark key (mark (key_in h s at)) q n
    → Among key r n (key_in h s at))
    → r ≡ b → Among (keys_from h f s first) b k (keys_from h f s first i)
chain-says mark top h f s first size last prev place k i at m q r b w p e l z g y =
    let o : Latest mark (keys_from h f s first) (mark (key_in h s at)) q k =
    subst (λ (v : ℕ). Latest mark (keys_from h f s first) v q k) e
    (subst (λ (v : ℕ). Latest mark (keys_from h f s first) m v k) (sym z) (w.latest m l)) in
    let c = chains mark top (key_in h s) (next_in h f s) first size last prev place k w in
    subst (λ (j : ℕ). Among (keys_from h f s first) b k (key_in h s j)) p
    (subst (λ (t : Bool). Among (keys_from h f s first) t k (key_in h s at)) y (g mark (keys_from h f s first) k c o))
