-- The reader says what Meaning.antt says: complete with length n exactly if the first n bytes are a value; bytes are lacking exactly if some value begins
-- with these and none is complete, and then the least number of them; never exactly otherwise. What is complete or never stays so whatever follows.
-- Assumes nothing.
use Rattle.std.specs.Prelude.{◌≡◌, refl, ◌↔◌, [], ◌++◌, ℕ, ◌+◌, ◌-◌, ◌≤◌, ◌<◌, leb, eqb, length, take, drop, Some, Result, Ok, Err}
use Rattle.std.proofs.Common.{sym, ap, ◌∙◌, subst, append_assoc, append-nil, arith, length-append, length-take, length-drop, take-append-drop, take_all, leb-true, leb-false, le-leb, eqb-true}
use Rattle.std.proofs.Math.Seq.{take-append-add}
use Rattle.std.proofs.lemmas.Bool.{eqb-false}
use Rattle.buffer.specs.Cases.{by_test}
use Rattle.buffer.specs.Same.{Bytes}
use Rattle.config.specs.Limits.{max_bytes, max_depth}
use Rattle.resp3.specs.Value.{encode}
use Rattle.resp3.specs.Rows.{enc-is}
use Rattle.resp3.specs.Ends.{value_end}
use Rattle.resp3.proofs.Complete.{read-law}
use Rattle.resp3.specs.Sound.{end-sound}
use Rattle.resp3_prefix.specs.declared.NotWhole.{NotWhole}
use Rattle.resp3_prefix.specs.declared.NotWhole.TheVariants.{Lacks, Never}
use Rattle.resp3_prefix.specs.Begun.{value_begun, within, first_value}
use Rattle.resp3_prefix.specs.Meaning.{Complete, Begins, NoneComplete, NoneBegins}
use Rattle.resp3_prefix.specs.Split.{cut, none_left}
use Rattle.resp3_prefix.specs.Same.{lacks-no-end, never-no-end, same_end}
use Rattle.resp3_prefix.specs.SameRows.{end-bounds, value-agree}
use Rattle.resp3_prefix.specs.Found.{lacks-same, never-lacks, ends-lacks}
use Rattle.resp3_prefix.specs.Pieces.{Early}
use Rattle.resp3_prefix.specs.FoundRows.{Found, value_found}
use Rattle.resp3_prefix.specs.EarlyValue.{value-early}

-- the bytes that are read
abbrev front : Bytes → Bytes
front s = take max_bytes s

front-small : (s : Bytes) → length (front s) ≤ max_bytes
front-small s = let k = length-take max_bytes s in omega arith

-- they are all of s that a value may have
front-begins : (s x r : Bytes) → length x ≤ max_bytes → s ≡ x ++ r → front s ≡ x ++ take (max_bytes - length x) r
front-begins s x r l e =
    let i : length x + (max_bytes - length x) ≡ max_bytes = omega arith in
    ap front e ∙ ap (λ (n : ℕ). take n (x ++ r)) (sym i) ∙ take-append-add x r (max_bytes - length x)

-- ---- complete

-- a value that is complete is found
pub found-complete : (s : Bytes) (n : ℕ) → Complete s n → first_value s ≡ Ok n
unfolding first_value
found-complete s n c =
    let w = c.within in
    let E : Bytes = encode c.v in
    let t : Bytes = front s in
    let r : Bytes = take (max_bytes - length E) c.rest in
    let b : t ≡ E ++ r = front-begins s E c.rest w.small c.is in
    let z = read-law max_depth t c.v w.ok w.deep 0 r (b ∙ sym (enc-is c.v r)) in
    let y = (value-agree max_depth t (front-small s) 0).1 z.e z.is in
    let h = z.within in
    let i : z.e ≡ n = omega (arith, c.long, ap length b, length-append E r, ap length z.rest, length-drop z.e t) in
    ap (within (length s)) y ∙ ap Ok i

-- what is found complete is
pub complete-found : (s : Bytes) (n : ℕ) → first_value s ≡ Ok n → Complete s n
unfolding first_value
complete-found s n h = go (value_begun max_depth (front s) 0) refl h
  where
    at : (e : ℕ) → e ≡ n → value_end max_depth (front s) 0 ≡ Some e → Complete s n
    at e i v =
        let t : Bytes = front s in
        let w = end-sound max_depth t 0 e v in
        let o = (end-bounds max_depth t 0 e v).1 in
        let E : Bytes = encode w.v in
        let b : t ≡ E ++ drop e t = w.is ∙ enc-is w.v (drop e t) in
        let j : length E ≡ n = omega (arith, ap length b, length-append E (drop e t), length-drop e t) in
        let m = front-small s in
        record {
          v = w.v;
          within = record { ok = w.ok; deep = w.deep; small = omega arith };
          rest = drop e t ++ drop max_bytes s;
          is = sym (take-append-drop max_bytes s) ∙ ap (λ (z : Bytes). z ++ drop max_bytes s) b ∙ append_assoc E (drop e t) (drop max_bytes s);
          long = j;
        }

    go : (x : Result ℕ NotWhole) → value_begun max_depth (front s) 0 ≡ x → within (length s) x ≡ Ok n → Complete s n
    go (Ok e) k h = at e (same_end e n h) ((value-agree max_depth (front s) (front-small s) 0).0 e k)
    go (Err (Lacks j)) k h = absurd (by_test (leb (length s + j) max_bytes) (λ t. lacks-no-end j n (rw t at h)) (λ t. never-no-end n (rw t at h)))
    go (Err Never) k h = absurd (never-no-end n h)

-- the first n bytes are a value within the limits, exactly if the reader says so
pub complete-law : (s : Bytes) (n : ℕ) → (first_value s ≡ Ok n) ↔ Complete s n
complete-law s n = (complete-found s n, found-complete s n)

-- ---- lacking

-- a value that is found to begin so, within the limit of bytes
begins-so : (s : Bytes) (k : ℕ) → Found max_depth s 0 k → length s + k ≤ max_bytes → Begins s k
unfolding encode
begins-so s k f l =
    let m = f.rest.long in
    record {
      v = f.v;
      within = record { ok = f.ok; deep = f.deep; small = omega (arith, ap length f.rest.is, length-append s f.rest.q) };
      rest = f.rest.q;
      is = f.rest.is;
      long = m;
    }

-- bytes that lack k begin a value that has k more
pub begins-found : (s : Bytes) (k : ℕ) → first_value s ≡ Err (Lacks k) → Begins s k
unfolding first_value
begins-found s k h = go (value_begun max_depth (front s) 0) refl h
  where
    at : (j : ℕ) → j ≡ k → length s + j ≤ max_bytes → value_begun max_depth (front s) 0 ≡ Err (Lacks j) → Begins s k
    at j i l e =
        let b : front s ≡ s = take_all max_bytes s (omega arith) in
        subst (Begins s) i (begins-so s j
        (subst (λ (t : Bytes). Found max_depth t 0 j) b (value_found max_depth (front s) (front-small s) 0 j (omega arith) e)) l)

    go : (x : Result ℕ NotWhole) → value_begun max_depth (front s) 0 ≡ x → within (length s) x ≡ Err (Lacks k) → Begins s k
    go (Ok e) i h = absurd (ends-lacks e k h)
    go (Err (Lacks j)) i h =
        by_test (leb (length s + j) max_bytes)
        (λ t. at j (lacks-same j k (rw t at h)) (leb-true (length s + j) max_bytes t) i)
        (λ t. absurd (never-lacks k (rw t at h)))
    go (Err Never) i h = absurd (never-lacks k h)

-- bytes that are all of a value are complete
all-complete : (s : Bytes) → Begins s 0 → Complete s (length s)
all-complete s b =
    let r = none_left b.rest b.long in
    let e : encode b.v ≡ s = b.is ∙ ap (λ (z : Bytes). s ++ z) r ∙ append-nil s in
    record { v = b.v; within = b.within; rest = []; is = sym (append-nil (encode b.v) ∙ e); long = ap length e }

-- what is lacking within the limit of bytes
lacks-first : (s : Bytes) (j : ℕ) → Early (value_begun max_depth (front s) 0) j → length s + j ≤ max_bytes → (k : ℕ) × (first_value s ≡ Err (Lacks k)) × (k ≤ j)
unfolding first_value
lacks-first s j y l =
    let m = y.least in
    (y.k, ap (within (length s)) y.is ∙ rw (le-leb (length s + y.k) max_bytes (omega arith)), m)

-- bytes that begin a value are found to lack no more than it has
pub found-begins : (s : Bytes) (j : ℕ) → Begins s j → 0 < j → (k : ℕ) × (first_value s ≡ Err (Lacks k)) × (k ≤ j)
unfolding encode
found-begins s j b o =
    let w = b.within in
    let m = w.small in
    let g = b.long in
    let n : length s + j ≤ max_bytes = omega (arith, ap length b.is, length-append s b.rest) in
    let f : front s ≡ s = take_all max_bytes s (omega arith) in
    lacks-first s j
    (subst (Early (value_begun max_depth (front s) 0)) g
    (value-early max_depth (front s) (front-small s) b.v w.ok w.deep m 0 (omega arith) b.rest (omega arith)
    (b.is ∙ ap (λ (z : Bytes). z ++ b.rest) (sym f))))
    n

-- so what is said to be lacking is the least that is
pub least-law : (s : Bytes) (k : ℕ) → first_value s ≡ Err (Lacks k) → Begins s k × ((j : ℕ) → Begins s j → k ≤ j)
least-law s k h = (begins-found s k h, λ j b. go j b)
  where
    go : (j : ℕ) → Begins s j → k ≤ j
    go j b =
        by_test (eqb j 0)
        (λ t. absurd (ends-lacks (length s) k (sym (found-complete s (length s) (all-complete s (subst (Begins s) (eqb-true j 0 t) b))) ∙ h)))
        (λ t.
        let z = eqb-false j 0 t in
        let f = found-begins s j b (omega arith) in
        let e : f.0 ≡ k = lacks-same f.0 k (sym f.1 ∙ h) in
        let l = f.2 in
        omega arith)

-- bytes are lacking exactly if some value within the limits begins with these and none is complete
pub more-law : (s : Bytes) → ((k : ℕ) × (first_value s ≡ Err (Lacks k))) ↔ (((k : ℕ) × Begins s k) × NoneComplete s)
more-law s = (to, from)
  where
    to : (k : ℕ) × (first_value s ≡ Err (Lacks k)) → ((k : ℕ) × Begins s k) × NoneComplete s
    to w = ((w.0, begins-found s w.0 w.1), λ n c. ends-lacks n w.0 (sym (found-complete s n c) ∙ w.1))

    from : ((k : ℕ) × Begins s k) × NoneComplete s → (k : ℕ) × (first_value s ≡ Err (Lacks k))
    from w =
        let j = w.0.0 in
        by_test (eqb j 0)
        (λ t. absurd (w.1 (length s) (all-complete s (subst (Begins s) (eqb-true j 0 t) w.0.1))))
        (λ t. let z = eqb-false j 0 t in let f = found-begins s j w.0.1 (omega arith) in (f.0, f.1))

-- ---- never

-- neither is a value complete nor does one begin so, exactly if the reader says never
pub never-law : (s : Bytes) → (first_value s ≡ Err Never) ↔ (NoneComplete s × NoneBegins s)
never-law s = (to, λ w. from (first_value s) refl w)
  where
    to : first_value s ≡ Err Never → NoneComplete s × NoneBegins s
    to h = (none, λ k b. begins k b)
      where
        none : NoneComplete s
        none n c = never-no-end n (sym h ∙ found-complete s n c)

        begins : NoneBegins s
        begins k b =
            by_test (eqb k 0)
            (λ t. none (length s) (all-complete s (subst (Begins s) (eqb-true k 0 t) b)))
            (λ t. let z = eqb-false k 0 t in let f = found-begins s k b (omega arith) in never-lacks f.0 (sym h ∙ f.1))

    from : (x : Result ℕ NotWhole) → first_value s ≡ x → NoneComplete s × NoneBegins s → first_value s ≡ Err Never
    from (Ok n) e w = absurd (w.0 n (complete-found s n e))
    from (Err (Lacks k)) e w = absurd (w.1 k (begins-found s k e))
    from (Err Never) e w = e

-- ---- what follows changes neither

pub complete-stays : (s r : Bytes) (n : ℕ) → first_value s ≡ Ok n → first_value (s ++ r) ≡ Ok n
complete-stays s r n h =
    let c = complete-found s n h in
    found-complete (s ++ r) n
    (record {
      v = c.v;
      within = c.within;
      rest = c.rest ++ r;
      is = ap (λ (z : Bytes). z ++ r) c.is
          ∙ append_assoc (encode c.v) c.rest r;
      long = c.long;
    })

pub never-stays : (s r : Bytes) → first_value s ≡ Err Never → first_value (s ++ r) ≡ Err Never
never-stays s r h = (never-law (s ++ r)).1 (none, begins)
  where
    none : NoneComplete (s ++ r)
    none n c =
        let w = (never-law s).0 h in
        let E : Bytes = encode c.v in
        by_test (leb (length E) (length s))
        (λ t.
        let z = cut E s r c.rest c.is (leb-true (length E) (length s) t) in
        w.0 n (record { v = c.v; within = c.within; rest = z.m; is = z.front; long = c.long }))
        (λ t.
        let o = leb-false (length E) (length s) t in
        let z = cut s E c.rest r (sym c.is) (omega arith) in
        w.1 (length z.m) (record { v = c.v; within = c.within; rest = z.m; is = z.front; long = refl }))

    begins : NoneBegins (s ++ r)
    begins k b =
        ((never-law s).0 h).1 (length (r ++ b.rest))
        (record { v = b.v; within = b.within; rest = r ++ b.rest; is = b.is ∙ append_assoc s r b.rest; long = refl })
