-- Values that hold others, made of a row of values: arrays, sets, pushes, maps and attributes. Assumes nothing.
use Rattle.std.specs.Prelude.{◌≡◌, refl, [], ◌∷◌, ℕ, zero, suc, ◌+◌, ◌*◌, ◌≤◌, leb, eqb, length, Err}
use Rattle.std.proofs.Common.{sym, ap, ap₂, ◌∙◌, subst, arith, eqb-true}
use Rattle.std.proofs.lemmas.Bool.{eqb-false}
use Rattle.buffer.specs.Cases.{by_test}
use Rattle.buffer.specs.Same.{Bytes}
use Rattle.config.specs.Limits.{max_bytes}
use Rattle.resp3.specs.declared.Kind.{Kind}
use Rattle.resp3.specs.declared.Kind.TheVariants.{Array, Map, Set, Attribute, Push}
use Rattle.resp3.specs.Kinds.{byte_of}
use Rattle.resp3.specs.Value.{Value, Values, null, array, map, set, attribute, push, none, more, count, count_pairs, below, deepest, deepest_pairs}
use Rattle.resp3.specs.Value.{Valid, Valids, ValidPairs, counted, enc, encs, enc_pairs}
use Rattle.resp3.specs.Rows.{flat, flat-enc, valid-flat, deep-flat, head_of, pair_up, skip, paired, row-none, row_one}
use Rattle.resp3_prefix.specs.declared.NotWhole.TheVariants.{Lacks}
use Rattle.resp3_prefix.specs.Begun.{lacking, lacking_row, lacking_below}
use Rattle.resp3_prefix.specs.Found.{lacks-same, never-lacks}

-- a kind that holds values behind a count n, a * n + b of them
pub record Makes (k : Kind) (a b : ℕ) : Type 0 where
  pub make : ℕ → Values → Value
  pub written : (n : ℕ) (ws : Values) (r : Bytes) → count ws ≡ a * n + b → enc (make n ws) r ≡ byte_of k ∷ counted n (encs ws r)
  pub valid : (n : ℕ) (ws : Values) → count ws ≡ a * n + b → Valids ws → Valid (make n ws)
  pub deep : (n : ℕ) (ws : Values) (d : ℕ) → count ws ≡ a * n + b → deepest ws ≤ d → below (make n ws) ≤ d

-- a row behind its count
counted-as : (x : ℕ) (n : ℕ) (ws : Values) (r : Bytes) → count ws ≡ 1 * n + 0 → x ∷ counted (count ws) (encs ws r) ≡ x ∷ counted n (encs ws r)
counted-as x n ws r h = let e : count ws ≡ n = omega arith in ap (λ (i : ℕ). x ∷ counted i (encs ws r)) e

pub array_makes : Makes Array 1 0
array_makes = record { make = λ n ws. array ws; written = λ n ws r h. counted-as (byte_of Array) n ws r h; valid = λ n ws h v. v; deep = λ n ws d h l. l }

pub set-makes : Makes Set 1 0
set-makes = record { make = λ n ws. set ws; written = λ n ws r h. counted-as (byte_of Set) n ws r h; valid = λ n ws h v. v; deep = λ n ws d h l. l }

pub push-makes : Makes Push 1 0
push-makes = record { make = λ n ws. push ws; written = λ n ws r h. counted-as (byte_of Push) n ws r h; valid = λ n ws h v. v; deep = λ n ws d h l. l }

-- the pairs that a row of 2n values and some others is laid out from
record Laid (n : ℕ) (ws vs : Values) : Type 0 where
  is : flat (pair_up n ws) vs ≡ ws
  many : count_pairs (pair_up n ws) ≡ n

laid-map : (n : ℕ) (ws : Values) → count ws ≡ 2 * n + 0 → Laid n ws none
laid-map n ws h =
    let z = paired n 0 ws (omega arith) in
    let y = row-none (skip n ws) z.others in
    record { is = ap (flat (pair_up n ws)) (sym y) ∙ z.is; many = z.pairs }

laid-attribute : (n : ℕ) (ws : Values) → count ws ≡ 2 * n + 1 → Laid n ws (more (head_of (skip n ws)) none)
laid-attribute n ws h =
    let z = paired n 1 ws (omega arith) in
    let y = row_one (skip n ws) z.others in
    record { is = ap (flat (pair_up n ws)) (sym y) ∙ z.is; many = z.pairs }

laid-written : (x n : ℕ) (ws vs : Values) (r : Bytes) → Laid n ws vs
    → x ∷ counted (count_pairs (pair_up n ws)) (enc_pairs (pair_up n ws) (encs vs r)) ≡ x ∷ counted n (encs ws r)
laid-written x n ws vs r l =
    ap₂ (λ (i : ℕ) (y : Bytes). x ∷ counted i y) l.many (sym (flat-enc (pair_up n ws) vs r) ∙ ap (λ (us : Values). encs us r) l.is)

laid-valid : (n : ℕ) (ws vs : Values) → Laid n ws vs → Valids ws → ValidPairs (pair_up n ws) × Valids vs
laid-valid n ws vs l h = valid-flat (pair_up n ws) vs (subst Valids (sym l.is) h)

laid-deep : (n : ℕ) (ws vs : Values) (d : ℕ) → Laid n ws vs → deepest ws ≤ d → (deepest_pairs (pair_up n ws) ≤ d) × (deepest vs ≤ d)
laid-deep n ws vs d l h = deep-flat (pair_up n ws) vs d (subst (λ (us : Values). deepest us ≤ d) (sym l.is) h)

pub map-makes : Makes Map 2 0
map-makes =
    record {
      make = λ n ws. map (pair_up n ws);
      written = λ n ws r h. laid-written (byte_of Map) n ws none r (laid-map n ws h);
      valid = λ n ws h v. (laid-valid n ws none (laid-map n ws h) v).0;
      deep = λ n ws d h l. (laid-deep n ws none d (laid-map n ws h) l).0;
    }

pub attribute-makes : Makes Attribute 2 1
attribute-makes =
    record {
      make = λ n ws. attribute (pair_up n ws) (head_of (skip n ws));
      written = λ n ws r h. laid-written (byte_of Attribute) n ws (more (head_of (skip n ws)) none) r (laid-attribute n ws h);
      valid = λ n ws h v. let z = laid-valid n ws (more (head_of (skip n ws)) none) (laid-attribute n ws h) v in (z.0, z.1.0);
      deep = λ n ws d h l. let z = laid-deep n ws (more (head_of (skip n ws)) none) d (laid-attribute n ws h) l in let x = z.0 in let y = z.1 in omega arith;
    }

-- ---- rows of nulls, the shortest

abbrev pub nulls : ℕ → Values
nulls zero = none
nulls (suc n) = more null (nulls n)

pub nulls-count : (n : ℕ) → count (nulls n) ≡ n
nulls-count zero = refl
nulls-count (suc n) = ap suc (nulls-count n)

pub nulls-valid : (n : ℕ) → Valids (nulls n)
nulls-valid zero = tt
nulls-valid (suc n) = (tt, nulls-valid n)

pub nulls-deep : (n : ℕ) → deepest (nulls n) ≤ 1
nulls-deep zero = omega arith
nulls-deep (suc n) = let k = nulls-deep n in omega arith

pub nulls-long : (n : ℕ) → length (encs (nulls n) []) ≡ 3 * n
nulls-long zero = refl
nulls-long (suc n) = let k = nulls-long n in omega arith

-- ---- what is lacking before a row, in bytes

lacking-says : (x k : ℕ) → lacking x ≡ Err (Lacks k) → x ≡ k
unfolding lacking
lacking-says x k h = by_test (leb x max_bytes) (λ t. lacks-same x k (rw t at h)) (λ t. absurd (never-lacks k (rw t at h)))

pub row-says : (x n k : ℕ) → lacking_row x n ≡ Err (Lacks k) → x + 3 * n ≡ k
unfolding lacking_row
row-says x n k h =
    by_test (leb x max_bytes)
    (λ t. by_test (leb n max_bytes) (λ u. lacking-says (x + 3 * n) k (rw (t, u) at h)) (λ u. absurd (never-lacks k (rw (t, u) at h))))
    (λ t. absurd (never-lacks k (rw t at h)))

-- behind a count: as many bytes, and nulls that are not too deep
pub below-says : (d x n k : ℕ) → lacking_below d x n ≡ Err (Lacks k) → (x + 3 * n ≡ k) × (deepest (nulls n) ≤ d)
unfolding lacking_below
below-says d x n k h =
    by_test (eqb n 0)
    (λ t.
    let z = eqb-true n 0 t in
    let y = lacks-same x k (rw t at h) in
    (omega arith, subst (λ (i : ℕ). deepest (nulls i) ≤ d) (sym z) (omega arith)))
    (λ t.
    by_test (eqb d 0)
    (λ u. absurd (never-lacks k (rw (t, u) at h)))
    (λ u. let y = eqb-false d 0 u in let z = nulls-deep n in (row-says x n k (rw (t, u) at h), omega arith)))
