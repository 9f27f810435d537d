-- Bytes that end inside a valid value are found to lack no more than the value has behind them: rows, and whole values. Assumes nothing.
use Rattle.std.specs.Prelude.{◌≡◌, [], ◌++◌, ℕ, suc, ◌+◌, ◌*◌, ◌-◌, ◌≤◌, ◌<◌, leb, eqb, length, drop, ℤ, pos, negsuc, Ok, Err}
use Rattle.std.proofs.Common.{sym, ap, ◌∙◌, subst, arith, length-append, leb-true, leb-false, eqb-true}
use Rattle.std.proofs.lemmas.Bool.{eqb-false}
use Rattle.buffer.specs.Cases.{by_test}
use Rattle.buffer.specs.Same.{Bytes}
use Rattle.config.specs.Limits.{max_bytes}
use Rattle.decimal.specs.Digits.{digits}
use Rattle.decimal.specs.DigitLaws.{count-pos}
use Rattle.resp3.specs.Value.{underscore, blob_null, array_null, Value, Values, blob_string, simple_string, simple_error, number, null_as, double, boolean}
use Rattle.resp3.specs.Value.{blob_error, verbatim_string, big_number, array, map, set, attribute, push, none, more, count, deepest, depth, Valid, Valids}
use Rattle.resp3.specs.Value.{crlf, counted, integer, enc, encs}
use Rattle.resp3.specs.Rows.{longer, room, room_pairs}
use Rattle.resp3.proofs.Complete.{read-law}
use Rattle.resp3_prefix.specs.declared.NotWhole.TheVariants.{Lacks}
use Rattle.resp3_prefix.specs.declared.Count.{Count}
use Rattle.resp3_prefix.specs.Begun.{lacking_row, lacking_below, count_begun, alone_of, row_of, head_then, value_begun, row_begun}
use Rattle.resp3_prefix.specs.Paths as paths
use Rattle.resp3_prefix.specs.Split.{cut}
use Rattle.resp3_prefix.specs.Counts.{Stands, whole, nothing, digits-all, digits-some, ended, stands}
use Rattle.resp3_prefix.specs.Pieces.{Early, lacks}
use Rattle.resp3_prefix.specs.SameRows.{alone-is, value-agree}
use Rattle.resp3_prefix.specs.FoundRows.{enc-more}
use Rattle.resp3_prefix.specs.Early.{early-as}

-- ---- every value has three bytes at least

integer-long : (z : ℤ) → 1 ≤ length (integer z)
integer-long (pos n) = count-pos n
integer-long (negsuc n) = omega arith

pub three-long : (v : Value) (r : Bytes) → 3 + length r ≤ length (enc v r)
three-long (blob_string xs) r = let k = count-pos (length xs) in simp length-append (omega arith)
three-long (simple_string xs) r = simp length-append (omega arith)
three-long (simple_error xs) r = simp length-append (omega arith)
three-long (number z) r = let k = integer-long z in simp length-append (omega arith)
three-long (null_as underscore) r = omega arith
three-long (null_as blob_null) r = omega arith
three-long (null_as array_null) r = omega arith
three-long (double xs) r = simp length-append (omega arith)
three-long (boolean b) r = omega arith
three-long (blob_error xs) r = let k = count-pos (length xs) in simp length-append (omega arith)
three-long (verbatim_string f xs) r = simp length-append (omega arith)
three-long (big_number xs) r = simp length-append (omega arith)
three-long (array vs) r = let k = room vs r in simp length-append (omega arith)
three-long (map ps) r = let k = room_pairs ps r in simp length-append (omega arith)
three-long (set vs) r = let k = room vs r in simp length-append (omega arith)
three-long (attribute ps v) r = let j = longer v r in let k = room_pairs ps (enc v r) in simp length-append (omega arith)
three-long (push vs) r = let k = room vs r in simp length-append (omega arith)

rows_long : (vs : Values) (r : Bytes) → 3 * count vs + length r ≤ length (encs vs r)
rows_long none r = omega arith
rows_long (more v vs) r = let k = three-long v (encs vs r) in let j = rows_long vs r in omega arith

-- ---- sizes

row-early : (k n m : ℕ) → k + 3 * n ≤ m → m ≤ max_bytes → Early (lacking_row k n) m
row-early k n m l h =
    lacks (k + 3 * n) (paths.row-sum k n (omega arith) (omega arith) ∙ paths.lacking-yes (k + 3 * n) (omega arith)) l

below-early : (d k n m : ℕ) → (0 < n → 1 ≤ d) → k + 3 * n ≤ m → m ≤ max_bytes → Early (lacking_below d k n) m
below-early d k n m f l h =
    by_test (eqb n 0)
    (λ t. lacks k (paths.below_none d k n (eqb-true n 0 t)) (omega arith))
    (λ t.
    let z = eqb-false n 0 t in
    let o = f (omega arith) in
    early-as (paths.below_row d k n z (λ e. omega arith)) (row-early k n m l h))

-- a row of some values has a depth
deep-some : (vs : Values) (d : ℕ) → deepest vs ≤ d → 0 < count vs → 1 ≤ d
deep-some none d l h = absurd (omega arith)
deep-some (more v vs) d l h = omega arith

module _ (d : ℕ) (s : Bytes) (small : length s ≤ max_bytes)
    (one : (v : Value) → Valid v → depth v ≤ d → length (enc v []) ≤ max_bytes → (at : ℕ) → at ≤ length s → (q : Bytes) → 0 < length q
    → enc v [] ≡ drop at s ++ q
    → Early (value_begun d s at) (length q)) where
  -- the first value of a row stands there whole
  first-whole : (v : Value) (ws : Values) (at : ℕ) (m : Bytes) → Valid v → depth v ≤ d → drop at s ≡ enc v [] ++ m
      → (e : ℕ) × (e ≤ length s) × (drop e s ≡ m) × (row_begun d s (suc (count ws)) at ≡ row_begun d s (count ws) e)
  first-whole v ws at m ok deep h =
      let z = read-law d s v ok deep at m (h ∙ sym (enc-more v [] m)) in
      let y = (value-agree d s small at).1 z.e z.is in
      let j : suc (count ws) - 1 ≡ count ws = omega arith in
      (z.e, z.within, z.rest, paths.row_one d s (suc (count ws)) at (Ok z.e) (omega arith) y ∙ ap (λ (i : ℕ). row_begun d s i z.e) j)

  rows-early : (vs : Values) → Valids vs → deepest vs ≤ d → length (encs vs []) ≤ max_bytes → (at : ℕ) → at ≤ length s → (q : Bytes) → 0 < length q
      → encs vs [] ≡ drop at s ++ q
      → Early (row_begun d s (count vs) at) (length q)
  rows-early none ok deep m at l q o e = absurd (omega (arith, ap length e, length-append (drop at s) q))
  rows-early (more v ws) ok deep m at l q o e = go (λ n a b i j k. rows-early ws ok.1 (omega arith) n a b i j k)
    where
      E : Bytes
      E = enc v []

      N : Bytes
      N = encs ws []

      f : E ++ N ≡ drop at s ++ q
      f = sym (enc-more v [] N) ∙ e

      size : length E + length N ≤ max_bytes
      size = omega (arith, m, ap length (enc-more v [] N), length-append E N)

      go : (length N ≤ max_bytes → (a : ℕ) → a ≤ length s → (p : Bytes) → 0 < length p → N ≡ drop a s ++ p → Early (row_begun d s (count ws) a) (length p))
          → Early (row_begun d s (suc (count ws)) at) (length q)
      go rec =
          by_test (leb (length E) (length (drop at s)))
          (λ t.
          let z = cut E (drop at s) q N (sym f) (leb-true (length E) (length (drop at s)) t) in
          let w = first-whole v ws at z.m ok.0 (omega arith) z.front in
          let i = size in
          early-as w.3 (rec (omega arith) w.0 w.1 q o (z.back ∙ ap (λ (y : Bytes). y ++ q) (sym w.2))))
          (λ t.
          let g = leb-false (length E) (length (drop at s)) t in
          let z = cut (drop at s) E N q f (omega arith) in
          let i = size in
          let a : length E ≡ length (drop at s) + length z.m = ap length z.front ∙ length-append (drop at s) z.m in
          let b : length q ≡ length z.m + length N = ap length z.back ∙ length-append z.m N in
          let y = one v ok.0 (omega arith) (omega arith) at l z.m (omega arith) z.front in
          let c = y.least in
          let j : suc (count ws) - 1 ≡ count ws = omega arith in
          let r = rows_long ws [] in
          early-as (paths.row_one d s (suc (count ws)) at (Err (Lacks y.k)) (omega arith) y.is ∙ ap (λ (n : ℕ). lacking_row y.k n) j)
          (row-early y.k (count ws) (length q) (omega arith) (omega arith)))

  -- rows behind their count
  pub counted-early : (a b n : ℕ) (ws : Values) → count ws ≡ a * n + b → ((m : ℕ) → 10 * m ≤ n → a * m + b ≤ a * n + b) → b ≤ a * n + b → n ≤ a * n + b
      → Valids ws → deepest ws ≤ d
      → length (counted n (encs ws [])) ≤ max_bytes → (p : ℕ) → p ≤ length s → (q : Bytes) → 0 < length q → counted n (encs ws []) ≡ drop p s ++ q
      → Early (head_then (row_of d a b (count_begun max_bytes s p)) (λ n e. row_begun d s n e)) (length q)
  counted-early a b n ws c mono least few ok deep m p l q o e = go (stands max_bytes s p n (encs ws []) q small_count e l)
    where
      long : 3 * count ws ≤ length (encs ws [])
      long = let k = rows_long ws [] in omega arith

      all : length q ≤ max_bytes
      all = omega (arith, m, ap length e, length-append (drop p s) q)

      size : length (encs ws []) + 3 ≤ max_bytes
      size = let k = count-pos n in omega (arith, m, length-append (digits n) (crlf (encs ws [])))

      small_count : n ≤ max_bytes
      small_count = let k = size in let j = long in omega arith

      alone : (k i : ℕ) → i ≤ count ws → k + 3 * i ≤ length q → Early (head_then (alone_of (lacking_below d k i)) (λ n e. row_begun d s n e)) (length q)
      alone k i h g = early-as (alone-is d s (lacking_below d k i)) (below-early d k i (length q) (λ z. deep-some ws d deep (omega arith)) g all)

      go : Stands max_bytes s p n (encs ws []) q → Early (head_then (row_of d a b (count_begun max_bytes s p)) (λ n e. row_begun d s n e)) (length q)
      go (whole x y z g) =
          early-as (ap (λ (w : Count). head_then (row_of d a b w) (λ n e. row_begun d s n e)) y)
          (subst (λ (i : ℕ). Early (row_begun d s i x) (length q)) c (rows-early ws ok deep (let k = size in omega arith) x z q o g))
      go (nothing y g) =
          early-as (ap (λ (w : Count). head_then (row_of d a b w) (λ n e. row_begun d s n e)) y)
          (alone 3 b (omega arith) (let k = count-pos n in let j = long in omega (arith, ap length g, length-append (digits n) (crlf (encs ws [])))))
      go (digits-all y g) =
          early-as (ap (λ (w : Count). head_then (row_of d a b w) (λ n e. row_begun d s n e)) y)
          (alone 2 (a * n + b) (omega arith) (let j = long in omega arith))
      go (digits-some i u h y g) =
          let k = mono i h in
          early-as (ap (λ (w : Count). head_then (row_of d a b w) (λ n e. row_begun d s n e)) y)
          (alone 2 (a * i + b) (omega arith) (let j = long in omega arith))
      go (ended y g) =
          early-as (ap (λ (w : Count). head_then (row_of d a b w) (λ n e. row_begun d s n e)) y)
          (alone 1 (a * n + b) (omega arith) (let j = long in omega arith))
