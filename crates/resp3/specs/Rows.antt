-- Values in a row: pairs laid out as values and gathered again, and how long a row is. Assumes nothing.
use Rattle.std.specs.Prelude.{◌≡◌, refl, [], ◌++◌, ℕ, zero, suc, ◌+◌, ◌≤◌, ◌<◌, length}
use Rattle.std.proofs.Common.{ap, ◌∙◌, append_assoc, arith, length-append}
use Rattle.buffer.specs.Same.{Bytes}
use Rattle.resp3.specs.Value.{underscore, blob_null, array_null, Value, Values, Pairs, blob_string, simple_string, simple_error, number, null_as, null}
use Rattle.resp3.specs.Value.{double, boolean, blob_error, verbatim_string, big_number, array, map, set, attribute, push, none, more, nil, pair}
use Rattle.resp3.specs.Value.{count, count_pairs, deepest, deepest_pairs, Valids, ValidPairs, enc, encs, enc_pairs, encode}

-- ---- what is written does not look at what follows

mutual
  enc-append : (v : Value) (q r : Bytes) → enc v (q ++ r) ≡ enc v q ++ r
  enc-append (blob_string xs) q r = simp append_assoc
  enc-append (simple_string xs) q r = simp append_assoc
  enc-append (simple_error xs) q r = simp append_assoc
  enc-append (number z) q r = simp append_assoc
  enc-append (null_as underscore) q r = refl
  enc-append (null_as blob_null) q r = refl
  enc-append (null_as array_null) q r = refl
  enc-append (double xs) q r = simp append_assoc
  enc-append (boolean b) q r = refl
  enc-append (blob_error xs) q r = simp append_assoc
  enc-append (verbatim_string f xs) q r = simp append_assoc
  enc-append (big_number xs) q r = simp append_assoc
  enc-append (array vs) q r = simp (append_assoc, encs-append vs q r)
  enc-append (map ps) q r = simp (append_assoc, enc_pairs-append ps q r)
  enc-append (set vs) q r = simp (append_assoc, encs-append vs q r)
  enc-append (attribute ps v) q r = simp (append_assoc, enc-append v q r, enc_pairs-append ps (enc v q) r)
  enc-append (push vs) q r = simp (append_assoc, encs-append vs q r)

  encs-append : (vs : Values) (q r : Bytes) → encs vs (q ++ r) ≡ encs vs q ++ r
  encs-append none q r = refl
  encs-append (more v vs) q r = ap (enc v) (encs-append vs q r) ∙ enc-append v (encs vs q) r

  enc_pairs-append : (ps : Pairs) (q r : Bytes) → enc_pairs ps (q ++ r) ≡ enc_pairs ps q ++ r
  enc_pairs-append nil q r = refl
  enc_pairs-append (pair k v ps) q r =
      ap (λ (l : Bytes). enc k (enc v l)) (enc_pairs-append ps q r) ∙ ap (enc k) (enc-append v (enc_pairs ps q) r) ∙ enc-append k (enc v (enc_pairs ps q)) r

-- a value with r after it: its bytes, and r
pub enc-is : (v : Value) (r : Bytes) → enc v r ≡ encode v ++ r
unfolding encode
enc-is v r = enc-append v [] r

-- ---- a value has at least one byte, so a row has at least as many bytes as values

mutual
  pub longer : (v : Value) (r : Bytes) → length r < length (enc v r)
  longer (blob_string xs) r = simp length-append (omega arith)
  longer (simple_string xs) r = simp length-append (omega arith)
  longer (simple_error xs) r = simp length-append (omega arith)
  longer (number z) r = simp length-append (omega arith)
  longer (null_as underscore) r = omega arith
  longer (null_as blob_null) r = omega arith
  longer (null_as array_null) r = omega arith
  longer (double xs) r = simp length-append (omega arith)
  longer (boolean b) r = omega arith
  longer (blob_error xs) r = simp length-append (omega arith)
  longer (verbatim_string f xs) r = simp length-append (omega arith)
  longer (big_number xs) r = simp length-append (omega arith)
  longer (array vs) r = let k = room vs r in simp length-append (omega arith)
  longer (map ps) r = let k = room_pairs ps r in simp length-append (omega arith)
  longer (set vs) r = let k = room vs r in simp length-append (omega arith)
  longer (attribute ps v) r = let j = longer v r in let k = room_pairs ps (enc v r) in simp length-append (omega arith)
  longer (push vs) r = let k = room vs r in simp length-append (omega arith)

  pub room : (vs : Values) (r : Bytes) → count vs + length r ≤ length (encs vs r)
  room none r = omega arith
  room (more v vs) r = let k = longer v (encs vs r) in let j = room vs r in omega arith

  pub room_pairs : (ps : Pairs) (r : Bytes) → count_pairs ps + length r ≤ length (enc_pairs ps r)
  room_pairs nil r = omega arith
  room_pairs (pair k v ps) r = let i = longer k (enc v (enc_pairs ps r)) in let l = longer v (enc_pairs ps r) in let j = room_pairs ps r in omega arith

-- ---- pairs, and then values, as one row

-- pairs, then values
abbrev pub flat : Pairs → Values → Values
flat nil vs = vs
flat (pair k v ps) vs = more k (more v (flat ps vs))

-- it is written as they are
pub flat-enc : (ps : Pairs) (vs : Values) (r : Bytes) → encs (flat ps vs) r ≡ enc_pairs ps (encs vs r)
flat-enc nil vs r = refl
flat-enc (pair k v ps) vs r = ap (λ (l : Bytes). enc k (enc v l)) (flat-enc ps vs r)

-- how many values it has
pub flat-count : (ps : Pairs) (vs : Values) → count (flat ps vs) ≡ count_pairs ps + count_pairs ps + count vs
flat-count nil vs = omega arith
flat-count (pair k v ps) vs = let i = flat-count ps vs in omega arith

-- it is valid if they are
pub flat-valid : (ps : Pairs) (vs : Values) → ValidPairs ps → Valids vs → Valids (flat ps vs)
flat-valid nil vs h g = g
flat-valid (pair k v ps) vs h g = (h.0, (h.1, flat-valid ps vs h.2 g))

-- and no deeper
pub flat-deep : (ps : Pairs) (vs : Values) (d : ℕ) → deepest_pairs ps ≤ d → deepest vs ≤ d → deepest (flat ps vs) ≤ d
flat-deep nil vs d h g = g
flat-deep (pair k v ps) vs d h g = let i = flat-deep ps vs d (omega arith) g in omega arith

-- and back
pub valid-flat : (ps : Pairs) (vs : Values) → Valids (flat ps vs) → ValidPairs ps × Valids vs
valid-flat nil vs h = (tt, h)
valid-flat (pair k v ps) vs h = let i = valid-flat ps vs h.1.1 in ((h.0, h.1.0, i.0), i.1)

-- the same of the depth
pub deep-flat : (ps : Pairs) (vs : Values) (d : ℕ) → deepest (flat ps vs) ≤ d → (deepest_pairs ps ≤ d) × (deepest vs ≤ d)
deep-flat nil vs d h = (omega arith, h)
deep-flat (pair k v ps) vs d h = let i = deep-flat ps vs d (omega arith) in (omega arith, i.1)

-- the first of a row, and the others
abbrev pub head_of : Values → Value
head_of none = null
head_of (more v vs) = v

-- the others
abbrev pub tail_of : Values → Values
tail_of none = none
tail_of (more v vs) = vs

-- a row's first n pairs, and what comes after them
abbrev pub pair_up : ℕ → Values → Pairs
pair_up zero ws = nil
pair_up (suc n) ws = pair (head_of ws) (head_of (tail_of ws)) (pair_up n (tail_of (tail_of ws)))

-- what comes after them
abbrev pub skip : ℕ → Values → Values
skip zero ws = ws
skip (suc n) ws = skip n (tail_of (tail_of ws))

-- pairs laid out are gathered again
pub pairs-flat : (ps : Pairs) (vs : Values) → pair_up (count_pairs ps) (flat ps vs) ≡ ps
pairs-flat nil vs = refl
pairs-flat (pair k v ps) vs = ap (pair k v) (pairs-flat ps vs)

-- and the values behind them
pub skip-flat : (ps : Pairs) (vs : Values) → skip (count_pairs ps) (flat ps vs) ≡ vs
skip-flat nil vs = refl
skip-flat (pair k v ps) vs = skip-flat ps vs

-- a row of n pairs and m values more
pub record Paired (n m : ℕ) (ws : Values) : Type 0 where
  pub is : flat (pair_up n ws) (skip n ws) ≡ ws
  pub pairs : count_pairs (pair_up n ws) ≡ n
  pub others : count (skip n ws) ≡ m

-- so is a row of 2n + m values
pub paired : (n m : ℕ) (ws : Values) → count ws ≡ n + n + m → Paired n m ws
paired zero m ws h = record { is = refl; pairs = refl; others = omega arith }
paired (suc n) m none h = absurd (omega arith)
paired (suc n) m (more k none) h = absurd (omega arith)
paired (suc n) m (more k (more v ws)) h =
    let i = paired n m ws (omega arith) in
    record { is = ap (λ (l : Values). more k (more v l)) i.is; pairs = ap suc i.pairs; others = i.others }

-- a row of no value, and of one
pub row-none : (ws : Values) → count ws ≡ 0 → ws ≡ none
row-none none h = refl
row-none (more w ws) h = absurd (omega arith)

-- a row of one value
pub row_one : (ws : Values) → count ws ≡ 1 → ws ≡ more (head_of ws) none
row_one none h = absurd (omega arith)
row_one (more w none) h = refl
row_one (more w (more v ws)) h = absurd (omega arith)
