-- The reader agrees with specs/Value.antt: it accepts exactly the bytes of valid values of at most 16 levels and 16 MiB, no bytes
-- are those of two values, and `decode` finds the one. Assumes nothing.
use Rattle.std.specs.Prelude.{◌≡◌, refl, ◌↔◌, true, [], ◌++◌, ℕ, ◌≤◌, max, leb, length, Option, Some, None}
use Rattle.std.proofs.Common.{sym, ap, ◌∙◌, arith, length-drop, leb-true, eqb-true, eq-eqb}
use Rattle.std.proofs.Math.Seq.{drop-length}
use Rattle.buffer.specs.Same.{Bytes}
use Rattle.buffer.specs.Cases.{by_test}
use Rattle.config.specs.Limits.{max_bytes, max_depth}
use Rattle.resp3.specs.Value.{Value, Valid, depth, enc, encode, Means, IsValue}
use Rattle.resp3.specs.Ends.{value_end, ends_at, is_value}
use Rattle.resp3.specs.Paths as paths
use Rattle.resp3.specs.Rows.{enc-is}
use Rattle.resp3.specs.Decode.{value_of, decode}
use Rattle.resp3.proofs.Complete.{Got, read-law}
use Rattle.resp3.specs.Sound.{end-sound}

-- ---- what is accepted is a value

-- what ends at n
ends-says : (x : Option ℕ) (n : ℕ) → ends_at x n ≡ true → x ≡ Some n
ends-says (Some e) n h = ap Some (eqb-true e n h)
ends-says None n h = absurd (let z : ◌≡◌ {A = ℕ} 0 1 = cc in omega arith)

-- a value that ends with the bytes is all of them
whole : (s : Bytes) → value_end max_depth s 0 ≡ Some (length s) → length s ≤ max_bytes → IsValue s
unfolding encode
whole s h l =
    let w = end-sound max_depth s 0 (length s) h in
    record { small = l; v = w.v; means = record { ok = w.ok; deep = w.deep; is = w.is ∙ ap (enc w.v) (drop-length s) } }

-- what the reader accepts is a value
accepted : (s : Bytes) → is_value s ≡ true → IsValue s
unfolding is_value
accepted s h =
    by_test (leb (length s) max_bytes)
    (λ t. whole s (ends-says (value_end max_depth s 0) (length s) (rw t at h)) (leb-true (length s) max_bytes t))
    (λ t. absurd (let k = rw t at h in let z : ◌≡◌ {A = ℕ} 0 1 = cc in omega arith))

-- ---- a value is accepted

-- a value that is all there is
pub means-got : (s : Bytes) (v : Value) → Means s v → Got s [] v (value_end max_depth s 0) (value_of max_depth s 0)
unfolding encode
means-got s v m = read-law max_depth s v m.ok m.deep 0 [] m.is

-- it ends where the bytes end
pub means-ends : (s : Bytes) (v : Value) → Means s v → value_end max_depth s 0 ≡ Some (length s)
means-ends s v m =
    let z = means-got s v m in
    let k : z.e ≡ length s = omega (arith, z.within, length-drop z.e s, ap length z.rest) in
    z.is ∙ ap Some k

-- a value is accepted by the reader
taken : (s : Bytes) → IsValue s → is_value s ≡ true
taken s w = paths.value-ends s _ w.small (means-ends s w.v w.means) ∙ eq-eqb (length s) (length s) refl

-- the reader accepts exactly the values
pub value-law : (s : Bytes) → (is_value s ≡ true) ↔ IsValue s
value-law s = (accepted s, taken s)

-- ---- one value only

-- bytes that are a value's are decoded to it
pub decode-law : (s : Bytes) (v : Value) → Means s v → decode s ≡ v
unfolding decode
decode-law s v m = (means-got s v m).found

-- so accepted bytes mean what they are decoded to
pub value-means : (s : Bytes) → is_value s ≡ true → Means s (decode s)
value-means s e = let w = (value-law s).0 e in rw (decode-law s w.v w.means) w.means

-- no bytes begin with two values
pub unique : (v w : Value) (r q : Bytes) → Valid v → Valid w → encode v ++ r ≡ encode w ++ q → v ≡ w
unique v w r q ok pk h =
    let d : ℕ = max (depth v) (depth w) in
    sym (read-law d (encode v ++ r) v ok (omega arith) 0 r (sym (enc-is v r))).found
    ∙ ap (λ (l : Bytes). value_of d l 0) h
    ∙ (read-law d (encode w ++ q) w pk (omega arith) 0 q (sym (enc-is w q))).found

-- so no two values are written alike
pub encode_injective : (v w : Value) → Valid v → Valid w → encode v ≡ encode w → v ≡ w
encode_injective v w ok pk h = unique v w [] [] ok pk (ap (λ (l : Bytes). l ++ []) h)
