-- A blob string that stands within other bytes, and that it is a value. Assumes nothing.
use Rattle.std.specs.Prelude.{Some}
use mathlib.Core.Path.{◌≡◌, ap, ◌∙◌}
use mathlib.Core.Bool.{true}
use mathlib.Core.List.{◌∷◌, ◌++◌}
use Prim.Native.Nat.{ℕ, suc, ◌+◌, ◌-◌, ◌≤◌, ◌<◌}
use native.Mathlib.Omega.{arith}
use native.Mathlib.Numerals.{add-one}
use lib.ListN.{length, get_or, drop, length-append, length-drop}
use lib.Seq.{drop-cons}
use Rattle.buffer.specs.Same.{Bytes}
use Rattle.buffer.specs.Part.{part}
use Rattle.buffer.specs.PartLaws.{length_part, part-drop, drop-part}
use Rattle.config.specs.Limits.{max_bytes}
use Rattle.decimal.specs.Digits.{digits}
use Rattle.decimal.specs.Read.{crlf_b, num_def}
use Rattle.decimal.specs.NumSound.{num-sound, crlf-sound}
use Rattle.resp3.specs.Value.{Value, blob_string, enc, encode}
use Rattle.resp3.specs.Ends.{is_value}
use Rattle.resp3.specs.Rows.{enc-is}
use Rattle.resp3.proofs.Law.{value-law}

-- what stands from `from` on: the blob string of the n bytes at e, and what follows it
blob-stands : (s : Bytes) (lim from n e : ℕ) → from < length s → get_or s from 0 ≡ 36 → num_def lim s (from + 1) ≡ Some (n, e) → e + n ≤ length s
    → crlf_b s (e + n) ≡ true → drop from s ≡ encode (blob_string (part s e n)) ++ drop (e + n + 2) s
blob-stands s lim from n e h g q l k =
    let xs : Bytes = part s e n in
    let R : Bytes = drop (e + n + 2) s in
    let lx : length xs ≡ n = length_part s e n l in
    let a : drop from s ≡ 36 ∷ drop (from + 1) s = rw (add-one from) (drop-cons s from 0 h ∙ ap (λ (x : ℕ). x ∷ drop (suc from) s) g) in
    let b : drop (from + 1) s ≡ digits n ++ (13 ∷ 10 ∷ drop e s) = (num-sound lim s (from + 1) n e q).1 in
    let d : drop e s ≡ xs ++ (13 ∷ 10 ∷ R) = drop-part s e n ∙ ap (◌++◌ xs) (crlf-sound s (e + n) k) in
    let w : enc (blob_string xs) R ≡ 36 ∷ (digits n ++ (13 ∷ 10 ∷ (xs ++ (13 ∷ 10 ∷ R)))) =
    ap (λ (m : ℕ). 36 ∷ (digits m ++ (13 ∷ 10 ∷ (xs ++ (13 ∷ 10 ∷ R))))) lx in
    cc (enc-is (blob_string xs) R)

-- a blob string that begins at `from` and ends at `to` is a value
pub blob-value : (s : Bytes) (lim from to n e : ℕ) → from < to → to ≤ length s → to - from ≤ max_bytes → get_or s from 0 ≡ 36
    → num_def lim s (from + 1) ≡ Some (n, e) → e + n + 2 ≡ to → crlf_b s (e + n) ≡ true → is_value (part s from (to - from)) ≡ true
blob-value s lim from to n e o h small g q p k =
    let v : Value = blob_string (part s e n) in
    let R : Bytes = drop (e + n + 2) s in
    let z = blob-stands s lim from n e (omega arith) g q (omega arith) k in
    let L : length (encode v) ≡ to - from = omega (arith, ap length z, length-drop from s, length-append (encode v) R, length-drop (e + n + 2) s) in
    let is : part s from (to - from) ≡ encode v = (part-drop s (encode v) R from (to - from) z L).0 in
    (value-law (part s from (to - from))).1
    (record { small = omega (arith, length_part s from (to - from) (omega arith)); v = v; means = record { ok = tt; deep = omega arith; is = is } })
