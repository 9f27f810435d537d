-- What is packed is one RESP3 value, the array of its arguments, and reads back as them. Assumes nothing.
use Rattle.std.specs.Prelude.{◌≡◌, refl, List, [], ◌∷◌, ◌++◌, ℕ, suc, ◌≤◌, length}
use Rattle.std.proofs.Common.{sym, ap, ap₂, ◌∙◌, append_assoc, arith}
use Rattle.buffer.specs.Same.{Bytes}
use Rattle.decimal.specs.Digits.{digits}
use Rattle.resp3.specs.Value.{blob_string, count, deepest, Valids, counted, enc, encs, encode, Means}
use Rattle.resp3.specs.Decode.{decode}
use Rattle.resp3.proofs.Law.{decode-law}
use Rattle.cmd.specs.Pack.{blobs, command_value, packed, head, blob, blob_bytes}

-- ---- it is read back

-- blobs are valid
pub blobs-valid : (ts : List Bytes) → Valids (blobs ts)
unfolding blobs
blobs-valid [] = tt
blobs-valid (t ∷ ts) = (tt, blobs-valid ts)

-- they nest one level
pub blobs-deep : (ts : List Bytes) → deepest (blobs ts) ≤ 1
unfolding blobs
blobs-deep [] = omega arith
blobs-deep (t ∷ ts) = let h = blobs-deep ts in omega arith

-- DEMAND 2 ON PACKING: what is packed is exactly one RESP3 value, the array of the arguments as blobs
pub packed-means : (ts : List Bytes) → Means (packed ts) (command_value ts)
unfolding packed
packed-means ts = record { ok = blobs-valid ts; deep = let h = blobs-deep ts in omega arith; is = refl }

-- and the reader reads it back as just that
pub packed-read : (ts : List Bytes) → decode (packed ts) ≡ command_value ts
packed-read ts = decode-law (packed ts) (command_value ts) (packed-means ts)

-- they are written one after the other
blobs-enc : (ts : List Bytes) → encs (blobs ts) [] ≡ blob_bytes ts
unfolding blobs blob_bytes blob
blobs-enc [] = refl
blobs-enc (t ∷ ts) =
    ap (λ (r : Bytes). enc (blob_string t) r) (blobs-enc ts) ∙ sym (ap (λ (x : Bytes). 36 ∷ x) (one t (blob_bytes ts)))
  where
    one : (t r : Bytes) → ((digits (length t) ++ (13 ∷ 10 ∷ [])) ++ (t ++ (13 ∷ 10 ∷ []))) ++ r ≡ digits (length t) ++ (13 ∷ 10 ∷ (t ++ (13 ∷ 10 ∷ r)))
    one t r = simp append_assoc

-- as many as texts
blobs-count : (ts : List Bytes) → count (blobs ts) ≡ length ts
unfolding blobs
blobs-count [] = refl
blobs-count (t ∷ ts) = ap suc (blobs-count ts)

-- a packed command is the head of an array and its blobs
pub packed-pieces : (ts : List Bytes) → packed ts ≡ head 42 (length ts) ++ blob_bytes ts
unfolding packed encode
packed-pieces ts =
    ap₂ (λ (n : ℕ) (r : Bytes). 42 ∷ counted n r) (blobs-count ts) (blobs-enc ts)
    ∙ sym (ap (λ (x : Bytes). 42 ∷ x) (append_assoc (digits (length ts)) (13 ∷ 10 ∷ []) (blob_bytes ts)))
