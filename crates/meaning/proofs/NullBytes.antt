-- What begins with `$-` or `*-`: a null of RESP2's, and no other value. For `Readings` of Meaning.antt. Assumes nothing.
use Rattle.std.specs.Prelude.{◌≡◌, refl, ◌↔◌, true, [], ◌∷◌, ◌++◌, ℕ, eqb}
use Rattle.std.proofs.Common.{sym, ap, ◌∙◌, subst, arith}
use Rattle.std.proofs.lemmas.Bool.{false≢true}
use Prim.Native.Char.{code}
use Rattle.buffer.specs.Same.{Bytes}
use Rattle.buffer.specs.Ascii.{ascii}
use Rattle.resp3.specs.declared.Kind.{Kind}
use Rattle.resp3.specs.declared.Kind.TheVariants.{Null}
use Rattle.resp3.specs.Kinds.{byte_of}
use Rattle.resp3.specs.Ends.{null_byte_b}
use Rattle.resp3.specs.Nulls.{word_byte}
use Rattle.resp3.specs.Value.{Spelling, underscore, blob_null, array_null, Value, null_as, null, spelled, enc, encode, IsValue}
use Rattle.resp3_element.specs.Law.{bytes-are, by-begin}
use Rattle.meaning.proofs.Elements.{null-only}

-- bytes that begin as RESP2's nulls do are a value only where they are one of those
old-only : (b : ℕ) (r : Bytes) → null_byte_b b ≡ true → IsValue (b ∷ code "-" ∷ r) → r ≡ ascii "1\r\n"
old-only b r n i =
    by-begin s v i.means
    (λ w f. absurd (false≢true (sym w ∙ word_byte s 0 refl ∙ n)))
    (λ w k.
    let f = null-only v (ap (λ (j : Kind). eqb (byte_of j) (byte_of Null)) k) in
    spells f.0 (bytes-are s v i.means ∙ ap (λ (z : Value). enc z []) f.1))
  where
    s : Bytes
    s = b ∷ code "-" ∷ r

    v : Value
    v = i.v

    spells : (q : Spelling) → s ≡ spelled q [] → r ≡ ascii "1\r\n"
    spells underscore e = let z : code "-" ≡ code "\r" = cc in absurd (omega arith)
    spells blob_null e = cc
    spells array_null e = cc

-- and every null is a value
old-is : (q : Spelling) → IsValue (spelled q [])
unfolding encode
old-is underscore = record { small = omega arith; v = null; means = record { ok = tt; deep = omega arith; is = refl } }
old-is blob_null = record { small = omega arith; v = null_as blob_null; means = record { ok = tt; deep = omega arith; is = refl } }
old-is array_null = record { small = omega arith; v = null_as array_null; means = record { ok = tt; deep = omega arith; is = refl } }

-- behind `$-`
pub dollar-minus : (r : Bytes) → IsValue (ascii "$-" ++ r) ↔ (r ≡ ascii "1\r\n")
dollar-minus r = (old-only _ r refl, λ e. subst (λ (z : Bytes). IsValue (ascii "$-" ++ z)) (sym e) (old-is blob_null))

-- behind `*-`
pub star-minus : (r : Bytes) → IsValue (ascii "*-" ++ r) ↔ (r ≡ ascii "1\r\n")
star-minus r = (old-only _ r refl, λ e. subst (λ (z : Bytes). IsValue (ascii "*-" ++ z)) (sym e) (old-is array_null))
