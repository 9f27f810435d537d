-- Kinds and their first bytes, in both directions. Assumes nothing.
use Rattle.std.specs.Prelude.{◌≡◌, refl, ◌⊎◌, List, [], ◌∷◌, ℕ, eqb}
use Rattle.std.proofs.Common.{inl, inr, eqb-true}
use Rattle.buffer.specs.Cases.{by_test}
use Rattle.resp3.specs.declared.Kind.{Kind}
use Rattle.resp3.specs.declared.Kind.TheVariants.{BlobString, SimpleString, SimpleError, Number, Null, Double, Boolean, BlobError}
use Rattle.resp3.specs.declared.Kind.TheVariants.{VerbatimString, BigNumber, Array, Map, Set, Attribute, Push, Unknown}
use Rattle.resp3.specs.Kinds.{byte_of, kinds, pick, kind_of}

-- a kind is found by its byte
pub kind-byte : (k : Kind) → kind_of (byte_of k) ≡ k
unfolding kind_of
kind-byte BlobString = refl
kind-byte SimpleString = refl
kind-byte SimpleError = refl
kind-byte Number = refl
kind-byte Null = refl
kind-byte Double = refl
kind-byte Boolean = refl
kind-byte BlobError = refl
kind-byte VerbatimString = refl
kind-byte BigNumber = refl
kind-byte Array = refl
kind-byte Map = refl
kind-byte Set = refl
kind-byte Attribute = refl
kind-byte Push = refl
kind-byte Unknown = refl

-- the same of any list of kinds
pick_known : (b : ℕ) (ks : List Kind) → (b ≡ byte_of (pick b ks)) ⊎ (pick b ks ≡ Unknown)
pick_known b [] = inr refl
pick_known b (k ∷ ks) =
    by_test (eqb b (byte_of k))
    (λ e. inl (rw e (eqb-true b (byte_of k) e)))
    (λ e. rw e (pick_known b ks))

-- a byte begins the kind that it is found as, or none
pub kind-known : (b : ℕ) → (b ≡ byte_of (kind_of b)) ⊎ (kind_of b ≡ Unknown)
unfolding kind_of
kind-known b = pick_known b kinds
