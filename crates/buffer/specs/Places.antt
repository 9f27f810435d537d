-- Laws of a list of bytes read at a place, where past its end a 0 is read. Assumes nothing.
use Rattle.std.specs.Prelude.{◌≡◌, refl, List, [], ◌∷◌, ◌++◌, ℕ, zero, suc, ◌+◌, ◌<◌, ◌≤◌, length, get_or, drop}
use Rattle.std.proofs.Common.{sym, ◌∙◌, arith, add-one, drop-drop, drop-cons}
use Rattle.std.proofs.Math.ListN.{get_or-eq_default}
use Rattle.std.proofs.Math.Seq.{drop-append_seam}

-- past the end a 0 is read
pub get_or-out : (s : List ℕ) (i : ℕ) → length s ≤ i → get_or s i 0 ≡ 0
get_or-out s i h = get_or-eq_default s 0 h

-- an element that is not 0 lies in the list
pub inside : (s : List ℕ) (i : ℕ) → 0 < get_or s i 0 → i < length s
inside [] zero h = omega arith
inside [] (suc i) h = omega arith
inside (x ∷ s) zero h = omega arith
inside (x ∷ s) (suc i) h = let r = inside s i h in omega arith

-- the element at a place is the first of the rest from there
pub get_or-drop0 : (s : List ℕ) (at : ℕ) → get_or s at 0 ≡ get_or (drop at s) 0 0
get_or-drop0 [] zero = refl
get_or-drop0 [] (suc at) = refl
get_or-drop0 (x ∷ s) zero = refl
get_or-drop0 (x ∷ s) (suc at) = get_or-drop0 s at

-- the same, where the rest begins with x
pub first : (s : List ℕ) (at x : ℕ) (r : List ℕ) → drop at s ≡ x ∷ r → get_or s at 0 ≡ x
first s at x r e = get_or-drop0 s at ∙ rw e

-- the rest from a place in the list is the element there and what follows
pub step : (s : List ℕ) (at : ℕ) → at < length s → drop at s ≡ get_or s at 0 ∷ drop (at + 1) s
step s at h = rw add-one (drop-cons s at 0 h)

-- the rest behind a piece that stands at a place
pub after : (s : List ℕ) (at : ℕ) (a r : List ℕ) → drop at s ≡ a ++ r → drop (at + length a) s ≡ r
after s at a r e = sym (drop-drop (length a) at s) ∙ rw e (drop-append_seam a r)
