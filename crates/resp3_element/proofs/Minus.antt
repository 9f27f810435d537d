-- Signed numbers of 64 bits: -1 - m, and a number that went through its bits. Assumes nothing.
use mathlib.Core.Path.{◌≡◌, refl, ap, ◌∙◌}
use Prim.Native.Nat.{ℕ, zero, suc, ◌<◌, ◌^◌}
use native.Mathlib.Nat.{zero-add}
use lib.IntN.{ℤ, pos, negsuc, ◌-ℤ◌}
use mir.Val.{SFits, to_z, of_z}
use mir.Syntax.{w64}
use mir.ValLaws.{to_z_pos, to_z-of_z}

minus : (m : ℕ) → negsuc 0 -ℤ pos m ≡ negsuc m
minus zero = refl
minus (suc k) = ap (λ (j : ℕ). negsuc (suc j)) (zero-add k)

is : (m : ℕ) → m < 2 ^ 63 → negsuc 0 -ℤ to_z w64 m ≡ negsuc m
is m h = ap (λ (z : ℤ). negsuc 0 -ℤ z) (to_z_pos w64 m h) ∙ minus m

-- -1 - m fits
pub fits : (m : ℕ) → m < 2 ^ 63 → SFits w64 (negsuc 0 -ℤ to_z w64 m)
fits m h = rw (is m h) (record { sfits = h })

-- and is that
pub back : (m : ℕ) → m < 2 ^ 63 → to_z w64 (of_z w64 (negsuc 0 -ℤ to_z w64 m)) ≡ negsuc m
back m h = to_z-of_z w64 (negsuc 0 -ℤ to_z w64 m) (fits m h) ∙ is m h

-- a number that is put into an enum comes back
pub of-negsuc : (z : ℤ) (m : ℕ) → z ≡ negsuc m → m < 2 ^ 63 → to_z w64 (of_z w64 z) ≡ negsuc m
of-negsuc z m e h = rw e (to_z-of_z w64 (negsuc m) (record { sfits = h }))

pub of-pos : (z : ℤ) (m : ℕ) → z ≡ pos m → m < 2 ^ 63 → to_z w64 (of_z w64 z) ≡ pos m
of-pos z m e h = rw e (to_z-of_z w64 (pos m) (record { sfits = h }))
