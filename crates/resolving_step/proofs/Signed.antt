-- A PTTL is a signed number of 64 bits that stands in an enum: what its sign and its size say of the expiry. Assumes nothing.
use Rattle.std.specs.Prelude.{Option, Some}
use mathlib.Core.Path.{◌≡◌, refl, subst}
use mathlib.Core.Bool.{true, false}
use lib.Dec.{T}
use Prim.Native.Nat.{ℕ, ◌+◌, min}
use lib.IntN.{ℤ, pos, negsuc, nat_abs}
use lib.Signed.{le_z, non_neg}
use borrow.Author.Tests.{leb-true, leb-false}
use mir.Val.{SFits, Fits, to_z, of_z}
use mir.Syntax.{w64}
use mir.ValLaws.{to_z-of_z}
use mir.Facts.{Fits-nat_abs}
use Rattle.resolving.specs.Store.{expiry_of}
use Rattle.resolving_step.specs.Says.{pttl-above, pttl-zero}

-- the number that went through its bits
abbrev back : ℤ → ℤ
back z = to_z w64 (of_z w64 z)

-- one that is not above 0
not-above : (clock client : ℕ) (z : ℤ) → le_z z (pos 0) ≡ true → client ≡ expiry_of clock client (Some z)
not-above clock client (pos n) h = pttl-zero clock client n (leb-true n 0 h)
not-above clock client (negsuc n) h = refl

pub no-time : (clock client : ℕ) (pttl : Option ℤ) (z : ℤ) → pttl ≡ Some z → SFits w64 z → le_z (back z) (pos 0) ≡ true → client ≡ expiry_of clock client pttl
no-time clock client pttl z e f h = rw e (not-above clock client z (rw (to_z-of_z w64 z f) at h))

-- one that is
is-above : (clock client r : ℕ) (z : ℤ) → le_z z (pos 0) ≡ false → r ≡ min (clock + nat_abs z) client → r ≡ expiry_of clock client (Some z)
is-above clock client r (pos n) h e = pttl-above clock client n r (leb-false n 0 h) e
is-above clock client r (negsuc n) h e = absurd (subst T h tt)

pub some-time : (clock client r : ℕ) (pttl : Option ℤ) (z : ℤ) → pttl ≡ Some z → SFits w64 z → le_z (back z) (pos 0) ≡ false
    → r ≡ min (clock + nat_abs (back z)) client → r ≡ expiry_of clock client pttl
some-time clock client r pttl z e f h g = rw e (is-above clock client r z (rw (to_z-of_z w64 z f) at h) (rw (to_z-of_z w64 z f) at g))

positive : (z : ℤ) → le_z z (pos 0) ≡ false → T (non_neg z)
positive (pos n) h = tt
positive (negsuc n) h = subst T h tt

-- and it fits 64 bits without a sign
pub casts : (z : ℤ) → SFits w64 z → le_z (back z) (pos 0) ≡ false → T (non_neg (back z)) × Fits w64 (nat_abs (back z))
casts z f h = (positive (back z) h, rw (to_z-of_z w64 z f) (Fits-nat_abs tt f))
