-- New epochs, computed. Assumes nothing.
use Rattle.std.specs.Prelude.{◌≡◌, refl}
use Rattle.caching.specs.Epoch.{epoch_by}

-- the first one after setup, which leaves 1 as the next number
pub first_taken : epoch_by 1 ≡ record { epoch = 1; next = 2 }
first_taken = refl

-- the last number of 64 bits is taken like any other, and then 0 comes
pub last-wraps : epoch_by 18446744073709551615 ≡ record { epoch = 18446744073709551615; next = 0 }
last-wraps = refl
