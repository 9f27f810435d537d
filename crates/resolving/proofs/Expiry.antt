-- Expiries: a sum past 64 bits counts as the larger, and none is later than the client's, so all are of 64 bits. Assumes nothing.
-- (Where a definition changes, a worked case is to say so first: this file cites one.)
use Rattle.std.specs.Prelude.{◌≡◌, ℕ, ◌+◌, ◌≤◌, ◌<◌, ◌^◌, pos, negsuc, ltb, Option, Some, None, ℤ}
use Rattle.std.proofs.Common.{arith}
use Rattle.buffer.specs.Cases.{by_test}
use Rattle.resolving.specs.Store.{expiry_of}

-- a sum past 64 bits is never the sooner end (rule S9): the client expiry has 64 bits and is smaller
pub past-64 : (clock client n : ℕ) → client < 2 ^ 64 → 2 ^ 64 ≤ clock + n → expiry_of clock client (Some (pos n)) ≡ client
past-64 clock client n small large = by_test (ltb 0 n) (λ e. rw e (omega arith)) (λ e. rw e)

-- no expiry is later than the client's
pub not-later : (clock client : ℕ) (pttl : Option ℤ) → expiry_of clock client pttl ≤ client
not-later clock client None = omega arith
not-later clock client (Some (pos n)) = by_test (ltb 0 n) (λ e. rw e (omega arith)) (λ e. rw e (omega arith))
not-later clock client (Some (negsuc n)) = omega arith
