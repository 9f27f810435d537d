-- Demand 3 at work on one sequence: a store, then a planning of two lookups, of which the second is served. So its lookups' clause says something of lookups
-- in a planning, and its assumptions can be met. Runs on a fresh book of one shard of two keys and 400 bytes.
use Rattle.std.specs.Prelude.{◌≡◌, refl, false, List, [], ◌∷◌}
use Rattle.std.proofs.Common.{arith}
use Rattle.std.proofs.Math.Option.{some}
use Rattle.book.specs.Book.{hit, miss, lookup, store, on}
use Rattle.book.specs.Calls.{Call, planning, single}
use Rattle.book.proofs.Cases.{holding, none_yet, a, b, get, u}
use Rattle.book.proofs.CallCases.{wanted, case-defs}
use Rattle.book.proofs.Trace.{Proper}
use Rattle.book.specs.Demand3.{LookupIn, gets, nth, IsServed}
use Rattle.book.proofs.Demand3Laws.{demand-three}

-- the sequence
abbrev pub planned-after-store : List Call
planned-after-store = single (store a get u 10 7) ∷ planning 5 7 (wanted b get ∷ wanted a get ∷ []) (λ xs. false) ∷ []

-- its planning's second lookup
unfoldable pub second-lookup : LookupIn (holding 400) none_yet planned-after-store
unfolding case-defs
second-lookup =
    record {
      before = single (store a get u 10 7) ∷ [];
      call = planning 5 7 (wanted b get ∷ wanted a get ∷ []) (λ xs. false);
      later = [];
      stands = refl;
      said = miss ∷ hit u ∷ [];
      reply = refl;
      earlier = on (lookup b get 5 7) ∷ [];
      key = a;
      command = get;
      clock = 5;
      epoch = 7;
      rest = [];
      event = refl;
    }

-- it gets the value stored
pub second-gets : gets (holding 400) none_yet second-lookup ≡ some (hit u)
unfolding case-defs second-lookup gets nth
second-gets = refl

-- the setup is a proper one
pub holding-proper : Proper (holding 400)
holding-proper = record { some_key = omega arith; in-range = λ k. omega arith }

-- so by demand 3 a residence of its key still runs and serves that value
pub second-served : IsServed (holding 400) none_yet second-lookup u
second-served = ((demand-three (holding 400) holding-proper none_yet planned-after-store).served second-lookup u).0 second-gets
