-- `resp3_prefix::alone` meets its contract. Assumes nothing.
use Rattle.std.specs.Prelude.{◌≡◌, ℕ, Result, Ok, Err, MatchResult, IsOkAnd}
use Rattle.std.proofs.Common.{ap, rules}
use Rattle.resp3_prefix.specs.declared.NotWhole.{NotWhole}
use Rattle.resp3_prefix.specs.Begun.{alone_of}
use Rattle.resp3_prefix.proofs.alone.Goals as goal

-- what `map` says, where its closure gives (0, e) of e
mapped : (x : Result ℕ NotWhole) (r : Result (ℕ × ℕ) NotWhole) {P : ℕ → ℕ × ℕ → Type 0} → ((e : ℕ) (y : ℕ × ℕ) → P e y → y ≡ (0, e))
    → MatchResult x (λ e. IsOkAnd r (P e)) (λ why. r ≡ Err why) → r ≡ alone_of x
mapped (Err why) r k h = h
mapped (Ok e) (Err why) k h = absurd h
mapped (Ok e) (Ok y) k h = ap Ok (k e y h)

pub returns : goal.returns
returns c = mapped _ _ (λ e y p. search rules) c.map.ensures.cases
