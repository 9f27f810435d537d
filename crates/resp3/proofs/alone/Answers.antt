-- `resp3::alone` meets its contract. Assumes nothing.
use Rattle.std.specs.Prelude.{◌≡◌, ℕ, Option, Some, None, MatchOption, IsSomeAnd}
use Rattle.std.proofs.Common.{ap, rules}
use Rattle.resp3.specs.Ends.{alone_of}
use Rattle.resp3.proofs.alone.Goals as goal

-- what `map` says, where its closure gives (0, e) of e
mapped : (x : Option ℕ) (r : Option (ℕ × ℕ)) {P : ℕ → ℕ × ℕ → Type 0} → ((e : ℕ) (y : ℕ × ℕ) → P e y → y ≡ (0, e))
    → MatchOption x (r ≡ None) (λ e. IsSomeAnd r (P e))
    → r ≡ alone_of x
mapped None r k h = h
mapped (Some e) None k h = absurd h
mapped (Some e) (Some y) k h = ap Some (k e y h)

pub returns : goal.returns
returns c = mapped _ _ (λ e y p. search rules) c.map.ensures.cases
