-- `resp3::is_value` meets its contract. Assumes nothing.
use Rattle.std.specs.Prelude.{◌≡◌, ℕ, Bool, false, eqb, Option, Some, None, MatchOption}
use Rattle.std.proofs.Common.{sym, ◌∙◌, rules}
use Rattle.resp3.specs.Ends.{ends_at}
use Rattle.resp3.specs.Paths as paths
use Rattle.resp3.proofs.is_value.Goals as goal

-- what `is_some_and` says, where its closure compares with n
compared : (x : Option ℕ) (n : ℕ) (r : Bool) {P : ℕ → Type 0} → ((e : ℕ) → P e → r ≡ eqb e n) → MatchOption x (r ≡ false) P → r ≡ ends_at x n
compared None n r k h = h
compared (Some e) n r k h = k e h

pub returns-then-s-gt-MAX_BYTES : goal.returns-then-s-gt-MAX_BYTES
returns-then-s-gt-MAX_BYTES c = sym (paths.value-long _ c.if-s-gt-MAX_BYTES.true)

pub returns : goal.returns
returns c =
    compared c.value_end.result _ _ (λ e p. search rules) c.is_some_and.ensures
    ∙ sym (paths.value-ends _ _ c.if-s-gt-MAX_BYTES.false (sym c.value_end.ensures))
