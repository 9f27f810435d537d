-- `resp3::head_at` meets its contract. Assumes nothing.
use Rattle.std.specs.Prelude.{◌≡◌, ℕ, Option, Some, None, MatchOption}
use Rattle.std.proofs.Common.{sym, ◌∙◌, rules}
use Rattle.buffer.specs.Same.{Bytes}
use Rattle.resp3.specs.Ends.{kind_head, null_head, head_at}
use Rattle.resp3.specs.Paths as paths
use Rattle.resp3.proofs.head_at.Goals as goal

-- what `or_else` says, where its closure gives what null_head does
either : (s : Bytes) (at : ℕ) (x r : Option (ℕ × ℕ)) {P : Type 0} → x ≡ kind_head s at → (P → r ≡ null_head s at)
    → MatchOption x P (λ y. r ≡ Some y) → r ≡ head_at s at
either s at None r e k h = k h ∙ sym (paths.head-else s at (sym e))
either s at (Some (n, q)) r e k h = h ∙ sym (paths.head-found s at n q (sym e))

pub returns : goal.returns
returns c = either _ _ _ _ c.kind_head.ensures (λ p. search rules) c.or_else.ensures
