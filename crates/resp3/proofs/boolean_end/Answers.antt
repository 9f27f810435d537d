-- `resp3::boolean_end` meets its contract. Assumes nothing.
use Rattle.std.specs.Prelude.{◌≡◌, ◌⊎◌, ℕ, ◌+◌, get_or}
use Rattle.std.proofs.Common.{inl, inr, sym, ◌∙◌, rules}
use Rattle.buffer.specs.Same.{Bytes}
use Rattle.resp3.specs.Ends.{crlf_end, boolean_end}
use Rattle.resp3.specs.Paths as paths
use Rattle.resp3.proofs.boolean_end.Goals as goal

-- f or t
flag : (s : Bytes) (at : ℕ) → (get_or s at 0 ≡ 102) ⊎ (get_or s at 0 ≡ 116) → boolean_end s at ≡ crlf_end s (at + 1)
flag s at (inl h) = paths.bool-f s at h
flag s at (inr h) = paths.bool-t s at h

pub returns-then-at-s : goal.returns-then-at-s
returns-then-at-s c = sym (paths.bool-out _ _ c.if-at-s.true)

pub returns-in-116 : goal.returns-in-116
returns-in-116 c = c.crlf_end.ensures ∙ sym (flag _ _ c.in-116.is)

pub returns-in_default : goal.returns-in_default
returns-in_default c = sym (paths.bool-else _ _ (search rules) (search rules))
