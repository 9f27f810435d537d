-- `resp3_prefix::count_begun` meets its contract: the digits, and the CR LF behind them. Assumes nothing.
use Rattle.std.specs.Prelude.{◌≡◌, ℕ, ◌<◌, leb, eqb, length, get_or, drop, Option, Some, None}
use Rattle.std.proofs.Common.{sym, ap, ◌∙◌, arith}
use borrow.Author.Tests.{lt-leb}
use Rattle.buffer.specs.Cases.{by_test}
use Rattle.buffer.specs.Same.{Bytes}
use Rattle.decimal.specs.Read.{lead, val_acc, digits_at}
use Rattle.decimal.specs.ReadLaws.{digits-in}
use Rattle.resp3_prefix.specs.declared.Count.{Count}
use Rattle.resp3_prefix.specs.declared.Count.TheVariants.{Never as NoCount}
use Rattle.resp3_prefix.specs.Begun.{count_end, count_begun}
use Rattle.resp3_prefix.specs.Paths as paths
use Rattle.resp3_prefix.proofs.count_begun.Goals as goal

-- the digits, and what stands behind them
abbrev counted_of : Bytes → Option (ℕ × ℕ) → Count
counted_of s (Some (v, e)) = count_end s e v
counted_of s None = NoCount

count-digits : (lim : ℕ) (s : Bytes) (at : ℕ) → at < length s → count_begun lim s at ≡ counted_of s (digits_at lim s at)
unfolding count_begun digits_at
count-digits lim s at l =
    by_test (eqb (get_or s at 0) 48)
    (λ a. rw (lt-leb (length s) at l, a))
    (λ a.
    by_test (eqb (lead (drop at s)) 0)
    (λ b. rw (lt-leb (length s) at l, a, b))
    (λ b.
    by_test (leb (val_acc 0 (drop at s)) lim)
    (λ c. rw (lt-leb (length s) at l, a, b, c))
    (λ c. rw (lt-leb (length s) at l, a, b, c))))

pub returns-then-at-s : goal.returns-then-at-s
returns-then-at-s c = sym (paths.count-out _ _ _ c.if-at-s.true)

pub count_end-requires : goal.count_end-requires
count_end-requires c = (c.requires, omega (arith, c.requires, digits-in _ _ _ _ _ (sym c.digits_at.ensures ∙ c.in-Some.is)))

pub returns-in-Some : goal.returns-in-Some
returns-in-Some c = c.count_end.ensures ∙ sym (count-digits _ _ _ c.if-at-s.false ∙ ap (counted_of _) (sym c.digits_at.ensures ∙ c.in-Some.is))

pub returns-in-None : goal.returns-in-None
returns-in-None c = sym (count-digits _ _ _ c.if-at-s.false ∙ ap (counted_of _) (sym c.digits_at.ensures ∙ c.in-None.is))
