-- `resp3::blob_in` meets its contract: what it takes is a blob string (`blob-value`). Assumes nothing.
use mathlib.Core.Path.{sym, ◌∙◌}
use mathlib.Core.Bool.{false≢true}
use native.Mathlib.Omega.{arith}
use Rattle.decimal.specs.ReadLaws.{num-bounds}
use Rattle.resp3.proofs.Blobs.{blob-value}
use Rattle.resp3.proofs.blob_in.Goals as goal

pub returns-then-size-lt6 : goal.returns-then-size-lt6
returns-then-size-lt6 c = λ e. absurd (false≢true e)

pub returns-then-size-gt-MAX_BYTES : goal.returns-then-size-gt-MAX_BYTES
returns-then-size-gt-MAX_BYTES c = λ e. absurd (false≢true e)

pub returns-then-s-from-ne36 : goal.returns-then-s-from-ne36
returns-then-s-from-ne36 c = λ e. absurd (false≢true e)

pub returns-in_default : goal.returns-in_default
returns-in_default c = λ e. absurd (false≢true e)

pub overflow_add-end : goal.overflow_add-end
overflow_add-end c = let k = num-bounds _ _ _ _ _ (sym c.read_num.ensures ∙ c.in-Some.is) in omega arith

pub overflow_add-end-2 : goal.overflow_add-end-2
overflow_add-end-2 c = let k = num-bounds _ _ _ _ _ (sym c.read_num.ensures ∙ c.in-Some.is) in omega arith

pub returns-then-end-to : goal.returns-then-end-to
returns-then-end-to c = λ e. absurd (false≢true e)

pub returns : goal.returns
returns c e =
    let found = sym c.read_num.ensures ∙ c.in-Some.is in
    blob-value _ _ _ _ _ _ (omega arith) (omega arith) (omega arith) c.if-s-from-ne36.false found c.if-end-to.false (sym c.crlf_at.ensures ∙ e)
