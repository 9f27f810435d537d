-- `decimal::read_num` meets its contract: the digits, and the CR LF behind them. Assumes nothing.
use mathlib.Core.Path.{sym, ap, ◌∙◌}
use native.Mathlib.Omega.{arith}
use Rattle.decimal.specs.Read.{ended_def}
use Rattle.decimal.specs.ReadLaws.{crlf-in, num-digits, ended_of}
use Rattle.decimal.proofs.read_num.Goals as goal

pub returns-in_err-v : goal.returns-in_err-v
returns-in_err-v c = c.from_residual.ensures ∙ sym (num-digits _ _ _ ∙ ap (ended_of _) (sym c.digits_at.ensures ∙ c.in_err-v.was))

pub overflow_add-result : goal.overflow_add-result
overflow_add-result c = omega (arith, crlf-in c.args.s.now c.in_ok-v.e (sym c.crlf_at.ensures ∙ c.if-crlf_at.true))

pub returns-then-crlf_at : goal.returns-then-crlf_at
unfolding ended_def
returns-then-crlf_at c =
    sym (num-digits _ _ _ ∙ ap (ended_of _) (sym c.digits_at.ensures ∙ c.in_ok-v.was) ∙ rw (sym c.crlf_at.ensures ∙ c.if-crlf_at.true))

pub returns-else-crlf_at : goal.returns-else-crlf_at
unfolding ended_def
returns-else-crlf_at c =
    sym (num-digits _ _ _ ∙ ap (ended_of _) (sym c.digits_at.ensures ∙ c.in_ok-v.was) ∙ rw (sym c.crlf_at.ensures ∙ c.if-crlf_at.false))
