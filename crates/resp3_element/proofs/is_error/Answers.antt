-- `resp3_element::is_error` meets its contract. Assumes nothing.
use mathlib.Core.Path.{sym}
use Rattle.resp3_element.specs.Law as law
use Rattle.resp3_element.proofs.is_error.Goals as goal

pub returns-then-b-eq45 : goal.returns-then-b-eq45
returns-then-b-eq45 c = record { value = λ v m. sym (law.error-yes _ v _ m c.first_byte-b.ensures c.if-b-eq45.true); any = law.error-at-yes c.args.s.now _ c.first_byte-b.ensures c.if-b-eq45.true }

pub returns : goal.returns
returns c = record { value = λ v m. law.error-else _ v _ m c.first_byte-b.ensures c.if-b-eq45.false; any = law.error-at-else c.args.s.now _ c.first_byte-b.ensures c.if-b-eq45.false }
