-- `resp3_element::integer_at` meets its contract. Assumes nothing.
use Rattle.std.specs.Prelude.{Some}
use mathlib.Core.Path.{sym, ap, ◌∙◌}
use native.Mathlib.Omega.{arith}
use borrow.Author.Tests.{eq-eqb, ne_eqb}
use Rattle.decimal.specs.ReadLaws.{num-bounds}
use Rattle.resp3_element.specs.Paths as paths
use Rattle.resp3_element.proofs.Minus as minus
use Rattle.resp3_element.proofs.integer_at.Goals as goal

pub returns-then-first_byte-ne58 : goal.returns-then-first_byte-ne58
returns-then-first_byte-ne58 c = sym (paths.integer-no _ (λ z. c.if-first_byte-ne58.true (c.first_byte.ensures ∙ z)))

pub returns-then-s-lt2 : goal.returns-then-s-lt2
returns-then-s-lt2 c = sym (paths.integer-short _ (sym c.first_byte.ensures ∙ c.if-first_byte-ne58.false) c.if-s-lt2.true)

pub returns-in_err-n : goal.returns-in_err-n
returns-in_err-n c =
    c.from_residual.ensures ∙ sym (paths.integer-minus _ _ (sym c.first_byte.ensures ∙ c.if-first_byte-ne58.false) c.if-s-eq45.true
    (sym c.read_num.ensures ∙ c.in_err-n.was))

pub returns-then-n-eq0 : goal.returns-then-n-eq0
returns-then-n-eq0 c =
    sym (paths.integer-minus _ _ (sym c.first_byte.ensures ∙ c.if-first_byte-ne58.false) c.if-s-eq45.true
    (sym c.read_num.ensures ∙ c.in_ok-n.was) ∙ rw (eq-eqb _ _ c.if-n-eq0.true))

pub negative-requires : goal.negative-requires
negative-requires c =
    let k = num-bounds _ _ _ _ _ (sym c.read_num.ensures ∙ c.in_ok-n.was) in
    omega arith

pub returns-then-s-eq45 : goal.returns-then-s-eq45
returns-then-s-eq45 c =
    let k = num-bounds _ _ _ _ _ (sym c.read_num.ensures ∙ c.in_ok-n.was) in
    let j = c.if-n-eq0.false in
    ap Some (minus.of-negsuc _ _ c.negative.ensures (omega arith))
    ∙ sym (paths.integer-minus _ _
    (sym c.first_byte.ensures
    ∙ c.if-first_byte-ne58.false)
    c.if-s-eq45.true
    (sym c.read_num.ensures ∙ c.in_ok-n.was)
    ∙ rw (ne_eqb _ _ c.if-n-eq0.false))

pub returns-in_err-n-2 : goal.returns-in_err-n-2
returns-in_err-n-2 c =
    c.from_residual-in_err-n-2.ensures ∙ sym (paths.integer-plus _ _ (sym c.first_byte.ensures ∙ c.if-first_byte-ne58.false) c.if-s-eq45.false
    (sym c.read_num-2.ensures ∙ c.in_err-n-2.was))

pub positive-requires : goal.positive-requires
positive-requires c = let k = num-bounds _ _ _ _ _ (sym c.read_num-2.ensures ∙ c.in_ok-n-2.was) in omega arith

pub returns : goal.returns
returns c =
    let k = num-bounds _ _ _ _ _ (sym c.read_num-2.ensures ∙ c.in_ok-n-2.was) in
    ap Some (minus.of-pos _ _ c.positive.ensures (omega arith))
    ∙ sym (paths.integer-plus _ _
    (sym c.first_byte.ensures
    ∙ c.if-first_byte-ne58.false) c.if-s-eq45.false
    (sym c.read_num-2.ensures ∙ c.in_ok-n-2.was))
