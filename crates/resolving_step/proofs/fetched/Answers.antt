-- `resolving_step::fetched` meets its contract. Assumes nothing.
use Rattle.std.specs.Prelude.{Option, ℤ}
use mathlib.Core.Path.{sym, ap, ◌∙◌}
use Rattle.buffer.specs.Part.{part}
use Rattle.resolving.specs.Store.{expiry_of}
use Rattle.resolving_step.specs.Says as says
use Rattle.resolving_step.proofs.fetched.Goals as goal

pub returns-then-is_error : goal.returns-then-is_error
unfolding part
returns-then-is_error c =
    λ p w t v ts b u h m. says.fetched-error p _ _ _ _ w t v c.requires.1 c.requires.2 m
    (sym (c.is_error.ensures.value v m) ∙ c.if-is_error.true)

pub returns : goal.returns
unfolding part
returns c =
    let x = c.args in
    λ p w t v ts b u h m. says.fetched-kept p _ _ _ _ _ _ w t v b u c.requires.1
    c.requires.2 m
    (sym (c.is_error.ensures.value v m) ∙ c.if-is_error.false)
    (c.expire_time-x.ensures ∙ ap (λ (i : Option ℤ). expiry_of x.clock x.m.expiry i)
    (c.number-t.ensures.value t (c.element.ensures.value t ts h)))
