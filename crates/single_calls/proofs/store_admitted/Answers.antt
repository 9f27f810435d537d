-- `single_calls::store_admitted` meets its contract: one law for each way out. Assumes nothing.
use mathlib.Core.Path.{refl, sym, ap, ◌∙◌}
use mathlib.Core.Bool.{not}
use Rattle.std.specs.Prelude.{is_ok}
use Rattle.single_calls.specs.Single.{overlong, wrong_bytes}
use Rattle.single_calls.specs.AsCallLaws.{not-overlong}
use Rattle.single_calls.proofs.Ways.{too_long_lem, bad-bytes, left-refused, store-left}
use Rattle.single_calls.proofs.store_admitted.Goals as goal

pub returns-then-too_long : goal.returns-then-too_long
unfolding overlong
returns-then-too_long c rows lent next w =
    left-refused _ _ refl _ _ _ (too_long_lem _ rows _ _ (sym c.too_long.ensures ∙ c.if-too_long.true))

pub returns-then-not-is_value : goal.returns-then-not-is_value
unfolding overlong wrong_bytes
returns-then-not-is_value c rows lent next w =
    left-refused _ _ refl _ _ _
    (bad-bytes _ rows _ _ (sym c.too_long.ensures ∙ c.if-too_long.false)
    (ap not (sym c.is_value.ensures ∙ c.if-not-is_value.true)))

pub insert-requires : goal.insert-requires
insert-requires c = (
  c.requires,
  not-overlong _ _ _
      (sym c.too_long.ensures ∙ c.if-too_long.false),
  sym c.is_value.ensures
      ∙ c.if-not-is_value.false,
)

pub returns-in-Ok : goal.returns-in-Ok
unfolding overlong wrong_bytes
returns-in-Ok c rows lent next w =
    let r = c.insert.ensures rows w in
    store-left _ _ _ rows _ next c.insert.auto.arena r.0
    (sym c.too_long.ensures
    ∙ c.if-too_long.false)
    (ap not (sym c.is_value.ensures ∙ c.if-not-is_value.false)) lent _ _
    (ap is_ok c.in-Ok.is) r.1

pub returns-in-Err : goal.returns-in-Err
unfolding overlong wrong_bytes
returns-in-Err c rows lent next w =
    let r = c.insert.ensures rows w in
    store-left _ _ _ rows _ next c.insert.auto.arena r.0
    (sym c.too_long.ensures
    ∙ c.if-too_long.false)
    (ap not (sym c.is_value.ensures ∙ c.if-not-is_value.false)) lent _ _
    (ap is_ok c.in-Err.is) r.1
