-- `single_calls::lookup_admitted` meets its contract: one law for each way out. Assumes nothing.
use mathlib.Core.Path.{refl, sym, ◌∙◌}
use Rattle.shard_lookup.specs.Whole.{whole_in}
use Rattle.single_calls.specs.Single.{overlong, wrong_bytes}
use Rattle.single_calls.proofs.Ways.{too_long_lem, no-place-left, lookup-refused, whole-get, lookup-left}
use Rattle.single_calls.proofs.lookup_admitted.Goals as goal

pub returns-then-too_long : goal.returns-then-too_long
unfolding overlong
returns-then-too_long c rows next w =
    let r = too_long_lem _ rows _ _ (sym c.too_long.ensures ∙ c.if-too_long.true) in
    lookup-refused _ _ refl _ _ _ _ r (no-place-left _ _ _ _ _ _ r)

pub get-found-requires : goal.get-found-requires
get-found-requires c = (c.requires, whole_in _)

pub returns : goal.returns
unfolding overlong wrong_bytes
returns c rows next w =
    let a = c.args in
    let r = whole-get _ _ rows _ a.command.now _ _ c.get-found.result (c.get-found.ensures rows w) in
    rw c.counted.ensures
    (lookup-left _ _ _ rows _ next c.get-found.auto.arena r.0
    (sym c.too_long.ensures ∙ c.if-too_long.false) refl
    a.counts _ _ c.get-found.result r.1 r.2)
