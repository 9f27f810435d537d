-- `planning_look_up::look_up_key` meets its contract. Assumes nothing.
use mathlib.Core.Path.{sym, ◌∙◌}
use Rattle.sharded_lru.specs.Lent.{setup_now}
use Rattle.planning_outcome.specs.Places.{told-place}
use Rattle.planning_look_up.specs.Looks as laws
use Rattle.planning_look_up.proofs.look_up_key.Goals as goal

pub get-looked-requires : goal.get-looked-requires
get-looked-requires c = (c.requires.2, c.requires.1)

pub returns : goal.returns
returns c = λ w p q.
    let a = c.args in
    let k = p ∙ sym c.bytes_in-text.ensures in
    record {
      looks =
          laws.looks-one _ _ _ w _ _ _ _ _ _ c.get-looked.result k q c.counted.ensures
          (λ rows l. let h = c.get-looked.ensures rows l in (h.0, h.1));
      told =
          λ rows l. told-place (setup_now a.g) rows a.when.clock a.when.epoch _ w _ _ c.get-looked.result k q
          (c.get-looked.ensures rows l).1;
    }
