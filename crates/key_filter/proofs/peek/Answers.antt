-- `key_filter::peek` meets its contract: where the key has no item, a lookup misses. Assumes nothing.
use mathlib.Core.Path.{sym, ◌∙◌}
use Rattle.command_key.specs.Key.{key_bytes}
use Rattle.key_filter.specs.Laws.{filters-absent}
use Rattle.key_filter.specs.Absent.{absent-told}
use Rattle.key_filter.proofs.peek.Goals as goal

pub returns-then-absent : goal.returns-then-absent
returns-then-absent c rows l =
    let a = c.args in
    let f = c.requires.0.filters in
    absent-told a.g a.arena.now rows _ (key_bytes a.source.now a.command) a.when.clock a.when.epoch
    (filters-absent a.g _ _ _ f (sym c.may_hold-absent.ensures ∙ c.if-absent.true) rows l)
