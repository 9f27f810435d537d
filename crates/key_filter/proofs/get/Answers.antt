-- `key_filter::get` meets its contract: where the key has no item, a lookup misses and leaves all as it was. Assumes nothing.
use mathlib.Core.Path.{sym, ◌∙◌}
use Rattle.command_key.specs.Key.{key_bytes}
use Rattle.key_filter.specs.Laws.{filters-absent}
use Rattle.key_filter.specs.Absent.{absent-told, absent-lent}
use Rattle.key_filter.proofs.get.Goals as goal

pub returns-then-not-may_hold : goal.returns-then-not-may_hold
returns-then-not-may_hold c rows l =
    let a = c.args in
    let d = key_bytes a.source.now a.command in
    let n = filters-absent a.g _ _ _ c.requires.0.filters
    (sym c.may_hold.ensures ∙ c.if-not-may_hold.true) rows l in (
      absent-lent a.g a.arena.now rows _ d a.when.clock a.when.epoch n l,
      absent-told a.g a.arena.now rows _ d a.when.clock
          a.when.epoch n,
      tt,
    )
