-- `get_cached_cmd` meets its contract, by what the command asks for. Assumes nothing.
use mathlib.Core.Path.{◌≡◌, sym, ap, subst, ◌∙◌}
use Rattle.cursor.specs.At.{command_of}
use Rattle.planning.specs.Ask.{ask}
use Rattle.planning_ask.specs.Asked.{asked_of, AskedIn}
use Rattle.planning_ask.specs.declared.Asked.{Asked}
use Rattle.sharded_lru.specs.Lent.{setup_now}
use Rattle.plan_write.specs.Wrote.{room-is}
use Rattle.planning_outcome.specs.Nodes.{nodes_as, nodes-ignored, nodes-not-cacheable}
use Rattle.planning_outcome.specs.Places as places
use Rattle.planning_look_up.specs.Looks as looks
use Rattle.planning_nodes.specs.Prepared as laws
use Rattle.planning_nodes.proofs.get_cached_cmd.Goals as goal

pub ask-requires : goal.ask-requires
ask-requires c = let p = c.requires in (p.0, p.1)

pub write_bare-requires : goal.write_bare-requires
write_bare-requires c =
    let a = c.args in
    let p = c.requires in
    let w = subst (λ (r : Asked). (asked_of a.bytes.now r ≡ ask a.g a.when.clock (command_of a.bytes.now a.head)) × AskedIn a.bytes.now r)
    c.in-Nothing.is c.ask.ensures in
    let q = p.3.arena in
    let rows = q.rows in
    room-is _ _ _ _ (ap nodes_as
    (places.outcome-nothing (setup_now a.g) rows a.when.clock a.when.epoch (ask a.g a.when.clock) (command_of a.bytes.now a.head)
    (sym w.0)) ∙ nodes-ignored)
    (p.4 rows q.lent)

pub write_bare-requires-in-Uncacheable : goal.write_bare-requires-in-Uncacheable
write_bare-requires-in-Uncacheable c =
    let a = c.args in
    let p = c.requires in
    let w = subst (λ (r : Asked). (asked_of a.bytes.now r ≡ ask a.g a.when.clock (command_of a.bytes.now a.head)) × AskedIn a.bytes.now r)
    c.in-Uncacheable.is c.ask.ensures in
    let q = p.3.arena in
    let rows = q.rows in
    room-is _ _ _ _ (ap nodes_as
    (places.outcome-uncacheable (setup_now a.g) rows a.when.clock a.when.epoch (ask a.g a.when.clock) (command_of a.bytes.now a.head)
    (sym w.0))
    ∙ nodes-not-cacheable) (p.4 rows q.lent)

pub write_one-requires : goal.write_one-requires
write_one-requires c =
    let a = c.args in
    let p = c.requires in
    let w = subst (λ (r : Asked). (asked_of a.bytes.now r ≡ ask a.g a.when.clock (command_of a.bytes.now a.head)) × AskedIn a.bytes.now r)
    c.in-OneKey.is c.ask.ensures in (
      p.0,
      w.1,
      p.2,
      p.3,
      λ rows o. room-is _ _ _ _
          (ap nodes_as (places.outcome-one (setup_now a.g) rows a.when.clock a.when.epoch (ask a.g a.when.clock)
          (command_of a.bytes.now a.head) _ _ (sym w.0)))
          (p.4 rows o),
    )

pub write_several-requires : goal.write_several-requires
write_several-requires c =
    let a = c.args in
    let p = c.requires in
    let w = subst (λ (r : Asked). (asked_of a.bytes.now r ≡ ask a.g a.when.clock (command_of a.bytes.now a.head)) × AskedIn a.bytes.now r)
    c.in-SeveralKeys.is c.ask.ensures in (
      w.1,
      p.2,
      p.3,
      λ rows o. room-is _ _ _ _
          (ap nodes_as (places.outcome-several (setup_now a.g) rows a.when.clock a.when.epoch (ask a.g a.when.clock)
          (command_of a.bytes.now a.head) a.bytes.now
          c.in-SeveralKeys.v _ (sym w.0))) (p.4 rows o),
    )

pub returns-in-Nothing : goal.returns-in-Nothing
returns-in-Nothing c =
    let a = c.args in
    let p = c.requires in
    let w = subst (λ (r : Asked). (asked_of a.bytes.now r ≡ ask a.g a.when.clock (command_of a.bytes.now a.head)) × AskedIn a.bytes.now r)
    c.in-Nothing.is c.ask.ensures in
    let d = command_of a.bytes.now a.head in (
      looks.wants-nothing a.g a.when.clock a.when.epoch d a.arena.now a.arena.now a.counts a.counts (sym w.0),
      λ rows o.
          laws.prepares-as _ _ _ _ _ _ _ _ _ _ _ _ _
          (places.outcome-nothing (setup_now a.g) rows a.when.clock a.when.epoch (ask a.g a.when.clock)
          (command_of a.bytes.now a.head) (sym w.0))
          (laws.prepares-ignored _ _ _ _ _ _ _ _ _ _ _ _ c.write_bare.ensures),
    )

pub returns-in-Uncacheable : goal.returns-in-Uncacheable
returns-in-Uncacheable c =
    let a = c.args in
    let p = c.requires in
    let w = subst (λ (r : Asked). (asked_of a.bytes.now r ≡ ask a.g a.when.clock (command_of a.bytes.now a.head)) × AskedIn a.bytes.now r)
    c.in-Uncacheable.is c.ask.ensures in
    let d = command_of a.bytes.now a.head in (
      looks.wants-uncacheable a.g a.when.clock a.when.epoch d a.arena.now a.arena.now a.counts a.counts (sym w.0),
      λ rows o.
          laws.prepares-as _ _ _ _ _ _ _ _ _ _ _ _ _
          (places.outcome-uncacheable (setup_now a.g) rows a.when.clock a.when.epoch (ask a.g a.when.clock)
          (command_of a.bytes.now a.head) (sym w.0))
          (laws.prepares-not-cacheable _ _ _ _ _ _ _ _ _ _ _ _ c.write_bare-in-Uncacheable.ensures),
    )

pub returns-in-OneKey : goal.returns-in-OneKey
returns-in-OneKey c =
    let a = c.args in
    let p = c.requires in
    let w = subst (λ (r : Asked). (asked_of a.bytes.now r ≡ ask a.g a.when.clock (command_of a.bytes.now a.head)) × AskedIn a.bytes.now r)
    c.in-OneKey.is
    c.ask.ensures in
    let d = command_of a.bytes.now a.head in
    let r = c.write_one.ensures in (
      looks.wants-one a.g a.when.clock a.when.epoch d a.arena.now _ a.counts _ _ _ (sym w.0) r.0,
      λ rows o.
          laws.prepares-as _ _ _ _ _ _ _ _ _ _ _ _ _
          (places.outcome-one (setup_now a.g) rows a.when.clock a.when.epoch (ask a.g a.when.clock)
          (command_of a.bytes.now a.head) _ _ (sym w.0)) (r.1 rows o),
    )

pub returns-in-SeveralKeys : goal.returns-in-SeveralKeys
returns-in-SeveralKeys c =
    let a = c.args in
    let p = c.requires in
    let w = subst (λ (r : Asked). (asked_of a.bytes.now r ≡ ask a.g a.when.clock (command_of a.bytes.now a.head)) × AskedIn a.bytes.now r)
    c.in-SeveralKeys.is
    c.ask.ensures in
    let d = command_of a.bytes.now a.head in
    let r = c.write_several.ensures in (
      looks.wants-several a.g a.when.clock a.when.epoch d a.arena.now _ a.counts _ a.bytes.now
          c.in-SeveralKeys.v _ (sym w.0) r.0,
      λ rows o.
          laws.prepares-as _ _ _ _ _ _ _ _ _ _ _ _ _
          (places.outcome-several (setup_now a.g) rows a.when.clock a.when.epoch (ask a.g a.when.clock)
          (command_of a.bytes.now a.head) a.bytes.now
          c.in-SeveralKeys.v _ (sym w.0)) (r.1 rows o d),
    )
