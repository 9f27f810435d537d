-- `planning_dry_pass::size_by` meets its contract. Assumes nothing.
use mathlib.Core.Path.{◌≡◌, sym, subst}
use Rattle.cursor.specs.At.{command_of}
use Rattle.planning.specs.Ask.{ask}
use Rattle.planning_ask.specs.Asked.{asked_of, AskedIn}
use Rattle.planning_ask.specs.declared.Asked.{Asked}
use Rattle.sharded_lru.specs.Lent.{setup_now}
use Rattle.planning_outcome.specs.Places as places
use Rattle.planning_dry_pass.specs.Dry.{sized-is}
use Rattle.planning_dry_pass.proofs.size_by.Goals as goal

pub ask-requires : goal.ask-requires
ask-requires c = let w = c.requires.0 in (w.here, w.times)

pub size_own-requires : goal.size_own-requires
size_own-requires c = let w = c.requires in (w.0.here, w.1, w.0.count)

pub size_own-requires-in-Uncacheable : goal.size_own-requires-in-Uncacheable
size_own-requires-in-Uncacheable c = let w = c.requires in (w.0.here, w.1, w.0.count)

pub size_one-requires : goal.size_one-requires
size_one-requires c =
    let a = c.args in
    let w = subst (λ (r : Asked). (asked_of a.bytes.now r ≡ ask a.g a.when.clock (command_of a.bytes.now a.head)) × AskedIn a.bytes.now r)
    c.in-OneKey.is c.ask.ensures in
    let p = c.requires in
    (p.0.here, p.1, p.0.count, w.1, p.2)

pub size_several-requires : goal.size_several-requires
size_several-requires c =
    let a = c.args in
    let w = subst (λ (r : Asked). (asked_of a.bytes.now r ≡ ask a.g a.when.clock (command_of a.bytes.now a.head)) × AskedIn a.bytes.now r)
    c.in-SeveralKeys.is c.ask.ensures in
    let p = c.requires in
    (w.1, p.1, p.2)

pub returns-in-Nothing : goal.returns-in-Nothing
returns-in-Nothing c =
    let a = c.args in
    let w = subst (λ (r : Asked). (asked_of a.bytes.now r ≡ ask a.g a.when.clock (command_of a.bytes.now a.head)) × AskedIn a.bytes.now r)
    c.in-Nothing.is c.ask.ensures in
    λ rows o.
    sized-is a.g rows a.when.clock a.when.epoch _ _ _
    (places.outcome-nothing (setup_now a.g) rows a.when.clock a.when.epoch (ask a.g a.when.clock) _ (sym w.0))
    (c.size_own.ensures a.g.mode).0

pub returns-in-Uncacheable : goal.returns-in-Uncacheable
returns-in-Uncacheable c =
    let a = c.args in
    let w = subst (λ (r : Asked). (asked_of a.bytes.now r ≡ ask a.g a.when.clock (command_of a.bytes.now a.head)) × AskedIn a.bytes.now r)
    c.in-Uncacheable.is c.ask.ensures in
    λ rows o.
    sized-is a.g rows a.when.clock a.when.epoch _ _ _
    (places.outcome-uncacheable (setup_now a.g) rows a.when.clock a.when.epoch (ask a.g a.when.clock) _ (sym w.0))
    (c.size_own-in-Uncacheable.ensures a.g.mode).1

pub returns-in-OneKey : goal.returns-in-OneKey
returns-in-OneKey c =
    let a = c.args in
    let w = subst (λ (r : Asked). (asked_of a.bytes.now r ≡ ask a.g a.when.clock (command_of a.bytes.now a.head)) × AskedIn a.bytes.now r)
    c.in-OneKey.is c.ask.ensures in
    λ rows o.
    sized-is a.g rows a.when.clock a.when.epoch _ _ _
    (places.outcome-one (setup_now a.g) rows a.when.clock a.when.epoch (ask a.g a.when.clock) _ _ _ (sym w.0))
    (c.size_one.ensures rows o _)

pub returns-in-SeveralKeys : goal.returns-in-SeveralKeys
returns-in-SeveralKeys c =
    let a = c.args in
    let w = subst (λ (r : Asked). (asked_of a.bytes.now r ≡ ask a.g a.when.clock (command_of a.bytes.now a.head)) × AskedIn a.bytes.now r)
    c.in-SeveralKeys.is c.ask.ensures in
    λ rows o.
    sized-is a.g rows a.when.clock a.when.epoch _ _ _
    (places.outcome-several (setup_now a.g) rows a.when.clock a.when.epoch (ask a.g a.when.clock) _ a.bytes.now
    c.in-SeveralKeys.v _ (sym w.0))
    (c.size_several.ensures rows o _ _)
