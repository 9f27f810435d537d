-- `planning_ask::ask` meets its contract. Assumes nothing.
use mathlib.Core.Path.{◌≡◌, sym, ap, subst, ◌∙◌}
use Prim.Native.Nat.{ℕ}
use Rattle.cursor.specs.At.{range_bytes, args_of, command_of}
use Rattle.planning.specs.Ask.{reach}
use Rattle.planning_ask.specs.Steps.{ask_named}
use Rattle.planning_ask.specs.Asked.{reached_of, ReachedIn}
use Rattle.planning_ask.specs.declared.Reached.{Reached}
use Rattle.planning_ask.specs.Naming as laws
use Rattle.planning_ask.specs.Reaching.{fits-time, named_by}
use Rattle.planning_ask.proofs.ask.Goals as goal

pub calculate_expiration_time-expiry-requires : goal.calculate_expiration_time-expiry-requires
calculate_expiration_time-expiry-requires c =
    let a = c.args in
    let e = subst (λ (r : Reached). (reached_of a.bytes.now r ≡ reach a.g.mode (command_of a.bytes.now a.head))
    × ReachedIn a.bytes.now r) c.in-Named.is c.reach.ensures in
    fits-time _ _ _ _ (sym e.0) c.requires.1

pub ask_named-requires : goal.ask_named-requires
ask_named-requires c =
    let a = c.args in
    let e = subst (λ (r : Reached). (reached_of a.bytes.now r ≡ reach a.g.mode (command_of a.bytes.now a.head))
    × ReachedIn a.bytes.now r) c.in-Named.is c.reach.ensures in
    (c.requires.0, e.1, named_by a.g.mode (command_of a.bytes.now a.head) _ (sym e.0))

pub returns-in-Skipped : goal.returns-in-Skipped
returns-in-Skipped c =
    let a = c.args in
    let e = subst (λ (r : Reached). (reached_of a.bytes.now r ≡ reach a.g.mode (command_of a.bytes.now a.head))
    × ReachedIn a.bytes.now r) c.in-Skipped.is c.reach.ensures in
    (sym (laws.ask-skipped _ _ _ (sym e.0)), tt)

pub returns-in-Stopped : goal.returns-in-Stopped
returns-in-Stopped c =
    let a = c.args in
    let e = subst (λ (r : Reached). (reached_of a.bytes.now r ≡ reach a.g.mode (command_of a.bytes.now a.head))
    × ReachedIn a.bytes.now r) c.in-Stopped.is c.reach.ensures in
    (sym (laws.ask-stopped _ _ _ (sym e.0)), tt)

pub returns-in-Named : goal.returns-in-Named
returns-in-Named c =
    let a = c.args in
    let e = subst (λ (r : Reached). (reached_of a.bytes.now r ≡ reach a.g.mode (command_of a.bytes.now a.head))
    × ReachedIn a.bytes.now r) c.in-Named.is c.reach.ensures in
    let r = c.ask_named.ensures in (
      r.0 ∙ ap (λ (x : ℕ). ask_named (range_bytes a.bytes.now c.in-Named.name)
          (args_of a.bytes.now a.head.args) x) c.calculate_expiration_time-expiry.ensures
          ∙ sym (laws.ask-name a.g a.clock (command_of a.bytes.now a.head) _ (sym e.0)),
      r.1,
    )
