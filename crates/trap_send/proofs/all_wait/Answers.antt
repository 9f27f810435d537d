-- `all_wait` meets its contract, by what the command asks for. Assumes nothing.
use mathlib.Core.Path.{◌≡◌, sym, subst}
use Rattle.cursor.specs.At.{command_of}
use Rattle.planning.specs.Ask.{ask}
use Rattle.planning_ask.specs.Asked.{asked_of, AskedIn}
use Rattle.planning_ask.specs.declared.Asked.{Asked}
use Rattle.trap_send.specs.Blank as laws
use Rattle.trap_send.proofs.all_wait.Goals as goal

pub ask-requires : goal.ask-requires
ask-requires c = let w = c.requires.0 in (w.here, w.times)

pub returns-then-n-eq0 : goal.returns-then-n-eq0
returns-then-n-eq0 c =
    let a = c.args in
    let p = c.requires in
    let w = subst (λ (r : Asked). (asked_of a.bytes.now r ≡ ask a.g a.clock (command_of a.bytes.now a.head)) × AskedIn a.bytes.now r)
    c.in-SeveralKeys.is c.ask.ensures in
    λ e. laws.waits-none a.g a.clock e a.bytes.now a.head p.1 _ _ w.1 (sym w.0) _ c.if-n-eq0.true

pub returns-in-Nothing : goal.returns-in-Nothing
returns-in-Nothing c =
    let a = c.args in
    let p = c.requires in
    let w = subst (λ (r : Asked). (asked_of a.bytes.now r ≡ ask a.g a.clock (command_of a.bytes.now a.head)) × AskedIn a.bytes.now r)
    c.in-Nothing.is c.ask.ensures in
    λ e. laws.waits-nothing a.g a.clock e a.bytes.now a.head p.1 _ (sym w.0)

pub returns-in-Uncacheable : goal.returns-in-Uncacheable
returns-in-Uncacheable c =
    let a = c.args in
    let p = c.requires in
    let w = subst (λ (r : Asked). (asked_of a.bytes.now r ≡ ask a.g a.clock (command_of a.bytes.now a.head)) × AskedIn a.bytes.now r)
    c.in-Uncacheable.is c.ask.ensures in
    λ e. laws.waits-uncacheable a.g a.clock e a.bytes.now a.head p.1 _ (sym w.0)

pub returns-in-OneKey : goal.returns-in-OneKey
returns-in-OneKey c =
    let a = c.args in
    let p = c.requires in
    let w = subst (λ (r : Asked). (asked_of a.bytes.now r ≡ ask a.g a.clock (command_of a.bytes.now a.head)) × AskedIn a.bytes.now r)
    c.in-OneKey.is c.ask.ensures in
    λ e. laws.waits_one a.g a.clock e a.bytes.now a.head p.1 _ _ _ w.1 (sym w.0)

pub returns-else-n-eq0 : goal.returns-else-n-eq0
returns-else-n-eq0 c =
    let a = c.args in
    let p = c.requires in
    let w = subst (λ (r : Asked). (asked_of a.bytes.now r ≡ ask a.g a.clock (command_of a.bytes.now a.head)) × AskedIn a.bytes.now r)
    c.in-SeveralKeys.is c.ask.ensures in
    λ e. laws.waits-several a.g a.clock e a.bytes.now a.head p.1 c.in-SeveralKeys.v _ w.1 (sym w.0)
    c.if-n-eq0.false
