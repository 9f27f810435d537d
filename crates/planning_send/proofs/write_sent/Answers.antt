-- `write_sent` meets its contract, case by case. Assumes nothing.
use mathlib.Core.Path.{ap, subst, ◌∙◌}
use Rattle.plan_write.specs.Wrote.{wrote-is, wrote_as, wrote_none, room-is}
use Rattle.planning_outcome.specs.declared.CachingResult.{CachingResult}
use Rattle.planning_outcome.specs.declared.CachingResult.TheVariants.{Item}
use Rattle.planning_send.specs.Sends as sends
use Rattle.planning_send.proofs.write_sent.Goals as goal

pub write_command-requires : goal.write_command-requires
write_command-requires c =
    let a = c.args in
    let p = c.requires in
    (p.0, room-is _ _ _ _ (ap (sends.sent_with a.mode a.bytes.now a.head a.src.now a.from) c.in-Ignored.is) p.2)

pub pack_command-requires : goal.pack_command-requires
pack_command-requires c =
    let a = c.args in
    let p = c.requires in
    let q = (c.in-Item.is ∙ ap Item c.in-NotCached.is) in (
      p.0,
      subst (λ (z : CachingResult). sends.ResultSends a.bytes.now a.src.now a.from z) q p.1,
      room-is _ _ _ _
          (ap (sends.sent_with a.mode a.bytes.now a.head a.src.now a.from) q) p.2,
    )

pub write_command-requires-in-NotCacheable : goal.write_command-requires-in-NotCacheable
write_command-requires-in-NotCacheable c =
    let a = c.args in
    let p = c.requires in (
      p.0,
      room-is _ _ _ _
          (ap (sends.sent_with a.mode a.bytes.now a.head a.src.now a.from)
          (c.in-Item.is ∙ ap Item c.in-NotCacheable.is)) p.2,
    )

pub returns-in-Ignored : goal.returns-in-Ignored
returns-in-Ignored c =
    let a = c.args in
    let p = c.requires in
    wrote-is _ _ _ _ _ _
    (ap (sends.sent_with a.mode a.bytes.now a.head a.src.now a.from) c.in-Ignored.is)
    c.write_command.ensures

pub returns-in-Cached : goal.returns-in-Cached
returns-in-Cached c =
    let a = c.args in
    let p = c.requires in
    wrote_none _ _ _ (ap (sends.sent_with a.mode a.bytes.now a.head a.src.now a.from)
    (c.in-Item.is ∙ ap Item c.in-Cached.is))

pub returns-in-NotCached : goal.returns-in-NotCached
returns-in-NotCached c =
    let a = c.args in
    let p = c.requires in
    wrote_as _ _ _ _ _ _
    (ap (sends.sent_with a.mode a.bytes.now a.head a.src.now a.from)
    (c.in-Item.is ∙ ap Item c.in-NotCached.is))
    c.pack_command.ensures

pub returns-in-NotCacheable : goal.returns-in-NotCacheable
returns-in-NotCacheable c =
    let a = c.args in
    let p = c.requires in
    wrote-is _ _ _ _ _ _
    (ap (sends.sent_with a.mode a.bytes.now a.head a.src.now a.from)
    (c.in-Item.is ∙ ap Item c.in-NotCacheable.is))
    c.write_command-in-NotCacheable.ensures
