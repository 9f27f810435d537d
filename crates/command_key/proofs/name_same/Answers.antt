-- `command_key::name_same` meets its contract. Assumes nothing.
use Rattle.command_key.specs.Key.{name_bytes}
use Rattle.command_key.proofs.name_same.Goals as goal

pub same_at-requires : goal.same_at-requires
unfolding name_bytes
same_at-requires c = let h = c.requires in rw c.if-json.true at h

pub same_at-requires-else-json : goal.same_at-requires-else-json
unfolding name_bytes
same_at-requires-else-json c = let h = c.requires in rw c.if-json.false at h

pub returns-then-json : goal.returns-then-json
unfolding name_bytes
returns-then-json c = rw c.if-json.true c.same_at.ensures

pub returns-else-json : goal.returns-else-json
unfolding name_bytes
returns-else-json c = rw c.if-json.false c.same_at-else-json.ensures
