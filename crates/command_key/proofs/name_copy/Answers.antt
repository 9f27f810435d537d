-- `command_key::name_copy` meets its contract. Assumes nothing.
use Rattle.command_key.specs.Key.{name_bytes}
use Rattle.command_key.proofs.name_copy.Goals as goal

pub copy_to-requires : goal.copy_to-requires
unfolding name_bytes
copy_to-requires c = let h = c.requires in rw c.if-json.true at h

pub copy_to-requires-else-json : goal.copy_to-requires-else-json
unfolding name_bytes
copy_to-requires-else-json c = let h = c.requires in rw c.if-json.false at h

pub returns-then-json : goal.returns-then-json
unfolding name_bytes
returns-then-json c = rw c.if-json.true c.copy_to.ensures

pub returns-else-json : goal.returns-else-json
unfolding name_bytes
returns-else-json c = rw c.if-json.false c.copy_to-else-json.ensures
