-- `command_key::name_len` meets its contract. Assumes nothing.
use Rattle.command_key.specs.Key.{name_bytes}
use Rattle.command_key.proofs.name_len.Goals as goal

pub returns-then-json : goal.returns-then-json
unfolding name_bytes
returns-then-json c = rw c.if-json.true

pub returns-else-json : goal.returns-else-json
unfolding name_bytes
returns-else-json c = rw c.if-json.false
