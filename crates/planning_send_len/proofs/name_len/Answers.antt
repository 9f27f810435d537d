-- `name_len` meets its contract. Assumes nothing.
use Rattle.planning_send_len.specs.Lengths as lengths
use Rattle.planning_send_len.proofs.name_len.Goals as goal

pub returns-then-json : goal.returns-then-json
returns-then-json c = lengths.json-length c.args.json c.if-json.true

pub returns-else-json : goal.returns-else-json
returns-else-json c = lengths.plain-length c.args.json c.if-json.false
