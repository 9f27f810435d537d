-- `path_len` meets its contract. Assumes nothing.
use Rattle.planning_send_len.specs.Lengths as lengths
use Rattle.planning_send_len.proofs.path_len.Goals as goal

pub returns-then-v : goal.returns-then-v
returns-then-v c =
    let p = c.requires in
    lengths.path-length c.args.bytes.now c.args.v _ p.0 p.1
    p.2 c.if-v.true c.bulklen.ensures

pub returns-else-v : goal.returns-else-v
returns-else-v c =
    lengths.no-path c.args.bytes.now c.args.v c.requires.0 c.if-v.false
