-- `arena_check::key_hash` meets its contract: what is hashed is the thing's key. Assumes nothing.
use native.Mathlib.Omega.{arith}
use Rattle.arena_check.proofs.Items.{hash-read}
use Rattle.arena_check.proofs.key_hash.Goals as goal

pub returns : goal.returns
returns g c =
    let a = c.args in hash-read a.s.now g.T.Thing.HEAD a.at _ _ _ (omega arith) c.read_u32.ensures
    c.sip_hash_13.ensures
