-- `missing_len` meets its contract. Assumes nothing.
use native.Mathlib.Omega.{arith}
use Rattle.plan_write.specs.Pieces.{key-bound}
use Rattle.plan_write.proofs.missing_len.Goals as goal

pub overflow_add-result-2 : goal.overflow_add-result-2
overflow_add-result-2 c =
    let b = key-bound c.args.source.now c.args.command c.requires.0 in
    let e = c.key_len.ensures in
    omega arith
