-- `get_len` meets its contract. Assumes nothing.
use native.Mathlib.Omega.{arith}
use Rattle.decimal.specs.DigitLaws.{count-max}
use Rattle.planning_send_len.specs.Lengths as lengths
use Rattle.planning_send_len.proofs.get_len.Goals as goal

pub overflow_add-result : goal.overflow_add-result
overflow_add-result c = let e = c.countdigits.ensures in let m = count-max c.argument_count-count.result (omega arith) in omega arith

pub overflow_add-result-2 : goal.overflow_add-result-2
overflow_add-result-2 c =
    let g = (lengths.get-length c.args.json c.args.n _ _ _ c.requires
    c.argument_count-count.ensures c.countdigits.ensures c.name_len.ensures.0 c.name_len.ensures.1).1 in
    omega arith

pub returns : goal.returns
returns c =
    lengths.get-length c.args.json c.args.n _ _ _ c.requires
    c.argument_count-count.ensures c.countdigits.ensures c.name_len.ensures.0 c.name_len.ensures.1
