-- `cursor::args_end` meets its contract by its loop's invariant. Assumes nothing.
use mathlib.Core.Path.{◌≡◌}
use Rattle.cursor.specs.At.{args_end, ArgsHere}
use Rattle.cursor.proofs.args_end.Given as goal

abbrev pub invariant-loop-rest : goal.invariant-loop-rest
invariant-loop-rest l = ArgsHere l.s l.k × (args_end l.s l.fn.k.left l.fn.k.at ≡ args_end l.s l.k.left l.k.at)

abbrev pub decreases-loop-rest : goal.decreases-loop-rest
decreases-loop-rest l = l.k.left
