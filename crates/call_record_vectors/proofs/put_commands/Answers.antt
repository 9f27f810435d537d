-- `call_record_vectors::put_commands` is safe by its loop's invariant. Assumes nothing.
use mathlib.Core.Path.{sym, ◌∙◌}
use native.Mathlib.Omega.{arith}
use Rattle.cursor.specs.Steps.{CommandStepped, command-stepped}
use Rattle.call_record_vectors.proofs.put_commands.Goals as goal

pub put_command-requires : goal.put_command-requires
put_command-requires g c = (command-stepped _ _ _ _ c.loop-h.invariant (sym c.next_command.ensures ∙ c.in-Some.is)).args

pub loop-h-smaller : goal.loop-h-smaller
loop-h-smaller g c = let n = (command-stepped _ _ _ c.in-Some.rest c.loop-h.invariant (sym c.next_command.ensures ∙ c.in-Some.is)).count in omega arith

pub loop-h-preserved : goal.loop-h-preserved
loop-h-preserved g c = (command-stepped _ _ _ c.in-Some.rest c.loop-h.invariant (sym c.next_command.ensures ∙ c.in-Some.is)).here
