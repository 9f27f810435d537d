-- `commands::listed` meets its contract. The loop's invariant: the names that are left answer for all (`Left`). Assumes nothing.
use Rattle.std.proofs.Common.{◌≡◌, ◌+◌, List, length}
use Rattle.buffer.specs.Same.{Bytes}
use Rattle.commands.specs.Rows.{row, of_length}
use Rattle.commands.proofs.Left.{Left}
use Rattle.commands.proofs.listed.Given as goal

abbrev pub invariant-loop-row : goal.invariant-loop-row
invariant-loop-row l = (l.row-iterator.size ≡ length l.name + 1) × ((xs : List Bytes) → l.rows ≡ row (of_length (length l.name) xs) → Left l.name l.row-iterator.rest.now xs)
