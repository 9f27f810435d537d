-- Where the cursor over a checked record's commands stands. Assumes nothing.
use Rattle.std.specs.Prelude.{Ok, ◌≡◌, ◌≤◌, length}
use Rattle.buffer.specs.Same.{Bytes}
use Rattle.call_record.specs.Check.{check_def, check-fine}
use Rattle.cursor.specs.At.{CommandsHere, command_cursor}
use Rattle.cursor.specs.Laws.{decoded-is}

-- at the start of bytes that the check found fine
pub record-here : (s : Bytes) → check_def s ≡ Ok tt → (8 ≤ length s) × CommandsHere s (command_cursor s)
record-here s e = let d = decoded-is s ((check-fine s).0 e) in (d.room, d.inside)
