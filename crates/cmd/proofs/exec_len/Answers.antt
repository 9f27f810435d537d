-- `cmd::exec_len` meets its contract: the bytes are written out in `exec-is`. Assumes nothing.
use mathlib.Core.Path.{sym, ap}
use lib.ListN.{length}
use Rattle.cmd.specs.Laws.{exec-is}
use Rattle.cmd.proofs.exec_len.Goals as goal

pub returns : goal.returns
returns c = sym (ap length exec-is)
