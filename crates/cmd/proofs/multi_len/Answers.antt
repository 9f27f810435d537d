-- `cmd::multi_len` meets its contract: the bytes are written out in `multi-is`. Assumes nothing.
use mathlib.Core.Path.{sym, ap}
use lib.ListN.{length}
use Rattle.cmd.specs.Laws.{multi-is}
use Rattle.cmd.proofs.multi_len.Goals as goal

pub returns : goal.returns
returns c = sym (ap length multi-is)
