-- `cmd::client_caching_len` meets its contract: the bytes are written out in `caching-is`. Assumes nothing.
use mathlib.Core.Path.{sym, ap}
use lib.ListN.{length}
use Rattle.cmd.specs.Laws.{caching-is}
use Rattle.cmd.proofs.client_caching_len.Goals as goal

pub returns : goal.returns
returns c = sym (ap length caching-is)
