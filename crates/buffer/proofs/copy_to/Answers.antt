-- `buffer::copy_to` meets its contract: what is lent is as many bytes from `at` on as are copied. Assumes nothing.
use Rattle.std.proofs.Common.{refl}
use Rattle.buffer.proofs.Writes.{copy-law}
use Rattle.buffer.proofs.copy_to.Goals as goal

pub returns : goal.returns
returns c = copy-law _ _ _ _ _ refl c.copy_from_slice.ensures.after
