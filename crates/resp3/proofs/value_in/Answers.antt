-- `resp3::value_in` meets its contract. Assumes nothing.
use mathlib.Core.Path.{sym}
use Rattle.buffer.specs.Part.{part}
use Rattle.resp3.proofs.value_in.Goals as goal

pub returns-then-blob_in : goal.returns-then-blob_in
returns-then-blob_in c = sym (c.blob_in.ensures c.if-blob_in.true)

pub returns : goal.returns
unfolding part
returns c = c.is_value.ensures
