-- `MULTI` and `EXEC` around what is sent for a transaction, as bytes: proofs/Wrapped.antt has the laws. Assumes nothing.
use Rattle.std.specs.Prelude.{Bool, true, false, []}
use Rattle.buffer.specs.Same.{Bytes}
use Rattle.cmd.specs.Pack.{packed, multi_texts, exec_texts}

-- before
unfoldable pub start_bytes : Bool → Bytes
start_bytes true = packed multi_texts
start_bytes false = []

-- behind
unfoldable pub end_bytes : Bool → Bytes
end_bytes true = packed exec_texts
end_bytes false = []
