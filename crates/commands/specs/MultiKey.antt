-- The commands that ask for several keys, and the command that each stands for key by key: `is_multi_key` (cache_manager.rs).
-- Assumes nothing: these are definitions.
use Rattle.std.specs.Prelude.{Bool, true, false, [], Option, None, Some}
use Rattle.buffer.specs.Same.{Bytes, same}
use Rattle.buffer.specs.Ascii.{ascii}
use Rattle.commands.specs.declared.MultiKey.{MultiKey}
use Rattle.commands.specs.declared.MultiKey.TheVariants.{Mget, JsonMget}

-- the one answer or the other
abbrev pub pick : Bool → Option MultiKey → Option MultiKey → Option MultiKey
pick true a b = a
pick false a b = b

-- which of the two a name is, byte for byte, if it is one
unfoldable pub multi_key : Bytes → Option MultiKey
multi_key b = pick (same b (ascii "MGET")) (Some Mget) (pick (same b (ascii "JSON.MGET")) (Some JsonMget) None)

-- the name under which one of its keys is asked for and kept
unfoldable pub single_name : Option MultiKey → Bytes
single_name None = []
single_name (Some Mget) = ascii "GET"
single_name (Some JsonMget) = ascii "JSON.GET"
