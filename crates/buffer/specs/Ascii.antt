-- Bytes written as a text, so that a name stands in a definition as it is read. Assumes nothing.
use Prim.Native.Char.{code}
use Prim.Native.String.{String, [], ◌∷◌}
use mathlib.Core.List as list
use Rattle.buffer.specs.Same.{Bytes}

-- the codes of a text's characters
abbrev pub ascii : String → Bytes
ascii [] = list.[]
ascii (c ∷ t) = list.◌∷◌ (code c) (ascii t)
