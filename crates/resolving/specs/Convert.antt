-- How the replies become a list (rule S1 of docs/BEHAVIOUR.md). Assumes nothing: these are the definitions that a reader has to believe.
-- The other conversions of a value (rule V9): to a list by `array_of` and to a PTTL by `integer_of`, both of resp3_element's Meaning.antt; to a key by `keys_of`
-- of Pushes.antt, the only place where a key is read from a value.
use Rattle.std.specs.Prelude.{Bool, true, false}
use Rattle.std.proofs.Math.Option.{Option, some}
use Rattle.std.proofs.Math.Option as option
use Rattle.resp3.specs.Value.{Value, Values, none, more}
use Rattle.resp3_element.specs.Meaning.{array_of}

-- the list of the only one of some values
abbrev pub only_list : Values → Option Values
only_list none = option.none
only_list (more v none) = array_of v
only_list (more v (more w vs)) = option.none

-- the list of the only one of some values, where there are values
abbrev pub then_only_list : Option Values → Option Values
then_only_list option.none = option.none
then_only_list (some vs) = only_list vs

-- rule S1: what a call without a transaction gets is itself the list; a transaction's list is the one element of what it gets
abbrev pub replies_of : Bool → Value → Option Values
replies_of false v = array_of v
replies_of true v = then_only_list (array_of v)
