-- A plan's nodes by what they stand for: the commands that resolving is defined on, written one after the other (docs/LAYOUT.md). Who believes this page need
-- not read the test of their order nor the reader of the commands (`order` and `commands-of` of `Readings`, Meaning.antt). Assumes nothing: these are
-- definitions.
use Rattle.std.specs.Prelude.{List, [], ◌∷◌, ℕ, length}
use Rattle.buffer.specs.Same.{Bytes}
use Rattle.resp3.specs.Value.{Value, Values, none, more, count, Means}
use Rattle.book.specs.Calls.{Wanted, missing_until}
use Rattle.planning.specs.Plan.{Node, hand_on, served_value, all_served, missing_key, several, waiting_place, end_of_several}
use Rattle.resolving.specs.Plan.{Place, served, waiting, Command, handed_on, cached, cached_array, single, multiple}

-- served values, and then the nodes `rest`
pub data ValueNodes (rest : List Node) : Values → List Node → Type 0 where
  no_more : ValueNodes rest none rest
  one_more : (b : Bytes) (v : Value) (vs : Values) (ns : List Node) → Means b v → ValueNodes rest vs ns → ValueNodes rest (more v vs) (served_value b ∷ ns)

-- places, each served or waiting, the end of several, and then `rest`
pub data PlaceNodes (rest : List Node) : List Place → List Node → Type 0 where
  no_place : PlaceNodes rest [] (end_of_several ∷ rest)
  is_served : (b : Bytes) (v : Value) (ps : List Place) (ns : List Node) → Means b v → PlaceNodes rest ps ns
      → PlaceNodes rest (served v ∷ ps) (served_value b ∷ ns)
  is_waiting : (w : Wanted) (x : ℕ) (ps : List Place) (ns : List Node) → PlaceNodes rest ps ns
      → PlaceNodes rest (waiting (missing_until x w) ∷ ps) (waiting_place w x ∷ ns)

-- commands
pub data NodesOf : List Command → List Node → Type 0 where
  no_command : NodesOf [] []
  -- handed on; served; one missing key
  is_handed_on : (cs : List Command) (ns : List Node) → NodesOf cs ns → NodesOf (handed_on ∷ cs) (hand_on ∷ ns)
  is_cached : (b : Bytes) (v : Value) (cs : List Command) (ns : List Node) → Means b v → NodesOf cs ns → NodesOf (cached v ∷ cs) (served_value b ∷ ns)
  is_single : (w : Wanted) (x : ℕ) (cs : List Command) (ns : List Node) → NodesOf cs ns → NodesOf (single (missing_until x w) ∷ cs) (missing_key w x ∷ ns)
  -- several keys: all served, or not
  is_array : (vs : Values) (cs : List Command) (rest ns : List Node) → ValueNodes rest vs ns → NodesOf cs rest
      → NodesOf (cached_array vs ∷ cs) (all_served (count vs) ∷ ns)
  is_multiple : (ps : List Place) (cs : List Command) (rest ns : List Node) → PlaceNodes rest ps ns → NodesOf cs rest
      → NodesOf (multiple ps ∷ cs) (several (length ps) ∷ ns)
