-- Commands and nodes are one: what is read off a good plan's nodes is written as those nodes again, and keeps the limits. Assumes nothing.
use Rattle.std.specs.Prelude.{List, [], ◌∷◌, length}
use Rattle.resp3.specs.Value.{Values, none, more, count, encode}
use Rattle.planning.specs.Plan.{Node, hand_on, served_value, all_served, missing_key, several, waiting_place, end_of_several}
use Rattle.resolving.specs.Plan.{Place, served, waiting, Command, handed_on, cached, cached_array, single, multiple}

-- served values, before other nodes
unfoldable pub value_nodes : Values → List Node → List Node
value_nodes none ns = ns
value_nodes (more v vs) ns = served_value (encode v) ∷ value_nodes vs ns

-- places and the end of several, before other nodes
unfoldable pub place_nodes : List Place → List Node → List Node
place_nodes [] ns = end_of_several ∷ ns
place_nodes (served v ∷ ps) ns = served_value (encode v) ∷ place_nodes ps ns
place_nodes (waiting m ∷ ps) ns = waiting_place m.wanted m.expiry ∷ place_nodes ps ns

-- all commands
unfoldable pub command_nodes : List Command → List Node
command_nodes [] = []
command_nodes (handed_on ∷ cs) = hand_on ∷ command_nodes cs
command_nodes (cached v ∷ cs) = served_value (encode v) ∷ command_nodes cs
command_nodes (cached_array vs ∷ cs) = all_served (count vs) ∷ value_nodes vs (command_nodes cs)
command_nodes (single m ∷ cs) = missing_key m.wanted m.expiry ∷ command_nodes cs
command_nodes (multiple ps ∷ cs) = several (length ps) ∷ place_nodes ps (command_nodes cs)
