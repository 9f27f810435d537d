-- Worked cases of the order of a plan's nodes, each a theorem by itself, by computing. Assumes nothing.
use Rattle.std.specs.Prelude.{◌≡◌, refl, true, false, [], ◌∷◌}
use Rattle.book.specs.Calls.{Wanted}
use Rattle.planning.specs.Plan.{hand_on, served_value, all_served, missing_key, several, waiting_place, end_of_several}
use Rattle.planning.specs.Rules.{ordered, order-defs}

-- some key
abbrev w : Wanted
w = record { key = []; command = [] }

-- no commands; one command too many, and one too few
pub empty : ordered 0 [] ≡ true
unfolding order-defs
empty = refl

pub too_many : ordered 0 (hand_on ∷ []) ≡ false
unfolding order-defs
too_many = refl

pub too_few : ordered 2 (hand_on ∷ []) ≡ false
unfolding order-defs
too_few = refl

-- each kind of command
pub all_kinds :
    ordered 5
    (hand_on ∷ served_value [] ∷ missing_key w 1 ∷ all_served 2 ∷ served_value [] ∷ served_value []
    ∷ several 2 ∷ waiting_place w 1 ∷ served_value [] ∷ end_of_several ∷ []) ≡ true
unfolding order-defs
all_kinds = refl

-- a place that waits among values that are all served; outside several; more places than said; no end of several; an end outside
pub waits-among-served : ordered 1 (all_served 1 ∷ waiting_place w 1 ∷ []) ≡ false
unfolding order-defs
waits-among-served = refl

pub waits-outside : ordered 1 (waiting_place w 1 ∷ []) ≡ false
unfolding order-defs
waits-outside = refl

pub place-too-many : ordered 1 (several 1 ∷ waiting_place w 1 ∷ served_value [] ∷ end_of_several ∷ []) ≡ false
unfolding order-defs
place-too-many = refl

pub no_end : ordered 1 (several 1 ∷ waiting_place w 1 ∷ []) ≡ false
unfolding order-defs
no_end = refl

pub end-outside : ordered 2 (hand_on ∷ end_of_several ∷ []) ≡ false
unfolding order-defs
end-outside = refl
