-- A step of the walk keeps the order of nodes: what may stand from a node on is what may stand behind it. Assumes nothing.
use Rattle.std.specs.Prelude.{◌≡◌, Option, None, Some, Result, Ok, Err, Bool, true, false, cond, not, List, [], ◌∷◌, eqb}
use Rattle.std.proofs.Math.Path.{refl}
use Rattle.std.proofs.Common.{sym, ap, ◌∙◌, arith}
use Prim.Native.Nat.{ℕ, zero, suc, ◌-◌}
use Rattle.std.proofs.Math.Dec.{eqb-suc-zero}
use Rattle.planning.specs.Plan.{Node, hand_on, served_value, all_served, missing_key, several, waiting_place, end_of_several}
use Rattle.planning.specs.Kinds.{kind_of_number}
use Rattle.planning.specs.declared.NodeKind.{NodeKind}
use Rattle.planning.specs.declared.NodeKind.TheVariants.{HandOn, Served, AllServed, Missing, Several, Waiting, End}
use Rattle.planning.specs.declared.UnknownKind.{UnknownKind}
use Rattle.planning.specs.Rules.{values_then, end_then, places_then, ordered}
use Rattle.plan.specs.Node.{kind_of, number_of, node-defs}
use Rattle.plan.specs.There.{head_of}
use Rattle.plan_check.specs.declared.Walk.{Walk}
use Rattle.plan_check.specs.Check.{both, as_command, as_value, as_place, followed, followed_as, finished}
use Rattle.plan_check.specs.Paths.{both-no}

-- nodes that may stand where c commands are left, and p places of a command whose places are all served, or of several keys
unfoldable pub ordered_by : Bool → ℕ → ℕ → List Node → Bool
ordered_by true p c ns = places_then (λ l. ordered c l) p ns
ordered_by false p c ns = values_then (λ l. ordered c l) p ns

-- where the walk stands
unfoldable pub ordered_at : Walk → List Node → Bool
ordered_at w ns = ordered_by w.several w.places w.commands ns

-- after a step
unfoldable pub ordered_after : Option Walk → List Node → Bool
ordered_after (Some w) ns = ordered_at w ns
ordered_after None ns = false

one_less : (n : ℕ) → suc n - 1 ≡ n
one_less n = omega arith

-- a node's kind
kind_in : Node → NodeKind
kind_in hand_on = HandOn
kind_in (served_value v) = Served
kind_in (all_served n) = AllServed
kind_in (missing_key w x) = Missing
kind_in (several n) = Several
kind_in (waiting_place w x) = Waiting
kind_in end_of_several = End

-- is what its number says
kind_said : (nd : Node) → kind_of_number (kind_of nd) ≡ Ok (kind_in nd)
unfolding kind_in kind_of_number node-defs
kind_said hand_on = refl
kind_said (served_value v) = refl
kind_said (all_served n) = refl
kind_said (missing_key w x) = refl
kind_said (several n) = refl
kind_said (waiting_place w x) = refl
kind_said end_of_several = refl

module _ (e : ℕ) (ns : List Node) where
  -- a command's first node
  command-step : (c : ℕ) (nd : Node) → ordered c (nd ∷ ns) ≡ ordered_after (as_command c (kind_in nd) (number_of nd) e) ns
  unfolding ordered values_then ordered_by ordered_at ordered_after node-defs kind_in
  command-step zero nd = refl
  command-step (suc c) hand_on = rw (eqb-suc-zero c, one_less c)
  command-step (suc c) (served_value v) = rw (eqb-suc-zero c, one_less c)
  command-step (suc c) (all_served n) = rw (eqb-suc-zero c, one_less c)
  command-step (suc c) (missing_key w x) = rw (eqb-suc-zero c, one_less c)
  command-step (suc c) (several n) = rw (eqb-suc-zero c, one_less c)
  command-step (suc c) (waiting_place w x) = rw (eqb-suc-zero c)
  command-step (suc c) end_of_several = rw (eqb-suc-zero c)

  -- a served value
  value-step : (p c : ℕ) (nd : Node) → ordered_by false p c (nd ∷ ns) ≡ ordered_after (as_value p c (kind_in nd) (number_of nd) e) ns
  unfolding values_then ordered_by ordered_at ordered_after node-defs kind_in
  value-step zero c nd = command-step c nd
  value-step (suc p) c hand_on = rw (eqb-suc-zero p)
  value-step (suc p) c (served_value v) = rw (eqb-suc-zero p, one_less p)
  value-step (suc p) c (all_served n) = rw (eqb-suc-zero p)
  value-step (suc p) c (missing_key w x) = rw (eqb-suc-zero p)
  value-step (suc p) c (several n) = rw (eqb-suc-zero p)
  value-step (suc p) c (waiting_place w x) = rw (eqb-suc-zero p)
  value-step (suc p) c end_of_several = rw (eqb-suc-zero p)

  -- a place of several keys, or their end
  place-step : (p c : ℕ) (nd : Node) → ordered_by true p c (nd ∷ ns) ≡ ordered_after (as_place p c (kind_in nd) e) ns
  unfolding places_then end_then values_then ordered_by ordered_at ordered_after node-defs kind_in
  place-step zero c hand_on = refl
  place-step zero c (served_value v) = refl
  place-step zero c (all_served n) = refl
  place-step zero c (missing_key w x) = refl
  place-step zero c (several n) = refl
  place-step zero c (waiting_place w x) = refl
  place-step zero c end_of_several = refl
  place-step (suc p) c hand_on = rw (eqb-suc-zero p)
  place-step (suc p) c (served_value v) = rw (eqb-suc-zero p, one_less p)
  place-step (suc p) c (all_served n) = rw (eqb-suc-zero p)
  place-step (suc p) c (missing_key w x) = rw (eqb-suc-zero p)
  place-step (suc p) c (several n) = rw (eqb-suc-zero p)
  place-step (suc p) c (waiting_place w x) = rw (eqb-suc-zero p, one_less p)
  place-step (suc p) c end_of_several = rw (eqb-suc-zero p)

-- a step
pub order-step : (w : Walk) (at : ℕ) (nd : Node) (ns : List Node) → ordered_at w (nd ∷ ns) ≡ ordered_after (followed w (head_of at nd)) ns
unfolding ordered_at head_of
order-step w at nd ns = go w.several ∙ ap (λ (k : Result NodeKind UnknownKind). ordered_after (followed_as w k (number_of nd) E) ns) (sym (kind_said nd))
  where
    E : ℕ
    E = (head_of at nd).end

    go : (b : Bool) → ordered_by b w.places w.commands (nd ∷ ns)
        ≡ ordered_after (cond b (as_place w.places w.commands (kind_in nd) E) (as_value w.places w.commands (kind_in nd) (number_of nd) E)) ns
    go true = place-step E ns w.places w.commands nd
    go false = value-step E ns w.places w.commands nd

-- at the end nothing may be left
pub order-end : (w : Walk) → ordered_at w [] ≡ finished w
unfolding ordered_at ordered_by places_then end_then values_then ordered
order-end w = go w.several w.places w.commands
  where
    go : (b : Bool) (p c : ℕ) → ordered_by b p c [] ≡ both (eqb c 0) (both (eqb p 0) (not b))
    go true zero c = sym (both-no (eqb c 0))
    go true (suc p) c = rw (eqb-suc-zero p) (sym (both-no (eqb c 0)))
    go false zero zero = refl
    go false zero (suc c) = rw (eqb-suc-zero c)
    go false (suc p) c = rw (eqb-suc-zero p) (sym (both-no (eqb c 0)))
