-- What a command answers, whatever it stores: one that is handed on, one behind `CLIENT CACHING YES`, and one that is the only one. Assumes that there is a
-- reply for each command sent.
use Rattle.std.specs.Prelude.{◌≡◌, refl, ℕ, List, [], ◌∷◌, ◌++◌, map}
use Rattle.config.specs.declared.CacheMode.{CacheMode}
use Rattle.config.specs.declared.CacheMode.TheVariants.{All, OptIn}
use Rattle.resp3.specs.Value.{Value, Values, none, more}
use Rattle.book.specs.Calls.{Storing}
use Rattle.planning.specs.Outcome.{CachingResult}
use Rattle.planning.specs.Sent.{Packed, opt_in_first}
use Rattle.plan_outcomes.specs.Outcomes.{command_given}
use Rattle.resolving.specs.Plan.{handed_on}
use Rattle.resolving.specs.Resolve.{Outcome, gives, opt_in, answered, take_command, take_commands}
use Rattle.direct_read.specs.Server.{RepliedAll}

-- a command's answer is a value that P holds of, whatever it stores and leaves
pub record Gives (P : Value → Type 0) (o : Outcome) : Type 0 where
  pub value : Value
  pub fits : P value
  pub stores : List Storing
  pub rest : Values
  pub is : o ≡ gives value stores rest

-- the answer of the only command is the only answer
pub only-answered : (P : Value → Type 0) (m : CacheMode) (clock : ℕ) (o : CachingResult) (vs : Values)
    (w : Gives P (take_command m clock (command_given o) vs))
    → take_commands m clock (map command_given (o ∷ [])) vs ≡ answered (more w.value none) (w.stores ++ [])
only-answered P m clock o vs w = rw w.is

-- a command that is handed on is answered by the reply to it
pub handed-answer : (P : Value → Type 0) (S : Packed → Value → Type 0) (p : Packed) (m : CacheMode) (clock : ℕ) (vs : Values)
    → ((u : Value) → S p u → P u) → RepliedAll S (p ∷ []) vs → Gives P (take_command m clock handed_on vs)
unfolding RepliedAll
handed-answer P S p m clock none f r = absurd r
handed-answer P S p m clock (more u vs) f r = record { value = u; fits = f u r.0; stores = []; rest = vs; is = refl }

-- in opt-in mode the first reply is the one to `CLIENT CACHING YES`, and the others go on
pub past-caching : (P : Value → Type 0) (S : Packed → Value → Type 0) (m : CacheMode) (ps : List Packed) (vs : Values) (goes : Values → Outcome)
    → ((us : Values) → RepliedAll S (ps ++ []) us → Gives P (goes us)) → RepliedAll S (opt_in_first m ps ++ []) vs → Gives P (opt_in m vs goes)
unfolding RepliedAll opt_in_first
past-caching P S All ps vs goes f r = f vs r
past-caching P S OptIn ps none goes f r = absurd r
past-caching P S OptIn ps (more u vs) goes f r = f vs r.1
