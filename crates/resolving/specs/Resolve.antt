-- Resolving, after `CacheablePipeline::resolve`: rules S2 to S7 and S12 of docs/BEHAVIOUR.md. Assumes nothing: these are the definitions that a reader has to
-- believe. The list of replies is in Convert.antt, errors and expiries in Store.antt, the result's bytes in Result.antt.
use Rattle.std.specs.Prelude.{List, [], ◌∷◌, ◌++◌, ℕ}
use Rattle.std.proofs.Math.Option.{Option, some}
use Rattle.std.proofs.Math.Option as option
use Rattle.config.specs.declared.CacheMode.{CacheMode}
use Rattle.config.specs.declared.CacheMode.TheVariants.{All, OptIn}
use Rattle.resp3.specs.Value.{Value, Values, null, array, none, more}
use Rattle.resp3_element.specs.Meaning.{array_of}
use Rattle.book.specs.Calls.{Missing, Storing}
use Rattle.resolving.specs.Plan.{Place, served, waiting, Command, handed_on, cached, cached_array, single, multiple, Plan}
use Rattle.resolving.specs.Convert.{replies_of}
use Rattle.resolving.specs.Store.{store_of}

-- what a command makes of the replies: a reply is absent or of the wrong shape; or its answer, its stores in order, and the replies after those that it took
pub data Outcome : Type 0 where
  wrong : Outcome
  gives : Value → List Storing → Values → Outcome

-- a command whose reply is handed on takes one, which must exist (rule S3)
abbrev pub take_reply : Values → Outcome
take_reply none = wrong
take_reply (more v rs) = gives v [] rs

-- rule S4: in opt-in mode the reply in front answers `CLIENT CACHING YES`; it must be there, and nobody looks at it
abbrev pub opt_in : CacheMode → Values → (Values → Outcome) → Outcome
opt_in All rs take = take rs
opt_in OptIn none take = wrong
opt_in OptIn (more v rs) take = take rs

-- rule S5: the reply to `PTTL` and the command's own, neither of which may be lacking
abbrev pub take_single : ℕ → Missing → Values → Outcome
take_single clock m none = wrong
take_single clock m (more pttl none) = wrong
take_single clock m (more pttl (more v rs)) = gives v (store_of clock m pttl v) rs

-- the places of several keys once they are filled, the stores in order, and the replies after the PTTLs that were taken
pub record Filled : Type 0 where
  pub places : Values
  pub stores : List Storing
  pub rest : Values

-- with one place more, before the others
abbrev pub placed : Value → List Storing → Filled → Filled
placed v ss f = record { places = more v f.places; stores = ss ++ f.stores; rest = f.rest }

-- the PTTLs left after the last waiting key, from the elements left and the PTTLs (rule S6): where an element is left over, its PTTL has been taken before
-- it is seen that no key waits for it, if there was one to take
abbrev pub eaten : Values → Values → Values
eaten none pttls = pttls
eaten (more v vs) none = none
eaten (more v vs) (more pttl pttls) = pttls

-- rules S6, S7: elements, PTTLs and waiting keys in step, as long as there are all three; a waiting place beyond that answers `_`, and the PTTLs that are
-- left go to the next command. Given are the elements of the array, and then the PTTLs, which are the replies after it.
abbrev pub fill : ℕ → List Place → Values → Values → Filled
fill clock [] vs pttls = record { places = none; stores = []; rest = eaten vs pttls }
fill clock (served v ∷ ps) vs pttls = placed v [] (fill clock ps vs pttls)
fill clock (waiting m ∷ ps) none pttls = placed null [] (fill clock ps none pttls)
fill clock (waiting m ∷ ps) (more v vs) none = placed null [] (fill clock ps (more v vs) none)
fill clock (waiting m ∷ ps) (more v vs) (more pttl pttls) = placed v (store_of clock m pttl v) (fill clock ps vs pttls)

-- the answer is the array of the places
abbrev pub as_array : Filled → Outcome
as_array f = gives (array f.places) f.stores f.rest

-- the elements, where the reply is an array
abbrev pub fill_from : ℕ → List Place → Option Values → Values → Outcome
fill_from clock ps option.none pttls = wrong
fill_from clock ps (some vs) pttls = as_array (fill clock ps vs pttls)

-- rule S6: the reply of a several-key command
abbrev pub take_multiple : ℕ → List Place → Values → Outcome
take_multiple clock ps none = wrong
take_multiple clock ps (more v rs) = fill_from clock ps (array_of v) rs

-- one command; what is cached takes no reply
abbrev pub take_command : CacheMode → ℕ → Command → Values → Outcome
take_command mode clock handed_on rs = take_reply rs
take_command mode clock (cached v) rs = gives v [] rs
take_command mode clock (cached_array vs) rs = gives (array vs) [] rs
take_command mode clock (single m) rs = opt_in mode rs (λ q. take_single clock m q)
take_command mode clock (multiple ps) rs = opt_in mode rs (λ q. take_multiple clock ps q)

-- what becomes of a plan: cause 7, with the stores made before it (rule S12); or the answers, one for each command, and the stores, both in order
pub data Resolved : Type 0 where
  cause7 : List Storing → Resolved
  answered : Values → List Storing → Resolved

-- with the answer and the stores of one command more, before the others
abbrev pub behind : Value → List Storing → Resolved → Resolved
behind v ss (cause7 later) = cause7 (ss ++ later)
behind v ss (answered vs later) = answered (more v vs) (ss ++ later)

-- a command that finds no fitting reply has stored nothing and is the last one; after another the next ones take the replies that it leaves
abbrev pub go_on : Outcome → (Values → Resolved) → Resolved
go_on wrong next = cause7 []
go_on (gives v ss rs) next = behind v ss (next rs)

-- the commands, in their order; replies left over are ignored (rule S2)
abbrev pub take_commands : CacheMode → ℕ → List Command → Values → Resolved
take_commands mode clock [] rs = answered none []
take_commands mode clock (c ∷ cs) rs = go_on (take_command mode clock c rs) (λ q. take_commands mode clock cs q)

-- where there is no list of replies, no command has stored anything
abbrev pub from_replies : Option Values → (Values → Resolved) → Resolved
from_replies option.none take = cause7 []
from_replies (some rs) take = take rs

-- resolving: the plan, the call's own mode and clock, and the replies as one value
unfoldable pub resolve : Plan → CacheMode → ℕ → Value → Resolved
resolve p mode clock v = from_replies (replies_of p.transaction v) (λ rs. take_commands mode clock p.commands rs)
