-- Rule S10 for values: what resolving hands out and stores has the properties of what it was given, since it makes nothing up. (That it is a part of the
-- slices lent is the code's matter.) P is any property of the replies and Q of the missing keys, and R any of what is handed out; `Closed` says what they
-- have to be for this. Assumes nothing else. (Where a definition changes, a worked case is to say so first: this file cites one.)
use Rattle.std.specs.Prelude.{◌≡◌, List, [], ◌∷◌, ◌≤◌}
use Rattle.resp3.specs.Value.{Value, Values, null}
use Rattle.resp3.specs.Value.{array, none, more, encode}
use Rattle.book.specs.Calls.{Missing, Storing}
use Rattle.resolving.specs.Plan.{Place, served, waiting, Command, handed_on, cached, cached_array, single, multiple}
use Rattle.resolving.specs.Resolve.{Resolved, cause7, answered}

-- every value of a row has the property
abbrev pub Every : (Value → Type 0) → Values → Type 0
Every P none = Unit {0}
Every P (more v vs) = P v × Every P vs

module _ (P : Value → Type 0) (Q : Missing → Type 0) (R : Value → Type 0) where
  -- ---- the statement's words

  -- what a plan holds: R of its served values, Q of its missing keys
  abbrev pub PlacesHave : List Place → Type 0
  PlacesHave [] = Unit {0}
  PlacesHave (served v ∷ ps) = R v × PlacesHave ps
  PlacesHave (waiting m ∷ ps) = Q m × PlacesHave ps

  -- one command
  abbrev pub CommandHas : Command → Type 0
  CommandHas handed_on = Unit {0}
  CommandHas (cached v) = R v
  CommandHas (cached_array vs) = Every R vs
  CommandHas (single m) = Q m
  CommandHas (multiple ps) = PlacesHave ps

  -- each command
  abbrev pub CommandsHave : List Command → Type 0
  CommandsHave [] = Unit {0}
  CommandsHave (c ∷ cs) = CommandHas c × CommandsHave cs

  -- a store's key, with its command key, is a missing key's, its value a reply's bytes, and its expiry is not later than the client's
  pub record Made (s : Storing) : Type 0 where
    pub missing : Missing
    pub asked : Q missing
    pub reply : Value
    pub given : P reply
    pub wanted : s.wanted ≡ missing.wanted
    pub value : s.value ≡ encode reply
    pub expiry : s.expiry ≤ missing.expiry

  -- each store
  abbrev pub AllMade : List Storing → Type 0
  AllMade [] = Unit {0}
  AllMade (s ∷ ss) = Made s × AllMade ss

  -- what becomes of a plan
  abbrev pub ResolvedHas : Resolved → Type 0
  ResolvedHas (cause7 ss) = AllMade ss
  ResolvedHas (answered vs ss) = Every R vs × AllMade ss

  -- an array with P has elements with P; what has P has R; so do `_`, and an array of elements with R
  pub record Closed : Type 0 where
    pub elements : (vs : Values) → P (array vs) → Every P vs
    pub hands : (v : Value) → P v → R v
    pub unfilled : R null
    pub lists : (vs : Values) → Every R vs → R (array vs)
