-- What a step of resolving means: the places that it answers, read off the plan p and the list of replies s, are what the walk's node gives.
-- Assumes nothing: these are definitions.
use Rattle.std.specs.Prelude.{◌≡◌, Option, None, Some, List, [], ◌∷◌, ℕ, ◌-◌, ◌≤◌, length, drop}
use Rattle.buffer.specs.Same.{Bytes}
use Rattle.buffer.specs.Part.{part}
use Rattle.config.specs.Limits.{max_bytes}
use Rattle.config.specs.declared.CacheMode.{CacheMode}
use Rattle.config.specs.declared.CacheMode.TheVariants.{All, OptIn}
use Rattle.format.specs.Lists.{enc_all}
use Rattle.resp3.specs.Value.{Value, Values, none, more, Means, null_bytes}
use Rattle.resp3_element.specs.declared.Cursor.{Cursor}
use Rattle.resp3_element.specs.Meaning.{Stands}
use Rattle.book.specs.Calls.{Missing, Storing}
use Rattle.cmd.specs.Pack.{head}
use Rattle.planning.specs.Kinds.{kind_of_number}
use Rattle.planning.specs.Plan.{Node, enc_node, null_start}
use Rattle.planning.specs.Rules.{GoodNode}
use Rattle.plan.specs.declared.NodeHead.{NodeHead}
use Rattle.plan.specs.Node.{kind_of, first_of, second_of, number_of}
use Rattle.resolving.specs.Resolve.{eaten}
use Rattle.resolving.specs.Kept.{Asked, AllStorable}
use Rattle.resolving_walk.specs.Walk.{Given, nothing, Move, stop, move, fetched, hand_move, single_move, several_move, waiting_move, node_move, bytes_of, stores_of}
use Rattle.resolving_step.specs.declared.Walk.{Walk}
use Rattle.resolving_step.specs.declared.Missed.{Missed}
use Rattle.resolving_step.specs.declared.Step.{Step}
use Rattle.resolving_step.specs.declared.Next.{Next}
use Rattle.resolving_step.specs.declared.Next.TheVariants.{Plan, Reply, Head, Keep, Pass}

-- ---- what a step says

-- the bytes of the element that is handed out (rule S10), in the plan or in the replies
abbrev pub element_bytes : Bytes → Bytes → Next → Bytes
element_bytes p s (Plan a e) = part p a (e - a)
element_bytes p s (Reply a e) = part s a (e - a)
element_bytes p s (Head n) = []
element_bytes p s (Keep m a e) = part s a (e - a)
element_bytes p s Pass = []

-- which of the two, plan or replies, that is; what hands out nothing is told as a part of no bytes at the plan's start
abbrev pub holder_of {ℓ} : {A : Type ℓ} → Next → A → A → A
holder_of (Plan a e) p s = p
holder_of (Reply a e) p s = s
holder_of (Head n) p s = p
holder_of (Keep m a e) p s = s
holder_of Pass p s = p

-- and where in it the part begins
abbrev pub element_start : Next → ℕ
element_start (Plan a e) = a
element_start (Reply a e) = a
element_start (Head n) = 0
element_start (Keep m a e) = a
element_start Pass = 0

-- the same where there may be no step, whose reply is absent or of the wrong shape: nothing is handed out
abbrev pub part_bytes : Bytes → Bytes → Option Next → Bytes
part_bytes p s None = []
part_bytes p s (Some n) = element_bytes p s n

abbrev pub part_holder {ℓ} : {A : Type ℓ} → Option Next → A → A → A
part_holder None p s = p
part_holder (Some n) p s = holder_of n p s

abbrev pub part_start : Option Next → ℕ
part_start None = 0
part_start (Some n) = element_start n

-- the bytes of the answer
abbrev pub next_bytes : Bytes → Bytes → Next → Bytes
next_bytes p s (Plan a e) = part p a (e - a)
next_bytes p s (Reply a e) = part s a (e - a)
next_bytes p s (Head n) = head 42 n
next_bytes p s (Keep m a e) = part s a (e - a)
next_bytes p s Pass = []

-- the store of a missing key
abbrev pub keeping : Bytes → Bytes → Missed → ℕ → ℕ → Storing
keeping p s m a e =
    record {
      wanted = record { key = part p m.key (m.command - m.key); command = part p m.command (m.end - m.command) };
      value = part s a (e - a);
      expiry = m.expiry;
    }

abbrev pub next_stores : Bytes → Bytes → Next → List Storing
next_stores p s (Plan a e) = []
next_stores p s (Reply a e) = []
next_stores p s (Head n) = []
next_stores p s (Keep m a e) = keeping p s m a e ∷ []
next_stores p s Pass = []

-- a missing key's places are in order and within the plan
pub record MissedIn (p : Bytes) (m : Missed) : Type 0 where
  pub order : m.key ≤ m.command
  pub between : m.command ≤ m.end
  pub within : m.end ≤ length p

-- a part lies in the slice that holds it
abbrev pub NextIn : Bytes → Bytes → Next → Type 0
NextIn p s (Plan a e) = (a ≤ e) × (e ≤ length p)
NextIn p s (Reply a e) = (a ≤ e) × (e ≤ length s)
NextIn p s (Head n) = Unit {0}
NextIn p s (Keep m a e) = (a ≤ e) × (e ≤ length s) × MissedIn p m
NextIn p s Pass = Unit {0}

-- the step says what the walk's node gives, and what is to be stored may be stored
pub record Says (p s : Bytes) (n : Next) (g : Given) : Type 0 where
  pub bytes : next_bytes p s n ≡ bytes_of g
  pub stores : next_stores p s n ≡ stores_of g
  pub inside : NextIn p s n
  pub storable : AllStorable (next_stores p s n)

-- ---- where the walk stands

-- what holds of plan and list throughout: the plan has the bytes of `_`, and the list is no longer than a value may be
pub record Bounds (p s : Bytes) : Type 0 where
  pub blank : part p null_start 3 ≡ null_bytes
  pub long : 4 ≤ length p
  pub small : length s ≤ max_bytes

-- the elements es and the replies rs are left
pub record Lists (s : Bytes) (c : Walk) (es rs : Values) : Type 0 where
  pub replies : Stands s c.reply rs
  pub order : c.from ≤ c.to
  pub within : c.to ≤ length s
  pub elements : Stands (part s c.from (c.to - c.from)) c.element es

-- some are
pub record Placed (s : Bytes) (c : Walk) : Type 0 where
  pub es : Values
  pub rs : Values
  pub lists : Lists s c es rs

-- before the nodes ns, with the elements es and the replies rs left
pub record At (p s : Bytes) (c : Walk) (ns : List Node) (es rs : Values) : Type 0 where
  pub nodes : drop c.at p ≡ enc_all enc_node ns
  pub here : c.at ≤ length p
  pub lists : Lists s c es rs

-- ---- what each function answers

-- a missing key's places, from its head
abbrev pub missed_of : NodeHead → Missed
missed_of n = record { key = n.first; command = n.second; end = n.end; expiry = n.number }

-- a missing key stands in the plan
pub record MissedIs (p : Bytes) (m : Missed) (w : Missing) : Type 0 where
  pub inside : MissedIn p m
  pub key : part p m.key (m.command - m.key) ≡ w.wanted.key
  pub command : part p m.command (m.end - m.command) ≡ w.wanted.command
  pub expiry : m.expiry ≡ w.expiry
  pub asked : Asked w

abbrev pub Fetches : Bytes → Missed → ℕ → Cursor → ℕ → ℕ → Next → Type 0
Fetches s m clock pttl from to r =
    (p : Bytes) (w : Missing) (t v : Value) (ts : Values) → Bounds p s → MissedIs p m w → Stands s pttl (more t ts) → Means (part s from (to - from)) v
    → Says p s r (fetched clock w t v)

-- a step that leaves the node's place is the walk's; there is none exactly where the walk stops
abbrev pub Moved : Bytes → Bytes → Walk → Option Step → Move → Type 0
Moved p s c None stop = Unit {0}
Moved p s c None (move g es rs) = ⊥
Moved p s c (Some r) stop = ⊥
Moved p s c (Some r) (move g es rs) = Says p s r.next g × Lists s r.walk es rs × (r.walk.at ≡ c.at)

abbrev pub HandsOn : Bytes → Walk → Option Step → Type 0
HandsOn s c r = (p : Bytes) (es rs : Values) → Bounds p s → Lists s c es rs → Moved p s c r (hand_move es rs)

abbrev pub ReadyFor : Bytes → Walk → Values → CacheMode → Values → Option Walk → Type 0
ReadyFor s c es All rs (Some d) = Lists s d es rs × (d.at ≡ c.at)
ReadyFor s c es All rs None = ⊥
ReadyFor s c es OptIn none (Some d) = ⊥
ReadyFor s c es OptIn none None = Unit {0}
ReadyFor s c es OptIn (more v rs) (Some d) = Lists s d es rs × (d.at ≡ c.at)
ReadyFor s c es OptIn (more v rs) None = ⊥

abbrev pub Readies : Bytes → Walk → CacheMode → Option Walk → Type 0
Readies s c mode r = (es rs : Values) → Lists s c es rs → ReadyFor s c es mode rs r

abbrev pub TakesSingle : Bytes → Walk → Missed → ℕ → Option Step → Type 0
TakesSingle s c m clock r =
    (p : Bytes) (w : Missing) (es rs : Values) → Bounds p s → MissedIs p m w → Lists s c es rs → Moved p s c r (single_move clock w es rs)

abbrev pub TakesSeveral : Bytes → Walk → ℕ → Option Step → Type 0
TakesSeveral s c n r = (p : Bytes) (es rs : Values) → Bounds p s → Lists s c es rs → Moved p s c r (several_move n rs)

abbrev pub Waits : Bytes → Walk → Missed → ℕ → Step → Type 0
Waits s c m clock r =
    (p : Bytes) (w : Missing) (es rs : Values) → Bounds p s → MissedIs p m w → Lists s c es rs → Moved p s c (Some r) (waiting_move clock w es rs)

abbrev pub Ends : Bytes → Walk → Step → Type 0
Ends s c r = (p : Bytes) (es rs : Values) → Bounds p s → Lists s c es rs → Moved p s c (Some r) (move nothing none (eaten es rs))

-- a head read off the plan is a good node's
pub record HeadFor (p : Bytes) (n : NodeHead) (nd : Node) : Type 0 where
  pub good : GoodNode nd
  pub kind : n.kind ≡ kind_of_number (kind_of nd)
  pub number : n.number ≡ number_of nd
  pub order : n.first ≤ n.second
  pub between : n.second ≤ n.end
  pub within : n.end ≤ length p
  pub first : part p n.first (n.second - n.first) ≡ first_of nd
  pub second : part p n.second (n.end - n.second) ≡ second_of nd

abbrev pub OnNode : Bytes → Walk → NodeHead → CacheMode → ℕ → Option Step → Type 0
OnNode s c n mode clock r =
    (p : Bytes) (nd : Node) (es rs : Values) → Bounds p s → HeadFor p n nd → Lists s c es rs → Moved p s c r (node_move mode clock nd es rs)

-- a step does what the walk does at its node; there is none exactly where the walk stops
abbrev pub Does : Bytes → Bytes → List Node → Option Step → Move → Type 0
Does p s ns None stop = Unit {0}
Does p s ns None (move g es rs) = ⊥
Does p s ns (Some r) stop = ⊥
Does p s ns (Some r) (move g es rs) = Says p s r.next g × At p s r.walk ns es rs

abbrev pub StepIs : Bytes → Bytes → Walk → CacheMode → ℕ → Option Step → Type 0
StepIs p s c mode clock r =
    (nd : Node) (ns : List Node) (es rs : Values) → Bounds p s → GoodNode nd → At p s c (nd ∷ ns) es rs → Does p s ns r (node_move mode clock nd es rs)
