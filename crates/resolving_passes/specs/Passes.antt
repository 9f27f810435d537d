-- What the dry pass finds and the answer pass writes, by the walk over the nodes from a place on. Assumes nothing: these are definitions.
use Rattle.std.specs.Prelude.{◌≡◌, Option, Bool, true, false, List, [], ℕ, ◌+◌, ◌-◌, ◌≤◌, length}
use Rattle.buffer.specs.Same.{Bytes}
use Rattle.buffer.specs.Part.{put}
use Rattle.config.specs.declared.CacheMode.{CacheMode}
use Rattle.decimal.specs.Digits.{digits}
use Rattle.format.specs.Lists.{All}
use Rattle.resp3.specs.Value.{Values}
use Rattle.planning.specs.Plan.{Node}
use Rattle.planning.specs.Rules.{GoodNode}
use Rattle.resolving_walk.specs.Walk.{Walked, stopped, through, walk}
use Rattle.resolving_step.specs.declared.Walk.{Walk}
use Rattle.resolving_step.specs.declared.Next.{Next}
use Rattle.resolving_step.specs.declared.Next.TheVariants.{Plan, Reply, Head, Keep, Pass}
use Rattle.resolving_step.specs.Steps.{Bounds, At}
use Rattle.room.specs.Room.{has_room}
use Rattle.resolving_passes.specs.declared.Dry.{Dry}
use Rattle.resolving_passes.specs.declared.Dry.TheVariants.{Fits, Short, Wrong}

-- ---- sizes

-- a part's ends are in order
abbrev pub Ordered : Next → Type 0
Ordered (Plan a e) = a ≤ e
Ordered (Reply a e) = a ≤ e
Ordered (Head n) = Unit {0}
Ordered (Keep m a e) = a ≤ e
Ordered Pass = Unit {0}

-- how many bytes a step adds
abbrev pub next_size : Next → ℕ
next_size (Plan a e) = e - a
next_size (Reply a e) = e - a
next_size (Head n) = length (digits n) + 3
next_size (Keep m a e) = e - a
next_size Pass = 0

-- ---- where a pass begins

pub record Starts (p s : Bytes) (c : Walk) (ns : List Node) (es rs : Values) : Type 0 where
  pub at : At p s c ns es rs
  pub good : All GoodNode ns
  pub bounds : Bounds p s

pub record Begins (p s : Bytes) (c : Walk) : Type 0 where
  pub ns : List Node
  pub es : Values
  pub rs : Values
  pub starts : Starts p s c ns es rs

-- ---- the dry pass

abbrev pub dry_if : Bool → Dry
dry_if true = Fits
dry_if false = Short

-- a wrong shape, else whether n bytes more have room
unfoldable pub dry_of : Option ℕ → Walked → Dry
dry_of room (stopped ss) = Wrong
dry_of room (through bs ss) = dry_if (has_room room (length bs))

abbrev pub DryIs : Bytes → Bytes → Walk → CacheMode → ℕ → Option ℕ → Dry → Type 0
DryIs p s c mode clock room r = (ns : List Node) (es rs : Values) → Starts p s c ns es rs → r ≡ dry_of room (walk mode clock ns es rs)

-- ---- the answer pass

-- the walk goes through, and its bytes have room
abbrev pub FineWalk : ℕ → ℕ → Walked → Type 0
FineWalk at room (stopped ss) = ⊥
FineWalk at room (through bs ss) = at + length bs ≤ room

abbrev pub Fine : Bytes → Bytes → Walk → CacheMode → ℕ → ℕ → ℕ → Type 0
Fine p s c mode clock at room = (ns : List Node) (es rs : Values) → Starts p s c ns es rs → FineWalk at room (walk mode clock ns es rs)

-- the bytes of the answers
abbrev pub answer_bytes : Walked → Bytes
answer_bytes (stopped ss) = []
answer_bytes (through bs ss) = bs

abbrev pub AnswerIs : Bytes → Bytes → Walk → CacheMode → ℕ → ℕ → ℕ → Bytes → Bytes → Type 0
AnswerIs p s c mode clock at r old new =
    (ns : List Node) (es rs : Values) → Starts p s c ns es rs
    → (r ≡ at + length (answer_bytes (walk mode clock ns es rs))) × (new ≡ put old at (answer_bytes (walk mode clock ns es rs)))
