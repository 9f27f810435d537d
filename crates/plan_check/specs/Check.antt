-- Cause 10's test as the code makes it: one walk over the nodes, each tested by itself and by what has to follow. Assumes nothing: these are definitions;
-- that they say what crate plan's Decode.antt says is proved in Start.antt (`check-start`, `check-refused`, `check-end`).
-- Letters: k kind, a and b lengths of the parts, x number, e where the next node stands, c commands left, p places left.
use Rattle.std.specs.Prelude.{Option, None, Some, Result, Ok, Err, ℕ, ◌+◌, ◌-◌, Bool, true, false, cond, not, length, get_or, eqb, leb}
use Rattle.buffer.specs.Same.{Bytes, same}
use Rattle.buffer.specs.Field.{read32}
use Rattle.buffer.specs.Part.{part}
use Rattle.config.specs.Limits.{max_commands, max_arguments, max_key, max_command_key}
use Rattle.resp3.specs.Value.{null_bytes}
use Rattle.resp3.specs.Ends.{is_value}
use Rattle.planning.specs.Kinds.{same_kind}
use Rattle.planning.specs.declared.NodeKind.{NodeKind}
use Rattle.planning.specs.declared.NodeKind.TheVariants.{HandOn, Served, AllServed, Missing, Several, Waiting, End}
use Rattle.planning.specs.declared.UnknownKind.{UnknownKind}
use Rattle.planning.specs.Plan.{plan_head_size, node_head_size}
use Rattle.planning.specs.Plan.{null_start}
use Rattle.plan.specs.declared.NodeHead.{NodeHead}
use Rattle.plan.specs.Head.{end_at, head_at}
use Rattle.plan_check.specs.declared.Walk.{Walk}

-- both tests hold
abbrev pub both : Bool → Bool → Bool
both t u = cond t u false

-- ---- a node by itself

-- a whole node stands at `at`
unfoldable pub whole_at : Bytes → ℕ → Bool
whole_at s at = both (leb (at + node_head_size) (length s)) (leb (end_at s at) (length s))

-- a reply handed on, the end of several: no parts, and the number 0
abbrev pub empty_fine : ℕ → ℕ → ℕ → Bool
empty_fine a b x = both (eqb a 0) (both (eqb b 0) (eqb x 0))

-- a served value: a value, given by its test
abbrev pub value_fine : ℕ → ℕ → Bool → Bool
value_fine b x v = both (eqb b 0) (both (eqb x 0) v)

-- all places served, several keys: a number of places
abbrev pub places_fine : ℕ → ℕ → ℕ → Bool
places_fine a b x = both (eqb a 0) (both (eqb b 0) (leb x max_arguments))

-- a missing key, a place that waits: a key and a command key
abbrev pub key_fine : ℕ → ℕ → Bool
key_fine a b = both (leb a max_key) (leb b max_command_key)

-- by the kind
unfoldable pub kind_fine : Result NodeKind UnknownKind → ℕ → ℕ → ℕ → Bool → Bool
kind_fine (Ok HandOn) a b x v = empty_fine a b x
kind_fine (Ok Served) a b x v = value_fine b x v
kind_fine (Ok AllServed) a b x v = places_fine a b x
kind_fine (Ok Missing) a b x v = key_fine a b
kind_fine (Ok Several) a b x v = places_fine a b x
kind_fine (Ok Waiting) a b x v = key_fine a b
kind_fine (Ok End) a b x v = empty_fine a b x
kind_fine (Err n) a b x v = false

-- of a node whose head is h
unfoldable pub head_fine : Bytes → NodeHead → Bool
head_fine s h = kind_fine h.kind (h.second - h.first) (h.end - h.second) h.number (is_value (part s h.first (h.second - h.first)))

-- ---- what has to follow

-- at e, with c commands left, and p places of a command whose places are all served (or, where b says so, of several keys)
abbrev pub walk_to : ℕ → ℕ → ℕ → Bool → Option Walk
walk_to e c p b = Some (record { at = e; commands = c; places = p; several = b })

-- a node as the first of a command, behind which c commands are left
abbrev pub first_node : ℕ → NodeKind → ℕ → ℕ → Option Walk
first_node c HandOn x e = walk_to e c 0 false
first_node c Served x e = walk_to e c 0 false
first_node c AllServed x e = walk_to e c x false
first_node c Missing x e = walk_to e c 0 false
first_node c Several x e = walk_to e c x true
first_node c Waiting x e = None
first_node c End x e = None

abbrev pub as_command : ℕ → NodeKind → ℕ → ℕ → Option Walk
as_command c k x e = cond (eqb c 0) None (first_node (c - 1) k x e)

-- a node where p served values have to follow
abbrev pub as_value : ℕ → ℕ → NodeKind → ℕ → ℕ → Option Walk
as_value p c k x e = cond (eqb p 0) (as_command c k x e) (cond (same_kind k Served) (walk_to e c (p - 1) false) None)

-- a node as the end of several
abbrev pub as_end : ℕ → NodeKind → ℕ → Option Walk
as_end c k e = cond (same_kind k End) (walk_to e c 0 false) None

-- a node where p places and the end of several have to follow
abbrev pub as_place : ℕ → ℕ → NodeKind → ℕ → Option Walk
as_place p c k e =
    cond (eqb p 0) (as_end c k e)
    (cond (same_kind k Served) (walk_to e c (p - 1) true) (cond (same_kind k Waiting) (walk_to e c (p - 1) true) None))

-- a node of that kind, by what the walk is inside of; of no kind none may follow
abbrev pub followed_as : Walk → Result NodeKind UnknownKind → ℕ → ℕ → Option Walk
followed_as w (Ok k) x e = cond w.several (as_place w.places w.commands k e) (as_value w.places w.commands k x e)
followed_as w (Err n) x e = None

abbrev pub followed : Walk → NodeHead → Option Walk
followed w h = followed_as w h.kind h.number h.end

-- the walk past the node where it stands
unfoldable pub walked_past : Bytes → Walk → Option Walk
walked_past s w = cond (whole_at s w.at) (cond (head_fine s (head_at s w.at)) (followed w (head_at s w.at)) None) None

-- nothing has to follow
abbrev pub finished : Walk → Bool
finished w = both (eqb w.commands 0) (both (eqb w.places 0) (not w.several))

-- ---- the start

-- flags, `_` and count
unfoldable pub start_fine : Bytes → Bool
start_fine s = both (leb plan_head_size (length s)) (both (leb (get_or s 0 0) 1) (both (same (part s null_start 3) null_bytes) (leb (read32 s 4) max_commands)))

-- at the first node
abbrev pub start_at : Bytes → Walk
start_at s = record { at = plan_head_size; commands = read32 s 4; places = 0; several = false }
