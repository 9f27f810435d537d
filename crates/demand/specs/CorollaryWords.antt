-- Further words, of the corollaries of demand 3 (Corollaries.antt): what a return shows beside its lookups, what arguments say, and what is counted on the
-- book. Assumes nothing: these are definitions.
use Rattle.std.specs.Prelude.{◌≡◌, ℕ, ◌+◌, cond, List, [], ◌∷◌, ◌++◌, map, take}
use Rattle.std.proofs.Math.Option.{Option, none, some}
use Rattle.buffer.specs.Same.{Bytes}
use Rattle.config.specs.declared.CacheMode.{CacheMode}
use Rattle.config.specs.declared.Settings.{Settings}
use Rattle.resp3.specs.Value.{Values}
use Rattle.call_record.specs.Record as records
use Rattle.book.specs.Book as book
use Rattle.book.specs.Book.{Setup, Book, Event, on, invalidate_all, entries_of, all_entries}
use Rattle.book.specs.Calls as calls
use Rattle.book.specs.Calls.{Missing, missing_until, Storing, Call, run}
use Rattle.book.specs.Residence.{item_of, ends}
use Rattle.book.specs.Demand3.{lacking}
use Rattle.planning.specs.Ask.{client_expiry, ask}
use Rattle.planning.specs.Outcome.{wants}
use Rattle.resolving.specs.Plan.{Command}
use Rattle.resolving.specs.Resolve.{cause7, answered, take_commands}
use Rattle.demand.specs.Call.{RealCall, planning, resolving, push, lookup, store, invalidate, new_epoch, Return, planned, resolved, pushed}
use Rattle.demand.specs.Call.{looked_up, stored, invalidated, epoch_taken}
use Rattle.demand.specs.Words.{Got, got, missed, gots_of}

-- the plan that a planning wrote: so many bytes from the start of its buffer as it says
unfoldable pub plan_bytes : Return → Bytes
plan_bytes (planned r plan send) = take r.plan plan
plan_bytes (resolved r answer) = []
plan_bytes (pushed n) = []
plan_bytes (looked_up r place value) = []
plan_bytes (stored n) = []
plan_bytes (invalidated n) = []
plan_bytes (epoch_taken n) = []

-- how many get a value, how many do not
unfoldable pub served : List Got → ℕ
served [] = 0
served (got v ∷ gs) = 1 + served gs
served (missed ∷ gs) = served gs

unfoldable pub unserved : List Got → ℕ
unserved [] = 0
unserved (got v ∷ gs) = unserved gs
unserved (missed ∷ gs) = 1 + unserved gs

-- over all returns of a sequence
unfoldable pub total : (List Got → ℕ) → List Return → ℕ
total count [] = 0
total count (r ∷ rs) = count (gots_of r) + total count rs

-- how many stores a resolving reports as refused
unfoldable pub reported_by : Return → ℕ
reported_by (planned r plan send) = 0
reported_by (resolved r answer) = r.refused
reported_by (pushed n) = 0
reported_by (looked_up r place value) = 0
reported_by (stored n) = 0
reported_by (invalidated n) = 0
reported_by (epoch_taken n) = 0

-- output buffers after a call, and as they were lent to it
unfoldable pub buffers_of : Return → List Bytes
buffers_of (planned r plan send) = plan ∷ send ∷ []
buffers_of (resolved r answer) = answer ∷ []
buffers_of (pushed n) = []
buffers_of (looked_up r place value) = []
buffers_of (stored n) = []
buffers_of (invalidated n) = []
buffers_of (epoch_taken n) = []

unfoldable pub buffers_in : RealCall → List Bytes
buffers_in (planning mode ttl clock epoch bytes plan send) = plan ∷ send ∷ []
buffers_in (resolving mode ttl clock epoch plan replies answer) = answer ∷ []
buffers_in (push mode ttl bytes) = []
buffers_in (lookup mode ttl clock epoch key command) = []
buffers_in (store mode ttl epoch key command value expiry) = []
buffers_in (invalidate mode ttl key) = []
buffers_in new_epoch = []

-- the mode given; a new epoch is given none
unfoldable pub mode_in : RealCall → ℕ
mode_in (planning mode ttl clock epoch bytes plan send) = mode
mode_in (resolving mode ttl clock epoch plan replies answer) = mode
mode_in (push mode ttl bytes) = mode
mode_in (lookup mode ttl clock epoch key command) = mode
mode_in (store mode ttl epoch key command value expiry) = mode
mode_in (invalidate mode ttl key) = mode
mode_in new_epoch = 0

-- every call but a new epoch is lent the arena
abbrev pub LentArena : RealCall → Type 0
LentArena (planning mode ttl clock epoch bytes plan send) = Unit {0}
LentArena (resolving mode ttl clock epoch plan replies answer) = Unit {0}
LentArena (push mode ttl bytes) = Unit {0}
LentArena (lookup mode ttl clock epoch key command) = Unit {0}
LentArena (store mode ttl epoch key command value expiry) = Unit {0}
LentArena (invalidate mode ttl key) = Unit {0}
LentArena new_epoch = ⊥

-- how many new epochs some calls take
unfoldable pub epochs_in : List RealCall → ℕ
epochs_in [] = 0
epochs_in (planning mode ttl clock epoch bytes plan send ∷ cs) = epochs_in cs
epochs_in (resolving mode ttl clock epoch plan replies answer ∷ cs) = epochs_in cs
epochs_in (push mode ttl bytes ∷ cs) = epochs_in cs
epochs_in (lookup mode ttl clock epoch key command ∷ cs) = epochs_in cs
epochs_in (store mode ttl epoch key command value expiry ∷ cs) = epochs_in cs
epochs_in (invalidate mode ttl key ∷ cs) = epochs_in cs
epochs_in (new_epoch ∷ cs) = 1 + epochs_in cs

-- what a planning looks up, in order, each with its command's client expiry
unfoldable pub sought : Settings → ℕ → List records.Command → List Missing
sought g clock [] = []
sought g clock (c ∷ cs) = map (missing_until (client_expiry g clock c)) (wants c (ask g clock c)) ++ sought g clock cs

-- those of them that get nothing
unfoldable pub unfound : List Missing → List Got → List Missing
unfound [] gs = []
unfound (m ∷ ms) [] = []
unfound (m ∷ ms) (got v ∷ gs) = unfound ms gs
unfound (m ∷ ms) (missed ∷ gs) = m ∷ unfound ms gs

-- the stores of a resolving that the space rule refuses; a call that is none has none
unfoldable pub lacking_in : Setup → Call → Book → ℕ
lacking_in p (calls.planning t e ws short) bk = 0
lacking_in p (calls.resolving e ss) bk = lacking p e ss bk
lacking_in p (calls.resolving7 e ss) bk = 0
lacking_in p (calls.push ks) bk = 0
lacking_in p calls.push_all bk = 0
lacking_in p (calls.single q) bk = 0
lacking_in p calls.take_epoch bk = 0
lacking_in p calls.refused bk = 0

-- the entries that an event adds to invalidate: those of an item that a lookup or an invalidation ends the stay of
unfoldable pub dropped_by : Setup → Event → Book → ℕ
dropped_by p (on (book.lookup k c t e)) bk = cond (ends p k (on (book.lookup k c t e)) bk) (entries_of (item_of p k bk)) 0
dropped_by p (on (book.store k c v x e)) bk = 0
dropped_by p (on (book.invalidate k)) bk = entries_of (item_of p k bk)
dropped_by p invalidate_all bk = all_entries p.shards bk.rows
dropped_by p book.new_epoch bk = 0

-- over a trace, latest event first
unfoldable pub dropped_in : Setup → Book → List Event → ℕ
dropped_in p bk [] = 0
dropped_in p bk (ev ∷ h) = dropped_in p bk h + dropped_by p ev (run p bk h)

-- where a resolving meets cause 7, and the stores of the commands before: the longest row of commands that the replies answer, or none where there is no list
pub data StopsAt (mode : CacheMode) (clock : ℕ) (commands : List Command) : Option Values → List Storing → Type 0 where
  no_list : StopsAt mode clock commands none []
  at_command : (rs : Values) (done : List Command) (failing : Command) (later : List Command) (vs : Values) (ss : List Storing)
      → commands ≡ done ++ (failing ∷ later) → take_commands mode clock done rs ≡ answered vs ss
      → take_commands mode clock (done ++ (failing ∷ [])) rs ≡ cause7 ss → StopsAt mode clock commands (some rs) ss
