-- What each function of resolving answers and leaves. Assumes nothing: these are definitions.
use Rattle.std.specs.Prelude.{◌≡◌, Bool, true, false, List, ℕ, ◌+◌, ◌-◌, ◌≤◌, length, replicate, Result, Err, Option as Maybe, Some, None}
use Rattle.std.proofs.Math.Option.{Option, some}
use Rattle.std.proofs.Math.Option as option
use Rattle.buffer.specs.Same.{Bytes}
use Rattle.buffer.specs.Part.{part, put}
use Rattle.config.specs.Limits.{max_bytes}
use Rattle.config.specs.declared.Settings.{Settings}
use Rattle.config.specs.declared.Cause.{Cause}
use Rattle.config.specs.declared.Cause.TheVariants.{BadShape}
use Rattle.resp3.specs.Value.{Value, Values, Means}
use Rattle.resp3.specs.Decode as resp
use Rattle.resp3_element.specs.declared.Cursor.{Cursor}
use Rattle.resp3_element.specs.Meaning.{Stands}
use Rattle.book.specs.Book.{Row, Book}
use Rattle.book.specs.Calls.{after_call}
use Rattle.arena.specs.Held.{Held}
use Rattle.sharded_lru.specs.Lent.{setup_now, Lent}
use Rattle.planning.specs.Plan.{Node, plan_head_size}
use Rattle.plan.specs.Decode.{read_plan, decode_plan}
use Rattle.resolving_walk.specs.Commands.{plan_read}
use Rattle.resolving.specs.Convert.{replies_of}
use Rattle.resolving.specs.Resolve.{Resolved, resolve}
use Rattle.resolving_walk.specs.Walk.{walk}
use Rattle.resolving_walk.specs.Same.{result_head}
use Rattle.resolving_step.specs.declared.Walk.{Walk}
use Rattle.resolving_passes.specs.Passes.{Starts, answer_bytes}
use Rattle.resolving_passes.specs.declared.Dry.{Dry}
use Rattle.resolving_passes.specs.declared.Dry.TheVariants.{Fits, Short, Wrong}
use Rattle.resolving_store.specs.Stores.{StorePass}
use Rattle.caching_cmd.specs.declared.Answered.{Answered}
use Rattle.caching_cmd.specs.declared.ReplyList.{ReplyList}
use Rattle.caching_cmd.specs.Call.{answered_with, told_to, answer_of, buffer_after, planned, Comes}

-- ---- the list of replies

-- it stands in the replies, and the cursor at its first element
abbrev pub FoundIs : Bytes → Maybe ReplyList → Option Values → Type 0
FoundIs s (Some x) (some rs) = (x.from ≤ x.to) × (x.to ≤ length s) × Stands (part s x.from (x.to - x.from)) x.first rs
FoundIs s (Some x) option.none = ⊥
FoundIs s None (some rs) = ⊥
FoundIs s None option.none = Unit {0}

abbrev pub Finds : Bytes → Bool → Maybe ReplyList → Type 0
Finds s transaction r = (v : Value) → Means s v → FoundIs s r (replies_of transaction v)

-- the walk behind the plan's head
abbrev pub start_at : Cursor → Walk
start_at first = record { at = plan_head_size; reply = first; from = 0; to = 0; element = record { at = 0; end = 0; left = 0 } }

-- a list of replies that is not too long
pub record Listed (s : Bytes) (first : Cursor) : Type 0 where
  pub rs : Values
  pub stands : Stands s first rs
  pub small : length s ≤ max_bytes

-- ---- the passes together

-- what was fetched is stored, where it is to be kept; else the arena stays as it is
abbrev pub StoredIf : Settings → ℕ → Bytes → Bytes → Walk → ℕ → Bool → Bytes → Bytes → ℕ → Type 0
StoredIf g epoch p s c clock true old new n = StorePass g epoch p s c g.mode clock old new n
StoredIf g epoch p s c clock false old new n = (new ≡ old) × (n ≡ 0)

-- where 7 refuses, what was stored before stays; 8 leaves all as it was
abbrev pub is_kept : Dry → Bool
is_kept Wrong = true
is_kept Short = false
is_kept Fits = true

abbrev pub StoredFor : Settings → ℕ → Bytes → Bytes → Walk → ℕ → Dry → Bytes → Bytes → ℕ → Type 0
StoredFor g epoch p s c clock found old new n = StoredIf g epoch p s c clock (is_kept found) old new n

abbrev pub ShapeRefused : Bytes → Bytes → Result Answered Cause → Type 0
ShapeRefused buffer after r = (r ≡ Err BadShape) × (after ≡ replicate (length buffer) 0)

abbrev pub AllWritten : Settings → Bytes → Bytes → Walk → ℕ → Bool → ℕ → ℕ → Bytes → Bytes → Result Answered Cause → Type 0
AllWritten g p s c clock transaction k refused buffer after r =
    (ns : List Node) (es rs : Values) → Starts p s c ns es rs
    → (r ≡ answered_with (length (result_head transaction k) + length (answer_bytes (walk g.mode clock ns es rs))) refused)
    × (after ≡ put (put buffer 0 (result_head transaction k)) (length (result_head transaction k)) (answer_bytes (walk g.mode clock ns es rs)))

-- ---- on the book

-- on an arena that holds a book's rows: the answer, the arena and the buffer of what becomes of the plan
abbrev pub Judged : Settings → Bool → ℕ → Resolved → Bytes → Bytes → Bytes → Bytes → Result Answered Cause → Type 0
Judged g transaction epoch v old new buffer after r =
    (bk : Book) → Lent g old bk.rows
    → (r ≡ answer_of (setup_now g) transaction epoch v (length buffer) bk)
    × Lent g new (after_call (setup_now g) (told_to transaction epoch v (length buffer)) bk).rows
    × (after ≡ buffer_after transaction v buffer)

abbrev pub ListResolved : Settings → ℕ → Bytes → Bytes → Cursor → ℕ → Bytes → Bytes → Bytes → Bytes → Result Answered Cause → Type 0
ListResolved g epoch plan list first clock old new buffer after r =
    (v : Value) (rs : Values) → replies_of (read_plan plan).transaction v ≡ some rs → Stands list first rs
    → Judged g (read_plan plan).transaction epoch (resolve (plan_read (read_plan plan)) g.mode clock v) old new buffer after r

abbrev pub CheckedResolved : Settings → ℕ → Bytes → Bytes → ℕ → Bytes → Bytes → Bytes → Bytes → Result Answered Cause → Type 0
CheckedResolved g epoch plan replies clock old new buffer after r =
    Judged g (read_plan plan).transaction epoch (resolve (plan_read (read_plan plan)) g.mode clock (resp.decode replies)) old new buffer after r

abbrev pub AdmittedResolved : Settings → ℕ → Bytes → Bytes → ℕ → Bytes → Bytes → Bytes → Bytes → Result Answered Cause → Type 0
AdmittedResolved g epoch plan replies clock old new buffer after r =
    (h : Held) (rows : ℕ → Row) → h.arena ≡ old → Lent g old rows → Comes (planned g rows (decode_plan plan) replies clock epoch buffer h) r new after
