-- The plan's head, the list of replies, and the call from its checks to its end: one law for each way through the code. Assumes nothing.
use Rattle.std.specs.Prelude.{◌≡◌, Bool, true, false, cond, [], ◌∷◌, ◌++◌, drop, Result, Ok, Err, Option as Maybe, Some, None, Option}
use Rattle.std.proofs.Math.Path.{refl, sym, ap}
use Rattle.std.proofs.Common.{subst, ◌∙◌, arith, length-append}
use Rattle.std.proofs.Math.Option.{some}
use Rattle.std.proofs.Math.Option as option
use Prim.Native.Nat.{ℕ, ◌+◌, ◌-◌, ◌≤◌}
use Rattle.std.proofs.Math.ListN.{length}
use Rattle.buffer.specs.Same.{Bytes}
use Rattle.buffer.specs.Field.{le32}
use Rattle.buffer.specs.FieldLaws.{length-le}
use Rattle.buffer.specs.Part.{part}
use Rattle.buffer.specs.PartLaws.{part_at, part-all, length_part}
use Rattle.config.specs.Causes.{bad_plan, bad_reply}
use Rattle.config.specs.Limits.{max_bytes}
use Rattle.config.specs.declared.CacheMode.{CacheMode}
use Rattle.config.specs.declared.Settings.{Settings}
use Rattle.config.specs.declared.Cause.{Cause}
use Rattle.format.specs.Lists.{enc_all}
use Rattle.resp3.specs.Value.{Value, Values, none, more, encode, Means, null_bytes}
use Rattle.resp3.specs.Ends.{is_value}
use Rattle.resp3.specs.Decode as resp
use Rattle.resp3.proofs.Law.{value-law, value-means}
use Rattle.resp3_element.specs.declared.Cursor.{Cursor}
use Rattle.resp3_element.specs.Meaning.{array_of, Inside, Stands, Holds}
use Rattle.book.specs.Book.{Row}
use Rattle.arena.specs.Decode.{read_arena}
use Rattle.arena.specs.Layout as layout
use Rattle.arena.specs.Held.{Held, lend, book_of}
use Rattle.sharded_lru.specs.Lent.{setup_now, Lent}
use Rattle.sharded_lru.specs.Admit.{admitted, admits}
use Rattle.call_entry.specs.Entered.{on_rows, entered}
use Rattle.call_entry.specs.Laws.{not_entered}
use Rattle.planning.specs.Plan.{enc_node, enc_plan, plan_head_size, null_start}
use Rattle.planning.specs.Rules.{GoodPlan}
use Rattle.plan.specs.Decode.{read_plan, is_plan, decode_plan}
use Rattle.plan.proofs.Law.{read-start, read_back, plan-law}
use Rattle.resolving_walk.specs.Commands.{plan_read}
use Rattle.resolving.specs.Convert.{then_only_list, replies_of}
use Rattle.resolving.specs.Resolve.{Resolved, cause7, answered, resolve}
use Rattle.resolving_walk.proofs.WalkLaws.{answers-many}
use Rattle.resolving_passes.specs.Passes.{Starts}
use Rattle.resolving_step.specs.Arms.{element-means, empty_stands}
use Rattle.caching_cmd.specs.declared.Answered.{Answered}
use Rattle.caching_cmd.specs.declared.ReplyList.{ReplyList}
use Rattle.book.specs.Calls.{after_call}
use Rattle.caching_cmd.specs.Call.{cause_of, written_of, stores_of, told_to, refused_as, resolved_on, planned, resolve_call, Comes}
use Rattle.caching_cmd.specs.Parts.{FoundIs, Finds, start_at, Listed, Judged, AdmittedResolved}
use Rattle.caching_cmd.specs.Settle.{Many}

-- ---- the plan's head

-- what is read off a plan's bytes
pub record PlanRead (s : Bytes) : Type 0 where
  pub good : GoodPlan (read_plan s)
  pub nodes : drop plan_head_size s ≡ enc_all enc_node (read_plan s).nodes
  pub long : plan_head_size ≤ length s
  pub blank : part s null_start 3 ≡ null_bytes

pub plan-read : (s : Bytes) → is_plan s ≡ true → PlanRead s
unfolding enc_plan encode
plan-read s e =
    let w = (plan-law s).0 e in
    let p = w.plan in
    let q : read_plan s ≡ p = ap read_plan w.is ∙ read_back p w.good in
    let f : ℕ = cond p.transaction 1 0 in
    let r : Bytes = enc_all enc_node p.nodes in
    let b = read-start f p.commands r w.good.count in
    let l : length s ≡ plan_head_size + length r = ap length w.is ∙ simp (length-append, length-le 4 p.commands) (omega arith) in
    record {
      good = subst GoodPlan (sym q) w.good;
      nodes = ap (drop plan_head_size) w.is ∙ b.behind ∙ ap (λ k. enc_all enc_node k.nodes) (sym q);
      long = omega arith;
      blank = ap (λ (t : Bytes). part t null_start 3) w.is ∙ part_at (f ∷ []) null_bytes (le32 p.commands ++ r) 1 3 refl refl;
    }

-- the passes start at a plan's first node and a list's first reply
pub starts : (plan list : Bytes) (first : Cursor) (rs : Values) → PlanRead plan → Stands list first rs → length list ≤ max_bytes
    → Starts plan list (start_at first) (read_plan plan).nodes none rs
starts plan list first rs h t l =
    record {
      at = record { nodes = h.nodes; here = h.long; lists = record { replies = t; order = omega arith; within = omega arith; elements = empty_stands list } };
      good = h.good.each;
      bounds = record { blank = h.blank; long = omega (arith, h.long); small = l };
    }

-- an answer for each command
pub many-answers : (plan : Bytes) → PlanRead plan → (mode : CacheMode) (clock : ℕ) (v : Value)
    → Many (resolve (plan_read (read_plan plan)) mode clock v) (read_plan plan).commands
many-answers plan h mode clock v = go (resolve (plan_read (read_plan plan)) mode clock v) refl
  where
    go : (x : Resolved) → resolve (plan_read (read_plan plan)) mode clock v ≡ x → Many x (read_plan plan).commands
    go (cause7 ss) e = tt
    go (answered vs ss) e = answers-many (read_plan plan) h.good mode clock v vs ss e

-- ---- the list of replies

-- the elements of an array, where the bytes are one
abbrev pub ArrayIs : Bytes → Option Cursor → Type 0
ArrayIs x r = (v : Value) → Means x v → Holds x r (array_of v)

-- the same of an answer that is equal
pub array-as : (x : Bytes) (r q : Option Cursor) → r ≡ q → ArrayIs x r → ArrayIs x q
array-as x r q e f = subst (ArrayIs x) e f

-- bytes that are a value are within its limit
pub value-small : (s : Bytes) → is_value s ≡ true → length s ≤ max_bytes
value-small s e = ((value-law s).0 e).small

-- the first element of an array lies in it
pub first-inside : (s : Bytes) (first : Cursor) → is_value s ≡ true → ArrayIs s (Some first) → Inside s first
first-inside s first e f = go (array_of (resp.decode s)) (f (resp.decode s) (value-means s e))
  where
    go : (o : option.Option Values) → Holds s (Some first) o → Inside s first
    go option.none h = absurd h
    go (some vs) h = h.inside

module _ (s : Bytes) (v : Value) (m : Means s v) where
  -- no array
  pub find-no : (transaction : Bool) → ArrayIs s None → FoundIs s None (replies_of transaction v)
  find-no false f = go (array_of v) (f v m)
    where
      go : (o : option.Option Values) → Holds s None o → FoundIs s None o
      go option.none h = tt
      go (some vs) h = h
  find-no true f = go (array_of v) (f v m)
    where
      go : (o : option.Option Values) → Holds s None o → FoundIs s None (then_only_list o)
      go option.none h = tt
      go (some vs) h = absurd h

  -- an array, outside a transaction
  pub find-plain : (transaction : Bool) (first : Cursor) → transaction ≡ false → ArrayIs s (Some first)
      → FoundIs s (Some (record { from = 0; to = length s; first = first })) (replies_of transaction v)
  find-plain true first e f = absurd (let z : ◌≡◌ {A = ℕ} 0 1 = cc in omega arith)
  find-plain false first e f = go (array_of v) (f v m)
    where
      go : (o : option.Option Values) → Holds s (Some first) o → FoundIs s (Some (record { from = 0; to = length s; first = first })) o
      go option.none h = h
      go (some vs) h =
          let k : length s - 0 ≡ length s = omega arith in
          (omega arith, omega arith, rw k (subst (λ (t : Bytes). Stands t first vs) (sym (part-all s)) h))

  -- in a transaction: not one element
  pub find-many : (transaction : Bool) (first : Cursor) → transaction ≡ true → ArrayIs s (Some first) → ((first.left ≡ 1) → ⊥)
      → FoundIs s None (replies_of transaction v)
  find-many false first e f n = absurd (let z : ◌≡◌ {A = ℕ} 0 1 = cc in omega arith)
  find-many true first e f n = go (array_of v) (f v m)
    where
      go : (o : option.Option Values) → Holds s (Some first) o → FoundIs s None (then_only_list o)
      go option.none h = tt
      go (some none) h = tt
      go (some (more w none)) h = absurd (n h.left)
      go (some (more w (more x vs))) h = tt

  -- one element that is no array, and one that is
  abbrev first_part : Cursor → Bytes
  first_part first = part s first.at (first.end - first.at)

  pub find-inner-no : (transaction : Bool) (first : Cursor) → transaction ≡ true → ArrayIs s (Some first) → first.left ≡ 1 → ArrayIs (first_part first) None
      → FoundIs s None (replies_of transaction v)
  find-inner-no false first e f n g = absurd (let z : ◌≡◌ {A = ℕ} 0 1 = cc in omega arith)
  find-inner-no true first e f n g = go (array_of v) (f v m)
    where
      inner : (o : option.Option Values) → Holds (first_part first) None o → FoundIs s None o
      inner option.none h = tt
      inner (some vs) h = h

      go : (o : option.Option Values) → Holds s (Some first) o → FoundIs s None (then_only_list o)
      go option.none h = tt
      go (some none) h = tt
      go (some (more w none)) h = inner (array_of w) (g w (element-means s first w none h))
      go (some (more w (more x vs))) h = tt

  pub find-inner : (transaction : Bool) (first inside : Cursor) → transaction ≡ true → ArrayIs s (Some first) → first.left ≡ 1
      → ArrayIs (first_part first) (Some inside)
      → FoundIs s (Some (record { from = first.at; to = first.end; first = inside })) (replies_of transaction v)
  find-inner false first inside e f n g = absurd (let z : ◌≡◌ {A = ℕ} 0 1 = cc in omega arith)
  find-inner true first inside e f n g = go (array_of v) (f v m)
    where
      inner : (o : option.Option Values) → Inside s first → Holds (first_part first) (Some inside) o → FoundIs s (Some (record { from = first.at; to = first.end; first = inside })) o
      inner option.none i h = h
      inner (some vs) i h = (i.order, i.within, h)

      go : (o : option.Option Values) → Holds s (Some first) o → FoundIs s (Some (record { from = first.at; to = first.end; first = inside })) (then_only_list o)
      go option.none h = absurd h
      go (some none) h = absurd (omega (arith, h.left))
      go (some (more w none)) h = inner (array_of w) h.inside (g w (element-means s first w none h))
      go (some (more w (more x vs))) h = absurd (omega (arith, h.left))

-- ---- what was found, for the functions that go on

-- the same of an answer and a flag that are equal
pub found_as : (s : Bytes) (transaction flag : Bool) (r q : Maybe ReplyList) (v : Value) → transaction ≡ flag → r ≡ q → FoundIs s r (replies_of transaction v)
    → FoundIs s q (replies_of flag v)
found_as s transaction flag r q v a e h = subst (λ (t : Bool). FoundIs s q (replies_of t v)) a (subst (λ (k : Maybe ReplyList). FoundIs s k (replies_of transaction v)) e h)

-- the list stands in the replies, and is no longer than they are
pub record Goes (s : Bytes) (from to : ℕ) (first : Cursor) (o : option.Option Values) : Type 0 where
  pub order : from ≤ to
  pub within : to ≤ length s
  pub rs : Values
  pub some : o ≡ some rs
  pub stands : Stands (part s from (to - from)) first rs

goes : (s : Bytes) (x : ReplyList) (o : option.Option Values) → FoundIs s (Some x) o → Goes s x.from x.to x.first o
goes s x option.none h = absurd h
goes s x (some rs) h = record { order = h.0; within = h.1; rs = rs; some = refl; stands = h.2 }

-- the same from what the search answered, of the replies' value
pub found-goes : (s plan : Bytes) (transaction : Bool) (r : Maybe ReplyList) (x : ReplyList) → is_value s ≡ true
    → transaction ≡ (read_plan plan).transaction → r ≡ Some x → Finds s transaction r
    → Goes s x.from x.to x.first (replies_of (read_plan plan).transaction (resp.decode s))
found-goes s plan transaction r x ok a e f =
    goes s x (replies_of (read_plan plan).transaction (resp.decode s))
    (found_as s transaction (read_plan plan).transaction r (Some x) (resp.decode s) a e (f (resp.decode s) (value-means s ok)))

pub goes-listed : (s : Bytes) (from to : ℕ) (first : Cursor) (o : option.Option Values) → is_value s ≡ true → Goes s from to first o
    → Listed (part s from (to - from)) first
goes-listed s from to first o e h =
    let k : length (part s from (to - from)) ≡ to - from = length_part s from (to - from) (omega (arith, h.order, h.within)) in
    record { rs = h.rs; stands = h.stands; small = let j = value-small s e in omega (arith, h.within) }

-- nothing is found exactly where resolving finds no list
pub goes-not : (s : Bytes) (o : option.Option Values) → FoundIs s None o → o ≡ option.none
goes-not s option.none h = refl
goes-not s (some rs) h = absurd h

-- ---- causes 10 and 6

module _ (g : Settings) (rows : ℕ → Row) (plan replies : Bytes) (clock epoch : ℕ) (buffer : Bytes) (h : Held) where
  pub not-plan : is_plan plan ≡ false → planned g rows (decode_plan plan) replies clock epoch buffer h ≡ refused_as bad_plan buffer h
  unfolding planned decode_plan
  not-plan e = rw e

  pub not-value : is_plan plan ≡ true → is_value replies ≡ false → planned g rows (decode_plan plan) replies clock epoch buffer h ≡ refused_as bad_reply buffer h
  unfolding planned decode_plan
  not-value e f = rw (e, f)

  fine-call : is_plan plan ≡ true → is_value replies ≡ true
      → planned g rows (decode_plan plan) replies clock epoch buffer h
      ≡ resolved_on (setup_now g) rows (read_plan plan).transaction epoch (resolve (plan_read (read_plan plan)) g.mode clock (resp.decode replies)) buffer h
  unfolding planned decode_plan
  fine-call e f = rw (e, f)

  -- a resolving judged on the book is the call on the arena
  pub judged-comes : (old new after : Bytes) (r : Result Answered Cause) → h.arena ≡ old → Lent g old rows → length new ≡ length old → is_plan plan ≡ true
      → is_value replies ≡ true
      → Judged g (read_plan plan).transaction epoch (resolve (plan_read (read_plan plan)) g.mode clock (resp.decode replies)) old new buffer after r
      → Comes (planned g rows (decode_plan plan) replies clock epoch buffer h) r new after
  unfolding resolved_on lend
  judged-comes old new after r a l n e f j =
      let z = j (book_of rows h) l in
      let x : Resolved = resolve (plan_read (read_plan plan)) g.mode clock (resp.decode replies) in
      let left : ℕ → Row = (after_call (setup_now g) (told_to (read_plan plan).transaction epoch x (length buffer)) (book_of rows h)).rows in
      rw (fine-call e f) (
        ap cause_of z.0,
        ap written_of z.0,
        ap stores_of z.0,
        sym z.1.image.bytes
            ∙ ap (λ (i : ℕ). layout.encode (setup_now g) i left) (n ∙ ap length (sym a)),
        z.2,
      )

-- ---- causes 1 and 9

module _ (size mode ttl : ℕ) (plan replies : Bytes) (clock epoch : ℕ) (buffer : Bytes) (h : Held) where
  pub refused-comes : (cause : Cause) → admitted size mode ttl h.arena ≡ Err cause
      → Comes (resolve_call size mode ttl plan replies clock epoch buffer h) (Err cause) h.arena buffer
  unfolding resolve_call
  refused-comes cause e =
      rw (not_entered (λ n. refused_as n buffer h) (λ g rows. planned g rows (decode_plan plan) replies clock epoch buffer h) size mode ttl cause h.arena e)
      (refl, refl, refl, refl, refl)

  pub admitted-comes : (g : Settings) (new after : Bytes) (r : Result Answered Cause) → admitted size mode ttl h.arena ≡ Ok g
      → AdmittedResolved g epoch plan replies clock h.arena new buffer after r
      → Comes (resolve_call size mode ttl plan replies clock epoch buffer h) r new after
  unfolding resolve_call entered on_rows
  admitted-comes g new after r e f =
      let w = admits size mode ttl h.arena g e in
      rw (w.fine, w.read) (f h (read_arena (setup_now g) h.arena) refl w.lent)
