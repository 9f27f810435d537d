-- What each exported function answers, by meaning alone: these bytes are a valid record's, a plan's, a value's, an image of these rows; one case for each
-- cause, in the causes' order, and the case that passes. The contracts cite definitions that compute (a check, a reader, a decoder); the theorems of
-- Theorems.antt say that what they compute is a case here, so that who believes this page need not read them. Each case's condition excludes the
-- others' (Only.antt), so that each answer is given exactly where its condition holds. Assumes nothing: these are definitions, and the theorems' types.
-- Setup, new epoch and the counts have no case here: their contracts compute nothing that has to be told by meaning.
-- Letters: g settings, h what the caller holds, s the arena's bytes, p the book's setup, r a record, v a value; in `Readings` s is any bytes, and p a plan
-- where its type is one.
-- replaced: caching.Planned.plan_by caching.Resolved.resolve_by caching.Pushed.push_by caching.Exported.lookup_by caching.Exported.store_by
-- caching.Exported.invalidate_by caching.Place.place_by served.Served.served_call served.Served.served_buffer resp3_prefix.Begun.first_value
-- call_record.Check.check_def cursor.At.record_at resp3.Ends.is_value resp3.Decode.decode plan.Decode.decode_plan arena.Decode.decode
-- planning.Rules.ordered resolving_walk.Commands.plan_read resp3.Value.Means resp3.Value.encode resp3.Value.encs resp3_prefix.Meaning.Within
-- resp3_element.Meaning.array_of resp3_element.Meaning.integer_of resp3_element.Meaning.is_error resolving.Pushes.pushed resolving.Pushes.keys_of
-- resolving.Convert.replies_of single_calls.Single.number_of single_calls.Single.served_by
-- cache_manager.Pipeline.recorded caching_cmd.Call.resolved_on caching_cmd.Call.refused_as book.Calls.is_refused book.Calls.remaining buffer.Same.same
use Rattle.std.specs.Prelude.{Ok, ◌≡◌, ◌↔◌, Bool, true, false, List, [], ◌∷◌, ◌++◌, ℕ, ◌≤◌, ◌<◌, length, ℤ, Result, Err, Option as Maybe, Some}
use Rattle.std.proofs.Math.Option.{none, some}
use Rattle.buffer.specs.Same.{Bytes, same}
use Rattle.buffer.specs.Ascii.{ascii}
use Rattle.config.specs.Limits.{max_bytes, max_depth}
use Rattle.config.specs.Causes.{bad_config, too_long, bad_reply, bad_arena, bad_plan, no_space}
use Rattle.config.specs.Config.{refused, settings_of}
use Rattle.config.specs.declared.Settings.{Settings}
use Rattle.format.specs.Lists.{All}
use Rattle.resp3.specs.Value.{Spelling, Value, Values, blob_string, simple_error, number, null_as, blob_error, array, push, none as no_values, more, Means, IsValue}
use Rattle.resp3.specs.Value.{encode as value_bytes, encs}
use Rattle.resp3_element.specs.Meaning.{is_error, integer_of, array_of}
use Rattle.resp3.specs.Ends.{is_value}
use Rattle.resp3.specs.Decode as resp
use Rattle.resp3_prefix.specs.Meaning.{Within, Complete, Begins, NoneComplete, NoneBegins}
use Rattle.resp3_prefix.specs.Begun.{first_value}
use Rattle.resp3_prefix.specs.declared.NotWhole.{NotWhole}
use Rattle.resp3_prefix.specs.declared.NotWhole.TheVariants.{Lacks, Never}
use Rattle.call_record.specs.Record.{Record, enc_record, ValidRecord}
use Rattle.call_record.specs.Offset.{IsRecord, WrongAt}
use Rattle.call_record.specs.Check.{check_def}
use Rattle.format.specs.Ends.{wrong}
use Rattle.cursor.specs.At.{record_at}
use Rattle.book.specs.Book.{Setup, Row, Counts, Answer, hit, no_space as spaceless, Keyed, lookup, store, invalidate}
use Rattle.book.specs.Calls as pushes
use Rattle.book.specs.Calls.{Storing, Call, resolving7, single, stores, ons, is_refused, remaining, after_call}
use Rattle.arena.specs.Decode.{decode}
use Rattle.arena.specs.Place.{arena_place}
use Rattle.arena.specs.Held.{Held, book_of}
use Rattle.sharded_lru.specs.Lent.{setup_now}
use Rattle.planning.specs.Plan.{Node, Plan, enc_plan}
use Rattle.planning.specs.Rules.{GoodNode, ordered, GoodPlan, IsPlan}
use Rattle.plan.specs.Decode.{decode_plan}
use Rattle.resolving_walk.specs.Commands.{plan_read}
use Rattle.resolving.specs.Plan as plans
use Rattle.resolving.specs.Plan.{Command}
use Rattle.resolving.specs.Convert.{replies_of}
use Rattle.resolving.specs.Pushes.{keys_of, pushed}
use Rattle.resolving.specs.Resolve.{Resolved, resolve}
use Rattle.single_calls.specs.Single.{Return, number_of, served_by, refused_as, overlong, called_on}
use Rattle.single_calls.specs.Place.{served_at}
use Rattle.call_entry.specs.Entered.{no_cause, holding}
use Rattle.push.specs.Push.{pushed_on}
use Rattle.cache_manager.specs.Pipeline as plannings
use Rattle.cache_manager.specs.Pipeline.{Left, refusal, recorded}
use Rattle.caching_cmd.specs.Call as resolvings
use Rattle.caching_cmd.specs.Call.{ResolveReturn, resolved_on}
use Rattle.config.specs.declared.Cause.{Cause}
use Rattle.config.specs.declared.Cause.TheVariants.{BadPlan}
use Rattle.served.specs.Served.{served_answers, served_from, buffer_from, served_call, served_buffer}
use Rattle.caching.specs.Exported.{lookup_by, store_by, invalidate_by}
use Rattle.caching.specs.Place.{place_by}
use Rattle.caching.specs.Planned.{plan_by}
use Rattle.caching.specs.Resolved.{resolve_by}
use Rattle.caching.specs.Pushed.{push_by}
use Rattle.meaning.specs.Rows.{Image}
use Rattle.meaning.specs.Written.{Row as InRow, Written}
use Rattle.meaning.specs.Nodes.{NodesOf}
use Rattle.meaning.specs.Outcomes.{planning_on, resolving_on, Refuses}

-- ---- causes 1 and 9, with which every call on an arena begins

-- `refusal` says what a call returns where a cause refuses it, `goes_on` what it returns on the rows of its arena; x is what it returned
module _ {R : Type 0} (size mode ttl : ℕ) (s : Bytes) (refusal : ℕ → R) (goes_on : Settings → (ℕ → Row) → R → Type 0) where
  abbrev given : Settings
  given = settings_of size mode ttl (length s)

  pub data Enters : R → Type 0 where
    -- 1: the settings are refused
    wrong_settings : refused size mode (length s) ≡ true → Enters (refusal bad_config)
    -- 9: the arena is no image
    no_image : refused size mode (length s) ≡ false → ((rows : ℕ → Row) → Image (setup_now given) s rows → ⊥) → Enters (refusal bad_arena)
    -- neither
    on_image : refused size mode (length s) ≡ false → (rows : ℕ → Row) → Image (setup_now given) s rows → (x : R) → goes_on given rows x → Enters x

-- ---- planning: 3, 2, and on the record 4 and 5

module _ (clock epoch : ℕ) (bytes plan send : Bytes) (h : Held) (g : Settings) (rows : ℕ → Row) where
  pub data Plans : Left → Type 0 where
    -- 3: over 16 MiB
    record_too_long : max_bytes < length bytes → Plans (refusal clock epoch bytes plan send h (plannings.refused_as too_long))
    -- 2: no valid record's bytes, which go wrong at one place; the offset is that one
    no_record : length bytes ≤ max_bytes → (o : ℕ) → WrongAt bytes o → Plans (refusal clock epoch bytes plan send h (plannings.wrong_at o))
    -- a valid record's bytes
    of_record : length bytes ≤ max_bytes → (r : Record) → ValidRecord r → bytes ≡ enc_record r → Plans (recorded clock epoch bytes plan send h g rows r)

-- ---- resolving: 10, 6, and on the plan and the replies' value 7 and 8

module _ (clock epoch : ℕ) (plan replies buffer : Bytes) (h : Held) (g : Settings) (rows : ℕ → Row) where
  pub data Resolves : ResolveReturn → Type 0 where
    -- 10: no plan's bytes
    no_plan : (IsPlan plan → ⊥) → Resolves (resolvings.refused_as bad_plan buffer h)
    -- 6: the replies are not exactly one value
    no_replies : IsPlan plan → (IsValue replies → ⊥) → Resolves (resolvings.refused_as bad_reply buffer h)
    -- a plan's bytes, and a value's
    of_plan : (p : Plan) → GoodPlan p → plan ≡ enc_plan p → length replies ≤ max_bytes → (v : Value) → Means replies v
        → Resolves (resolved_on (setup_now g) rows p.transaction epoch (resolve (plan_read p) g.mode clock v) buffer h)

-- ---- push: 6

module _ (bytes : Bytes) (h : Held) (g : Settings) (rows : ℕ → Row) where
  pub data Pushes : Return → Type 0 where
    -- 6: not exactly one value
    no_push : (IsValue bytes → ⊥) → Pushes (refused_as bad_reply h)
    of_value : length bytes ≤ max_bytes → (v : Value) → Means bytes v → Pushes (pushed_on (setup_now g) rows v h)

-- ---- single calls: 3, 6, and on the book 11

-- what a store is given is exactly one value; the others are given none
abbrev pub GivenValue : Keyed → Type 0
GivenValue (lookup k c t e) = Unit {0}
GivenValue (store k c v x e) = IsValue v
GivenValue (invalidate k) = Unit {0}

module _ (q : Keyed) (h : Held) (g : Settings) (rows : ℕ → Row) where
  pub data Calls : Return → Type 0 where
    -- 3: a key over 65,535 bytes, a command key or a value over 16 MiB
    part_too_long : overlong q ≡ true → Calls (refused_as too_long h)
    -- 6: a value that is none
    no_value : overlong q ≡ false → (GivenValue q → ⊥) → Calls (refused_as bad_reply h)
    on_book : overlong q ≡ false → GivenValue q → Calls (called_on (setup_now g) rows q h)

-- a lookup, with the place of what it serves in the arena that it leaves
module _ (key command : Bytes) (clock epoch : ℕ) (h : Held) (g : Settings) (rows : ℕ → Row) where
  abbrev asked : Keyed
  asked = lookup key command clock epoch

  -- the call on the book, and the place in the rows after it
  abbrev looked : Return
  looked = called_on (setup_now g) rows asked h

  abbrev placed : ℕ
  placed = served_at looked.value (arena_place (setup_now g) key command (after_call (setup_now g) (single asked) (book_of rows h)).rows)

  pub data Looks : Return × ℕ → Type 0 where
    key_too_long : overlong asked ≡ true → Looks (refused_as too_long h, 0)
    looked_up : overlong asked ≡ false → Looks (looked, placed)

-- ---- a plan answered alone: 10, and on the plan 8

module _ (plan buffer : Bytes) where
  pub data Serves : Result (Maybe ℕ) Cause × Bytes → Type 0 where
    no_plan_served : (IsPlan plan → ⊥) → Serves (Err BadPlan, buffer)
    of_plan_served : (p : Plan) → GoodPlan p → plan ≡ enc_plan p
        → Serves (
          served_from p.transaction (served_answers (plan_read p).commands) (length buffer),
          buffer_from p.transaction (served_answers (plan_read p).commands) buffer,
        )

-- ---- the end of the first value in bytes received so far

module _ (received : Bytes) where
  pub data EndsSo : Result ℕ NotWhole → Type 0 where
    is_complete : (n : ℕ) → Complete received n → EndsSo (Ok n)
    -- so many bytes are lacking at least
    lacks : NoneComplete received → (k : ℕ) → Begins received k → ((j : ℕ) → Begins received j → k ≤ j) → EndsSo (Err (Lacks k))
    never : NoneComplete received → NoneBegins received → EndsSo (Err Never)

-- ---- the theorems' types: for all arguments, with any arena, counts and next number

abbrev pub PlanMeans : Type 0
PlanMeans =
    (size mode ttl clock epoch : ℕ) (bytes plan send s : Bytes) (lent : Counts) (next : ℕ) → let h = holding s lent next in
    Enters size mode ttl s (λ n. refusal clock epoch bytes plan send h (plannings.refused_as n)) (Plans clock epoch bytes plan send h)
    (plan_by size mode ttl clock epoch bytes plan send s lent next)

abbrev pub ResolveMeans : Type 0
ResolveMeans =
    (size mode ttl clock epoch : ℕ) (plan replies answer s : Bytes) (lent : Counts) (next : ℕ) → let h = holding s lent next in
    Enters size mode ttl s (λ n. resolvings.refused_as n answer h) (Resolves clock epoch plan replies answer h)
    (resolve_by size mode ttl clock epoch plan replies answer s lent next)

abbrev pub PushMeans : Type 0
PushMeans =
    (size mode ttl : ℕ) (bytes s : Bytes) (lent : Counts) (next : ℕ) → let h = holding s lent next in
    Enters size mode ttl s (λ n. refused_as n h) (Pushes bytes h) (push_by size mode ttl bytes s lent next)

abbrev pub LookupMeans : Type 0
LookupMeans =
    (size mode ttl clock epoch : ℕ) (key command s : Bytes) (lent : Counts) (next : ℕ) → let h = holding s lent next in
    Enters size mode ttl s (λ n. (refused_as n h, 0)) (Looks key command clock epoch h)
    (lookup_by size mode ttl clock epoch key command s lent next, place_by size mode ttl clock epoch key command s lent next)

abbrev pub StoreMeans : Type 0
StoreMeans =
    (size mode ttl epoch : ℕ) (key command value : Bytes) (expiry : ℕ) (s : Bytes) (lent : Counts) (next : ℕ) → let h = holding s lent next in
    Enters size mode ttl s (λ n. refused_as n h) (Calls (store key command value expiry epoch) h)
    (store_by size mode ttl epoch key command value expiry s lent next)

abbrev pub InvalidateMeans : Type 0
InvalidateMeans =
    (size mode ttl : ℕ) (key s : Bytes) (lent : Counts) (next : ℕ) → let h = holding s lent next in
    Enters size mode ttl s (λ n. refused_as n h) (Calls (invalidate key) h) (invalidate_by size mode ttl key s lent next)

abbrev pub ServedMeans : Type 0
ServedMeans = (plan buffer : Bytes) → Serves plan buffer (served_call plan (length buffer), served_buffer plan buffer)

abbrev pub ValueEndMeans : Type 0
ValueEndMeans = (received : Bytes) → EndsSo received (first_value received)

-- ---- what is read, tested and asked: what the cases above name, and demand 3's statement

-- a push of `invalidate` and a value, whatever follows
abbrev pub invalidation : Value → Values → Value
invalidation v vs = push (more (blob_string (ascii "invalidate")) (more v vs))

pub record Readings : Type 0 where
  -- the record's check, its offset, and the record that is read
  pub is_record : (s : Bytes) → (check_def s ≡ Ok tt) ↔ IsRecord s
  pub offset : (s : Bytes) (o : ℕ) → (check_def s ≡ wrong o) ↔ WrongAt s o
  pub record_of : (r : Record) → ValidRecord r → record_at (enc_record r) ≡ r
  -- the value's test, and the value that is read
  pub value : (s : Bytes) → (is_value s ≡ true) ↔ IsValue s
  pub value_of : (s : Bytes) (v : Value) → Means s v → resp.decode s ≡ v
  -- of all that begins with `$-` or `*-`, one null each is a value
  pub dollar-null : (r : Bytes) → IsValue (ascii "$-" ++ r) ↔ (r ≡ ascii "1\r\n")
  pub star-null : (r : Bytes) → IsValue (ascii "*-" ++ r) ↔ (r ≡ ascii "1\r\n")
  -- the plan that is read, and that there is none
  pub plan-of : (s : Bytes) (p : Plan) → (decode_plan s ≡ some p) ↔ (GoodPlan p × (s ≡ enc_plan p))
  pub no-plan : (s : Bytes) → (decode_plan s ≡ none) ↔ (IsPlan s → ⊥)
  -- good nodes in order are so many commands', and the plan that resolving is given has these
  pub order : (k : ℕ) (ns : List Node) → All GoodNode ns → (ordered k ns ≡ true) ↔ ((cs : List Command) × (length cs ≡ k) × NodesOf cs ns)
  pub commands-of : (p : Plan) (r : plans.Plan) → GoodPlan p
      → (plan_read p ≡ r) ↔ ((r.transaction ≡ p.transaction) × (length r.commands ≡ p.commands) × NodesOf r.commands p.nodes)
  -- bytes that are a value, a value's bytes, those of values in a row, and a value within the limits
  pub means : (s : Bytes) (v : Value) → Means s v ↔ Written max_depth v [] s
  pub encoded : (d : ℕ) (v : Value) (s : Bytes) → Written d v [] s → value_bytes v ≡ s
  pub encoded-row : (d : ℕ) (vs : Values) (r s : Bytes) → InRow (Written d) vs r s → encs vs r ≡ s
  pub within : (v : Value) → Within v ↔ ((s : Bytes) × (length s ≤ max_bytes) × Written max_depth v [] s)
  -- a planning on a record; a resolving that is refused, and one on a plan and a value
  pub recorded-is : (t e : ℕ) (bytes plan send : Bytes) (h : Held) (g : Settings) (rows : ℕ → Row) (r : Record)
      → recorded t e bytes plan send h g rows r ≡ planning_on t e plan send h g rows r
  pub refused-is : (n : ℕ) (buffer : Bytes) (h : Held)
      → resolvings.refused_as n buffer h ≡ record { cause = n; written = 0; stores = 0; buffer = buffer; held = h }
  pub resolved-is : (p : Setup) (rows : ℕ → Row) (transaction : Bool) (e : ℕ) (v : Resolved) (buffer : Bytes) (h : Held)
      → resolved_on p rows transaction e v buffer h ≡ resolving_on p rows transaction e v buffer h
  -- the book's calls that are refused, and what these leave: the stores before cause 7
  pub refuses : (c : Call) (said : List Answer) → (is_refused c said ≡ true) ↔ Refuses said c
  pub stores-left : (e : ℕ) (ss : List Storing) → remaining (resolving7 e ss) ≡ ons (stores e ss)
  pub none_left : (c : Call) → ((e : ℕ) (ss : List Storing) → c ≡ resolving7 e ss → ⊥) → remaining c ≡ []
  -- two byte strings are the same
  pub same-is : (a b : Bytes) → (same a b ≡ true) ↔ (a ≡ b)
  -- what is asked of a value: the elements of an array, an integer, and whether it is an error; the list of replies, a transaction's inside its own
  pub array-of : (v : Value) (vs : Values) → (array_of v ≡ some vs) ↔ (v ≡ array vs)
  pub integer-of : (v : Value) (z : ℤ) → (integer_of v ≡ Some z) ↔ (v ≡ number z)
  pub no-error : (v : Value) → (is_error v ≡ false) ↔ ((xs : Bytes) → (v ≡ simple_error xs → ⊥) × (v ≡ blob_error xs → ⊥))
  pub replies-of : (v : Value) (vs : Values) → (replies_of false v ≡ some vs) ↔ (v ≡ array vs)
  pub replies-in : (v : Value) (vs : Values) → (replies_of true v ≡ some vs) ↔ (v ≡ array (more (array vs) no_values))
  -- a push as a call on the book: one with keys, one with a null, which drops everything, any other; the keys are the blobs among the elements
  pub keys-pushed : (ks vs : Values) → pushed (invalidation (array ks) vs) ≡ pushes.push (keys_of ks)
  pub all-pushed : (q : Spelling) (vs : Values) → pushed (invalidation (null_as q) vs) ≡ pushes.push_all
  pub none-pushed : (v : Value) → ((ks vs : Values) → v ≡ invalidation (array ks) vs → ⊥)
      → ((q : Spelling) (vs : Values) → v ≡ invalidation (null_as q) vs → ⊥)
      → pushed v ≡ pushes.push []
  pub keys : (vs : Values) (xs : Bytes) → (keys_of no_values ≡ []) × (keys_of (more (blob_string xs) vs) ≡ xs ∷ keys_of vs)
  pub no_key : (v : Value) (vs : Values) → ((xs : Bytes) → v ≡ blob_string xs → ⊥) → keys_of (more v vs) ≡ keys_of vs
  -- what the book answers a single call: the value that a hit serves, and 11 where there is no space, 0 else
  pub serves : (a : Answer) (v : Bytes) → (served_by a ≡ some v) ↔ (a ≡ hit v)
  pub number-of : (a : Answer) → (number_of spaceless ≡ no_space) × ((a ≡ spaceless → ⊥) → number_of a ≡ no_cause)
  -- the rows that are read, and that there are none, under settings that cause 1 lets through
  pub rows_of : (size mode ttl : ℕ) (s : Bytes) → refused size mode (length s) ≡ false → (rows : ℕ → Row)
      → (decode is_value (setup_now (settings_of size mode ttl (length s))) s ≡ some rows) ↔ Image (setup_now (settings_of size mode ttl (length s))) s rows
  pub no_rows : (size mode ttl : ℕ) (s : Bytes) → refused size mode (length s) ≡ false
      → (decode is_value (setup_now (settings_of size mode ttl (length s))) s ≡ none)
      ↔ ((rows : ℕ → Row) → Image (setup_now (settings_of size mode ttl (length s))) s rows → ⊥)
