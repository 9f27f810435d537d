-- The meaning theorems: what each exported function's definition comes to is a case of Meaning.antt. Assumes nothing.
use Rattle.std.specs.Prelude.{Result, Ok, Err, ◌≡◌, Bool, true, cond, ℕ, ◌≤◌, ltb, length}
use Rattle.std.proofs.Math.Path.{refl, sym, subst}
use Rattle.std.proofs.Common.{ap, ap₂, ◌∙◌, arith, ltb-true, ltb-false}
use Rattle.std.proofs.Math.Bool.{false}
use Rattle.std.proofs.Math.Option.{Option, none, some}
use Rattle.buffer.specs.Cases.{by_test}
use Rattle.buffer.specs.Same.{Bytes}
use Rattle.config.specs.Limits.{max_bytes}
use Rattle.config.specs.Config.{refused, settings_of, checked}
use Rattle.config.specs.declared.Settings.{Settings}
use Rattle.std.specs.Prelude.{Ok, Err, Result}
use Rattle.config.specs.declared.Cause.{Cause}
use Rattle.config.specs.declared.Cause.TheVariants.{BadConfig}
use Rattle.resp3.specs.Value.{Means, IsValue}
use Rattle.resp3.specs.Ends.{is_value}
use Rattle.resp3.specs.Decode as resp
use Rattle.resp3_prefix.specs.Begun.{first_value}
use Rattle.resp3_prefix.specs.Law.{complete-found, least-law, more-law, never-law}
use Rattle.resp3_prefix.specs.declared.NotWhole.{NotWhole}
use Rattle.resp3_prefix.specs.declared.NotWhole.TheVariants.{Lacks, Never}
use Rattle.call_record.specs.Check.{check_def, check-fine, check-offset}
use Rattle.format.specs.declared.Wrong.{Wrong}
use Rattle.cursor.specs.Laws.{decoded-is}
use Rattle.book.specs.Book.{Setup, Row, Book, Counts, Keyed, lookup, store, invalidate, answers}
use Rattle.book.specs.Calls.{single, after_call, reply_to, ons, call-defs}
use Rattle.arena.specs.Decode.{decode}
use Rattle.arena.specs.Place.{arena_place}
use Rattle.arena.proofs.Sequence.{outcome_of}
use Rattle.arena.specs.Held.{Held, lend, book_of}
use Rattle.sharded_lru.specs.Lent.{setup_now}
use Rattle.call_entry.specs.Entered.{holding, on_rows, entered}
use Rattle.planning.specs.Plan as nodes
use Rattle.plan.specs.Decode.{decode_plan}
use Rattle.plan.proofs.Law as plans
use Rattle.single_calls.specs.Single as singles
use Rattle.single_calls.specs.Single.{Return, refused_as, overlong, wrong_bytes, called_on, single_call}
use Rattle.single_calls.specs.Place.{served_at, place_left, place_under, lookup_place}
use Rattle.single_calls.proofs.PlaceLaws.{lookup-place}
use Rattle.single_calls.specs.AsCall.{call_of, outcome_value}
use Rattle.push.specs.Push as pushes
use Rattle.cache_manager.specs.Pipeline as plannings
use Rattle.cache_manager.specs.Pipeline.{refusal, recorded}
use Rattle.caching_cmd.specs.Call as resolvings
use Rattle.served.specs.Served.{served_of, buffer_of}
use Rattle.meaning.specs.Meaning.{Enters, wrong_settings, no_image, on_image, Plans, record_too_long, no_record, of_record, Resolves, no_plan}
use Rattle.meaning.specs.Rows.{Image}
use Rattle.meaning.specs.Meaning.{no_replies, of_plan, Pushes, no_push, of_value, GivenValue, Calls, part_too_long, no_value, on_book, Looks}
use Rattle.meaning.specs.Meaning.{key_too_long, looked_up, Serves, no_plan_served, of_plan_served, EndsSo, is_complete, lacks, never, PlanMeans}
use Rattle.meaning.specs.Meaning.{ResolveMeans, PushMeans, LookupMeans, StoreMeans, InvalidateMeans, ServedMeans, ValueEndMeans}
use Rattle.meaning.proofs.Readings.{readings, formed-of, is-fine}

-- ---- causes 1 and 9

module _ {R : Type 0} (size mode ttl : ℕ) (s : Bytes) (refusal : ℕ → R) (way : Settings → (ℕ → Row) → R) (goes_on : Settings → (ℕ → Row) → R → Type 0) where
  abbrev given : Settings
  given = settings_of size mode ttl (length s)

  -- a call that begins as every call does
  enters : ((rows : ℕ → Row) → refused size mode (length s) ≡ false → Image (setup_now given) s rows → goes_on given rows (way given rows))
      → Enters size mode ttl s refusal goes_on (entered refusal way (checked size mode ttl (length s)) s)
  unfolding checked
  enters go = settings (refused size mode (length s)) refl
    where
      arena : refused size mode (length s) ≡ false → (o : Option (ℕ → Row)) → decode is_value (setup_now given) s ≡ o
          → Enters size mode ttl s refusal goes_on (on_rows refusal (way given) o)
      arena f none d = unfold on_rows in no_image f ((readings.no_rows size mode ttl s f).0 d)
      arena f (some rows) d =
          unfold on_rows in
          let i = (readings.rows_of size mode ttl s f rows).0 d in
          on_image f rows i (way given rows) (go rows f i)

      settings : (b : Bool) → refused size mode (length s) ≡ b → Enters size mode ttl s refusal goes_on (entered refusal way (cond b (Err BadConfig) (Ok given)) s)
      settings true e = unfold entered in wrong_settings e
      settings false e = unfold entered in arena e (decode is_value (setup_now given) s) refl

-- ---- values

-- bytes that the test passes are the value that is read; bytes that it does not pass are none
value_read : (s : Bytes) → is_value s ≡ true → Means s (resp.decode s)
value_read s e =
    let w = (readings.value s).0 e in
    subst (Means s) (sym (readings.value_of s w.v w.means)) w.means

value_not : (s : Bytes) → is_value s ≡ false → IsValue s → ⊥
value_not s e w = let y = (readings.value s).1 w in let z : ◌≡◌ {A = ℕ} 0 1 = cc in omega arith

-- ---- planning

module _ (clock epoch : ℕ) (bytes plan send : Bytes) (h : Held) (g : Settings) (rows : ℕ → Row) where
  judged-means : length bytes ≤ max_bytes → (x : Result (Unit {0}) Wrong) → check_def bytes ≡ x
      → Plans clock epoch bytes plan send h g rows (plannings.judged clock epoch bytes plan send h g rows x)
  unfolding plannings.judged
  judged-means l (Ok u) e =
      let w = (check-fine bytes).0 e in
      subst (λ r. Plans clock epoch bytes plan send h g rows (recorded clock epoch bytes plan send h g rows r)) (sym (decoded-is bytes w).is)
      (of_record l w.value w.valid w.bytes)
  judged-means l (Err w) e =
      no_record l w.at ((check-offset bytes w.at).0 e)

  plans-mean : Plans clock epoch bytes plan send h g rows (plannings.admitted_to clock epoch bytes plan send h g rows)
  unfolding plannings.admitted_to
  plans-mean =
      by_test (ltb max_bytes (length bytes)) (λ t. rw t (record_too_long (ltb-true max_bytes (length bytes) t)))
      (λ t. rw t (judged-means (ltb-false max_bytes (length bytes) t) (check_def bytes) refl))

pub plan-means : PlanMeans
unfolding plannings.plan_call
plan-means size mode ttl clock epoch bytes plan send s lent next =
    let h : Held = holding s lent next in
    enters size mode ttl s (λ n. refusal clock epoch bytes plan send h (plannings.refused_as n)) (plannings.admitted_to clock epoch bytes plan send h)
    (Plans clock epoch bytes plan send h)
    (λ rows f i. plans-mean clock epoch bytes plan send h (settings_of size mode ttl (length s)) rows)

-- ---- resolving

module _ (clock epoch : ℕ) (plan replies buffer : Bytes) (h : Held) (g : Settings) (rows : ℕ → Row) where
  resolves-mean : (o : Option nodes.Plan) → decode_plan plan ≡ o
      → Resolves clock epoch plan replies buffer h g rows (resolvings.planned g rows o replies clock epoch buffer h)
  unfolding resolvings.planned
  resolves-mean none e = no_plan ((plans.decode-none plan).0 e)
  resolves-mean (some p) e =
      let w = (plans.decode-law plan p).0 e in
      by_test (is_value replies)
      (λ t. rw t (of_plan p w.0 w.1 ((readings.value replies).0 t).small (resp.decode replies) (value_read replies t)))
      (λ t. rw t (no_replies (record { plan = p; good = w.0; is = w.1 }) (value_not replies t)))

pub resolve-means : ResolveMeans
unfolding resolvings.resolve_call
resolve-means size mode ttl clock epoch plan replies answer s lent next =
    let h : Held = holding s lent next in
    enters size mode ttl s (λ n. resolvings.refused_as n answer h) (λ g rows. resolvings.planned g rows (decode_plan plan) replies clock epoch answer h)
    (Resolves clock epoch plan replies answer h)
    (λ rows f i. resolves-mean clock epoch plan replies answer h (settings_of size mode ttl (length s)) rows (decode_plan plan) refl)

-- ---- push

pushes-mean : (bytes : Bytes) (h : Held) (g : Settings) (rows : ℕ → Row) → Pushes bytes h g rows (pushes.imaged (setup_now g) rows bytes h)
unfolding pushes.imaged
pushes-mean bytes h g rows =
    by_test (is_value bytes)
    (λ t. rw t (of_value ((readings.value bytes).0 t).small (resp.decode bytes) (value_read bytes t)))
    (λ t. rw t (no_push (value_not bytes t)))

pub push-means : PushMeans
unfolding pushes.push_call
push-means size mode ttl bytes s lent next =
    let h : Held = holding s lent next in
    enters size mode ttl s (λ n. refused_as n h) (λ g rows. pushes.imaged (setup_now g) rows bytes h) (Pushes bytes h)
    (λ rows f i. pushes-mean bytes h (settings_of size mode ttl (length s)) rows)

-- ---- single calls

-- what a store is given, by the test
given-value : (q : Keyed) → wrong_bytes q ≡ false → GivenValue q
unfolding wrong_bytes
given-value (lookup k c t e) f = tt
given-value (store k c v x e) f =
    by_test (is_value v) (λ t. (readings.value v).0 t) (λ t. absurd (let y = rw t at f in let z : ◌≡◌ {A = ℕ} 0 1 = cc in omega arith))
given-value (invalidate k) f = tt

not-given : (q : Keyed) → wrong_bytes q ≡ true → GivenValue q → ⊥
unfolding wrong_bytes
not-given (lookup k c t e) f w = let z : ◌≡◌ {A = ℕ} 0 1 = cc in omega arith
not-given (store k c v x e) f w = let y = rw ((readings.value v).1 w) at f in let z : ◌≡◌ {A = ℕ} 0 1 = cc in omega arith
not-given (invalidate k) f w = let z : ◌≡◌ {A = ℕ} 0 1 = cc in omega arith

calls-mean : (q : Keyed) (h : Held) (g : Settings) (rows : ℕ → Row) → Calls q h g rows (singles.imaged (setup_now g) rows q h)
unfolding singles.imaged
calls-mean q h g rows =
    by_test (overlong q) (λ l. rw l (part_too_long l))
    (λ l. by_test (wrong_bytes q) (λ w. rw (l, w) (no_value l (not-given q w))) (λ w. rw (l, w) (on_book l (given-value q w))))

pub single-means : (size mode ttl : ℕ) (q : Keyed) (s : Bytes) (lent : Counts) (next : ℕ)
    → Enters size mode ttl s (λ n. refused_as n (holding s lent next)) (Calls q (holding s lent next)) (single_call size mode ttl q (holding s lent next))
unfolding single_call
single-means size mode ttl q s lent next =
    let h : Held = holding s lent next in
    enters size mode ttl s (λ n. refused_as n h) (λ g rows. singles.imaged (setup_now g) rows q h) (Calls q h)
    (λ rows f i. calls-mean q h (settings_of size mode ttl (length s)) rows)

pub store-means : StoreMeans
store-means size mode ttl epoch key command value expiry s lent next = single-means size mode ttl (store key command value expiry epoch) s lent next

pub invalidate-means : InvalidateMeans
invalidate-means size mode ttl key s lent next = single-means size mode ttl (invalidate key) s lent next

-- ---- lookup

module _ (size mode ttl clock epoch : ℕ) (key command s : Bytes) (lent : Counts) (next : ℕ) (rows : ℕ → Row)
    (f : refused size mode (length s) ≡ false) (i : Image (setup_now (settings_of size mode ttl (length s))) s rows) where
  abbrev g : Settings
  g = settings_of size mode ttl (length s)

  abbrev h : Held
  h = holding s lent next

  abbrev q : Keyed
  q = lookup key command clock epoch

  abbrev bk : Book
  bk = book_of rows h

  -- what the caller holds is the book's rows lent
  held-is : h ≡ lend (setup_now g) (length s) bk
  unfolding lend
  held-is = λ j. record { arena = sym i.bytes j; counts = lent; next = next }

  -- the lookup as the arena's reading sends it on its way, and the place with it
  abbrev sent : Return
  sent = singles.imaged (setup_now g) rows q h

  abbrev sent_place : ℕ
  sent_place = place_left (setup_now g) key command sent

  place-sent : lookup_place size mode ttl key command clock epoch h ≡ sent_place
  unfolding lookup_place place_under single_call entered on_rows
  place-sent = rw (is-fine size mode ttl s f, (readings.rows_of size mode ttl s f rows).1 i)

  -- by the book
  place-book : overlong q ≡ false
      → served_at (outcome_value (outcome_of (reply_to (setup_now g) (call_of q) bk)))
      (arena_place (setup_now g) key command (after_call (setup_now g) (call_of q) bk).rows)
      ≡ served_at (called_on (setup_now g) rows q h).value (arena_place (setup_now g) key command (after_call (setup_now g) (single q) bk).rows)
  unfolding call_of wrong_bytes called_on outcome_value outcome_of call-defs ons answers
  place-book l = rw l

  place-means : overlong q ≡ false
      → sent_place ≡ served_at (called_on (setup_now g) rows q h).value (arena_place (setup_now g) key command (after_call (setup_now g) (single q) bk).rows)
  place-means l =
      sym place-sent ∙ ap (lookup_place size mode ttl key command clock epoch) held-is
      ∙ lookup-place size mode ttl (length s) g (is-fine size mode ttl s f) key command clock epoch bk (formed-of (setup_now g) s rows i)
      ∙ place-book l

  call-means : overlong q ≡ false → sent ≡ called_on (setup_now g) rows q h
  unfolding singles.imaged wrong_bytes
  call-means l = rw l

  -- 3 serves nothing
  long-means : overlong q ≡ true → Looks key command clock epoch h g rows (sent, sent_place)
  unfolding singles.imaged place_left served_at
  long-means l = rw l (key_too_long l)

  looks-mean : Looks key command clock epoch h g rows (sent, sent_place)
  looks-mean =
      by_test (overlong q) long-means
      (λ l.
      subst (Looks key command clock epoch h g rows) (ap₂ {C = Return × ℕ} (λ x n. (x, n)) (sym (call-means l)) (sym (place-means l))) (looked_up l))

module _ (size mode ttl clock epoch : ℕ) (key command : Bytes) (h : Held) where
  -- the lookup on the rows of its arena, and the place with it
  abbrev looked : Setup → (ℕ → Row) → Return
  looked p rows = singles.imaged p rows (lookup key command clock epoch) h

  abbrev with_place : Setup → (ℕ → Row) → Return × ℕ
  with_place p rows = (looked p rows, place_left p key command (looked p rows))

  -- both begin as every call does, and so does their pair
  abbrev pair : Result Settings Cause → Return × ℕ
  pair c = entered (λ n. (refused_as n h, 0)) (λ g rows. with_place (setup_now g) rows) c h.arena

  abbrev alone : Result Settings Cause → Return
  alone c = entered (λ n. refused_as n h) (λ g rows. looked (setup_now g) rows) c h.arena

  rows-entered : (p : Setup) (o : Option (ℕ → Row)) → let x = on_rows (λ n. refused_as n h) (looked p) o in
      ◌≡◌ {A = Return × ℕ} (on_rows (λ n. (refused_as n h, 0)) (with_place p) o) (x, place_left p key command x)
  unfolding on_rows place_left served_at
  rows-entered p none = refl
  rows-entered p (some rows) = refl

  pair-entered : (c : Result Settings Cause) → pair c ≡ (alone c, place_under c key command (alone c))
  unfolding entered place_under
  pair-entered (Err cause) = refl
  pair-entered (Ok g) = rows-entered (setup_now g) (decode is_value (setup_now g) h.arena)

  place-entered : pair (checked size mode ttl (length h.arena))
      ≡ (single_call size mode ttl (lookup key command clock epoch) h, lookup_place size mode ttl key command clock epoch h)
  unfolding lookup_place single_call
  place-entered = pair-entered (checked size mode ttl (length h.arena))

pub lookup-means : LookupMeans
lookup-means size mode ttl clock epoch key command s lent next =
    let h : Held = holding s lent next in
    subst (Enters size mode ttl s (λ n. (refused_as n h, 0)) (Looks key command clock epoch h)) (place-entered size mode ttl clock epoch key command h)
    (enters size mode ttl s (λ n. (refused_as n h, 0)) (λ g rows. with_place size mode ttl clock epoch key command h (setup_now g) rows)
    (Looks key command clock epoch h) (λ rows f i. looks-mean size mode ttl clock epoch key command s lent next rows f i))

-- ---- a plan answered alone

pub served-means : ServedMeans
unfolding served_of buffer_of
served-means plan buffer = go (decode_plan plan) refl
  where
    go : (o : Option nodes.Plan) → decode_plan plan ≡ o → Serves plan buffer (served_of o (length buffer), buffer_of o buffer)
    go none e = no_plan_served ((plans.decode-none plan).0 e)
    go (some p) e = let w = (plans.decode-law plan p).0 e in of_plan_served p w.0 w.1

-- ---- the end of the first value

pub value-end-means : ValueEndMeans
value-end-means received = go (first_value received) refl
  where
    go : (x : Result ℕ NotWhole) → first_value received ≡ x → EndsSo received x
    go (Ok n) e = is_complete n (complete-found received n e)
    go (Err (Lacks k)) e = let w = least-law received k e in lacks ((more-law received).0 (k, e)).1 k w.0 w.1
    go (Err Never) e = let w = (never-law received).0 e in never w.0 w.1
