-- What a call makes of counts that are lent is the lent counts and what it makes of none, added: rows and answers do not depend on the counts, and each event
-- adds.
-- Assumes nothing.
use Rattle.std.proofs.Common.{◌≡◌, ℕ, ◌+◌, ◌^◌, ◌<◌, Bool, true, false, cond, ltb, List, [], ◌∷◌, length, sym, refl, ap, ◌∙◌, mod-eq_of_lt, arith}
use Rattle.std.specs.Prelude.{Result, Ok, Err}
use mathlib.Core.Option.{none}
use native.Mathlib.Nat.{mod-add-mod}
use Rattle.buffer.specs.Same.{Bytes}
use Rattle.config.specs.Limits.{max_bytes}
use Rattle.config.specs.Wrap.{wrap}
use Rattle.config.specs.Config.{checked}
use Rattle.config.specs.declared.Settings.{Settings}
use Rattle.call_record.specs.Record.{Record}
use Rattle.call_record.specs.Check.{check_def}
use Rattle.format.specs.declared.Wrong.{Wrong}
use Rattle.cursor.specs.At.{record_at}
use Rattle.resp3.specs.Ends.{is_value}
use Rattle.resp3.specs.Decode as resp
use Rattle.book.specs.Book.{Setup, Row, Counts, Book, Answer, Event, on, invalidate_all, new_epoch, Keyed, plus, all_entries}
use Rattle.book.specs.Book.{count, effect, put, after, answer_to, after_all, answers}
use Rattle.book.specs.Calls.{Call, single, remaining, events_of, is_refused, happening, after_call}
use Rattle.book.specs.Counted.{Counted}
use Rattle.arena.specs.Held.{Held, lend, book_of}
use Rattle.sharded_lru.specs.Lent.{setup_now}
use Rattle.call_entry.specs.Entered.{no_cause}
use Rattle.call_entry.specs.Laws.{entered-like}
use Rattle.resolving.specs.Pushes.{pushed}
use Rattle.planning.specs.Planning.{PlanAnswer, because, done, plan_answer, plan_on, call_of}
use Rattle.single_calls.specs.Single as singles
use Rattle.single_calls.specs.Single.{Return, single_call}
use Rattle.push.specs.Push as pushes
use Rattle.push.specs.Push.{push_call}
use Rattle.cache_manager.specs.Pipeline as plans
use Rattle.cache_manager.specs.Pipeline.{plan_call}

-- ---- counts

-- what wraps may be added up in any grouping
wrap-more : (a b n : ℕ) → wrap (wrap (a + b) + n) ≡ wrap (a + wrap (b + n))
wrap-more a b n =
    mod-add-mod (a + b) (2 ^ 64) n ∙ ap wrap (omega arith) ∙ sym (mod-add-mod (b + n) (2 ^ 64) a) ∙ ap wrap (omega arith)

-- and so may counts
count-more : (c a b : Counts) → count (count c a) b ≡ count c (count a b)
unfolding count
count-more c a b =
    λ i.
    record {
      hits = wrap-more c.hits a.hits b.hits i;
      misses = wrap-more c.misses a.misses b.misses i;
      invalidates = wrap-more c.invalidates a.invalidates b.invalidates i;
    }

-- a number of 64 bits with nothing added
wrap-same : (n : ℕ) → n < 2 ^ 64 → wrap (n + 0) ≡ n
wrap-same n l = ap wrap (omega arith) ∙ mod-eq_of_lt l

-- counts of 64 bits with nothing added
pub count_same : (c : Counts) → Counted c → count c (plus 0 0 0) ≡ c
unfolding count
count_same c w =
    λ i.
    record {
      hits = wrap-same c.hits w.hits i;
      misses = wrap-same c.misses w.misses i;
      invalidates = wrap-same c.invalidates w.invalidates i;
    }

module _ (c : Counts) where
  -- ---- the book with c counted before

  abbrev more_in : Book → Book
  more_in bk = record { rows = bk.rows; counts = count c bk.counts; next = bk.next }

  -- an event adds the same
  after_more : (p : Setup) (ev : Event) (bk : Book) → after p ev (more_in bk) ≡ more_in (after p ev bk)
  unfolding after put effect
  after_more p (on q) bk = λ i. record { rows = (after p (on q) bk).rows; counts = count-more c bk.counts (effect p q bk).adds i; next = bk.next }
  after_more p invalidate_all bk = λ i. record {
    rows = λ j. [];
    counts = count-more c bk.counts
        (plus 0 0 (all_entries p.shards bk.rows)) i;
    next = bk.next;
  }
  after_more p new_epoch bk = refl

  -- so do several
  all_more : (p : Setup) (evs : List Event) (bk : Book) → after_all p evs (more_in bk) ≡ more_in (after_all p evs bk)
  unfolding after_all
  all_more p [] bk = refl
  all_more p (ev ∷ evs) bk = ap (after_all p evs) (after_more p ev bk) ∙ all_more p evs (after p ev bk)

  -- and answer the same
  answer-more : (p : Setup) (ev : Event) (bk : Book) → answer_to p ev (more_in bk) ≡ answer_to p ev bk
  unfolding answer_to effect
  answer-more p (on q) bk = refl
  answer-more p invalidate_all bk = refl
  answer-more p new_epoch bk = refl

  answers-more : (p : Setup) (evs : List Event) (bk : Book) → answers p evs (more_in bk) ≡ answers p evs bk
  unfolding answers
  answers-more p [] bk = refl
  answers-more p (ev ∷ evs) bk = λ i. answer-more p ev bk i ∷ (ap (answers p evs) (after_more p ev bk) ∙ answers-more p evs (after p ev bk)) i

  -- a call adds the same, and is refused for the same cause
  call-more : (p : Setup) (cl : Call) (bk : Book) → after_call p cl (more_in bk) ≡ more_in (after_call p cl bk)
  unfolding after_call happening
  call-more p cl bk =
      ap (λ (xs : List Answer). after_all p (cond (is_refused cl xs) (remaining cl) (events_of cl)) (more_in bk)) (answers-more p (events_of cl) bk)
      ∙ all_more p (cond (is_refused cl (answers p (events_of cl) bk)) (remaining cl) (events_of cl)) bk

  -- ---- what the caller holds, and what is returned

  abbrev pub more_held : Held → Held
  more_held h = record { arena = h.arena; counts = count c h.counts; next = h.next }

  abbrev pub more_returned : Return → Return
  more_returned r = record { cause = r.cause; value = r.value; held = more_held r.held }

  lend-more : (p : Setup) (n : ℕ) (cl : Call) (rows : ℕ → Row) (h : Held)
      → lend p n (after_call p cl (book_of rows (more_held h))) ≡ more_held (lend p n (after_call p cl (book_of rows h)))
  unfolding lend
  lend-more p n cl rows h = ap (lend p n) (call-more p cl (book_of rows h))

  -- ---- a single call

  called_more : (p : Setup) (rows : ℕ → Row) (q : Keyed) (h : Held) → singles.called_on p rows q (more_held h) ≡ more_returned (singles.called_on p rows q h)
  unfolding singles.called_on
  called_more p rows q h =
      λ i.
      record {
        cause = singles.number_of (answer-more p (on q) (book_of rows h) i);
        value = singles.served_by (answer-more p (on q) (book_of rows h) i);
        held = lend-more p (length h.arena) (single q) rows h i;
      }

  passed-more : (over wrong : Bool) (p : Setup) (rows : ℕ → Row) (q : Keyed) (h : Held) (a b : ℕ)
      → cond over (singles.refused_as a (more_held h)) (cond wrong (singles.refused_as b (more_held h)) (singles.called_on p rows q (more_held h)))
      ≡ more_returned (cond over (singles.refused_as a h) (cond wrong (singles.refused_as b h) (singles.called_on p rows q h)))
  passed-more true wrong p rows q h a b = refl
  passed-more false true p rows q h a b = refl
  passed-more false false p rows q h a b = called_more p rows q h

  imaged-more : (p : Setup) (rows : ℕ → Row) (q : Keyed) (h : Held) → singles.imaged p rows q (more_held h) ≡ more_returned (singles.imaged p rows q h)
  unfolding singles.imaged
  imaged-more p rows q h = passed-more (singles.overlong q) (singles.wrong_bytes q) p rows q h _ _

  pub single_more : (size mode ttl : ℕ) (q : Keyed) (h : Held) → single_call size mode ttl q (more_held h) ≡ more_returned (single_call size mode ttl q h)
  unfolding single_call
  single_more size mode ttl q h =
      entered-like more_returned (λ n. singles.refused_as n h) (λ g rows. singles.imaged (setup_now g) rows q h) (λ n. singles.refused_as n (more_held h))
      (λ g rows. singles.imaged (setup_now g) rows q (more_held h)) (λ n. refl) (λ g rows. imaged-more (setup_now g) rows q h)
      (checked size mode ttl (length h.arena)) h.arena

  -- ---- a push

  valued-more : (valid : Bool) (p : Setup) (rows : ℕ → Row) (bytes : Bytes) (h : Held) (a : ℕ)
      → cond valid (pushes.pushed_on p rows (resp.decode bytes) (more_held h)) (singles.refused_as a (more_held h))
      ≡ more_returned (cond valid (pushes.pushed_on p rows (resp.decode bytes) h) (singles.refused_as a h))
  unfolding pushes.pushed_on
  valued-more true p rows bytes h a = λ i. record {
    cause = no_cause;
    value = none;
    held = lend-more p (length h.arena)
        (pushed (resp.decode bytes)) rows h i;
  }
  valued-more false p rows bytes h a = refl

  push-imaged-more : (p : Setup) (rows : ℕ → Row) (bytes : Bytes) (h : Held)
      → pushes.imaged p rows bytes (more_held h) ≡ more_returned (pushes.imaged p rows bytes h)
  unfolding pushes.imaged
  push-imaged-more p rows bytes h = valued-more (is_value bytes) p rows bytes h _

  pub push-more : (size mode ttl : ℕ) (bytes : Bytes) (h : Held) → push_call size mode ttl bytes (more_held h) ≡ more_returned (push_call size mode ttl bytes h)
  unfolding push_call
  push-more size mode ttl bytes h =
      entered-like more_returned (λ n. singles.refused_as n h) (λ g rows. pushes.imaged (setup_now g) rows bytes h) (λ n. singles.refused_as n (more_held h))
      (λ g rows. pushes.imaged (setup_now g) rows bytes (more_held h)) (λ n. refl) (λ g rows. push-imaged-more (setup_now g) rows bytes h)
      (checked size mode ttl (length h.arena)) h.arena

  -- ---- a planning

  abbrev pub more_left : plans.Left → plans.Left
  more_left x = record { returned = x.returned; plan = x.plan; send = x.send; held = more_held x.held }

  module _ (t e : ℕ) (s d f : Bytes) (h : Held) where
    pipelined-more : (g : Settings) (rows : ℕ → Row) (r : Record) (a : PlanAnswer)
        → plans.pipelined t e s d f (more_held h) g rows r a ≡ more_left (plans.pipelined t e s d f h g rows r a)
    unfolding plans.pipelined
    pipelined-more g rows r (because n) = refl
    pipelined-more g rows r (done x) =
        λ i.
        record {
          returned = plans.wrote (length x.plan) (length x.send) x.counts;
          plan = (plans.pipelined t e s d f h g rows r (done x)).plan;
          send = (plans.pipelined t e s d f h g rows r (done x)).send;
          held = lend-more (setup_now g) (length h.arena) (call_of g t e r (length d) (length f)) rows h i;
        }

    recorded_more : (g : Settings) (rows : ℕ → Row) (r : Record)
        → plans.recorded t e s d f (more_held h) g rows r ≡ more_left (plans.recorded t e s d f h g rows r)
    unfolding plan_on
    recorded_more g rows r =
        ap (λ (xs : List Answer). plans.pipelined t e s d f (more_held h) g rows r (plan_answer g t r (length d) (length f) xs))
        (answers-more (setup_now g) _ (book_of rows h))
        ∙ pipelined-more g rows r _

    judged-more : (g : Settings) (rows : ℕ → Row) (k : Result (Unit {0}) Wrong) → plans.judged t e s d f (more_held h) g rows k ≡ more_left (plans.judged t e s d f h g rows k)
    unfolding plans.judged
    judged-more g rows (Ok u) = recorded_more g rows (record_at s)
    judged-more g rows (Err w) = refl

    short-more : (long : Bool) (g : Settings) (rows : ℕ → Row) (x : plans.Returned)
        → cond long (plans.refusal t e s d f (more_held h) x) (plans.judged t e s d f (more_held h) g rows (check_def s))
        ≡ more_left (cond long (plans.refusal t e s d f h x) (plans.judged t e s d f h g rows (check_def s)))
    short-more true g rows x = refl
    short-more false g rows x = judged-more g rows (check_def s)

    admitted-more : (g : Settings) (rows : ℕ → Row) → plans.admitted_to t e s d f (more_held h) g rows ≡ more_left (plans.admitted_to t e s d f h g rows)
    unfolding plans.admitted_to
    admitted-more g rows = short-more (ltb max_bytes (length s)) g rows _

  pub plan-more : (size mode ttl t e : ℕ) (s d f : Bytes) (h : Held)
      → plan_call size mode ttl t e s d f (more_held h) ≡ more_left (plan_call size mode ttl t e s d f h)
  unfolding plan_call
  plan-more size mode ttl t e s d f h =
      entered-like more_left (λ n. plans.refusal t e s d f h (plans.refused_as n)) (plans.admitted_to t e s d f h)
      (λ n. plans.refusal t e s d f (more_held h) (plans.refused_as n)) (plans.admitted_to t e s d f (more_held h)) (λ n. refl) (admitted-more t e s d f h)
      (checked size mode ttl (length h.arena)) h.arena
