-- What planning's own answer means: the offset that it returns is where the record goes wrong, and what it leaves in the send buffer is a run of RESP3
-- commands, as many as its response
-- counts say. Both are about `plan_call`, whatever goes in. Assumes nothing.
use Rattle.std.specs.Prelude.{Result, Ok, Err, ◌≡◌, List, ℕ, ltb, length}
use Rattle.std.proofs.Math.Path.{refl}
use Rattle.std.proofs.Common.{sym, ap, ◌∙◌, arith}
use Rattle.buffer.specs.Same.{Bytes}
use Rattle.buffer.specs.Part.{put}
use Rattle.buffer.specs.Cases.{by_test}
use Rattle.config.specs.Limits.{max_bytes}
use Rattle.config.specs.Causes.{bad_config, too_long, bad_arena, late_expiry, short_buffer}
use Rattle.config.specs.Config.{checked}
use Rattle.config.specs.declared.Settings.{Settings}
use Rattle.call_record.specs.Offset.{WrongAt}
use Rattle.call_record.specs.Check.{check_def, check-offset}
use Rattle.format.specs.declared.Wrong.{Wrong}
use Rattle.format.specs.Ends.{wrong as goes_wrong}
use Rattle.cursor.specs.At.{record_at}
use Rattle.book.specs.Book.{Row, Answer, answers}
use Rattle.book.specs.Calls.{lookups, ons}
use Rattle.arena.specs.Held.{Held, book_of}
use Rattle.planning.specs.Ask.{ask, any_late}
use Rattle.planning.specs.Outcome.{wanted, outcomes}
use Rattle.planning.specs.Sent.{Responses}
use Rattle.planning.specs.Planning.{Planned, planned_from, short, plan_answer, plan_on}
use Rattle.planning.proofs.Run.{SentRun, sent-run}
use Rattle.sharded_lru.specs.Lent.{setup_now}
use Rattle.call_entry.specs.Laws.{each-entry}
use Rattle.cache_manager.specs.Pipeline.{refused_as, wrong_at, wrote, Left, refusal, pipelined, judged, admitted_to, plan_call}

-- ---- the three kinds of return are three

not-refused : (n : ℕ) {o : ℕ} → refused_as n ≡ wrong_at o → ⊥
not-refused n p = let z : ◌≡◌ {A = ℕ} 0 1 = cc in omega arith

not_written : {n m o : ℕ} {c : Responses} → wrote n m c ≡ wrong_at o → ⊥
not_written p = let z : ◌≡◌ {A = ℕ} 0 1 = cc in omega arith

refused-wrote : {k n m : ℕ} {c : Responses} → refused_as k ≡ wrote n m c → ⊥
refused-wrote p = let z : ◌≡◌ {A = ℕ} 0 1 = cc in omega arith

wrong-wrote : {k n m : ℕ} {c : Responses} → wrong_at k ≡ wrote n m c → ⊥
wrong-wrote p = let z : ◌≡◌ {A = ℕ} 0 1 = cc in omega arith

wrong-same : {q o : ℕ} → wrong_at q ≡ wrong_at o → q ≡ o
wrong-same p = cc

wrote-send : {n m n' m' : ℕ} {c c' : Responses} → wrote n m c ≡ wrote n' m' c' → m ≡ m'
wrote-send p = cc

wrote-counts : {n m n' m' : ℕ} {c c' : Responses} → wrote n m c ≡ wrote n' m' c' → c ≡ c'
wrote-counts p = cc

module _ (t e : ℕ) (s d f : Bytes) (h : Held) where
  -- the ways in which a planning comes out: refused by a number alone, by the check with its offset, or written
  data Way (x : Left) : Type 0 where
    refused : (n : ℕ) → x ≡ refusal t e s d f h (refused_as n) → Way x
    wrong : (o : ℕ) → check_def s ≡ goes_wrong o → x ≡ refusal t e s d f h (wrong_at o) → Way x
    written : (y : Planned) → SentRun y → x.returned ≡ wrote (length y.plan) (length y.send) y.counts → x.send ≡ put f 0 y.send → Way x

  module _ (g : Settings) (rows : ℕ → Row) where
    -- what is written is a run, whatever the lookups answer
    run_of : (said : List Answer) → SentRun (planned_from (ask g t) g (record_at s) said)
    unfolding planned_from
    run_of said = sent-run g (record_at s) (outcomes (ask g t) (record_at s).commands said)

    -- a record that is one: causes 4 and 5, or written
    on-record : (said : List Answer) → Way (pipelined t e s d f h g rows (record_at s) (plan_answer g t (record_at s) (length d) (length f) said))
    unfolding plan_answer pipelined
    on-record said =
        by_test (any_late g t (record_at s).commands) (λ l. rw l (refused late_expiry refl))
        (λ l.
        by_test (short (ask g t) g (record_at s) (length d) (length f) said) (λ c. rw (l, c) (refused short_buffer refl))
        (λ c. rw (l, c) (written (planned_from (ask g t) g (record_at s) said) (run_of said) refl refl)))

    -- the check's verdict
    on-check : (x : Result (Unit {0}) Wrong) → check_def s ≡ x → Way (judged t e s d f h g rows x)
    unfolding judged plan_on
    on-check (Ok u) p = on-record (answers (setup_now g) (ons (lookups t e (wanted (ask g t) (record_at s).commands))) (book_of rows h))
    on-check (Err w) p = wrong w.at p refl

    admitted : Way (admitted_to t e s d f h g rows)
    unfolding admitted_to
    admitted = by_test (ltb max_bytes (length s)) (λ l. rw l (refused too_long refl)) (λ l. rw l (on-check (check_def s) refl))

  module _ (size mode ttl : ℕ) where
    abbrev left : Left
    left = plan_call size mode ttl t e s d f h

    way : Way left
    unfolding plan_call
    way =
        each-entry (λ n. refusal t e s d f h (refused_as n)) (admitted_to t e s d f h) Way (checked size mode ttl (length h.arena)) h.arena
        (refused bad_config refl) (refused bad_arena refl) (λ g rows p q. admitted g rows)

    -- a record that is refused is refused at the place where it goes wrong
    pub offset-wrong : (o : ℕ) → left.returned ≡ wrong_at o → WrongAt s o
    offset-wrong o r = by way
      where
        by : Way left → WrongAt s o
        by (refused n p) = absurd (not-refused n (sym (ap (λ (x : Left). x.returned) p) ∙ r))
        by (wrong q c p) = (check-offset s o).0 (c ∙ ap goes_wrong (wrong-same (sym (ap (λ (x : Left). x.returned) p) ∙ r)))
        by (written y run p q) = absurd (not_written (sym p ∙ r))

    -- what stands in the send buffer is a run of commands
    pub record Sends (n m : ℕ) (c : Responses) : Type 0 where
      pub planned : Planned
      pub run : SentRun planned
      pub counts : planned.counts ≡ c
      pub long : length planned.send ≡ m
      pub stands : left.send ≡ put f 0 planned.send

    pub sends_run : (n m : ℕ) (c : Responses) → left.returned ≡ wrote n m c → Sends n m c
    sends_run n m c r = by way
      where
        by : Way left → Sends n m c
        by (refused k p) = absurd (refused-wrote (sym (ap (λ (x : Left). x.returned) p) ∙ r))
        by (wrong q k p) = absurd (wrong-wrote (sym (ap (λ (x : Left). x.returned) p) ∙ r))
        by (written y run p q) =
            record { planned = y; run = run; counts = wrote-counts (sym p ∙ r); long = wrote-send (sym p ∙ r); stands = q }
