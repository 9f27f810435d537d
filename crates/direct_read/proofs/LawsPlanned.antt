-- A planning that refuses nothing: its plan is read as the outcomes of its commands, and what it sends is what they send. Assumes that its bytes are those of
-- a valid record.
-- Letters: g settings, t clock, e epoch, s the record's bytes, r the record, d the plan buffer, f the send buffer, h what is held.
use Rattle.std.proofs.Math.Path.{◌≡◌, refl, sym, ap, subst}
use Rattle.std.proofs.Common.{◌∙◌, zero-le, arith, ltb-false}
use Rattle.std.specs.Prelude.{ℕ, ◌≤◌, List, ltb, take}
use Rattle.std.proofs.Math.Option.{some}
use Rattle.std.proofs.Math.ListN.{length}
use Rattle.buffer.specs.Cases.{by_test}
use Rattle.buffer.specs.Same.{Bytes}
use Rattle.buffer.specs.Part.{put}
use Rattle.buffer.specs.PartLaws.{part-put, part-front}
use Rattle.config.specs.Limits.{max_bytes}
use Rattle.config.specs.Config.{mode_of, refused, settings_of, checked}
use Rattle.config.specs.declared.Settings.{Settings}
use Rattle.std.specs.Prelude.{Ok}
use Rattle.resp3.specs.Ends.{is_value}
use Rattle.call_record.specs.Record.{Record, enc_record, ValidRecord, transaction}
use Rattle.call_record.specs.Check.{check_def, check-fine}
use Rattle.cursor.specs.Laws.{decoded}
use Rattle.book.specs.Book.{Setup, Row, Book, Answer}
use Rattle.book.specs.Lookups.{dry}
use Rattle.book.proofs.Lookups.{planned}
use Rattle.arena.specs.Decode.{decode}
use Rattle.arena.proofs.Image.{decode-exact}
use Rattle.arena.specs.Held.{Held, book_of}
use Rattle.sharded_lru.specs.Lent.{setup_now}
use Rattle.planning.specs.Ask.{ask, any_late}
use Rattle.planning.specs.Outcome.{CachingResult, wanted, outcomes}
use Rattle.planning.specs.Sent.{sent, wrapped, Responses, sent_bytes}
use Rattle.planning.specs.Plan.{plan_of}
use Rattle.planning.specs.Planning.{Planned, planned_by, planned_from, short, PlanAnswer, because, done, plan_answer, plan_on}
use Rattle.plan.specs.Decode.{decode_plan}
use Rattle.plan_outcomes.proofs.Served.{plan-read}
use Rattle.call_entry.specs.Laws.{each-entry}
use Rattle.cache_manager.specs.Pipeline.{refused_as, wrote, Left, refusal, pipelined, judged, admitted_to, plan_call}

-- the settings of a call that cause 1 lets through have its mode
pub mode-kept : (size mode ttl n : ℕ) (g : Settings) → checked size mode ttl n ≡ Ok g → g.mode ≡ mode_of mode
unfolding checked settings_of
mode-kept size mode ttl n g q =
    by_test (refused size mode n)
    (λ b. absurd (let y = rw b at q in let z : ◌≡◌ {A = ℕ} 0 1 = cc in omega arith))
    (λ b.
    let y : Ok (settings_of size mode ttl n) ≡ Ok g = rw b at q in
    let z : settings_of size mode ttl n ≡ g = cc in
    ap (λ (u : Settings). u.mode) (sym z))

-- what was put at the front is found there
pub front-put : (s bs : Bytes) (n : ℕ) → length bs ≡ n → take n (put s 0 bs) ≡ bs
front-put s bs n l =
    ap (λ (i : ℕ). take i (put s 0 bs)) (sym l) ∙ sym (part-front (put s 0 bs) (length bs)) ∙ part-put s bs 0 zero-le

-- no refusal is a return with bytes written
refused-wrote : (n pl sl : ℕ) (counts : Responses) → refused_as n ≡ wrote pl sl counts → ⊥
refused-wrote n pl sl counts q = let z : ◌≡◌ {A = ℕ} 0 1 = cc in omega arith

-- what a planning of the record r left by the answers to its lookups, where it wrote so many bytes of a plan and so many to send
module _ (mode t : ℕ) (r : Record) where
  -- the outcomes of its commands
  abbrev pub results_by : Settings → List Answer → List CachingResult
  results_by g said = outcomes (ask g t) r.commands said

  -- settings, answers, and that both buffers hold what these make
  pub record Wrote (x : Left) (pl sl : ℕ) : Type 0 where
    pub g : Settings
    pub said : List Answer
    pub kept : g.mode ≡ mode_of mode
    pub decoded : decode_plan (take pl x.plan) ≡ some (plan_of (transaction r) (results_by g said))
    pub sends : take sl x.send ≡ sent_bytes (wrapped (transaction r) (sent (mode_of mode) r.commands (results_by g said)))

-- on a record and a book: what is done is what the answers to its lookups make
module _ (p : Setup) (bk : Book) (g : Settings) (t e : ℕ) (r : Record) (plan_room send_room : ℕ) where
  -- the answers to its lookups
  abbrev said : List Answer
  said = dry p bk t e (wanted (ask g t) r.commands)

  -- and what is written by them
  done-by : (y : Planned) → plan_on p bk g t e r plan_room send_room ≡ done y → y ≡ planned_from (ask g t) g r said
  unfolding plan_on plan_answer
  done-by y q =
      by_test (any_late g t r.commands)
      (λ l. absurd (let z : because 4 ≡ done y = rw l at q in let u : ◌≡◌ {A = ℕ} 0 1 = cc in omega arith))
      (λ l.
      by_test (short (ask g t) g r plan_room send_room said)
      (λ b. absurd (let z : because 5 ≡ done y = rw (planned, l, b) at q in let u : ◌≡◌ {A = ℕ} 0 1 = cc in omega arith))
      (λ b. let z : done (planned_from (ask g t) g r said) ≡ done y = rw (planned, l, b) at q in let u : planned_from (ask g t) g r said ≡ y = cc in sym u))

-- on the rows of its arena
module _ (size mode ttl t e : ℕ) (s d f : Bytes) (h : Held) (r : Record) (valid : ValidRecord r) (bytes : s ≡ enc_record r) (pl sl : ℕ)
    (counts : Responses) where
  module _ (g : Settings) (rows : ℕ → Row) (kept : g.mode ≡ mode_of mode) (small : length s ≤ max_bytes)
      (image : decode is_value (setup_now g) h.arena ≡ some rows) where
    -- its book
    abbrev bk : Book
    bk = book_of rows h

    -- causes 4 and 5 have let it through
    answer-wrote : (x : PlanAnswer) → plan_on (setup_now g) bk g t e r (length d) (length f) ≡ x
        → (pipelined t e s d f h g rows r x).returned ≡ wrote pl sl counts → Wrote mode t r (pipelined t e s d f h g rows r x) pl sl
    unfolding pipelined
    answer-wrote (because n) q w = absurd (refused-wrote n pl sl counts w)
    answer-wrote (done y) q w =
        let lp : length y.plan ≡ pl = cc in
        let ls : length y.send ≡ sl = cc in
        let formed = (decode-exact is_value (setup_now g) h.arena rows image).formed in
        let l = subst (λ (b : Bytes). length b ≤ max_bytes) bytes small in
        record {
          g = g;
          said = said (setup_now g) bk g t e r (length d) (length f);
          kept = kept;
          decoded = ap decode_plan (front-put d y.plan pl lp)
              ∙ (plan-read (setup_now g) bk g t e r (length d) (length f) y formed valid l q).decoded;
          sends = front-put f y.send sl ls ∙ ap (λ (z : Planned). z.send) (done-by (setup_now g) bk g t e r (length d) (length f) y q)
              ∙ (unfold planned_from planned_by in rw kept);
        }

    -- cause 2 does not refuse a record's bytes
    judged-wrote : (judged t e s d f h g rows (check_def s)).returned ≡ wrote pl sl counts → Wrote mode t r (judged t e s d f h g rows (check_def s)) pl sl
    unfolding judged
    judged-wrote w =
        rw ((check-fine s).1 (record { value = r; valid = valid; bytes = bytes }), (decoded s r valid bytes).is)
        (answer-wrote (plan_on (setup_now g) bk g t e r (length d) (length f)) refl
        (rw ((check-fine s).1 (record { value = r; valid = valid; bytes = bytes }), (decoded s r valid bytes).is) at w))

  -- cause 3 has let it through
  admitted-wrote : (g : Settings) (rows : ℕ → Row) → g.mode ≡ mode_of mode → decode is_value (setup_now g) h.arena ≡ some rows
      → (admitted_to t e s d f h g rows).returned ≡ wrote pl sl counts → Wrote mode t r (admitted_to t e s d f h g rows) pl sl
  unfolding admitted_to
  admitted-wrote g rows kept image w =
      by_test (ltb max_bytes (length s))
      (λ l. absurd (refused-wrote _ pl sl counts (rw l at w)))
      (λ l. rw l (judged-wrote g rows kept (ltb-false max_bytes (length s) l) image (rw l at w)))

  -- causes 1 and 9 have, too
  pub planning-wrote : (plan_call size mode ttl t e s d f h).returned ≡ wrote pl sl counts → Wrote mode t r (plan_call size mode ttl t e s d f h) pl sl
  unfolding plan_call
  planning-wrote =
      each-entry (λ n. refusal t e s d f h (refused_as n)) (admitted_to t e s d f h)
      (λ (x : Left). x.returned ≡ wrote pl sl counts → Wrote mode t r x pl sl)
      (checked size mode ttl (length h.arena)) h.arena
      (λ w. absurd (refused-wrote _ pl sl counts w)) (λ w. absurd (refused-wrote _ pl sl counts w))
      (λ g rows fine image w. admitted-wrote g rows (mode-kept size mode ttl (length h.arena) g fine) image w)
