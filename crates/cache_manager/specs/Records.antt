-- What planning leaves, one law for each path of the code. Assumes nothing.
use Rattle.std.specs.Prelude.{◌≡◌, refl, Bool, true, false, ◌||◌, List, ℕ, ◌≤◌, ◌<◌, ltb, length, Ok, Err}
use Rattle.std.proofs.Math.Path.{sym, ap}
use Rattle.std.proofs.Common.{ap₂, ◌∙◌, true≢false, ltb-false, lt-ltb, le-ltb}
use Rattle.std.proofs.Math.Option.{some}
use Rattle.buffer.specs.Same.{Bytes}
use Rattle.config.specs.Limits.{max_bytes, max_commands}
use Rattle.config.specs.Causes.{late_expiry, short_buffer, too_long, number}
use Rattle.config.specs.Config.{checked}
use Rattle.config.specs.declared.Cause.{Cause}
use Rattle.config.specs.declared.Cause.TheVariants.{LateExpiry, ShortBuffer}
use Rattle.config.specs.declared.Settings.{Settings}
use Rattle.statistics.specs.declared.Statistics.{Statistics}
use Rattle.call_record.specs.Record.{Command, transaction}
use Rattle.call_record.specs.Check.{check_def}
use Rattle.format.specs.Ends.{wrong}
use Rattle.cursor.specs.At.{commands_of, CommandsHere, command_cursor, record_at}
use Rattle.cursor.specs.declared.Commands.{Commands}
use Rattle.resp3.specs.Ends.{is_value}
use Rattle.book.specs.Book.{Row, after_all}
use Rattle.book.specs.Calls.{lookups, ons}
use Rattle.arena.specs.Layout.{encode}
use Rattle.arena.specs.Decode.{decode}
use Rattle.arena.specs.Held.{Held, lend, book_of}
use Rattle.planning.specs.Ask.{ask, any_late}
use Rattle.planning.specs.Outcome.{wanted}
use Rattle.sharded_lru.specs.Lent.{setup_now}
use Rattle.sharded_lru.specs.Admit.{admitted}
use Rattle.call_entry.specs.Laws.{is-entered, not_entered, each-refusal}
use Rattle.statistics.specs.OfBook.{counts_of}
use Rattle.planning_dry_pass.specs.Dry.{Planable}
use Rattle.call_entry.specs.Entered.{holding}
use Rattle.cache_manager.specs.Pipeline.{Returned, refused_as, refused_by, wrong_at, Left, refusal, recorded, judged, admitted_to, plan_call, returned_of, Leaves}
use Rattle.cache_manager.specs.Planned.{plan_bytes, send_bytes, plan_now, send_now, late-refused, short-refused, all-written}
use Rattle.cache_manager.specs.Passed.{Passed}
use Rattle.cache_manager.specs.Fit.{Fit, planable}
use Rattle.cache_manager.specs.declared.CachedPipeline.{CachedPipeline}

-- a refusal leaves everything as it was
pub leaves_all : (t e : ℕ) (s d f a : Bytes) (counts : Statistics) (next : ℕ) (x : Left) (y : Returned) (r : CachedPipeline)
    → x ≡ refusal t e s d f (holding a (counts_of counts) next) y → returned_of r.answer ≡ y → r.counts ≡ counts → Leaves x a d f r
leaves_all t e s d f a counts next x y r q p c =
    rw q (record { returned = p; arena = refl; counts = ap counts_of c; plan = refl; send = refl })

-- ---- on a record

module _ (t e : ℕ) (s d f a : Bytes) (g : Settings) (k : Commands) (counts : Statistics) (q : k ≡ command_cursor s) (w : Fit s) where
  commands-are : (record_at s).commands ≡ commands_of s k
  unfolding record_at
  commands-are = rw q

  pub here : CommandsHere s k
  here = rw q w.here

  pub few : k.left ≤ max_commands
  few = rw q w.count

  pub ahead : any_late g t (commands_of s k) ≡ false → Planable g t s k.left k.at
  ahead = rw q (planable g t s w)

  module _ (rows : ℕ → Row) (next : ℕ) (r : CachedPipeline) where
    -- cause 4
    pub record-late : any_late g t (commands_of s k) ≡ true → (r.answer ≡ Err LateExpiry) × (r.counts ≡ counts)
        → Leaves (recorded t e s d f (holding a (counts_of counts) next) g rows (record_at s)) a d f r
    record-late l z =
        leaves_all t e s d f a counts next _ (refused_as late_expiry) r
        (late-refused t e s d f (holding a (counts_of counts) next) g rows (record_at s) (ap (any_late g t) commands-are ∙ l)) (ap returned_of z.0) z.1

    module _ (b : Bool) (p : b ≡ transaction (record_at s)) (l : any_late g t (commands_of s k) ≡ false) where
      plan-same : plan_now t e s d f (holding a (counts_of counts) next) g rows (record_at s) ≡ plan_bytes (setup_now g) rows t e g b (commands_of s k)
      plan-same = ap₂ (λ (x : Bool) (y : List Command). plan_bytes (setup_now g) rows t e g x y) (sym p) commands-are

      send-same : send_now t e s d f (holding a (counts_of counts) next) g rows (record_at s) ≡ send_bytes (setup_now g) rows t e g b (commands_of s k)
      send-same = ap₂ (λ (x : Bool) (y : List Command). send_bytes (setup_now g) rows t e g x y) (sym p) commands-are

      test-same : (ltb (length d) (length (plan_now t e s d f (holding a (counts_of counts) next) g rows (record_at s))) || ltb (length f)
          (length (send_now t e s d f (holding a (counts_of counts) next) g rows (record_at s))))
          ≡ (ltb (length d) (length (plan_bytes (setup_now g) rows t e g b (commands_of s k))) || ltb (length f)
          (length (send_bytes (setup_now g) rows t e g b (commands_of s k))))
      test-same = ap₂ (λ (x : Bytes) (y : Bytes). ltb (length d) (length x) || ltb (length f) (length y)) plan-same send-same

      late-same : any_late g t (record_at s).commands ≡ false
      late-same = ap (any_late g t) commands-are ∙ l

      -- cause 5
      pub record-short : (ltb (length d) (length (plan_bytes (setup_now g) rows t e g b (commands_of s k))) || ltb (length f)
          (length (send_bytes (setup_now g) rows t e g b (commands_of s k)))) ≡ true
          → (r.answer ≡ Err ShortBuffer) × (r.counts ≡ counts)
          → Leaves (recorded t e s d f (holding a (counts_of counts) next) g rows (record_at s)) a d f r
      record-short x z =
          leaves_all t e s d f a counts next _ (refused_as short_buffer) r
          (short-refused t e s d f (holding a (counts_of counts) next) g rows (record_at s) late-same (test-same ∙ x)) (ap returned_of z.0) z.1

      -- all is written
      pub record-done : (ltb (length d) (length (plan_bytes (setup_now g) rows t e g b (commands_of s k))) || ltb (length f)
          (length (send_bytes (setup_now g) rows t e g b (commands_of s k)))) ≡ false
          → (a' d' f' : Bytes) → length a' ≡ length a → Passed g t e b (commands_of s k) (book_of rows (holding a (counts_of counts) next)) d f a' d' f' r
          → Leaves (recorded t e s d f (holding a (counts_of counts) next) g rows (record_at s)) a' d' f' r
      unfolding lend
      record-done x a' d' f' n z =
          let y : Passed g t e (transaction (record_at s)) (record_at s).commands (book_of rows (holding a (counts_of counts) next)) d f a' d' f' r =
          rw (sym p) (rw commands-are z) in
          rw (all-written t e s d f (holding a (counts_of counts) next) g rows (record_at s) late-same (test-same ∙ x))
          (record {
            returned = y.returned;
            arena =
                sym y.keeps.rows.image.bytes ∙ ap
                (λ (m : ℕ). encode (setup_now g) m
                (after_all (setup_now g) (ons (lookups t e (wanted (ask g t) (record_at s).commands))) (book_of rows (holding a (counts_of counts) next))).rows) n;
            counts = y.keeps.counts;
            plan = y.plan;
            send = y.send;
          })

-- where neither buffer is short there is room
pub not_short : (n m x y : ℕ) → (ltb n x || ltb m y) ≡ false → (x ≤ n) × (y ≤ m)
not_short n m x y h = go (ltb n x) refl h
  where
    go : (u : Bool) → ltb n x ≡ u → (u || ltb m y) ≡ false → (x ≤ n) × (y ≤ m)
    go true q z = absurd (true≢false z)
    go false q z = (ltb-false n x q, ltb-false m y z)

-- ---- causes 3 and 2

module _ (t e : ℕ) (s d f : Bytes) (h : Held) (g : Settings) (rows : ℕ → Row) where
  pub too_long_lem : max_bytes < length s → admitted_to t e s d f h g rows ≡ refusal t e s d f h (refused_as too_long)
  unfolding admitted_to
  too_long_lem l = rw (lt-ltb max_bytes (length s) l)

  pub bad-record : length s ≤ max_bytes → (o : ℕ) → check_def s ≡ wrong o → admitted_to t e s d f h g rows ≡ refusal t e s d f h (wrong_at o)
  unfolding admitted_to judged
  bad-record l o q = rw (le-ltb max_bytes (length s) l, q)

  pub good-record : length s ≤ max_bytes → check_def s ≡ Ok tt → admitted_to t e s d f h g rows ≡ recorded t e s d f h g rows (record_at s)
  unfolding admitted_to judged
  good-record l q = rw (le-ltb max_bytes (length s) l, q)

-- ---- causes 1 and 9

module _ (size mode ttl t e : ℕ) (s d f : Bytes) (h : Held) where
  pub call-admitted : (g : Settings) (rows : ℕ → Row) → checked size mode ttl (length h.arena) ≡ Ok g
      → decode is_value (setup_now g) h.arena ≡ some rows
      → plan_call size mode ttl t e s d f h ≡ admitted_to t e s d f h g rows
  unfolding plan_call
  call-admitted g rows p q = is-entered (λ n. refusal t e s d f h (refused_as n)) (admitted_to t e s d f h) _ h.arena g rows p q

  pub call-refused : (cause : Cause) → admitted size mode ttl h.arena ≡ Err cause
      → plan_call size mode ttl t e s d f h ≡ refusal t e s d f h (refused_as (number cause))
  unfolding plan_call
  call-refused cause z = not_entered (λ n. refusal t e s d f h (refused_as n)) (admitted_to t e s d f h) size mode ttl cause h.arena z

  -- neither is cause 2, so that its number tells it
  pub refused-returned : (cause : Cause) → admitted size mode ttl h.arena ≡ Err cause → refused_by cause ≡ refused_as (number cause)
  refused-returned cause = each-refusal (λ (c : Cause). refused_by c ≡ refused_as (number c)) refl refl size mode ttl cause h.arena
