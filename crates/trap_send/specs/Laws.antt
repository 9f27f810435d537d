-- What is written, one law for each path of the code: each cause of planning's own call, and that the empty cache is what setup leaves. Assumes nothing.
-- Letters: as in Send.antt; g settings, a the arena's bytes, k where the commands stand, b whether it is a transaction.
use Rattle.std.specs.Prelude.{Ok, ◌≡◌, refl, Bool, true, false, ◌||◌, List, ℕ, ◌+◌, ◌≤◌, ◌<◌, ltb, length, replicate, Err, Option, None, Some, is_none}
use Rattle.std.proofs.Common.{sym, ap, ap₂, ◌∙◌, subst, arith, ltb-false, lt-ltb, le-ltb}
use Rattle.buffer.specs.Same.{Bytes}
use Rattle.buffer.specs.Part.{put}
use Rattle.config.specs.Config.{checked, refused, settings_of}
use Rattle.config.specs.declared.Settings.{Settings}
use Rattle.call_record.specs.Record.{Command, transaction}
use Rattle.call_record.specs.Check.{check_def}
use Rattle.format.specs.Ends.{wrong}
use Rattle.cursor.specs.At.{commands_of, CommandsHere, command_cursor, record_at}
use Rattle.cursor.specs.declared.Commands.{Commands}
use Rattle.cmd.specs.Laws.{Wrote}
use Rattle.book.specs.Book.{Row, Counts, plus}
use Rattle.arena.specs.Decode.{read_arena}
use Rattle.planning.specs.Ask.{ask, any_late}
use Rattle.sharded_lru.specs.Lent.{setup_now, Lent}
use Rattle.sharded_lru.specs.Admit.{admitted, admits}
use Rattle.config.specs.Causes.{number}
use Rattle.config.specs.declared.Cause.{Cause}
use Rattle.planning_outcome.specs.Sizes.{all_sent}
use Rattle.planning_send_len.specs.Wrapped.{start_bytes, end_bytes}
use Rattle.trap_send.specs.Walk.{Fits}
use Rattle.room.specs.Room.{spent, whole}
use Rattle.planning_dry_pass.specs.Dry.{Planable}
use Rattle.single_calls.specs.Setup.{fresh_arena}
use Rattle.cache_manager.specs.Pipeline.{recorded, admitted_to, plan_call}
use Rattle.cache_manager.specs.Planned.{plan_bytes, send_bytes, send_now, late-refused, short-refused, all-written}
use Rattle.cache_manager.specs.Passed.{send-short}
use Rattle.cache_manager.specs.Fit.{Fit, planable}
use Rattle.cache_manager.specs.Records as paths
use Rattle.trap_send.specs.Send.{Output, output, output_of, max_record, held, empty_cache, sends_with, Settles, Within}

-- two plannings that come to the same settle alike
pub settles-as : (x y : Bytes → Output) (z : Output) → ((d : Bytes) → x d ≡ y d) → Settles y z → Settles x z
settles-as x y z p w = record { room = w.room; is = λ d h. w.is d h ∙ sym (p d) }

-- what comes to the same with every plan buffer
pub settles-all : (x : Bytes → Output) (z : Output) → ((d : Bytes) → x d ≡ z) → Settles x z
settles-all x z p = record { room = 0; is = λ d h. sym (p d) }

-- what is answered lies inside the send buffer
pub front-within : (r : Option ℕ) (n m : ℕ) → r ≡ Some m → Within r n → m ≤ n
front-within r n m q w = subst (λ (x : Option ℕ). Within x n) q w

-- ---- a record that is one

-- either test says so; neither does
or_yes : (x y : Bool) → y ≡ true → (x || y) ≡ true
or_yes true y q = refl
or_yes false y q = q

or_no : (x y : Bool) → x ≡ false → y ≡ false → (x || y) ≡ false
or_no x y p q = rw (p, q)

module _ (s f a : Bytes) (g : Settings) (k : Commands) (q : k ≡ command_cursor s) where
  -- the record's commands are those that the cursor has before it
  commands-are : (record_at s).commands ≡ commands_of s k
  unfolding record_at
  commands-are = rw q

  -- the commands lie inside, and none is late where none is found to be
  pub here : Fit s → CommandsHere s k
  here w = rw q w.here

  pub ahead : Fit s → any_late g 0 (commands_of s k) ≡ false → Planable g 0 s k.left k.at
  ahead w = rw q (planable g 0 s w)

  module _ (rows : ℕ → Row) (n : Counts) (next : ℕ) where
    -- a planning of it, with a plan buffer
    abbrev recorded_with : Bytes → Output
    recorded_with d = output_of (recorded 0 0 s d f (held a n next) g rows (record_at s))

    -- cause 4
    pub record-late : any_late g 0 (commands_of s k) ≡ true → Settles recorded_with (output None f)
    record-late l = settles-all _ _ (λ d. ap output_of (late-refused 0 0 s d f (held a n next) g rows (record_at s) (ap (any_late g 0) commands-are ∙ l)))

    module _ (b : Bool) (p : b ≡ transaction (record_at s)) (l : any_late g 0 (commands_of s k) ≡ false) where
      -- none of the record's commands is late, and what is sent for them is what the code writes
      on-time : any_late g 0 (record_at s).commands ≡ false
      on-time = ap (any_late g 0) commands-are ∙ l

      send-same : (d : Bytes) → send_now 0 0 s d f (held a n next) g rows (record_at s) ≡ send_bytes (setup_now g) rows 0 0 g b (commands_of s k)
      send-same d = ap₂ (λ (x : Bool) (y : List Command). send_bytes (setup_now g) rows 0 0 g x y) (sym p) commands-are

      -- the plan that planning would write
      abbrev plan_long : Bytes
      plan_long = plan_bytes (setup_now g) rows 0 0 g (transaction (record_at s)) (record_at s).commands

      -- cause 5: no plan buffer helps where the send buffer is short
      pub record-short : ltb (length f) (length (send_bytes (setup_now g) rows 0 0 g b (commands_of s k))) ≡ true → Settles recorded_with (output None f)
      record-short x =
          settles-all recorded_with (output None f)
          (λ d.
          ap output_of
          (short-refused 0 0 s d f (held a n next) g rows (record_at s) on-time
          (or_yes (ltb (length d) (length plan_long)) (ltb (length f) (length (send_now 0 0 s d f (held a n next) g rows (record_at s))))
          (ap (λ (z : Bytes). ltb (length f) (length z)) (send-same d) ∙ x))))

      -- it is written
      pub record-done : ltb (length f) (length (send_bytes (setup_now g) rows 0 0 g b (commands_of s k))) ≡ false
          → (f' : Bytes) (m : ℕ) → Wrote f 0 (send_bytes (setup_now g) rows 0 0 g b (commands_of s k)) f' m → Settles recorded_with (output (Some m) f')
      record-done x f' m w =
          record {
            room = length plan_long;
            is = λ d h.
                let S : Bytes = send_now 0 0 s d f (held a n next) g rows (record_at s) in
                let y : S ≡ send_bytes (setup_now g) rows 0 0 g b (commands_of s k) = send-same d in
                let l : length S ≡ length (send_bytes (setup_now g) rows 0 0 g b (commands_of s k)) = ap length y in
                let u = w.ends in
                let i : m ≡ length S = omega arith in
                let v : f' ≡ put f 0 S = w.is ∙ ap (put f 0) (sym y) in
                let z = all-written 0 0 s d f (held a n next) g rows (record_at s) on-time
                (or_no (ltb (length d) (length plan_long)) (ltb (length f) (length S)) (le-ltb (length d) (length plan_long) h)
                (ap (λ (z : Bytes). ltb (length f) (length z)) y ∙ x)) in
                ap₂ (λ (q : ℕ) (z : Bytes). output (Some q) z) i v ∙ sym (ap output_of z);
          }

-- ---- the room that was counted down

module _ (f a : Bytes) (g : Settings) (b : Bool) (cs : List Command) (w : ℕ) (x z : Option ℕ) (i : w ≡ length (start_bytes b) + length (end_bytes b))
    (u : x ≡ spent (whole (length f)) w) (j : (rows : ℕ → Row) → Lent g a rows → z ≡ spent x (length (all_sent (setup_now g) rows 0 0 (ask g 0) g.mode cs)))
  where
    -- is short exactly if the send buffer is
    pub room_says : (rows : ℕ → Row) → Lent g a rows → is_none z ≡ ltb (length f) (length (send_bytes (setup_now g) rows 0 0 g b cs))
    room_says rows o =
        ap (λ (r : Option ℕ). is_none r) (j rows o ∙ ap (λ (r : Option ℕ). spent r (length (all_sent (setup_now g) rows 0 0 (ask g 0) g.mode cs))) u)
        ∙ send-short (setup_now g) rows 0 0 g b cs (length f) w i

    -- so what is sent fits where the room was not short
    pub room_fits : is_none z ≡ false → Fits g a (λ rows. send_bytes (setup_now g) rows 0 0 g b cs) 0 (length f)
    room_fits q rows o =
        let S : Bytes = send_bytes (setup_now g) rows 0 0 g b cs in
        let h : length S ≤ length f = ltb-false (length f) (length S) (sym (room_says rows o) ∙ q) in
        omega arith

-- ---- causes 3 and 2

module _ (s f : Bytes) (a : Bytes) (g : Settings) (rows : ℕ → Row) (n : Counts) (next : ℕ) (l : length s ≤ max_record) where
  -- a planning that causes 1 and 9 let through, with a plan buffer
  abbrev admitted_with : Bytes → Output
  admitted_with d = output_of (admitted_to 0 0 s d f (held a n next) g rows)

  -- cause 2
  pub record-wrong : (o : ℕ) → check_def s ≡ wrong o → Settles admitted_with (output None f)
  record-wrong o q = settles-all _ _ (λ d. ap output_of (paths.bad-record 0 0 s d f (held a n next) g rows (omega arith) o q))

  -- a record that is one is planned
  pub record-fine : check_def s ≡ Ok tt → (z : Output) → Settles (λ d. output_of (recorded 0 0 s d f (held a n next) g rows (record_at s))) z
      → Settles admitted_with z
  record-fine q z w = settles-as _ _ z (λ d. ap output_of (paths.good-record 0 0 s d f (held a n next) g rows (omega arith) q)) w

-- ---- the whole

-- the empty cache: what setup leaves of 64 bytes, whatever they were
pub empty-set-up : (a : Bytes) → length a ≡ 64 → fresh_arena (checked 4 0 1800000 (length a)) a ≡ empty_cache.arena
unfolding checked refused settings_of
empty-set-up a l = ap (λ (n : ℕ). fresh_arena (checked 4 0 1800000 n) a) l ∙ ap (λ (n : ℕ). replicate {A = ℕ} n 0) l

-- which are zeros
pub fresh-zeros : (a : Bytes) → a ≡ fresh_arena (checked 4 0 1800000 64) (replicate {A = ℕ} 64 0) → a ≡ replicate {A = ℕ} (length a) 0
unfolding checked refused settings_of
fresh-zeros a q = q ∙ ap (λ (n : ℕ). replicate {A = ℕ} n 0) (sym (ap length q))

module _ (s f : Bytes) where
  -- a record over 65,536 bytes
  pub record-long : max_record < length s → Settles (sends_with s f) (output None f)
  unfolding sends_with
  record-long l = settles-all _ _ (λ d. rw (lt-ltb max_record (length s) l))

  module _ (l : length s ≤ max_record) where
    -- one that is not is planned
    planned-is : (d : Bytes) → sends_with s f d ≡ output_of (plan_call 4 0 1800000 0 0 s d f empty_cache)
    unfolding sends_with
    planned-is d = rw (le-ltb max_record (length s) l)

    -- on an arena that is the empty cache's: causes 1 and 9
    pub cache-refused : (a : Bytes) → a ≡ empty_cache.arena → (cause : Cause) → admitted 4 0 1800000 a ≡ Err cause → Settles (sends_with s f) (output None f)
    cache-refused a e cause q =
        settles-all _ _ (λ d. planned-is d ∙ ap output_of (paths.call-refused 4 0 1800000 0 0 s d f empty_cache cause (ap (admitted 4 0 1800000) (sym e) ∙ q)))

    -- admitted: what a planning of these rows settles
    pub cache-admitted : (a : Bytes) → a ≡ empty_cache.arena → (g : Settings) → admitted 4 0 1800000 a ≡ Ok g → (z : Output)
        → ((rows : ℕ → Row) (n : Counts) (next : ℕ) → Lent g a rows → Settles (λ d. output_of (admitted_to 0 0 s d f (held a n next) g rows)) z)
        → Settles (sends_with s f) z
    cache-admitted a e g q z w =
        let v = admits 4 0 1800000 a g q in
        let u = w _ (plus 0 0 0) 1 v.lent in
        settles-as (sends_with s f) (λ d. output_of (admitted_to 0 0 s d f (held a (plus 0 0 0) 1) g (read_arena (setup_now g) a))) z
        (λ d.
        planned-is d ∙ ap (λ (x : Bytes). output_of (plan_call 4 0 1800000 0 0 s d f (held x (plus 0 0 0) 1))) (sym e)
        ∙ ap output_of (paths.call-admitted 4 0 1800000 0 0 s d f (held a (plus 0 0 0) 1) g (read_arena (setup_now g) a) v.fine v.read))
        u
