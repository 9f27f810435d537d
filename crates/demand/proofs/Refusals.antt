-- In the sequence cause 1 is a mode over 1 and nothing else, and no call finds the arena damaged. Assumes what InTurn.antt does.
use Rattle.std.specs.Prelude.{Result, Ok, Err, ◌≡◌, ◌↔◌, ◌≢◌, ℕ, ◌*◌, ◌<◌, Bool, true, false, ◌||◌, List, [], ◌∷◌, eqb, ltb, leb, length}
use Rattle.std.proofs.Math.Path.{refl}
use Rattle.std.proofs.Common.{sym, ap, ◌∙◌, arith, ltb-true}
use Rattle.std.proofs.Math.Option.{Option, some}
use Rattle.std.proofs.Math.Option as option
use Rattle.std.proofs.lemmas.Bool.{eqb-false}
use Rattle.buffer.specs.Cases.{by_test}
use Rattle.buffer.specs.Same.{Bytes}
use Rattle.config.specs.Limits.{max_bytes, max_size, max_mode, max_arena, min_shard_bytes}
use Rattle.config.specs.Causes.{bad_config, bad_arena}
use Rattle.config.specs.Config.{shard_count, refused, settings_of}
use Rattle.config.specs.declared.Settings.{Settings}
use Rattle.std.specs.Prelude.{Ok}
use Rattle.resp3.specs.Ends.{is_value}
use Rattle.resp3.specs.Decode as resp
use Rattle.call_record.specs.Check.{check_def}
use Rattle.format.specs.declared.Wrong.{Wrong}
use Rattle.cursor.specs.At.{record_at}
use Rattle.book.specs.Book as book
use Rattle.book.specs.Book.{Counts, Keyed}
use Rattle.book.specs.Counted.{Counted}
use Rattle.arena.proofs.Sequence.{outcome_of}
use Rattle.planning.specs.Ask.{any_late}
use Rattle.planning.specs.Plan as nodes
use Rattle.plan.specs.Decode.{decode_plan}
use Rattle.resolving_walk.specs.Commands.{plan_read}
use Rattle.resolving.specs.Resolve as resolvings
use Rattle.resolving.specs.Resolve.{Resolved, cause7, answered}
use Rattle.resolving.specs.Result.{result_bytes}
use Rattle.single_calls.specs.Single as one
use Rattle.call_entry.specs.Entered.{no_cause}
use Rattle.single_calls.specs.AsCall.{outcome_number}
use Rattle.cache_manager.specs.Pipeline as pipeline
use Rattle.demand.specs.Call as real
use Rattle.demand.specs.Call.{RealCall, cause_of, setup_by}
use Rattle.demand.specs.Demand.{CallIn, returned, number}
use Rattle.demand.specs.Replies.{Reply, Response, return_for, plan_reply, record_reply, planning_return, result_reply, resolved_reply, plan_lent}
use Rattle.demand.specs.Replies.{resolving_return, single_number, push_number}
use Rattle.demand.specs.CorollaryWords.{mode_in, LentArena}
use Rattle.demand.specs.Corollaries.{response}
use Rattle.demand.proofs.Bridge.{is-fine}
use Rattle.demand.proofs.ModeRefused.{mode-bad, number-refused}
use Rattle.demand.proofs.InTurn.{passes}

-- neither 1 nor 9
abbrev Other : ℕ → Type 0
Other x = (x ≢ bad_config) × (x ≢ bad_arena)

-- as a number that is written out shows by computing
is : (x : ℕ) → eqb x bad_config ≡ false → eqb x bad_arena ≡ false → Other x
is x a b = (eqb-false x bad_config a, eqb-false x bad_arena b)

-- ---- where cause 1 lets a call through

-- planning: 3, 2, 4, 5
module _ (g : Settings) (t : ℕ) (bytes plan send : Bytes) where
  plan-other : (r : Reply) → Other (cause_of (plan_reply t bytes plan send g r))
  unfolding cause_of plan_reply pipeline.cause_of
  plan-other option.none = is 5 refl refl
  plan-other (some said) = is 0 refl refl

  record-other : (x : Result (Unit {0}) Wrong) (r : Reply) → Other (cause_of (record_reply t bytes plan send g x r))
  unfolding cause_of record_reply
  record-other (Err w) r = is 2 refl refl
  record-other (Ok u) r = by_test (any_late g t (record_at bytes).commands) (λ l. rw l (is 4 refl refl)) (λ l. rw l (plan-other r))

  planning-other : (r : Reply) → Other (cause_of (planning_return t bytes plan send (Ok g) r))
  unfolding cause_of planning_return
  planning-other r = by_test (ltb max_bytes (length bytes)) (λ l. rw l (is 3 refl refl)) (λ l. rw l (record-other (check_def bytes) r))

-- resolving: 10, 6, 7, 8
module _ (g : Settings) (t : ℕ) (replies answer : Bytes) where
  result-other : (bytes : Bytes) (r : Reply) → Other (cause_of (result_reply t replies answer bytes r))
  unfolding cause_of result_reply
  result-other bytes r = by_test (leb (length bytes) (length answer)) (λ l. rw l (is 0 refl refl)) (λ l. rw l (is 8 refl refl))

  resolved-other : (p : nodes.Plan) (v : Resolved) (r : Reply) → Other (cause_of (resolved_reply t replies answer p v r))
  unfolding cause_of resolved_reply
  resolved-other p (cause7 ss) r = is 7 refl refl
  resolved-other p (answered vs ss) r = result-other (result_bytes p.transaction vs) r

  lent_other : (o : Option nodes.Plan) (r : Reply) → Other (cause_of (plan_lent t replies answer g o r))
  unfolding cause_of plan_lent
  lent_other option.none r = is 10 refl refl
  lent_other (some p) r =
      by_test (is_value replies)
      (λ l. rw l (resolved-other p (resolvings.resolve (plan_read p) g.mode t (resp.decode replies)) r))
      (λ l. rw l (is 6 refl refl))

-- single calls: 3, 6, 11
number-other : (a : book.Answer) → Other (one.number_of a)
unfolding one.number_of
number-other (book.hit v) = is 0 refl refl
number-other book.miss = is 0 refl refl
number-other book.stored = is 0 refl refl
number-other book.no_space = is 11 refl refl
number-other book.invalidated = is 0 refl refl
number-other (book.number n) = is 0 refl refl

single-other : (q : Keyed) (r : Reply) → Other (outcome_number q (outcome_of r))
unfolding outcome_number outcome_of
single-other q option.none = by_test (one.overlong q) (λ l. rw l (is 3 refl refl)) (λ l. rw l (is 6 refl refl))
single-other q (some []) = is 0 refl refl
single-other q (some (a ∷ said)) = number-other a

module _ (size n : ℕ) where
  -- a call that cause 1 lets through
  pub number-other-for : (c : RealCall) → refused size (mode_in c) n ≡ false → (r : Response) → Other (cause_of (return_for size n c r))
  unfolding cause_of return_for mode_in resolving_return single_number push_number
  number-other-for (real.planning m d t e bytes plan send) f r = rw (is-fine size n m d f) (planning-other (settings_of size m d n) t bytes plan send r.reply)
  number-other-for (real.resolving m d t e plan replies answer) f r =
      rw (is-fine size n m d f) (lent_other (settings_of size m d n) t replies answer (decode_plan plan) r.reply)
  number-other-for (real.push m d bytes) f r = rw (is-fine size n m d f) (by_test (is_value bytes) (λ l. rw l (is 0 refl refl)) (λ l. rw l (is 6 refl refl)))
  number-other-for (real.lookup m d t e k c) f r = rw (is-fine size n m d f) (single-other (book.lookup k c t e) r.reply)
  number-other-for (real.store m d e k c v x) f r = rw (is-fine size n m d f) (single-other (book.store k c v x e) r.reply)
  number-other-for (real.invalidate m d k) f r = rw (is-fine size n m d f) (single-other (book.invalidate k) r.reply)
  number-other-for real.new_epoch f r = is 0 refl refl

  -- one that cause 1 does not, with a new epoch aside
  pub never-nine : (c : RealCall) (r : Response) → cause_of (return_for size n c r) ≢ bad_arena
  never-nine c r =
      by_test (refused size (mode_in c) n) (λ b. by-lent c b) (λ f. (number-other-for c f r).1)
    where
      one-not : (c : RealCall) → LentArena c → refused size (mode_in c) n ≡ true → cause_of (return_for size n c r) ≢ bad_arena
      one-not c a b e = let z : ◌≡◌ {A = ℕ} 1 9 = sym (number-refused size n c a b r) ∙ e in omega arith

      by-lent : (c : RealCall) → refused size (mode_in c) n ≡ true → cause_of (return_for size n c r) ≢ bad_arena
      by-lent (real.planning m d t e bytes plan send) b = one-not (real.planning m d t e bytes plan send) tt b
      by-lent (real.resolving m d t e plan replies answer) b = one-not (real.resolving m d t e plan replies answer) tt b
      by-lent (real.push m d bytes) b = one-not (real.push m d bytes) tt b
      by-lent (real.lookup m d t e k c) b = one-not (real.lookup m d t e k c) tt b
      by-lent (real.store m d e k c v x) b = one-not (real.store m d e k c v x) tt b
      by-lent (real.invalidate m d k) b = one-not (real.invalidate m d k) tt b
      by-lent real.new_epoch b = unfold cause_of return_for in (is 0 refl refl).1

-- another mode of at most 1 passes too
pub other-mode : (size m n m' : ℕ) → refused size m n ≡ false → ltb max_mode m' ≡ false → refused size m' n ≡ false
unfolding refused
other-mode size m n m' f l = rw l (drop-middle (ltb size 1) (ltb max_size size) (ltb max_mode m) (ltb max_arena n) (ltb n (min_shard_bytes * shard_count size)) f)
  where
    drop-middle : (a b c d e : Bool) → (a || b || c || d || e) ≡ false → (a || b || false || d || e) ≡ false
    drop-middle true b c d e h = h
    drop-middle false true c d e h = h
    drop-middle false false true d e h = let z : ◌≡◌ {A = Bool} true false = h in cc
    drop-middle false false false d e h = h

-- a mode over 1 is not a new epoch's
mode-lent : (c : RealCall) → max_mode < mode_in c → LentArena c
unfolding mode_in
mode-lent (real.planning m d t e bytes plan send) l = tt
mode-lent (real.resolving m d t e plan replies answer) l = tt
mode-lent (real.push m d bytes) l = tt
mode-lent (real.lookup m d t e k c) l = tt
mode-lent (real.store m d e k c v x) l = tt
mode-lent (real.invalidate m d k) l = tt
mode-lent real.new_epoch l = omega arith

module _ (size mode ttl : ℕ) (s : Bytes) (lent : Counts) {cs : List RealCall} (a : CallIn size mode ttl s lent cs)
    (is : returned size mode ttl s lent a ≡ return_for size (length s) a.call (response size mode ttl s lent a)) where
  -- the clause
  pub never-nine-field : number size mode ttl s lent a ≢ bad_arena
  never-nine-field e = never-nine size (length s) a.call (response size mode ttl s lent a) (ap cause_of (sym is) ∙ e)

  -- the corollary
  pub only-mode-field : (setup_by size mode ttl s).cause ≡ no_cause → Counted lent → (number size mode ttl s lent a ≡ bad_config) ↔ (max_mode < mode_in a.call)
  only-mode-field set-up counted = (
    λ e.
        by_test (ltb max_mode (mode_in a.call)) (λ l. ltb-true max_mode (mode_in a.call) l)
        (λ l.
        absurd
        ((number-other-for size (length s) a.call
        (other-mode size mode (length s) (mode_in a.call) (passes size mode ttl s lent set-up counted) l) (response size mode ttl s lent a)).0
        (ap cause_of (sym is) ∙ e))),
    λ l.
        ap cause_of is
        ∙ number-refused size (length s) a.call (mode-lent a.call l) (mode-bad size (mode_in a.call) (length s) l) (response size mode ttl s lent a),
  )
