-- The passes over the list of replies, put together: what they find and do is what becomes of the plan. Assumes nothing.
use Rattle.std.specs.Prelude.{◌≡◌, refl, Option, Bool, true, false, not, [], ℕ, ◌≤◌, length}
use Rattle.std.proofs.Common.{sym, ap, ap₂, subst, ◌∙◌, arith}
use Rattle.std.proofs.Math.Option.{some}
use Rattle.buffer.specs.Same.{Bytes}
use Rattle.config.specs.Causes.{short_answer}
use Rattle.config.specs.Limits.{max_bytes}
use Rattle.config.specs.declared.CacheMode.{CacheMode}
use Rattle.config.specs.declared.Settings.{Settings}
use Rattle.resp3.specs.Value.{Value, Values, none}
use Rattle.resp3_element.specs.declared.Cursor.{Cursor}
use Rattle.resp3_element.specs.Meaning.{Stands}
use Rattle.plan.specs.Decode.{read_plan, is_plan}
use Rattle.resolving_walk.specs.Commands.{plan_read}
use Rattle.resolving.specs.Convert.{replies_of}
use Rattle.resolving.specs.Resolve.{Resolved, cause7, resolve}
use Rattle.resolving_walk.specs.Walk.{walk}
use Rattle.resolving_walk.specs.Same.{walked_of, result_head}
use Rattle.resolving_walk.proofs.WalkLaws.{plan-walk, no-list}
use Rattle.resolving_step.specs.declared.Walk.{Walk}
use Rattle.room.specs.Room.{spent, whole}
use Rattle.resolving_passes.specs.declared.Dry.{Dry}
use Rattle.resolving_passes.specs.declared.Dry.TheVariants.{Fits, Short, Wrong}
use Rattle.resolving_passes.specs.Passes.{dry_of, Starts, Begins, DryIs, Fine}
use Rattle.resolving_store.specs.Stores.{StorePass}
use Rattle.config.specs.declared.Cause.{Cause}
use Rattle.config.specs.declared.Cause.TheVariants.{ShortAnswer}
use Rattle.caching_cmd.specs.declared.Answered.{Answered}
use Rattle.std.specs.Prelude.{Result, Err, None}
use Rattle.caching_cmd.specs.Parts.{FoundIs, start_at, Listed, StoredIf, StoredFor, ShapeRefused, AllWritten, Judged}
use Rattle.caching_cmd.specs.Settle.{dry_for}
use Rattle.caching_cmd.proofs.Settle.{dry-says, fine-dry, fine-head, settle-wrong, settle-short, settle-fits}
use Rattle.caching_cmd.specs.Laws.{PlanRead, plan-read, starts, many-answers, goes-not}

-- the passes begin
pub begins : (plan list : Bytes) (first : Cursor) (c : Walk) → c ≡ start_at first → is_plan plan ≡ true → Listed list first → Begins plan list c
begins plan list first c e ok l =
    record {
      ns = (read_plan plan).nodes;
      es = none;
      rs = l.rs;
      starts = rw e (starts plan list first l.rs (plan-read plan ok) l.stands l.small);
    }

-- what is left of the buffer behind the head
pub room-left : (n h k : ℕ) (room : Option ℕ) → room ≡ spent (whole n) h → h ≡ k → room ≡ spent (whole n) k
room-left n h k room e q = e ∙ ap (spent (whole n)) q

-- where all fits, the answer pass has room
pub fine-all : (plan list : Bytes) (c : Walk) (mode : CacheMode) (clock n h : ℕ) (room : Option ℕ) (d : Dry) → room ≡ spent (whole n) h
    → DryIs plan list c mode clock room d → d ≡ Fits
    → Fine plan list c mode clock h n
fine-all plan list c mode clock n h room d e f q ns es rs t =
    fine-dry n h (walk mode clock ns es rs) (sym q ∙ f ns es rs t ∙ ap (λ (r : Option ℕ). dry_of r (walk mode clock ns es rs)) e)

-- and so has the head
pub head-fits : (plan list : Bytes) (c : Walk) (mode : CacheMode) (clock n h : ℕ) → Begins plan list c → Fine plan list c mode clock h n → h ≤ n
head-fits plan list c mode clock n h b f = fine-head n h (walk mode clock b.ns b.es b.rs) (f b.ns b.es b.rs b.starts)

-- the same of numbers that are equal
pub fine-same : (plan list : Bytes) (c : Walk) (mode : CacheMode) (clock h n i m : ℕ) → i ≡ h → m ≡ n → Fine plan list c mode clock h n
    → Fine plan list c mode clock i m
fine-same plan list c mode clock h n i m a b f = rw (a, b) f

-- what is not to be kept is not stored; what is, is
pub stored-not : (g : Settings) (epoch : ℕ) (plan list : Bytes) (c : Walk) (clock : ℕ) (kept : Bool) (s : Bytes) → not kept ≡ true
    → StoredIf g epoch plan list c clock kept s s 0
stored-not g epoch plan list c clock true s e = absurd (let z : ◌≡◌ {A = ℕ} 0 1 = cc in omega arith)
stored-not g epoch plan list c clock false s e = (refl, refl)

pub stored-all : (g : Settings) (epoch : ℕ) (plan list : Bytes) (c : Walk) (clock : ℕ) (kept : Bool) (old new : Bytes) (n : ℕ) → not kept ≡ false
    → StorePass g epoch plan list c g.mode clock old new n → StoredIf g epoch plan list c clock kept old new n
stored-all g epoch plan list c clock true old new n e h = h
stored-all g epoch plan list c clock false old new n e h = absurd (let z : ◌≡◌ {A = ℕ} 0 1 = cc in omega arith)

-- what was stored, said of what the dry pass found by either of two equal names
pub stored_same : (g : Settings) (epoch : ℕ) (plan list : Bytes) (c : Walk) (clock : ℕ) (old new : Bytes) (n : ℕ) (d x : Dry) → d ≡ x
    → StoredFor g epoch plan list c clock x old new n → StoredFor g epoch plan list c clock d old new n
stored_same g epoch plan list c clock old new n d x e h = subst (λ (y : Dry). StoredFor g epoch plan list c clock y old new n) (sym e) h

module _ (g : Settings) (epoch : ℕ) (plan list : Bytes) (first : Cursor) (c : Walk) (clock : ℕ) (buffer : Bytes) (ok : is_plan plan ≡ true)
    (at : c ≡ start_at first)
    (small : length list ≤ max_bytes) (v : Value) (rs : Values) (e : replies_of (read_plan plan).transaction v ≡ some rs) (t : Stands list first rs) where
  -- what becomes of the plan
  abbrev pub result : Resolved
  result = resolve (plan_read (read_plan plan)) g.mode clock v

  read : PlanRead plan
  read = plan-read plan ok

  here : Starts plan list c (read_plan plan).nodes none rs
  here = rw at (starts plan list first rs read t small)

  same : walk g.mode clock (read_plan plan).nodes none rs ≡ walked_of result
  same = plan-walk (read_plan plan) read.good g.mode clock v rs e

  module _ (transaction : Bool) (k : ℕ) (room : Option ℕ) (d : Dry) (a : transaction ≡ (read_plan plan).transaction) (b : k ≡ (read_plan plan).commands)
      (q : room ≡ spent (whole (length buffer)) (length (result_head transaction k))) (f : DryIs plan list c g.mode clock room d) where
    -- what the dry pass found of it
    dry-is : d ≡ dry_for (read_plan plan).transaction result (length buffer)
    dry-is =
        f (read_plan plan).nodes none rs here
        ∙ ap₂ dry_of (q ∙ ap₂ (λ (t : Bool) (i : ℕ). spent (whole (length buffer)) (length (result_head t i))) a b) same
        ∙ dry-says (read_plan plan).transaction result (length buffer) (read_plan plan).commands (many-answers plan read g.mode clock v)

    module _ (old new : Bytes) (n : ℕ) (h : StoredFor g epoch plan list c clock d old new n) where
      -- what was stored, by what the dry pass found
      stored-as : (x : Dry) → d ≡ x → StoredFor g epoch plan list c clock x old new n
      stored-as x w = stored_same g epoch plan list c clock old new n x d (sym w) h

      pub list-wrong : (after : Bytes) (r : Result Answered Cause) → d ≡ Wrong → ShapeRefused buffer after r
          → Judged g (read_plan plan).transaction epoch result old new buffer after r
      list-wrong after r w u =
          rw u.0
          (settle-wrong g (read_plan plan).transaction epoch old buffer result (walk g.mode clock (read_plan plan).nodes none rs) new after n same
          (sym w ∙ dry-is) (stored-as Wrong w (read_plan plan).nodes none rs here) u.1)

      pub list-short : d ≡ Short → Judged g (read_plan plan).transaction epoch result old new buffer buffer (Err ShortAnswer)
      list-short w =
          rw (stored-as Short w).0 (settle-short g (read_plan plan).transaction epoch old buffer result (sym w ∙ dry-is))

      pub list-fits : (after : Bytes) (r : Result Answered Cause) → d ≡ Fits → AllWritten g plan list c clock transaction k n buffer after r
          → Judged g (read_plan plan).transaction epoch result old new buffer after r
      list-fits after r w u =
          let i : AllWritten g plan list c clock (read_plan plan).transaction k n buffer after r =
          subst (λ (t : Bool). AllWritten g plan list c clock t k n buffer after r) a u in
          let j : AllWritten g plan list c clock (read_plan plan).transaction (read_plan plan).commands n buffer after r =
          subst (λ (m : ℕ). AllWritten g plan list c clock (read_plan plan).transaction m n buffer after r) b i in
          let z = j (read_plan plan).nodes none rs here in
          rw z.0
          (settle-fits g (read_plan plan).transaction epoch old buffer result (walk g.mode clock (read_plan plan).nodes none rs)
          (read_plan plan).commands new after n
          (many-answers plan read g.mode clock v) same (sym w ∙ dry-is) (stored-as Fits w (read_plan plan).nodes none rs here) z.1)

-- where no list is found
pub none_found : (plan replies : Bytes) (mode : CacheMode) (clock : ℕ) (v : Value) → FoundIs replies None (replies_of (read_plan plan).transaction v)
    → resolve (plan_read (read_plan plan)) mode clock v ≡ cause7 []
unfolding plan_read
none_found plan replies mode clock v h = no-list (plan_read (read_plan plan)) mode clock v (goes-not replies (replies_of (read_plan plan).transaction v) h)
