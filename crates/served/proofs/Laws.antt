-- The passes of resolving over no replies find and write what the definitions of Served.antt say. Assumes nothing.
-- (Where a definition changes, a worked case is to say so first: this file cites one.)
use Rattle.std.proofs.Math.Path.{◌≡◌}
use Rattle.std.specs.Prelude.{refl, Bool, true, false, List, [], ◌∷◌, ◌++◌, ℕ, ◌+◌, ◌≤◌, leb, length, Result, Ok, Err, Option as Maybe, Some, None}
use Rattle.std.proofs.Common.{sym, ap, ap₂, ◌∙◌, arith, length-append, leb-true}
use Rattle.std.proofs.Math.Option.{Option, some}
use Rattle.std.proofs.Math.Option as option
use Rattle.buffer.specs.Cases.{by_test}
use Rattle.buffer.specs.Same.{Bytes}
use Rattle.buffer.specs.Part.{part, put}
use Rattle.buffer.specs.PartLaws.{put-put}
use Rattle.config.specs.declared.Cause.{Cause}
use Rattle.config.specs.declared.Cause.TheVariants.{ShortAnswer, BadPlan}
use Rattle.config.specs.declared.CacheMode.{CacheMode}
use Rattle.config.specs.declared.CacheMode.TheVariants.{All, OptIn}
use Rattle.resp3.specs.Value.{Value, Values, array, none, more, encs}
use Rattle.planning.specs.Plan as nodes
use Rattle.plan.specs.Decode.{read_plan, is_plan, decode_plan}
use Rattle.resolving_walk.specs.Commands.{plan_read}
use Rattle.resolving.specs.Plan.{Command, handed_on, cached, cached_array, single, multiple}
use Rattle.resolving.specs.Convert.{replies_of}
use Rattle.resolving.specs.Resolve.{answered, behind, take_commands, resolve}
use Rattle.resolving.specs.Result.{result_bytes}
use Rattle.resolving_walk.specs.Walk.{Walked, walk}
use Rattle.resolving_walk.specs.Same.{walked_of, result_head}
use Rattle.resolving_walk.proofs.WalkLaws.{plan-walk, result-pieces}
use Rattle.resolving_step.specs.declared.Walk.{Walk}
use Rattle.resolving_step.specs.Arms.{empty_stands}
use Rattle.room.specs.Room.{spent, whole}
use Rattle.std.specs.Prelude as room_left
use Rattle.resolving_passes.specs.declared.Dry.{Dry}
use Rattle.resolving_passes.specs.declared.Dry.TheVariants.{Fits, Short, Wrong}
use Rattle.resolving_passes.specs.Passes.{dry_of, Starts, Begins, DryIs, answer_bytes}
use Rattle.caching_cmd.specs.Parts.{start_at}
use Rattle.caching_cmd.specs.Settle.{dry_for, Many}
use Rattle.caching_cmd.proofs.Settle.{dry-says}
use Rattle.caching_cmd.specs.Laws.{PlanRead, plan-read, starts, many-answers}
use Rattle.served.specs.Served.{with_answer, served_answers, served_from, buffer_from, served_of, buffer_of, served_call, served_buffer, ServedIs}
use Rattle.served.specs.Laws.{unreplied, no_list, no_replies, no_cursor, WrittenFrom}

-- ---- commands and replies

-- a served command before the others
served-before : (v : Value) (o : Option Values) → behind v [] (unreplied o) ≡ unreplied (with_answer v o)
served-before v option.none = refl
served-before v (some vs) = refl

-- commands that are given no replies are answered exactly if all are served
pub no-replies : (mode : CacheMode) (clock : ℕ) (cs : List Command) → take_commands mode clock cs none ≡ unreplied (served_answers cs)
unfolding served_answers
no-replies mode clock [] = refl
no-replies mode clock (handed_on ∷ cs) = refl
no-replies mode clock (cached v ∷ cs) = ap (behind v []) (no-replies mode clock cs) ∙ served-before v (served_answers cs)
no-replies mode clock (cached_array vs ∷ cs) = ap (behind (array vs) []) (no-replies mode clock cs) ∙ served-before (array vs) (served_answers cs)
no-replies All clock (single m ∷ cs) = refl
no-replies OptIn clock (single m ∷ cs) = refl
no-replies All clock (multiple ps ∷ cs) = refl
no-replies OptIn clock (multiple ps ∷ cs) = refl

-- commands that are all served take no replies, and store nothing
pub all-served : (mode : CacheMode) (clock : ℕ) (cs : List Command) (rs vs : Values) → served_answers cs ≡ some vs
    → take_commands mode clock cs rs ≡ answered vs []
unfolding served_answers
all-served mode clock [] rs vs e = let q : none ≡ vs = cc in ap (λ (ws : Values). answered ws []) q
all-served mode clock (handed_on ∷ cs) rs vs e = absurd (let z : ◌≡◌ {A = ℕ} 0 1 = cc in omega arith)
all-served mode clock (cached v ∷ cs) rs vs e = go (served_answers cs) refl e (λ ws h. all-served mode clock cs rs ws h)
  where
    go : (o : Option Values) → served_answers cs ≡ o → with_answer v o ≡ some vs
        → ((ws : Values) → served_answers cs ≡ some ws → take_commands mode clock cs rs ≡ answered ws [])
        → behind v [] (take_commands mode clock cs rs) ≡ answered vs []
    go option.none h q f = absurd (let z : ◌≡◌ {A = ℕ} 0 1 = cc in omega arith)
    go (some ws) h q f = let p : more v ws ≡ vs = cc in ap (behind v []) (f ws h) ∙ ap (λ (us : Values). answered us []) p
all-served mode clock (cached_array us ∷ cs) rs vs e = go (served_answers cs) refl e (λ ws h. all-served mode clock cs rs ws h)
  where
    go : (o : Option Values) → served_answers cs ≡ o → with_answer (array us) o ≡ some vs
        → ((ws : Values) → served_answers cs ≡ some ws → take_commands mode clock cs rs ≡ answered ws [])
        → behind (array us) [] (take_commands mode clock cs rs) ≡ answered vs []
    go option.none h q f = absurd (let z : ◌≡◌ {A = ℕ} 0 1 = cc in omega arith)
    go (some ws) h q f = let p : more (array us) ws ≡ vs = cc in ap (behind (array us) []) (f ws h) ∙ ap (λ (us : Values). answered us []) p
all-served mode clock (single m ∷ cs) rs vs e = absurd (let z : ◌≡◌ {A = ℕ} 0 1 = cc in omega arith)
all-served mode clock (multiple ps ∷ cs) rs vs e = absurd (let z : ◌≡◌ {A = ℕ} 0 1 = cc in omega arith)

pub list-none : (transaction : Bool) → replies_of transaction (no_list transaction) ≡ some none
list-none true = refl
list-none false = refl

-- ---- what the dry pass finds

-- an answer and a buffer, by the answers of the commands
abbrev Comes : Bool → Option Values → Bytes → Bytes → Result (Maybe ℕ) Cause → Type 0
Comes transaction o buffer after r = (r ≡ served_from transaction o (length buffer)) × (after ≡ buffer_from transaction o buffer)

module _ (transaction : Bool) (o : Option Values) (buffer : Bytes) where
  -- a wrong shape: replies are needed
  wrong-says : Wrong ≡ dry_for transaction (unreplied o) (length buffer) → Comes transaction o buffer buffer (Ok None)
  unfolding dry_for served_from buffer_from
  wrong-says e = go o e
    where
      go : (o : Option Values) → Wrong ≡ dry_for transaction (unreplied o) (length buffer) → Comes transaction o buffer buffer (Ok None)
      go option.none h = (refl, refl)
      go (some vs) h =
          by_test (leb (length (result_bytes transaction vs)) (length buffer))
          (λ t. absurd (let k : Wrong ≡ Fits = rw t at h in let z : ◌≡◌ {A = ℕ} 0 1 = cc in omega arith))
          (λ t. absurd (let k : Wrong ≡ Short = rw t at h in let z : ◌≡◌ {A = ℕ} 0 1 = cc in omega arith))

  -- a short buffer
  short-says : Short ≡ dry_for transaction (unreplied o) (length buffer) → Comes transaction o buffer buffer (Err ShortAnswer)
  unfolding dry_for served_from buffer_from
  short-says e = go o e
    where
      go : (o : Option Values) → Short ≡ dry_for transaction (unreplied o) (length buffer) → Comes transaction o buffer buffer (Err ShortAnswer)
      go option.none h = absurd (let z : ◌≡◌ {A = ℕ} 0 1 = cc in omega arith)
      go (some vs) h =
          by_test (leb (length (result_bytes transaction vs)) (length buffer))
          (λ t. absurd (let k : Short ≡ Fits = rw t at h in let z : ◌≡◌ {A = ℕ} 0 1 = cc in omega arith))
          (λ t. rw t (refl, refl))

  -- room for all: the head and then the answers are the result
  fits-says : (k : ℕ) → Many (unreplied o) k → Fits ≡ dry_for transaction (unreplied o) (length buffer) → (r : ℕ) (after : Bytes)
      → (r ≡ length (result_head transaction k) + length (answer_bytes (walked_of (unreplied o))))
      × (after ≡ put (put buffer 0 (result_head transaction k)) (length (result_head transaction k)) (answer_bytes (walked_of (unreplied o))))
      → Comes transaction o buffer after (Ok (Some r))
  unfolding dry_for served_from buffer_from
  fits-says k m e r after w = go o m e w
    where
      H : Bytes
      H = result_head transaction k

      go : (o : Option Values) → Many (unreplied o) k → Fits ≡ dry_for transaction (unreplied o) (length buffer)
          → (r ≡ length H + length (answer_bytes (walked_of (unreplied o)))) × (after ≡ put (put buffer 0 H) (length H) (answer_bytes (walked_of (unreplied o))))
          → Comes transaction o buffer after (Ok (Some r))
      go option.none m h w = absurd (let z : ◌≡◌ {A = ℕ} 0 1 = cc in omega arith)
      go (some vs) m h w =
          by_test (leb (length (result_bytes transaction vs)) (length buffer))
          (λ t.
          let b : result_bytes transaction vs ≡ H ++ encs vs [] = result-pieces transaction vs ∙ ap (λ (i : ℕ). result_head transaction i ++ encs vs []) m in
          let n : length (result_bytes transaction vs) ≡ length H + length (encs vs []) = ap length b ∙ length-append H (encs vs []) in
          let i = leb-true (length (result_bytes transaction vs)) (length buffer) t in
          rw t (
            ap (λ (i : ℕ). Ok (Some i)) (w.0 ∙ sym n),
            w.1 ∙ put-put buffer H (encs vs []) 0 (length H) (omega arith) (omega arith) ∙ ap (put buffer 0) (sym b),
          ))
          (λ t. absurd (let k : Fits ≡ Short = rw t at h in let z : ◌≡◌ {A = ℕ} 0 1 = cc in omega arith))

-- bytes that are no plan
pub not-one : (plan buffer : Bytes) → is_plan plan ≡ false → ServedIs plan buffer buffer (Err BadPlan)
unfolding served_of buffer_of decode_plan
not-one plan buffer e = rw e (refl, refl)

-- ---- the passes

-- a head and the answers of a walk, written over a buffer
abbrev written : Bytes → Bytes → Walked → Bytes
written buffer head w = put (put buffer 0 head) (length head) (answer_bytes w)

no-small : (plan : Bytes) → length (no_replies plan) ≤ 16777216
unfolding part
no-small plan = omega arith

module _ (plan list : Bytes) (ok : is_plan plan ≡ true) (l : list ≡ no_replies plan) (c : Walk) (at : c ≡ start_at no_cursor) where
  abbrev p : nodes.Plan
  p = read_plan plan

  abbrev answers : Option Values
  answers = served_answers (plan_read p).commands

  read : PlanRead plan
  read = plan-read plan ok

  -- the passes start at the plan's first node, with no replies
  pub here : Starts plan list c p.nodes none none
  here = rw (l, at) (starts plan (no_replies plan) no_cursor none read (empty_stands plan) (no-small plan))

  pub begins-here : Begins plan list c
  begins-here = record { ns = p.nodes; es = none; rs = none; starts = here }

  becomes : resolve (plan_read p) All 0 (no_list p.transaction) ≡ unreplied answers
  unfolding resolve plan_read
  becomes = rw (list-none p.transaction) (no-replies All 0 (plan_read p).commands)

  walked : walk All 0 p.nodes none none ≡ walked_of (unreplied answers)
  walked = plan-walk p read.good All 0 (no_list p.transaction) none (list-none p.transaction) ∙ ap walked_of becomes

  many : Many (unreplied answers) p.commands
  many = rw (← becomes) (many-answers plan read All 0 (no_list p.transaction))

  decoded : decode_plan plan ≡ some p
  unfolding decode_plan
  decoded = rw ok

  module _ (buffer : Bytes) where
    -- what comes out, by the answers
    call-is : served_call plan (length buffer) ≡ served_from p.transaction answers (length buffer)
    unfolding served_of
    call-is = rw decoded

    buffer-is : served_buffer plan buffer ≡ buffer_from p.transaction answers buffer
    unfolding buffer_of
    buffer-is = rw decoded

    module _ (transaction : Bool) (k : ℕ) (room : room_left.Option ℕ) (d : Dry) (a : transaction ≡ p.transaction) (b : k ≡ p.commands)
        (q : room ≡ spent (whole (length buffer)) (length (result_head transaction k))) (f : DryIs plan list c All 0 room d) where
      dry-is : d ≡ dry_for p.transaction (unreplied answers) (length buffer)
      dry-is =
          f p.nodes none none here
          ∙ ap₂ dry_of (q ∙ ap₂ (λ (t : Bool) (i : ℕ). spent (whole (length buffer)) (length (result_head t i))) a b) walked
          ∙ dry-says p.transaction (unreplied answers) (length buffer) p.commands many

      -- some command needs replies
      pub needs-them : d ≡ Wrong → ServedIs plan buffer buffer (Ok None)
      needs-them w = rw (call-is, buffer-is) (wrong-says p.transaction answers buffer (sym w ∙ dry-is))

      -- the buffer is short
      pub is-short : d ≡ Short → ServedIs plan buffer buffer (Err ShortAnswer)
      is-short w = rw (call-is, buffer-is) (short-says p.transaction answers buffer (sym w ∙ dry-is))

      -- the result is written
      pub is-written : d ≡ Fits → (r : ℕ) (after : Bytes) → WrittenFrom plan list c transaction k buffer after r → ServedIs plan buffer after (Ok (Some r))
      is-written w r after h =
          let z = h p.nodes none none here in
          rw (call-is, buffer-is)
          (fits-says p.transaction answers buffer p.commands many (sym w ∙ dry-is) r after (
            z.0 ∙ ap₂ (λ (t : Bool) (i : ℕ). length (result_head t i) + length (answer_bytes (walk All 0 p.nodes none none))) a b
                ∙ ap (λ (u : Walked). length (result_head p.transaction p.commands) + length (answer_bytes u)) walked,
            z.1 ∙ ap₂ (λ (t : Bool) (i : ℕ). written buffer (result_head t i) (walk All 0 p.nodes none none)) a b
                ∙ ap (λ (u : Walked). written buffer (result_head p.transaction p.commands) u) walked,
          ))
