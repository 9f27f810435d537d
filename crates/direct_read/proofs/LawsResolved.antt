-- A resolving that refuses nothing: the bytes that it answers are those of the answers that its plan and replies give. Assumes nothing.
use Rattle.std.proofs.Math.Path.{◌≡◌, refl}
use Rattle.std.proofs.Common.{◌∙◌, arith}
use Rattle.std.specs.Prelude.{ℕ, List, Bool, leb, length}
use Rattle.std.proofs.Math.Option.{some}
use Rattle.std.proofs.Math.ListN.{take}
use Rattle.buffer.specs.Cases.{by_test}
use Rattle.buffer.specs.Same.{Bytes}
use Rattle.config.specs.Config.{mode_of, checked}
use Rattle.config.specs.declared.Settings.{Settings}
use Rattle.resp3.specs.Ends.{is_value}
use Rattle.resp3.specs.Decode as resp
use Rattle.resp3.proofs.Law.{decode-law}
use Rattle.resp3.specs.Value.{Value, Values, Means, encode}
use Rattle.book.specs.Book.{Row}
use Rattle.book.specs.Calls.{Storing}
use Rattle.arena.specs.Held.{Held}
use Rattle.sharded_lru.specs.Lent.{setup_now}
use Rattle.planning.specs.Plan.{Plan}
use Rattle.plan.specs.Decode.{decode_plan}
use Rattle.resolving_walk.specs.Commands.{plan_read}
use Rattle.resolving.specs.Resolve.{Resolved, answered, resolve}
use Rattle.resolving.specs.Result.{result_of, result_bytes}
use Rattle.call_entry.specs.Entered.{no_cause}
use Rattle.call_entry.specs.Laws.{each-entry}
use Rattle.caching_cmd.specs.Call.{ResolveReturn, refused_as, answer_of, buffer_after, resolved_on, planned, resolve_call}
use Rattle.direct_read.proofs.LawsPlanned.{mode-kept, front-put}

-- where it answers, the front of the buffer holds the result
module _ (mode clock epoch : ℕ) (buffer : Bytes) (h : Held) (vs : Values) (ss : List Storing) where
  on-rows : (b : Bool) (g : Settings) (rows : ℕ → Row) (v : Resolved) → v ≡ answered vs ss
      → (resolved_on (setup_now g) rows b epoch v buffer h).cause ≡ no_cause
      → take (resolved_on (setup_now g) rows b epoch v buffer h).written (resolved_on (setup_now g) rows b epoch v buffer h).buffer ≡ encode (result_of b vs)
  unfolding resolved_on answer_of buffer_after
  on-rows b g rows v q w =
      by_test (leb (length (result_bytes b vs)) (length buffer))
      (λ l. rw (q, l) (front-put buffer (result_bytes b vs) (length (result_bytes b vs)) refl ∙ (unfold result_bytes in refl)))
      (λ l. absurd (let z : ◌≡◌ {A = ℕ} 8 0 = rw (q, l) at w in omega arith))

  -- of a plan that is one, with replies that are a value
  module _ (replies : Bytes) (p : Plan) (v : Value) (means : Means replies v) (gives : resolve (plan_read p) (mode_of mode) clock v ≡ answered vs ss) where
    of-plan : (g : Settings) (rows : ℕ → Row) → g.mode ≡ mode_of mode → (planned g rows (some p) replies clock epoch buffer h).cause ≡ no_cause
        → take (planned g rows (some p) replies clock epoch buffer h).written (planned g rows (some p) replies clock epoch buffer h).buffer
        ≡ encode (result_of p.transaction vs)
    unfolding planned
    of-plan g rows kept w =
        by_test (is_value replies)
        (λ l.
        let q : resolve (plan_read p) g.mode clock (resp.decode replies) ≡ answered vs ss = rw (kept, decode-law replies v means) gives in
        rw l (on-rows p.transaction g rows (resolve (plan_read p) g.mode clock (resp.decode replies)) q (rw l at w)))
        (λ l. absurd (let z : ◌≡◌ {A = ℕ} 6 0 = rw l at w in omega arith))

    -- the call
    pub resolving-answers : (size ttl : ℕ) (plan : Bytes) → decode_plan plan ≡ some p
        → (resolve_call size mode ttl plan replies clock epoch buffer h).cause ≡ no_cause
        → take (resolve_call size mode ttl plan replies clock epoch buffer h).written (resolve_call size mode ttl plan replies clock epoch buffer h).buffer
        ≡ encode (result_of p.transaction vs)
    unfolding resolve_call
    resolving-answers size ttl plan is =
        rw is
        (each-entry (λ n. refused_as n buffer h) (λ g rows. planned g rows (some p) replies clock epoch buffer h)
        (λ (y : ResolveReturn). y.cause ≡ no_cause → take y.written y.buffer ≡ encode (result_of p.transaction vs))
        (checked size mode ttl (length h.arena)) h.arena
        (λ w. absurd (let z : ◌≡◌ {A = ℕ} 1 0 = w in omega arith)) (λ w. absurd (let z : ◌≡◌ {A = ℕ} 9 0 = w in omega arith))
        (λ g rows fine image w. of-plan g rows (mode-kept size mode ttl (length h.arena) g fine) w))
