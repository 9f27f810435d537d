-- What a resolving tells the book may be stored: so demand 3's sequences may have resolvings in them. That it leaves what the book's call leaves is shown
-- there (demand/proofs/ResolveBridge.antt). Assumes nothing.
use Rattle.std.specs.Prelude.{◌≡◌, refl, Bool, true, List, [], ◌∷◌, ℕ, ◌≤◌, ◌<◌, ◌^◌, leb, length}
use Rattle.std.proofs.Common.{subst, le-leb}
use Rattle.std.proofs.Math.Option.{Option, none, some}
use Rattle.buffer.specs.Same.{Bytes}
use Rattle.buffer.specs.Cases.{by_test}
use Rattle.config.specs.Limits.{max_bytes}
use Rattle.config.specs.declared.CacheMode.{CacheMode}
use Rattle.resp3.specs.Ends.{is_value}
use Rattle.resp3.specs.Decode as resp
use Rattle.resp3.proofs.Law.{value-law, decode-law}
use Rattle.book.specs.Calls.{Storing, refused, stores, ons, events_of, call-defs}
use Rattle.book.proofs.Storable.{StorableEvents}
use Rattle.arena.specs.Decode.{may_store}
use Rattle.arena.proofs.Tests.{yes-every}
use Rattle.planning.specs.Plan as nodes
use Rattle.plan.specs.Decode.{decode_plan}
use Rattle.plan.proofs.Law as plan_laws
use Rattle.resolving_walk.specs.Commands.{plan_read}
use Rattle.resolving_walk.proofs.NodesLaws.{plan-within}
use Rattle.resolving.specs.Resolve.{Resolved, cause7, answered, resolve}
use Rattle.resolving.specs.Result.{result_bytes}
use Rattle.resolving.specs.Kept.{Sent, AllStorable, Kept}
use Rattle.resolving.proofs.KeptLaws.{resolved-kept}
use Rattle.caching_cmd.specs.Call.{fits, told_to}
use Rattle.caching_cmd.specs.Told.{told_by}

-- ---- what is stored may be stored

-- stores within the limits are events that may be
events-storable : (epoch : ℕ) (ss : List Storing) → epoch < 2 ^ 64 → AllStorable ss → StorableEvents (may_store is_value) (ons (stores epoch ss))
unfolding ons stores may_store
events-storable epoch [] l h = tt
events-storable epoch (t ∷ ss) l h = (
  (yes-every _ (le-leb _ _ h.0.key, (le-leb _ _ h.0.command, ((value-law t.value).1 h.0.value, tt))), h.0.expiry, l),
  events-storable epoch ss l h.1,
)

-- replies that are a value are within the limits
replies-sent : (replies : Bytes) → is_value replies ≡ true → Sent (resp.decode replies)
replies-sent replies e =
    let w = (value-law replies).0 e in
    rw (decode-law replies w.v w.means)
    (record { ok = w.means.ok; deep = w.means.deep; small = subst (λ (s : Bytes). length s ≤ max_bytes) w.means.is w.small })

resolved-storable : (transaction : Bool) (epoch room : ℕ) (v : Resolved) → epoch < 2 ^ 64 → Kept transaction v
    → StorableEvents (may_store is_value) (events_of (told_to transaction epoch v room))
unfolding told_to fits call-defs
resolved-storable transaction epoch room (cause7 ss) l h = events-storable epoch ss l h
resolved-storable transaction epoch room (answered vs ss) l h =
    by_test (leb (length (result_bytes transaction vs)) room) (λ t. rw t (events-storable epoch ss l h.1)) (λ t. rw t tt)

-- the stores of a resolving, whatever its plan and replies
pub told-storable : (mode : CacheMode) (plan replies : Bytes) (clock epoch room : ℕ) → epoch < 2 ^ 64
    → StorableEvents (may_store is_value) (events_of (told_by mode (decode_plan plan) replies clock epoch room))
unfolding told_by plan_read
told-storable mode plan replies clock epoch room l = go (decode_plan plan) refl
  where
    nothing : StorableEvents (may_store is_value) (events_of refused)
    nothing = unfold call-defs in tt

    go : (o : Option nodes.Plan) → decode_plan plan ≡ o → StorableEvents (may_store is_value) (events_of (told_by mode o replies clock epoch room))
    go none e = nothing
    go (some p) e =
        by_test (is_value replies)
        (λ t. rw t (resolved-storable p.transaction epoch room (resolve (plan_read p) mode clock (resp.decode replies)) l
        (resolved-kept (plan_read p) mode clock (resp.decode replies) (plan-within p ((plan_laws.decode-law plan p).0 e).0) (replies-sent replies t))))
        (λ t. rw t nothing)
