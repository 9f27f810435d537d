-- From a call that began with no counts to the call that is lent some: what the first counted is what the second adds. Assumes nothing.
use Rattle.std.proofs.Common.{◌≡◌, ℕ, sym, ap, ◌∙◌, subst}
use Rattle.buffer.specs.Same.{Bytes}
use Rattle.book.specs.Book.{Counts, plus, count}
use Rattle.book.specs.Counted.{Counted}
use Rattle.arena.specs.Held.{Held}
use Rattle.statistics.specs.declared.Statistics.{Statistics}
use Rattle.single_calls.specs.declared.Invalidated.{Invalidated}
use Rattle.single_calls.specs.declared.LookedUp.{LookedUp}
use Rattle.single_calls.specs.Single.{Return}
use Rattle.call_entry.specs.Entered.{holding}
use Rattle.statistics.specs.OfBook.{counts_of}
use Rattle.single_calls.specs.Answers.{LookupLeft, InvalidationLeft}
use Rattle.cache_manager.specs.declared.CachedPipeline.{CachedPipeline}
use Rattle.cache_manager.specs.Pipeline.{Left, Leaves, returned_of}
use Rattle.caching.specs.declared.Added.{Added}
use Rattle.caching.specs.declared.plan_call.RedisCachePlan.{RedisCachePlan}
use Rattle.caching.specs.declared.RedisCacheLookup.{RedisCacheLookup}
use Rattle.caching.specs.Exported.{flag_of, bytes_of, lookup_return, served_bytes}
use Rattle.caching.specs.Added.{none_yet, added_by, AddedLeft, LookupGiven}
use Rattle.caching.specs.Planned.{plan_return, PlanLeft}
use Rattle.caching.proofs.Parts.{cause-of, flag-of, bytes-of}
use Rattle.caching.proofs.More.{count_same, more_held, more_returned, more_left}

module _ (s u : Bytes) (was : Statistics) (w : Counted (counts_of was)) (next : ℕ) where
  -- the counts lent are what is added to none
  lent_is : {X : Type 0} (call : Held → X) → call (holding s (counts_of was) next) ≡ call (more_held (counts_of was) (holding s (plus 0 0 0) next))
  lent_is call = ap (λ (c : Counts). call (holding s c next)) (sym (count_same (counts_of was) w))

  module _ (none : Statistics) (e : none ≡ none_yet) where
    -- an invalidation or a push
    pub added-as : (call : Held → Return) → ((c : Counts) (h : Held) → call (more_held c h) ≡ more_returned c (call h)) → (r : Invalidated)
        → InvalidationLeft (call (holding s (counts_of none) next)) u r → (x : Added) → x ≡ added_by r → AddedLeft (call (holding s (counts_of was) next)) u was x
    unfolding count
    added-as call law r l x a =
        let first = subst (λ (z : Statistics). InvalidationLeft (call (holding s (counts_of z) next)) u r) e l in
        let same : call (holding s (counts_of was) next) ≡ more_returned (counts_of was) (call (holding s (plus 0 0 0) next)) = lent_is call ∙ law
        (counts_of was) _ in
        subst (λ (z : Added). AddedLeft (call (holding s (counts_of was) next)) u was z) (sym a)
        (subst (λ (d : Return). AddedLeft d u was (added_by r)) (sym same)
        (record { cause = first.cause; arena = first.arena; counts = ap (count (counts_of was)) first.counts }))

    -- a planning
    pub planned-as : (d f : Bytes) (call : Held → Left) → ((c : Counts) (h : Held) → call (more_held c h) ≡ more_left c (call h)) → (r : CachedPipeline)
        → Leaves (call (holding s (counts_of none) next)) u d f r → (x : RedisCachePlan) → x ≡ plan_return (returned_of r.answer)
        → PlanLeft (call (holding s (counts_of was) next)) u d f was (record { answer = x; adds = r.counts })
    unfolding count
    planned-as d f call law r l x a =
        let first = subst (λ (z : Statistics). Leaves (call (holding s (counts_of z) next)) u d f r) e l in
        let same : call (holding s (counts_of was) next) ≡ more_left (counts_of was) (call (holding s (plus 0 0 0) next)) = lent_is call ∙ law (counts_of was) _ in
        subst (λ (y : Left). PlanLeft y u d f was (record { answer = x; adds = r.counts })) (sym same)
        (record {
          answer = a ∙ ap plan_return first.returned;
          arena = first.arena;
          counts = ap (count (counts_of was)) first.counts;
          plan = first.plan;
          send = first.send;
        })

    -- a lookup whose answer is returned as x; v is what it serves of the arena u
    pub looked-as : (call : Held → Return) → ((c : Counts) (h : Held) → call (more_held c h) ≡ more_returned c (call h)) → (at : ℕ) (r : LookedUp)
        → LookupLeft (call (holding s (counts_of none) next)) at u r → (x : RedisCacheLookup) → x ≡ lookup_return r.found
        → (v : Bytes) → v ≡ served_bytes u r.found
        → LookupGiven (call (holding s (counts_of was) next)) v u was (record { answer = x; adds = r.counts })
    unfolding count
    looked-as call law at r l x a v b =
        let first = subst (λ (z : Statistics). LookupLeft (call (holding s (counts_of z) next)) at u r) e l in
        let same : call (holding s (counts_of was) next) ≡ more_returned (counts_of was) (call (holding s (plus 0 0 0) next)) =
        lent_is call ∙ law (counts_of was) _ in
        subst (λ (d : Return). LookupGiven d v u was (record { answer = x; adds = r.counts })) (sym same)
        (record {
          cause = ap (λ (z : RedisCacheLookup). z.cause) a ∙ cause-of r.found ∙ first.cause;
          hit = ap (λ (z : RedisCacheLookup). z.hit) a ∙ flag-of u r.found ∙ ap flag_of first.value;
          served = b ∙ bytes-of u r.found ∙ ap bytes_of first.value;
          arena = first.arena;
          counts = ap (count (counts_of was)) first.counts;
        })
