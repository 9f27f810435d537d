-- Laws of specs/Tally.antt. Rule B11 for hits and misses: after a sequence of calls the two counts are those at its start and the hits and misses that the calls
-- answered, wrapping. Assumes of the counts at the start that they are of 64 bits.
use Rattle.std.specs.Prelude.{◌≡◌, ℕ, ◌+◌, ◌^◌, Bool, true, false}
use Rattle.std.proofs.Math.Path.{refl, sym, ap}
use Rattle.std.proofs.Common.{ap₂, ◌∙◌, mod-eq_of_lt}
use Rattle.std.proofs.Math.Nat.{mod-add-mod}
use native.Mathlib.Omega.{arith}
use Rattle.std.proofs.Math.Option.{Option, none, some}
use mathlib.Core.List.{List, [], ◌∷◌}
use Rattle.buffer.specs.Cases.{by_test}
use Rattle.buffer.specs.Same.{Bytes}
use Rattle.config.specs.Wrap.{wrap}
use Rattle.book.specs.Book.{Item, Row, Setup, Book, Counts, plus, Answer, hit, miss, stored, no_space, invalidated, number, Keyed, lookup}
use Rattle.book.specs.Book.{store, invalidate, Event, on, invalidate_all, new_epoch, find, without, value_for, current, serve, lookup_item, if_fits}
use Rattle.book.specs.Book.{key_of, effect_on, effect, count, put, after, answer_to, after_all, answers}
use Rattle.book.specs.Calls.{Storing, Call, planning, resolving, resolving7, push, push_all, single, take_epoch, refused, stores, ons, events_of}
use Rattle.book.specs.Calls.{is_refused, remaining, happening, after_call, reply_to, after_calls, replies}
use Rattle.book.proofs.Counts.{fit-adds}
use Rattle.book.specs.Counted.{Counted}
use Rattle.book.specs.Tally.{hits_in, misses_in, tally, tally_all, tally_reply}

-- a count `f` that answers add `g` to, and invalidations and epochs nothing
record Goes (f : Counts → ℕ) (g : Answer → ℕ) : Type 0 where
  adds : (was more : Counts) → f (count was more) ≡ wrap (f was + f more)
  apart : (n : ℕ) → f (plus 0 0 n) ≡ 0
  each : (p : Setup) (q : Keyed) (row : Row) → f (effect_on p q row).adds ≡ g (effect_on p q row).answer
  all : g invalidated ≡ 0
  epoch : (n : ℕ) → g (number n) ≡ 0

module _ (p : Setup) (f : Counts → ℕ) (g : Answer → ℕ) (w : Goes f g) where
  -- a sum that wraps twice
  wrap-more : (n a b m : ℕ) → m ≡ wrap n → a ≡ b → wrap (m + a) ≡ wrap (n + b)
  wrap-more n a b m q e = ap₂ (λ (y z : ℕ). wrap (y + z)) q e ∙ mod-add-mod n (2 ^ 64) b

  -- one event adds its answer's
  event-adds : (ev : Event) (bk : Book) (n : ℕ) → f bk.counts ≡ wrap n → f (after p ev bk).counts ≡ wrap (n + g (answer_to p ev bk))
  unfolding after put effect answer_to
  event-adds (on q) bk n e =
      w.adds bk.counts (effect_on p q (bk.rows (p.shard_of (key_of q)))).adds
      ∙ wrap-more n _ _ (f bk.counts) e (w.each p q (bk.rows (p.shard_of (key_of q))))
  event-adds invalidate_all bk n e = w.adds bk.counts _ ∙ wrap-more n _ _ (f bk.counts) e (w.apart _ ∙ sym w.all)
  event-adds new_epoch bk n e = e ∙ ap wrap (let z = w.epoch bk.next in omega arith)

  -- some events add their answers'
  events-add : (evs : List Event) (bk : Book) (n : ℕ) → f bk.counts ≡ wrap n
      → f (after_all p evs bk).counts ≡ wrap (n + tally g (answers p evs bk))
  unfolding after_all answers tally
  events-add [] bk n e = e ∙ ap wrap (omega arith)
  events-add (ev ∷ evs) bk n e =
      events-add evs (after p ev bk) (n + g (answer_to p ev bk)) (event-adds ev bk n e) ∙ ap wrap (omega arith)

  -- a store adds nothing
  store-adds : (k c v : Bytes) (x e : ℕ) (bk : Book) → g (answer_to p (on (store k c v x e)) bk) ≡ 0
  unfolding answer_to effect effect_on
  store-adds k c v x e bk = sym (w.each p (store k c v x e) (bk.rows (p.shard_of (key_of (store k c v x e))))) ∙ ap f (fit-adds _ _ _) ∙ w.apart 0

  -- nor do some stores
  stores-add : (e : ℕ) (ws : List Storing) (bk : Book) → tally g (answers p (ons (stores e ws)) bk) ≡ 0
  unfolding answers ons stores tally
  stores-add e [] bk = refl
  stores-add e (s ∷ ws) bk =
      let a = store-adds s.wanted.key s.wanted.command s.value s.expiry e bk in
      let b = stores-add e ws (after p (on (store s.wanted.key s.wanted.command s.value s.expiry e)) bk) in omega arith

  -- so what remains of a refused call adds nothing
  remaining-adds : (c : Call) (bk : Book) → tally g (answers p (remaining c) bk) ≡ 0
  unfolding remaining answers tally
  remaining-adds (planning t e ws short) bk = refl
  remaining-adds (resolving e ws) bk = refl
  remaining-adds (resolving7 e ws) bk = stores-add e ws bk
  remaining-adds (push ks) bk = refl
  remaining-adds push_all bk = refl
  remaining-adds (single q) bk = refl
  remaining-adds take_epoch bk = refl
  remaining-adds refused bk = refl

  -- a call adds what it answers
  call-adds : (c : Call) (bk : Book) (n : ℕ) → f bk.counts ≡ wrap n → f (after_call p c bk).counts ≡ wrap (n + tally_reply g (reply_to p c bk))
  unfolding after_call happening reply_to tally_reply
  call-adds c bk n e =
      by_test (is_refused c (answers p (events_of c) bk))
      (λ b. rw b (events-add (remaining c) bk n e ∙ ap (λ (z : ℕ). wrap (n + z)) (remaining-adds c bk)))
      (λ b. rw b (events-add (events_of c) bk n e))

  -- and so does a sequence
  calls-add : (cs : List Call) (bk : Book) (n : ℕ) → f bk.counts ≡ wrap n
      → f (after_calls p cs bk).counts ≡ wrap (n + tally_all g (replies p cs bk))
  unfolding after_calls replies tally_all
  calls-add [] bk n e = e ∙ ap wrap (omega arith)
  calls-add (c ∷ cs) bk n e =
      calls-add cs (after_call p c bk) (n + tally_reply g (reply_to p c bk)) (call-adds c bk n e) ∙ ap wrap (omega arith)

-- ---- hits and misses

-- what is served is a hit, all else a miss: both counts go by the answers
lookup-adds : (o : Option Item) (k c : Bytes) (t e : ℕ) (row : Row)
    → ((lookup_item o k c t e row).adds.hits ≡ hits_in (lookup_item o k c t e row).answer)
    × ((lookup_item o k c t e row).adds.misses ≡ misses_in (lookup_item o k c t e row).answer)
unfolding lookup_item serve hits_in misses_in
lookup-adds none k c t e row = (refl, refl)
lookup-adds (some it) k c t e row =
    by_test (current t e it) (λ l. rw l (at (value_for c it.entries))) (λ l. rw l (refl, refl))
  where
    at : (o : Option Bytes)
        → ((serve o (it ∷ without k row)).adds.hits ≡ hits_in (serve o (it ∷ without k row)).answer)
        × ((serve o (it ∷ without k row)).adds.misses ≡ misses_in (serve o (it ∷ without k row)).answer)
    at none = (refl, refl)
    at (some v) = (refl, refl)

fit-tallies : (b : Bool) (new old : Row)
    → ((if_fits b new old).adds.hits ≡ hits_in (if_fits b new old).answer) × ((if_fits b new old).adds.misses ≡ misses_in (if_fits b new old).answer)
unfolding if_fits hits_in misses_in
fit-tallies true new old = (refl, refl)
fit-tallies false new old = (refl, refl)

effect-tallies : (p : Setup) (q : Keyed) (row : Row)
    → ((effect_on p q row).adds.hits ≡ hits_in (effect_on p q row).answer) × ((effect_on p q row).adds.misses ≡ misses_in (effect_on p q row).answer)
unfolding effect_on hits_in misses_in
effect-tallies p (lookup k c t e) row = lookup-adds (find k row) k c t e row
effect-tallies p (store k c v x e) row = fit-tallies _ _ row
effect-tallies p (invalidate k) row = (refl, refl)

hits-go : Goes (λ c. c.hits) hits_in
unfolding count hits_in
hits-go =
    record { adds = λ was more. refl; apart = λ n. refl; each = λ p q row. (effect-tallies p q row).0; all = refl; epoch = λ n. refl }

misses-go : Goes (λ c. c.misses) misses_in
unfolding count misses_in
misses-go =
    record { adds = λ was more. refl; apart = λ n. refl; each = λ p q row. (effect-tallies p q row).1; all = refl; epoch = λ n. refl }

-- the hits after a sequence of calls
pub hits-tallied : (p : Setup) (cs : List Call) (bk : Book) → Counted bk.counts
    → (after_calls p cs bk).counts.hits ≡ wrap (bk.counts.hits + tally_all hits_in (replies p cs bk))
hits-tallied p cs bk w = calls-add p (λ c. c.hits) hits_in hits-go cs bk bk.counts.hits (sym (mod-eq_of_lt w.hits))

-- and the misses
pub misses-tallied : (p : Setup) (cs : List Call) (bk : Book) → Counted bk.counts
    → (after_calls p cs bk).counts.misses ≡ wrap (bk.counts.misses + tally_all misses_in (replies p cs bk))
misses-tallied p cs bk w = calls-add p (λ c. c.misses) misses_in misses-go cs bk bk.counts.misses (sym (mod-eq_of_lt w.misses))
