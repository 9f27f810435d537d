-- What a call that passes shows of its lookups, counted, is what the book counts of its reply: values as hits, the rest as misses. Assumes nothing.
use Rattle.std.specs.Prelude.{◌≡◌, ℕ, ◌+◌, ◌≤◌, Bool}
use Rattle.std.proofs.Math.Path.{refl, sym, ap}
use Rattle.std.proofs.Common.{◌∙◌}
use native.Mathlib.Omega.{arith}
use Rattle.std.proofs.Math.Bool.{true, false}
use Rattle.std.proofs.Math.Option.{Option, none, some, none-ne-some, some-injective}
use mathlib.Core.List.{List, [], ◌∷◌, map}
use Rattle.std.proofs.Math.ListN.{length}
use Rattle.buffer.specs.Cases.{by_test}
use Rattle.buffer.specs.Same.{Bytes}
use Rattle.book.specs.Book as book
use Rattle.book.specs.Book.{Setup, Book, Row, Item, Answer, Event, on, invalidate_all, value_for, current, if_fits, effect_on, effect, answer_to, answers, after}
use Rattle.book.specs.Calls.{Call, events_of, is_refused, reply_to}
use Rattle.book.specs.Residence.{item_of}
use Rattle.book.specs.Tally.{hits_in, misses_in, tally, tally_reply}
use Rattle.book.specs.Lookups.{served as served_answer, answer_from}
use Rattle.book.proofs.Lookups.{lookup-answer}
use Rattle.demand.specs.Call.{Return}
use Rattle.demand.specs.Words.{Got, got, missed, gots_of, lookups_in}
use Rattle.demand.specs.CorollaryWords.{served, unserved}
use Rattle.demand.proofs.Places.{got_by}
use Rattle.demand.proofs.Shows.{Shows, asked, unasked}

-- ---- what is shown of answers, and what the book counts of them

-- a way to count what is shown, and the book's count that it stands for
pub record Agree (count : List Got → ℕ) (g : Answer → ℕ) : Type 0 where
  pub none-shown : count [] ≡ 0
  pub hit : (v : Bytes) (gs : List Got) → count (got v ∷ gs) ≡ g (book.hit v) + count gs
  pub miss : (gs : List Got) → count (missed ∷ gs) ≡ g book.miss + count gs
  pub stored : g book.stored ≡ 0
  pub no_space : g book.no_space ≡ 0
  pub invalidated : g book.invalidated ≡ 0
  pub number : (n : ℕ) → g (book.number n) ≡ 0

-- values shown are hits
pub served-agree : Agree served hits_in
unfolding served hits_in
served-agree =
    record { none-shown = refl; hit = λ v gs. refl; miss = λ gs. omega arith; stored = refl; no_space = refl; invalidated = refl; number = λ n. refl }

-- places without one are misses
pub unserved-agree : Agree unserved misses_in
unfolding unserved misses_in
unserved-agree =
    record { none-shown = refl; hit = λ v gs. omega arith; miss = λ gs. refl; stored = refl; no_space = refl; invalidated = refl; number = λ n. refl }

-- lookups are some of the events
few-lookups : (evs : List Event) → lookups_in evs ≤ length evs
unfolding lookups_in
few-lookups [] = omega arith
few-lookups (on (book.lookup k c t e) ∷ evs) = let h = few-lookups evs in omega arith
few-lookups (on (book.store k c v x e) ∷ evs) = let h = few-lookups evs in omega arith
few-lookups (on (book.invalidate k) ∷ evs) = let h = few-lookups evs in omega arith
few-lookups (invalidate_all ∷ evs) = let h = few-lookups evs in omega arith
few-lookups (book.new_epoch ∷ evs) = let h = few-lookups evs in omega arith

-- every event has an answer
answers-length : (p : Setup) (evs : List Event) (bk : Book) → length (answers p evs bk) ≡ length evs
unfolding answers
answers-length p [] bk = refl
answers-length p (ev ∷ evs) bk = let h = answers-length p evs (after p ev bk) in omega arith

-- what the book replies is the answers of the call's events
reply-said : (p : Setup) (c : Call) (bk : Book) (said : List Answer) → reply_to p c bk ≡ some said → answers p (events_of c) bk ≡ said
unfolding reply_to
reply-said p c bk said q =
    by_test (is_refused c (answers p (events_of c) bk)) (λ t. absurd (none-ne-some said (rw t at q)))
    (λ t. some-injective (answers p (events_of c) bk) said (rw t at q))

module _ (p : Setup) (count : List Got → ℕ) (g : Answer → ℕ) (w : Agree count g) where
  -- a lookup is shown as what it is counted as
  lookup-shown : (o : Option Item) (c : Bytes) (t e : ℕ) (gs : List Got) → count (got_by (answer_from o c t e) ∷ gs) ≡ g (answer_from o c t e) + count gs
  unfolding answer_from got_by
  lookup-shown none c t e gs = w.miss gs
  lookup-shown (some it) c t e gs = by_test (current t e it) (λ l. rw l (by_value (value_for c it.entries))) (λ l. rw l (w.miss gs))
    where
      by_value : (o : Option Bytes) → count (got_by (served_answer o) ∷ gs) ≡ g (served_answer o) + count gs
      by_value none = unfold served_answer got_by in w.miss gs
      by_value (some v) = unfold served_answer got_by in w.hit v gs

  -- events that are all lookups
  all_shown : (evs : List Event) (bk : Book) → length evs ≡ lookups_in evs → count (map got_by (answers p evs bk)) ≡ tally g (answers p evs bk)
  unfolding answers lookups_in tally
  all_shown [] bk q = w.none-shown
  all_shown (on (book.lookup k c t e) ∷ evs) bk q =
      rw (lookup-answer p k c t e bk)
      (lookup-shown (item_of p k bk) c t e (map got_by (answers p evs (after p (on (book.lookup k c t e)) bk)))
      ∙ ap (λ (z : ℕ). g (answer_from (item_of p k bk) c t e) + z) (all_shown evs (after p (on (book.lookup k c t e)) bk) (omega arith)))
  all_shown (on (book.store k c v x e) ∷ evs) bk q = absurd (let h = few-lookups evs in omega arith)
  all_shown (on (book.invalidate k) ∷ evs) bk q = absurd (let h = few-lookups evs in omega arith)
  all_shown (invalidate_all ∷ evs) bk q = absurd (let h = few-lookups evs in omega arith)
  all_shown (book.new_epoch ∷ evs) bk q = absurd (let h = few-lookups evs in omega arith)

  -- a store's answer counts as none
  store-none : (k c v : Bytes) (x e : ℕ) (bk : Book) → g (answer_to p (on (book.store k c v x e)) bk) ≡ 0
  unfolding answer_to effect effect_on
  store-none k c v x e bk = by-fit _ _ _
    where
      by-fit : (b : Bool) (new old : Row) → g (if_fits b new old).answer ≡ 0
      by-fit true new old = unfold if_fits in w.stored
      by-fit false new old = unfold if_fits in w.no_space

  -- events none of which is a lookup
  none-counted : (evs : List Event) (bk : Book) → lookups_in evs ≡ 0 → tally g (answers p evs bk) ≡ 0
  unfolding answers answer_to lookups_in tally effect effect_on
  none-counted [] bk q = refl
  none-counted (on (book.lookup k c t e) ∷ evs) bk q = absurd (omega arith)
  none-counted (on (book.store k c v x e) ∷ evs) bk q =
      let h = none-counted evs (after p (on (book.store k c v x e)) bk) q in let z = store-none k c v x e bk in omega arith
  none-counted (on (book.invalidate k) ∷ evs) bk q =
      let h = none-counted evs (after p (on (book.invalidate k)) bk) q in let z = w.invalidated in omega arith
  none-counted (invalidate_all ∷ evs) bk q = let h = none-counted evs (after p invalidate_all bk) q in let z = w.invalidated in omega arith
  none-counted (book.new_epoch ∷ evs) bk q = let h = none-counted evs (after p book.new_epoch bk) q in let z = w.number bk.next in omega arith

  -- a return that shows the answers to a call's lookups
  pub shown-tally : (bk : Book) (c : Call) (r : Return) → Shows p bk c r → tally_reply g (reply_to p c bk) ≡ count (gots_of r)
  unfolding tally_reply
  shown-tally bk c r (asked said q n gs) =
      let a : answers p (events_of c) bk ≡ said = reply-said p c bk said q in
      ap (tally_reply g) q ∙ ap (tally g) (sym a)
      ∙ sym (all_shown (events_of c) bk (sym (answers-length p (events_of c) bk) ∙ ap length a ∙ n))
      ∙ ap (λ (z : List Answer). count (map got_by z)) a ∙ ap count (sym gs)
  shown-tally bk c r (unasked n gs) = quiet ∙ sym w.none-shown ∙ ap count (sym gs)
    where
      quiet : tally_reply g (reply_to p c bk) ≡ 0
      quiet =
          unfold reply_to tally_reply in
          by_test (is_refused c (answers p (events_of c) bk)) (λ t. rw t) (λ t. rw t (none-counted (events_of c) bk n))
