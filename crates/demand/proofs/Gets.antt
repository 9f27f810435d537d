-- The clauses `is_served`, `is_missed` and `places`: what the places of a call's return show is what the book's residences serve. Assumes that the rows
-- before the call are well-formed, as those of every book that calls leave are, and that the call's return is the book's reply's (`answers`).
use Rattle.std.specs.Prelude.{◌≡◌, refl, ◌↔◌, ℕ, zero, suc, length}
use Rattle.std.proofs.Common.{sym, ◌∙◌, subst, arith}
use Rattle.std.proofs.Math.Path.{ap}
use Rattle.std.proofs.Math.Option.{some, none-ne-some, some-injective}
use mathlib.Core.List.{List, [], ◌∷◌, ◌++◌, map}
use Rattle.buffer.specs.Same.{Bytes}
use Rattle.resp3.specs.Ends.{is_value}
use Rattle.book.specs.Book as book
use Rattle.book.specs.Book.{Setup, Book, Counts, Answer, Event, on, fresh}
use Rattle.book.specs.Calls.{Call, events_of, reply_to, onto}
use Rattle.book.specs.Residence.{ServedBy}
use Rattle.book.specs.Demand3 as three
use Rattle.book.specs.Demand3.{nth}
use Rattle.book.proofs.Demand3Laws.{demand-three}
use Rattle.arena.specs.Tests.{WellFormed}
use Rattle.call_entry.specs.Entered.{no_cause}
use Rattle.demand.specs.Call.{RealCall, Return, cause_of, setup_by, book_calls}
use Rattle.demand.specs.Words.{Got, got, missed, gots_of, got_at, lookups_in}
use Rattle.demand.specs.Demand.{setup, told as told_of, CallIn, returned, number, trace_by, book_before, events_in, LookupIn, gets, IsServed}
use Rattle.demand.specs.Replies.{return_for}
use Rattle.demand.specs.Corollaries.{response}
use Rattle.demand.proofs.Stays.{served-same}
use Rattle.demand.proofs.Laws.{setup-proper}
use Rattle.demand.proofs.Places.{got_by}
use Rattle.demand.proofs.Shows.{Shows, asked, unasked, shows}

-- ---- an answer at its place

-- what is shown there
shown-at : (l : List Answer) (i : ℕ) (a : Answer) → nth l i ≡ some a → got_at (map got_by l) i ≡ some (got_by a)
unfolding nth got_at
shown-at [] i a q = absurd (none-ne-some a q)
shown-at (b ∷ l) zero a q = ap (λ (z : Answer). some (got_by z)) (some-injective b a q)
shown-at (b ∷ l) (suc i) a q = shown-at l i a q

-- no place shows both
missed-not : (v : Bytes) → missed ≡ got v → ⊥
missed-not v q = let z : ◌≡◌ {A = ℕ} 0 1 = cc in omega arith

-- a value is shown for a hit alone
got-hit : (a : Answer) (v : Bytes) → got_by a ≡ got v → a ≡ book.hit v
unfolding got_by
got-hit (book.hit u) v q = let z : u ≡ v = cc in ap book.hit z
got-hit book.miss v q = absurd (missed-not v q)
got-hit book.stored v q = absurd (missed-not v q)
got-hit book.no_space v q = absurd (missed-not v q)
got-hit book.invalidated v q = absurd (missed-not v q)
got-hit (book.number n) v q = absurd (missed-not v q)

at-hit : (l : List Answer) (i : ℕ) (v : Bytes) → got_at (map got_by l) i ≡ some (got v) → nth l i ≡ some (book.hit v)
unfolding nth got_at
at-hit [] i v q = absurd (none-ne-some (got v) q)
at-hit (b ∷ l) zero v q = ap some (got-hit b v (some-injective (got_by b) (got v) q))
at-hit (b ∷ l) (suc i) v q = at-hit l i v q

-- as many are shown as were answered
map-length : (l : List Answer) → length (map got_by l) ≡ length l
map-length [] = refl
map-length (a ∷ l) = ap suc (map-length l)

-- a lookup among events is counted
counted : (earlier rest : List Event) (k c : Bytes) (t e : ℕ) → lookups_in (earlier ++ (on (book.lookup k c t e) ∷ rest)) ≡ 0 → ⊥
unfolding lookups_in
counted [] rest k c t e q = omega arith
counted (on (book.lookup j d u f) ∷ evs) rest k c t e q = omega arith
counted (on (book.store j d v x f) ∷ evs) rest k c t e q = counted evs rest k c t e q
counted (on (book.invalidate j) ∷ evs) rest k c t e q = counted evs rest k c t e q
counted (book.invalidate_all ∷ evs) rest k c t e q = counted evs rest k c t e q
counted (book.new_epoch ∷ evs) rest k c t e q = counted evs rest k c t e q

-- ---- the clauses, from the clause `answers`

module _ (size mode ttl : ℕ) (s : Bytes) (lent : Counts) where
  -- the book's setup
  abbrev P : Setup
  P = setup size mode ttl s lent

  -- a place for each lookup
  places-from : (c : Call) (bk : Book) (r : Return) → Shows P bk c r → length (gots_of r) ≡ lookups_in (events_of c)
  places-from c bk r (asked xs z n gs) = ap length gs ∙ map-length xs ∙ n
  places-from c bk r (unasked n gs) = ap length gs ∙ sym n

  module _ {cs : List RealCall} where
    -- what a call that passes shows
    pub call-shows : (a : CallIn size mode ttl s lent cs) → WellFormed is_value P (book_before size mode ttl s lent a).rows
        → returned size mode ttl s lent a ≡ return_for size (length s) a.call (response size mode ttl s lent a) → number size mode ttl s lent a ≡ no_cause
        → Shows P (book_before size mode ttl s lent a) (told_of size mode ttl s lent a.call) (returned size mode ttl s lent a)
    call-shows a w is passes =
        subst (Shows P (book_before size mode ttl s lent a) (told_of size mode ttl s lent a.call)) (sym is)
        (shows size (length s) P (book_before size mode ttl s lent a) w a.call (ap cause_of (sym is) ∙ passes))

    pub places-field : (a : CallIn size mode ttl s lent cs) → WellFormed is_value P (book_before size mode ttl s lent a).rows
        → returned size mode ttl s lent a ≡ return_for size (length s) a.call (response size mode ttl s lent a) → number size mode ttl s lent a ≡ no_cause
        → length (gots_of (returned size mode ttl s lent a)) ≡ lookups_in (events_in size mode ttl s lent a)
    places-field a w is passes =
        places-from (told_of size mode ttl s lent a.call) (book_before size mode ttl s lent a) (returned size mode ttl s lent a) (call-shows a w is passes)

    module _ (set-up : (setup_by size mode ttl s).cause ≡ no_cause) (l : LookupIn size mode ttl s lent cs) where
      abbrev c : Call
      c = told_of size mode ttl s lent l.call.call

      abbrev bk : Book
      bk = book_before size mode ttl s lent l.call

      abbrev before : List Call
      before = book_calls size (length s) l.call.before

      -- the lookup on the book
      abbrev on_book : (said : List Answer) → reply_to P c bk ≡ some said → three.LookupIn P lent (before ++ (c ∷ []))
      on_book said q =
          record {
            before = before;
            call = c;
            later = [];
            stands = refl;
            said = said;
            reply = q;
            earlier = l.earlier;
            key = l.key;
            command = l.command;
            clock = l.clock;
            epoch = l.epoch;
            rest = l.rest;
            event = l.event;
          }

      -- a residence of the statement serves what the book's own does
      serves : (v : Bytes) → IsServed size mode ttl s lent l v
          ↔ ServedBy P (fresh lent) (onto (trace_by size mode ttl s lent l.call.before) l.earlier) l.key l.command l.clock l.epoch v
      serves v = served-same P (fresh lent) l.key _ l.command l.clock l.epoch v

      -- what is shown at the place is what the book serves there, or nothing
      served-from : Shows P bk c (returned size mode ttl s lent l.call) → (v : Bytes)
          → (gets size mode ttl s lent l ≡ some (got v)) ↔ IsServed size mode ttl s lent l v
      unfolding gets three.gets three.past got_by
      served-from (asked xs z n gs) v =
          let x = (demand-three P (setup-proper size mode ttl s lent set-up) lent (before ++ (c ∷ []))).served (on_book xs z) v in
          let g : got_at (gots_of (returned size mode ttl s lent l.call)) (length l.earlier) ≡ got_at (map got_by xs) (length l.earlier) =
          ap (λ (z : List Got). got_at z (length l.earlier)) gs in
          let alike = serves v in (
            λ h. alike.1 (x.0 (at-hit xs (length l.earlier) v (sym g ∙ h))),
            λ h. g ∙ shown-at xs (length l.earlier) (book.hit v) (x.1 (alike.0 h)),
          )
      served-from (unasked n gs) v = absurd (counted l.earlier l.rest l.key l.command l.clock l.epoch (ap lookups_in (sym l.event) ∙ n))

      missed-from : Shows P bk c (returned size mode ttl s lent l.call) → ((v : Bytes) → IsServed size mode ttl s lent l v → ⊥)
          → gets size mode ttl s lent l ≡ some missed
      unfolding gets three.gets three.past got_by
      missed-from (asked xs z n gs) none-serves =
          let x =
          (demand-three P (setup-proper size mode ttl s lent set-up) lent (before ++ (c ∷ []))).unserved (on_book xs z)
          (λ v h. none-serves v ((serves v).1 h)) in
          ap (λ (z : List Got). got_at z (length l.earlier)) gs ∙ shown-at xs (length l.earlier) book.miss x
      missed-from (unasked n gs) none-serves =
          absurd (counted l.earlier l.rest l.key l.command l.clock l.epoch (ap lookups_in (sym l.event) ∙ n))

      module _ (w : WellFormed is_value P (book_before size mode ttl s lent l.call).rows)
          (is : returned size mode ttl s lent l.call ≡ return_for size (length s) l.call.call (response size mode ttl s lent l.call)) where
        pub is_served-field : (v : Bytes) → (gets size mode ttl s lent l ≡ some (got v)) ↔ IsServed size mode ttl s lent l v
        is_served-field v = served-from (call-shows l.call w is l.passes) v

        pub is_missed-field : ((v : Bytes) → IsServed size mode ttl s lent l v → ⊥) → gets size mode ttl s lent l ≡ some missed
        is_missed-field none-serves = missed-from (call-shows l.call w is l.passes) none-serves
