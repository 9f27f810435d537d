-- Demand 3 on the book, proved: the record of Demand3.antt holds for every sequence of calls from a fresh book (`demand-three`). Assumes of the setup that a
-- shard holds a key and that every key has a shard (`Proper`).
use Rattle.std.specs.Prelude.{◌≡◌, ℕ, ◌+◌, ◌^◌, Bool, true, cond, length}
use Rattle.std.proofs.Math.Path.{refl, ap, subst}
use Rattle.std.proofs.Common.{sym, ◌∙◌, arith}
use Rattle.std.proofs.Math.Nat.{mod-add-mod}
use Rattle.std.proofs.Math.Bool.{false}
use Rattle.std.proofs.Math.Option.{Option, some, none-ne-some, some-injective}
use mathlib.Core.List.{List, [], ◌∷◌, ◌++◌}
use borrow.Author.Tests.{le-leb, lt-leb}
use Rattle.buffer.specs.Cases.{by_test}
use Rattle.buffer.specs.Same.{Bytes}
use Rattle.config.specs.Wrap.{wrap}
use Rattle.book.specs.Book.{Row, Setup, Book, Counts, Answer, stored, no_space, number, Keyed, lookup, store, Event, on, fresh}
use Rattle.book.specs.Book.{fits, if_fits, key_of, effect_on, effect, put, after, answer_to, after_all, answers}
use Rattle.book.specs.Calls.{Storing, Call, planning, resolving, resolving7, push, push_all, single, take_epoch, refused, lookups, stores}
use Rattle.book.specs.Calls.{invalidations, ons, events_of, is_refused, after_call, reply_to, refusals, after_calls, replies, run}
use Rattle.book.specs.Calls.{call-defs}
use Rattle.book.specs.Trace.{SoundBook}
use Rattle.book.proofs.Trace.{Proper, sound, none-beyond, run-onto, run-traced}
use Rattle.book.proofs.Tally.{hits-tallied, misses-tallied}
use Rattle.book.proofs.Lookups.{lookup-miss}
use Rattle.book.proofs.Residents.{served-by}
use Rattle.book.proofs.Exchange.{commute, swapped}
use Rattle.book.specs.Demand3.{nth, shard_after, lacking, epochs_in, book_of, trace_of, LookupIn, gets, past, Demand3}

-- ---- calls in turn

-- the calls of a sequence answer one after the other
replies-in-turn : (p : Setup) (before later : List Call) (c : Call) (bk : Book)
    → replies p (before ++ (c ∷ later)) bk
    ≡ replies p before bk ++ (reply_to p c (after_calls p before bk) ∷ replies p later (after_calls p (before ++ (c ∷ [])) bk))
unfolding replies after_calls
replies-in-turn p [] later c bk = refl
replies-in-turn p (b ∷ before) later c bk =
    ap (λ (z : List (Option (List Answer))). reply_to p b bk ∷ z) (replies-in-turn p before later c (after_call p b bk))

-- ---- lookups

-- the answer at a place is the event's, on the book that those before it left
nth-answer : (p : Setup) (earlier rest : List Event) (ev : Event) (bk : Book)
    → nth (answers p (earlier ++ (ev ∷ rest)) bk) (length earlier) ≡ some (answer_to p ev (after_all p earlier bk))
unfolding nth answers after_all
nth-answer p [] rest ev bk = refl
nth-answer p (ev' ∷ earlier) rest ev bk = nth-answer p earlier rest ev (after p ev' bk)

-- a call that is not refused answers for each of its events
reply-answers : (p : Setup) (c : Call) (bk : Book) (said : List Answer) → reply_to p c bk ≡ some said → said ≡ answers p (events_of c) bk
unfolding reply_to
reply-answers p c bk said q =
    by_test (is_refused c (answers p (events_of c) bk)) (λ e. absurd (none-ne-some said (rw e at q)))
    (λ e. sym (some-injective (answers p (events_of c) bk) said (rw e at q)))

module _ (p : Setup) (lent : Counts) {cs : List Call} (l : LookupIn p lent cs) where
  -- the book before a lookup is the one that its past leaves
  past-book : after_all p l.earlier (book_of p lent l.before) ≡ run p (fresh lent) (past p lent l)
  unfolding run past
  past-book =
      ap (after_all p l.earlier) (run-traced p (fresh lent) [] l.before) ∙ run-onto p (fresh lent) (trace_of p lent l.before) l.earlier

  -- a lookup gets what the book before it says
  gets-answer : gets p lent l ≡ some (answer_to p (on (lookup l.key l.command l.clock l.epoch)) (run p (fresh lent) (past p lent l)))
  unfolding gets
  gets-answer =
      let ev : Event = on (lookup l.key l.command l.clock l.epoch) in
      let bk : Book = book_of p lent l.before in
      ap (λ (z : List Answer). nth z (length l.earlier))
      (reply-answers p l.call bk l.said l.reply ∙ ap (λ (z : List Event). answers p z bk) l.event)
      ∙ nth-answer p l.earlier l.rest ev bk
      ∙ ap (λ (z : Book). some (answer_to p ev z)) past-book

-- ---- stores and epochs

-- a store's answer is the space rule's
fit-answer : (b : Bool) (new old : Row) → (if_fits b new old).answer ≡ cond b stored no_space
unfolding if_fits
fit-answer true new old = refl
fit-answer false new old = refl

-- on its shard
store-reply : (p : Setup) (k c v : Bytes) (x e : ℕ) (bk : Book) (b : Bool) → fits p.bytes (shard_after p k c v x e bk) ≡ b
    → answer_to p (on (store k c v x e)) bk ≡ cond b stored no_space
unfolding answer_to effect effect_on key_of shard_after
store-reply p k c v x e bk b q = fit-answer _ _ _ ∙ ap (λ (z : Bool). cond z stored no_space) q

-- a resolving reports the stores that the space rule refuses
lacking-is : (p : Setup) (e : ℕ) (ws : List Storing) (bk : Book) → refusals (answers p (ons (stores e ws)) bk) ≡ lacking p e ws bk
unfolding refusals answers ons stores lacking
lacking-is p e [] bk = refl
lacking-is p e (w ∷ ws) bk =
    by_test (fits p.bytes (shard_after p w.wanted.key w.wanted.command w.value w.expiry e bk))
    (λ f. rw (f, store-reply p w.wanted.key w.wanted.command w.value w.expiry e bk true f) (lacking-is p e ws _))
    (λ f. rw (f, store-reply p w.wanted.key w.wanted.command w.value w.expiry e bk false f) (ap (λ (z : ℕ). 1 + z) (lacking-is p e ws _)))

-- events with keys leave the next number
next-ons : (p : Setup) (qs : List Keyed) (bk : Book) → (after_all p (ons qs) bk).next ≡ bk.next
unfolding after_all ons after put
next-ons p [] bk = refl
next-ons p (q ∷ qs) bk = next-ons p qs (after p (on q) bk)

-- and each new epoch adds one to it, wrapping
next-after : (p : Setup) (cs : List Call) (bk : Book) (n : ℕ) → bk.next ≡ wrap n → (after_calls p cs bk).next ≡ wrap (n + epochs_in cs)
unfolding after_calls epochs_in call-defs after_all after
next-after p [] bk n q = q ∙ ap wrap (omega arith)
next-after p (planning t e ws short ∷ cs) bk n q =
    next-after p cs (after_call p (planning t e ws short) bk) n
    (by_test (short (answers p (ons (lookups t e ws)) bk)) (λ b. rw b q) (λ b. rw b (next-ons p (lookups t e ws) bk ∙ q)))
next-after p (resolving e ws ∷ cs) bk n q = next-after p cs (after_call p (resolving e ws) bk) n (next-ons p (stores e ws) bk ∙ q)
next-after p (resolving7 e ws ∷ cs) bk n q = next-after p cs (after_call p (resolving7 e ws) bk) n (next-ons p (stores e ws) bk ∙ q)
next-after p (push ks ∷ cs) bk n q = next-after p cs (after_call p (push ks) bk) n (next-ons p (invalidations ks) bk ∙ q)
next-after p (push_all ∷ cs) bk n q = next-after p cs (after_call p push_all bk) n q
next-after p (single x ∷ cs) bk n q = next-after p cs (after_call p (single x) bk) n (next-ons p (x ∷ []) bk ∙ q)
next-after p (take_epoch ∷ cs) bk n q =
    next-after p cs (after_call p take_epoch bk) (n + 1) (ap (λ (z : ℕ). wrap (z + 1)) q ∙ mod-add-mod n (2 ^ 64) 1) ∙ ap wrap (omega arith)
next-after p (refused ∷ cs) bk n q = next-after p cs (after_call p refused bk) n q

-- ---- the theorem

-- demand 3 holds of the book
pub demand-three : (p : Setup) → Proper p → (lent : Counts) (cs : List Call) → Demand3 p lent cs
demand-three p o lent cs =
    record {
      in_turn = λ before later c q.
          ap (λ (z : List Call). replies p z (fresh lent)) q ∙ replies-in-turn p before later c (fresh lent);
      served = λ l v.
          let right = served-by p o.some_key lent l.key (past p lent l) l.command v l.clock l.epoch in
          (λ q. right.0 (some-injective _ _ (sym (gets-answer p lent l) ∙ q)), λ s. gets-answer p lent l ∙ ap some (right.1 s));
      unserved = λ l none-serves.
          gets-answer p lent l
          ∙ ap some
          (lookup-miss p l.key l.command l.clock l.epoch (run p (fresh lent) (past p lent l))
          (λ v q. none-serves v ((served-by p o.some_key lent l.key (past p lent l) l.command v l.clock l.epoch).0 q)));
      single_stored = λ before later k c v x e q fit. single-reply before k c v x e true (unfold fits in le-leb _ _ fit);
      single_refused = λ before later k c v x e q over. single-reply before k c v x e false (unfold fits in lt-leb _ _ over);
      epochs = λ before later q. epoch-reply before;
      reported =
          λ before later e ws q. (answers p (ons (stores e ws)) (book_of p lent before), unfold call-defs in refl, lacking-is p e ws (book_of p lent before));
      left = book-is;
      rows = subst (SoundBook p) (sym book-is) (sound p o.some_key lent (trace_of p lent cs));
      no_others = λ s l. ap (λ (z : Book). z.rows s) book-is ∙ none-beyond p o lent (trace_of p lent cs) s l;
      hits = λ w. unfold fresh in hits-tallied p cs (fresh lent) w;
      misses = λ w. unfold fresh in misses-tallied p cs (fresh lent) w;
      exchanged = λ before later x y q m m' d. swapped p (fresh lent) before x y later (commute p m m' d);
    }
  where
    book-is : book_of p lent cs ≡ run p (fresh lent) (trace_of p lent cs)
    book-is = unfold run in run-traced p (fresh lent) [] cs

    single-reply : (before : List Call) (k c v : Bytes) (x e : ℕ) (b : Bool) → fits p.bytes (shard_after p k c v x e (book_of p lent before)) ≡ b
        → reply_to p (single (store k c v x e)) (book_of p lent before) ≡ some (cond b stored no_space ∷ [])
    single-reply before k c v x e b q =
        unfold call-defs ons answers in ap (λ (z : Answer). some (z ∷ [])) (store-reply p k c v x e (book_of p lent before) b q)

    epoch-reply : (before : List Call) → reply_to p take_epoch (book_of p lent before) ≡ some (number (wrap (1 + epochs_in before)) ∷ [])
    epoch-reply before =
        unfold call-defs answers answer_to fresh in
        ap (λ (z : ℕ). some (number z ∷ [])) (next-after p before (fresh lent) 1 refl)
