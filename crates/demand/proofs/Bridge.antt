-- A single call or a new epoch on the bytes of a book is the book's call: its whole return, and what is held then. Assumes that cause 1 lets size and arena
-- length through, and that the rows are well-formed, as those of every book that calls leave are.
use Rattle.std.specs.Prelude.{◌≡◌, refl, ℕ, false, length}
use Rattle.std.proofs.Math.Path.{ap}
use Rattle.std.proofs.Common.{ap₂, ◌∙◌}
use Rattle.buffer.specs.Cases.{by_test}
use Rattle.buffer.specs.Same.{Bytes}
use Rattle.config.specs.Config.{refused, settings_of, checked}
use Rattle.config.specs.Laws.{passed}
use Rattle.config.specs.declared.Settings.{Settings}
use Rattle.std.specs.Prelude.{Ok}
use Rattle.siphash.specs.Sip.{sip_hash13}
use Rattle.resp3.specs.Ends.{is_value}
use Rattle.book.specs.Book as book
use Rattle.book.specs.Book.{Setup, Book, Counts, plus, Keyed, answers, answer_to, effect, after, put, after_all}
use Rattle.book.specs.Calls as calls
use Rattle.book.specs.Calls.{ons, after_call, reply_to, call-defs}
use Rattle.book.proofs.Trace.{Proper}
use Rattle.arena.specs.Tests.{WellFormed}
use Rattle.arena.specs.Layout.{encode}
use Rattle.arena.specs.Image.{Sized}
use Rattle.arena.proofs.Image.{encoded-length}
use Rattle.arena.proofs.Sequence.{outcome_of, call_on, one-call}
use Rattle.arena.specs.Held.{lend}
use Rattle.arena.specs.Place.{arena_place}
use Rattle.arena.proofs.Sizes.{sized, proper}
use Rattle.single_calls.specs.Single as one
use Rattle.single_calls.specs.Single.{Return, single_call}
use Rattle.call_entry.specs.Entered.{holding}
use Rattle.single_calls.specs.Place.{served_at, lookup_place}
use Rattle.single_calls.proofs.PlaceLaws.{lookup-place, place-alike}
use Rattle.single_calls.specs.AsCall.{call_of, outcome_number, outcome_value, returned}
use Rattle.single_calls.specs.AsCallLaws.{as_call}
use Rattle.caching.specs.Exported.{flag_of, bytes_of}
use Rattle.demand.specs.Call as real
use Rattle.demand.specs.Call.{with_arena, step, setup_with, book_call}
use Rattle.demand.specs.Replies.{with_next, respond, return_for, single_number, single_value, number_in, place_in}
use Rattle.demand.proofs.Free.{renumbered, single-free}

-- a single call does not see the next number
pub reply-free : (p : Setup) (q : Keyed) (next : ℕ) (bk : Book) → reply_to p (call_of q) (renumbered next bk) ≡ reply_to p (call_of q) bk
unfolding call_of call-defs ons answers answer_to effect
reply-free p q next bk = by_test (one.overlong q) (λ t. rw t) (λ t. by_test (one.wrong_bytes q) (λ u. rw (t, u)) (λ u. rw (t, u)))

-- nor does it see the counts, but for what it adds to them
pub reply-any : (p : Setup) (q : Keyed) (lent : Counts) (next : ℕ) (bk : Book)
    → reply_to p (call_of q) (record { rows = bk.rows; counts = lent; next = next }) ≡ reply_to p (call_of q) bk
unfolding call_of call-defs ons answers answer_to effect
reply-any p q lent next bk = by_test (one.overlong q) (λ t. rw t) (λ t. by_test (one.wrong_bytes q) (λ u. rw (t, u)) (λ u. rw (t, u)))

pub rows-any : (p : Setup) (q : Keyed) (lent : Counts) (next : ℕ) (bk : Book)
    → (after_call p (call_of q) (record { rows = bk.rows; counts = lent; next = next })).rows ≡ (after_call p (call_of q) bk).rows
unfolding call_of call-defs ons answers answer_to effect after_all after put
rows-any p q lent next bk = by_test (one.overlong q) (λ t. rw t) (λ t. by_test (one.wrong_bytes q) (λ u. rw (t, u)) (λ u. rw (t, u)))

-- a lookup that serves a value is the book's call, so that its place is in that call's rows; one that is refused has none
told-place : (p : Setup) (k c : Bytes) (t e : ℕ) (bk : Book) → let b : calls.Call = call_of (book.lookup k c t e) in
    served_at (outcome_value (outcome_of (reply_to p b bk))) (arena_place p k c (after_call p b bk).rows)
    ≡ served_at (outcome_value (outcome_of (reply_to p b bk))) (place_in p b (after_call p b bk).rows)
unfolding call_of place_in
told-place p k c t e bk =
    let q : Keyed = book.lookup k c t e in
    by_test (one.overlong q) (λ o. rw o (unfold call-defs served_at outcome_value outcome_of in refl))
    (λ o. by_test (one.wrong_bytes q) (λ u. rw (o, u) (unfold call-defs served_at outcome_value outcome_of in refl)) (λ u. rw (o, u) refl))

module _ (size n m d : ℕ) (pass : refused size m n ≡ false) where
  -- the book's setup, and the settings, of this size, arena length, mode and TTL
  abbrev pub p : Setup
  p = setup_with size n

  abbrev pub g : Settings
  g = settings_of size m d n

  -- cause 1 lets them through, and leaves of the setup what the theorems on bytes ask
  pub is-fine : checked size m d n ≡ Ok g
  unfolding checked
  is-fine = rw pass

  pub is-sized : Sized p n
  unfolding setup_with settings_of
  is-sized = sized sip_hash13 size m d n g (passed size m d n g is-fine)

  is-proper : Proper p
  unfolding setup_with settings_of
  is-proper = proper sip_hash13 size m d n g (passed size m d n g is-fine)

  module _ (q : Keyed) (bk : Book) (next : ℕ) (w : WellFormed is_value p bk.rows) where
    -- so it does for what is lent from a book
    pub held-fine : checked size m d (length (lend p n (renumbered next bk)).arena) ≡ Ok g
    unfolding lend
    held-fine = ap (checked size m d) (encoded-length is_value p n is-sized bk.rows w) ∙ is-fine

    -- a single call is the book's call on bytes
    on-book : single_call size m d q (lend p n (renumbered next bk)) ≡ returned q (call_on is_value p (call_of q) (lend p n (renumbered next bk)))
    unfolding setup_with settings_of
    on-book = as_call size m d q (lend p n (renumbered next bk)) g held-fine

    -- a single call on the bytes of a book: number, value and what is held, whatever the next number given
    pub single-is : single_call size m d q (lend p n (renumbered next bk))
        ≡ record {
          cause = outcome_number q (outcome_of (reply_to p (call_of q) bk));
          value = outcome_value (outcome_of (reply_to p (call_of q) bk));
          held = lend p n (renumbered next (after_call p (call_of q) bk));
        }
    single-is =
        on-book ∙ ap (returned q) (one-call is_value p n is-sized is-proper (call_of q) (renumbered next bk) w)
        ∙ (λ i.
        record {
          cause = outcome_number q (outcome_of (reply-free p q next bk i));
          value = outcome_value (outcome_of (reply-free p q next bk i));
          held = lend p n (single-free p next bk q i);
        })

  -- a single lookup and a single invalidation as steps: the clause `answers`, and the book's call for what is held
  module _ (bk : Book) (w : WellFormed is_value p bk.rows) where
    -- the place of what a lookup hands out
    place_is : (t e : ℕ) (k c : Bytes) → let b : calls.Call = call_of (book.lookup k c t e) in
        lookup_place size m d k c t e (holding (encode p n bk.rows) bk.counts 0)
        ≡ served_at (outcome_value (outcome_of (reply_to p b bk))) (place_in p b (after_call p b bk).rows)
    unfolding setup_with settings_of lend
    place_is t e k c =
        place-alike size m d k c t e (encode p n bk.rows) bk.counts bk.counts 0 bk.next ∙ lookup-place size m d n g is-fine k c t e bk w
        ∙ told-place p k c t e bk

    pub lookup-step : (t e : ℕ) (k c : Bytes) → step size (real.lookup m d t e k c) (lend p n bk)
        ≡ record {
          return = return_for size n (real.lookup m d t e k c) (respond p size n (real.lookup m d t e k c) bk);
          held = with_next bk.next (lend p n (after_call p (book_call size n (real.lookup m d t e k c)) bk));
        }
    unfolding step book_call return_for single_number single_value lend
    lookup-step t e k c =
        rw is-fine
        (ap₂ (λ (r : Return) (at : ℕ).
        record {
          return = real.looked_up (record { cause = r.cause; hit = flag_of r.value }) at (bytes_of r.value);
          held = record { arena = r.held.arena; counts = r.held.counts; next = bk.next };
        }) (single-is (book.lookup k c t e) bk 0 w) (place_is t e k c))

    pub invalidate-step : (k : Bytes) → step size (real.invalidate m d k) (lend p n bk)
        ≡ record {
          return = return_for size n (real.invalidate m d k) (respond p size n (real.invalidate m d k) bk);
          held = with_next bk.next (lend p n (after_call p (book_call size n (real.invalidate m d k)) bk));
        }
    unfolding step book_call return_for single_number single_value lend
    invalidate-step k =
        rw is-fine
        (ap (λ (r : Return).
        record { return = real.invalidated r.cause; held = record { arena = r.held.arena; counts = r.held.counts; next = bk.next } })
        (single-is (book.invalidate k) bk 0 w))

    -- a single store, which is given no counts: those of the caller stay
    pub store_step : (e : ℕ) (k c v : Bytes) (x : ℕ) → step size (real.store m d e k c v x) (lend p n bk)
        ≡ record {
          return = return_for size n (real.store m d e k c v x) (respond p size n (real.store m d e k c v x) bk);
          held = with_arena (lend p n (after_call p (book_call size n (real.store m d e k c v x)) bk)).arena (lend p n bk);
        }
    unfolding step book_call return_for single_number single_value lend
    store_step e k c v x =
        let q : Keyed = book.store k c v x e in
        rw is-fine
        (ap (λ (r : Return). record { return = real.stored r.cause; held = record { arena = r.held.arena; counts = bk.counts; next = bk.next } })
        (single-is q (record { rows = bk.rows; counts = plus 0 0 0; next = 0 }) 0 w)
        ∙ (λ i.
        record {
          return = real.stored (outcome_number q (outcome_of (reply-any p q (plus 0 0 0) 0 bk i)));
          held = record { arena = encode p n (rows-any p q (plus 0 0 0) 0 bk i); counts = bk.counts; next = bk.next };
        }))

-- a new epoch
pub epoch-step : (size n : ℕ) (p : Setup) (bk : Book) → step size real.new_epoch (lend p n bk)
    ≡ record { return = return_for size n real.new_epoch (respond p size n real.new_epoch bk); held = lend p n (after_call p calls.take_epoch bk) }
unfolding step book_call return_for number_in lend call-defs answers answer_to after_all after
epoch-step size n p bk = refl
