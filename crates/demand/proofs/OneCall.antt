-- One call: a real call on the bytes of a book is the book's call, its whole return and what is held then. Assumes that size and arena length make shards
-- that stand in the arena, that the rows are well-formed, and for what a store or a resolving leaves that the counts are of 64 bits.
use Rattle.std.specs.Prelude.{◌≡◌, ℕ, false}
use Rattle.std.proofs.Math.Path.{ap}
use Rattle.std.proofs.Common.{◌∙◌}
use Rattle.buffer.specs.Cases.{by_test}
use Rattle.buffer.specs.Same.{Bytes}
use Rattle.config.specs.Config.{refused}
use Rattle.resp3.specs.Ends.{is_value}
use Rattle.book.specs.Book.{Setup, Book}
use Rattle.book.specs.Calls.{after_call}
use Rattle.book.specs.Counted.{Counted}
use Rattle.arena.specs.Tests.{WellFormed}
use Rattle.arena.specs.Image.{Sized}
use Rattle.arena.specs.Held.{Held, lend}
use Rattle.demand.specs.Call.{RealCall, planning, resolving, push, lookup, store, invalidate, new_epoch, Return, Stepped, with_arena, step, setup_with}
use Rattle.demand.specs.Call.{book_call}
use Rattle.demand.specs.Replies.{with_next, respond, return_for}
use Rattle.demand.specs.CorollaryWords.{mode_in, LentArena}
use Rattle.demand.proofs.Bridge.{lookup-step, invalidate-step, store_step, epoch-step}
use Rattle.demand.proofs.PushBridge.{push_step}
use Rattle.demand.proofs.PlanBridge.{planning-step}
use Rattle.demand.proofs.ResolveBridge.{resolving-step}
use Rattle.demand.proofs.ModeRefused.{mode-refused}
use Rattle.demand.proofs.Free.{told_free, next-stays, store-uncounted, resolving-uncounted-for, arena-held}

-- the step that the book's call makes
abbrev pub booked : ℕ → ℕ → RealCall → Book → Stepped
booked size n c bk =
    record {
      return = return_for size n c (respond (setup_with size n) size n c bk);
      held = lend (setup_with size n) n (after_call (setup_with size n) (book_call size n c) bk);
    }

module _ (size n : ℕ) (z : Sized (setup_with size n) n) (bk : Book) (w : WellFormed is_value (setup_with size n) bk.rows) where
  -- the book's setup
  abbrev p : Setup
  p = setup_with size n

  -- the book's return, and what is held after the book's call
  abbrev said : RealCall → Return
  said c = return_for size n c (respond p size n c bk)

  abbrev left : RealCall → Held
  left c = lend p n (after_call p (book_call size n c) bk)

  -- cause 1 refuses the call, or lets it through
  either : (c : RealCall) → LentArena c → (refused size (mode_in c) n ≡ false → step size c (lend p n bk) ≡ booked size n c bk)
      → step size c (lend p n bk) ≡ booked size n c bk
  either c a go = by_test (refused size (mode_in c) n) (λ b. mode-refused size n p z bk w c a b) go

  -- a call that is given no next number, and one that is given no counts either: those of the caller stay
  next-held : (c : RealCall) → LentArena c
      → ◌≡◌ {A = Stepped} (record { return = said c; held = with_next bk.next (left c) }) (booked size n c bk)
  next-held c a = λ i. record { return = said c; held = next-stays p n (book_call size n c) bk (told_free p bk.next bk size n c a) i }

  rest-held : (c : RealCall) → LentArena c → (after_call p (book_call size n c) bk).counts ≡ bk.counts
      → ◌≡◌ {A = Stepped} (record { return = said c; held = with_arena (left c).arena (lend p n bk) }) (booked size n c bk)
  rest-held c a e = λ i. record { return = said c; held = arena-held p n (book_call size n c) bk (told_free p bk.next bk size n c a) e i }

  -- call by call
  lookup-is : (m d t e : ℕ) (k c : Bytes) → step size (lookup m d t e k c) (lend p n bk) ≡ booked size n (lookup m d t e k c) bk
  lookup-is m d t e k c = either (lookup m d t e k c) tt (unfold mode_in in λ f. lookup-step size n m d f bk w t e k c ∙ next-held (lookup m d t e k c) tt)

  invalidate-is : (m d : ℕ) (k : Bytes) → step size (invalidate m d k) (lend p n bk) ≡ booked size n (invalidate m d k) bk
  invalidate-is m d k = either (invalidate m d k) tt (unfold mode_in in λ f. invalidate-step size n m d f bk w k ∙ next-held (invalidate m d k) tt)

  push-is : (m d : ℕ) (bytes : Bytes) → step size (push m d bytes) (lend p n bk) ≡ booked size n (push m d bytes) bk
  push-is m d bytes = either (push m d bytes) tt (unfold mode_in in λ f. push_step size n m d f bk w bytes ∙ next-held (push m d bytes) tt)

  planning-is : (m d t e : ℕ) (bytes plan send : Bytes)
      → step size (planning m d t e bytes plan send) (lend p n bk) ≡ booked size n (planning m d t e bytes plan send) bk
  planning-is m d t e bytes plan send =
      either (planning m d t e bytes plan send) tt
      (unfold mode_in in λ f. planning-step size n m d f bk w t e bytes plan send ∙ next-held (planning m d t e bytes plan send) tt)

  -- a store and a resolving are given no counts
  module _ (counted : Counted bk.counts) where
    store_is : (m d e : ℕ) (k c v : Bytes) (x : ℕ) → step size (store m d e k c v x) (lend p n bk) ≡ booked size n (store m d e k c v x) bk
    store_is m d e k c v x =
        either (store m d e k c v x) tt
        (unfold mode_in in
        λ f. store_step size n m d f bk w e k c v x ∙ rest-held (store m d e k c v x) tt (store-uncounted p bk counted size n m d e k c v x))

    resolving-is : (m d t e : ℕ) (plan replies answer : Bytes)
        → step size (resolving m d t e plan replies answer) (lend p n bk) ≡ booked size n (resolving m d t e plan replies answer) bk
    resolving-is m d t e plan replies answer =
        either (resolving m d t e plan replies answer) tt
        (unfold mode_in in
        λ f.
        resolving-step size n m d f bk w t e plan replies answer
        ∙ rest-held (resolving m d t e plan replies answer) tt (resolving-uncounted-for p bk counted size n m d t e plan replies answer))

    -- every call on the bytes of a book is the book's call
    pub step_is : (c : RealCall) → step size c (lend p n bk) ≡ booked size n c bk
    step_is (planning m d t e bytes plan send) = planning-is m d t e bytes plan send
    step_is (resolving m d t e plan replies answer) = resolving-is m d t e plan replies answer
    step_is (push m d bytes) = push-is m d bytes
    step_is (lookup m d t e k c) = lookup-is m d t e k c
    step_is (store m d e k c v x) = store_is m d e k c v x
    step_is (invalidate m d k) = invalidate-is m d k
    step_is new_epoch = unfold book_call in epoch-step size n p bk

  -- the return is the book's whatever the counts are
  pub return-is : (c : RealCall) → LentArena c → (step size c (lend p n bk)).return ≡ said c
  return-is (planning m d t e bytes plan send) a = ap (λ (x : Stepped). x.return) (planning-is m d t e bytes plan send)
  return-is (resolving m d t e plan replies answer) a =
      by_test (refused size m n)
      (λ b. ap (λ (x : Stepped). x.return) (mode-refused size n p z bk w (resolving m d t e plan replies answer) tt (unfold mode_in in b)))
      (λ f. ap (λ (x : Stepped). x.return) (resolving-step size n m d f bk w t e plan replies answer))
  return-is (push m d bytes) a = ap (λ (x : Stepped). x.return) (push-is m d bytes)
  return-is (lookup m d t e k c) a = ap (λ (x : Stepped). x.return) (lookup-is m d t e k c)
  return-is (store m d e k c v x) a =
      by_test (refused size m n)
      (λ b. ap (λ (x : Stepped). x.return) (mode-refused size n p z bk w (store m d e k c v x) tt (unfold mode_in in b)))
      (λ f. ap (λ (x : Stepped). x.return) (store_step size n m d f bk w e k c v x))
  return-is (invalidate m d k) a = ap (λ (x : Stepped). x.return) (invalidate-is m d k)
  return-is new_epoch a = absurd a
