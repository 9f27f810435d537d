-- Calls on bytes. A call is given the arena, the counts and the next number as the calls before left them; it means: decode the arena, do the
-- book's call, encode. A whole sequence of calls on bytes is the sequence on the book. Assumes of the setup what cause 1 leaves (`Sized`, `Proper`).
use Rattle.std.specs.Prelude.{◌≡◌, ℕ, Bool, length}
use Rattle.std.proofs.Math.Path.{refl, ap}
use Rattle.std.proofs.Common.{sym, ◌∙◌}
use Rattle.std.proofs.Math.Option.{Option, none, some}
use mathlib.Core.List.{List, [], ◌∷◌, ◌++◌, append_assoc, append-nil}
use Rattle.buffer.specs.Same.{Bytes}
use Rattle.book.specs.Book.{Setup, Row, Book, Counts, Answer, fresh}
use Rattle.book.specs.Calls.{Call, after_call, reply_to, after_calls, replies}
use Rattle.book.proofs.Trace.{Proper}
use Rattle.book.proofs.Storable.{StorableCalls}
use Rattle.arena.specs.Decode.{may_store, decode}
use Rattle.arena.specs.Tests.{WellFormed}
use Rattle.arena.specs.Image.{Sized}
use Rattle.arena.proofs.Image.{encoded-length, decode-encode}
use Rattle.arena.proofs.Keeps.{formed}
use Rattle.arena.specs.Held.{Held, book_of, lend}

-- what a call comes to
pub data Outcome : Type 0 where
  -- refused as 9
  no_image : Outcome
  -- refused by another cause
  denied : Outcome
  -- done, with what each of its events answers
  said : List Answer → Outcome

pub record Result : Type 0 where
  pub outcome : Outcome
  pub held : Held

unfoldable pub outcome_of : Option (List Answer) → Outcome
outcome_of none = denied
outcome_of (some xs) = said xs

unfoldable pub outcomes_of : List (Option (List Answer)) → List Outcome
outcomes_of [] = []
outcomes_of (x ∷ xs) = outcome_of x ∷ outcomes_of xs

-- a call on the rows that the arena encodes; with none it is refused, and everything is left as it was
unfoldable pub call_with : Setup → Option (ℕ → Row) → Call → Held → Result
call_with p none c h = record { outcome = no_image; held = h }
call_with p (some rows) c h =
    record { outcome = outcome_of (reply_to p c (book_of rows h)); held = lend p (length h.arena) (after_call p c (book_of rows h)) }

-- the last of some calls comes last
calls_last : (p : Setup) (before : List Call) (c : Call) (bk : Book) → after_calls p (before ++ (c ∷ [])) bk ≡ after_call p c (after_calls p before bk)
unfolding after_calls
calls_last p [] c bk = refl
calls_last p (b ∷ before) c bk = calls_last p before c (after_call p b bk)

storable-front : (may : Bytes → Bytes → Bytes → Bool) (xs ys : List Call) → StorableCalls may (xs ++ ys) → StorableCalls may xs
storable-front may [] ys g = tt
storable-front may (x ∷ xs) ys g = (g.0, storable-front may xs ys g.1)

module _ (is_value : Bytes → Bool) (p : Setup) where
  -- a call on bytes
  unfoldable pub call_on : Call → Held → Result
  call_on c h = call_with p (decode is_value p h.arena) c h

  -- what the caller holds after a sequence of calls, and what each came to
  unfoldable pub held_after : List Call → Held → Held
  held_after [] h = h
  held_after (c ∷ cs) h = held_after cs (call_on c h).held

  unfoldable pub outcomes : List Call → Held → List Outcome
  outcomes [] h = []
  outcomes (c ∷ cs) h = (call_on c h).outcome ∷ outcomes cs (call_on c h).held

  module _ (n : ℕ) (z : Sized p n) (o : Proper p) where
    -- one call on the bytes of well-formed rows is the book's call
    pub one-call : (c : Call) (bk : Book) → WellFormed is_value p bk.rows
        → call_on c (lend p n bk) ≡ record { outcome = outcome_of (reply_to p c bk); held = lend p n (after_call p c bk) }
    unfolding call_on call_with lend
    one-call c bk w = rw (decode-encode is_value p n z bk.rows w, encoded-length is_value p n z bk.rows w)

    module _ (lent : Counts) where
      -- the book after some calls
      abbrev done : List Call → Book
      done cs = after_calls p cs (fresh lent)

      -- one call more, after some
      next-call : (before : List Call) (c : Call) → StorableCalls (may_store is_value) before
          → call_on c (lend p n (done before)) ≡ record { outcome = outcome_of (reply_to p c (done before)); held = lend p n (done (before ++ (c ∷ []))) }
      next-call before c g =
          one-call c (done before) (formed is_value p o lent before g)
          ∙ ap (λ (bk : Book). record { outcome = outcome_of (reply_to p c (done before)); held = lend p n bk }) (sym (calls_last p before c (fresh lent)))

      held-is : (before cs : List Call) → StorableCalls (may_store is_value) (before ++ cs)
          → held_after cs (lend p n (done before)) ≡ lend p n (done (before ++ cs))
      unfolding held_after
      held-is before [] g = ap (λ (xs : List Call). lend p n (done xs)) (sym (append-nil before))
      held-is before (c ∷ cs) g =
          ap (λ (r : Result). held_after cs r.held) (next-call before c (storable-front (may_store is_value) before (c ∷ cs) g))
          ∙ held-is (before ++ (c ∷ [])) cs (rw append_assoc g)
          ∙ ap (λ (xs : List Call). lend p n (done xs)) (append_assoc before (c ∷ []) cs)

      outcomes-are : (before cs : List Call) → StorableCalls (may_store is_value) (before ++ cs)
          → outcomes cs (lend p n (done before)) ≡ outcomes_of (replies p cs (done before))
      unfolding outcomes replies outcomes_of
      outcomes-are before [] g = refl
      outcomes-are before (c ∷ cs) g =
          ap (λ (r : Result). r.outcome ∷ outcomes cs r.held) (next-call before c (storable-front (may_store is_value) before (c ∷ cs) g))
          ∙ ap (λ (xs : List Outcome). outcome_of (reply_to p c (done before)) ∷ xs)
          (outcomes-are (before ++ (c ∷ [])) cs (rw append_assoc g)
          ∙ ap (λ (bk : Book). outcomes_of (replies p cs bk)) (calls_last p before c (fresh lent)))

      -- from a fresh cache, a sequence of calls on bytes leaves what the book's sequence leaves
      pub sequence-leaves : (cs : List Call) → StorableCalls (may_store is_value) cs
          → held_after cs (lend p n (fresh lent)) ≡ lend p n (after_calls p cs (fresh lent))
      unfolding after_calls
      sequence-leaves cs g = held-is [] cs g

      -- and answers what it answers
      pub sequence-answers : (cs : List Call) → StorableCalls (may_store is_value) cs
          → outcomes cs (lend p n (fresh lent)) ≡ outcomes_of (replies p cs (fresh lent))
      unfolding after_calls
      sequence-answers cs g = outcomes-are [] cs g
