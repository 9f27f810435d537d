-- Every call in its turn: from setup on, what is held after a sequence of calls is the bytes of the book after it, and what each call returns is what the
-- book's reply gives. Assumes that setup was not refused, that the counts first lent are of 64 bits, and of the calls what the types of their parameters say.
use Rattle.std.specs.Prelude.{◌≡◌, ℕ, true, false, length}
use Rattle.std.proofs.Math.Path.{refl, ap, ap₂, subst}
use Rattle.std.proofs.Common.{sym, ◌∙◌, arith}
use Rattle.std.proofs.Math.Option.{some}
use mathlib.Core.List.{List, [], ◌∷◌, ◌++◌, append_assoc, append-nil}
use Rattle.buffer.specs.Cases.{by_test}
use Rattle.buffer.specs.Same.{Bytes}
use Rattle.config.specs.Config.{refused, settings_of}
use Rattle.resp3.specs.Ends.{is_value}
use Rattle.format.specs.Lists.{All}
use Rattle.book.specs.Book.{Setup, Book, Counts, fresh}
use Rattle.book.specs.Calls.{after_call, after_calls, run, traced}
use Rattle.book.proofs.Counts.{counted-run}
use Rattle.book.specs.Counted.{Counted}
use Rattle.book.proofs.Trace.{run-traced}
use Rattle.arena.specs.Decode.{decode}
use Rattle.arena.specs.Tests.{WellFormed}
use Rattle.arena.specs.Layout.{encode}
use Rattle.arena.proofs.Image.{decode-encode}
use Rattle.arena.proofs.Keeps.{formed}
use Rattle.arena.specs.Held.{Held, lend}
use Rattle.call_entry.specs.Entered.{no_cause}
use Rattle.single_calls.specs.Laws.{fresh-held}
use Rattle.siphash.specs.Sip.{sip_hash13}
use Rattle.demand.specs.Call.{RealCall, Given, Return, Stepped, setup_by, after_setup, step, held_after, returns, setup_with, book_call, book_calls}
use Rattle.demand.specs.Demand.{held_by, answers_to, setup, book_by, CallIn, returned}
use Rattle.demand.specs.Replies.{respond, return_for}
use Rattle.demand.specs.Corollaries.{response}
use Rattle.demand.proofs.Sequences.{given-front, book-last}
use Rattle.demand.proofs.Bridge.{is-sized}
use Rattle.demand.proofs.ModeRefused.{is-bad}
use Rattle.demand.proofs.Laws.{fine, setup-proper}
use Rattle.demand.proofs.OneCall.{booked, step_is}
use Rattle.demand.proofs.MayStore.{calls-may}

-- the returns that the book's replies give, each call on the book that those before it left
unfoldable pub said_by : ℕ → ℕ → Setup → List RealCall → Book → List Return
said_by size n p [] bk = []
said_by size n p (c ∷ cs) bk = return_for size n c (respond p size n c bk) ∷ said_by size n p cs (after_call p (book_call size n c) bk)

-- the clause `held` of demand 3 for every sequence, from which the corollaries go on
abbrev pub AllHeld : ℕ → ℕ → ℕ → Bytes → Counts → Type 0
AllHeld size mode ttl s lent =
    (cs : List RealCall) → All Given cs → held_by size mode ttl s lent cs ≡ lend (setup size mode ttl s lent) (length s) (book_by size mode ttl s lent cs)

module _ (size mode ttl : ℕ) (s : Bytes) (lent : Counts) (set-up : (setup_by size mode ttl s).cause ≡ no_cause) (counted : Counted lent) where
  -- the book's setup, and the book after some calls
  abbrev q : Setup
  q = setup size mode ttl s lent

  abbrev up_to : List RealCall → Book
  up_to cs = book_by size mode ttl s lent cs

  -- cause 1 lets size and arena length through
  pub passes : refused size mode (length s) ≡ false
  passes = by_test (refused size mode (length s)) (λ t. absurd (bad t)) (λ t. t)
    where
      bad : refused size mode (length s) ≡ true → ⊥
      bad t = let z : ◌≡◌ {A = ℕ} 1 0 = rw (is-bad size mode ttl (length s) t) at set-up in omega arith

  -- what the book comes to is well-formed
  pub rows-formed : (cs : List RealCall) → All Given cs → WellFormed is_value q (up_to cs).rows
  rows-formed cs g = formed is_value q (setup-proper size mode ttl s lent set-up) lent (book_calls size (length s) cs) (calls-may size (length s) cs g)

  pub counts-formed : (cs : List RealCall) → Counted (up_to cs).counts
  unfolding run
  counts-formed cs =
      subst (λ (z : Book). Counted z.counts) (sym (run-traced q (fresh lent) [] (book_calls size (length s) cs)))
      (counted-run q lent counted (traced q (fresh lent) [] (book_calls size (length s) cs)))

  -- one call more, after some
  pub next-step : (cs : List RealCall) → All Given cs → (c : RealCall) → step size c (lend q (length s) (up_to cs)) ≡ booked size (length s) c (up_to cs)
  next-step cs g c = step_is size (length s) (is-sized size (length s) mode ttl passes) (up_to cs) (rows-formed cs g) (counts-formed cs) c

  -- some calls more, after some
  held-from : (before cs : List RealCall) → All Given (before ++ cs)
      → held_after size cs (lend q (length s) (up_to before)) ≡ lend q (length s) (up_to (before ++ cs))
  unfolding held_after
  held-from before [] g = ap (λ (xs : List RealCall). lend q (length s) (up_to xs)) (sym (append-nil before))
  held-from before (c ∷ cs) g =
      ap (λ (x : Stepped). held_after size cs x.held) (next-step before (given-front before (c ∷ cs) g) c)
      ∙ ap (λ (bk : Book). held_after size cs (lend q (length s) bk)) (sym (book-last size (length s) q before c (fresh lent)))
      ∙ held-from (before ++ (c ∷ [])) cs (rw append_assoc g)
      ∙ ap (λ (xs : List RealCall). lend q (length s) (up_to xs)) (append_assoc before (c ∷ []) cs)

  -- what setup leaves is the bytes of the fresh book
  set-up-is : after_setup size mode ttl s lent ≡ lend q (length s) (fresh lent)
  unfolding setup_with settings_of lend fresh
  set-up-is =
      let e = fine size mode ttl (length s) set-up in
      λ i.
      record {
        arena = fresh-held sip_hash13 size mode ttl s (settings_of size mode ttl (length s)) lent e i;
        counts = lent;
        next = next_one i;
      }
    where
      next_one : (setup_by size mode ttl s).next ≡ 1
      next_one = rw (fine size mode ttl (length s) set-up) refl

  -- after a sequence from setup, the bytes of the book after it are held
  pub held-is : AllHeld size mode ttl s lent
  held-is cs g = ap (λ (h : Held). held_after size cs h) set-up-is ∙ (unfold book_calls after_calls in held-from [] cs g)

  -- what calls return after some
  said-from : (before cs : List RealCall) → All Given (before ++ cs)
      → returns size cs (lend q (length s) (up_to before)) ≡ said_by size (length s) q cs (up_to before)
  unfolding returns said_by
  said-from before [] g = refl
  said-from before (c ∷ cs) g =
      let one = next-step before (given-front before (c ∷ cs) g) c in
      let last = book-last size (length s) q before c (fresh lent) in
      ap₂ (λ (r : Return) (rs : List Return). r ∷ rs) (ap (λ (x : Stepped). x.return) one)
      (ap (λ (x : Stepped). returns size cs x.held) one
      ∙ ap (λ (bk : Book). returns size cs (lend q (length s) bk)) (sym last)
      ∙ said-from (before ++ (c ∷ [])) cs (rw append_assoc g)
      ∙ ap (said_by size (length s) q cs) last)

  -- and the returns of the sequence are those that the book's replies give
  pub answers-are : (cs : List RealCall) → All Given cs → answers_to size mode ttl s lent cs ≡ said_by size (length s) q cs (fresh lent)
  answers-are cs g = ap (λ (h : Held). returns size cs h) set-up-is ∙ (unfold book_calls after_calls in said-from [] cs g)

  -- ---- the fields

  module _ (cs : List RealCall) (given : All Given cs) where
    -- the calls before one are given calls
    pub before-given : (a : CallIn size mode ttl s lent cs) → All Given a.before
    before-given a = given-front a.before (a.call ∷ a.later) (subst (λ (z : List RealCall). All Given z) a.stands given)

    -- a call in its place, whole
    pub step_in : (a : CallIn size mode ttl s lent cs)
        → step size a.call (held_by size mode ttl s lent a.before) ≡ booked size (length s) a.call (up_to a.before)
    step_in a = ap (step size a.call) (held-is a.before (before-given a)) ∙ next-step a.before (before-given a) a.call

    pub answers-field : (a : CallIn size mode ttl s lent cs)
        → returned size mode ttl s lent a ≡ return_for size (length s) a.call (response size mode ttl s lent a)
    answers-field a = ap (λ (x : Stepped). x.return) (step_in a)

    pub image-field : (held_by size mode ttl s lent cs).arena ≡ encode q (length s) (up_to cs).rows
    image-field = ap (λ (h : Held). h.arena) (held-is cs given) ∙ (unfold lend in refl)

    pub rows-field : decode is_value q (held_by size mode ttl s lent cs).arena ≡ some (up_to cs).rows
    rows-field =
        ap (decode is_value q) image-field
        ∙ decode-encode is_value q (length s) (is-sized size (length s) mode ttl passes) (up_to cs).rows (rows-formed cs given)

    pub next_field : (held_by size mode ttl s lent cs).next ≡ (up_to cs).next
    next_field = ap (λ (h : Held). h.next) (held-is cs given) ∙ (unfold lend in refl)
