-- The clause `exchanged`: two neighbouring single calls or pushes without a common shard may change places. Assumes what InTurn.antt does.
use Rattle.std.specs.Prelude.{◌≡◌, refl, ℕ, length}
use Rattle.std.proofs.Common.{sym, ap₂, ◌∙◌, subst}
use Rattle.std.proofs.Math.Path.{ap}
use mathlib.Core.List.{List, [], ◌∷◌, ◌++◌}
use Rattle.buffer.specs.Same.{Bytes}
use Rattle.config.specs.Config.{checked}
use Rattle.format.specs.Lists.{All}
use Rattle.book.specs.Book.{Setup, Book, Counts, Keyed, fresh}
use Rattle.book.specs.Calls.{Call, events_of, after_call, after_calls, shards_of, NoneCommon}
use Rattle.book.specs.Counted.{Counted}
use Rattle.book.specs.Exchange as book
use Rattle.book.specs.Exchange.{a_single, a_push_all, a_refused}
use Rattle.book.proofs.Exchange.{Commute, commute, swapped}
use Rattle.arena.specs.Held.{lend}
use Rattle.call_entry.specs.Entered.{no_cause}
use Rattle.single_calls.specs.AsCall.{call_of}
use Rattle.demand.specs.Call.{RealCall, Given, Return, setup_by, book_call, book_calls}
use Rattle.demand.specs.Words.{Movable, a_push, a_lookup, a_store, an_invalidation, Apart}
use Rattle.demand.specs.Demand.{answers_to, setup, told, book_by, Exchanged}
use Rattle.demand.specs.Replies.{Response, respond, return_for}
use Rattle.demand.proofs.Elsewhere.{place-stays, common-sym}
use Rattle.demand.proofs.Touched.{none-common}
use Rattle.demand.proofs.BookCalls.{of-single, of-push, of-fine}
use Rattle.demand.proofs.Sequences.{given-front, calls-append}
use Rattle.demand.proofs.InTurn.{said_by, held-is, answers-are}

-- ---- the book's call for a call that may move

-- a single call may move
single-moves : (q : Keyed) → book.Movable (call_of q)
single-moves q = of-single book.Movable q a_refused (a_single q)

-- the book may move its call for a call that may move, refused or not
pub told-moves : (size n : ℕ) {c : RealCall} → Movable c → book.Movable (book_call size n c)
unfolding book_call
told-moves size n (a_push m d bytes) =
    of-fine book.Movable (checked size m d n) _ a_refused (λ g. of-push book.Movable (λ ks. book.a_push ks) a_push_all bytes a_refused)
told-moves size n (a_lookup m d t e k c) = of-fine book.Movable (checked size m d n) _ a_refused (λ g. single-moves _)
told-moves size n (a_store m d e k c v x) = of-fine book.Movable (checked size m d n) _ a_refused (λ g. single-moves _)
told-moves size n (an_invalidation m d k) = of-fine book.Movable (checked size m d n) _ a_refused (λ g. single-moves _)

-- ---- sequences

-- what the book's replies give for some calls and then others
said-append : (size n : ℕ) (p : Setup) (front back : List RealCall) (bk : Book)
    → said_by size n p (front ++ back) bk ≡ said_by size n p front bk ++ said_by size n p back (after_calls p (book_calls size n front) bk)
unfolding said_by after_calls book_calls
said-append size n p [] back bk = refl
said-append size n p (a ∷ front) back bk =
    ap (λ (z : List Return). return_for size n a (respond p size n a bk) ∷ z) (said-append size n p front back (after_call p (book_call size n a) bk))

-- two that commute
said-two : (size n : ℕ) (p : Setup) (x y : RealCall) (later : List RealCall) (bk : Book)
    → respond p size n y (after_call p (book_call size n x) bk) ≡ respond p size n y bk
    → said_by size n p (x ∷ y ∷ later) bk
    ≡ return_for size n x (respond p size n x bk) ∷ return_for size n y (respond p size n y bk)
    ∷ said_by size n p later (after_call p (book_call size n y) (after_call p (book_call size n x) bk))
unfolding said_by
said-two size n p x y later bk second =
    ap (λ (r : Response).
    return_for size n x (respond p size n x bk) ∷ return_for size n y r
    ∷ said_by size n p later (after_call p (book_call size n y) (after_call p (book_call size n x) bk))) second

said-turned : (size n : ℕ) (p : Setup) (x y : RealCall) (later : List RealCall) (bk : Book)
    → respond p size n x (after_call p (book_call size n y) bk) ≡ respond p size n x bk
    → after_call p (book_call size n y) (after_call p (book_call size n x) bk) ≡ after_call p (book_call size n x) (after_call p (book_call size n y) bk)
    → said_by size n p (y ∷ x ∷ later) bk
    ≡ return_for size n y (respond p size n y bk) ∷ return_for size n x (respond p size n x bk)
    ∷ said_by size n p later (after_call p (book_call size n y) (after_call p (book_call size n x) bk))
unfolding said_by
said-turned size n p x y later bk first same =
    ap₂ (λ (r : Response) (b : Book). return_for size n y (respond p size n y bk) ∷ return_for size n x r ∷ said_by size n p later b) first (sym same)

-- given calls with two neighbours turned
given-turned : (before : List RealCall) (x y : RealCall) (later : List RealCall) → All Given (before ++ (x ∷ y ∷ later)) → All Given (before ++ (y ∷ x ∷ later))
given-turned [] x y later g = (g.1.0, (g.0, g.1.1))
given-turned (a ∷ before) x y later g = (g.0, given-turned before x y later g.1)

-- ---- the clause

module _ (size mode ttl : ℕ) (s : Bytes) (lent : Counts) (set-up : (setup_by size mode ttl s).cause ≡ no_cause) (counted : Counted lent) where
  -- the book's setup, the arena's length, and the book before the two
  abbrev p : Setup
  p = setup size mode ttl s lent

  abbrev n : ℕ
  n = length s

  module _ (before later : List RealCall) (x y : RealCall) (given : All Given (before ++ (x ∷ y ∷ later))) (m : Movable x) (m' : Movable y)
      (d : NoneCommon (shards_of p (book_call size n x)) (shards_of p (book_call size n y))) where
    abbrev bk : Book
    bk = after_calls p (book_calls size n before) (fresh lent)

    -- the two commute on every book, so that the book after them is the same
    commutes : (b : Book) → Commute p (book_call size n x) (book_call size n y) b
    commutes b = commute p (told-moves size n m) (told-moves size n m') d b

    -- neither call's response is altered by the other
    first : respond p size n x (after_call p (book_call size n y) bk) ≡ respond p size n x bk
    first = λ i. record { reply = (commutes bk).first i; place = place-stays p (told-moves size n m) (told-moves size n m') d bk i }

    second : respond p size n y (after_call p (book_call size n x) bk) ≡ respond p size n y bk
    second =
        λ i.
        record {
          reply = (commutes bk).second i;
          place =
              place-stays p (told-moves size n m') (told-moves size n m)
              (common-sym (shards_of p (book_call size n x)) (shards_of p (book_call size n y)) d) bk i;
        }

    turned-given : All Given (before ++ (y ∷ x ∷ later))
    turned-given = given-turned before x y later given

    same-book : book_by size mode ttl s lent (before ++ (x ∷ y ∷ later)) ≡ book_by size mode ttl s lent (before ++ (y ∷ x ∷ later))
    unfolding book_calls
    same-book =
        ap (λ (z : List Call). after_calls p z (fresh lent)) (calls-append size n before (x ∷ y ∷ later))
        ∙ (swapped p (fresh lent) (book_calls size n before) (book_call size n x) (book_call size n y) (book_calls size n later) commutes).book
        ∙ ap (λ (z : List Call). after_calls p z (fresh lent)) (sym (calls-append size n before (y ∷ x ∷ later)))

    -- the calls before return what they return without the two
    before-are : said_by size n p before (fresh lent) ≡ answers_to size mode ttl s lent before
    before-are = sym (answers-are size mode ttl s lent set-up counted before (given-front before (x ∷ y ∷ later) given))

    -- all that the clause asks
    pub swap : Exchanged size mode ttl s lent before x y later
    swap =
        record {
          held =
              held-is size mode ttl s lent set-up counted (before ++ (x ∷ y ∷ later)) given ∙ ap (lend p n) same-book
              ∙ sym (held-is size mode ttl s lent set-up counted (before ++ (y ∷ x ∷ later)) turned-given);
          of_x = return_for size n x (respond p size n x bk);
          of_y = return_for size n y (respond p size n y bk);
          of_later = said_by size n p later (after_call p (book_call size n y) (after_call p (book_call size n x) bk));
          in_order =
              answers-are size mode ttl s lent set-up counted (before ++ (x ∷ y ∷ later)) given ∙ said-append size n p before (x ∷ y ∷ later) (fresh lent)
              ∙ ap₂ (λ (fs bs : List Return). fs ++ bs) before-are (said-two size n p x y later bk second);
          turned =
              answers-are size mode ttl s lent set-up counted (before ++ (y ∷ x ∷ later)) turned-given
              ∙ said-append size n p before (y ∷ x ∷ later) (fresh lent)
              ∙ ap₂ (λ (fs bs : List Return). fs ++ bs) before-are (said-turned size n p x y later bk first (commutes bk).book);
        }

  -- as the record asks for it
  pub exchanged-field : (cs : List RealCall) → All Given cs → (before later : List RealCall) (x y : RealCall) → cs ≡ before ++ (x ∷ y ∷ later) → Movable x
      → Movable y → Apart p (events_of (told size mode ttl s lent x)) (events_of (told size mode ttl s lent y))
      → Exchanged size mode ttl s lent before x y later
  exchanged-field cs given before later x y e m m' d =
      swap before later x y (subst (All Given) e given) m m' (none-common p (told-moves size n m) (told-moves size n m') d)
