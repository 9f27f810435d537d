-- The clauses `single_stores` and `kept_at_once`: what a single store answers on the book before it, and that a store which answers 0 is what a lookup right
-- after it gets. Assumes what InTurn.antt does.
use Rattle.std.specs.Prelude.{◌≡◌, ℕ, ◌≤◌, Bool, ◌||◌, List, [], ◌∷◌, ◌++◌, eqb, ltb, length}
use Rattle.std.proofs.Math.Path.{refl, ap}
use Rattle.std.proofs.Common.{sym, ◌∙◌, subst, arith, eqb-true, ltb-true, le-ltb}
use Rattle.std.proofs.Math.Bool.{true, false, cond}
use Rattle.std.proofs.Math.Option.{Option, none, some}
use Rattle.buffer.specs.Cases.{by_test, eqb_same}
use Rattle.buffer.specs.Same.{Bytes}
use Rattle.buffer.specs.SameLaws.{same_refl}
use Rattle.config.specs.Limits.{max_mode}
use Rattle.config.specs.Causes.{no_space}
use Rattle.config.specs.Config.{refused}
use Rattle.format.specs.Lists.{All}
use Rattle.resp3.specs.Ends.{is_value}
use Rattle.book.specs.Book as book
use Rattle.book.specs.Book.{Setup, Book, Row, Item, Counts, Keyed, on, new_item, updated, value_for, fits, if_fits, key_of, effect_on, effect, fresh}
use Rattle.book.specs.Book.{answer_to, answers, after, after_all}
use Rattle.book.specs.Calls.{Call, ons, after_call, reply_to, call-defs}
use Rattle.book.specs.Counted.{Counted}
use Rattle.book.specs.Trace.{SoundBook}
use Rattle.book.proofs.Rows.{value_set}
use Rattle.book.specs.Residence.{item_of, is_stored}
use Rattle.book.proofs.Items.{stored_item, turned-defs, item-after}
use Rattle.book.specs.Lookups.{answer_from}
use Rattle.book.proofs.Lookups.{Serving, serving, lookup-answer}
use Rattle.book.specs.Demand3.{shard_after}
use Rattle.arena.proofs.Sequence.{outcome_of}
use Rattle.arena.specs.Held.{Held}
use Rattle.single_calls.specs.Single as one
use Rattle.call_entry.specs.Entered.{no_cause}
use Rattle.single_calls.specs.AsCall.{call_of, outcome_number, outcome_value}
use Rattle.caching.specs.Exported.{flag_of, bytes_of}
use Rattle.demand.specs.Call as real
use Rattle.demand.specs.Call.{RealCall, Given, looked_up, stored, Stepped, cause_of, setup_by, step, book_call}
use Rattle.demand.specs.Words.{got, gots_of, store_number}
use Rattle.demand.specs.Demand.{answer, setup, book_by, CallIn, returned, book_before}
use Rattle.demand.specs.Replies.{respond, return_for, single_number, single_value}
use Rattle.demand.proofs.Bridge.{is-fine}
use Rattle.demand.proofs.ModeRefused.{mode-bad, is-bad}
use Rattle.demand.proofs.Laws.{sound-field}
use Rattle.demand.proofs.Sequences.{given-front, book-last}
use Rattle.demand.proofs.InTurn.{passes, before-given, held-is, next-step, answers-field}
use Rattle.demand.proofs.Refusals.{other-mode}

-- ---- a store on a book

module _ (p : Setup) (k c v : Bytes) (x e : ℕ) (bk : Book) where
  abbrev q : Keyed
  q = book.store k c v x e

  -- its answer is the space rule's
  space-answer : (effect_on p q (bk.rows (p.shard_of k))).answer ≡ cond (fits p.bytes (shard_after p k c v x e bk)) book.stored book.no_space
  unfolding effect_on shard_after
  space-answer = by-fit (fits p.bytes (shard_after p k c v x e bk)) _ _
    where
      by-fit : (b : Bool) (new old : Row) → (if_fits b new old).answer ≡ cond b book.stored book.no_space
      by-fit true new old = unfold if_fits in refl
      by-fit false new old = unfold if_fits in refl

  -- and so is its number
  space-number : one.number_of (answer_to p (on q) bk) ≡ cond (fits p.bytes (shard_after p k c v x e bk)) no_cause no_space
  unfolding one.number_of answer_to effect key_of
  space-number =
      ap one.number_of space-answer ∙ by_test (fits p.bytes (shard_after p k c v x e bk)) (λ t. rw t) (λ t. rw t)

  -- the number of a store that cause 1 lets through
  fine-number : (m : ℕ) → ltb max_mode m ≡ false → outcome_number q (outcome_of (reply_to p (call_of q) bk)) ≡ store_number p m k c v x e bk
  unfolding call_of one.wrong_bytes store_number
  fine-number m l =
      rw l
      (by_test (one.overlong q) (λ t. rw t (unfold call-defs outcome_of outcome_number in rw t))
      (λ t.
      by_test (is_value v) (λ u. rw (t, u) (unfold call-defs ons answers outcome_of outcome_number in space-number))
      (λ u. rw (t, u) (unfold call-defs outcome_of outcome_number in rw t))))

-- the return of a store, after a setup that cause 1 let through
store-return : (size n mode m d e : ℕ) (k c v : Bytes) (x : ℕ) (p : Setup) (bk : Book) → refused size mode n ≡ false
    → return_for size n (real.store m d e k c v x) (respond p size n (real.store m d e k c v x) bk) ≡ stored (store_number p m k c v x e bk)
unfolding return_for book_call
store-return size n mode m d e k c v x p bk pass =
    by_test (ltb max_mode m) (λ l. rw (is-bad size m d n (mode-bad size m n (ltb-true max_mode m l))) (unfold single_number store_number in rw l))
    (λ l. rw (is-fine size n m d (other-mode size mode n m pass l)) (unfold single_number in ap stored (fine-number p k c v x e bk m l)))

-- ---- a store that is kept, and a lookup of it

-- no cause met it
record Kept (p : Setup) (m : ℕ) (k c v : Bytes) (x e : ℕ) (bk : Book) : Type 0 where
  mode : ltb max_mode m ≡ false
  short : one.overlong (book.store k c v x e) ≡ false
  value : is_value v ≡ true
  room : fits p.bytes (shard_after p k c v x e bk) ≡ true

-- of a store that answers 0
kept : (p : Setup) (m : ℕ) (k c v : Bytes) (x e : ℕ) (bk : Book) → store_number p m k c v x e bk ≡ no_cause → Kept p m k c v x e bk
unfolding store_number
kept p m k c v x e bk z =
    by_test (ltb max_mode m) (λ a. absurd (let y : ◌≡◌ {A = ℕ} 1 0 = rw a at z in omega arith))
    (λ a.
    by_test (one.overlong (book.store k c v x e)) (λ b. absurd (let y : ◌≡◌ {A = ℕ} 3 0 = rw (a, b) at z in omega arith))
    (λ b.
    by_test (is_value v)
    (λ f.
    by_test (fits p.bytes (shard_after p k c v x e bk)) (λ g. record { mode = a; short = b; value = f; room = g })
    (λ g. absurd (let y : ◌≡◌ {A = ℕ} 11 0 = rw (a, b, f, g) at z in omega arith)))
    (λ f. absurd (let y : ◌≡◌ {A = ℕ} 6 0 = rw (a, b, f) at z in omega arith))))

-- a key and command key that a store may have a lookup may have
lookup-short : (k c v : Bytes) (x e t : ℕ) → one.overlong (book.store k c v x e) ≡ false → one.overlong (book.lookup k c t e) ≡ false
unfolding one.overlong
lookup-short k c v x e t b = rw (front (ltb 65535 (length k) || ltb 16777216 (length c)) (ltb 16777216 (length v)) b) refl
  where
    front : (y z : Bool) → (y || z) ≡ false → y ≡ false
    front true z h = h
    front false z h = refl

-- a new item of a store serves the store's value, in time and under its epoch
new-serves : (k c v : Bytes) (x e t : ℕ) → t ≤ x → Serving (some (new_item k c v x e)) c t e v
unfolding value_for
new-serves k c v x e t l = record { item = new_item k c v x e; is = refl; epoch = refl; in-time = l; holds = rw (same_refl c) }

-- so does the item that a kept store leaves, whatever the key had before
item-serves : (k c v : Bytes) (x e t : ℕ) (o : Option Item) → t ≤ x → Serving (some (stored_item k c v x e o)) c t e v
unfolding stored_item
item-serves k c v x e t none l = new-serves k c v x e t l
item-serves k c v x e t (some it) l =
    by_test (eqb e it.epoch)
    (λ u. rw u (record { item = updated c v x it; is = refl; epoch = sym (eqb-true e it.epoch u); in-time = l; holds = value_set c v it.entries }))
    (λ u. rw u (new-serves k c v x e t l))

module _ (p : Setup) (m : ℕ) (k c v : Bytes) (x e : ℕ) (bk : Book) (w : Kept p m k c v x e bk) where
  -- the book has it then
  kept-book : after_call p (call_of (book.store k c v x e)) bk ≡ after p (on (book.store k c v x e)) bk
  unfolding call_of one.wrong_bytes
  kept-book = rw (w.short, w.value) (unfold call-defs ons after_all in refl)

  -- its answer says so
  is-stored : is_stored (effect_on p (book.store k c v x e) (bk.rows (p.shard_of k))).answer ≡ true
  unfolding is_stored
  is-stored = ap is_stored (space-answer p k c v x e bk) ∙ rw w.room

  -- its key's item is the one stored
  kept-item : SoundBook p bk → item_of p k (after p (on (book.store k c v x e)) bk) ≡ some (stored_item k c v x e (item_of p k bk))
  unfolding turned-defs
  kept-item sound =
      item-after p k (on (book.store k c v x e)) bk sound
      ∙ rw (eqb_same (p.shard_of k), is-stored, same_refl k)

  -- a lookup after it hits
  kept-hit : SoundBook p bk → (t : ℕ) → t ≤ x → answer_to p (on (book.lookup k c t e)) (after p (on (book.store k c v x e)) bk) ≡ book.hit v
  kept-hit sound t l =
      let bk' : Book = after p (on (book.store k c v x e)) bk in
      lookup-answer p k c t e bk' ∙ ap (λ (o : Option Item). answer_from o c t e) (kept-item sound)
      ∙ (serving (some (stored_item k c v x e (item_of p k bk))) c t e v).1 (item-serves k c v x e t (item_of p k bk) l)

-- the return of a lookup that hits
hit-return : (size n m d t e : ℕ) (k c v : Bytes) (p : Setup) (bk : Book) → refused size m n ≡ false → one.overlong (book.lookup k c t e) ≡ false
    → answer_to p (on (book.lookup k c t e)) bk ≡ book.hit v
    → gots_of (return_for size n (real.lookup m d t e k c) (respond p size n (real.lookup m d t e k c) bk)) ≡ got v ∷ []
unfolding gots_of return_for book_call call_of one.wrong_bytes
hit-return size n m d t e k c v p bk f short hits =
    rw (is-fine size n m d f, short)
    (unfold call-defs ons answers single_number single_value outcome_of outcome_number outcome_value in
    ap (λ (z : book.Answer). gots_of (looked_up (record { cause = one.number_of z; hit = flag_of (one.served_by z) }) 0 (bytes_of (one.served_by z)))) hits
    ∙ (unfold one.number_of one.served_by in refl))

-- ---- the clauses

module _ (size mode ttl : ℕ) (s : Bytes) (lent : Counts) (set-up : (setup_by size mode ttl s).cause ≡ no_cause) (counted : Counted lent)
    (cs : List RealCall) (given : All Given cs) where
  abbrev r : Setup
  r = setup size mode ttl s lent

  -- cause 1 let the setup through
  pass : refused size mode (length s) ≡ false
  pass = passes size mode ttl s lent set-up counted

  -- what a store after some calls answers
  store-after : (before : List RealCall) → All Given before → (m d e : ℕ) (k c v : Bytes) (x : ℕ)
      → answer size mode ttl s lent before (real.store m d e k c v x) ≡ stored (store_number r m k c v x e (book_by size mode ttl s lent before))
  store-after before g m d e k c v x =
      ap (λ (h : Held). (step size (real.store m d e k c v x) h).return) (held-is size mode ttl s lent set-up counted before g)
      ∙ ap (λ (z : Stepped). z.return) (next-step size mode ttl s lent set-up counted before g (real.store m d e k c v x))
      ∙ store-return size (length s) mode m d e k c v x r (book_by size mode ttl s lent before) pass

  pub single-stores-field : (a : CallIn size mode ttl s lent cs) (m d e x : ℕ) (k c v : Bytes) → a.call ≡ real.store m d e k c v x
      → returned size mode ttl s lent a ≡ stored (store_number r m k c v x e (book_before size mode ttl s lent a))
  single-stores-field a m d e x k c v is =
      ap (answer size mode ttl s lent a.before) is
      ∙ store-after a.before (before-given size mode ttl s lent set-up counted cs given a) m d e k c v x

  module _ (before : List RealCall) (g : All Given before) (m d e x : ℕ) (k c v : Bytes)
      (zero : answer size mode ttl s lent before (real.store m d e k c v x) ≡ stored no_cause) where
    abbrev bk : Book
    bk = book_by size mode ttl s lent before

    -- a store after some calls that answers 0
    was-kept : Kept r m k c v x e bk
    was-kept = kept r m k c v x e bk (unfold cause_of in ap cause_of (sym (store-after before g m d e k c v x) ∙ zero))

    -- the book is told of it
    told-store : book_call size (length s) (real.store m d e k c v x) ≡ call_of (book.store k c v x e)
    unfolding book_call
    told-store = rw (is-fine size (length s) m d (other-mode size mode (length s) m pass was-kept.mode))

    -- and has it then
    then-book : book_by size mode ttl s lent (before ++ (real.store m d e k c v x ∷ [])) ≡ after r (on (book.store k c v x e)) bk
    then-book =
        book-last size (length s) r before (real.store m d e k c v x) (fresh lent)
        ∙ ap (λ (z : Call). after_call r z bk) told-store
        ∙ kept-book r m k c v x e bk was-kept

    -- so that a lookup of it hits
    then-hit : (t : ℕ) → t ≤ x → answer_to r (on (book.lookup k c t e)) (book_by size mode ttl s lent (before ++ (real.store m d e k c v x ∷ []))) ≡ book.hit v
    then-hit t l =
        ap (answer_to r (on (book.lookup k c t e))) then-book ∙ kept-hit r m k c v x e bk was-kept (sound-field size mode ttl s lent set-up before) t l

  pub kept-at-once-field : (a : CallIn size mode ttl s lent cs) (m d m' d' e t x : ℕ) (k c v : Bytes) (before : List RealCall)
      → a.call ≡ real.lookup m' d' t e k c → a.before ≡ before ++ (real.store m d e k c v x ∷ [])
      → answer size mode ttl s lent before (real.store m d e k c v x) ≡ stored no_cause → m' ≤ max_mode → t ≤ x
      → gots_of (returned size mode ttl s lent a) ≡ got v ∷ []
  kept-at-once-field a m d m' d' e t x k c v before call-is before-is zero low l =
      let g : All Given before =
      given-front before (real.store m d e k c v x ∷ []) (subst (All Given) before-is (before-given size mode ttl s lent set-up counted cs given a)) in
      ap gots_of (answers-field size mode ttl s lent set-up counted cs given a)
      ∙ ap (λ (z : RealCall). gots_of (return_for size (length s) z (respond r size (length s) z (book_before size mode ttl s lent a)))) call-is
      ∙ hit-return size (length s) m' d' t e k c v r (book_before size mode ttl s lent a)
      (other-mode size mode (length s) m' pass (le-ltb max_mode m' low))
      (lookup-short k c v x e t (was-kept before g m d e x k c v zero).short)
      (ap (λ (z : List RealCall). answer_to r (on (book.lookup k c t e)) (book_by size mode ttl s lent z)) before-is ∙ then-hit before g m d e x k c v zero t l)
