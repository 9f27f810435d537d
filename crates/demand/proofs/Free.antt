-- What calls do not see: all but a new epoch are not given the next number, a store and a resolving no counts either, and the book's calls for them leave
-- these as they were. Assumes of stores that the counts are of 64 bits.
use Rattle.std.specs.Prelude.{◌≡◌, ℕ, Bool, List, [], ◌∷◌, length}
use Rattle.std.proofs.Math.Path.{refl}
use Rattle.std.proofs.Common.{sym, ap, ◌∙◌, subst}
use Rattle.buffer.specs.Cases.{by_test}
use Rattle.buffer.specs.Same.{Bytes}
use Rattle.config.specs.Config.{checked}
use Rattle.resp3.specs.Value.{Value}
use Rattle.book.specs.Book as book
use Rattle.book.specs.Book.{Setup, Book, Answer, Keyed, on, answers, answer_to, effect, after, put, after_all}
use Rattle.book.specs.Calls as calls
use Rattle.book.specs.Calls.{Call, Wanted, Storing, ons, lookups, stores, invalidations, after_call, call-defs}
use Rattle.book.proofs.Counts.{store-counts}
use Rattle.book.specs.Counted.{Counted}
use Rattle.arena.specs.Layout.{encode}
use Rattle.arena.specs.Held.{lend}
use Rattle.plan.specs.Decode.{decode_plan}
use Rattle.resolving.specs.Pushes.{pushed}
use Rattle.single_calls.specs.AsCall.{call_of}
use Rattle.demand.specs.Call.{RealCall, planning, resolving, push, lookup, store, invalidate, new_epoch, with_arena, book_call}
use Rattle.demand.specs.Replies.{with_next}
use Rattle.demand.specs.CorollaryWords.{LentArena}
use Rattle.demand.proofs.BookCalls.{of-single, of-pushed, of-push, of-planning, of-resolving, of-fine}

-- ---- the next number

-- the book with another next number
abbrev pub renumbered : ℕ → Book → Book
renumbered next bk = record { rows = bk.rows; counts = bk.counts; next = next }

-- events with keys: the same answers and the same book, whatever the next number
pub said-free : (p : Setup) (qs : List Keyed) (next : ℕ) (bk : Book) → answers p (ons qs) (renumbered next bk) ≡ answers p (ons qs) bk
unfolding ons answers answer_to effect after put
said-free p [] next bk = refl
said-free p (q ∷ qs) next bk = ap (λ (z : List Answer). answer_to p (on q) bk ∷ z) (said-free p qs next (after p (on q) bk))

pub keys-free : (p : Setup) (qs : List Keyed) (next : ℕ) (bk : Book) → after_all p (ons qs) (renumbered next bk) ≡ renumbered next (after_all p (ons qs) bk)
unfolding ons effect after put after_all
keys-free p [] next bk = refl
keys-free p (q ∷ qs) next bk = keys-free p qs next (after p (on q) bk)

module _ (p : Setup) (next : ℕ) (bk : Book) where
  -- a call of the book that does not see it
  abbrev pub Free : Call → Type 0
  Free c = after_call p c (renumbered next bk) ≡ renumbered next (after_call p c bk)

  -- each kind of them
  none_free : Free calls.refused
  unfolding call-defs after_all
  none_free = refl

  one_free : (q : Keyed) → Free (calls.single q)
  unfolding call-defs
  one_free q = keys-free p (q ∷ []) next bk

  keys-pushed : (ks : List Bytes) → Free (calls.push ks)
  unfolding call-defs
  keys-pushed ks = keys-free p (invalidations ks) next bk

  all-pushed : Free calls.push_all
  unfolding call-defs after_all after
  all-pushed = refl

  planning-free : (t e : ℕ) (ws : List Wanted) (test : List Answer → Bool) → Free (calls.planning t e ws test)
  unfolding call-defs after_all
  planning-free t e ws test =
      rw (said-free p (lookups t e ws) next bk)
      (by_test (test (answers p (ons (lookups t e ws)) bk)) (λ x. rw x) (λ x. rw x (keys-free p (lookups t e ws) next bk)))

  resolving-free : (e : ℕ) (ss : List Storing) → Free (calls.resolving e ss)
  unfolding call-defs
  resolving-free e ss = keys-free p (stores e ss) next bk

  resolving7-free : (e : ℕ) (ss : List Storing) → Free (calls.resolving7 e ss)
  unfolding call-defs
  resolving7-free e ss = keys-free p (stores e ss) next bk

  -- what a single call and a push tell the book
  pub single-free : (q : Keyed) → Free (call_of q)
  single-free q = of-single Free q none_free (one_free q)

  pub push-free : (v : Value) → Free (pushed v)
  push-free v = of-pushed Free keys-pushed all-pushed v

  -- what any call but a new epoch does
  pub told_free : (size n : ℕ) (c : RealCall) → LentArena c → Free (book_call size n c)
  unfolding book_call
  told_free size n (planning m d t e bytes plan send) a =
      of-fine Free (checked size m d n) _ none_free (λ g. of-planning Free g t e bytes (length plan) (length send) none_free (planning-free t e))
  told_free size n (resolving m d t e plan replies answer) a =
      of-fine Free (checked size m d n) _ none_free
      (λ g. of-resolving Free g.mode replies t e (length answer) none_free (resolving-free e) (resolving7-free e) (decode_plan plan))
  told_free size n (push m d bytes) a = of-fine Free (checked size m d n) _ none_free (λ g. of-push Free keys-pushed all-pushed bytes none_free)
  told_free size n (lookup m d t e k c) a = of-fine Free (checked size m d n) _ none_free (λ g. single-free (book.lookup k c t e))
  told_free size n (store m d e k c v x) a = of-fine Free (checked size m d n) _ none_free (λ g. single-free (book.store k c v x e))
  told_free size n (invalidate m d k) a = of-fine Free (checked size m d n) _ none_free (λ g. single-free (book.invalidate k))
  told_free size n new_epoch a = absurd a

-- so such a call leaves the caller's own
pub next-stays : (p : Setup) (n : ℕ) (c : Call) (bk : Book) → Free p bk.next bk c
    → with_next bk.next (lend p n (after_call p c bk)) ≡ lend p n (after_call p c bk)
unfolding lend
next-stays p n c bk free = ap (lend p n) (sym free)

-- ---- the counts

-- stores add nothing
stores-counts : (p : Setup) (e : ℕ) (ss : List Storing) (bk : Book) → Counted bk.counts → (after_all p (ons (stores e ss)) bk).counts ≡ bk.counts
unfolding ons stores after_all
stores-counts p e [] bk w = refl
stores-counts p e (t ∷ ss) bk w =
    let same = store-counts p t.wanted.key t.wanted.command t.value t.expiry e bk w in
    stores-counts p e ss (after p (on (book.store t.wanted.key t.wanted.command t.value t.expiry e)) bk) (subst Counted (sym same) w) ∙ same

module _ (p : Setup) (bk : Book) (w : Counted bk.counts) where
  -- a call of the book that leaves them
  abbrev pub Uncounted : Call → Type 0
  Uncounted c = (after_call p c bk).counts ≡ bk.counts

  -- each kind of them
  none-uncounted : Uncounted calls.refused
  unfolding call-defs after_all
  none-uncounted = refl

  one-uncounted : (k c v : Bytes) (x e : ℕ) → Uncounted (calls.single (book.store k c v x e))
  unfolding call-defs ons after_all
  one-uncounted k c v x e = store-counts p k c v x e bk w

  resolving-uncounted : (e : ℕ) (ss : List Storing) → Uncounted (calls.resolving e ss)
  unfolding call-defs
  resolving-uncounted e ss = stores-counts p e ss bk w

  resolving7-uncounted : (e : ℕ) (ss : List Storing) → Uncounted (calls.resolving7 e ss)
  unfolding call-defs
  resolving7-uncounted e ss = stores-counts p e ss bk w

  -- what a single store and a resolving tell the book
  pub store-uncounted : (size n m d e : ℕ) (k c v : Bytes) (x : ℕ) → Uncounted (book_call size n (store m d e k c v x))
  unfolding book_call
  store-uncounted size n m d e k c v x =
      of-fine Uncounted (checked size m d n) _ none-uncounted (λ g. of-single Uncounted (book.store k c v x e) none-uncounted (one-uncounted k c v x e))

  pub resolving-uncounted-for : (size n m d t e : ℕ) (plan replies answer : Bytes) → Uncounted (book_call size n (resolving m d t e plan replies answer))
  unfolding book_call
  resolving-uncounted-for size n m d t e plan replies answer =
      of-fine Uncounted (checked size m d n) _ none-uncounted
      (λ g. of-resolving Uncounted g.mode replies t e (length answer) none-uncounted (resolving-uncounted e) (resolving7-uncounted e) (decode_plan plan))

-- so of what the caller holds such a call writes the arena alone
pub arena-held : (p : Setup) (n : ℕ) (c : Call) (bk : Book) → Free p bk.next bk c → (after_call p c bk).counts ≡ bk.counts
    → with_arena (lend p n (after_call p c bk)).arena (lend p n bk) ≡ lend p n (after_call p c bk)
unfolding lend
arena-held p n c bk free counts =
    λ i. record { arena = encode p n (after_call p c bk).rows; counts = sym counts i; next = sym (ap (λ (z : Book). z.next) free) i }
