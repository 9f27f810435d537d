-- Demand 3 on the book, clause by clause (rules D1 to D4 of docs/BEHAVIOUR.md): the record `Demand3`. A sequence is any list of `Call`, refused ones among
-- them, all under the one `Setup` that it began with. Here calls are what their arguments give (Calls.antt). What remains for the entry points to show: that
-- each reads its arguments as such a call, answers what `reply_to` says of it, and leaves an arena and counts that hold the book that `after_call` leaves. That
-- it holds of every sequence from a fresh book is in Demand3Laws.antt. Assumes nothing: these are definitions.
use Rattle.std.specs.Prelude.{◌≡◌, ◌↔◌, ℕ, zero, suc, ◌+◌, ◌-◌, ◌≤◌, ◌<◌, cond, List, [], ◌∷◌, ◌++◌, length}
use Rattle.std.proofs.Math.Option.{Option, none, some}
use Rattle.buffer.specs.Same.{Bytes}
use Rattle.config.specs.Wrap.{wrap}
use Rattle.book.specs.Book.{Row, Setup, Book, Counts, Answer, hit, miss, stored, no_space, number, lookup, store, Event, on, fresh, find}
use Rattle.book.specs.Book.{stored_row, row_bytes, fits, after}
use Rattle.book.specs.Calls.{Storing, Call, planning, resolving, resolving7, push, push_all, single, take_epoch, refused}
use Rattle.book.specs.Calls.{events_of, reply_to, refusals, after_calls, replies, run, onto, traced, shards_of, NoneCommon}
use Rattle.book.specs.Residence.{ServedBy}
use Rattle.book.specs.Trace.{SoundBook}
use Rattle.book.specs.Counted.{Counted}
use Rattle.book.specs.Tally.{hits_in, misses_in, tally_all}
use Rattle.book.specs.Exchange.{Movable, Swapped}

-- ---- the words of the statement

-- the answer at a place of a call's answers, counted from 0
unfoldable pub nth : List Answer → ℕ → Option Answer
nth [] i = none
nth (x ∷ xs) zero = some x
nth (x ∷ xs) (suc i) = nth xs i

-- the shard after a store, the space rule aside
unfoldable pub shard_after : Setup → Bytes → Bytes → Bytes → ℕ → ℕ → Book → Row
shard_after p k c v x e bk = stored_row p.keys (find k (bk.rows (p.shard_of k))) k c v x e (bk.rows (p.shard_of k))

-- how many of some stores the space rule refuses, each judged on the book that those before it left
unfoldable pub lacking : Setup → ℕ → List Storing → Book → ℕ
lacking p e [] bk = 0
lacking p e (w ∷ ws) bk =
    let others : ℕ = lacking p e ws (after p (on (store w.wanted.key w.wanted.command w.value w.expiry e)) bk) in
    cond (fits p.bytes (shard_after p w.wanted.key w.wanted.command w.value w.expiry e bk)) others (1 + others)

-- how many new epochs some calls are
unfoldable pub epochs_in : List Call → ℕ
epochs_in [] = 0
epochs_in (planning t e ws short ∷ cs) = epochs_in cs
epochs_in (resolving e ws ∷ cs) = epochs_in cs
epochs_in (resolving7 e ws ∷ cs) = epochs_in cs
epochs_in (push ks ∷ cs) = epochs_in cs
epochs_in (push_all ∷ cs) = epochs_in cs
epochs_in (single q ∷ cs) = epochs_in cs
epochs_in (take_epoch ∷ cs) = 1 + epochs_in cs
epochs_in (refused ∷ cs) = epochs_in cs

module _ (p : Setup) (lent : Counts) where
  -- the book after some calls from a fresh one
  abbrev pub book_of : List Call → Book
  book_of cs = after_calls p cs (fresh lent)

  -- the trace of what happened
  abbrev pub trace_of : List Call → List Event
  trace_of cs = traced p (fresh lent) [] cs

  -- a lookup of a call not refused: where its call stands, what the call answers, and where in the call it stands
  pub record LookupIn (cs : List Call) : Type 0 where
    pub before : List Call
    pub call : Call
    pub later : List Call
    pub stands : cs ≡ before ++ (call ∷ later)
    pub said : List Answer
    pub reply : reply_to p call (book_of before) ≡ some said
    pub earlier : List Event
    pub key : Bytes
    pub command : Bytes
    pub clock : ℕ
    pub epoch : ℕ
    pub rest : List Event
    pub event : events_of call ≡ earlier ++ (on (lookup key command clock epoch) ∷ rest)

  module _ {cs : List Call} where
    -- what it gets: its call's answer at its place
    unfoldable pub gets : LookupIn cs → Option Answer
    gets l = nth l.said (length l.earlier)

    -- what happened before it
    unfoldable pub past : LookupIn cs → List Event
    past l = onto (trace_of l.before) l.earlier

    -- the key's residence still runs there and serves v
    abbrev pub IsServed : LookupIn cs → Bytes → Type 0
    IsServed l v = ServedBy p (fresh lent) (past l) l.key l.command l.clock l.epoch v

  -- ---- the statement

  pub record Demand3 (cs : List Call) : Type 0 where
    -- what a call of the sequence answers, in the clauses below, is what it answers on the book that the calls before it left
    pub in_turn : (before later : List Call) (c : Call) → cs ≡ before ++ (c ∷ later)
        → replies p cs (fresh lent) ≡ replies p before (fresh lent) ++ (reply_to p c (book_of before) ∷ replies p later (book_of (before ++ (c ∷ []))))
    -- rule D2, for single lookups and those of plannings alike: a lookup is served exactly by a running residence of its key (`ServedBy`), and gets the
    -- latest store under its command key; without one it is told that it missed
    pub served : (l : LookupIn cs) (v : Bytes) → (gets l ≡ some (hit v)) ↔ IsServed l v
    pub unserved : (l : LookupIn cs) → ((v : Bytes) → IsServed l v → ⊥) → gets l ≡ some miss
    -- a single store is kept, or refused as 11, by the space rule and nothing else
    pub single_stored : (before later : List Call) (k c v : Bytes) (x e : ℕ) → cs ≡ before ++ (single (store k c v x e) ∷ later)
        → row_bytes (shard_after p k c v x e (book_of before)) ≤ p.bytes - 16
        → reply_to p (single (store k c v x e)) (book_of before) ≡ some (stored ∷ [])
    pub single_refused : (before later : List Call) (k c v : Bytes) (x e : ℕ) → cs ≡ before ++ (single (store k c v x e) ∷ later)
        → p.bytes - 16 < row_bytes (shard_after p k c v x e (book_of before))
        → reply_to p (single (store k c v x e)) (book_of before) ≡ some (no_space ∷ [])
    -- a new epoch answers 1 and how many new epochs there were before it, modulo 2^64
    pub epochs : (before later : List Call) → cs ≡ before ++ (take_epoch ∷ later)
        → reply_to p take_epoch (book_of before) ≡ some (number (wrap (1 + epochs_in before)) ∷ [])
    -- a resolving reports as many stores as the space rule refuses
    pub reported : (before later : List Call) (e : ℕ) (ws : List Storing) → cs ≡ before ++ (resolving e ws ∷ later)
        → (said : List Answer) × (reply_to p (resolving e ws) (book_of before) ≡ some said) × (refusals said ≡ lacking p e ws (book_of before))
    -- what is held at the end (rule D3): `book_of` is the book by definition; it is what the events that happened leave, one after the other; each shard's
    -- row is one that it can hold, no item is in any other, and the counts hit and miss go by the answers
    pub left : book_of cs ≡ run p (fresh lent) (trace_of cs)
    pub rows : SoundBook p (book_of cs)
    pub no_others : (s : ℕ) → p.shards ≤ s → (book_of cs).rows s ≡ []
    pub hits : Counted lent → (book_of cs).counts.hits ≡ wrap (lent.hits + tally_all hits_in (replies p cs (fresh lent)))
    pub misses : Counted lent → (book_of cs).counts.misses ≡ wrap (lent.misses + tally_all misses_in (replies p cs (fresh lent)))
    -- rule D4: two neighbours that share no shard, each a single call or a push, may change places; every answer, shard and count stays
    pub exchanged : (before later : List Call) (x y : Call) → cs ≡ before ++ (x ∷ y ∷ later) → Movable x → Movable y
        → NoneCommon (shards_of p x) (shards_of p y) → Swapped p (fresh lent) before x y later
