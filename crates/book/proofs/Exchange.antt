-- Laws of specs/Exchange.antt. Two neighbouring calls with no shard in common may change places: each a single lookup, store or invalidation or a push, refused or not.
-- Then the book at the end is the same, and so is what every call answers. Assumes nothing.
use Rattle.std.specs.Prelude.{◌≡◌, refl, ◌≢◌, ℕ, suc, ◌+◌, ◌%◌, ◌^◌, List, [], ◌∷◌, ◌++◌, length, eqb}
use Rattle.std.proofs.Common.{sym, ap, ap₂, ◌∙◌, subst, arith, eqb-true, ne_eqb}
use Rattle.std.proofs.Math.Path.{fun_ext}
use Rattle.std.proofs.Math.Nat.{mod-add-mod}
use Rattle.std.proofs.Math.Option.{Option, some}
use Rattle.buffer.specs.Cases.{by_test}
use Rattle.buffer.specs.Same.{Bytes}
use Rattle.config.specs.Wrap.{wrap}
use Rattle.book.specs.Book.{Row, Setup, Book, Counts, Effect, Answer, Keyed, key_of, on, count, set_row, put, effect, after, answer_to, after_all, answers}
use Rattle.book.specs.Calls.{Call, push, push_all, single, refused, invalidations, ons, after_call, reply_to, after_calls, replies, homes, these}
use Rattle.book.specs.Calls.{shards_of, NotAmong, Apart, NoneCommon, call-defs}
use Rattle.book.proofs.Trace.{row-elsewhere}
use Rattle.book.specs.Exchange.{Movable, Swapped, a_push, a_push_all, a_refused, a_single}

-- sums that wrap may be added in either order
wrap-swap : (a x y : ℕ) → wrap (wrap (a + x) + y) ≡ wrap (wrap (a + y) + x)
wrap-swap a x y =
    mod-add-mod (a + x) (2 ^ 64) y ∙ ap (λ (z : ℕ). z % 2 ^ 64) (omega arith) ∙ sym (mod-add-mod (a + y) (2 ^ 64) x)

-- and so may counts
count-swap : (was a b : Counts) → count (count was a) b ≡ count (count was b) a
unfolding count
count-swap was a b =
    λ i.
    record {
      hits = wrap-swap was.hits a.hits b.hits i;
      misses = wrap-swap was.misses a.misses b.misses i;
      invalidates = wrap-swap was.invalidates a.invalidates b.invalidates i;
    }

-- rows of different shards may be set in either order
row-swap : (s t : ℕ) (a b : Row) (rows : ℕ → Row) → s ≢ t → set_row s a (set_row t b rows) ≡ set_row t b (set_row s a rows)
unfolding set_row
row-swap s t a b rows n = fun_ext at
  where
    at : (i : ℕ) → set_row s a (set_row t b rows) i ≡ set_row t b (set_row s a rows) i
    at i =
        by_test (eqb i s)
        (λ e. by_test (eqb i t) (λ h. absurd (n (sym (eqb-true i s e) ∙ eqb-true i t h))) (λ h. rw (e, h)))
        (λ e. by_test (eqb i t) (λ h. rw (e, h)) (λ h. rw (e, h)))

-- effects on different shards may be put in either order
put-swap : (s t : ℕ) (f g : Effect) (bk : Book) → s ≢ t → put s f (put t g bk) ≡ put t g (put s f bk)
unfolding put
put-swap s t f g bk d =
    λ i.
    record {
      rows = row-swap s t f.row g.row bk.rows d i;
      counts = count-swap bk.counts g.adds f.adds i;
      next = bk.next;
    }

-- the shards of two events differ
abbrev Off : Setup → Keyed → Keyed → Type 0
Off p a b = p.shard_of (key_of a) ≢ p.shard_of (key_of b)

-- in either order
off-sym : (p : Setup) (a b : Keyed) → Off p a b → Off p b a
off-sym p a b d q = d (sym q)

-- an event does not see what another did in another shard
unseen : (p : Setup) (a b : Keyed) (bk : Book) → Off p a b → effect p a (after p (on b) bk) ≡ effect p a bk
unfolding effect after put
unseen p a b bk d = let n = ne_eqb (p.shard_of (key_of a)) (p.shard_of (key_of b)) d in rw row-elsewhere

-- so its answer is the same
answer-swap : (p : Setup) (a b : Keyed) (bk : Book) → Off p a b → answer_to p (on a) (after p (on b) bk) ≡ answer_to p (on a) bk
unfolding answer_to
answer-swap p a b bk d = ap (λ (f : Effect). f.answer) (unseen p a b bk d)

-- and the two may happen in either order
after-swap : (p : Setup) (a b : Keyed) (bk : Book) → Off p a b → after p (on a) (after p (on b) bk) ≡ after p (on b) (after p (on a) bk)
unfolding after
after-swap p a b bk d =
    ap (λ (f : Effect). put (p.shard_of (key_of a)) f (after p (on b) bk)) (unseen p a b bk d)
    ∙ put-swap (p.shard_of (key_of a)) (p.shard_of (key_of b)) (effect p a bk) (effect p b bk) bk d
    ∙ ap (λ (f : Effect). put (p.shard_of (key_of b)) f (after p (on a) bk)) (sym (unseen p b a bk (off-sym p a b d)))

-- ---- an event and a run of events

-- the event may happen before or after the run
after-past : (p : Setup) (a : Keyed) (ys : List Keyed) (bk : Book) → NotAmong (p.shard_of (key_of a)) (homes p ys)
    → after_all p (ons ys) (after p (on a) bk) ≡ after p (on a) (after_all p (ons ys) bk)
unfolding after_all ons homes
after-past p a [] bk d = refl
after-past p a (b ∷ ys) bk d =
    ap (after_all p (ons ys)) (sym (after-swap p a b bk d.0)) ∙ after-past p a ys (after p (on b) bk) d.1

-- the run's answers do not see it
answers-past : (p : Setup) (a : Keyed) (ys : List Keyed) (bk : Book) → NotAmong (p.shard_of (key_of a)) (homes p ys)
    → answers p (ons ys) (after p (on a) bk) ≡ answers p (ons ys) bk
unfolding answers ons homes
answers-past p a [] bk d = refl
answers-past p a (b ∷ ys) bk d =
    ap₂ ◌∷◌ (answer-swap p b a bk (off-sym p a b d.0))
    (ap (answers p (ons ys)) (sym (after-swap p a b bk d.0)) ∙ answers-past p a ys (after p (on b) bk) d.1)

-- and its answer does not see the run
answer-past : (p : Setup) (a : Keyed) (ys : List Keyed) (bk : Book) → NotAmong (p.shard_of (key_of a)) (homes p ys)
    → answer_to p (on a) (after_all p (ons ys) bk) ≡ answer_to p (on a) bk
unfolding after_all ons homes
answer-past p a [] bk d = refl
answer-past p a (b ∷ ys) bk d = answer-past p a ys (after p (on b) bk) d.1 ∙ answer-swap p a b bk d.0

-- ---- two runs of events

-- either order of two runs leaves the same book and gives each the same answers
record Exchanged (p : Setup) (xs ys : List Keyed) (bk : Book) : Type 0 where
  book : after_all p (ons ys) (after_all p (ons xs) bk) ≡ after_all p (ons xs) (after_all p (ons ys) bk)
  first : answers p (ons xs) (after_all p (ons ys) bk) ≡ answers p (ons xs) bk
  second : answers p (ons ys) (after_all p (ons xs) bk) ≡ answers p (ons ys) bk

-- runs with no shard in common may change places
exchange : (p : Setup) (xs ys : List Keyed) (bk : Book) → Apart (homes p xs) (homes p ys) → Exchanged p xs ys bk
unfolding after_all answers ons homes
exchange p [] ys bk d = record { book = refl; first = refl; second = refl }
exchange p (a ∷ xs) ys bk d =
    let ih = exchange p xs ys (after p (on a) bk) d.1 in
    let past = after-past p a ys bk d.0 in
    record {
      book = ih.book ∙ ap (after_all p (ons xs)) past;
      first = ap₂ ◌∷◌ (answer-past p a ys bk d.0) (ap (answers p (ons xs)) (sym past) ∙ ih.first);
      second = ih.second ∙ answers-past p a ys bk d.0;
    }

-- ---- two calls

-- either order leaves the same book and gives each the same answer
pub record Commute (p : Setup) (x y : Call) (bk : Book) : Type 0 where
  pub book : after_call p y (after_call p x bk) ≡ after_call p x (after_call p y bk)
  pub first : reply_to p x (after_call p y bk) ≡ reply_to p x bk
  pub second : reply_to p y (after_call p x bk) ≡ reply_to p y bk

-- it does not matter which is called first
commute-sym : (p : Setup) (x y : Call) (bk : Book) → Commute p x y bk → Commute p y x bk
commute-sym p x y bk w = record { book = sym w.book; first = w.second; second = w.first }

-- a call that does nothing, and answers the same on every book
abbrev Idle : Setup → Call → Type 0
Idle p c = ((bk : Book) → after_call p c bk ≡ bk) × ((bk bk' : Book) → reply_to p c bk ≡ reply_to p c bk')

-- such a call commutes with any
idle-commutes : (p : Setup) (x y : Call) (bk : Book) → Idle p x → Commute p x y bk
idle-commutes p x y bk w =
    record {
      book = ap (after_call p y) (w.0 bk) ∙ sym (w.0 (after_call p y bk));
      first = w.1 (after_call p y bk) bk;
      second = ap (reply_to p y) (w.0 bk);
    }

-- a call that is its events with keys, and always happens
abbrev Behaves : Setup → Call → List Keyed → Type 0
Behaves p c qs = ((bk : Book) → after_call p c bk ≡ after_all p (ons qs) bk) × ((bk : Book) → reply_to p c bk ≡ some (answers p (ons qs) bk))

-- two such calls with no shard in common commute
keyed-commutes : (p : Setup) (x y : Call) (xs ys : List Keyed) (bk : Book) → Behaves p x xs → Behaves p y ys → Apart (homes p xs) (homes p ys)
    → Commute p x y bk
keyed-commutes p x y xs ys bk v w d =
    let g : Exchanged p xs ys bk = exchange p xs ys bk d in
    record {
      book = w.0 _ ∙ ap (after_all p (ons ys)) (v.0 bk) ∙ g.book ∙ ap (after_all p (ons xs)) (sym (w.0 bk)) ∙ sym (v.0 _);
      first = v.1 _ ∙ ap (λ (z : Book). some (answers p (ons xs) z)) (w.0 bk) ∙ ap some g.first ∙ sym (v.1 bk);
      second = w.1 _ ∙ ap (λ (z : Book). some (answers p (ons ys) z)) (v.0 bk) ∙ ap some g.second ∙ sym (w.1 bk);
    }

-- only no events have no shards
no-homes : (p : Setup) (qs : List Keyed) → homes p qs ≡ [] → qs ≡ []
unfolding homes
no-homes p [] e = refl
no-homes p (q ∷ qs) e = let z : ◌≡◌ {A = ℕ} 0 1 = cc in absurd (omega arith)

-- with no event such a call is idle
behaves-idle : (p : Setup) (c : Call) (qs : List Keyed) → Behaves p c qs → homes p qs ≡ [] → Idle p c
unfolding after_all answers ons
behaves-idle p c qs w e =
    let v : Behaves p c [] = subst (Behaves p c) (no-homes p qs e) w in
    (v.0, λ bk bk'. v.1 bk ∙ sym (v.1 bk'))

-- what each of the calls that may move is: events with keys, idle, or all
data Shape (p : Setup) : Call → Type 0 where
  keyed : {c : Call} (qs : List Keyed) → shards_of p c ≡ these (homes p qs) → Behaves p c qs → Shape p c
  idle : {c : Call} → Idle p c → Shape p c
  every : Shape p push_all

-- each of the calls that may move has one of the three shapes
shape : (p : Setup) {c : Call} → Movable c → Shape p c
unfolding call-defs shards_of after_all
shape p (a_single q) = keyed (q ∷ []) refl (λ bk. refl, λ bk. refl)
shape p (a_push ks) = keyed (invalidations ks) refl (λ bk. refl, λ bk. refl)
shape p a_push_all = every
shape p a_refused = idle (λ bk. refl, λ bk bk'. refl)

-- calls of these shapes with no shard in common commute
by_shape : (p : Setup) {x y : Call} → Shape p x → Shape p y → NoneCommon (shards_of p x) (shards_of p y) → (bk : Book) → Commute p x y bk
unfolding shards_of
by_shape p {x} {y} (idle v) w d bk = idle-commutes p x y bk v
by_shape p {x} {y} (keyed xs e v) (keyed ys g w) d bk = keyed-commutes p x y xs ys bk v w (rw (e, g) at d)
by_shape p {x} {y} (keyed xs e v) (idle w) d bk = commute-sym p y x bk (idle-commutes p y x bk w)
by_shape p {x} (keyed xs e v) every d bk = idle-commutes p x push_all bk (behaves-idle p x xs v (rw e at d))
by_shape p {y = y} every (keyed ys g w) d bk =
    commute-sym p y push_all bk (idle-commutes p y push_all bk (behaves-idle p y ys w (rw g at d)))
by_shape p {y = y} every (idle w) d bk = commute-sym p y push_all bk (idle-commutes p y push_all bk w)
by_shape p every every d bk = absurd d

-- two such calls with no shard in common commute on every book
pub commute : (p : Setup) {x y : Call} → Movable x → Movable y → NoneCommon (shards_of p x) (shards_of p y) → (bk : Book) → Commute p x y bk
commute p m m' d bk = by_shape p (shape p m) (shape p m') d bk

-- ---- two neighbours in a sequence

-- two calls that commute may change places
pub swapped : (p : Setup) (bk : Book) (before : List Call) (x y : Call) (later : List Call) → ((bk : Book) → Commute p x y bk)
    → Swapped p bk before x y later
unfolding after_calls replies
swapped p bk [] x y later w =
    let g : Commute p x y bk = w bk in
    record {
      book = ap (after_calls p later) g.book;
      of_before = [];
      of_x = reply_to p x bk;
      of_y = reply_to p y bk;
      of_later = replies p later (after_call p y (after_call p x bk));
      as_many = refl;
      answered = ap (λ (z : Option (List Answer)). reply_to p x bk ∷ z ∷ replies p later (after_call p y (after_call p x bk))) g.second;
      exchanged = ap₂ (λ (z : Option (List Answer)) (b : Book). reply_to p y bk ∷ z ∷ replies p later b) g.first (sym g.book);
    }
swapped p bk (c ∷ before) x y later w =
    let g : Swapped p (after_call p c bk) before x y later = swapped p (after_call p c bk) before x y later w in
    record {
      book = g.book;
      of_before = reply_to p c bk ∷ g.of_before;
      of_x = g.of_x;
      of_y = g.of_y;
      of_later = g.of_later;
      as_many = ap suc g.as_many;
      answered = ap (λ (z : List (Option (List Answer))). reply_to p c bk ∷ z) g.answered;
      exchanged = ap (λ (z : List (Option (List Answer))). reply_to p c bk ∷ z) g.exchanged;
    }
