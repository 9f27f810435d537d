-- Stores one after the other, and the store pass by the invariant that all passes share. Assumes nothing.
use Rattle.std.specs.Prelude.{◌≡◌, None, Some, Bool, cond, length}
use Rattle.std.proofs.Math.Path.{refl, ap}
use Rattle.std.proofs.Common.{sym, ap₂, subst, ◌∙◌}
use Rattle.std.proofs.Math.Bool.{true, false}
use mathlib.Core.List.{List, [], ◌∷◌, ◌++◌}
use Prim.Native.Nat.{ℕ, ◌+◌, ◌≤◌, ◌<◌}
use native.Mathlib.Omega.{arith}
use Rattle.buffer.specs.Same.{Bytes}
use Rattle.config.specs.declared.CacheMode.{CacheMode}
use Rattle.config.specs.declared.Settings.{Settings}
use Rattle.resp3.specs.Value.{Values}
use Rattle.resp3.specs.Ends.{is_value}
use Rattle.resp3.proofs.Law.{value-law}
use Rattle.book.specs.Book.{Setup, Row, Book, Answer, hit, miss, stored, no_space, invalidated, number, store, on, effect, plus, after, answer_to}
use Rattle.book.specs.Book.{after_all, answers}
use Rattle.book.specs.Calls.{Storing, stores, ons, refusals}
use Rattle.planning.specs.Plan.{Node}
use Rattle.sharded_lru.specs.Lent.{setup_now, Lent, Arena, effect_in, rows_after}
use Rattle.sharded_lru.specs.Laws.{rows-after}
use Rattle.shard_store.specs.Store as space
use Rattle.resolving.specs.Kept.{Storable}
use Rattle.resolving_walk.specs.Walk.{Walked, walk}
use Rattle.resolving_step.specs.declared.Walk.{Walk}
use Rattle.resolving_step.specs.declared.Step.{Step}
use Rattle.resolving_step.specs.declared.Missed.{Missed}
use Rattle.resolving_step.specs.declared.Next.{Next}
use Rattle.resolving_step.specs.declared.Next.TheVariants.{Plan, Reply, Head, Keep, Pass}
use Rattle.resolving_step.specs.Steps.{next_bytes, next_stores, StepIs}
use Rattle.resolving_passes.specs.Passes.{Starts}
use Rattle.resolving_passes.specs.Reached.{Reached, start, stepped, stops, ended}
use Rattle.resolving_store.specs.Stores.{Stores, walked_stores}

-- ---- stores in turn, on the book

-- one answer before others
refusals-first : (a : Answer) (said : List Answer) → refusals (a ∷ said) ≡ refusals (a ∷ []) + refusals said
unfolding refusals
refusals-first (hit v) said = omega arith
refusals-first miss said = omega arith
refusals-first stored said = omega arith
refusals-first no_space said = omega arith
refusals-first invalidated said = omega arith
refusals-first (number n) said = omega arith

module _ (p : Setup) (e : ℕ) where
  after-append : (ss later : List Storing) (bk : Book)
      → after_all p (ons (stores e (ss ++ later))) bk ≡ after_all p (ons (stores e later)) (after_all p (ons (stores e ss)) bk)
  unfolding after_all ons stores
  after-append [] later bk = refl
  after-append (t ∷ ss) later bk = after-append ss later (after p (on (store t.wanted.key t.wanted.command t.value t.expiry e)) bk)

  refusals-append : (ss later : List Storing) (bk : Book)
      → refusals (answers p (ons (stores e (ss ++ later))) bk)
      ≡ refusals (answers p (ons (stores e ss)) bk) + refusals (answers p (ons (stores e later)) (after_all p (ons (stores e ss)) bk))
  unfolding after_all answers ons stores
  refusals-append [] later bk = unfold refusals in omega arith
  refusals-append (t ∷ ss) later bk =
      let q = on (store t.wanted.key t.wanted.command t.value t.expiry e) in
      let a = answer_to p q bk in
      let i = refusals-append ss later (after p q bk) in
      let f = refusals-first a (answers p (ons (stores e (ss ++ later))) (after p q bk)) in
      let g = refusals-first a (answers p (ons (stores e ss)) (after p q bk)) in
      omega arith

module _ (g : Settings) (e : ℕ) where
  -- no store
  pub stores-none : (s : Bytes) → Stores g e [] s s 0
  unfolding after_all answers ons stores refusals
  stores-none s bk l = (l, refl)

  -- some, and then others
  pub stores-append : (ss later : List Storing) (a b c : Bytes) (n m : ℕ) → Stores g e ss a b n → Stores g e later b c m → Stores g e (ss ++ later) a c (n + m)
  stores-append ss later a b c n m f h bk l =
      let u = f bk l in
      let v = h (after_all (setup_now g) (ons (stores e ss)) bk) u.0 in
      (rw (after-append (setup_now g) e ss later bk) v.0, ap₂ ◌+◌ u.1 v.1 ∙ sym (refusals-append (setup_now g) e ss later bk))

  -- 1 where a store is refused, else 0
  abbrev refused_of : Bool → ℕ
  refused_of true = 0
  refused_of false = 1

  refused-one : (b : Bool) → refused_of b ≡ refusals (cond b stored no_space ∷ [])
  unfolding refusals
  refused-one true = refl
  refused-one false = refl

  -- what the cache's store answers and leaves
  abbrev pub Inserts : Storing → Bytes → Bytes → Bool → Type 0
  Inserts t old new b =
      (rows : ℕ → Row) → Lent g old rows
      → Lent g new (rows_after (setup_now g) (on (store t.wanted.key t.wanted.command t.value t.expiry e)) rows)
      × (cond b stored no_space ≡ (effect_in (setup_now g) (store t.wanted.key t.wanted.command t.value t.expiry e) rows).answer)

  -- one
  stores_one : (t : Storing) (old new : Bytes) (b : Bool) → Inserts t old new b → Stores g e (t ∷ []) old new (refused_of b)
  unfolding after_all answers ons stores answer_to effect
  stores_one t old new b f bk l =
      let u = f bk.rows l in
      let q = on (store t.wanted.key t.wanted.command t.value t.expiry e) in
      (subst (λ (rows : ℕ → Row). Lent g new rows) (sym (rows-after (setup_now g) q bk)) u.0, refused-one b ∙ ap (λ (a : Answer). refusals (a ∷ [])) u.1)

  -- one that is kept, and one that there is no space for
  pub stores-kept : (t : Storing) (old new : Bytes) (b : Bool) → b ≡ true → Inserts t old new b → Stores g e (t ∷ []) old new 0
  stores-kept t old new b h f = subst (λ (k : Bool). Stores g e (t ∷ []) old new (refused_of k)) h (stores_one t old new b f)

  pub stores-refused : (t : Storing) (old new : Bytes) (b : Bool) → b ≡ false → Inserts t old new b → Stores g e (t ∷ []) old new 1
  stores-refused t old new b h f = subst (λ (k : Bool). Stores g e (t ∷ []) old new (refused_of k)) h (stores_one t old new b f)

  -- some book has the rows
  abbrev any_book : (ℕ → Row) → Book
  any_book rows = record { rows = rows; counts = plus 0 0 0; next = 0 }

  -- so an arena stays one
  pub stores-arena : (ss : List Storing) (old new : Bytes) (n : ℕ) → Stores g e ss old new n → Arena g old → Arena g new
  stores-arena ss old new n f a =
      record { rows = (after_all (setup_now g) (ons (stores e ss)) (any_book a.rows)).rows; lent = (f (any_book a.rows) a.lent).0 }

  -- ---- the store pass

  module _ (p s : Bytes) (mode : CacheMode) (clock : ℕ) where
    -- where it stands: what is stored so far
    pub record Kept (o : Walked) (c : Walk) (old new : Bytes) (n : ℕ) : Type 0 where
      pub bs : Bytes
      pub ss : List Storing
      pub reached : Reached p s mode clock o c bs ss
      pub stores : Stores g e ss old new n
      pub few : n ≤ c.at

    pub keep-start : (old : Bytes) (c : Walk) (ns : List Node) (es rs : Values) → Starts p s c ns es rs → Kept (walk mode clock ns es rs) c old old 0
    keep-start old c ns es rs h = record { bs = []; ss = []; reached = start p s mode clock c ns es rs h; stores = stores-none old; few = omega arith }

    pub keep-step : (o : Walked) (c : Walk) (old new then : Bytes) (n m : ℕ) (t : Step) → c.at < length p → StepIs p s c mode clock (Some t)
        → Stores g e (next_stores p s t.next) new then m → m ≤ 1 → Kept o c old new n → Kept o t.walk old then (n + m)
    keep-step o c old new then n m t l f h i k =
        let z = stepped p s mode clock o c k.bs k.ss t k.reached l f in
        record {
          bs = k.bs ++ next_bytes p s t.next;
          ss = k.ss ++ next_stores p s t.next;
          reached = z.on;
          stores = stores-append k.ss (next_stores p s t.next) old new then n m k.stores h;
          few = omega (arith, k.few, z.far);
        }

    pub keep-wrong : (o : Walked) (c : Walk) (old new : Bytes) (n : ℕ) → c.at < length p → StepIs p s c mode clock None
        → Kept o c old new n → Stores g e (walked_stores o) old new n
    unfolding walked_stores
    keep-wrong o c old new n l f k = rw (stops p s mode clock o c k.bs k.ss k.reached l f) k.stores

    pub keep-end : (o : Walked) (c : Walk) (old new : Bytes) (n : ℕ) → length p ≤ c.at → Kept o c old new n → Stores g e (walked_stores o) old new n
    unfolding walked_stores
    keep-end o c old new n l k = rw (ended p s mode clock o c k.bs k.ss k.reached l) k.stores

-- what keeps nothing stores nothing
pub stores-nothing : (p s : Bytes) (n : Next) → ((m : Missed) (a e : ℕ) → n ≡ Keep m a e → ⊥) → next_stores p s n ≡ []
stores-nothing p s (Plan a e) h = refl
stores-nothing p s (Reply a e) h = refl
stores-nothing p s (Head n) h = refl
stores-nothing p s (Keep m a e) h = absurd (h m a e refl)
stores-nothing p s Pass h = refl

-- what the cache's store asks for
pub insertable : (t : Storing) → Storable t → space.Storable t.wanted.key t.wanted.command t.value × (is_value t.value ≡ true)
insertable t h = (record { key = h.key; command = h.command; value = h.value.small }, (value-law t.value).1 h.value)
