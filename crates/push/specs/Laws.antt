-- The ways through a push, as laws of its definition. Assumes what `Lent` says of the arena.
use Rattle.std.specs.Prelude.{◌≡◌, Bool, true, false, cond, ℕ, ◌<◌, Option, Some, None}
use Rattle.std.proofs.Math.Path.{refl, ap, subst}
use Rattle.std.proofs.Common.{sym, ◌∙◌, arith}
use Rattle.std.proofs.Math.Option.{some}
use Rattle.std.proofs.Math.Option as option
use Rattle.buffer.specs.Cases.{by_test}
use Rattle.buffer.specs.Same.{Bytes, same}
use Rattle.buffer.specs.Ascii.{ascii}
use Rattle.config.specs.declared.Settings.{Settings}
use Rattle.statistics.specs.declared.Statistics.{Statistics}
use Rattle.resp3.specs.declared.Kind.TheVariants.{BlobString}
use Rattle.resp3.specs.Value.{Value, Values, blob_string, simple_string, simple_error, number, null_as, double, boolean, blob_error, verbatim_string}
use Rattle.resp3.specs.Value.{big_number, array, map, set, attribute, push as push_value, none, more, Means}
use Rattle.resp3_element.specs.declared.Cursor.{Cursor}
use Rattle.resp3_element.specs.Meaning.{of_kind, is_null, blob_of, array_of, Stands, Holds}
use Rattle.book.specs.Book.{Setup, Book, Counts, plus, count, invalidate, on, invalidate_all, all_entries, put, effect, after, after_all}
use Rattle.book.specs.Calls.{push, push_all, ons, invalidations, after_call, call-defs}
use Rattle.arena.specs.SetupOf.{setup_of}
use Rattle.resolving.specs.Pushes.{keys_of, ignored, invalidating, after_first, is_invalidate, from_elements, from_push}
use Rattle.sharded_lru.specs.Lent.{setup_now, Lent, Arena, effect_in, rows_after}
use Rattle.sharded_lru.specs.Laws.{rows-after}
use Rattle.statistics.specs.OfBook.{counts_of}
use Rattle.push.specs.Kept.{Kept, One, Standing}

-- ---- values

-- a value that is no blob string has no bytes, and so not these
pub invalidate-law : (v : Value) (b : Bytes) → b ≡ blob_of v → same b (ascii "invalidate") ≡ is_invalidate v
unfolding same
invalidate-law (blob_string xs) b e = rw e
invalidate-law (simple_string xs) b e = rw e
invalidate-law (simple_error xs) b e = rw e
invalidate-law (number z) b e = rw e
invalidate-law (null_as q) b e = rw e
invalidate-law (double xs) b e = rw e
invalidate-law (boolean t) b e = rw e
invalidate-law (blob_error xs) b e = rw e
invalidate-law (verbatim_string f xs) b e = rw e
invalidate-law (big_number xs) b e = rw e
invalidate-law (array vs) b e = rw e
invalidate-law (map ps) b e = rw e
invalidate-law (set vs) b e = rw e
invalidate-law (attribute ps v) b e = rw e
invalidate-law (push_value vs) b e = rw e

-- ---- cursors

-- where none are left there are no values
stands-none : (s : Bytes) (c : Cursor) (v : Value) (vs : Values) → Stands s c (more v vs) → c.left ≡ 0 → ⊥
stands-none s c v vs st e = let l = st.left in omega arith

-- where some are left there is one
stands-some : (s : Bytes) (c : Cursor) → Stands s c none → (c.left ≡ 0 → ⊥) → ⊥
stands-some s c st n = n st.left

-- the next cursor, and the value at one
abbrev pub Moves : Bytes → Cursor → Cursor → Type 0
Moves s c d = (v : Value) (vs : Values) → Stands s c (more v vs) → Stands s d vs

abbrev pub Hands : Bytes → Cursor → Bytes → Type 0
Hands s c e = (v : Value) (vs : Values) → Stands s c (more v vs) → Means e v

-- behind one value stand the others
pub next-stands : (s : Bytes) (c d : Cursor) → (c.left ≡ 0 → ⊥) → Moves s c d → Standing s c → Standing s d
next-stands s c d n f q = go q.values q.stands
  where
    go : (vs : Values) → Stands s c vs → Standing s d
    go none st = absurd (stands-some s c st n)
    go (more v vs) st = record { values = vs; stands = f v vs st }

-- and one is fewer
pub next-less : (s : Bytes) (c d : Cursor) → (c.left ≡ 0 → ⊥) → Moves s c d → Standing s c → d.left < c.left
next-less s c d n f q = go q.values q.stands
  where
    go : (vs : Values) → Stands s c vs → d.left < c.left
    go none st = absurd (stands-some s c st n)
    go (more v vs) st = let l = st.left in let m = (f v vs st).left in omega arith

-- the value there
pub one-there : (s : Bytes) (c : Cursor) (e : Bytes) → (c.left ≡ 0 → ⊥) → Hands s c e → Standing s c → One e
one-there s c e n f q = go q.values q.stands
  where
    go : (vs : Values) → Stands s c vs → One e
    go none st = absurd (stands-some s c st n)
    go (more v vs) st = record { value = v; means = f v vs st }

-- a list's elements
pub list-there : (s : Bytes) (c : Cursor) (o : option.Option Values) → Holds s (Some c) o → Standing s c
list-there s c (some vs) h = record { values = vs; stands = h }
list-there s c option.none h = absurd h

-- what is known of a list's elements, where there are some or none
pub holds_of : (s : Bytes) (r : Option Cursor) (c : Cursor) (o : option.Option Values) → r ≡ Some c → Holds s r o → Holds s (Some c) o
holds_of s r c o e h = subst (λ (x : Option Cursor). Holds s x o) e h

pub holds-no : (s : Bytes) (r : Option Cursor) (o : option.Option Values) → r ≡ None → Holds s r o → Holds s None o
holds-no s r o e h = subst (λ (x : Option Cursor). Holds s x o) e h

-- ---- the book

module _ (p : Setup) (bk : Book) where
  -- a push that is ignored
  pub ignored-is : after_call p ignored bk ≡ bk
  unfolding call-defs ons invalidations after_all
  ignored-is = refl

  pub all-is : after_call p push_all bk ≡ after p invalidate_all bk
  unfolding call-defs after_all
  all-is = refl

  -- an element that is no key
  pub key-skipped : (v : Value) → of_kind BlobString v ≡ false → after_call p (push (keys_of (more v none))) bk ≡ bk
  unfolding call-defs ons invalidations after_all
  key-skipped v e = rw e

  -- one that is
  pub key-dropped : (v : Value) → of_kind BlobString v ≡ true → after_call p (push (keys_of (more v none))) bk ≡ after p (on (invalidate (blob_of v))) bk
  unfolding call-defs ons invalidations after_all
  key-dropped v e = rw e

  -- one element after the other
  pub keys-more : (v : Value) (vs : Values) → after_call p (push (keys_of (more v vs))) bk
      ≡ after_call p (push (keys_of vs)) (after_call p (push (keys_of (more v none))) bk)
  unfolding call-defs ons invalidations after_all
  keys-more v vs = by_test (of_kind BlobString v) (λ e. rw e) (λ e. rw e)

module _ (g : Settings) (s : Bytes) (c : Statistics) (bk : Book) (k : Kept g s c bk) where
  -- what is the same book's
  pub kept_same : (to : Book) → to ≡ bk → Kept g s c to
  kept_same to e = subst (Kept g s c) (sym e) k

  -- after an invalidation that dropped n entries
  pub kept-dropped : (key u : Bytes) (d : Statistics) (n : ℕ) → Lent g u (rows_after (setup_now g) (on (invalidate key)) bk.rows)
      → (effect_in (setup_now g) (invalidate key) bk.rows).adds ≡ plus 0 0 n → counts_of d ≡ count (counts_of c) (plus 0 0 n)
      → Kept g u d (after (setup_now g) (on (invalidate key)) bk)
  unfolding after put effect
  kept-dropped key u d n l a e =
      record {
        lent = subst (Lent g u) (sym (rows-after (setup_now g) (on (invalidate key)) bk)) l;
        counts = e ∙ ap (λ (x : Counts). count x (plus 0 0 n)) k.counts ∙ ap (count bk.counts) (sym a);
      }

  -- after an element that is a key
  pub kept-key : (v : Value) (key u : Bytes) (d : Statistics) (n : ℕ) → key ≡ blob_of v → of_kind BlobString v ≡ true
      → Lent g u (rows_after (setup_now g) (on (invalidate key)) bk.rows) → (effect_in (setup_now g) (invalidate key) bk.rows).adds ≡ plus 0 0 n
      → counts_of d ≡ count (counts_of c) (plus 0 0 n) → Kept g u d (after_call (setup_now g) (push (keys_of (more v none))) bk)
  kept-key v key u d n i b l a e =
      subst (Kept g u d)
      (ap (λ (x : Bytes). after (setup_now g) (on (invalidate x)) bk) i ∙ sym (key-dropped (setup_now g) bk v b))
      (kept-dropped key u d n l a e)

  -- after one of everything
  pub kept-cleared : (u : Bytes) (d : Statistics) (n : ℕ) → Lent g u (rows_after (setup_now g) invalidate_all bk.rows) → n ≡ all_entries g.shards bk.rows
      → counts_of d ≡ count (counts_of c) (plus 0 0 n) → Kept g u d (after (setup_now g) invalidate_all bk)
  unfolding after setup_of
  kept-cleared u d n l a e =
      record {
        lent = subst (Lent g u) (sym (rows-after (setup_now g) invalidate_all bk)) l;
        counts = e ∙ ap (λ (x : Counts). count x (plus 0 0 n)) k.counts ∙ ap (λ (m : ℕ). count bk.counts (plus 0 0 m)) a;
      }

-- the book of an arena and counts
pub some-book : (g : Settings) (s : Bytes) (c : Statistics) → Arena g s → Book
some-book g s c a = record { rows = a.rows; counts = counts_of c; next = 0 }

pub some-kept : (g : Settings) (s : Bytes) (c : Statistics) (a : Arena g s) → Kept g s c (some-book g s c a)
unfolding some-book
some-kept g s c a = record { lent = a.lent; counts = refl }

pub kept-arena : (g : Settings) (s : Bytes) (c : Statistics) (bk : Book) → Kept g s c bk → Arena g s
kept-arena g s c bk k = record { rows = bk.rows; lent = k.lent }

-- ---- the keys of an array, one by one

-- what is left to do from the cursor c on leads to the book `goal`
pub record Going (g : Settings) (array s : Bytes) (c : Cursor) (counts : Statistics) (goal : Book) : Type 0 where
  pub rest : Values
  pub stands : Stands array c rest
  pub book : Book
  pub kept : Kept g s counts book
  pub leads : after_call (setup_now g) (push (keys_of rest)) book ≡ goal

module _ (g : Settings) (array s : Bytes) (c : Cursor) (counts : Statistics) (goal : Book) (w : Going g array s c counts goal) where
  pub going-standing : Standing array c
  going-standing = record { values = w.rest; stands = w.stands }

  -- past one element
  pub going_on : (e u : Bytes) (d : Cursor) (sum : Statistics) → (c.left ≡ 0 → ⊥) → Hands array c e → Moves array c d
      → ((v : Value) (bk : Book) → Means e v → Kept g s counts bk → Kept g u sum (after_call (setup_now g) (push (keys_of (more v none))) bk))
      → Going g array u d sum goal
  going_on e u d sum n hands moves drops = go w.rest w.stands w.leads
    where
      go : (vs : Values) → Stands array c vs → after_call (setup_now g) (push (keys_of vs)) w.book ≡ goal → Going g array u d sum goal
      go none st l = absurd (stands-some array c st n)
      go (more v vs) st l =
          record {
            rest = vs;
            stands = moves v vs st;
            book = after_call (setup_now g) (push (keys_of (more v none))) w.book;
            kept = drops v w.book (hands v vs st) w.kept;
            leads = sym (keys-more (setup_now g) w.book v vs) ∙ l;
          }

  -- at the end
  pub going_done : c.left ≡ 0 → Kept g s counts goal
  going_done e = go w.rest w.stands w.leads
    where
      go : (vs : Values) → Stands array c vs → after_call (setup_now g) (push (keys_of vs)) w.book ≡ goal → Kept g s counts goal
      go none st l = kept_same g s counts w.book w.kept goal (sym l ∙ ignored-is (setup_now g) w.book)
      go (more v vs) st l = absurd (stands-none array c v vs st e)

-- ---- by what the elements are

module _ (g : Settings) (s u : Bytes) (c : Cursor) (d : Statistics) (bk : Book) where
  -- the value behind `invalidate` is an array
  pub by-array : (o : option.Option Values) (b : Bool) → Holds s (Some c) o → ((vs : Values) → Stands s c vs
      → Kept g u d (after_call (setup_now g) (push (keys_of vs)) bk))
      → Kept g u d (after_call (setup_now g) (invalidating o b) bk)
  by-array (some vs) b h f = f vs h
  by-array option.none b h f = absurd h

  -- the value is a push
  pub by-push : (o : option.Option Values) → Holds s (Some c) o → ((vs : Values) → Stands s c vs → Kept g u d (after_call (setup_now g) (from_elements vs) bk))
      → Kept g u d (after_call (setup_now g) (from_push o) bk)
  by-push (some vs) h f = f vs h
  by-push option.none h f = absurd h

module _ (p : Setup) (s : Bytes) (bk : Book) where
  -- it is neither an array nor a null
  pub no-array : (o : option.Option Values) (b : Bool) → Holds s None o → b ≡ false → after_call p (invalidating o b) bk ≡ bk
  no-array (some vs) b h e = absurd h
  no-array option.none b h e = rw e (ignored-is p bk)

  -- it is a null
  null-all : (o : option.Option Values) (b : Bool) → Holds s None o → b ≡ true → after_call p (invalidating o b) bk ≡ after p invalidate_all bk
  null-all (some vs) b h e = absurd h
  null-all option.none b h e = rw e (all-is p bk)

  -- it is no push
  pub no-push : (o : option.Option Values) → Holds s None o → after_call p (from_push o) bk ≡ bk
  no-push (some vs) h = absurd h
  no-push option.none h = ignored-is p bk

  module _ (c : Cursor) (vs : Values) (st : Stands s c vs) where
    -- no elements
    pub elements-none : c.left ≡ 0 → after_call p (from_elements vs) bk ≡ bk
    elements-none e = go vs st
      where
        go : (vs : Values) → Stands s c vs → after_call p (from_elements vs) bk ≡ bk
        go none st = ignored-is p bk
        go (more v vs) st = absurd (stands-none s c v vs st e)

    -- another first element
    pub elements-other : (c.left ≡ 0 → ⊥) → ((v : Value) (vs : Values) → Stands s c (more v vs) → is_invalidate v ≡ false)
        → after_call p (from_elements vs) bk ≡ bk
    elements-other n f = go vs st
      where
        go : (vs : Values) → Stands s c vs → after_call p (from_elements vs) bk ≡ bk
        go none st = ignored-is p bk
        go (more v vs) st = ap (λ (t : Bool). after_call p (cond t (after_first vs) ignored) bk) (f v vs st) ∙ ignored-is p bk

    module _ (n : c.left ≡ 0 → ⊥) (f : (v : Value) (vs : Values) → Stands s c (more v vs) → is_invalidate v ≡ true) (d : Cursor) (moves : Moves s c d) where
      -- nothing behind it
      pub elements-alone : d.left ≡ 0 → after_call p (from_elements vs) bk ≡ bk
      elements-alone e = go vs st
        where
          go : (vs : Values) → Stands s c vs → after_call p (from_elements vs) bk ≡ bk
          go none st = ignored-is p bk
          go (more v none) st = ap (λ (t : Bool). after_call p (cond t (after_first none) ignored) bk) (f v none st) ∙ ignored-is p bk
          go (more v (more w vs)) st = absurd (stands-none s d w vs (moves v (more w vs) st) e)

      -- a value behind it decides
      pub elements-by : (P : Book → Type 0) → (d.left ≡ 0 → ⊥)
          → ((v : Value) (vs : Values) → Stands s d (more v vs) → P (after_call p (invalidating (array_of v) (is_null v)) bk))
          → P (after_call p (from_elements vs) bk)
      elements-by P m by = go vs st
        where
          go : (vs : Values) → Stands s c vs → P (after_call p (from_elements vs) bk)
          go none st = absurd (stands-some s c st n)
          go (more v none) st = absurd (stands-some s d (moves v none st) m)
          go (more v (more w vs)) st =
              subst P (sym (ap (λ (t : Bool). after_call p (cond t (after_first (more w vs)) ignored) bk) (f v (more w vs) st)))
              (by w vs (moves v (more w vs) st))

-- it is a null, and everything was dropped
pub by-null : (g : Settings) (s u : Bytes) (d : Statistics) (bk : Book) (o : option.Option Values) (b : Bool) → Holds s None o → b ≡ true
    → Kept g u d (after (setup_now g) invalidate_all bk)
    → Kept g u d (after_call (setup_now g) (invalidating o b) bk)
by-null g s u d bk o b h e k = subst (Kept g u d) (sym (null-all (setup_now g) s bk o b h e)) k
