-- Laws of specs/Trace.antt. Laws of traces: which row an event changes, what holds of every row after any events, and the trace of a sequence of calls.
-- Assumes what each law says of the setup.
use Rattle.std.specs.Prelude.{◌≡◌, refl, false, eqb}
use Rattle.std.proofs.Common.{sym, ap, ◌∙◌, arith, eqb-true}
use Rattle.std.proofs.Math.Path.{subst}
use Prim.Native.Nat.{ℕ, ◌≤◌, ◌<◌}
use mathlib.Core.List.{List, [], ◌∷◌}
use Rattle.buffer.specs.Cases.{by_test, eqb_same}
use Rattle.buffer.specs.Same.{Bytes}
use Rattle.book.specs.Book.{Row, Setup, Book, Counts, key_of, effect_on, Event, on, invalidate_all, new_epoch, fresh, set_row, put, effect, after, after_all}
use Rattle.book.specs.Calls.{Call, happening, after_call, after_calls, run, onto, traced}
use Rattle.book.specs.Sound.{Sound}
use Rattle.book.proofs.SoundLaws.{sound-nil, sound-effect_on}
use Rattle.book.specs.Trace.{SoundBook}

-- the shard's own row is the new one
pub row_here : (s : ℕ) (row : Row) (rows : ℕ → Row) → set_row s row rows s ≡ row
unfolding set_row
row_here s row rows = rw (eqb_same s)

-- every other is as it was
pub row-elsewhere : (s i : ℕ) (row : Row) (rows : ℕ → Row) → eqb i s ≡ false → set_row s row rows i ≡ rows i
unfolding set_row
row-elsewhere s i row rows n = rw n

-- what holds of a row in a shard, as long as events with a key keep it

module _ (p : Setup) (R : ℕ → Row → Type 0) (empty : (s : ℕ) → R s []) where
  -- it holds of every row
  abbrev pub Everywhere : Book → Type 0
  Everywhere bk = (s : ℕ) → R s (bk.rows s)

  -- an event keeps it in its row
  abbrev pub Keeps : Event → Type 0
  Keeps (on q) = (row : Row) → R (p.shard_of (key_of q)) row → R (p.shard_of (key_of q)) (effect_on p q row).row
  Keeps invalidate_all = Unit {0}
  Keeps new_epoch = Unit {0}

  -- each of some events does
  abbrev pub KeepsAll : List Event → Type 0
  KeepsAll [] = Unit {0}
  KeepsAll (ev ∷ h) = Keeps ev × KeepsAll h

  -- an event keeps it everywhere
  kept-after : (ev : Event) (bk : Book) → Keeps ev → Everywhere bk → Everywhere (after p ev bk)
  unfolding after put effect
  kept-after (on q) bk g w s =
      let home : ℕ = p.shard_of (key_of q) in
      by_test (eqb s home)
      (λ e.
      subst (λ (z : ℕ). R z (set_row home (effect_on p q (bk.rows home)).row bk.rows z)) (sym (eqb-true s home e))
      (rw row_here (g (bk.rows home) (w home))))
      (λ e. rw row-elsewhere (w s))
  kept-after invalidate_all bk g w s = empty s
  kept-after new_epoch bk g w s = w s

  -- from a fresh book it holds of every row, whatever happens
  pub kept_run : (lent : Counts) (h : List Event) → KeepsAll h → Everywhere (run p (fresh lent) h)
  unfolding run fresh
  kept_run lent [] g s = empty s
  kept_run lent (ev ∷ h) g s = kept-after ev (run p (fresh lent) h) g.0 (kept_run lent h g.1) s

-- ---- setups

-- what every size gives: a shard holds at least one key, and every key has a shard
pub record Proper (p : Setup) : Type 0 where
  pub some_key : 1 ≤ p.keys
  pub in-range : (k : Bytes) → p.shard_of k < p.shards

-- ---- every row is sound

-- from a fresh book, whatever happens, every row is sound
pub sound : (p : Setup) → 1 ≤ p.keys → (lent : Counts) (h : List Event) → SoundBook p (run p (fresh lent) h)
sound p n lent h = kept_run p (Sound p) (sound-nil p) lent h (all h)
  where
    one : (ev : Event) → Keeps p (Sound p) (sound-nil p) ev
    one (on q) = λ row w. sound-effect_on p n q row w
    one invalidate_all = tt
    one new_epoch = tt

    all : (h : List Event) → KeepsAll p (Sound p) (sound-nil p) h
    all [] = tt
    all (ev ∷ h) = (one ev, all h)

-- and no row beyond the shards has an item, so that an invalidation of everything counts every entry
pub none-beyond : (p : Setup) → Proper p → (lent : Counts) (h : List Event) (s : ℕ) → p.shards ≤ s → (run p (fresh lent) h).rows s ≡ []
none-beyond p o lent h s l = kept_run p Beyond (λ s l. refl) lent h (all h) s l
  where
    Beyond : ℕ → Row → Type 0
    Beyond s row = p.shards ≤ s → row ≡ []

    one : (ev : Event) → Keeps p Beyond (λ s l. refl) ev
    one (on q) = λ row w l. absurd (let g = o.in-range (key_of q) in omega arith)
    one invalidate_all = tt
    one new_epoch = tt

    all : (h : List Event) → KeepsAll p Beyond (λ s l. refl) h
    all [] = tt
    all (ev ∷ h) = (one ev, all h)

-- ---- calls

-- events in their order make the trace longer
pub run-onto : (p : Setup) (bk : Book) (h evs : List Event) → after_all p evs (run p bk h) ≡ run p bk (onto h evs)
unfolding after_all run onto
run-onto p bk h [] = refl
run-onto p bk h (ev ∷ evs) = run-onto p bk (ev ∷ h) evs

-- the book after a sequence of calls is the one that its trace leaves
pub run-traced : (p : Setup) (bk : Book) (h : List Event) (cs : List Call) → after_calls p cs (run p bk h) ≡ run p bk (traced p bk h cs)
unfolding after_calls traced after_call
run-traced p bk h [] = refl
run-traced p bk h (c ∷ cs) =
    ap (after_calls p cs) (run-onto p bk h (happening p c (run p bk h))) ∙ run-traced p bk (onto h (happening p c (run p bk h))) cs
