-- The clause `invalidates`: the third count is the one first lent and the entries that the traced lookups and invalidations dropped, wrapping. Assumes what
-- InTurn.antt does.
use Rattle.std.specs.Prelude.{◌≡◌, ℕ, ◌+◌, ◌^◌, ◌≤◌}
use Rattle.std.proofs.Math.Path.{refl, sym, ap}
use Rattle.std.proofs.Common.{ap₂, ◌∙◌, mod-eq_of_lt, arith}
use Rattle.std.proofs.Math.Nat.{mod-add-mod}
use Rattle.std.proofs.Math.Bool.{cond}
use Rattle.std.proofs.Math.Option.{Option, none, some}
use mathlib.Core.List.{List, [], ◌∷◌}
use Rattle.buffer.specs.Cases.{by_test, eqb_same}
use Rattle.buffer.specs.Same.{Bytes}
use Rattle.buffer.specs.SameLaws.{same_refl}
use Rattle.config.specs.Wrap.{wrap}
use Rattle.format.specs.Lists.{All}
use Rattle.book.specs.Book as book
use Rattle.book.specs.Book.{Setup, Book, Row, Item, Counts, Event, on, invalidate_all, without, value_for, current, serve, lookup_item, entries_of}
use Rattle.book.specs.Book.{key_of, effect_on, effect, count, put, after, fresh}
use Rattle.book.specs.Calls.{run}
use Rattle.book.proofs.Counts.{fit-adds}
use Rattle.book.specs.Counted.{Counted}
use Rattle.book.specs.Trace.{SoundBook}
use Rattle.book.proofs.Trace.{sound}
use Rattle.book.specs.Residence.{item_of, has_under, leaves, ends}
use Rattle.book.specs.Items.{if_current}
use Rattle.book.proofs.Items.{turned-defs, item-after}
use Rattle.call_entry.specs.Entered.{no_cause}
use Rattle.arena.specs.Held.{Held, lend}
use Rattle.demand.specs.Call.{RealCall, Given, setup_by}
use Rattle.demand.specs.Demand.{held_by, setup, trace_by}
use Rattle.demand.specs.CorollaryWords.{dropped_by, dropped_in}
use Rattle.demand.proofs.Laws.{setup-proper, happened-field}
use Rattle.demand.proofs.InTurn.{AllHeld}

-- what a lookup adds for its key's item: the entries, if the item does not stay
lookup-drops : (o : Option Item) (k c : Bytes) (t e : ℕ) (row : Row)
    → (lookup_item o k c t e row).adds.invalidates ≡ cond (leaves o (if_current t e o)) (entries_of o) 0
unfolding lookup_item leaves has_under if_current entries_of
lookup-drops none k c t e row = refl
lookup-drops (some it) k c t e row =
    by_test (current t e it) (λ l. rw l (rw (eqb_same it.epoch) (served (value_for c it.entries)))) (λ l. rw l)
  where
    served : (v : Option Bytes) → (serve v (it ∷ without k row)).adds.invalidates ≡ 0
    served none = unfold serve in refl
    served (some v) = unfold serve in refl

-- a sum that wraps twice
wrap-more : (n a b m : ℕ) → m ≡ wrap n → a ≡ b → wrap (m + a) ≡ wrap (n + b)
wrap-more n a b m q e = ap₂ (λ (y z : ℕ). wrap (y + z)) q e ∙ mod-add-mod n (2 ^ 64) b

module _ (p : Setup) where
  -- a lookup leaves its key's item if that is current
  item-then : (k c : Bytes) (t e : ℕ) (bk : Book) → SoundBook p bk → item_of p k (after p (on (book.lookup k c t e)) bk) ≡ if_current t e (item_of p k bk)
  unfolding turned-defs
  item-then k c t e bk w = item-after p k (on (book.lookup k c t e)) bk w ∙ rw (eqb_same (p.shard_of k), same_refl k)

  -- what one event adds
  event-drops : (ev : Event) (bk : Book) → SoundBook p bk → (n : ℕ) → bk.counts.invalidates ≡ wrap n
      → (after p ev bk).counts.invalidates ≡ wrap (n + dropped_by p ev bk)
  unfolding after put effect effect_on key_of count dropped_by ends item_of
  event-drops (on (book.lookup k c t e)) bk w n q =
      wrap-more n _ _ bk.counts.invalidates q
      (lookup-drops (item_of p k bk) k c t e (bk.rows (p.shard_of k))
      ∙ ap (λ (o : Option Item). cond (leaves (item_of p k bk) o) (entries_of (item_of p k bk)) 0) (sym (item-then k c t e bk w)))
  event-drops (on (book.store k c v x e)) bk w n q = wrap-more n _ _ bk.counts.invalidates q (ap (λ (z : Counts). z.invalidates) (fit-adds _ _ _))
  event-drops (on (book.invalidate k)) bk w n q = wrap-more n _ _ bk.counts.invalidates q refl
  event-drops invalidate_all bk w n q = wrap-more n _ _ bk.counts.invalidates q refl
  event-drops book.new_epoch bk w n q = q ∙ ap wrap (omega arith)

  -- and what a trace does
  trace-drops : 1 ≤ p.keys → (lent : Counts) → Counted lent → (h : List Event)
      → (run p (fresh lent) h).counts.invalidates ≡ wrap (lent.invalidates + dropped_in p (fresh lent) h)
  unfolding run dropped_in fresh
  trace-drops o lent w [] = sym (mod-eq_of_lt w.invalidates) ∙ ap wrap (omega arith)
  trace-drops o lent w (ev ∷ h) =
      event-drops ev (run p (fresh lent) h) (sound p o lent h) (lent.invalidates + dropped_in p (fresh lent) h) (trace-drops o lent w h)
      ∙ ap wrap (omega arith)

module _ (size mode ttl : ℕ) (s : Bytes) (lent : Counts) (set-up : (setup_by size mode ttl s).cause ≡ no_cause) (counted : Counted lent)
    (held : AllHeld size mode ttl s lent) (cs : List RealCall) (given : All Given cs) where
  -- the corollary
  pub invalidates-field : (held_by size mode ttl s lent cs).counts.invalidates
      ≡ wrap (lent.invalidates + dropped_in (setup size mode ttl s lent) (fresh lent) (trace_by size mode ttl s lent cs))
  unfolding lend
  invalidates-field =
      ap (λ (h : Held). h.counts.invalidates) (held cs given)
      ∙ ap (λ (z : Book). z.counts.invalidates) (happened-field size mode ttl s lent set-up cs)
      ∙ trace-drops (setup size mode ttl s lent) (setup-proper size mode ttl s lent set-up).some_key lent counted (trace_by size mode ttl s lent cs)
