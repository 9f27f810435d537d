-- Laws of specs/Storable.antt. What may be stored, as any test of key, command key and value (lengths within the limits, one RESP3 value): if each store of a sequence of calls passes
-- it, with epoch and expiry of 64 bits, then so does every entry of the book that the sequence leaves. Assumes nothing of the test.
use Rattle.std.specs.Prelude.{◌≡◌, ℕ, ◌^◌, ◌<◌, Bool, true}
use Rattle.std.proofs.Common.{sym, ap, ◌∙◌}
use Rattle.std.proofs.Math.Path.{subst}
use mathlib.Core.List.{List, [], ◌∷◌}
use Rattle.buffer.specs.Cases.{by_test}
use Rattle.buffer.specs.Same.{Bytes, same}
use Rattle.buffer.specs.SameLaws.{same-eq}
use Rattle.book.specs.Book.{Entry, Item, Row, Setup, Book, Counts, Keyed, lookup, store, invalidate, Event, on, invalidate_all, new_epoch, fresh}
use Rattle.book.specs.Book.{set_value, answers}
use Rattle.book.specs.Calls.{Call, planning, resolving, resolving7, push, push_all, single, take_epoch, refused, events_of, is_refused, remaining}
use Rattle.book.specs.Calls.{happening, after_calls, run, onto, traced}
use Rattle.book.specs.Each.{Each, Brings}
use Rattle.book.proofs.EachLaws.{each-effect_on}
use Rattle.book.proofs.Trace.{Keeps, KeepsAll, kept_run, run-traced}
use Rattle.book.specs.Storable.{StorableEntries, StorableItem}

module _ (may : Bytes → Bytes → Bytes → Bool) where
  -- what a store brings may be stored
  abbrev pub StorableKeyed : Keyed → Type 0
  StorableKeyed (lookup k c t e) = Unit {0}
  StorableKeyed (store k c v x e) = (may k c v ≡ true) × (x < 2 ^ 64) × (e < 2 ^ 64)
  StorableKeyed (invalidate k) = Unit {0}

  -- so for every event
  abbrev pub StorableEvent : Event → Type 0
  StorableEvent (on q) = StorableKeyed q
  StorableEvent invalidate_all = Unit {0}
  StorableEvent new_epoch = Unit {0}

  -- for a list of them
  abbrev pub StorableEvents : List Event → Type 0
  StorableEvents [] = Unit {0}
  StorableEvents (ev ∷ evs) = StorableEvent ev × StorableEvents evs

  -- and for a list of calls
  abbrev pub StorableCalls : List Call → Type 0
  StorableCalls [] = Unit {0}
  StorableCalls (c ∷ cs) = StorableEvents (events_of c) × StorableCalls cs

  -- ---- items

  -- a value that may be stored is set
  set-storable : (k c v : Bytes) (ens : List Entry) → may k c v ≡ true → (StorableEntries may) k ens → (StorableEntries may) k (set_value c v ens)
  unfolding set_value
  set-storable k c v [] g w = (g, tt)
  set-storable k c v (en ∷ ens) g w =
      by_test (same c en.command) (λ e. rw e (g, w.1)) (λ e. rw e (w.0, set-storable k c v ens g w.1))

  -- a store that may be made brings in what may be stored
  pub brings-storable : (q : Keyed) → StorableKeyed q → Brings (StorableItem may) q
  brings-storable (lookup k c t e) g = tt
  brings-storable (store k c v x e) g = (
    record { entries = (g.0, tt); epoch = g.2; expiry = g.1 },
    λ it n w.
        record {
          entries = set-storable it.key c v it.entries
              (ap (λ (z : Bytes). may z c v) (sym (same-eq k it.key n)) ∙ g.0) w.entries;
          epoch = w.epoch;
          expiry = g.1;
        },
  )
  brings-storable (invalidate k) g = tt

  -- ---- traces and calls

  module _ (p : Setup) (lent : Counts) where
    -- the items of a row, in any shard
    abbrev R : ℕ → Row → Type 0
    R s row = Each (StorableItem may) row

    -- events that may be made keep it
    keeps : (h : List Event) → StorableEvents h → KeepsAll p R (λ s. tt) h
    keeps [] g = tt
    keeps (ev ∷ h) g = (one ev g.0, keeps h g.1)
      where
        one : (ev : Event) → StorableEvent ev → Keeps p R (λ s. tt) ev
        one (on q) g = λ row w. each-effect_on (StorableItem may) p q row (brings-storable q g) w
        one invalidate_all g = tt
        one new_epoch g = tt

    -- a longer trace of such events is one
    onto-storable : (h evs : List Event) → StorableEvents h → StorableEvents evs → StorableEvents (onto h evs)
    unfolding onto
    onto-storable h [] g w = g
    onto-storable h (ev ∷ evs) g w = onto-storable (ev ∷ h) evs (w.0, g) w.1

    -- what remains of a call are its events, or nothing
    remaining-storable : (c : Call) → StorableEvents (events_of c) → StorableEvents (remaining c)
    unfolding events_of remaining
    remaining-storable (planning t e ws short) g = tt
    remaining-storable (resolving e ws) g = tt
    remaining-storable (resolving7 e ws) g = g
    remaining-storable (push ks) g = tt
    remaining-storable push_all g = tt
    remaining-storable (single q) g = tt
    remaining-storable take_epoch g = tt
    remaining-storable refused g = tt

    -- so is what happens of a call of such events
    happening-storable : (c : Call) (bk : Book) → StorableEvents (events_of c) → StorableEvents (happening p c bk)
    unfolding happening
    happening-storable c bk g =
        by_test (is_refused c (answers p (events_of c) bk)) (λ e. rw e (remaining-storable c g)) (λ e. rw e g)

    -- and the trace of such calls
    traced-storable : (h : List Event) (cs : List Call) → StorableEvents h → StorableCalls cs → StorableEvents (traced p (fresh lent) h cs)
    unfolding traced
    traced-storable h [] g w = g
    traced-storable h (c ∷ cs) g w =
        let now : List Event = happening p c (run p (fresh lent) h) in
        traced-storable (onto h now) cs (onto-storable h now g (happening-storable c (run p (fresh lent) h) w.0)) w.1

    -- every item of the book after the calls is one that may be stored
    pub storable : (cs : List Call) → StorableCalls cs → (s : ℕ) → Each (StorableItem may) ((after_calls p cs (fresh lent)).rows s)
    unfolding run
    storable cs g s =
        subst (λ (z : Book). Each (StorableItem may) (z.rows s)) (sym (run-traced p (fresh lent) [] cs))
        (kept_run p R (λ s. tt) lent (traced p (fresh lent) [] cs) (keeps (traced p (fresh lent) [] cs) (traced-storable [] cs tt g)) s)
