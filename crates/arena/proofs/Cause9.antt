-- Cause 9 (rules A2, C9 of docs/BEHAVIOUR.md), over the book's calls: the bytes that are not decoded are exactly those that no sequence of calls from a
-- fresh cache leaves. Assumes of the setup what cause 1 leaves.
use Rattle.std.specs.Prelude.{◌≡◌, refl, ◌↔◌, ℕ, Bool, length, ltb}
use Rattle.std.proofs.Common.{sym, ◌∙◌, subst, ltb-true, ltb-false}
use Rattle.std.proofs.Math.Path.{ap, fun_ext}
use Rattle.std.proofs.Math.Option.{Option, none, some, none-ne-some}
use mathlib.Core.List.{List, [], ◌∷◌}
use Rattle.buffer.specs.Cases.{by_test}
use Rattle.buffer.specs.Same.{Bytes}
use Rattle.buffer.specs.Field.{Octets}
use Rattle.book.specs.Book.{Setup, Entry, Item, Row, Book, Counts, Keyed, Event, on, fresh}
use Rattle.book.specs.Calls.{Call, ons, events_of, after_calls}
use Rattle.book.specs.Each.{Each}
use Rattle.book.proofs.Trace.{Proper}
use Rattle.book.specs.Storable.{StorableEntries}
use Rattle.book.proofs.Storable.{StorableEvent, StorableCalls}
use Rattle.format.specs.Lists.{All}
use Rattle.arena.specs.Layout.{encode}
use Rattle.arena.specs.Decode.{may_store, decode}
use Rattle.arena.specs.Tests.{Fits}
use Rattle.arena.specs.Image.{Sized, Image}
use Rattle.arena.proofs.Image.{decode-exact, decode-encode}
use Rattle.arena.proofs.Keeps.{formed}
use Rattle.arena.proofs.Sequence.{held_after, sequence-leaves}
use Rattle.arena.specs.Held.{Held, lend}
use Rattle.arena.proofs.Stores.{storing}
use Rattle.arena.proofs.Reach.{building, building-all, singles, not_yet, reached}
use Rattle.arena.proofs.Octets.{EventOctets, arena-octets}

-- the arguments of all calls are bytes
abbrev pub CallsOctets : List Call → Type 0
CallsOctets cs = All (λ c. All EventOctets (events_of c)) cs

-- what holds of each event holds of the calls that make one of each
singles-all : (P : Event → Type 0) (qs : List Keyed) → All (λ q. P (on q)) qs → All (λ c. All P (events_of c)) (singles qs)
unfolding events_of ons
singles-all P [] w = tt
singles-all P (q ∷ qs) w = ((w.0, tt), singles-all P qs w.1)

module _ (is_value : Bytes → Bool) (p : Setup) where
  -- an entry of an item that may be stored may be stored by itself
  entries_fit : (it : Item) (ens : List Entry) → Fits is_value p it → StorableEntries (may_store is_value) it.key ens
      → All (λ en. StorableEvent (may_store is_value) (on (storing it en))) ens
  entries_fit it [] g w = tt
  entries_fit it (en ∷ ens) g w = ((w.0, g.expiry, g.epoch), entries_fit it ens g w.1)

  items-fit : (row : Row) → Each (Fits is_value p) row → Each (λ it. All (λ en. StorableEvent (may_store is_value) (on (storing it en))) it.entries) row
  items-fit [] w = tt
  items-fit (it ∷ row) w = (entries_fit it it.entries w.0 w.0.entries, items-fit row w.1)

  singles-storable : (qs : List Keyed) → All (λ q. StorableEvent (may_store is_value) (on q)) qs → StorableCalls (may_store is_value) (singles qs)
  unfolding events_of ons
  singles-storable [] w = tt
  singles-storable (q ∷ qs) w = ((w.0, tt), singles-storable qs w.1)

  -- a sequence of calls from a fresh cache leaves the bytes s as the arena; the calls' arguments are bytes, and such as causes 3 and 6 and the
  -- types of epochs and expiries let through
  pub record LeftBy (s : Bytes) (lent : Counts) : Type 0 where
    pub calls : List Call
    pub fit : StorableCalls (may_store is_value) calls
    pub octets : CallsOctets calls
    pub left : (held_after is_value p calls (lend p (length s) (fresh lent))).arena ≡ s

  module _ (s : Bytes) (z : Sized p (length s)) (o : Proper p) (lent : Counts) where
    -- what calls leave is an image
    pub left-image : LeftBy s lent → decode is_value p s ≡ none → ⊥
    unfolding lend
    left-image g q =
        let bk : Book = after_calls p g.calls (fresh lent) in
        let left : encode p (length s) bk.rows ≡ s =
        ap (λ (h : Held). h.arena) (sym (sequence-leaves is_value p (length s) z o lent g.calls g.fit)) ∙ g.left in
        none-ne-some bk.rows
        (sym q ∙ ap (decode is_value p) (sym left) ∙ decode-encode is_value p (length s) z bk.rows (formed is_value p o lent g.calls g.fit))

    -- an image is left by single stores
    pub image-left : Octets s → (rows : ℕ → Row) → decode is_value p s ≡ some rows → LeftBy s lent
    unfolding lend
    image-left b rows q =
        record {
          calls = singles qs;
          fit = fit;
          octets = singles-all EventOctets qs (building-all (λ k. EventOctets (on k)) p.shards rows bytes-each);
          left = ap (λ (h : Held). h.arena) (sequence-leaves is_value p (length s) z o lent (singles qs) fit)
              ∙ ap (encode p (length s)) (fun_ext rows_are) ∙ im.bytes;
        }
      where
        im : Image is_value p s rows
        im = decode-exact is_value p s rows q

        qs : List Keyed
        qs = building p.shards rows

        fit : StorableCalls (may_store is_value) (singles qs)
        fit =
            singles-storable qs
            (building-all (λ k. StorableEvent (may_store is_value) (on k)) p.shards rows (λ i. items-fit (rows i) (im.formed.fine i).fits))

        bytes-each : (i : ℕ) → Each (λ it. All (λ en. EventOctets (on (storing it en))) it.entries) (rows i)
        bytes-each i =
            by_test (ltb i p.shards)
            (λ e. arena-octets p (length s) rows (subst Octets (sym im.bytes) b) i (ltb-true i p.shards e))
            (λ e.
            subst (λ (r : Row). Each (λ it. All (λ en. EventOctets (on (storing it en))) it.entries) r)
            (sym (im.formed.beyond i (ltb-false i p.shards e))) tt)

        rows_are : (i : ℕ) → (after_calls p (singles qs) (fresh lent)).rows i ≡ rows i
        rows_are i =
            by_test (ltb i p.shards)
            (λ e. reached p lent rows (λ j. (im.formed.fine j).sound) p.shards i (ltb-true i p.shards e))
            (λ e.
            not_yet p lent rows (λ j. (im.formed.fine j).sound) p.shards i (ltb-false i p.shards e)
            ∙ sym (im.formed.beyond i (ltb-false i p.shards e)))

    -- cause 9, both ways
    pub cause-nine : Octets s → (decode is_value p s ≡ none) ↔ (LeftBy s lent → ⊥)
    cause-nine b = (λ q g. left-image g q, λ f. judge f (decode is_value p s) refl)
      where
        judge : (LeftBy s lent → ⊥) → (r : Option (ℕ → Row)) → decode is_value p s ≡ r → decode is_value p s ≡ none
        judge f none q = q
        judge f (some rows) q = absurd (f (image-left b rows q))
