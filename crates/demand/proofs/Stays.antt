-- Residences told from their beginning (Residence.antt) and as parts of the trace (book/specs/Residence.antt) are the same: each serves what the other does.
-- Assumes nothing.
use Rattle.std.proofs.Math.Path.{◌≡◌, refl, ap, subst}
use Rattle.std.proofs.Common.{sym, ◌∙◌, arith}
use Rattle.std.specs.Prelude.{◌↔◌, ℕ, ◌≤◌, true, false}
use Rattle.std.proofs.Math.Bool.{false≢true}
use Rattle.std.proofs.Math.Option.{Option, none, some}
use mathlib.Core.List.{List, [], ◌∷◌, ◌++◌}
use Rattle.buffer.specs.Cases.{by_test}
use Rattle.buffer.specs.Same.{Bytes, same}
use Rattle.buffer.specs.SameLaws.{same_refl, same-eq}
use Rattle.book.specs.Book.{Setup, Book, Answer, hit, miss, stored, no_space, invalidated, number, lookup, store, invalidate, Event, on, invalidate_all, new_epoch}
use Rattle.book.specs.Book.{answer_to}
use Rattle.book.specs.Calls.{run}
use Rattle.book.specs.Residence as book
use Rattle.book.specs.Residence.{item_of, has_under, ends, KeptStore, is_stored, kept_by, cons_if, kept_in, opening, Lasts, latest_of, later_stores, stores_of}
use Rattle.book.specs.Residence.{latest_under, expiry_of}
use Rattle.demand.specs.Residence.{Kept, Runs, begins, stores, passes, ServedBy}

-- ---- a store that is kept

-- by its answer
stored-yes : (a : Answer) → is_stored a ≡ true → a ≡ stored
unfolding is_stored
stored-yes (hit v) e = absurd (false≢true e)
stored-yes miss e = absurd (false≢true e)
stored-yes stored e = refl
stored-yes no_space e = absurd (false≢true e)
stored-yes invalidated e = absurd (false≢true e)
stored-yes (number n) e = absurd (false≢true e)

yes-stored : (a : Answer) → a ≡ stored → is_stored a ≡ true
unfolding is_stored
yes-stored a e = rw e refl

module _ (p : Setup) (k : Bytes) (b : Book) where
  -- a store of the key that is kept is the one kept
  kept-some : (f : ℕ) (w : KeptStore) → answer_to p (opening k f w) b ≡ stored → kept_by p k (opening k f w) b ≡ some w
  unfolding kept_by
  kept-some f w e = rw (same_refl k, yes-stored _ e) refl

  -- an event that is none keeps none
  abbrev IsNone : Event → Type 0
  IsNone ev = (f : ℕ) (w : KeptStore) → ev ≡ opening k f w → answer_to p (opening k f w) b ≡ stored → ⊥

  kept-none : (ev : Event) → IsNone ev → kept_by p k ev b ≡ none
  unfolding kept_by
  kept-none (on (lookup j c t e)) other = refl
  kept-none (on (store j c v x e)) other =
      by_test (same j k)
      (λ s.
      by_test (is_stored (answer_to p (on (store j c v x e)) b))
      (λ y.
      let is : ◌≡◌ {A = Event} (on (store j c v x e)) (on (store k c v x e)) = ap (λ (z : Bytes). on (store z c v x e)) (same-eq j k s) in
      absurd (other e (record { command = c; value = v; expiry = x }) is (ap (λ (z : Event). answer_to p z b) (sym is) ∙ stored-yes _ y)))
      (λ y. rw (s, y) refl))
      (λ s. rw s refl)
  kept-none (on (invalidate j)) other = refl
  kept-none invalidate_all other = refl
  kept-none new_epoch other = refl

-- ---- from the beginning to the part of the trace

-- the latest of some stores stands in front
latest-front : (ws : List KeptStore) (first last : KeptStore) (others : List KeptStore) → ws ++ (first ∷ []) ≡ last ∷ others → latest_of ws first ≡ last
unfolding latest_of
latest-front [] first last others q = cc
latest-front (u ∷ ws) first last others q = cc

front-latest : (ws : List KeptStore) (first : KeptStore) → (others : List KeptStore) × (ws ++ (first ∷ []) ≡ latest_of ws first ∷ others)
unfolding latest_of
front-latest [] first = ([], refl)
front-latest (u ∷ ws) first = (ws ++ (first ∷ []), refl)

module _ (p : Setup) (bk : Book) (k : Bytes) where
  -- a running residence as a part of the trace, with these stores
  record Part (h : List Event) (e : ℕ) (ws : List KeptStore) : Type 0 where
    first : KeptStore
    since : List Event
    before : List Event
    part : h ≡ since ++ (opening k e first ∷ before)
    kept : Kept p bk k before e first
    began : has_under e (item_of p k (run p bk before)) ≡ false
    lasts : Lasts p bk k since (opening k e first ∷ before)
    are : kept_in p bk k since (opening k e first ∷ before) ++ (first ∷ []) ≡ ws

  -- one event more that does not end it
  part-more : (h : List Event) (e : ℕ) (ws : List KeptStore) (ev : Event) (o : Option KeptStore) → kept_by p k ev (run p bk h) ≡ o
      → ends p k ev (run p bk h) ≡ false → Part h e ws → Part (ev ∷ h) e (cons_if o ws)
  unfolding kept_in
  part-more h e ws ev o is stays r =
      record {
        first = r.first;
        since = ev ∷ r.since;
        before = r.before;
        part = ap (λ (z : List Event). ev ∷ z) r.part;
        kept = r.kept;
        began = r.began;
        lasts = (subst (λ (z : List Event). ends p k ev (run p bk z) ≡ false) r.part stays, r.lasts);
        are =
            ap (λ (z : Option KeptStore). cons_if z (kept_in p bk k r.since (opening k e r.first ∷ r.before)) ++ (r.first ∷ []))
            (subst (λ (z : List Event). kept_by p k ev (run p bk z) ≡ o) r.part is)
            ∙ cons-front o _ r.first ∙ ap (cons_if o) r.are;
      }
    where
      cons-front : (o : Option KeptStore) (us : List KeptStore) (w : KeptStore) → cons_if o us ++ (w ∷ []) ≡ cons_if o (us ++ (w ∷ []))
      cons-front none us w = unfold cons_if in refl
      cons-front (some u) us w = unfold cons_if in refl

  to_part : {h : List Event} {e : ℕ} {ws : List KeptStore} → Runs p bk k h e ws → Part h e ws
  unfolding cons_if kept_in
  to_part (begins h e w kept none-under) =
      record { first = w; since = []; before = h; part = refl; kept = kept; began = none-under; lasts = tt; are = refl }
  to_part (stores h e ws r f w kept stays) = part-more h e ws (opening k f w) (some w) (kept-some p k (run p bk h) f w kept) stays (to_part r)
  to_part (passes h e ws r ev other stays) = part-more h e ws ev none (kept-none p k (run p bk h) ev other) stays (to_part r)

  -- ---- and back

  -- the stores of a part of the trace that begins with a store
  module _ (e : ℕ) (first : KeptStore) (before : List Event) (kept : Kept p bk k before e first)
      (began : has_under e (item_of p k (run p bk before)) ≡ false) where
    abbrev base : List Event
    base = opening k e first ∷ before

    -- one event more: a store of the key that is kept, or none
    one_more : (since : List Event) (ev : Event) → ends p k ev (run p bk (since ++ base)) ≡ false
        → Runs p bk k (since ++ base) e (kept_in p bk k since base ++ (first ∷ []))
        → Runs p bk k (ev ∷ (since ++ base)) e (cons_if (kept_by p k ev (run p bk (since ++ base))) (kept_in p bk k since base) ++ (first ∷ []))
    unfolding cons_if kept_by
    one_more since (on (lookup j c t f)) stays r = passes _ e _ r (on (lookup j c t f)) (λ g w q kept. let z : ◌≡◌ {A = ℕ} 0 1 = cc in omega arith) stays
    one_more since (on (store j c v x f)) stays r =
        by_test (same j k)
        (λ s.
        by_test (is_stored (answer_to p (on (store j c v x f)) (run p bk (since ++ base))))
        (λ y. rw (s, y) (kept-one s y))
        (λ y. rw (s, y) (passes _ e _ r (on (store j c v x f)) (λ g w q kept. false≢true (sym y ∙ yes-stored _ (answer-moved q ∙ kept))) stays)))
        (λ s. rw s (passes _ e _ r (on (store j c v x f)) (λ g w q kept. false≢true (sym s ∙ key-same q)) stays))
      where
        answer-moved : {g : ℕ} {w : KeptStore} → on (store j c v x f) ≡ opening k g w
            → answer_to p (on (store j c v x f)) (run p bk (since ++ base)) ≡ answer_to p (opening k g w) (run p bk (since ++ base))
        answer-moved q = ap (λ (z : Event). answer_to p z (run p bk (since ++ base))) q

        key-same : {g : ℕ} {w : KeptStore} → on (store j c v x f) ≡ opening k g w → same j k ≡ true
        key-same q = let z : j ≡ k = cc in ap (λ (y : Bytes). same y k) z ∙ same_refl k

        kept-one : same j k ≡ true → is_stored (answer_to p (on (store j c v x f)) (run p bk (since ++ base))) ≡ true
            → Runs p bk k (on (store j c v x f) ∷ (since ++ base)) e
            (record { command = c; value = v; expiry = x } ∷ (kept_in p bk k since base ++ (first ∷ [])))
        kept-one s y =
            let is : k ≡ j = sym (same-eq j k s) in
            subst (λ (z : Bytes).
            Runs p bk k (on (store z c v x f) ∷ (since ++ base)) e
            (record { command = c; value = v; expiry = x } ∷ (kept_in p bk k since base ++ (first ∷ [])))) is
            (stores (since ++ base) e _ r f (record { command = c; value = v; expiry = x })
            (ap (λ (z : Bytes). answer_to p (on (store z c v x f)) (run p bk (since ++ base))) is ∙ stored-yes _ y)
            (ap (λ (z : Bytes). ends p k (on (store z c v x f)) (run p bk (since ++ base))) is ∙ stays))
    one_more since (on (invalidate j)) stays r = passes _ e _ r (on (invalidate j)) (λ g w q kept. let z : ◌≡◌ {A = ℕ} 0 1 = cc in omega arith) stays
    one_more since invalidate_all stays r = passes _ e _ r invalidate_all (λ g w q kept. let z : ◌≡◌ {A = ℕ} 0 1 = cc in omega arith) stays
    one_more since new_epoch stays r = passes _ e _ r new_epoch (λ g w q kept. let z : ◌≡◌ {A = ℕ} 0 1 = cc in omega arith) stays

    from-part : (since : List Event) → Lasts p bk k since base → Runs p bk k (since ++ base) e (kept_in p bk k since base ++ (first ∷ []))
    unfolding kept_in
    from-part [] lasts = begins before e first kept began
    from-part (ev ∷ since) lasts = one_more since ev lasts.0 (from-part since lasts.1)

  -- ---- what is served

  pub served-same : (h : List Event) (c : Bytes) (t e : ℕ) (v : Bytes) → ServedBy p bk k h c t e v ↔ book.ServedBy p bk h k c t e v
  unfolding expiry_of stores_of later_stores
  served-same h c t e v = (
    λ s.
        let r = to_part s.runs in
        record {
          residence =
              record {
                epoch = e;
                first = r.first;
                since = r.since;
                before = r.before;
                part = r.part;
                kept = yes-stored _ r.kept;
                began = r.began;
                lasts = r.lasts;
              };
          epoch = refl;
          in-time = subst (λ (w : KeptStore). t ≤ w.expiry) (sym (latest-front _ _ _ _ r.are)) s.in-time;
          latest = ap (latest_under c) r.are ∙ s.latest;
        },
    λ s.
        let r = s.residence in
        let shape = front-latest (later_stores r) r.first in
        record {
          last = latest_of (later_stores r) r.first;
          others = shape.0;
          runs =
              subst (Runs p bk k h e) shape.1
              (subst (λ (f : ℕ). Runs p bk k h f (later_stores r ++ (r.first ∷ []))) s.epoch
              (subst (λ (z : List Event). Runs p bk k z r.epoch (later_stores r ++ (r.first ∷ []))) (sym r.part)
              (from-part r.epoch r.first r.before (stored-yes _ r.kept) r.began r.since r.lasts)));
          in-time = s.in-time;
          latest = ap (latest_under c) (sym shape.1) ∙ s.latest;
        },
  )
