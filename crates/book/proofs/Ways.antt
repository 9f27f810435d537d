-- The ways in which a residence ends: those of rule B13 of docs/BEHAVIOUR.md, and no others (`residence-ends`). Assumes that a shard holds at least one key.
use Rattle.std.specs.Prelude.{◌≡◌, ◌↔◌, ◌≢◌, ℕ, ◌≤◌, ◌<◌, false, List, length, leb}
use Rattle.std.proofs.Math.Path.{refl, ap, subst}
use Rattle.std.proofs.Common.{sym, ◌∙◌, true≢false, eqb-true, leb-true, leb-false, le-leb, ne_eqb}
use Rattle.std.proofs.Math.Bool.{true}
use Rattle.std.proofs.lemmas.Bool.{false≢true, lt-leb, eqb-false}
use Rattle.std.proofs.Math.Option.{Option, none, some, none-ne-some}
use Rattle.std.proofs.Math.Dec.{eqb}
use Rattle.buffer.specs.Cases.{by_test, eqb_same}
use Rattle.buffer.specs.Same.{Bytes, same}
use Rattle.buffer.specs.SameLaws.{same_refl, same-eq}
use Rattle.book.specs.Book.{Item, Row, Setup, Book, Counts, fresh, Answer, hit, miss, stored, no_space, invalidated, number, lookup, store}
use Rattle.book.specs.Book.{invalidate, Event, on, invalidate_all, new_epoch, find, current, updated, effect_on, effect, answer_to}
use Rattle.book.proofs.Rows.{is_oldest}
use Rattle.book.specs.Calls.{run}
use Rattle.book.specs.Trace.{SoundBook}
use Rattle.book.proofs.Trace.{sound}
use Rattle.book.specs.Residence.{item_of, has_under, ends, is_stored, Residence, expiry_of}
use Rattle.book.proofs.Items.{absent, evicts, turned, turned-defs, item-after}
use Rattle.book.proofs.Residents.{has-item}
use Rattle.book.proofs.Stays.{answer-here, stays, gone-ends, opening-ends}

-- the ways in which an event on the book `bk` ends the stay of k's item, which has this epoch and expiry
pub data Way (p : Setup) (k : Bytes) (bk : Book) (epoch expiry : ℕ) : Event → Type 0 where
  -- a lookup of the key under another epoch
  other_epoch : (c : Bytes) (t e : ℕ) → e ≢ epoch → Way p k bk epoch expiry (on (lookup k c t e))
  -- a lookup of the key past its expiry
  expired : (c : Bytes) (t e : ℕ) → expiry < t → Way p k bk epoch expiry (on (lookup k c t e))
  -- a store of the key under another epoch that is kept
  replaced : (c v : Bytes) (x e : ℕ) → answer_to p (on (store k c v x e)) bk ≡ stored → e ≢ epoch → Way p k bk epoch expiry (on (store k c v x e))
  -- a store of an absent key to the key's full shard that is kept, where the key's item is the oldest
  evicted : (j c v : Bytes) (x e : ℕ) → answer_to p (on (store j c v x e)) bk ≡ stored → p.shard_of k ≡ p.shard_of j → item_of p j bk ≡ none
      → p.keys ≤ length (bk.rows (p.shard_of k)) → is_oldest k (bk.rows (p.shard_of k)) ≡ true
      → Way p k bk epoch expiry (on (store j c v x e))
  -- an invalidation of the key, or of everything
  invalidated_key : Way p k bk epoch expiry (on (invalidate k))
  invalidated_all : Way p k bk epoch expiry invalidate_all

-- ---- tests

-- an answer that passes the test is `stored`
stored-yes : (a : Answer) → is_stored a ≡ true → a ≡ stored
unfolding is_stored
stored-yes (hit v) e = absurd (false≢true e)
stored-yes miss e = absurd (false≢true e)
stored-yes stored e = refl
stored-yes no_space e = absurd (false≢true e)
stored-yes invalidated e = absurd (false≢true e)
stored-yes (number n) e = absurd (false≢true e)

-- and that one passes
yes-stored : (a : Answer) → a ≡ stored → is_stored a ≡ true
yes-stored a q = ap is_stored q ∙ unfold is_stored in refl

-- what the test finds absent is
absent_none : (o : Option Item) → absent o ≡ true → o ≡ none
unfolding absent
absent_none none e = refl
absent_none (some it) e = absurd (false≢true e)

-- ---- the theorem

module _ (p : Setup) (k : Bytes) (bk : Book) (it : Item) (s : SoundBook p bk) (f : item_of p k bk ≡ some it) where
  -- an event after which the key has the item as before ends nothing
  not-ended : (ev : Event) → turned p k ev bk ≡ item_of p k bk → ends p k ev bk ≡ true → ⊥
  not-ended ev q e = true≢false (sym e ∙ stays p k ev bk it it f (item-after p k ev bk s ∙ q ∙ f) refl)

  -- one after which it has none ends the stay
  ended : (ev : Event) → turned p k ev bk ≡ none → ends p k ev bk ≡ true
  ended ev q = gone-ends p k ev bk it f (item-after p k ev bk s ∙ q)

  -- a lookup of the key that does not find it current does
  not-current : (c : Bytes) (t e : ℕ) → current t e it ≡ false → Way p k bk it.epoch it.expiry (on (lookup k c t e))
  unfolding current
  not-current c t e u =
      by_test (eqb e it.epoch) (λ l. expired c t e (leb-false t it.expiry (rw l at u)))
      (λ l. other_epoch c t e (eqb-false e it.epoch l))

  -- a lookup that finds the item not current ends its stay
  lookup-ends : (c : Bytes) (t e : ℕ) → current t e it ≡ false → ends p k (on (lookup k c t e)) bk ≡ true
  unfolding turned-defs
  lookup-ends c t e u = ended (on (lookup k c t e)) (rw (eqb_same (p.shard_of k), same_refl k, f) (rw u))

  -- a kept store of the key under its epoch does not end the stay
  update-lasts : (c v : Bytes) (x e : ℕ) → answer_to p (on (store k c v x e)) bk ≡ stored → eqb e it.epoch ≡ true
      → ends p k (on (store k c v x e)) bk ≡ false
  unfolding turned-defs answer_to effect
  update-lasts c v x e a q =
      stays p k (on (store k c v x e)) bk it (updated c v x it) f
      (item-after p k (on (store k c v x e)) bk s ∙ rw (eqb_same (p.shard_of k), yes-stored _ a, same_refl k, f) (rw q)) refl

  -- so one that ends it is under another epoch
  abbrev OwnWay : Bytes → Bytes → ℕ → ℕ → Bytes → Type 0
  OwnWay c v x e j =
      answer_to p (on (store j c v x e)) bk ≡ stored → ends p k (on (store j c v x e)) bk ≡ true
      → Way p k bk it.epoch it.expiry (on (store j c v x e))

  own-way : (c v : Bytes) (x e : ℕ) → OwnWay c v x e k
  own-way c v x e a d =
      by_test (eqb e it.epoch) (λ q. absurd (true≢false (sym d ∙ update-lasts c v x e a q)))
      (λ q. replaced c v x e a (eqb-false e it.epoch q))

  -- a key that is absent is another one
  other_key : (j : Bytes) → item_of p j bk ≡ none → same j k ≡ false
  other_key j n =
      by_test (same j k)
      (λ g. absurd (none-ne-some it (sym n ∙ ap (λ (z : Bytes). item_of p z bk) (same-eq j k g) ∙ f)))
      (λ g. g)

  -- a kept store of such a key to the full shard ends the stay of the oldest
  evicted-ends : (j c v : Bytes) (x e : ℕ) → answer_to p (on (store j c v x e)) bk ≡ stored → p.shard_of k ≡ p.shard_of j → item_of p j bk ≡ none
      → p.keys ≤ length (bk.rows (p.shard_of k)) → is_oldest k (bk.rows (p.shard_of k)) ≡ true
      → ends p k (on (store j c v x e)) bk ≡ true
  unfolding turned-defs evicts absent item_of
  evicted-ends j c v x e a h n l o =
      let here : eqb (p.shard_of k) (p.shard_of j) ≡ true = rw (← h) (eqb_same (p.shard_of k)) in
      let taken : is_stored (effect_on p (store j c v x e) (bk.rows (p.shard_of k))).answer ≡ true
      = yes-stored _ (sym (answer-here p k j c v x e bk here) ∙ a) in
      let gone : find j (bk.rows (p.shard_of k)) ≡ none = ap (λ (z : ℕ). find j (bk.rows z)) h ∙ n in
      ended (on (store j c v x e)) (rw (here, taken, other_key j n, gone) (rw (le-leb _ _ l, o)))

  -- each way ends the stay
  way-ends : {ev : Event} → Way p k bk it.epoch it.expiry ev → ends p k ev bk ≡ true
  unfolding turned-defs current has_under
  way-ends (other_epoch c t e d) = lookup-ends c t e (rw (ne_eqb e it.epoch d))
  way-ends (expired c t e l) =
      lookup-ends c t e (by_test (eqb e it.epoch) (λ q. rw q (lt-leb t it.expiry l)) (λ q. rw q))
  way-ends (replaced c v x e a d) =
      opening-ends p k e (record { command = c; value = v; expiry = x }) bk it s f (yes-stored _ a) (rw f (ne_eqb e it.epoch d))
  way-ends (evicted j c v x e a h n l o) = evicted-ends j c v x e a h n l o
  way-ends invalidated_key = ended (on (invalidate k)) (rw (eqb_same (p.shard_of k), same_refl k))
  way-ends invalidated_all = ended invalidate_all refl

  -- a lookup that ends the stay does so in one of these ways
  lookup-way : (j c : Bytes) (t e : ℕ) → ends p k (on (lookup j c t e)) bk ≡ true → Way p k bk it.epoch it.expiry (on (lookup j c t e))
  unfolding turned-defs
  lookup-way j c t e d =
      by_test (eqb (p.shard_of k) (p.shard_of j))
      (λ l.
      by_test (same j k)
      (λ g.
      by_test (current t e it) (λ u. absurd (not-ended (on (lookup j c t e)) (rw (l, g, f) (rw u)) d))
      (λ u. subst (λ (z : Bytes). Way p k bk it.epoch it.expiry (on (lookup z c t e))) (sym (same-eq j k g)) (not-current c t e u)))
      (λ g. absurd (not-ended (on (lookup j c t e)) (rw (l, g)) d)))
      (λ l. absurd (not-ended (on (lookup j c t e)) (rw l) d))

  -- so does an invalidation
  invalidate-way : (j : Bytes) → ends p k (on (invalidate j)) bk ≡ true → Way p k bk it.epoch it.expiry (on (invalidate j))
  unfolding turned-defs
  invalidate-way j d =
      by_test (same j k) (λ g. subst (λ (z : Bytes). Way p k bk it.epoch it.expiry (on (invalidate z))) (sym (same-eq j k g)) invalidated_key)
      (λ g.
      absurd
      (not-ended (on (invalidate j)) (by_test (eqb (p.shard_of k) (p.shard_of j)) (λ l. rw (l, g)) (λ l. rw l)) d))

  -- and a store
  store-way : (j c v : Bytes) (x e : ℕ) → ends p k (on (store j c v x e)) bk ≡ true → Way p k bk it.epoch it.expiry (on (store j c v x e))
  unfolding turned-defs evicts item_of
  store-way j c v x e d =
      by_test (eqb (p.shard_of k) (p.shard_of j))
      (λ l.
      by_test (is_stored (effect_on p (store j c v x e) (bk.rows (p.shard_of k))).answer)
      (λ a.
      let taken : answer_to p (on (store j c v x e)) bk ≡ stored = answer-here p k j c v x e bk l ∙ stored-yes _ a in
      by_test (same j k) (λ g. own g taken d) (λ g. others l a g taken))
      (λ a. absurd (not-ended (on (store j c v x e)) (rw (l, a)) d)))
      (λ l. absurd (not-ended (on (store j c v x e)) (rw l) d))
    where
      own : same j k ≡ true → OwnWay c v x e j
      own g = subst (OwnWay c v x e) (sym (same-eq j k g)) (own-way c v x e)

      others : eqb (p.shard_of k) (p.shard_of j) ≡ true → is_stored (effect_on p (store j c v x e) (bk.rows (p.shard_of k))).answer ≡ true
          → same j k ≡ false → answer_to p (on (store j c v x e)) bk ≡ stored → Way p k bk it.epoch it.expiry (on (store j c v x e))
      others l a g taken =
          let row : Row = bk.rows (p.shard_of k) in
          let h : p.shard_of k ≡ p.shard_of j = eqb-true (p.shard_of k) (p.shard_of j) l in
          by_test (absent (find j row))
          (λ n.
          by_test (leb p.keys (length row))
          (λ m.
          by_test (is_oldest k row)
          (λ o.
          evicted j c v x e taken h (ap (λ (z : ℕ). find j (bk.rows z)) (sym h) ∙ absent_none _ n) (leb-true p.keys (length row) m) o)
          (λ o. absurd (not-ended (on (store j c v x e)) (rw (l, a, g, n, m, o)) d)))
          (λ m. absurd (not-ended (on (store j c v x e)) (rw (l, a, g, n, m)) d)))
          (λ n. absurd (not-ended (on (store j c v x e)) (rw (l, a, g, n)) d))

  -- so every event does
  end-way : (ev : Event) → ends p k ev bk ≡ true → Way p k bk it.epoch it.expiry ev
  unfolding turned-defs
  end-way (on (lookup j c t e)) d = lookup-way j c t e d
  end-way (on (store j c v x e)) d = store-way j c v x e d
  end-way (on (invalidate j)) d = invalidate-way j d
  end-way invalidate_all d = invalidated_all
  end-way new_epoch d = absurd (not-ended new_epoch refl d)

  -- an event ends the stay of the key's item exactly in these ways
  ways : (ev : Event) → (ends p k ev bk ≡ true) ↔ Way p k bk it.epoch it.expiry ev
  ways ev = (end-way ev, way-ends)

-- where a residence of the key runs, an event ends it exactly in these ways
pub residence-ends : (p : Setup) → 1 ≤ p.keys → (lent : Counts) (k : Bytes) (h : List Event) (r : Residence p (fresh lent) k h) (ev : Event)
    → (ends p k ev (run p (fresh lent) h) ≡ true) ↔ Way p k (run p (fresh lent) h) r.epoch (expiry_of r) ev
unfolding expiry_of
residence-ends p n lent k h r ev =
    let has = has-item p n lent k h r in
    let bk : Book = run p (fresh lent) h in
    subst (λ (x : ℕ). (ends p k ev bk ≡ true) ↔ Way p k bk r.epoch x ev) has.2.expiry
    (subst (λ (e : ℕ). (ends p k ev bk ≡ true) ↔ Way p k bk e has.0.expiry ev) has.2.epoch
    (ways p k bk has.0 (sound p n lent h) has.1 ev))
