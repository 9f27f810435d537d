-- What one event does to the stay of a key's item: it ends it, leaves it, lets it grow by a store, or begins it. Assumes a sound book.
use Rattle.std.specs.Prelude.{◌≡◌, refl, ℕ, true, false, not, eqb}
use Rattle.std.proofs.Common.{sym, ap, ◌∙◌, true≢false, ne_eqb, eqb-true}
use Rattle.std.proofs.lemmas.Bool.{false≢true, eqb-false}
use Rattle.std.proofs.Math.Option.{Option, none, some, none-ne-some, some-injective}
use Rattle.buffer.specs.Cases.{by_test, eqb_same}
use Rattle.buffer.specs.Same.{Bytes, same}
use Rattle.buffer.specs.SameLaws.{same_refl, same-eq}
use Rattle.book.specs.Book.{Item, Setup, Book, Keyed, lookup, store, invalidate, Event, on, invalidate_all, new_epoch, current, new_item, updated}
use Rattle.book.specs.Book.{key_of, effect_on, effect, after, answer_to}
use Rattle.book.specs.Trace.{SoundBook}
use Rattle.book.specs.Residence.{item_of, has_under, leaves, ends, KeptStore, is_stored, kept_by, opening}
use Rattle.book.proofs.Items.{stored_item, evicts, turned, turned-defs, item-after}

-- ---- keys

-- keys in different shards differ
pub apart-keys : (p : Setup) (k j : Bytes) → eqb (p.shard_of k) (p.shard_of j) ≡ false → same j k ≡ false
apart-keys p k j l =
    by_test (same j k)
    (λ g.
    absurd
    (true≢false (sym (eqb_same (p.shard_of k)) ∙ ap (λ (z : Bytes). eqb (p.shard_of k) (p.shard_of z)) (sym (same-eq j k g)) ∙ l)))
    (λ g. g)

-- a store's answer, on the row of a key in its shard
pub answer-here : (p : Setup) (k j c v : Bytes) (x e : ℕ) (bk : Book) → eqb (p.shard_of k) (p.shard_of j) ≡ true
    → answer_to p (on (store j c v x e)) bk ≡ (effect_on p (store j c v x e) (bk.rows (p.shard_of k))).answer
unfolding answer_to effect key_of
answer-here p k j c v x e bk l =
    ap (λ (z : ℕ). (effect_on p (store j c v x e) (bk.rows z)).answer) (sym (eqb-true (p.shard_of k) (p.shard_of j) l))

-- ---- the kinds of events

-- the item with a kept store more
unfoldable pub grown : Option KeptStore → Item → Item
grown none it = it
grown (some w) it = updated w.command w.value w.expiry it

-- the item that a store brings in
abbrev pub brought : Bytes → ℕ → KeptStore → Item
brought k e w = new_item k w.command w.value w.expiry e

-- what an event makes of k's item
pub data Turn (p : Setup) (k : Bytes) (ev : Event) (bk : Book) : Type 0 where
  goes : item_of p k (after p ev bk) ≡ none → Turn p k ev bk
  keeps : item_of p k (after p ev bk) ≡ item_of p k bk → kept_by p k ev bk ≡ none → Turn p k ev bk
  grows : (it : Item) → item_of p k bk ≡ some it → item_of p k (after p ev bk) ≡ some (grown (kept_by p k ev bk) it) → Turn p k ev bk
  begins : (e : ℕ) (w : KeptStore) → ev ≡ opening k e w → is_stored (answer_to p (opening k e w) bk) ≡ true → has_under e (item_of p k bk) ≡ false
      → item_of p k (after p ev bk) ≡ some (brought k e w) → Turn p k ev bk

-- a kept store of the key, which has no item under its epoch, brings a new one
stored-new : (k c v : Bytes) (x e : ℕ) (o : Option Item) → has_under e o ≡ false → stored_item k c v x e o ≡ new_item k c v x e
unfolding stored_item has_under
stored-new k c v x e none u = refl
stored-new k c v x e (some it) u = rw u

-- so the store that opens a residence brings its item in
pub opening-brings : (p : Setup) (k : Bytes) (e : ℕ) (w : KeptStore) (bk : Book) → SoundBook p bk
    → is_stored (answer_to p (opening k e w) bk) ≡ true → has_under e (item_of p k bk) ≡ false
    → item_of p k (after p (opening k e w) bk) ≡ some (brought k e w)
unfolding turned-defs answer_to effect
opening-brings p k e w bk s a u =
    item-after p k (opening k e w) bk s
    ∙ rw (eqb_same (p.shard_of k), a, same_refl k) (ap some (stored-new k w.command w.value w.expiry e (item_of p k bk) u))

-- an event in another shard
turn-elsewhere : (p : Setup) (k : Bytes) (q : Keyed) (bk : Book) → SoundBook p bk → eqb (p.shard_of k) (p.shard_of (key_of q)) ≡ false
    → Turn p k (on q) bk
unfolding turned-defs kept_by
turn-elsewhere p k q bk s l = keeps (item-after p k (on q) bk s ∙ rw l) (not-kept q l)
  where
    not-kept : (q : Keyed) → eqb (p.shard_of k) (p.shard_of (key_of q)) ≡ false → kept_by p k (on q) bk ≡ none
    not-kept (lookup j c t e) l = refl
    not-kept (store j c v x e) l = rw (apart-keys p k j l)
    not-kept (invalidate j) l = refl

-- a lookup in the shard
turn-lookup : (p : Setup) (k j c : Bytes) (t e : ℕ) (bk : Book) → SoundBook p bk → eqb (p.shard_of k) (p.shard_of j) ≡ true
    → Turn p k (on (lookup j c t e)) bk
unfolding turned-defs kept_by
turn-lookup p k j c t e bk s l =
    by_test (same j k) (λ g. at g (item_of p k bk) refl) (λ g. keeps (eq ∙ rw (l, g)) refl)
  where
    eq : item_of p k (after p (on (lookup j c t e)) bk) ≡ turned p k (on (lookup j c t e)) bk
    eq = item-after p k (on (lookup j c t e)) bk s

    at : same j k ≡ true → (o : Option Item) → item_of p k bk ≡ o → Turn p k (on (lookup j c t e)) bk
    at g none f = goes (eq ∙ rw (l, g, f))
    at g (some it) f =
        by_test (current t e it) (λ u. keeps (eq ∙ rw (l, g, f) (rw u)) refl) (λ u. goes (eq ∙ rw (l, g, f) (rw u)))

-- an invalidation in the shard
turn-invalidate : (p : Setup) (k j : Bytes) (bk : Book) → SoundBook p bk → eqb (p.shard_of k) (p.shard_of j) ≡ true
    → Turn p k (on (invalidate j)) bk
unfolding turned-defs kept_by
turn-invalidate p k j bk s l =
    by_test (same j k) (λ g. goes (item-after p k (on (invalidate j)) bk s ∙ rw (l, g)))
    (λ g. keeps (item-after p k (on (invalidate j)) bk s ∙ rw (l, g)) refl)

-- a store in the shard
turn-store : (p : Setup) (k j c v : Bytes) (x e : ℕ) (bk : Book) → SoundBook p bk → eqb (p.shard_of k) (p.shard_of j) ≡ true
    → Turn p k (on (store j c v x e)) bk
unfolding turned-defs kept_by has_under grown
turn-store p k j c v x e bk s l =
    by_test (is_stored (effect_on p (store j c v x e) (bk.rows (p.shard_of k))).answer)
    (λ a.
    by_test (same j k) (λ g. by_test (has_under e (item_of p k bk)) (λ u. into a g (item_of p k bk) refl u) (λ u. anew a g u))
    (λ g.
    by_test (evicts p k j (bk.rows (p.shard_of k))) (λ u. goes (eq ∙ rw (l, a, g, u)))
    (λ u. keeps (eq ∙ rw (l, a, g, u)) (rw g))))
    (λ a.
    keeps (eq ∙ rw (l, a)) (by_test (same j k) (λ g. rw (g, answer-here p k j c v x e bk l, a)) (λ g. rw g)))
  where
    eq : item_of p k (after p (on (store j c v x e)) bk) ≡ turned p k (on (store j c v x e)) bk
    eq = item-after p k (on (store j c v x e)) bk s

    into : is_stored (effect_on p (store j c v x e) (bk.rows (p.shard_of k))).answer ≡ true → same j k ≡ true
        → (o : Option Item) → item_of p k bk ≡ o → has_under e o ≡ true → Turn p k (on (store j c v x e)) bk
    into a g none f u = absurd (false≢true u)
    into a g (some it) f u = grows it f (eq ∙ rw (l, a, g, f) (rw (u, answer-here p k j c v x e bk l, a)))

    w : KeptStore
    w = record { command = c; value = v; expiry = x }

    anew : is_stored (effect_on p (store j c v x e) (bk.rows (p.shard_of k))).answer ≡ true → same j k ≡ true
        → has_under e (item_of p k bk) ≡ false → Turn p k (on (store j c v x e)) bk
    anew a g u =
        let is : on (store j c v x e) ≡ opening k e w = ap (λ (z : Bytes). on (store z c v x e)) (same-eq j k g) in
        let taken : is_stored (answer_to p (opening k e w) bk) ≡ true
        = ap (λ (ev : Event). is_stored (answer_to p ev bk)) (sym is) ∙ ap is_stored (answer-here p k j c v x e bk l) ∙ a in
        begins e w is taken u (ap (λ (ev : Event). item_of p k (after p ev bk)) is ∙ opening-brings p k e w bk s taken u)

-- every event is of one of the four kinds
pub turn : (p : Setup) (k : Bytes) (ev : Event) (bk : Book) → SoundBook p bk → Turn p k ev bk
unfolding turned-defs kept_by
turn p k (on q) bk s =
    by_test (eqb (p.shard_of k) (p.shard_of (key_of q))) (λ l. here q l) (λ l. turn-elsewhere p k q bk s l)
  where
    here : (q : Keyed) → eqb (p.shard_of k) (p.shard_of (key_of q)) ≡ true → Turn p k (on q) bk
    here (lookup j c t e) l = turn-lookup p k j c t e bk s l
    here (store j c v x e) l = turn-store p k j c v x e bk s l
    here (invalidate j) l = turn-invalidate p k j bk s l
turn p k invalidate_all bk s = goes (item-after p k invalidate_all bk s)
turn p k new_epoch bk s = keeps (item-after p k new_epoch bk s) refl

-- ---- what they say of the stay

-- a kept store more leaves the epoch
grown-epoch : (o : Option KeptStore) (it : Item) → (grown o it).epoch ≡ it.epoch
unfolding grown
grown-epoch none it = refl
grown-epoch (some w) it = refl

-- an item that has a successor under its epoch stays
pub stays : (p : Setup) (k : Bytes) (ev : Event) (bk : Book) (it jt : Item) → item_of p k bk ≡ some it → item_of p k (after p ev bk) ≡ some jt
    → jt.epoch ≡ it.epoch → ends p k ev bk ≡ false
unfolding ends leaves has_under
stays p k ev bk it jt f g e = rw (f, g) (rw (e, eqb_same))

-- one that has none does not
pub gone-ends : (p : Setup) (k : Bytes) (ev : Event) (bk : Book) (it : Item) → item_of p k bk ≡ some it → item_of p k (after p ev bk) ≡ none
    → ends p k ev bk ≡ true
unfolding ends leaves has_under
gone-ends p k ev bk it f g = rw (f, g)

-- the opening store ends the stay of an item that it finds
pub opening-ends : (p : Setup) (k : Bytes) (e : ℕ) (w : KeptStore) (bk : Book) (it : Item) → SoundBook p bk → item_of p k bk ≡ some it
    → is_stored (answer_to p (opening k e w) bk) ≡ true → has_under e (item_of p k bk) ≡ false → ends p k (opening k e w) bk ≡ true
unfolding ends leaves has_under
opening-ends p k e w bk it s f a u =
    rw (opening-brings p k e w bk s a u, f) (ap not (ne_eqb it.epoch e (λ q. eqb-false e it.epoch (rw f at u) (sym q))))

-- an event that does not end the stay adds its kept store, if it is one, and changes nothing else
pub stay-grows : (p : Setup) (k : Bytes) (ev : Event) (bk : Book) (it : Item) → SoundBook p bk → item_of p k bk ≡ some it → ends p k ev bk ≡ false
    → item_of p k (after p ev bk) ≡ some (grown (kept_by p k ev bk) it)
unfolding grown
stay-grows p k ev bk it s f l = at (turn p k ev bk s)
  where
    at : Turn p k ev bk → item_of p k (after p ev bk) ≡ some (grown (kept_by p k ev bk) it)
    at (goes g) = absurd (true≢false (sym (gone-ends p k ev bk it f g) ∙ l))
    at (keeps g n) = g ∙ f ∙ rw n
    at (grows jt q g) = g ∙ ap (λ (z : Item). some (grown (kept_by p k ev bk) z)) (some-injective jt it (sym q ∙ f))
    at (begins e w q a u g) =
        absurd (true≢false (sym (opening-ends p k e w bk it s f a u) ∙ ap (λ (z : Event). ends p k z bk) (sym q) ∙ l))

-- a key that has an item after an event had it stay, or begin with that event
pub data Arrived (p : Setup) (k : Bytes) (ev : Event) (bk : Book) : Type 0 where
  stayed : (it : Item) → item_of p k bk ≡ some it → ends p k ev bk ≡ false → Arrived p k ev bk
  opened : (e : ℕ) (w : KeptStore) → ev ≡ opening k e w → is_stored (answer_to p (opening k e w) bk) ≡ true → has_under e (item_of p k bk) ≡ false
      → Arrived p k ev bk

-- every item that is there after an event
pub arrived : (p : Setup) (k : Bytes) (ev : Event) (bk : Book) (it : Item) → SoundBook p bk → item_of p k (after p ev bk) ≡ some it → Arrived p k ev bk
arrived p k ev bk it s f = at (turn p k ev bk s)
  where
    at : Turn p k ev bk → Arrived p k ev bk
    at (goes g) = absurd (none-ne-some it (sym g ∙ f))
    at (keeps g n) = stayed it (sym g ∙ f) (stays p k ev bk it it (sym g ∙ f) f refl)
    at (grows jt q g) = stayed jt q (stays p k ev bk jt (grown (kept_by p k ev bk) jt) q g (grown-epoch (kept_by p k ev bk) jt))
    at (begins e w q a u g) = opened e w q a u
