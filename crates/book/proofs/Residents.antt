-- In every book that a trace leaves from a fresh one, a key has an item exactly if a residence of the key runs, and the item's epoch, expiry and values
-- are the residence's; and a key has at most one residence at a time. Assumes that a shard holds at least one key.
use Rattle.std.specs.Prelude.{◌≡◌, refl, ◌↔◌, ℕ, ◌≤◌, true, false}
use Rattle.std.proofs.Math.Path.{sym, ap, subst}
use Rattle.std.proofs.Common.{ap₂, ◌∙◌, true≢false}
use Rattle.std.proofs.Math.Option.{Option, none, some, none-ne-some, some-injective}
use mathlib.Core.List.{List, [], ◌∷◌, ◌++◌}
use Rattle.buffer.specs.Cases.{by_test}
use Rattle.buffer.specs.Same.{Bytes, same}
use Rattle.buffer.specs.SameLaws.{same-eq}
use Rattle.book.specs.Book.{Entry, Item, Setup, Book, Counts, hit, lookup, Event, on, fresh, find, value_for, set_value, answer_to}
use Rattle.book.proofs.Rows.{same-comm, value_set, value-set-other}
use Rattle.book.specs.Calls.{run}
use Rattle.book.proofs.Trace.{sound}
use Rattle.book.specs.Residence.{item_of, has_under, ends, KeptStore, is_stored, kept_by, cons_if, kept_in, opening, Lasts, Residence, latest_of}
use Rattle.book.specs.Residence.{latest_under, later_stores, stores_of, expiry_of, ServedBy}
use Rattle.book.proofs.Lookups.{lookup-answer, Serving, serving}
use Rattle.book.proofs.Stays.{grown, brought, opening-brings, opening-ends, stay-grows, Arrived, stayed, opened, arrived}

-- ---- an item and the stores that it comes from

-- the epoch is that of the stores, the expiry the latest one's, each value that of the latest under its command key; w came first, ws later
pub record ComesFrom (e : ℕ) (ws : List KeptStore) (w : KeptStore) (it : Item) : Type 0 where
  pub epoch : it.epoch ≡ e
  pub expiry : it.expiry ≡ (latest_of ws w).expiry
  pub values : (c : Bytes) → value_for c it.entries ≡ latest_under c (ws ++ (w ∷ []))

-- the item that a store brings in comes from that store
brought-comes : (k : Bytes) (e : ℕ) (w : KeptStore) → ComesFrom e [] w (brought k e w)
unfolding latest_of latest_under value_for
brought-comes k e w = record { epoch = refl; expiry = refl; values = λ c. refl }

-- one value more
set-latest : (c v d : Bytes) (x : ℕ) (ens : List Entry) (us : List KeptStore) → ((c : Bytes) → value_for c ens ≡ latest_under c us)
    → value_for d (set_value c v ens) ≡ latest_under d (record { command = c; value = v; expiry = x } ∷ us)
unfolding latest_under
set-latest c v d x ens us same-values =
    by_test (same d c)
    (λ l. rw l (ap (λ (z : Bytes). value_for z (set_value c v ens)) (same-eq d c l) ∙ value_set c v ens))
    (λ l. rw l (value-set-other c d v ens (same-comm c d ∙ l) ∙ same-values d))

-- an item with a kept store more comes from one store more
grown-comes : (e : ℕ) (ws : List KeptStore) (w : KeptStore) (it : Item) (o : Option KeptStore) → ComesFrom e ws w it
    → ComesFrom e (cons_if o ws) w (grown o it)
unfolding grown cons_if latest_of
grown-comes e ws w it none from = from
grown-comes e ws w it (some u) from =
    record {
      epoch = from.epoch;
      expiry = refl;
      values = λ d. set-latest u.command u.value d u.expiry it.entries (ws ++ (w ∷ [])) from.values;
    }

-- ---- residences and items

module _ (p : Setup) (n : 1 ≤ p.keys) (lent : Counts) (k : Bytes) where
  -- the book after a trace
  abbrev at : List Event → Book
  at h = run p (fresh lent) h

  -- the item that the stores of a part of the trace leave
  abbrev Leaves : List Event → List Event → ℕ → KeptStore → Type 0
  Leaves since before e w =
      (it : Item) × (item_of p k (at (since ++ (opening k e w ∷ before))) ≡ some it)
      × ComesFrom e (kept_in p (fresh lent) k since (opening k e w ∷ before)) w it

  -- a residence leaves an item that comes from its stores
  leaves-item : (since before : List Event) (e : ℕ) (w : KeptStore)
      → is_stored (answer_to p (opening k e w) (at before)) ≡ true → has_under e (item_of p k (at before)) ≡ false
      → Lasts p (fresh lent) k since (opening k e w ∷ before) → Leaves since before e w
  unfolding run kept_in
  leaves-item [] before e w a u l =
      (brought k e w, opening-brings p k e w (at before) (sound p n lent before) a u, brought-comes k e w)
  leaves-item (ev ∷ since) before e w a u l =
      let h : List Event = since ++ (opening k e w ∷ before) in
      let was : Leaves since before e w = leaves-item since before e w a u l.1 in
      let o : Option KeptStore = kept_by p k ev (at h) in (
        grown o was.0,
        stay-grows p k ev (at h) was.0 (sound p n lent h) was.1 l.0,
        grown-comes e (kept_in p (fresh lent) k since (opening k e w ∷ before)) w was.0 o was.2,
      )

  -- the item is the residence's
  abbrev pub Shows : (h : List Event) → Residence p (fresh lent) k h → Item → Type 0
  Shows h r it = ComesFrom r.epoch (later_stores r) r.first it

  -- where a residence runs, the key has an item that shows it
  pub has-item : (h : List Event) (r : Residence p (fresh lent) k h) → (it : Item) × (item_of p k (at h) ≡ some it) × Shows h r it
  unfolding later_stores
  has-item h r =
      let found : Leaves r.since r.before r.epoch r.first
      = leaves-item r.since r.before r.epoch r.first r.kept r.began r.lasts in
      (found.0, ap (λ (z : List Event). item_of p k (at z)) r.part ∙ found.1, found.2)

  -- an event that does not end it makes it longer
  pub runs_on : (ev : Event) (h : List Event) → ends p k ev (at h) ≡ false → Residence p (fresh lent) k h → Residence p (fresh lent) k (ev ∷ h)
  runs_on ev h l r =
      record {
        epoch = r.epoch;
        first = r.first;
        since = ev ∷ r.since;
        before = r.before;
        part = ap (λ (z : List Event). ev ∷ z) r.part;
        kept = r.kept;
        began = r.began;
        lasts = (subst (λ (z : List Event). ends p k ev (at z) ≡ false) r.part l, r.lasts);
      }

  -- an item that is there after an event stayed or arrived with it
  from-arrival : (ev : Event) (h : List Event) → ((it : Item) → item_of p k (at h) ≡ some it → Residence p (fresh lent) k h)
      → Arrived p k ev (at h) → Residence p (fresh lent) k (ev ∷ h)
  from-arrival ev h earlier (stayed it f l) = runs_on ev h l (earlier it f)
  from-arrival ev h earlier (opened e w q a u) =
      record {
        epoch = e;
        first = w;
        since = [];
        before = h;
        part = ap (λ (z : Event). z ∷ h) q;
        kept = a;
        began = u;
        lasts = tt;
      }

  -- where the key has an item, a residence runs
  pub has-residence : (h : List Event) (it : Item) → item_of p k (at h) ≡ some it → Residence p (fresh lent) k h
  unfolding run
  has-residence [] it f = absurd (none-ne-some it (unfold item_of fresh find in f))
  has-residence (ev ∷ h) it f =
      from-arrival ev h (λ jt g. has-residence h jt g) (arrived p k ev (at h) it (sound p n lent h) f)

  -- an event that ends it leaves none but one that this event begins
  none_within : (since before : List Event) (e : ℕ) (w : KeptStore) (ev : Event) (h : List Event)
      → Lasts p (fresh lent) k since (opening k e w ∷ before) → ev ∷ h ≡ since ++ (opening k e w ∷ before) → ends p k ev (at h) ≡ true → since ≡ []
  none_within [] before e w ev h l q d = refl
  none_within (ev' ∷ since) before e w ev h l q d =
      let o : ev ≡ ev' = cc in
      let t : h ≡ since ++ (opening k e w ∷ before) = cc in
      absurd (true≢false (sym d ∙ ap₂ (λ (z : Event) (y : List Event). ends p k z (at y)) o t ∙ l.0))

  -- so what runs after it has begun with it
  pub over : (ev : Event) (h : List Event) → ends p k ev (at h) ≡ true → (r : Residence p (fresh lent) k (ev ∷ h)) → r.since ≡ []
  over ev h d r = none_within r.since r.before r.epoch r.first ev h r.lasts r.part d

  -- ---- one at a time

  -- a part of the trace that is a residence
  record Stay (since before : List Event) (e : ℕ) (w : KeptStore) : Type 0 where
    kept : is_stored (answer_to p (opening k e w) (at before)) ≡ true
    began : has_under e (item_of p k (at before)) ≡ false
    lasts : Lasts p (fresh lent) k since (opening k e w ∷ before)

  -- the store that opens one is no event within another
  not_within : (since before : List Event) (e : ℕ) (w : KeptStore) → Stay since before e w
      → (h : List Event) (d : ℕ) (u : KeptStore) → Stay [] h d u → h ≡ since ++ (opening k e w ∷ before)
      → ends p k (opening k d u) (at (since ++ (opening k e w ∷ before))) ≡ true
  not_within since before e w stay h d u new q =
      let it : Leaves since before e w = leaves-item since before e w stay.kept stay.began stay.lasts in
      subst (λ (z : List Event). ends p k (opening k d u) (at z) ≡ true) q
      (opening-ends p k d u (at h) it.0 (sound p n lent h) (ap (λ (z : List Event). item_of p k (at z)) q ∙ it.1) new.kept new.began)

  -- two residences at the end of one trace are the same part of it
  same-stay : (since before : List Event) (e : ℕ) (w : KeptStore) (since' before' : List Event) (e' : ℕ) (w' : KeptStore)
      → Stay since before e w → Stay since' before' e' w'
      → since ++ (opening k e w ∷ before) ≡ since' ++ (opening k e' w' ∷ before')
      → (since ≡ since') × (before ≡ before') × (e ≡ e') × (w ≡ w')
  same-stay [] before e w [] before' e' w' s s' q =
      let c : w.command ≡ w'.command = cc in
      let v : w.value ≡ w'.value = cc in
      let x : w.expiry ≡ w'.expiry = cc in
      (refl, cc, cc, λ i. record { command = c i; value = v i; expiry = x i })
  same-stay [] before e w (ev ∷ since') before' e' w' s s' q =
      let h : before ≡ since' ++ (opening k e' w' ∷ before') = cc in
      let o : opening k e w ≡ ev = cc in
      let stay : Stay since' before' e' w' = record { kept = s'.kept; began = s'.began; lasts = s'.lasts.1 } in
      absurd
      (true≢false
      (sym (not_within since' before' e' w' stay before e w s h)
      ∙ ap (λ (z : Event). ends p k z (at (since' ++ (opening k e' w' ∷ before')))) o ∙ s'.lasts.0))
  same-stay (ev ∷ since) before e w [] before' e' w' s s' q =
      let h : before' ≡ since ++ (opening k e w ∷ before) = cc in
      let o : opening k e' w' ≡ ev = cc in
      let stay : Stay since before e w = record { kept = s.kept; began = s.began; lasts = s.lasts.1 } in
      absurd
      (true≢false
      (sym (not_within since before e w stay before' e' w' s' h)
      ∙ ap (λ (z : Event). ends p k z (at (since ++ (opening k e w ∷ before)))) o ∙ s.lasts.0))
  same-stay (ev ∷ since) before e w (ev' ∷ since') before' e' w' s s' q =
      let stay : Stay since before e w = record { kept = s.kept; began = s.began; lasts = s.lasts.1 } in
      let stay' : Stay since' before' e' w' = record { kept = s'.kept; began = s'.began; lasts = s'.lasts.1 } in
      let o : ev ≡ ev' = cc in
      let ih = same-stay since before e w since' before' e' w' stay stay' cc in
      (ap₂ ◌∷◌ o ih.0, ih.1, ih.2, ih.3)

  -- a key has at most one residence at a time: two that run at the end of a trace are the same part of it
  pub one-residence : (h : List Event) (r r' : Residence p (fresh lent) k h)
      → (r.since ≡ r'.since) × (r.before ≡ r'.before) × (r.epoch ≡ r'.epoch) × (r.first ≡ r'.first)
  one-residence h r r' =
      same-stay r.since r.before r.epoch r.first r'.since r'.before r'.epoch r'.first
      (record { kept = r.kept; began = r.began; lasts = r.lasts }) (record { kept = r'.kept; began = r'.began; lasts = r'.lasts })
      (sym r.part ∙ r'.part)

  -- ---- what a lookup is served

  -- demand 3's lookup, in both directions
  pub served-by : (h : List Event) (c v : Bytes) (t e : ℕ)
      → (answer_to p (on (lookup k c t e)) (at h) ≡ hit v) ↔ ServedBy p (fresh lent) h k c t e v
  unfolding expiry_of stores_of
  served-by h c v t e = (λ q. to ((serving (item_of p k (at h)) c t e v).0 (sym (lookup-answer p k c t e (at h)) ∙ q)), from)
    where
      to : Serving (item_of p k (at h)) c t e v → ServedBy p (fresh lent) h k c t e v
      to s =
          let r : Residence p (fresh lent) k h = has-residence h s.item s.is in
          let has = has-item h r in
          let is : has.0 ≡ s.item = some-injective has.0 s.item (sym has.1 ∙ s.is) in
          record {
            residence = r;
            epoch = sym has.2.epoch ∙ ap (λ (z : Item). z.epoch) is ∙ s.epoch;
            in-time = subst (λ (z : ℕ). t ≤ z) (ap (λ (z : Item). z.expiry) (sym is) ∙ has.2.expiry) s.in-time;
            latest = sym (has.2.values c) ∙ ap (λ (z : Item). value_for c z.entries) is ∙ s.holds;
          }

      from : ServedBy p (fresh lent) h k c t e v → answer_to p (on (lookup k c t e)) (at h) ≡ hit v
      from s =
          let has = has-item h s.residence in
          lookup-answer p k c t e (at h)
          ∙ (serving (item_of p k (at h)) c t e v).1
          (record {
            item = has.0;
            is = has.1;
            epoch = has.2.epoch ∙ s.epoch;
            in-time = subst (λ (z : ℕ). t ≤ z) (sym has.2.expiry) s.in-time;
            holds = has.2.values c ∙ s.latest;
          })
