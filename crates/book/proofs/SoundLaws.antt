-- Every row of a book that events left, from a fresh one, is sound. Assumes that a shard holds at least one key.
use Rattle.std.specs.Prelude.{◌≡◌, ℕ, suc, ◌-◌, ◌≤◌, Bool, true, false, List, [], ◌∷◌, ◌++◌, length, eqb, leb}
use Rattle.std.proofs.Math.Path.{refl}
use Rattle.std.proofs.Common.{sym, ap, ◌∙◌, subst, zero-le, arith, leb-true, leb-false}
use Rattle.std.proofs.Math.Option.{Option, none, some}
use Rattle.buffer.specs.Cases.{by_test}
use Rattle.buffer.specs.Same.{Bytes, same}
use Rattle.buffer.specs.SameLaws.{same-eq}
use Rattle.book.specs.Book.{Entry, Item, Row, Setup, Keyed, lookup, store, invalidate, find, without, replace, without_oldest, value_for}
use Rattle.book.specs.Book.{set_value, row_bytes, current, serve, lookup_item, new_item, updated, room_for_one, stored_row, fits, if_fits, key_of, effect_on}
use Rattle.book.proofs.Rows.{not-absent, find-without, find-without-other, without-absent, found-key, find-replace-other, value-set-other}
use Rattle.book.proofs.Rows.{Place, place, is_oldest, find-without_oldest}
use Rattle.book.specs.Each.{Brings}
use Rattle.book.proofs.EachLaws.{each-effect_on}
use Rattle.book.specs.Sound.{Distinct, DistinctCommands, SoundItem, Sound}

-- ---- keys distinct

-- a key that is absent stays absent
none-without : (j k : Bytes) (row : Row) → find j row ≡ none → find j (without k row) ≡ none
none-without j k row f =
    by_test (same k j) (λ e. ap (λ (z : Bytes). find j (without z row)) (same-eq k j e) ∙ find-without j row)
    (λ e. find-without-other k j row e ∙ f)

-- no key comes twice by one going
distinct_without : (k : Bytes) (row : Row) → Distinct row → Distinct (without k row)
unfolding without
distinct_without k [] d = tt
distinct_without k (it ∷ row) d =
    by_test (same k it.key) (λ e. rw e (distinct_without k row d.1))
    (λ e. rw e (none-without it.key k row d.0, distinct_without k row d.1))

-- with no item nothing is replaced
replace_absent : (k : Bytes) (new : Item) (row : Row) → find k row ≡ none → replace k new row ≡ row
unfolding replace find
replace_absent k new [] f = refl
replace_absent k new (it ∷ row) f =
    by_test (same k it.key) (λ e. absurd (not-absent k it row e f))
    (λ e. rw e (ap (λ (z : Row). it ∷ z) (replace_absent k new row (rw e at f))))

-- a key that is absent stays absent
none-replace : (j k : Bytes) (new : Item) (row : Row) → same k new.key ≡ true → find j row ≡ none → find j (replace k new row) ≡ none
none-replace j k new row n f =
    by_test (same k j) (λ e. ap (find j) (replace_absent k new row (ap (λ (z : Bytes). find z row) (same-eq k j e) ∙ f)) ∙ f)
    (λ e. find-replace-other k j new row e n ∙ f)

-- no key comes twice by one being replaced
distinct-replace : (k : Bytes) (new : Item) (row : Row) → same k new.key ≡ true → Distinct row → Distinct (replace k new row)
unfolding replace
distinct-replace k new [] n d = tt
distinct-replace k new (it ∷ row) n d =
    by_test (same k it.key)
    (λ e. rw e (ap (λ (z : Bytes). find z row) (sym (same-eq k new.key n) ∙ same-eq k it.key e) ∙ d.0, d.1))
    (λ e. rw e (none-replace it.key k new row n d.0, distinct-replace k new row n d.1))

-- a key that is absent stays absent
none-without_oldest : (j : Bytes) (row : Row) → Distinct row → find j row ≡ none → find j (without_oldest row) ≡ none
none-without_oldest j row d f = find-without_oldest j row d ∙ by_test (is_oldest j row) (λ e. rw e) (λ e. rw e f)

-- no key comes twice by the oldest going
distinct-without_oldest : (row : Row) → Distinct row → Distinct (without_oldest row)
unfolding without_oldest
distinct-without_oldest [] d = tt
distinct-without_oldest (it ∷ []) d = tt
distinct-without_oldest (it ∷ (jt ∷ row)) d =
    (none-without_oldest it.key (jt ∷ row) d.1 d.0, distinct-without_oldest (jt ∷ row) d.1)

-- ---- how many items, and how many bytes

-- an item within the row counts one
len-split : (front back : Row) (it : Item) → length (front ++ (it ∷ back)) ≡ suc (length (front ++ back))
len-split [] back it = refl
len-split (jt ∷ front) back it = ap suc (len-split front back it)

-- and its bytes count wherever it stands
bytes-split : (front back : Row) (it : Item) → row_bytes (front ++ (it ∷ back)) ≡ row_bytes (it ∷ (front ++ back))
unfolding row_bytes
bytes-split [] back it = refl
bytes-split (jt ∷ front) back it = let ih = bytes-split front back it in omega arith

-- the key's item is one of the row
len-gone : (k : Bytes) (row : Row) (it : Item) → Distinct row → find k row ≡ some it → length row ≡ suc (length (without k row))
len-gone k row it d f =
    let at : Place k row it = place k row it d f in
    ap (λ (z : Row). length z) at.splits ∙ len-split at.front at.back it ∙ ap (λ (z : Row). suc (length z)) (sym at.gone)

-- and its bytes are part of the row's
bytes-gone : (k : Bytes) (row : Row) (it : Item) → Distinct row → find k row ≡ some it → row_bytes row ≡ row_bytes (it ∷ without k row)
bytes-gone k row it d f =
    let at : Place k row it = place k row it d f in
    ap row_bytes at.splits ∙ bytes-split at.front at.back it ∙ ap (λ (z : Row). row_bytes (it ∷ z)) (sym at.gone)

-- a row keeps its length when an item is replaced
len-replace : (k : Bytes) (new : Item) (row : Row) → length (replace k new row) ≡ length row
unfolding replace
len-replace k new [] = refl
len-replace k new (it ∷ row) = by_test (same k it.key) (λ e. rw e) (λ e. rw e (ap suc (len-replace k new row)))

-- and loses one when the oldest goes
len-without_oldest : (it : Item) (row : Row) → length (without_oldest (it ∷ row)) ≡ length row
unfolding without_oldest
len-without_oldest it [] = refl
len-without_oldest it (jt ∷ row) = ap suc (len-without_oldest jt row)

-- ---- the entries of an item

-- a value that is set makes no command key come twice
distinct-set : (c v : Bytes) (ens : List Entry) → DistinctCommands ens → DistinctCommands (set_value c v ens)
unfolding set_value
distinct-set c v [] d = (unfold value_for in refl, tt)
distinct-set c v (en ∷ ens) d =
    by_test (same c en.command) (λ e. rw e (ap (λ (z : Bytes). value_for z ens) (same-eq c en.command e) ∙ d.0, d.1))
    (λ e. rw e (value-set-other c en.command v ens e ∙ d.0, distinct-set c v ens d.1))

-- and leaves at least one entry
length-set : (c v : Bytes) (ens : List Entry) → 1 ≤ length (set_value c v ens)
unfolding set_value
length-set c v [] = omega arith
length-set c v (en ∷ ens) = by_test (same c en.command) (λ e. rw e (omega arith)) (λ e. rw e (omega arith))

-- what a store brings is sound
brings-sound : (p : Setup) (q : Keyed) → Brings (SoundItem p (p.shard_of (key_of q))) q
unfolding key_of value_for
brings-sound p (lookup k c t e) = tt
brings-sound p (store k c v x e) = (
  record { home = refl; some-entry = omega arith; commands = (refl, tt) },
  λ it g w.
      record { home = w.home; some-entry = length-set c v it.entries; commands = distinct-set c v it.entries w.commands },
)
brings-sound p (invalidate k) = tt

-- ---- events on a row

-- a row without items is sound
pub sound-nil : (p : Setup) (s : ℕ) → Sound p s []
unfolding row_bytes
sound-nil p s = record { keys = tt; items = tt; few = zero-le; light = zero-le }

-- no key twice, and no more items than the shard holds
abbrev Fewer : Setup → Row → Type 0
Fewer p row = Distinct row × (length row ≤ p.keys)

-- and no more bytes than it has
abbrev Lighter : Setup → Row → Type 0
Lighter p row = Fewer p row × (row_bytes row ≤ p.bytes - 16)

-- it stays so where the key's item goes
lighter-gone : (p : Setup) (k : Bytes) (row : Row) → Lighter p row → (o : Option Item) → find k row ≡ o → Lighter p (without k row)
unfolding row_bytes
lighter-gone p k row w none f = subst (Lighter p) (sym (without-absent k row f)) w
lighter-gone p k row w (some it) f =
    let l = len-gone k row it w.0.0 f in
    let y = bytes-gone k row it w.0.0 f in
    let few = w.0.1 in
    let light = w.1 in
    ((distinct_without k row w.0.0, omega arith), omega arith)

-- and where it is put in front
lighter-front : (p : Setup) (k : Bytes) (row : Row) (it : Item) → Lighter p row → find k row ≡ some it → Lighter p (it ∷ without k row)
lighter-front p k row it w f =
    let l = len-gone k row it w.0.0 f in
    let few = w.0.1 in (
      (
        (ap (λ (z : Bytes). find z (without k row)) (sym (same-eq k it.key (found-key k row it f))) ∙ find-without k row, distinct_without k row w.0.0),
        omega arith,
      ),
      subst (λ (z : ℕ). z ≤ p.bytes - 16) (bytes-gone k row it w.0.0 f) w.1,
    )

-- so it is after every lookup
lighter-lookup : (p : Setup) (k c : Bytes) (t e : ℕ) (row : Row) → Lighter p row
    → (o : Option Item) → find k row ≡ o → Lighter p (lookup_item o k c t e row).row
unfolding lookup_item serve
lighter-lookup p k c t e row w none f = w
lighter-lookup p k c t e row w (some it) f =
    by_test (current t e it) (λ l. rw l (at (value_for c it.entries))) (λ l. rw l (lighter-gone p k row w (some it) f))
  where
    at : (o : Option Bytes) → Lighter p (serve o (it ∷ without k row)).row
    at none = lighter-front p k row it w f
    at (some v) = lighter-front p k row it w f

-- with room for one key more, there is no key twice and not one too many
fewer-room : (p : Setup) (new : Item) (row : Row) → 1 ≤ p.keys → Fewer p row → find new.key row ≡ none
    → Fewer p (new ∷ room_for_one p.keys row)
unfolding room_for_one without_oldest
fewer-room p new [] n w f = by_test (leb p.keys 0) (λ l. rw l ((f, tt), n)) (λ l. rw l ((f, tt), n))
fewer-room p new (it ∷ row) n w f =
    by_test (leb p.keys (length (it ∷ row)))
    (λ l.
    rw l
    ((none-without_oldest new.key (it ∷ row) w.0 f, distinct-without_oldest (it ∷ row) w.0), rw len-without_oldest w.1))
    (λ l. rw l ((f, w.0), leb-false p.keys (length (it ∷ row)) l))

-- so it is after every store, the bytes aside
fewer-store : (p : Setup) (k c v : Bytes) (x e : ℕ) (row : Row) → 1 ≤ p.keys → Fewer p row
    → (o : Option Item) → find k row ≡ o → Fewer p (stored_row p.keys o k c v x e row)
unfolding stored_row
fewer-store p k c v x e row n w none f = fewer-room p (new_item k c v x e) row n w f
fewer-store p k c v x e row n w (some it) f =
    by_test (eqb e it.epoch)
    (λ l. rw l (distinct-replace k (updated c v x it) row (found-key k row it f) w.0, rw len-replace w.1))
    (λ l.
    rw l
    ((find-without k row, distinct_without k row w.0), let y = len-gone k row it w.0 f in let few = w.1 in omega arith))

-- and a store is kept only if it fits
lighter-store : (p : Setup) (new old : Row) → Fewer p new → Lighter p old → (b : Bool) → fits p.bytes new ≡ b → Lighter p (if_fits b new old).row
unfolding if_fits fits
lighter-store p new old n w true f = (n, leb-true (row_bytes new) (p.bytes - 16) f)
lighter-store p new old n w false f = w

-- so it is after every event with a key
lighter-effect_on : (p : Setup) → 1 ≤ p.keys → (q : Keyed) (row : Row) → Lighter p row → Lighter p (effect_on p q row).row
unfolding effect_on
lighter-effect_on p n (lookup k c t e) row w = lighter-lookup p k c t e row w (find k row) refl
lighter-effect_on p n (store k c v x e) row w =
    lighter-store p (stored_row p.keys (find k row) k c v x e row) row (fewer-store p k c v x e row n w.0 (find k row) refl) w _ refl
lighter-effect_on p n (invalidate k) row w = lighter-gone p k row w (find k row) refl

-- every event with a key keeps its row sound
pub sound-effect_on : (p : Setup) → 1 ≤ p.keys → (q : Keyed) (row : Row) → Sound p (p.shard_of (key_of q)) row
    → Sound p (p.shard_of (key_of q)) (effect_on p q row).row
sound-effect_on p n q row w =
    let l = lighter-effect_on p n q row ((w.keys, w.few), w.light) in
    record {
      keys = l.0.0;
      items = each-effect_on (SoundItem p (p.shard_of (key_of q))) p q row (brings-sound p q) w.items;
      few = l.0.1;
      light = l.1;
    }
