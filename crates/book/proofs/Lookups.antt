-- Laws of specs/Lookups.antt. A lookup's answer is read off its key's item. So a planning's answers are read off the book before it (`planned`): its lookups share clock and epoch,
-- and what one of them drops no other would be served. Assumes nothing.
use Rattle.std.specs.Prelude.{◌≡◌, ℕ, ◌≤◌, Bool, true, cond, List, [], ◌∷◌, ◌↔◌, eqb}
use Rattle.std.proofs.Math.Path.{refl}
use Rattle.std.proofs.Common.{sym, ap, ap₂, ◌∙◌, arith, eqb-true, leb-true, le-leb}
use Rattle.std.proofs.lemmas.Bool.{false≢true}
use Rattle.std.proofs.Math.Option.{Option, none, some, none-ne-some, some-injective}
use Rattle.buffer.specs.Cases.{by_test, eqb_same}
use Rattle.buffer.specs.Same.{Bytes, same}
use Rattle.book.specs.Book.{Item, Row, Setup, Book, Answer, hit, miss, lookup, on, find, without, value_for, current, serve, lookup_item, key_of}
use Rattle.book.specs.Book.{effect_on, effect, put, after, answer_to, answers}
use Rattle.book.specs.Calls.{Wanted, planning, lookups, ons, reply_to, call-defs}
use Rattle.book.proofs.Trace.{row_here, row-elsewhere}
use Rattle.book.specs.Residence.{item_of}
use Rattle.book.specs.Items.{if_current}
use Rattle.book.proofs.Items.{lookup-in}
use Rattle.book.proofs.Stays.{apart-keys}
use Rattle.book.specs.Lookups.{answer_from, dry, served}

-- a lookup's answer does not depend on the rest of the row
answer-from : (o : Option Item) (k c : Bytes) (t e : ℕ) (row : Row) → (lookup_item o k c t e row).answer ≡ answer_from o c t e
unfolding answer_from lookup_item serve served
answer-from none k c t e row = refl
answer-from (some it) k c t e row = by_test (current t e it) (λ l. rw l (by_value (value_for c it.entries))) (λ l. rw l)
  where
    by_value : (o : Option Bytes) → (serve o (it ∷ without k row)).answer ≡ served o
    by_value none = refl
    by_value (some v) = refl

-- a lookup's answer, from its key's item in the book
pub lookup-answer : (p : Setup) (k c : Bytes) (t e : ℕ) (bk : Book) → answer_to p (on (lookup k c t e)) bk ≡ answer_from (item_of p k bk) c t e
unfolding answer_to effect effect_on key_of item_of
lookup-answer p k c t e bk = answer-from (find k (bk.rows (p.shard_of k))) k c t e (bk.rows (p.shard_of k))

-- ---- what is served

-- an item that serves v: under the epoch, not past its expiry, with the value
pub record Serving (o : Option Item) (c : Bytes) (t e : ℕ) (v : Bytes) : Type 0 where
  pub item : Item
  pub is : o ≡ some item
  pub epoch : item.epoch ≡ e
  pub in-time : t ≤ item.expiry
  pub holds : value_for c item.entries ≡ some v

-- a miss is no hit
miss-no-hit : (v : Bytes) → miss ≡ hit v → ⊥
miss-no-hit v q = let z : ◌≡◌ {A = ℕ} 0 1 = cc in omega arith

-- a hit is of the value
served-some : (o : Option Bytes) (v : Bytes) → served o ≡ hit v → o ≡ some v
unfolding served
served-some none v q = absurd (miss-no-hit v q)
served-some (some u) v q = cc

-- a current item has the epoch and is in time
current-yes : (t e : ℕ) (it : Item) → current t e it ≡ true → (it.epoch ≡ e) × (t ≤ it.expiry)
unfolding current
current-yes t e it l =
    by_test (eqb e it.epoch) (λ q. (sym (eqb-true e it.epoch q), leb-true t it.expiry (rw q at l)))
    (λ q. absurd (false≢true (rw q at l)))

-- and such an item is current
yes-current : (t e : ℕ) (it : Item) → it.epoch ≡ e → t ≤ it.expiry → current t e it ≡ true
unfolding current
yes-current t e it q h = rw (q, eqb_same e) (le-leb t it.expiry h)

-- a lookup is served v exactly if the key's item serves v
pub serving : (o : Option Item) (c : Bytes) (t e : ℕ) (v : Bytes) → (answer_from o c t e ≡ hit v) ↔ Serving o c t e v
unfolding answer_from served
serving none c t e v = (λ q. absurd (miss-no-hit v q), λ s. absurd (none-ne-some s.item s.is))
serving (some it) c t e v = (to, from)
  where
    to : answer_from (some it) c t e ≡ hit v → Serving (some it) c t e v
    to q =
        by_test (current t e it)
        (λ l.
        let y = current-yes t e it l in
        record { item = it; is = refl; epoch = y.0; in-time = y.1; holds = served-some (value_for c it.entries) v (rw l at q) })
        (λ l. absurd (miss-no-hit v (rw l at q)))

    from : Serving (some it) c t e v → answer_from (some it) c t e ≡ hit v
    from s =
        let same_item : it ≡ s.item = some-injective it s.item s.is in
        let l : current t e it ≡ true = rw same_item (yes-current t e s.item s.epoch s.in-time) in
        rw l (rw same_item (rw s.holds))

-- any other lookup is a miss
else-miss : (o : Option Item) (c : Bytes) (t e : ℕ) → ((v : Bytes) → answer_from o c t e ≡ hit v → ⊥) → answer_from o c t e ≡ miss
unfolding answer_from
else-miss none c t e f = refl
else-miss (some it) c t e f = by_test (current t e it) (λ l. rw l (by_value (value_for c it.entries) (rw l at f))) (λ l. rw l)
  where
    by_value : (o : Option Bytes) → ((v : Bytes) → served o ≡ hit v → ⊥) → served o ≡ miss
    by_value none f = unfold served in refl
    by_value (some v) f = absurd (f v (unfold served in refl))

-- in the book too
pub lookup-miss : (p : Setup) (k c : Bytes) (t e : ℕ) (bk : Book) → ((v : Bytes) → answer_to p (on (lookup k c t e)) bk ≡ hit v → ⊥)
    → answer_to p (on (lookup k c t e)) bk ≡ miss
lookup-miss p k c t e bk f =
    let a = lookup-answer p k c t e bk in a ∙ else-miss (item_of p k bk) c t e (λ v q. f v (a ∙ q))

-- ---- the dry pass

-- a lookup before it, under the same clock and epoch, changes no lookup's answer
from-current : (o : Option Item) (c : Bytes) (t e : ℕ) → answer_from (if_current t e o) c t e ≡ answer_from o c t e
unfolding answer_from if_current
from-current none c t e = refl
from-current (some it) c t e = by_test (current t e it) (λ l. rw l (rw l)) (λ l. rw l)

-- what a lookup makes of each key's item
item-lookup : (p : Setup) (j k c : Bytes) (t e : ℕ) (bk : Book)
    → item_of p j (after p (on (lookup k c t e)) bk) ≡ cond (same k j) (if_current t e (item_of p j bk)) (item_of p j bk)
unfolding item_of after put effect effect_on key_of
item-lookup p j k c t e bk =
    by_test (eqb (p.shard_of j) (p.shard_of k))
    (λ l. rw (← (eqb-true (p.shard_of j) (p.shard_of k) l), row_here) (lookup-in j k c t e (bk.rows (p.shard_of j))))
    (λ l. rw (row-elsewhere, apart-keys p j k l))

-- so no other lookup's answer changes
lookup-unseen : (p : Setup) (k j c d : Bytes) (t e : ℕ) (bk : Book)
    → answer_to p (on (lookup j d t e)) (after p (on (lookup k c t e)) bk) ≡ answer_to p (on (lookup j d t e)) bk
lookup-unseen p k j c d t e bk =
    lookup-answer p j d t e (after p (on (lookup k c t e)) bk) ∙ ap (λ (o : Option Item). answer_from o d t e) (item-lookup p j k c t e bk)
    ∙ by_test (same k j) (λ l. rw l (from-current (item_of p j bk) d t e)) (λ l. rw l)
    ∙ sym (lookup-answer p j d t e bk)

-- nor those of a list of lookups
dry-after : (p : Setup) (k c : Bytes) (t e : ℕ) (bk : Book) (ws : List Wanted) → dry p (after p (on (lookup k c t e)) bk) t e ws ≡ dry p bk t e ws
unfolding dry
dry-after p k c t e bk [] = refl
dry-after p k c t e bk (w ∷ ws) = ap₂ ◌∷◌ (lookup-unseen p k w.key c w.command t e bk) (dry-after p k c t e bk ws)

-- a planning's answers are those on the book before it
pub planned : (p : Setup) (t e : ℕ) (ws : List Wanted) (bk : Book) → answers p (ons (lookups t e ws)) bk ≡ dry p bk t e ws
unfolding answers ons lookups dry
planned p t e [] bk = refl
planned p t e (w ∷ ws) bk =
    ap (λ (z : List Answer). answer_to p (on (lookup w.key w.command t e)) bk ∷ z)
    (planned p t e ws (after p (on (lookup w.key w.command t e)) bk) ∙ dry-after p w.key w.command t e bk ws)

-- and so is its answer
pub planning-reply : (p : Setup) (t e : ℕ) (ws : List Wanted) (short : List Answer → Bool) (bk : Book)
    → reply_to p (planning t e ws short) bk ≡ cond (short (dry p bk t e ws)) none (some (dry p bk t e ws))
unfolding call-defs
planning-reply p t e ws short bk = rw planned
