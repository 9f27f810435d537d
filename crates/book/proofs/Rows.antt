-- Laws of specs/Rows.antt. What the changes of a row do to each key's item, and of entries to each command key's value. Assumes nothing.
-- A case of each page of cases is brought in so that they are checked before any proof.
-- On a row with no key twice `place` and `oldest-goes` say which item goes or is replaced, and that all others stay in their order.
use Rattle.std.specs.Prelude.{◌≡◌, refl, Bool, true, false, cond, List, [], ◌∷◌, ◌++◌}
use Rattle.std.proofs.Common.{sym, ap, ◌∙◌, true≢false}
use Rattle.std.proofs.lemmas.Bool.{false≢true}
use Rattle.std.proofs.Math.Option.{none, some, none-ne-some, some-injective}
use Rattle.buffer.specs.Cases.{by_test}
use Rattle.buffer.specs.Same.{Bytes, same}
use Rattle.buffer.specs.SameLaws.{same_refl, same-eq}
use Rattle.book.specs.Book.{Entry, Item, Row, find, without, replace, without_oldest, value_for, set_value}
use Rattle.book.specs.Sound.{Distinct}
use Rattle.book.specs.Rows.{row-defs}

-- a third key is the same as at most one of two different ones
pub other : (a b c : Bytes) → same a b ≡ false → same a c ≡ true → same b c ≡ false
other a b c n e =
    by_test (same b c)
    (λ h. absurd (true≢false (sym (same_refl a) ∙ ap (same a) (same-eq a c e ∙ sym (same-eq b c h)) ∙ n)))
    (λ h. h)

-- the order of the two does not matter
pub same-comm : (a b : Bytes) → same a b ≡ same b a
same-comm a b =
    by_test (same a b) (λ e. e ∙ sym (same_refl a) ∙ ap (λ (z : Bytes). same z a) (same-eq a b e))
    (λ e. by_test (same b a) (λ h. ap (λ (z : Bytes). same a z) (same-eq b a h) ∙ same_refl a ∙ sym h) (λ h. e ∙ sym h))

-- ---- the key's item

-- an item that was found has the key
pub found-key : (k : Bytes) (row : Row) (it : Item) → find k row ≡ some it → same k it.key ≡ true
unfolding row-defs
found-key k [] it f = absurd (none-ne-some it f)
found-key k (jt ∷ row) it f =
    by_test (same k jt.key)
    (λ e. ap (λ (z : Item). same k z.key) (sym (some-injective jt it (rw e at f))) ∙ e)
    (λ e. found-key k row it (rw e at f))

-- a key that stands in front is there
pub not-absent : (k : Bytes) (it : Item) (row : Row) → same k it.key ≡ true → find k (it ∷ row) ≡ none → ⊥
unfolding row-defs
not-absent k it row e f = none-ne-some it (sym (rw e at f))

-- gone is gone
pub find-without : (k : Bytes) (row : Row) → find k (without k row) ≡ none
unfolding row-defs
find-without k [] = refl
find-without k (it ∷ row) =
    by_test (same k it.key) (λ e. rw e (find-without k row)) (λ e. rw e (rw e (find-without k row)))

-- other keys keep their items
pub find-without-other : (k j : Bytes) (row : Row) → same k j ≡ false → find j (without k row) ≡ find j row
unfolding row-defs
find-without-other k j [] n = refl
find-without-other k j (it ∷ row) n =
    by_test (same k it.key) (λ e. rw (e, other k j it.key n e) (find-without-other k j row n))
    (λ e. rw e (rw (find-without-other k j row n)))

-- with no item nothing goes
pub without-absent : (k : Bytes) (row : Row) → find k row ≡ none → without k row ≡ row
unfolding row-defs
without-absent k [] f = refl
without-absent k (it ∷ row) f =
    by_test (same k it.key) (λ e. absurd (not-absent k it row e f))
    (λ e. rw e (ap (λ (z : Row). it ∷ z) (without-absent k row (rw e at f))))

-- the new item is found in the old one's place
pub find-replace : (k : Bytes) (new : Item) (row : Row) (it : Item) → find k row ≡ some it → same k new.key ≡ true
    → find k (replace k new row) ≡ some new
unfolding row-defs
find-replace k new [] it f n = absurd (none-ne-some it f)
find-replace k new (jt ∷ row) it f n =
    by_test (same k jt.key) (λ e. rw e (rw n)) (λ e. rw e (rw e (find-replace k new row it (rw e at f) n)))

-- other keys keep their items
pub find-replace-other : (k j : Bytes) (new : Item) (row : Row) → same k j ≡ false → same k new.key ≡ true
    → find j (replace k new row) ≡ find j row
unfolding row-defs
find-replace-other k j new [] d n = refl
find-replace-other k j new (it ∷ row) d n =
    by_test (same k it.key) (λ e. rw (e, other k j it.key d e, other k j new.key d n))
    (λ e. rw e (rw (find-replace-other k j new row d n)))

-- where the key's item stands: it alone goes or is replaced, and the others stay in their order
pub record Place (k : Bytes) (row : Row) (it : Item) : Type 0 where
  pub front : Row
  pub back : Row
  pub splits : row ≡ front ++ (it ∷ back)
  pub gone : without k row ≡ front ++ back
  pub replaced : (new : Item) → replace k new row ≡ front ++ (new ∷ back)

-- every key that is found has its place
pub place : (k : Bytes) (row : Row) (it : Item) → Distinct row → find k row ≡ some it → Place k row it
unfolding row-defs
place k [] it d f = absurd (none-ne-some it f)
place k (jt ∷ row) it d f =
    by_test (same k jt.key)
    (λ e.
    record {
      front = [];
      back = row;
      splits = ap (λ (z : Item). z ∷ row) (some-injective jt it (rw e at f));
      gone = rw e (without-absent k row (ap (λ (z : Bytes). find z row) (same-eq k jt.key e) ∙ d.0));
      replaced = λ new. rw e;
    })
    (λ e.
    let was : Place k row it = place k row it d.1 (rw e at f) in
    record {
      front = jt ∷ was.front;
      back = was.back;
      splits = ap (λ (z : Row). jt ∷ z) was.splits;
      gone = rw e (ap (λ (z : Row). jt ∷ z) was.gone);
      replaced = λ new. rw e (ap (λ (z : Row). jt ∷ z) (was.replaced new));
    })

-- ---- the oldest

-- the last item is the one that goes
pub oldest-goes : (row : Row) (it : Item) → without_oldest (row ++ (it ∷ [])) ≡ row
unfolding row-defs
oldest-goes [] it = refl
oldest-goes (jt ∷ []) it = refl
oldest-goes (jt ∷ (kt ∷ row)) it = ap (λ (z : Row). jt ∷ z) (oldest-goes (kt ∷ row) it)

-- the key is the oldest item's
unfoldable pub is_oldest : Bytes → Row → Bool
is_oldest j [] = false
is_oldest j (it ∷ []) = same j it.key
is_oldest j (it ∷ (older ∷ row)) = is_oldest j (older ∷ row)

-- the oldest item's key is found
oldest-found : (j : Bytes) (row : Row) → is_oldest j row ≡ true → find j row ≡ none → ⊥
unfolding row-defs is_oldest
oldest-found j [] o f = false≢true o
oldest-found j (it ∷ []) o f = not-absent j it [] o f
oldest-found j (it ∷ (jt ∷ row)) o f =
    by_test (same j it.key) (λ e. not-absent j it (jt ∷ row) e f) (λ e. oldest-found j (jt ∷ row) o (rw e at f))

-- the oldest item's key is absent then, and other keys keep their items
pub find-without_oldest : (j : Bytes) (row : Row) → Distinct row → find j (without_oldest row) ≡ cond (is_oldest j row) none (find j row)
unfolding row-defs is_oldest
find-without_oldest j [] d = refl
find-without_oldest j (it ∷ []) d = by_test (same j it.key) (λ e. rw e) (λ e. rw e)
find-without_oldest j (it ∷ (jt ∷ row)) d =
    by_test (same j it.key)
    (λ e.
    by_test (is_oldest j (jt ∷ row))
    (λ o. absurd (oldest-found j (jt ∷ row) o (ap (λ (z : Bytes). find z (jt ∷ row)) (same-eq j it.key e) ∙ d.0)))
    (λ o. rw (e, o)))
    (λ e. rw e (find-without_oldest j (jt ∷ row) d.1))

-- ---- the command's value

-- the value set is the command's
pub value_set : (c v : Bytes) (ens : List Entry) → value_for c (set_value c v ens) ≡ some v
unfolding value_for set_value
value_set c v [] = rw (same_refl c)
value_set c v (en ∷ ens) = by_test (same c en.command) (λ e. rw (e, same_refl c)) (λ e. rw e (rw e (value_set c v ens)))

-- other commands keep their values
pub value-set-other : (c d v : Bytes) (ens : List Entry) → same c d ≡ false → value_for d (set_value c v ens) ≡ value_for d ens
unfolding value_for set_value
value-set-other c d v [] n = rw (same-comm d c) (rw n)
value-set-other c d v (en ∷ ens) n =
    by_test (same c en.command) (λ e. rw (e, other c d en.command n e) (rw (same-comm d c) (rw n)))
    (λ e. rw e (rw (value-set-other c d v ens n)))
