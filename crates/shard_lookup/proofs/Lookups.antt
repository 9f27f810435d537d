-- A lookup in its cases: no item, one that is not current, one with no value, one with a value. Assumes nothing.
use mathlib.Core.Path.{◌≡◌, sym, ap, ◌∙◌}
use Prim.Native.Nat.{ℕ, ◌+◌, ◌-◌, ◌≤◌, ◌<◌}
use native.Mathlib.Omega.{arith}
use mathlib.Core.Bool.{true, false}
use mathlib.Core.Option.{none, some}
use mathlib.Core.List.{◌∷◌}
use lib.ListN.{length, length-append}
use borrow.Author.Tests.{eq-eqb, ne_eqb, le-leb, lt-leb}
use Rattle.buffer.specs.Same.{Bytes}
use Rattle.buffer.specs.Part.{part}
use Rattle.book.specs.Book.{Item, Row, Effect, hit, miss, plus, find, without, value_for, current, serve, lookup_item}
use Rattle.book.proofs.Rows.{found-key}
use Rattle.arena.specs.Layout.{enc_item, enc_shard}
use Rattle.arena.proofs.Length.{length-item}
use Rattle.arena.specs.Edit.{item_bytes}
use Rattle.arena.specs.Place.{entries_place, shard_place}
use Rattle.arena.proofs.PlaceLaws.{place-first}
use Rattle.shard_lookup.specs.declared.Looked.TheVariants.{Hit, Miss}
use Rattle.shard_lookup.specs.Looked.{Told}
use Rattle.shard.proofs.Fields.{Pieces}
use Rattle.shard_lookup.proofs.Entries.{part-item}

-- ---- whether an item is current

module _ (t e : ℕ) (it : Item) where
  pub other-epoch : (e ≡ it.epoch → ⊥) → current t e it ≡ false
  unfolding current
  other-epoch h = rw (ne_eqb e it.epoch h)

  pub past-expiry : e ≡ it.epoch → it.expiry < t → current t e it ≡ false
  unfolding current
  past-expiry q h = rw (eq-eqb e it.epoch q, lt-leb t it.expiry h)

  pub in-time : e ≡ it.epoch → t ≤ it.expiry → current t e it ≡ true
  unfolding current
  in-time q h = rw (eq-eqb e it.epoch q, le-leb t it.expiry h)

-- ---- the effect

-- a miss that drops n entries, and a hit
abbrev pub missed : Row → ℕ → Effect
missed row n = record { row = row; answer = miss; adds = plus 0 1 n }

abbrev pub served : Row → Bytes → Effect
served row v = record { row = row; answer = hit v; adds = plus 1 0 0 }

module _ (k c : Bytes) (t e : ℕ) (row : Row) where
  pub finds-none : find k row ≡ none → lookup_item (find k row) k c t e row ≡ missed row 0
  unfolding lookup_item
  finds-none f = rw f

  module _ (it : Item) (f : find k row ≡ some it) where
    pub finds-stale : current t e it ≡ false → lookup_item (find k row) k c t e row ≡ missed (without k row) (length it.entries)
    unfolding lookup_item
    finds-stale q = rw (f, q)

    pub finds-bare : current t e it ≡ true → value_for c it.entries ≡ none → lookup_item (find k row) k c t e row ≡ missed (it ∷ without k row) 0
    unfolding lookup_item serve
    finds-bare q v = rw (f, q, v)

    pub finds-value : (v : Bytes) → current t e it ≡ true → value_for c it.entries ≡ some v
        → lookup_item (find k row) k c t e row ≡ served (it ∷ without k row) v
    unfolding lookup_item serve
    finds-value v q w = rw (f, q, w)

-- bytes that hold the row of an effect hold that of an equal one
pub leaves : (n : ℕ) (t : Bytes) (f g : Effect) (row : Row) → t ≡ enc_shard n row → row ≡ g.row → f ≡ g → t ≡ enc_shard n f.row
leaves n t f g row e q p = e ∙ ap (enc_shard n) (q ∙ sym (ap (λ (z : Effect). z.row) p))

-- ---- the answer

pub tells-miss : (s : Bytes) (f : Effect) (row : Row) (m n : ℕ) → f ≡ missed row m → n ≡ m → Told s f (Miss n)
tells-miss s f row m n e q = (ap (λ (g : Effect). g.answer) e, ap (λ (g : Effect). g.adds) e ∙ ap (plus 0 1) (sym q))

-- the value within the item, wherever it stands
pub tells-hit : {s : Bytes} {at : ℕ} {it : Item} → Pieces s at it → (f : Effect) (row : Row) (skip len from to : ℕ) → skip + len ≤ item_bytes it
    → f ≡ served row (part (enc_item it) skip len) → from ≡ at + skip → to ≡ at + skip + len → Told s f (Hit from to)
tells-hit {s} {at} {it} p f row skip len from to h e a b =
    let n = length-item it in
    let m : length s ≡ length p.before + (length (enc_item it) + length p.behind) = ap length p.is ∙ simp length-append in
    let l = p.starts in
    let d : to - from ≡ len = omega arith in
    let v : part s from (to - from) ≡ part (enc_item it) skip len =
    ap (λ (i : ℕ). part s from i) d ∙ ap (λ (i : ℕ). part s i len) a ∙ part-item p skip len h in
    (omega arith, omega arith, ap (λ (g : Effect). g.answer) e ∙ ap hit (sym v), ap (λ (g : Effect). g.adds) e)

-- it begins where the row left has it, the key's item being the first there
pub begins-first : (k c : Bytes) (f : Effect) (it : Item) (row rest : Row) (v : Bytes) (skip from : ℕ) → find k row ≡ some it → f ≡ served (it ∷ rest) v
    → skip ≡ 32 + length it.key + entries_place c it.entries → from ≡ 16 + skip → from ≡ shard_place k c f.row
begins-first k c f it row rest v skip from i e q a =
    let p = place-first k c it rest (found-key k row it i) in
    let r : shard_place k c f.row ≡ shard_place k c (it ∷ rest) = ap (λ (g : Effect). shard_place k c g.row) e in
    omega arith
