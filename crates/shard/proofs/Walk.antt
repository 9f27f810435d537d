-- A walk over things that stand one after the other in some bytes, items of a shard or entries of an item: what it has come to, one step, the end.
-- Assumes nothing.
use mathlib.Core.Path.{◌≡◌, refl, sym, ap, ◌∙◌}
use Prim.Native.Nat.{ℕ, ◌+◌, ◌≤◌, ◌<◌}
use native.Mathlib.Omega.{arith}
use mathlib.Core.List.{List, [], ◌∷◌, ◌++◌}
use lib.Seq.{append_snoc}
use Rattle.book.specs.Book.{row_bytes}
use Rattle.arena.proofs.Pieces.{row_bytes-append}

-- `bytes` counts the bytes of things one after the other, each of which takes some
pub record Counting {A : Type 0} (bytes : List A → ℕ) : Type 0 where
  pub none : bytes [] ≡ 0
  pub some : (x : A) (xs : List A) → 0 < bytes (x ∷ xs)
  pub append : (xs ys : List A) → bytes (xs ++ ys) ≡ bytes xs + bytes ys

pub items-count : Counting row_bytes
unfolding row_bytes
items-count = record { none = refl; some = λ it row. omega arith; append = row_bytes-append }

-- the walk over all of them, from `start`, has come to `at`, and P holds of those that are left
pub record Walk {A : Type 0} (bytes : List A → ℕ) (start : ℕ) (all : List A) (at : ℕ) (P : List A → Type 0) : Type 0 where
  pub front : List A
  pub back : List A
  pub splits : all ≡ front ++ back
  pub place : at ≡ start + bytes front
  pub left : P back

-- the thing that it has come to
pub record Here {A : Type 0} (bytes : List A → ℕ) (start : ℕ) (all : List A) (at : ℕ) (P : List A → Type 0) : Type 0 where
  pub front : List A
  pub thing : A
  pub back : List A
  pub splits : all ≡ front ++ (thing ∷ back)
  pub place : at ≡ start + bytes front
  pub left : P (thing ∷ back)

module _ {A : Type 0} {bytes : List A → ℕ} (k : Counting bytes) {start : ℕ} {all : List A} where
  pub begun : {at : ℕ} {P : List A → Type 0} → at ≡ start → P all → Walk bytes start all at P
  begun e p = let n = k.none in record { front = []; back = all; splits = refl; place = omega arith; left = p }

  -- there is one as long as their bytes go on
  pub here : {at : ℕ} {P : List A → Type 0} → Walk bytes start all at P → at < start + bytes all → Here bytes start all at P
  here {at} {P} w l = go w.front w.back w.splits w.place w.left
    where
      go : (front back : List A) → all ≡ front ++ back → at ≡ start + bytes front → P back → Here bytes start all at P
      go front [] e p left = let b = ap bytes e ∙ k.append front [] in let n = k.none in absurd (omega arith)
      go front (x ∷ back) e p left = record { front = front; thing = x; back = back; splits = e; place = p; left = left }

  -- the walk goes on behind it
  pub passed : {at : ℕ} {P Q : List A → Type 0} (h : Here bytes start all at P) (next : ℕ) → next ≡ at + bytes (h.thing ∷ []) → Q h.back
      → Walk bytes start all next Q
  passed h next e q =
      let p = h.place in
      record {
        front = h.front ++ (h.thing ∷ []);
        back = h.back;
        splits = h.splits ∙ sym (append_snoc h.front h.thing h.back);
        place = omega (arith, k.append h.front (h.thing ∷ []));
        left = q;
      }

  -- at their end none is left
  pub finished : {at : ℕ} {P : List A → Type 0} → Walk bytes start all at P → start + bytes all ≤ at → P []
  finished {at} {P} w l = go w.front w.back w.splits w.place w.left
    where
      go : (front back : List A) → all ≡ front ++ back → at ≡ start + bytes front → P back → P []
      go front [] e p left = left
      go front (x ∷ back) e p left = let b = ap bytes e ∙ k.append front (x ∷ back) in let s = k.some x back in absurd (omega arith)
