-- How a loop extends what it has read or written: a part and a `put` by one element more, at either end. For every element type.
-- Assumes nothing.
use Rattle.std.specs.Prelude.{◌≡◌, List, [], ◌∷◌, ◌++◌, ℕ, ◌+◌, ◌≤◌, ◌<◌, get_or, set}
use Rattle.std.proofs.Common.{◌∙◌, append_assoc, take-append-drop, drop-cons, get_or-take, length-take-le}
use native.Mathlib.Omega.{arith}
use Rattle.std.proofs.Math.Numerals.{add-one}
use Rattle.std.proofs.Math.ListN.{length, take, drop, length-append}
use Rattle.std.proofs.Math.Seq.{drop_at}
use Rattle.std.proofs.lemmas.List.{set_split}
use Rattle.buffer.specs.Lists.{get_or-agree}
use Rattle.buffer.specs.Part.{part, put}
use Rattle.buffer.specs.PartLaws.{length-put, put-put, part-add, take-put-before, drop-put-after}

module _ {ℓ} {A : Type ℓ} where
  -- the part of one element
  pub part-one : (s : List A) (at : ℕ) (d : A) → at < length s → part s at 1 ≡ get_or s at d ∷ []
  unfolding part
  part-one s at d h = rw (drop-cons s at d h)

  -- a part with one element more at its end
  pub part-suc : (s : List A) (at n : ℕ) (d : A) → at + n < length s → part s at (n + 1) ≡ part s at n ++ (get_or s (at + n) d ∷ [])
  part-suc s at n d h = cc (part-add s at n 1, part-one s (at + n) d h)

  -- a part with one element more at its start
  pub part-cons : (s : List A) (at n : ℕ) (d : A) → at < length s → part s at (1 + n) ≡ get_or s at d ∷ part s (at + 1) n
  part-cons s at n d h = cc (part-add s at 1 n, part-one s at d h)

  -- nothing put is nothing changed
  pub put-nil : (s : List A) (at : ℕ) → put s at [] ≡ s
  unfolding put
  put-nil s at = let e : at + 0 ≡ at = omega arith in rw e (take-append-drop at s)

  -- a store puts one element
  pub set-put : (s : List A) (at : ℕ) (a : A) → at < length s → set s at a ≡ put s at (a ∷ [])
  unfolding put
  set-put s at a h = rw add-one (set_split s at a h)

  -- a store where a put ends is one put
  pub put_next : (s xs : List A) (at next : ℕ) (a : A) → next ≡ at + length xs → next < length s → set (put s at xs) next a ≡ put s at (xs ++ (a ∷ []))
  put_next s xs at next a e h =
      let l = length-put s xs at (omega arith) in
      set-put (put s at xs) next a (omega arith) ∙ put-put s xs (a ∷ []) at next e (omega arith)

  -- a put that ends where another begins is one put
  pub put_front : (s x y : List A) (at next : ℕ) → next ≡ at + length x → next ≤ length s → put (put s next y) at x ≡ put s at (x ++ y)
  unfolding put
  put_front s x y at next e h =
      let a : take at (put s next y) ≡ take at s = take-put-before s y next at (omega arith) h in
      let b : drop next (put s next y) ≡ y ++ drop (next + length y) s = drop_at (take next s) (y ++ drop (next + length y) s) next (length-take-le next s h) in
      let f : at + length (x ++ y) ≡ next + length y = simp length-append (omega arith) in
      cc (append_assoc x y (drop (next + length y) s))

  -- elements before what was put stay
  pub get_or-put-before : (s bs : List A) (at i : ℕ) (d : A) → i < at → at ≤ length s → get_or (put s at bs) i d ≡ get_or s i d
  get_or-put-before s bs at i d h l =
      cc (get_or-take at (put s at bs) i d h, get_or-take at s i d h, take-put-before s bs at at (omega arith) l)

  -- elements after what was put stay
  pub get_or-put-after : (s bs : List A) (at i : ℕ) (d : A) → at + length bs ≤ i → at ≤ length s → get_or (put s at bs) i d ≡ get_or s i d
  get_or-put-after s bs at i d h l =
      get_or-agree (put s at bs) s (at + length bs) i d (drop-put-after s bs at (at + length bs) (omega arith) l) h
