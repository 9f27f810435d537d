-- Parts of a list, read and replaced, and how the two meet (Part.antt). For every element type. Assumes nothing.
use Rattle.std.specs.Prelude.{◌≡◌, get_or}
use Rattle.std.proofs.Math.Path.{refl, ap}
use Rattle.std.proofs.Common.{◌∙◌, sym, length-take, take-add, take-take}
use mathlib.Core.List.{List, [], ◌++◌, append_assoc, append-nil}
use Prim.Native.Nat.{ℕ, ◌+◌, ◌-◌, ◌≤◌, ◌<◌}
use native.Mathlib.Omega.{arith}
use Rattle.std.proofs.Math.ListN.{length, take, drop, length-append, length-drop, take-append-drop}
use Rattle.std.proofs.Math.Seq.{take-length, take_all, take_at, drop_at, take-append-le, drop-append-le, drop-drop, get_or-take, get_or-drop, length-take-le}
use Rattle.buffer.specs.Lists.{drop-take, take_past, drop_past}
use Rattle.buffer.specs.Part.{part, put}

module _ {ℓ} {A : Type ℓ} where
  -- ---- parts

  -- a part within a list has its length
  pub length_part : (s : List A) (at n : ℕ) → at + n ≤ length s → length (part s at n) ≡ n
  unfolding part
  length_part s at n h = length-take-le n (drop at s) (omega (arith, length-drop at s))

  -- an element of a part
  pub get_d_part : (s : List A) (at n i : ℕ) (d : A) → i < n → get_or (part s at n) i d ≡ get_or s (at + i) d
  unfolding part
  get_d_part s at n i d h = get_or-take n (drop at s) i d h ∙ get_or-drop at s i d

  -- a part that reaches to the end is what is left there
  pub part-rest : (s : List A) (at n : ℕ) → length s ≤ at + n → part s at n ≡ drop at s
  unfolding part
  part-rest s at n h = take_all n (drop at s) (omega (arith, length-drop at s))

  -- a list is the part that is as long as it
  pub part-all : (s : List A) → part s 0 (length s) ≡ s
  unfolding part
  part-all s = take-length s

  -- a part of a part
  pub part-part : (s : List A) (at n i m : ℕ) → i + m ≤ n → part (part s at n) i m ≡ part s (at + i) m
  unfolding part
  part-part s at n i m h =
      let e : i + (n - i) ≡ n = omega arith in
      let a : drop i (take n (drop at s)) ≡ take (n - i) (drop i (drop at s)) = ap (λ (k : ℕ). drop i (take k (drop at s))) (sym e)
      ∙ drop-take i (n - i) (drop at s) in
      cc (take-take m (n - i) (drop i (drop at s)) (omega arith), drop-drop i at s)

  -- two parts side by side
  pub part-add : (s : List A) (at m n : ℕ) → part s at (m + n) ≡ part s at m ++ part s (at + m) n
  unfolding part
  part-add s at m n = cc (take-add m n (drop at s), drop-drop m at s)

  -- what stands from a place on is a part and what follows it
  pub drop-part : (s : List A) (at n : ℕ) → drop at s ≡ part s at n ++ drop (at + n) s
  unfolding part
  drop-part s at n = cc (take-append-drop n (drop at s), drop-drop n at s)

  -- a list around one of its parts
  pub around-part : (s : List A) (at n : ℕ) → s ≡ take at s ++ (part s at n ++ drop (at + n) s)
  around-part s at n = cc (take-append-drop at s, drop-part s at n)

  -- the part that follows a front
  pub part_at : (X Y Z : List A) (at n : ℕ) → length X ≡ at → length Y ≡ n → part (X ++ (Y ++ Z)) at n ≡ Y
  unfolding part
  part_at X Y Z at n x y = cc (drop_at X (Y ++ Z) at x, take_at Y Z n y)

  -- where X and then R stand from `at` on, X is the part there and R is what follows it
  pub part-drop : (s X R : List A) (at n : ℕ) → drop at s ≡ X ++ R → length X ≡ n → (part s at n ≡ X) × (drop (at + n) s ≡ R)
  unfolding part
  part-drop s X R at n e l = (cc (take_at X R n l), cc (drop_at X R n l, drop-drop n at s))

  -- a part past a front is a part of the rest
  pub part-past : (X Y : List A) (at k n : ℕ) → length X ≡ at → part (X ++ Y) (at + k) n ≡ part Y k n
  unfolding part
  part-past X Y at k n x = rw (drop_past X Y at k x)

  -- a part within a front is a part of the front
  pub part-within : (X Y : List A) (at n : ℕ) → at + n ≤ length X → part (X ++ Y) at n ≡ part X at n
  unfolding part
  part-within X Y at n h =
      let l : n ≤ length (drop at X) = omega (arith, length-drop at X) in
      cc (drop-append-le at X Y (omega arith), take-append-le n (drop at X) Y l)

  -- a front is a part
  pub part-front : (s : List A) (n : ℕ) → part s 0 n ≡ take n s
  unfolding part
  part-front s n = refl

  -- ---- parts replaced

  -- what is put within a list leaves its length
  pub length-put : (s bs : List A) (at : ℕ) → at + length bs ≤ length s → length (put s at bs) ≡ length s
  unfolding put
  length-put s bs at h = simp (length-append, length-drop, length-take) (omega arith)

  -- what is put between two lists stands between them
  pub put-at : (X M Z bs : List A) (at : ℕ) → length X ≡ at → length M ≡ length bs → put (X ++ (M ++ Z)) at bs ≡ X ++ (bs ++ Z)
  unfolding put
  put-at X M Z bs at x m =
      let a : take at (X ++ (M ++ Z)) ≡ X = take_at X (M ++ Z) at x in
      let b : drop (at + length bs) (X ++ (M ++ Z)) ≡ Z = drop_past X (M ++ Z) at (length bs) x ∙ drop_at M Z (length bs) m in
      cc

  -- what is put over a whole list takes its place
  pub put_all : (s bs : List A) → length s ≡ length bs → put s 0 bs ≡ bs
  put_all s bs e = ap (λ (z : List A). put z 0 bs) (sym (append-nil s)) ∙ put-at [] s [] bs 0 refl e ∙ append-nil bs

  -- put where the second of two lists begins or later
  pub put-past : (X Y bs : List A) (at k : ℕ) → length X ≡ at → put (X ++ Y) (at + k) bs ≡ X ++ put Y k bs
  unfolding put
  put-past X Y bs at k x =
      let e : at + k + length bs ≡ at + (k + length bs) = omega arith in
      cc (take_past X Y at k x, drop_past X Y at (k + length bs) x, append_assoc X (take k Y) (bs ++ drop (k + length bs) Y))

  -- put within the first of two lists
  pub put-within : (X Y bs : List A) (at : ℕ) → at + length bs ≤ length X → put (X ++ Y) at bs ≡ put X at bs ++ Y
  unfolding put
  put-within X Y bs at h =
      cc (
        take-append-le at X Y (omega arith),
        drop-append-le (at + length bs) X Y h,
        append_assoc (take at X) (bs ++ drop (at + length bs) X) Y,
        append_assoc bs (drop (at + length bs) X) Y,
      )

  -- a second put where the first ends is one put
  pub put-put : (s x y : List A) (at next : ℕ) → next ≡ at + length x → next ≤ length s → put (put s at x) next y ≡ put s at (x ++ y)
  unfolding put
  put-put s x y at next e h =
      let D : List A = drop (at + length x) s in
      let p : List A = take at s ++ x in
      let l : length p ≡ next = simp (length-append, length-take) (omega arith) in
      let a : take next (p ++ D) ≡ p = take_at p D next l in
      let b : drop next (p ++ D) ≡ D = drop_at p D next l in
      let f : at + length x + length y ≡ at + length (x ++ y) = simp length-append (omega arith) in
      cc (
        append_assoc (take at s) x D,
        append_assoc (take at s) x (y ++ drop (at + length x + length y) s),
        append_assoc x y (drop (at + length x + length y) s),
        drop-drop (length y) next (p ++ D),
        drop-drop (length y) (at + length x) s,
      )

  -- what was put is what stands there
  pub part-put : (s bs : List A) (at : ℕ) → at ≤ length s → part (put s at bs) at (length bs) ≡ bs
  unfolding put
  part-put s bs at h = part_at (take at s) bs (drop (at + length bs) s) at (length bs) (length-take-le at s h) refl

  -- a part of what was put is a part of what stands there
  pub part-put-inside : (s bs : List A) (at i n : ℕ) → at ≤ length s → i + n ≤ length bs → part (put s at bs) (at + i) n ≡ part bs i n
  unfolding put
  part-put-inside s bs at i n h l =
      part-past (take at s) (bs ++ drop (at + length bs) s) at i n (length-take-le at s h) ∙ part-within bs (drop (at + length bs) s) i n l

  -- a part before stays
  pub part-put-before : (s bs : List A) (at i n : ℕ) → i + n ≤ at → at ≤ length s → part (put s at bs) i n ≡ part s i n
  unfolding put
  part-put-before s bs at i n h l =
      let t : length (take at s) ≡ at = length-take-le at s l in
      let a : part (take at s ++ (bs ++ drop (at + length bs) s)) i n
      ≡ part (take at s) i n = part-within (take at s) (bs ++ drop (at + length bs) s) i n (omega arith) in
      cc (part-within (take at s) (drop at s) i n (omega arith), take-append-drop at s)

  -- what follows stays
  pub drop-put-after : (s bs : List A) (at i : ℕ) → at + length bs ≤ i → at ≤ length s → drop i (put s at bs) ≡ drop i s
  unfolding put
  drop-put-after s bs at i h l =
      let k : ℕ = i - (at + length bs) in
      let e : at + length bs + k ≡ i = omega arith in
      let t : length (take at s ++ bs) ≡ at + length bs = simp (length-append, length-take) (omega arith) in
      let a : drop (at + length bs + k) ((take at s ++ bs) ++ drop (at + length bs) s) ≡ drop k (drop (at + length bs) s) =
      drop_past (take at s ++ bs) (drop (at + length bs) s) (at + length bs) k t in
      cc (append_assoc (take at s) bs (drop (at + length bs) s), drop-drop k (at + length bs) s)

  -- what stands before stays
  pub take-put-before : (s bs : List A) (at i : ℕ) → i ≤ at → at ≤ length s → take i (put s at bs) ≡ take i s
  take-put-before s bs at i h l = cc (part-front (put s at bs) i, part-front s i, part-put-before s bs at 0 i (omega arith) l)

  -- a part after stays
  pub part-put-after : (s bs : List A) (at i n : ℕ) → at + length bs ≤ i → at ≤ length s → part (put s at bs) i n ≡ part s i n
  unfolding part
  part-put-after s bs at i n h l = rw (drop-put-after s bs at i h l)
