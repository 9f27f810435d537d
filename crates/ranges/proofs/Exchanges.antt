-- Equal ranges exchanged: what an exchange leaves of a rotation. Assumes nothing.
use mathlib.Core.Path.{◌≡◌}
use mathlib.Core.List.{◌++◌, append_assoc}
use Prim.Native.Nat.{ℕ, ◌+◌, ◌-◌, ◌≤◌}
use native.Mathlib.Omega.{arith}
use lib.ListN.{length, take, drop, length-append}
use lib.Seq.{length-take-le, take_at, drop_at}
use Rattle.buffer.specs.Same.{Bytes}
use Rattle.buffer.specs.Part.{part, put}
use Rattle.buffer.specs.PartLaws.{length_part, part_at, around-part, drop-part, put-at}
use Rattle.buffer.specs.Move.{exchanged, rotated, rotated-at}

-- in a list given in its pieces, two of one length are exchanged
exchanged-at : (P X M Y Z : Bytes) (a b n : ℕ) → length P ≡ a → length X ≡ n → length Y ≡ n → a + n + length M ≡ b
    → exchanged (P ++ (X ++ (M ++ (Y ++ Z)))) a b n ≡ P ++ (Y ++ (M ++ (X ++ Z)))
exchanged-at P X M Y Z a b n p x y m =
    let s : Bytes = P ++ (X ++ (M ++ (Y ++ Z))) in
    let px : part s a n ≡ X = part_at P X (M ++ (Y ++ Z)) a n p x in
    let f : s ≡ (P ++ (X ++ M)) ++ (Y ++ Z) = simp append_assoc in
    let py : part ((P ++ (X ++ M)) ++ (Y ++ Z)) b n ≡ Y = part_at (P ++ (X ++ M)) Y Z b n (simp length-append (omega arith)) y in
    let t : put s a Y ≡ P ++ (Y ++ (M ++ (Y ++ Z))) = put-at P X (M ++ (Y ++ Z)) Y a p (omega arith) in
    let g : P ++ (Y ++ (M ++ (Y ++ Z))) ≡ (P ++ (Y ++ M)) ++ (Y ++ Z) = simp append_assoc in
    let u : put ((P ++ (Y ++ M)) ++ (Y ++ Z)) b X ≡ (P ++ (Y ++ M))
    ++ (X ++ Z) = put-at (P ++ (Y ++ M)) Y Z X b (simp length-append (omega arith)) (omega arith) in
    let r : (P ++ (Y ++ M)) ++ (X ++ Z) ≡ P ++ (Y ++ (M ++ (X ++ Z))) = simp append_assoc in
    cc

-- a list in five pieces
five : (s : Bytes) (a l m k : ℕ) → s ≡ take a s ++ (part s a l ++ (part s (a + l) m ++ (part s (a + l + m) k ++ drop (a + l + m + k) s)))
five s a l m k = cc (around-part s a l, drop-part s (a + l) m, drop-part s (a + l + m) k)

-- the first range exchanged with the end of the second, where it stays
pub first-placed : (s : Bytes) (f mid e n : ℕ) → f + n ≡ mid → mid ≤ e → e + n ≤ length s → rotated (exchanged s f e n) f mid e ≡ rotated s f mid (e + n)
first-placed s f mid e n h l r =
    let P : Bytes = take f s in
    let X : Bytes = part s f n in
    let M : Bytes = part s mid (e - mid) in
    let Y : Bytes = part s e n in
    let Z : Bytes = drop (e + n) s in
    let p : length P ≡ f = length-take-le f s (omega arith) in
    let x : length X ≡ n = length_part s f n (omega arith) in
    let m : length M ≡ e - mid = length_part s mid (e - mid) (omega arith) in
    let y : length Y ≡ n = length_part s e n (omega arith) in
    let i : mid + (e - mid) ≡ e = omega arith in
    let q : s ≡ P ++ (X ++ (M ++ (Y ++ Z))) = cc (five s f n (e - mid) n) in
    let t : exchanged s f e n ≡ P ++ (Y ++ (M ++ (X ++ Z))) = cc (exchanged-at P X M Y Z f e n p x y (omega arith)) in
    cc (
      rotated-at P Y M (X ++ Z) f mid e p (omega arith) (omega arith),
      rotated-at P X (M ++ Y) Z f mid (e + n) p (omega arith) (simp length-append (omega arith)),
      append_assoc M Y Z,
      append_assoc M Y (X ++ Z),
    )

-- the second range exchanged with the start of the first, where it stays
pub second-placed : (s : Bytes) (f mid e n : ℕ) → mid + n ≡ e → f + n ≤ mid → e ≤ length s → rotated (exchanged s f mid n) (f + n) mid e ≡ rotated s f mid e
second-placed s f mid e n h l r =
    let P : Bytes = take f s in
    let X : Bytes = part s f n in
    let M : Bytes = part s (f + n) (mid - (f + n)) in
    let Y : Bytes = part s mid n in
    let Z : Bytes = drop e s in
    let p : length P ≡ f = length-take-le f s (omega arith) in
    let x : length X ≡ n = length_part s f n (omega arith) in
    let m : length M ≡ mid - (f + n) = length_part s (f + n) (mid - (f + n)) (omega arith) in
    let y : length Y ≡ n = length_part s mid n (omega arith) in
    let i : f + n + (mid - (f + n)) ≡ mid = omega arith in
    let q : s ≡ P ++ (X ++ (M ++ (Y ++ Z))) = cc (five s f n (mid - (f + n)) n) in
    let t : exchanged s f mid n ≡ P ++ (Y ++ (M ++ (X ++ Z))) = cc (exchanged-at P X M Y Z f mid n p x y (omega arith)) in
    cc (
      append_assoc P Y (M ++ (X ++ Z)),
      rotated-at (P ++ Y) M X Z (f + n) mid e (simp length-append (omega arith)) (omega arith) (omega arith),
      append_assoc P Y (X ++ (M ++ Z)),
      rotated-at P (X ++ M) Y Z f mid e p (simp length-append (omega arith)) (omega arith),
      append_assoc X M (Y ++ Z),
      append_assoc X M Z,
    )

-- what is left where a part of the bytes before b changes places with the first of those from b on
pub traded : (s F B x y : Bytes) (a b n m : ℕ) → a + n ≤ b → b + n ≤ length s → m ≡ n → F ≡ take b s → B ≡ drop b s → x ≡ take n B → y ≡ take m (drop a F)
    → (take a F ++ (x ++ drop m (drop a F))) ++ (y ++ drop n B) ≡ exchanged s a b n
traded s F B x y a b n m h r k u v i j =
    let P : Bytes = take a s in
    let X : Bytes = part s a n in
    let M : Bytes = part s (a + n) (b - (a + n)) in
    let Y : Bytes = part s b n in
    let Z : Bytes = drop (b + n) s in
    let lp : length P ≡ a = length-take-le a s (omega arith) in
    let lx : length X ≡ n = length_part s a n (omega arith) in
    let lm : length M ≡ b - (a + n) = length_part s (a + n) (b - (a + n)) (omega arith) in
    let ly : length Y ≡ n = length_part s b n (omega arith) in
    let z : a + n + (b - (a + n)) ≡ b = omega arith in
    let q : s ≡ P ++ (X ++ (M ++ (Y ++ Z))) = cc (five s a n (b - (a + n)) n) in
    let w : P ++ (X ++ (M ++ (Y ++ Z))) ≡ (P ++ (X ++ M)) ++ (Y ++ Z) = simp append_assoc in
    let g : length (P ++ (X ++ M)) ≡ b = simp length-append (omega arith) in
    let f : F ≡ P ++ (X ++ M) = cc (take_at (P ++ (X ++ M)) (Y ++ Z) b g) in
    let e : B ≡ Y ++ Z = cc (drop_at (P ++ (X ++ M)) (Y ++ Z) b g) in
    let o : (P ++ (Y ++ M)) ++ (X ++ Z) ≡ P ++ (Y ++ (M ++ (X ++ Z))) = simp append_assoc in
    let d : drop a F ≡ X ++ M = cc (drop_at P (X ++ M) a lp) in
    cc (
      take_at P (X ++ M) a lp,
      take_at X M n lx,
      drop_at X M n lx,
      take_at Y Z n ly,
      drop_at Y Z n ly,
      exchanged-at P X M Y Z a b n lp lx ly (omega arith),
    )
