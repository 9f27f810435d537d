-- Ranges that move within a list: a range copied to another place (`moved`), a range replaced by one of another length (`resized`,
-- `spliced`), two ranges of one length exchanged (`exchanged`), two neighbouring ranges in the other order (`rotated`). Each is made of
-- `put`, so that what it does not name stays; the laws say what it comes to in a list given in its pieces. Assumes nothing.
use Rattle.std.specs.Prelude.{◌≡◌, refl, [], ◌++◌, ℕ, ◌+◌, ◌-◌, ◌≤◌, length, take, drop, replicate}
use Rattle.std.proofs.Common.{append_assoc, arith, length-append, take_at}
use Rattle.std.proofs.lemmas.List.{length-replicate, replicate-append-replicate}
use Rattle.buffer.specs.Lists.{drop_past, drop-replicate}
use Rattle.buffer.specs.Same.{Bytes}
use Rattle.buffer.specs.Part.{part, put}
use Rattle.buffer.specs.PartLaws.{part_at, length_part, put-at}
use Rattle.buffer.specs.Step.{put_front}

-- s with the n elements at `from` copied to `to`
abbrev pub moved : Bytes → ℕ → ℕ → ℕ → Bytes
moved s from to n = put s to (part s from n)

-- the first `end` bytes of s, with room for n bytes in the place of those from `from` up to `to`: what follows up to `end` moves,
-- what is freed is zero, and the room holds what stood there
unfoldable pub resized : Bytes → ℕ → ℕ → ℕ → ℕ → Bytes
resized s from to end n = put s (from + n) (part s to (end - to) ++ replicate (to - from - n) 0)

-- the first `end` bytes of s, with bs in the place of those from `from` up to `to`: what follows up to `end` moves, what is freed is zero
unfoldable pub spliced : Bytes → ℕ → ℕ → ℕ → Bytes → Bytes
spliced s from to end bs = put s from (bs ++ (part s to (end - to) ++ replicate (to - from - length bs) 0))

-- s with the n elements at a and the n elements at b exchanged
abbrev pub exchanged : Bytes → ℕ → ℕ → ℕ → Bytes
exchanged s a b n = put (put s a (part s b n)) b (part s a n)

-- s with its bytes from `mid` up to `end` before those from `from` up to `mid`
unfoldable pub rotated : Bytes → ℕ → ℕ → ℕ → Bytes
rotated s from mid end = put s from (part s mid (end - mid) ++ part s from (mid - from))

-- room made and then filled is a range replaced
pub resized-put : (s bs : Bytes) (from to end : ℕ) → from + length bs ≤ length s → put (resized s from to end (length bs)) from bs ≡ spliced s from to end bs
unfolding resized spliced
resized-put s bs from to end h = put_front s bs (part s to (end - to) ++ replicate (to - from - length bs) 0) from (from + length bs) refl h

-- room for nothing is a range taken out
pub resized-none : (s : Bytes) (from to end : ℕ) → resized s from to end 0 ≡ spliced s from to end []
unfolding resized spliced
resized-none s from to end = let e : from + 0 ≡ from = omega arith in rw e

-- in a list given in its pieces, the middle one is replaced
pub spliced-at : (X M T Z bs : Bytes) (from to end : ℕ) → length X ≡ from → from + length M ≡ to → to + length T ≡ end
    → spliced (X ++ (M ++ (T ++ Z))) from to end bs ≡ X ++ (bs ++ (T ++ (replicate (length M - length bs) 0 ++ drop (length bs - length M) Z)))
unfolding spliced put
spliced-at X M T Z bs from to end x m t =
    let s : Bytes = X ++ (M ++ (T ++ Z)) in
    let O : Bytes = replicate (length M - length bs) 0 in
    let new : Bytes = bs ++ (T ++ O) in
    let e₁ : to - from - length bs ≡ length M - length bs = omega arith in
    let a : part s to (end - to) ≡ T = tail in
    let b : take from s ≡ X = take_at X (M ++ (T ++ Z)) from x in
    let e₂ : from + length new ≡ end + (length bs - length M) = simp (length-append, length-replicate) (omega arith) in
    let f : s ≡ (X ++ (M ++ T)) ++ Z = simp append_assoc in
    let g : drop (end + (length bs - length M)) ((X ++ (M ++ T)) ++ Z) ≡ drop (length bs - length M) Z =
    drop_past (X ++ (M ++ T)) Z end (length bs - length M) (simp length-append (omega arith)) in
    let D : Bytes = drop (length bs - length M) Z in
    cc (append_assoc bs (T ++ O) D, append_assoc T O D)
  where
    tail : part (X ++ (M ++ (T ++ Z))) to (end - to) ≡ T
    tail = rw (← append_assoc X M (T ++ Z)) (part_at (X ++ M) T Z to (end - to) (simp length-append (omega arith)) (omega arith))

-- before zeros, the middle piece is replaced and the rest is zeros
pub spliced-zeros : (X M T bs : Bytes) (from to end z : ℕ) → length X ≡ from → from + length M ≡ to → to + length T ≡ end → length bs ≤ length M + z
    → spliced (X ++ (M ++ (T ++ replicate z 0))) from to end bs ≡ X ++ (bs ++ (T ++ replicate (length M + z - length bs) 0))
spliced-zeros X M T bs from to end z x m t h =
    let k : ℕ = length bs - length M in
    let O : Bytes = replicate (length M - length bs) 0 in
    let d : drop {A = ℕ} k (replicate z 0) ≡ replicate (z - k) 0 = drop-replicate k z 0 (omega arith) in
    let n : length M - length bs + (z - k) ≡ length M + z - length bs = omega arith in
    cc (spliced-at X M T (replicate z 0) bs from to end x m t, replicate-append-replicate {A = ℕ} (length M - length bs) (z - k) 0)

-- two neighbouring ranges in the other order, with what stands before and after them
pub rotated-is : (s : Bytes) (from mid end : ℕ) → from ≤ mid → mid ≤ end → end ≤ length s
    → rotated s from mid end ≡ take from s ++ (part s mid (end - mid) ++ (part s from (mid - from) ++ drop end s))
unfolding rotated put
rotated-is s from mid end a b h =
    let X : Bytes = part s from (mid - from) in
    let Y : Bytes = part s mid (end - mid) in
    let x : length X ≡ mid - from = length_part s from (mid - from) (omega arith) in
    let y : length Y ≡ end - mid = length_part s mid (end - mid) (omega arith) in
    let l : from + length (Y ++ X) ≡ end = simp length-append (omega arith) in
    cc (append_assoc Y X (drop end s))

-- in a list given in its pieces, the two in the middle change places
pub rotated-at : (P X Y Z : Bytes) (from mid end : ℕ) → length P ≡ from → from + length X ≡ mid → mid + length Y ≡ end
    → rotated (P ++ (X ++ (Y ++ Z))) from mid end ≡ P ++ (Y ++ (X ++ Z))
unfolding rotated
rotated-at P X Y Z from mid end p x y =
    let s : Bytes = P ++ (X ++ (Y ++ Z)) in
    let a : part s mid (end - mid) ≡ Y = second in
    let b : part s from (mid - from) ≡ X = part_at P X (Y ++ Z) from (mid - from) p (omega arith) in
    let l : length (X ++ Y) ≡ length (Y ++ X) = simp length-append (omega arith) in
    let q : put (P ++ ((X ++ Y) ++ Z)) from (Y ++ X) ≡ P ++ ((Y ++ X) ++ Z) = put-at P (X ++ Y) Z (Y ++ X) from p l in
    cc (append_assoc X Y Z, append_assoc Y X Z)
  where
    second : part (P ++ (X ++ (Y ++ Z))) mid (end - mid) ≡ Y
    second = rw (← append_assoc P X (Y ++ Z)) (part_at (P ++ X) Y Z mid (end - mid) (simp length-append (omega arith)) (omega arith))
