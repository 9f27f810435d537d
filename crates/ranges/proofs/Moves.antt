-- One pure law for each method of std that moves bytes within a slice, and for each function that calls them. Assumes nothing.
use Rattle.std.specs.List.{copy_within}
use Rattle.std.proofs.Common.{◌≡◌, sym, ap, ◌∙◌, ◌++◌, ℕ, ◌+◌, ◌-◌, ◌≤◌, arith, length, take, drop, replicate, take-take, drop-drop, length-drop, length-take-le}
use mathlib.Core.List.{append_assoc, append-nil}
use Prim.Native.Nat.{zero-le}
use Rattle.buffer.specs.Lists.{drop-take}
use Rattle.buffer.specs.Same.{Bytes}
use Rattle.buffer.specs.Part.{part, put}
use Rattle.buffer.specs.PartLaws.{length_part, part-put, put-put, around-part}
use Rattle.buffer.specs.Step.{put_front}
use Rattle.buffer.specs.Zero.{zeroed}
use Rattle.buffer.specs.Move.{moved, resized, rotated, rotated-is}

-- a range put where it stands changes nothing
pub part-back : (s : Bytes) (at n : ℕ) → at + n ≤ length s → put s at (part s at n) ≡ s
unfolding put
part-back s at n h = let l : length (part s at n) ≡ n = length_part s at n h in rw l (sym (around-part s at n))

-- and so does a copy of a range to its own place
pub moved_back : (s : Bytes) (from to n : ℕ) → to ≡ from → from + n ≤ length s → s ≡ moved s from to n
moved_back s from to n e h = rw e (sym (part-back s from n h))

-- no bytes are in another order before others
pub rotated-first : (s : Bytes) (from mid end : ℕ) → from ≡ mid → mid ≤ end → end ≤ length s → s ≡ rotated s from mid end
unfolding rotated part
rotated-first s from mid end e a h =
    let n : mid - from ≡ 0 = omega arith in
    rw (n, e, append-nil (take (end - mid) (drop mid s))) (sym (unfold part in part-back s mid (end - mid) (omega arith)))

-- what `copy_within` of slices leaves
pub pasted : (s : Bytes) (from to n : ℕ) → from + n ≤ length s → copy_within s from (from + n) to ≡ moved s from to n
unfolding put part
pasted s from to n h =
    let k : from + n - from ≡ n = omega arith in
    let l : length (take n (drop from s)) ≡ n = length-take-le n (drop from s) (omega (arith, length-drop from s)) in
    rw (k, l) (append_assoc (take to s) (take n (drop from s)) (drop (to + n) s))

-- a range kept elsewhere, the one before it moved up by its length, and what was kept put in front
pub carry-law : (s kept kept₁ s₁ s₂ : Bytes) (from mid end n : ℕ) → from ≤ mid → mid ≤ end → end ≤ length s → n ≡ end - mid
    → kept₁ ≡ put kept 0 (part s mid (end - mid))
    → s₁ ≡ moved s from (from + (end - mid)) (mid - from)
    → s₂ ≡ put s₁ from (part kept₁ 0 n)
    → s₂ ≡ rotated s from mid end
unfolding rotated
carry-law s kept kept₁ s₁ s₂ from mid end n a b h w e₁ e₂ e₃ =
    let Y : Bytes = part s mid (end - mid) in
    let l : length Y ≡ end - mid = length_part s mid (end - mid) (omega arith) in
    let k : part (put kept 0 Y) 0 (length Y) ≡ Y = part-put kept Y 0 zero-le in
    cc (put_front s Y (part s from (mid - from)) from (from + (end - mid)) (omega arith) (omega arith))

-- the tail moved, and what is freed zeroed
pub resize-law : (s : Bytes) (from to end n : ℕ) → from ≤ to → to ≤ end → end ≤ length s → from + n + (end - to) ≤ length s
    → zeroed (moved s to (from + n) (end - to)) (from + n + (end - to)) end ≡ resized s from to end n
unfolding resized
resize-law s from to end n a b h l =
    let p : Bytes = part s to (end - to) in
    let lp : length p ≡ end - to = length_part s to (end - to) (omega arith) in
    let e : end - (from + n + (end - to)) ≡ to - from - n = omega arith in
    cc (put-put s p (replicate (to - from - n) 0) (from + n) (from + n + (end - to)) (omega arith) l)

-- what `rotate_left` of a part leaves
pub turned : (s ys : Bytes) (from mid end : ℕ) → from ≤ mid → mid ≤ end → end ≤ length s
    → ys ≡ drop (mid - from) (part s from (end - from)) ++ take (mid - from) (part s from (end - from))
    → take from s ++ (ys ++ drop (end - from) (drop from s)) ≡ rotated s from mid end
unfolding part
turned s ys from mid end a b h e =
    let n : mid - from + (end - mid) ≡ end - from = omega arith in
    let m : from + (mid - from) ≡ mid = omega arith in
    let o : from + (end - from) ≡ end = omega arith in
    let y : drop (mid - from) (take (end - from) (drop from s)) ≡ take (end - mid) (drop mid s) =
    rw (← n) (drop-take (mid - from) (end - mid) (drop from s)) ∙ ap (take (end - mid)) (drop-drop (mid - from) from s ∙ rw m) in
    let x : take (mid - from) (take (end - from) (drop from s)) ≡ take (mid - from) (drop from s) = take-take (mid - from) (end - from) (drop from s) (omega arith) in
    let z : drop (end - from) (drop from s) ≡ drop end s = drop-drop (end - from) from s ∙ rw o in
    let r : rotated s from mid end ≡ take from s ++ (take (end - mid) (drop mid s) ++ (take (mid - from) (drop from s) ++ drop end s)) = unfold part in rotated-is s from mid end a b h in
    cc (append_assoc (take (end - mid) (drop mid s)) (take (mid - from) (drop from s)) (drop end s))
