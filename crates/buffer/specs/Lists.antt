-- Laws of lists that the kit's library lacks: parts of parts, lists that agree, zeros and other repeats. For every element type.
-- Assumes nothing.
use Rattle.std.specs.Prelude.{◌≡◌, List, [], ◌∷◌, ◌++◌, ℕ, zero, suc, ◌+◌, ◌-◌, ◌≤◌, length, get_or, take, drop, replicate}
use Rattle.std.proofs.Common.{ap, ◌∙◌, sym, arith, zero-add, suc-add, drop_at, get_or-drop}
use Rattle.std.proofs.lemmas.List.{length-replicate, replicate-append-replicate}
use Rattle.std.proofs.Math.Seq.{take-nil, take-append-add, drop-append-add}

module _ {ℓ} {A : Type ℓ} where
  -- a front of a front without its own front is a part in the middle
  pub drop-take : (f n : ℕ) (l : List A) → drop f (take (f + n) l) ≡ take n (drop f l)
  drop-take zero n l = rw zero-add
  drop-take (suc f) n [] = rw (suc-add, take-nil n)
  drop-take (suc f) n (x ∷ l) = rw suc-add (drop-take f n l)

  -- lists that agree from m on have the same element at each later index
  pub get_or-agree : (a b : List A) (m j : ℕ) (d : A) → drop m a ≡ drop m b → m ≤ j → get_or a j d ≡ get_or b j d
  get_or-agree a b m j d e h =
      let i : m + (j - m) ≡ j = omega arith in
      cc (get_or-drop m a (j - m) d, get_or-drop m b (j - m) d)

  -- a front that reaches into the second of two lists
  pub take_past : (X Y : List A) (at k : ℕ) → length X ≡ at → take (at + k) (X ++ Y) ≡ X ++ take k Y
  take_past X Y at k e = rw (← e) (take-append-add X Y k)

  -- what follows a front that reaches into the second of two lists
  pub drop_past : (X Y : List A) (at k : ℕ) → length X ≡ at → drop (at + k) (X ++ Y) ≡ drop k Y
  drop_past X Y at k e = rw (← e) (drop-append-add X Y k)

  -- what is left of a repeat is a repeat
  pub drop-replicate : (m z : ℕ) (a : A) → m ≤ z → drop m (replicate z a) ≡ replicate (z - m) a
  drop-replicate m z a h =
      let e : m + (z - m) ≡ z = omega arith in
      let r : replicate m a ++ replicate (z - m) a ≡ replicate z a = replicate-append-replicate m (z - m) a ∙ ap (λ (k : ℕ). replicate k a) e in
      ap (drop m) (sym r) ∙ drop_at (replicate m a) (replicate (z - m) a) m (length-replicate m a)
