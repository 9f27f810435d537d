-- `arg_idx` by how many arguments are left and where the next one stands. Assumes nothing.
use Rattle.std.specs.Prelude.{◌≡◌, cond, suc, ℕ, ◌+◌, ◌-◌, eqb, length, get_or}
use Rattle.std.proofs.Common.{ap, ◌∙◌, arith, add-one, eq-eqb, ne_eqb}
use Rattle.buffer.specs.Same.{Bytes}
use Rattle.buffer.specs.Part.{part}
use Rattle.buffer.specs.PartLaws.{length_part}
use Rattle.cursor.specs.At.{size_at, next_at, arg_at, args_at, ArgsIn, own}
use Rattle.cursor.specs.Steps.{in-more, args_more}
use Rattle.cursor.specs.Index.{none, text, arg_idx_from, own-length}

module _ (s : Bytes) (m at n : ℕ) where
  -- one further
  pub idx-more : (i j k : ℕ) → m ≡ j + 1 → i ≡ k + 1 → ArgsIn s m at
      → arg_idx_from n (args_at s m at) i ≡ arg_idx_from (n + size_at s at) (args_at s j (next_at s at)) k
  idx-more i j k q p w =
      let z : i ≡ suc k = p ∙ add-one k in
      let e : arg_idx_from n (args_at s m at) i ≡ arg_idx_from (n + length (own (arg_at s at))) (args_at s j (next_at s at)) k = rw (args_more s m j at q, z) in
      e ∙ ap (λ (x : ℕ). arg_idx_from (n + x) (args_at s j (next_at s at)) k) (own-length s at (in-more s m j at q w).0)

  -- a cursor
  pub idx-cursor : (j : ℕ) → m ≡ j + 1 → (get_or s at 0 ≡ 0 → ⊥) → arg_idx_from n (args_at s m at) 0 ≡ none
  idx-cursor j q h = rw (args_more s m j at q, ne_eqb (get_or s at 0) 0 h)

  module _ (j : ℕ) (q : m ≡ j + 1) (w : ArgsIn s m at) (h : get_or s at 0 ≡ 0) where
    simple-is : arg_idx_from n (args_at s m at) 0 ≡ cond (eqb (n + size_at s at) 0) none (text (part s (at + 5) (size_at s at)))
    simple-is =
        let v = (in-more s m j at q w).0.inside in
        rw (args_more s m j at q, eq-eqb (get_or s at 0) 0 h, length_part s (at + 5) (size_at s at) (omega arith))

    pub idx-empty : n + size_at s at ≡ 0 → arg_idx_from n (args_at s m at) 0 ≡ none
    idx-empty z = simple-is ∙ rw (eq-eqb (n + size_at s at) 0 z)

    pub idx-found : (e : ℕ) → (n + size_at s at ≡ 0 → ⊥) → e ≡ next_at s at → arg_idx_from n (args_at s m at) 0 ≡ text (part s (at + 5) (e - (at + 5)))
    idx-found e z p =
        let y : e - (at + 5) ≡ size_at s at = omega arith in
        simple-is ∙ rw (ne_eqb (n + size_at s at) 0 z, y)
