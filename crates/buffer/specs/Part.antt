-- Parts of a list, read (`part`) and replaced (`put`), for every element type. Assumes nothing: these are definitions; their laws are in PartLaws.antt.
use Rattle.std.specs.Prelude.{List, ◌++◌, ℕ, ◌+◌, length, take, drop}

-- the n elements of s at `at`
unfoldable pub part {ℓ} : {A : Type ℓ} → List A → ℕ → ℕ → List A
part s at n = take n (drop at s)

-- s with bs in the place of the elements that stand at `at`
unfoldable pub put {ℓ} : {A : Type ℓ} → List A → ℕ → List A → List A
put s at bs = take at s ++ (bs ++ drop (at + length bs) s)
