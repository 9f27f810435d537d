-- One equation for each way through a row of values, by the head of its first one; and that the first value is a row of one. Assumes nothing.
use Rattle.std.specs.Prelude.{◌≡◌, refl, ℕ, ◌+◌, ◌*◌, ◌-◌, ◌<◌, min, leb, length, take, Result, Ok, Err}
use Rattle.std.proofs.Common.{sym, ap, ◌∙◌, arith}
use borrow.Author.Tests.{leb-true, leb-false}
use Rattle.buffer.specs.Cases.{by_test}
use Rattle.buffer.specs.Same.{Bytes}
use Rattle.config.specs.Limits.{max_bytes, max_depth}
use Rattle.resp3_prefix.specs.declared.NotWhole.{NotWhole}
use Rattle.resp3_prefix.specs.declared.NotWhole.TheVariants.{Lacks, Never}
use Rattle.resp3_prefix.specs.Begun.{lacking, lacking_row, head_begun, begun_then, value_begun, row_begun, within, first_value}
use Rattle.resp3_prefix.specs.Paths as paths

-- where a value is not whole, nothing goes on behind it
stopped : (why : NotWhole) (n : ℕ) (f g : ℕ → Result ℕ NotWhole) → begun_then (Err why) n f ≡ begun_then (Err why) n g
stopped (Lacks k) n f g = refl
stopped Never n f g = refl

module _ (d : ℕ) (s : Bytes) (n at : ℕ) where
  -- no value nests so deep
  pub row-deep : 0 < n → d ≡ 0 → row_begun d s n at ≡ Err Never
  row-deep l z = paths.row_one d s n at (Err Never) l (paths.value-zero d s at z)

  module _ (l : 0 < n) (z : (d ≡ 0) → ⊥) where
    -- a value with none inside it
    pub row-leaf : (e : ℕ) → head_begun (d - 1) s at ≡ Ok (0, e) → row_begun d s n at ≡ row_begun d s (n - 1) e
    row-leaf e h = paths.row_one d s n at (Ok e) l (paths.value-head d s at (Ok (0, e)) z h ∙ paths.row-none (d - 1) s 0 e refl)

    -- one with m inside it
    pub row-inside : (m e x : ℕ) → head_begun (d - 1) s at ≡ Ok (m, e) → row_begun (d - 1) s m e ≡ Ok x → row_begun d s n at ≡ row_begun d s (n - 1) x
    row-inside m e x h r = paths.row_one d s n at (Ok x) l (paths.value-head d s at (Ok (m, e)) z h ∙ r)

    -- its head is not whole
    pub row-no-head : (why : NotWhole) → head_begun (d - 1) s at ≡ Err why → row_begun d s n at ≡ begun_then (Err why) (n - 1) (λ e. Ok e)
    row-no-head why h = paths.row_one d s n at (Err why) l (paths.value-head d s at (Err why) z h) ∙ stopped why (n - 1) _ _

    -- or what is inside it
    pub row-part : (m e : ℕ) (why : NotWhole) → head_begun (d - 1) s at ≡ Ok (m, e) → row_begun (d - 1) s m e ≡ Err why
        → row_begun d s n at ≡ begun_then (Err why) (n - 1) (λ e. Ok e)
    row-part m e why h r = paths.row_one d s n at (Err why) l (paths.value-head d s at (Ok (m, e)) z h ∙ r) ∙ stopped why (n - 1) _ _

-- no others are lacking behind it
none-behind : (n k : ℕ) → within n (lacking_row k 0) ≡ within n (Err (Lacks k))
none-behind n k =
    by_test (leb k max_bytes)
    (λ t. let l = leb-true k max_bytes t in
    let j : k + 3 * 0 ≡ k = omega arith in
    ap (within n) (paths.row-sum k 0 l (omega arith) ∙ ap lacking j ∙ paths.lacking-yes k l))
    (λ t. let l = leb-false k max_bytes t in ap (within n) (paths.row-far k 0 l) ∙ sym (paths.within-far n k l))

-- a row of one, within the limit
one-within : (d : ℕ) (s : Bytes) (n : ℕ) (v : Result ℕ NotWhole) → within n (begun_then v 0 (λ e. row_begun d s 0 e)) ≡ within n v
one-within d s n (Ok e) = ap (within n) (paths.row-none d s 0 e refl)
one-within d s n (Err (Lacks k)) = none-behind n k
one-within d s n (Err Never) = refl

pub first-of-one : (s : Bytes) (n : ℕ) (x : Result ℕ NotWhole) → n ≡ min (length s) max_bytes → x ≡ row_begun max_depth (take n s) 1 0
    → within (length s) x ≡ first_value s
first-of-one s n x e h =
    ap (within (length s)) (h ∙ paths.row_one max_depth (take n s) 1 0 (value_begun max_depth (take n s) 0) (omega arith) refl)
    ∙ one-within max_depth (take n s) (length s) (value_begun max_depth (take n s) 0)
    ∙ paths.first-is s n (value_begun max_depth (take n s) 0) e refl
