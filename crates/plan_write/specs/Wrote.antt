-- What a writer has done (`Wrote` in cmd's specs/Laws.antt): under another name for the same bytes, nothing at all, one writer after the other. Assumes
-- nothing.
use Rattle.std.specs.Prelude.{◌≡◌, [], ◌++◌, ℕ, ◌+◌, ◌≤◌, length}
use Rattle.std.proofs.Common.{sym, ap, ◌∙◌, arith, length-append}
use Rattle.buffer.specs.Same.{Bytes}
use Rattle.buffer.specs.Part.{put}
use Rattle.buffer.specs.PartLaws.{length-put}
use Rattle.buffer.specs.Step.{put-nil}
use Rattle.cmd.specs.Laws.{Wrote, two-wrote}

-- bytes y, which are x
pub wrote-is : (d d₁ x y : Bytes) (to e : ℕ) → x ≡ y → (e ≡ to + length y) × (d₁ ≡ put d to y) → Wrote d to x d₁ e
wrote-is d d₁ x y to e q w = record { ends = w.0 ∙ ap (λ (z : Bytes). to + length z) (sym q); is = w.1 ∙ ap (put d to) (sym q) }

-- the same of a writer that says so itself
pub wrote_as : (d d₁ x y : Bytes) (to e : ℕ) → x ≡ y → Wrote d to y d₁ e → Wrote d to x d₁ e
wrote_as d d₁ x y to e q w = wrote-is d d₁ x y to e q (w.ends, w.is)

-- no bytes
pub wrote_none : (d x : Bytes) (to : ℕ) → x ≡ [] → Wrote d to x d to
wrote_none d x to q = record { ends = let l = ap length q in omega arith; is = sym (put-nil d to) ∙ ap (put d to) (sym q) }

-- the buffer keeps its length
pub wrote-long : (d d₁ x : Bytes) (to e : ℕ) → to + length x ≤ length d → Wrote d to x d₁ e → length d₁ ≡ length d
wrote-long d d₁ x to e h w = ap length w.is ∙ length-put d x to h

-- ---- room

-- for bytes y, which are x
pub room-is : (x y : Bytes) (to n : ℕ) → x ≡ y → to + length x ≤ n → to + length y ≤ n
room-is x y to n q h = let l = ap length q in omega arith

-- for the first of two
pub room-first : (all x y : Bytes) (to n : ℕ) → all ≡ x ++ y → to + length all ≤ n → to + length x ≤ n
room-first all x y to n q h = let l = ap length q ∙ length-append x y in omega arith

-- for the second, behind the first
pub room-second : (d d₁ all x y : Bytes) (to e : ℕ) → all ≡ x ++ y → to + length all ≤ length d → Wrote d to x d₁ e → e + length y ≤ length d₁
room-second d d₁ all x y to e q h w =
    let l = ap length q ∙ length-append x y in let k = wrote-long d d₁ x to e (omega arith) w in let f = w.ends in omega arith

-- ---- one writer after the other

pub wrote-both : (d d₁ d₂ all x y : Bytes) (to e f : ℕ) → all ≡ x ++ y → to + length all ≤ length d → Wrote d to x d₁ e → Wrote d₁ e y d₂ f
    → Wrote d to all d₂ f
wrote-both d d₁ d₂ all x y to e f q h w v =
    let r = two-wrote d d₁ d₂ x y all to e f q h w.ends w.is v.ends v.is in record { ends = r.0; is = r.1 }
