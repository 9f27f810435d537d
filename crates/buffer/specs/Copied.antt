-- Bytes copied into a buffer piece by piece. Assumes nothing.
use Rattle.std.specs.Prelude.{◌≡◌, refl, [], ◌++◌, ℕ, ◌+◌, ◌≤◌, length}
use Rattle.std.proofs.Common.{sym, ap, ◌∙◌, arith, length-append}
use Rattle.buffer.specs.Same.{Bytes}
use Rattle.buffer.specs.Part.{put}
use Rattle.buffer.specs.PartLaws.{put-put, length-put}
use Rattle.buffer.specs.Step.{put-nil}

-- d is what was d₀ as far as it goes: the rest put at e makes the whole
pub record Copied (d₀ : Bytes) (to : ℕ) (all d : Bytes) (e : ℕ) (rest : Bytes) : Type 0 where
  pub same : put d e rest ≡ put d₀ to all
  pub room : e + length rest ≤ length d
  pub long : length d ≡ length d₀
  pub ends : e + length rest ≡ to + length all

-- nothing is copied yet
pub copied-start : (d all : Bytes) (to : ℕ) → to + length all ≤ length d → Copied d to all d to all
copied-start d all to h = record { same = refl; room = h; long = refl; ends = refl }

-- the next piece x
pub copied_next : (d₀ all d d₁ x rest y : Bytes) (to e f : ℕ) → rest ≡ x ++ y → f ≡ e + length x → d₁ ≡ put d e x → Copied d₀ to all d e rest
    → Copied d₀ to all d₁ f y
copied_next d₀ all d d₁ x rest y to e f q p u w =
    let r = w.room in
    let l = w.long in
    let a : length rest ≡ length x + length y = ap length q ∙ length-append x y in
    let k : length d₁ ≡ length d = ap length u ∙ length-put d x e (omega arith) in
    record {
      same = ap (λ (z : Bytes). put z f y) u ∙ put-put d x y e f p (omega arith) ∙ ap (put d e) (sym q) ∙ w.same;
      room = omega arith;
      long = omega arith;
      ends = let n = w.ends in omega arith;
    }

-- all is copied
pub copied-done : (d₀ all d rest : Bytes) (to e : ℕ) → rest ≡ [] → Copied d₀ to all d e rest → d ≡ put d₀ to all
copied-done d₀ all d rest to e q w = sym (put-nil d e) ∙ ap (put d e) (sym q) ∙ w.same

-- room for the next piece
pub copied-room : (d₀ all d x rest y : Bytes) (to e : ℕ) → rest ≡ x ++ y → Copied d₀ to all d e rest → e + length x ≤ length d
copied-room d₀ all d x rest y to e q w = let r = w.room in let a : length rest ≡ length x + length y = ap length q ∙ length-append x y in omega arith

-- where the last piece ends
pub copied-ends : (d₀ all d rest : Bytes) (to e : ℕ) → rest ≡ [] → Copied d₀ to all d e rest → e ≡ to + length all
copied-ends d₀ all d rest to e q w = let n = w.ends in omega (arith, ap length q)
