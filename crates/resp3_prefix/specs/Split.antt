-- Two ways of cutting one list of bytes. Assumes nothing.
use Rattle.std.specs.Prelude.{◌≡◌, refl, [], ◌∷◌, ◌++◌, ◌≤◌, length, take}
use Rattle.std.proofs.Common.{sym, ap, ap₂, ◌∙◌, arith, length-append, take_at}
use Rattle.buffer.specs.Same.{Bytes}

-- x begins with t and goes on with m; what follows t is m and then what follows x
pub record Cut (t x y q : Bytes) : Type 0 where
  pub m : Bytes
  pub front : x ≡ t ++ m
  pub back : q ≡ m ++ y

-- of two beginnings of a list the shorter begins the longer
pub cut : (t x y q : Bytes) → x ++ y ≡ t ++ q → length t ≤ length x → Cut t x y q
cut [] x y q e l = record { m = x; front = refl; back = sym e }
cut (a ∷ t) [] y q e l = absurd (omega arith)
cut (a ∷ t) (b ∷ x) y q e l =
    let h : b ≡ a = cc in
    let k : x ++ y ≡ t ++ q = cc in
    let z = cut t x y q k (omega arith) in
    record { m = z.m; front = ap₂ ◌∷◌ h z.front; back = z.back }

-- lists with the same end have the same beginning
pub same-front : (x y r : Bytes) → x ++ r ≡ y ++ r → x ≡ y
same-front x y r e =
    let l : length x ≡ length y = omega (arith, ap length e, length-append x r, length-append y r) in
    sym (take_at x r (length x) refl) ∙ ap (λ (z : Bytes). take (length x) z) e ∙ take_at y r (length x) (sym l)

-- a list of no bytes
pub none_left : (m : Bytes) → length m ≡ 0 → m ≡ []
none_left [] h = refl
none_left (x ∷ m) h = absurd (omega arith)
