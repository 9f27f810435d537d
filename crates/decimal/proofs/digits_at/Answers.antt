-- `decimal::digits_at` meets its contract. What stands from i on, behind digits of value v, is read as what stands at `at`; v is within
-- the limit. Assumes nothing.
use mathlib.Core.Path.{◌≡◌, refl, sym, ◌∙◌}
use mathlib.Core.Bool.{Bool, true, false}
use Prim.Native.Nat.{ℕ, ◌≤◌}
use native.Mathlib.Omega.{arith}
use lib.ListN.{length, get_or, drop}
use Rattle.std.proofs.Common.{List, drop_of_length-le}
use Rattle.decimal.specs.Read.{digit_b, lead, val_acc}
use Rattle.decimal.specs.ReadLaws.{lead-stop, val-stop, Turn, turn, digits-out, digits-zero, digits-none, digits-more, digits-over}
use Rattle.decimal.proofs.digits_at.Goals as goal

-- what the answers of `is_digit` say: at a digit as `turn`, and elsewhere that no digits begin there, and the value stays
at-digit : (s : List ℕ) (i v : ℕ) {r : Bool} → r ≡ digit_b (get_or s i 0) → r ≡ true → Turn s i v
at-digit s i v e t = turn s i v (sym e ∙ t)

at-stop : (s : List ℕ) (i v : ℕ) {r : Bool} → r ≡ digit_b (get_or s i 0) → r ≡ false → (lead (drop i s) ≡ 0) × (val_acc v (drop i s) ≡ v)
at-stop s i v e t = (lead-stop s i (sym e ∙ t), val-stop v s i (sym e ∙ t))

-- and past the end
at-end : (s : List ℕ) (i v : ℕ) → length s ≤ i → (lead (drop i s) ≡ 0) × (val_acc v (drop i s) ≡ v)
at-end s i v h = rw (drop_of_length-le s h) (refl, refl)

pub returns-then-at-s : goal.returns-then-at-s
returns-then-at-s c = sym (digits-out _ _ _ c.if-at-s.true)

pub returns-then-s-at-eq48 : goal.returns-then-s-at-eq48
returns-then-s-at-eq48 c = sym (digits-zero _ _ _ c.if-s-at-eq48.true)

pub returns-then-i-at : goal.returns-then-i-at
returns-then-i-at c =
    let n = at-stop c.args.s.now c.loop-i.i c.loop-i.v c.is_digit.ensures c.if-not-is_digit.true in
    sym (digits-none _ _ _ c.if-s-at-eq48.false (omega arith))

pub returns-else-i-at : goal.returns-else-i-at
returns-else-i-at c =
    let n = at-stop c.args.s.now c.loop-i.i c.loop-i.v c.is_digit.ensures c.if-not-is_digit.true in
    sym (digits-more _ _ _ _ _ c.if-s-at-eq48.false (omega arith) (omega arith) (c.loop-i.invariant.4 ∙ n.1) (omega arith))

pub returns-then-v-tenth : goal.returns-then-v-tenth
returns-then-v-tenth c =
    let t = at-digit c.args.s.now c.loop-i.i c.loop-i.v c.is_digit.ensures c.if-not-is_digit.false in
    sym (digits-over _ _ _ c.if-s-at-eq48.false (omega arith))

pub returns-then-digit-lim : goal.returns-then-digit-lim
returns-then-digit-lim c =
    let t = at-digit c.args.s.now c.loop-i.i c.loop-i.v c.is_digit.ensures c.if-not-is_digit.false in
    sym (digits-over _ _ _ c.if-s-at-eq48.false (omega arith))

pub returns : goal.returns
returns c =
    let n = at-end c.args.s.now c.loop-i.i c.loop-i.v (omega arith) in
    sym (digits-more _ _ _ _ _ c.if-s-at-eq48.false (omega arith) (omega arith) (c.loop-i.invariant.4 ∙ n.1) (omega arith))
