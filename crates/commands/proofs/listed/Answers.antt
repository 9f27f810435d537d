-- `commands::listed` meets its contract. Assumes nothing.
use Rattle.std.proofs.Common.{◌≡◌, ◌∙◌, ◌-◌, Bool, true, ap, sym, arith, length, length-drop, take, drop, take_all}
use Rattle.buffer.specs.Same.{Bytes, same}
use Rattle.commands.proofs.Agrees.{agrees}
use Rattle.commands.proofs.Left.{all_left, found, passed, none_left}
use Rattle.commands.proofs.listed.Goals as goal

-- a row's bytes behind its bar were compared
compared : (x b : Bytes) (r : Bool) → (r ≡ true → take (length x - 1) (drop 1 x) ≡ b) × (take (length x - 1) (drop 1 x) ≡ b → r ≡ true) → r ≡ same (drop 1 x) b
compared x b r f = agrees _ _ r f ∙ ap (λ (z : Bytes). same z b) (take_all (length x - 1) (drop 1 x) (simp length-drop (omega arith)))

pub loop-row-init : goal.loop-row-init
loop-row-init c =
    let g = c.into_iter-row-iterator.ensures.into_iter_gives in
    let k = c.chunks_exact-row-items.ensures in
    (ap (λ z. z.size) g ∙ k.size, λ xs e. all_left _ _ xs (ap (λ z. z.rest.now) g ∙ k.rest ∙ e))

pub returns-then-same : goal.returns-then-same
returns-then-same c =
    λ xs e.
    let s = c.in-Some.ensures.steps in
    let i = c.loop-row.invariant in
    sym (found _ _ _ _ xs (i.1 xs e) s.1.0 (s.1.1 ∙ i.0) (sym (compared _ _ _ c.same.ensures) ∙ c.if-same.true))

pub loop-row-preserved : goal.loop-row-preserved
loop-row-preserved c =
    let s = c.in-Some.ensures.steps in
    let i = c.loop-row.invariant in
    (s.0 ∙ i.0, λ xs e. passed _ _ _ _ xs (i.1 xs e) s.1.0 (s.1.1 ∙ i.0) (sym (compared _ _ _ c.same.ensures) ∙ c.if-same.false))

pub returns : goal.returns
returns c = λ xs e. let i = c.loop-row.invariant in let s = c.in-None.ensures.steps in sym (none_left _ _ xs (i.1 xs e) (omega arith))
