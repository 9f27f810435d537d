-- `buffer::fill_zero` meets its contract. Assumes nothing.
use Rattle.std.proofs.Common.{ℕ, ◌≡◌, ◌∙◌, ◌-◌, ◌≤◌, ap, sym, arith, length, length-take, length-drop, replicate, take_all}
use Rattle.std.proofs.lemmas.List.{length-replicate}
use Rattle.buffer.specs.Step.{put-nil}
use Rattle.buffer.proofs.Writes.{copy-law}
use Rattle.buffer.proofs.fill_zero.Goals as goal

pub returns-after-loop-byte : goal.returns-after-loop-byte
returns-after-loop-byte c =
    let a = c.args in
    let l = c.loop-byte in
    let n : length l.byte-items ≡ a.to - a.from = l.auto.byte-items ∙ simp (length-take, length-drop) (omega arith) in
    let t : a.to - a.from ≤ l.byte-index = omega (arith, simp (length-take, length-drop) at c.loop-byte-test.false) in
    let e : l.byte-items ≡ replicate l.byte-index 0 = sym (take_all l.byte-index l.byte-items (omega arith)) ∙ l.invariant in
    let i : l.byte-index ≡ a.to - a.from = omega (arith, ap length e, length-replicate {A = ℕ} l.byte-index 0) in
    copy-law a.s.now (replicate (a.to - a.from) 0) l.byte-items a.from a.to (simp length-replicate (omega arith)) (rw i at e)

pub returns-else-from-to : goal.returns-else-from-to
returns-else-from-to c = let e : c.args.to - c.args.from ≡ 0 = omega arith in rw e (sym (put-nil _ _))
