-- `call_record::many_end` meets its contract by its loop's invariant. Assumes nothing.
use mathlib.Core.Path.{sym, ◌∙◌}
use Prim.Native.Nat.{◌+◌, ◌-◌}
use native.Mathlib.Omega.{arith}
use Rattle.call_record.specs.Paths.{handed_on, many-done, many-next, many-bad}
use Rattle.call_record.proofs.many_end.Goals as goal

pub end-requires : goal.end-requires
end-requires g c = let q = c.requires in q.3.called c.loop.i (c.loop.invariant q.0 q.1 q.2 q.3).0

pub returns-in_err-i : goal.returns-in_err-i
returns-in_err-i g c = λ m one h f.
    let k = c.loop.counter in
    let l = c.loop.invariant m one h f in
    handed_on c.from_residual.result _ c.from_residual.ensures.1
    ∙ sym (l.1 ∙ many-bad one (c.args.n - (k + 1)) (c.args.n - k) _ (omega arith) _ (sym (f.found _ _ l.0 c.in_err-i.ensures)))

pub loop-preserved : goal.loop-preserved
loop-preserved g c = λ m one h f.
    let k = c.loop.counter in
    let l = c.loop.invariant m one h f in
    let e = sym (f.found _ _ l.0 c.in_ok-i.ensures) in
    (f.inside _ _ l.0 e, l.1 ∙ many-next one (c.args.n - (k + 1)) (c.args.n - k) _ (omega arith) _ e)

pub returns : goal.returns
returns g c = λ m one h f. sym ((c.loop.invariant m one h f).1 ∙ many-done one _ _ (omega arith))
