-- `cursor::next_command` meets its contract. Assumes nothing.
use mathlib.Core.Path.{ap, ◌∙◌}
use Prim.Native.Nat.{◌-◌}
use Rattle.std.specs.Prelude.{Some}
use Rattle.cursor.specs.At.{args_end}
use Rattle.cursor.specs.Steps as laws
use borrow.Author.Tests.{eq-eqb, ne_eqb}
use Rattle.cursor.specs.declared.Head.{Head}
use Rattle.cursor.proofs.next_command.Goals as goal

pub returns-then-k-eq0 : goal.returns-then-k-eq0
returns-then-k-eq0 c = rw (eq-eqb _ 0 c.if-k-eq0.true)

pub head_at-head-requires : goal.head_at-head-requires
head_at-head-requires c = (laws.commands-in _ _ _ _ (laws.one_more _ c.if-k-eq0.false) c.requires).0

pub args_end-requires : goal.args_end-requires
args_end-requires c =
    rw c.head_at-head.ensures (laws.commands-in _ _ _ _ (laws.one_more _ c.if-k-eq0.false) c.requires).1

pub returns : goal.returns
returns c =
    let h = c.head_at-head.ensures in
    let s = c.args.s.now in
    let e = c.args_end.ensures ∙ ap (λ (x : Head). args_end s x.args.left x.args.at) h in
    rw (ne_eqb _ 0 c.if-k-eq0.false) (λ i. Some (h i, record { at = e i; left = c.args.k.left - 1 }))
