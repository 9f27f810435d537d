-- `cursor::arg_idx` meets its contract by its loop's invariant. Assumes nothing.
use mathlib.Core.Path.{◌≡◌, sym, ap, ◌∙◌}
use Prim.Native.Nat.{ℕ, ◌+◌, ◌-◌}
use native.Mathlib.Omega.{arith}
use lib.ListN.{length}
use Rattle.cursor.specs.At.{args_of, argument_of}
use Rattle.cursor.specs.Steps as laws
use Rattle.cursor.specs.Index as index
use Rattle.cursor.proofs.arg_idx.Goals as goal
use Rattle.cursor.proofs.arg_idx.Goals.{In_ok-arg, In_ok-arg-2}

-- the argument that comes in the loop
passed : (c : In_ok-arg) → laws.Stepped c.args.s.now c.loop.k c.in_ok-arg.arg c.in_ok-arg.rest
passed c = laws.stepped _ _ _ _ c.loop.invariant.0 (sym c.next_arg.ensures ∙ c.in_ok-arg.was)

-- the one behind it
this : (c : In_ok-arg-2) → laws.Stepped c.args.s.now c.loop.k c.in_ok-arg-2.arg c.in_ok-arg-2.field-0-1
this c = laws.stepped _ _ _ _ c.loop.invariant.0 (sym c.next_arg-2.ensures ∙ c.in_ok-arg-2.was)

-- where it is the one that is asked for
is-this : (c : In_ok-arg-2) → index.arg_idx (args_of c.args.s.now c.args.k) c.args.idx ≡ index.arg_text c.loop.before (argument_of c.args.s.now c.in_ok-arg-2.arg)
is-this c =
    let z : c.args.idx - c.loop.counter ≡ 0 = omega arith in
    c.loop.invariant.1 ∙ ap (index.arg_idx_from c.loop.before (args_of c.args.s.now c.loop.k)) z ∙ index.idx-this _ _ _ _ (this c) c.loop.before

pub returns-in_err-arg : goal.returns-in_err-arg
returns-in_err-arg c =
    let z = laws.stopped _ _ c.loop.invariant.0 (sym c.next_arg.ensures ∙ c.in_err-arg.was) in
    rw c.from_residual.ensures (sym (c.loop.invariant.1 ∙ index.idx-none _ _ _ _ _ z), tt)

pub own_bytes-requires : goal.own_bytes-requires
own_bytes-requires c = (passed (goal.at.own_bytes-requires c).In_ok-arg).inside

pub overflow_add-before : goal.overflow_add-before
overflow_add-before c =
    let w = passed (goal.at.overflow_add-before c).In_ok-arg in
    let e = w.ends in
    let i = laws.in_start _ _ _ w.here in
    let l = ap length c.own_bytes.ensures in
    let b = c.loop.invariant.2 in
    omega arith

pub loop-preserved : goal.loop-preserved
loop-preserved c =
    let w = passed (goal.at.loop-preserved c).In_ok-arg in
    let e = w.ends in
    let b = c.loop.invariant.2 in
    let j : ℕ = c.args.idx - (c.loop.counter + 1) in
    rw c.own_bytes.ensures (w.here, c.loop.invariant.1 ∙ index.idx-next _ _ _ _ w c.loop.before (c.args.idx - c.loop.counter) j (omega arith), omega arith)

pub returns-in_err-arg-2 : goal.returns-in_err-arg-2
returns-in_err-arg-2 c =
    let z = laws.stopped _ _ c.loop.invariant.0 (sym c.next_arg-2.ensures ∙ c.in_err-arg-2.was) in
    rw c.from_residual-in_err-arg-2.ensures (sym (c.loop.invariant.1 ∙ index.idx-none _ _ _ _ _ z), tt)

pub returns-in-Cursor : goal.returns-in-Cursor
returns-in-Cursor c = (sym (is-this (goal.at.returns-in-Cursor c).In_ok-arg-2 ∙ ap (λ a. index.arg_text c.loop.before (argument_of c.args.s.now a)) c.in-Cursor.is), tt)

pub returns-then-before-g-eq0 : goal.returns-then-before-g-eq0
returns-then-before-g-eq0 c =
    let w = rw c.in-Simple.is at (this (goal.at.returns-then-before-g-eq0 c).In_ok-arg-2).inside in (
      sym (is-this (goal.at.returns-then-before-g-eq0 c).In_ok-arg-2 ∙ rw c.in-Simple.is (index.text-empty _ _ w _ c.if-before-g-eq0.true)),
      tt,
    )

pub returns : goal.returns
returns c =
    let w = rw c.in-Simple.is at (this (goal.at.returns c).In_ok-arg-2).inside in (
      sym (is-this (goal.at.returns c).In_ok-arg-2 ∙ rw c.in-Simple.is (index.text-found _ _ w _ c.if-before-g-eq0.false)),
      w,
    )
