-- `cmd::args_len` meets its contract by its loop's invariant. Assumes nothing.
use mathlib.Core.Path.{◌≡◌, ap, ◌∙◌}
use Prim.Native.Nat.{ℕ, ◌+◌, ◌≤◌}
use native.Mathlib.Omega.{arith}
use lib.ListN.{length}
use Rattle.cursor.specs.At.{own, argument_of}
use Rattle.cursor.specs.Steps.{Stepped, in_start, iter-next, iter-done}
use Rattle.config.specs.Limits.{max_bytes}
use Rattle.decimal.specs.Digits.{digits}
use Rattle.decimal.specs.DigitLaws.{count-max}
use Rattle.cmd.specs.Pack.{sent}
use Rattle.cmd.specs.Laws as laws
use Rattle.cmd.proofs.args_len.Goals as goal
use Rattle.cmd.proofs.args_len.Goals.{In-Some}

-- the argument that comes
this : (c : In-Some) → Stepped c.args.s.now c.loop-arg.arg-iterator.rest c.in-Some.arg c.next.new.self.rest
this c = iter-next _ _ c.loop-arg.invariant.0 _ _ c.loop-arg.invariant.1 _ c.in-Some.ensures.steps.1

-- how long it is as it is sent
record Bounded (c : In-Some) : Type 0 where
  more : length (sent c.args.cursor (argument_of c.args.s.now c.in-Some.arg)) ≤ length (own (argument_of c.args.s.now c.in-Some.arg)) + 20
  small : length (sent c.args.cursor (argument_of c.args.s.now c.in-Some.arg)) ≤ max_bytes

bounded : (c : In-Some) → Bounded c
bounded c =
    let w = this c in
    let e = w.ends in
    let i = in_start _ _ _ w.here in
    let m = c.requires.1 in
    let a = argument_of c.args.s.now c.in-Some.arg in
    record {
      more = laws.sent-bound c.args.cursor (omega arith) a;
      small = laws.sent-small c.args.cursor max_bytes (omega arith) (omega arith) a (omega arith);
    }

pub loop-arg-init : goal.loop-arg-init
loop-arg-init c =
    let i = c.args_iter-arg-items.ensures in
    let e = c.head_len-total.ensures 42 in
    let h = laws.head-length 42 c.args.k.left in
    let m = count-max c.args.k.left (omega arith) in
    let l = laws.packed-length c.args.s.now c.args.cursor c.args.k.left c.args.k.at in
    rw c.into_iter-arg-iterator.ensures.into_iter_gives (rw i.1 (i.0, c.requires.0, omega arith, omega arith, omega arith))

pub sent_len-requires : goal.sent_len-requires
sent_len-requires c = (this (goal.at.sent_len-requires c).In-Some).inside

pub bulklen-total-requires : goal.bulklen-total-requires
bulklen-total-requires c = rw c.sent_len.ensures (bounded (goal.at.bulklen-total-requires c).In-Some).small

pub overflow_add-total : goal.overflow_add-total
overflow_add-total c =
    let b = bounded (goal.at.overflow_add-total c).In-Some in
    let w = this (goal.at.overflow_add-total c).In-Some in
    let b₁ = b.more in
    let b₂ = b.small in
    let i = in_start _ _ _ w.here in
    let n = w.ends in
    let e = c.sent_len.ensures in
    let f = c.bulklen-total.ensures in
    let m = count-max c.sent_len.result (omega arith) in
    let t = c.loop-arg.invariant.3 in
    let u = c.loop-arg.invariant.4 in
    let p = c.requires.1 in
    let q = c.requires.2 in
    omega arith

pub loop-arg-preserved : goal.loop-arg-preserved
loop-arg-preserved c =
    let b = bounded (goal.at.loop-arg-preserved c).In-Some in
    let w = this (goal.at.loop-arg-preserved c).In-Some in
    let v = c.loop-arg.invariant in
    let b₁ = b.more in
    let b₂ = b.small in
    let n = w.ends in
    let l = w.count in
    let e = c.sent_len.ensures in
    let f = c.bulklen-total.ensures in
    let m = count-max c.sent_len.result (omega arith) in
    let a = v.2 in
    let t = v.3 in
    let u = v.4 in
    let y = laws.sent-length c.args.s.now c.args.cursor _ _ _ w in
    let z = ap (λ (x : ℕ). length (digits x)) e in
    (ap (λ x. x.now) c.in-Some.ensures.steps.0 ∙ v.0, w.here, omega arith, omega arith, omega arith)

pub returns : goal.returns
returns c =
    let v = c.loop-arg.invariant in
    let z = iter-done _ _ v.0 _ _ v.1 c.in-None.ensures.steps.1 in
    let n = ap length (laws.blobs-none c.args.s.now c.args.cursor c.loop-arg.arg-iterator.rest.left c.loop-arg.arg-iterator.rest.at z) in
    let a = v.2 in
    omega arith
