-- `resp3::plain_end` meets its contract: the bytes from `at` up to i are plain. Assumes nothing.
use Rattle.std.specs.Prelude.{◌≡◌, Bool, ℕ, ◌<◌, length, get_or}
use Rattle.std.proofs.Common.{sym, ap, ◌∙◌, arith}
use Rattle.buffer.specs.Same.{Bytes}
use Rattle.resp3.specs.Value.{plain_b}
use Rattle.resp3.specs.Paths as paths
use Rattle.resp3.proofs.plain_end.Goals as goal

-- what `is_plain` says of the byte at i
tested : (s : Bytes) (i : ℕ) → i < length s → {r t : Bool} → r ≡ plain_b (get_or s i 0) → r ≡ t → plain_b (get_or s i 13) ≡ t
tested s i h e f = ap plain_b (paths.get_d_any s i h) ∙ sym e ∙ f

pub returns-then-not-is_plain : goal.returns-then-not-is_plain
returns-then-not-is_plain c =
    let k = paths.plain-stop c.args.s.now c.loop-i.i (tested _ _ c.loop-i-test.true c.is_plain.ensures c.if-not-is_plain.true) in
    omega arith

pub loop-i-preserved : goal.loop-i-preserved
loop-i-preserved c =
    let k = paths.plain_step c.args.s.now c.loop-i.i (tested _ _ c.loop-i-test.true c.is_plain.ensures c.if-not-is_plain.false) in
    (omega arith, omega arith)

pub returns : goal.returns
returns c =
    let k = paths.plain-stop c.args.s.now c.loop-i.i (paths.plain_out _ _ c.loop-i-test.false) in
    omega arith
