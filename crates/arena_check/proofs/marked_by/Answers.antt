-- `arena_check::marked_by` meets its contract: one law for each path. Assumes nothing.
use mathlib.Core.Path.{sym, ◌∙◌}
use native.Mathlib.Omega.{arith}
use Rattle.arena_check.proofs.Marks.{marked-short, marked-long, marked-ends, marked-whole, ends_read, whole-read}
use Rattle.arena_check.proofs.marked_by.Goals as goal

pub returns-then-n-lt8 : goal.returns-then-n-lt8
returns-then-n-lt8 c = c.sip_hash_13.ensures ∙ sym (marked-short c.args.key.now (omega arith))

pub returns-then-n-gt32 : goal.returns-then-n-gt32
returns-then-n-gt32 c = c.sip_hash_13-then-n-gt32.ensures ∙ sym (marked-long c.args.key.now (omega arith) (omega arith))

pub returns-then-n-le16 : goal.returns-then-n-le16
returns-then-n-le16 c =
    let k = c.args.key.now in
    ends_read k _ _ _ _ c.read_u64.ensures c.mixed.ensures.0
    c.read_u64-2.ensures c.mixed-ends.ensures.0
    ∙ sym (marked-ends k (omega arith) (omega arith) (omega arith))

pub returns : goal.returns
returns c =
    let k = c.args.key.now in
    let ends = ends_read k _ _ _ _ c.read_u64.ensures
    c.mixed.ensures.0
    c.read_u64-2.ensures c.mixed-ends.ensures.0 in
    whole-read k _ _ _ _ _ ends c.read_u64-3.ensures c.mixed-2.ensures.0
    c.read_u64-4.ensures c.mixed-3.ensures.0
    ∙ sym (marked-whole k (omega arith) (omega arith) (omega arith))
