-- `has_key` meets its contract: keys of different lengths differ, and so do those with other last bytes. Assumes nothing.
use mathlib.Core.Path.{◌≡◌, sym, ap, ◌∙◌}
use Prim.Native.Nat.{ℕ, ◌+◌}
use native.Mathlib.Omega.{arith}
use lib.ListN.{length}
use Rattle.buffer.specs.Part.{part}
use Rattle.buffer.specs.Same.{Bytes, same}
use Rattle.buffer.specs.SameLaws.{same_length}
use Rattle.book.proofs.Rows.{same-comm}
use Rattle.shard.proofs.Fields.{fields}
use Rattle.shard.proofs.has_key.Goals as goal

pub read_u32-requires : goal.read_u32-requires
read_u32-requires c = let f = fields c.requires.stands in omega arith

pub returns-then-read_u32-key : goal.returns-then-read_u32-key
returns-then-read_u32-key c front back it w = let f = fields w in sym (same_length _ _ (λ e. c.if-read_u32-key.true (omega arith)))

pub returns-then-other_tail : goal.returns-then-other_tail
returns-then-other_tail c front back it w = sym (c.other_tail.ensures front back it w c.if-other_tail.true)

pub overflow_add-at : goal.overflow_add-at
overflow_add-at c = let f = fields c.requires.stands in omega arith

pub same_at-requires : goal.same_at-requires
same_at-requires c = let f = fields c.requires.stands in omega arith

pub returns : goal.returns
returns c front back it w =
    let a = c.args in
    let f = fields w in
    let l : length a.key.now ≡ length it.key = omega arith in
    let p : part a.s.now (a.at + 32) (length a.key.now) ≡ it.key = ap (λ (n : ℕ). part a.s.now (a.at + 32) n) l ∙ f.key in
    c.same_at.ensures ∙ ap (λ (z : Bytes). same z a.key.now) p ∙ same-comm it.key a.key.now
