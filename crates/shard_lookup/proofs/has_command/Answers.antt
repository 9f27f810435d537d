-- `has_command` meets its contract: command keys of different lengths differ. Assumes nothing.
use mathlib.Core.Path.{◌≡◌, sym, ap, ◌∙◌}
use Prim.Native.Nat.{ℕ, ◌+◌, ◌-◌}
use native.Mathlib.Omega.{arith}
use lib.ListN.{length}
use Rattle.buffer.specs.Part.{part}
use Rattle.buffer.specs.Same.{Bytes, same}
use Rattle.buffer.specs.SameLaws.{same_length}
use Rattle.book.proofs.Rows.{same-comm}
use Rattle.command_key.specs.Key.{key_bytes}
use Rattle.shard_lookup.proofs.Entries.{entry-fields}
use Rattle.shard_lookup.proofs.has_command.Goals as goal

pub read_u32-requires : goal.read_u32-requires
read_u32-requires c = let f = entry-fields c.requires.0.stands in omega arith

pub returns-then-read_u32-len : goal.returns-then-read_u32-len
returns-then-read_u32-len c en w =
    let f = entry-fields w in
    let l = c.requires.2 in
    sym (same_length _ _ (λ e. c.if-read_u32-len.true (omega arith)))

pub overflow_add-from : goal.overflow_add-from
overflow_add-from c = let f = entry-fields c.requires.0.stands in omega arith

pub overflow_add-to : goal.overflow_add-to
overflow_add-to c = let f = entry-fields c.requires.0.stands in omega arith

pub slice_bounds-key_same-end : goal.slice_bounds-key_same-end
slice_bounds-key_same-end c = let f = entry-fields c.requires.0.stands in omega arith

pub returns : goal.returns
unfolding part
returns c en w =
    let a = c.args in
    let f = entry-fields w in
    let k : Bytes = key_bytes a.source.now a.command in
    let l : a.at + 16 + a.len - (a.at + 16) ≡ length en.command = omega arith in
    c.key_same.ensures ∙ ap (λ (z : Bytes). same z k) (ap (λ (n : ℕ). part a.s.now (a.at + 16) n) l ∙ f.command) ∙ same-comm en.command k
