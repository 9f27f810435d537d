-- `find_entry` meets its contract: a walk over the item's entries, of which those passed are not the command key's. Assumes nothing.
use mathlib.Core.Path.{sym, ap, ◌∙◌}
use Prim.Native.Nat.{ℕ, ◌+◌}
use native.Mathlib.Omega.{arith}
use lib.ListN.{length}
use Rattle.buffer.specs.Same.{Bytes}
use Rattle.book.specs.Book.{Item, Row, entry_bytes}
use Rattle.command_key.specs.Key.{key_bytes}
use Rattle.shard.specs.Holds.{Stands}
use Rattle.shard.proofs.Fields.{fields}
use Rattle.shard.proofs.Walk.{begun, Here, here, passed, finished}
use Rattle.shard_lookup.specs.Entries.{entry_from}
use Rattle.shard_lookup.proofs.Entries.{entries-count, entry-fields, stands-entry, there-entry, entry_here, entry_next}
use Rattle.shard_lookup.proofs.find_entry.Goals.{In-loop-e}
use Rattle.shard_lookup.proofs.find_entry.Invariants.{Elsewhere}
use Rattle.shard_lookup.proofs.find_entry.Goals as goal

-- the entry that a turn has come to
look : (c : In-loop-e) (front back : Row) (it : Item)
    → let a = c.args in
    let e = c.loop-e.e in
    Stands a.s.now a.at front back it
    → Here entry_bytes (a.at + 32 + length it.key) it.entries e (Elsewhere a.at (key_bytes a.source.now a.command) it e)
look c front back it w =
    let n = c.item_len.ensures front back it w in
    here entries-count (c.loop-e.invariant front back it w) (omega arith)

pub key_len-len-requires : goal.key_len-len-requires
key_len-len-requires c = c.requires.1

pub item_len-requires : goal.item_len-requires
item_len-requires c = c.requires.0

pub overflow_add-end : goal.overflow_add-end
overflow_add-end c =
    let w = c.requires.0 in
    let f = fields w.stands in
    let n = c.item_len.ensures w.front w.back w.item w.stands in
    omega arith

pub overflow_add-e : goal.overflow_add-e
overflow_add-e c =
    let w = c.requires.0 in
    let f = fields w.stands in
    omega arith

pub read_u32-requires : goal.read_u32-requires
read_u32-requires c =
    let w = c.requires.0 in
    let f = fields w.stands in
    omega arith

pub overflow_add-e-2 : goal.overflow_add-e-2
overflow_add-e-2 c =
    let w = c.requires.0 in
    let f = fields w.stands in
    omega arith

pub loop-e-init : goal.loop-e-init
loop-e-init c front back it w =
    let a = c.args in
    let f = fields w in
    begun entries-count (omega arith) (ap (λ (n : ℕ). entry_from n (key_bytes a.source.now a.command) it.entries) (omega arith))

pub has_command-requires : goal.has_command-requires
has_command-requires c =
    let w = c.requires.0 in (
      there-entry w.stands
          (look (goal.at.has_command-requires c).In-loop-e _ _ _ w.stands),
      c.requires.1,
      c.key_len-len.ensures,
    )

pub returns-then-has_command : goal.returns-then-has_command
returns-then-has_command c front back it w =
    let t = look (goal.at.returns-then-has_command c).In-loop-e _ _ _ w in
    let q = c.has_command.ensures t.thing (stands-entry w t) in
    sym (t.left ∙ entry_here _ _ t.thing t.back (sym q ∙ c.if-has_command.true))

pub entry_len-e-requires : goal.entry_len-e-requires
entry_len-e-requires c =
    let w = c.requires.0 in
    there-entry w.stands (look (goal.at.entry_len-e-requires c).In-loop-e _ _ _ w.stands)

pub overflow_add-e-in-loop-e : goal.overflow_add-e-in-loop-e
overflow_add-e-in-loop-e c =
    let w = c.requires.0 in
    let t = look (goal.at.overflow_add-e-in-loop-e c).In-loop-e _ _ _ w.stands in
    let f = entry-fields (stands-entry w.stands t) in
    let n = c.entry_len-e.ensures t.thing (stands-entry w.stands t) in
    omega arith

pub loop-e-smaller : goal.loop-e-smaller
loop-e-smaller c =
    let w = c.requires.0 in
    let t = look (goal.at.loop-e-smaller c).In-loop-e _ _ _ w.stands in
    let n = c.entry_len-e.ensures t.thing (stands-entry w.stands t) in
    omega arith

pub loop-e-preserved : goal.loop-e-preserved
unfolding entry_bytes
loop-e-preserved c front back it w =
    let a = c.args in
    let k : Bytes = key_bytes a.source.now a.command in
    let t = look (goal.at.loop-e-preserved c).In-loop-e _ _ _ w in
    let n = c.entry_len-e.ensures t.thing (stands-entry w t) in
    let q = c.has_command.ensures t.thing (stands-entry w t) in
    passed entries-count t _ (omega arith)
    (t.left ∙ entry_next _ _ t.thing t.back (sym q ∙ c.if-has_command.false) ∙ ap (λ (i : ℕ). entry_from i k t.back) (omega arith))

pub returns : goal.returns
unfolding entry_from
returns c front back it w =
    let n = c.item_len.ensures front back it w in
    sym (finished entries-count (c.loop-e.invariant front back it w) (omega arith))
