-- `read_item` meets its contract: the tests of rule B5 in their order, then the command key's entry. Assumes nothing.
use mathlib.Core.Path.{sym, ◌∙◌}
use native.Mathlib.Omega.{arith}
use Rattle.command_key.specs.Key.{key_bytes}
use Rattle.shard_lookup.proofs.Entries.{ValueAt, value-at, no_value}
use Rattle.shard_lookup.proofs.Lookups.{other-epoch, past-expiry, in-time}
use Rattle.shard_lookup.proofs.read_item.Goals.{In-Some}
use Rattle.shard_lookup.proofs.read_item.Goals as goal

-- the command key's entry
entry : (c : In-Some)
    → let a = c.args in
    ValueAt a.s.now a.at c.requires.0.item
    (key_bytes a.source.now a.command) c.in-Some.e
entry c =
    let w = c.requires.0.stands in
    value-at w (sym (c.find_entry.ensures _ _ _ w) ∙ c.in-Some.is)

pub epoch_of-requires : goal.epoch_of-requires
epoch_of-requires c = c.requires.0

pub returns-then-when-epoch_of : goal.returns-then-when-epoch_of
returns-then-when-epoch_of c front back it w =
    let n = c.epoch_of.ensures front back it w in
    other-epoch _ _ it (λ q. c.if-when-epoch_of.true (q ∙ sym n))

pub expiry_of-requires : goal.expiry_of-requires
expiry_of-requires c = c.requires.0

pub returns-then-expiry_of-when : goal.returns-then-expiry_of-when
returns-then-expiry_of-when c front back it w =
    let n = c.epoch_of.ensures front back it w in
    let x = c.expiry_of.ensures front back it w in
    past-expiry _ _ it (omega arith) (omega arith)

pub find_entry-requires : goal.find_entry-requires
find_entry-requires c = c.requires

pub overflow_sub-skip : goal.overflow_sub-skip
overflow_sub-skip c = let y = entry (goal.at.overflow_sub-skip c).In-Some in omega arith

pub overflow_add-skip : goal.overflow_add-skip
overflow_add-skip c = let y = entry (goal.at.overflow_add-skip c).In-Some in omega arith

pub read_u32-requires : goal.read_u32-requires
read_u32-requires c = let y = entry (goal.at.read_u32-requires c).In-Some in omega arith

pub overflow_cast-skip : goal.overflow_cast-skip
overflow_cast-skip c = let y = entry (goal.at.overflow_cast-skip c).In-Some in omega arith

pub overflow_add-skip-in-Some : goal.overflow_add-skip-in-Some
overflow_add-skip-in-Some c = let y = entry (goal.at.overflow_add-skip-in-Some c).In-Some in omega arith

pub overflow_add-e : goal.overflow_add-e
overflow_add-e c = let y = entry (goal.at.overflow_add-e c).In-Some in omega arith

pub read_u32-len-requires : goal.read_u32-len-requires
read_u32-len-requires c = let y = entry (goal.at.read_u32-len-requires c).In-Some in omega arith

pub returns-in-Some : goal.returns-in-Some
returns-in-Some c front back it w =
    let n = c.epoch_of.ensures front back it w in
    let x = c.expiry_of.ensures front back it w in
    let y = value-at w (sym (c.find_entry.ensures front back it w) ∙ c.in-Some.is) in
    let f = y.fields in
    y.reads _ _ _ _ (in-time _ _ it (omega arith) (omega arith)) (omega arith) (omega arith)

pub returns-in-None : goal.returns-in-None
returns-in-None c front back it w =
    let n = c.epoch_of.ensures front back it w in
    let x = c.expiry_of.ensures front back it w in (
      in-time _ _ it (omega arith) (omega arith),
      no_value _ _ it.entries
          (sym (c.find_entry.ensures front back it w) ∙ c.in-None.is),
    )
