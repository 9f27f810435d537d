-- `store_entry` meets its contract: the sizes after the store are worked out from what is read (`sizes`). Assumes nothing.
use native.Mathlib.Omega.{arith}
use mathlib.Core.List.{◌∷◌, ◌++◌}
use Rattle.shard.proofs.Fields.{used-read}
use Rattle.shard_store.proofs.Judging.{refused, kept}
use Rattle.shard_store.proofs.Updates.{ranged, sizes}
use borrow.Author.Rules.{rules}
use Rattle.shard_store.proofs.store_entry.Goals as goal

pub overflow_sub-used-2 : goal.overflow_sub-used-2
overflow_sub-used-2 c =
    let a = c.args in
    let z = sizes c.requires.0.replaces a.command.now a.value.now a.expiry in
    omega arith

pub overflow_sub-s-2 : goal.overflow_sub-s-2
overflow_sub-s-2 c =
    let a = c.args in
    let z = sizes c.requires.0.replaces a.command.now a.value.now a.expiry in
    omega arith

pub returns-then-s-used : goal.returns-then-s-used
returns-then-s-used c front back it ef em eb w =
    let a = c.args in
    let z = sizes w a.command.now a.value.now a.expiry in
    refused a.s.now _ (front ++ (it ∷ back)) w.stands.holds.is (omega arith)

pub read_u32-requires-2 : goal.read_u32-requires-2
read_u32-requires-2 c =
    let a = c.args in
    let z = sizes c.requires.0.replaces a.command.now a.value.now a.expiry in
    omega arith

pub overflow_add-count : goal.overflow_add-count
overflow_add-count c =
    let a = c.args in
    let z = sizes c.requires.0.replaces a.command.now a.value.now a.expiry in
    omega arith

pub read_u32-requires-3 : goal.read_u32-requires-3
read_u32-requires-3 c =
    let a = c.args in
    let z = sizes c.requires.0.replaces a.command.now a.value.now a.expiry in
    omega arith

pub overflow_sub-bytes-2 : goal.overflow_sub-bytes-2
overflow_sub-bytes-2 c =
    let a = c.args in
    let z = sizes c.requires.0.replaces a.command.now a.value.now
    a.expiry in
    omega arith

pub overflow_cast-fields : goal.overflow_cast-fields
overflow_cast-fields c =
    let a = c.args in
    let z = sizes c.requires.0.replaces a.command.now a.value.now
    a.expiry in
    omega arith

pub set_entry-requires : goal.set_entry-requires
set_entry-requires c =
    let a = c.args in
    let z = sizes c.requires.0.replaces a.command.now
    a.value.now a.expiry in
    (record { ordered = omega arith; inside = omega arith; ends = omega arith; room = omega arith; short = omega arith }, omega arith)

pub returns : goal.returns
returns c front back it ef em eb w =
    let a = c.args in
    let z = sizes w a.command.now a.value.now a.expiry in
    let u = used-read w.stands.holds in
    let p =
    c.set_entry.ensures front back it.key it.epoch it.expiry ef em eb (ranged w _ (omega arith))
    (record { count = omega arith; bytes = omega arith; used = omega arith }) in
    kept a.s.now _ (front ++ (it ∷ back)) _ p (omega arith)
