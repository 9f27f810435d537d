-- `peek_in` meets its contract: the cases of a lookup, read. Assumes nothing.
use mathlib.Core.Path.{refl, sym, ◌∙◌, subst}
use Prim.Native.Nat.{◌+◌, ◌^◌, ◌<◌}
use native.Mathlib.Omega.{arith}
use lib.ListN.{length}
use Rattle.book.specs.Book.{Row}
use Rattle.shard_lookup.specs.declared.Reading.{Reading}
use Rattle.shard_lookup.specs.Looked.{Reads}
use Rattle.command_key.specs.Key.{key_bytes}
use Rattle.shard.proofs.Fields.{fields, pieces}
use Rattle.shard.specs.Holds.{Holds}
use Rattle.shard.proofs.Items.{KeyAt, key-at, item-at, no_item}
use Rattle.shard_lookup.proofs.Lookups.{finds-none, finds-stale, finds-bare, finds-value, tells-miss, tells-hit}
use Rattle.shard_lookup.proofs.peek_in.Goals.{In-Some, In-Value}
use Rattle.shard_lookup.proofs.peek_in.Goals as goal

-- the key's item
key : (c : In-Some) (row : Row)
    → let a = c.args in
    Holds a.s.now row → KeyAt a.s.now a.key.now row c.in-Some.at
key c row h = key-at h (sym (c.find.ensures row h) ∙ c.in-Some.is)

-- the value lies within the bytes
value-ends : (c : In-Value)
    → c.in-Some.at + (c.in-Value.skip + c.in-Value.len) < 256 ^ 4
value-ends c =
    let a = c.args in
    let h = c.requires.0.holds in
    let g = key-at h (sym (c.find.ensures _ h) ∙ c.in-Some.is) in
    let v = subst (λ (r : Reading). Reads a.when.clock a.when.epoch (key_bytes a.source.now a.command) g.item r) c.in-Value.is
    (c.read_item.ensures g.place.front g.place.back g.item g.stands) in
    let m = v.1 in
    let f = fields g.stands in
    omega arith

pub returns-in_default : goal.returns-in_default
returns-in_default c row h =
    let n = no_item 16 _ row (sym (c.find.ensures row h) ∙ c.in_default.is) in
    tells-miss c.args.s.now _ _ _ _ (finds-none _ _ _ _ row n) refl

pub read_item-requires : goal.read_item-requires
read_item-requires c =
    let h = c.requires.0.holds in
    (item-at (key (goal.at.read_item-requires c).In-Some _ h), c.requires.1)

pub entry_count-requires : goal.entry_count-requires
entry_count-requires c =
    let h = c.requires.0.holds in
    item-at (key (goal.at.entry_count-requires c).In-Some _ h)

pub overflow_add-result : goal.overflow_add-result
overflow_add-result c = let e = value-ends (goal.at.overflow_add-result c).In-Value in omega arith

pub overflow_add-result-in-Value : goal.overflow_add-result-in-Value
overflow_add-result-in-Value c = let e = value-ends (goal.at.overflow_add-result-in-Value c).In-Value in omega arith

pub overflow_add-result-in-Value-2 : goal.overflow_add-result-in-Value-2
overflow_add-result-in-Value-2 c = let e = value-ends (goal.at.overflow_add-result-in-Value-2 c).In-Value in omega arith

pub returns-in-Stale : goal.returns-in-Stale
returns-in-Stale c row h =
    let g = key (goal.at.returns-in-Stale c).In-Some _ h in
    let a = c.args in
    let v = subst (λ (r : Reading). Reads a.when.clock a.when.epoch (key_bytes a.source.now a.command) g.item r)
    c.in-Stale.is
    (c.read_item.ensures g.place.front g.place.back g.item g.stands) in
    let n = c.entry_count.ensures g.place.front g.place.back g.item g.stands in
    tells-miss a.s.now _ _ _ _ (finds-stale _ _ _ _ row g.item g.is v) n

pub returns-in-Bare : goal.returns-in-Bare
returns-in-Bare c row h =
    let g = key (goal.at.returns-in-Bare c).In-Some _ h in
    let a = c.args in
    let v = subst (λ (r : Reading). Reads a.when.clock a.when.epoch (key_bytes a.source.now a.command) g.item r) c.in-Bare.is
    (c.read_item.ensures g.place.front g.place.back g.item g.stands) in
    tells-miss a.s.now _ _ _ _ (finds-bare _ _ _ _ row g.item g.is v.0 v.1) refl

pub returns-in-Value : goal.returns-in-Value
returns-in-Value c row h =
    let g = key (goal.at.returns-in-Value c).In-Some _ h in
    let a = c.args in
    let v = subst (λ (r : Reading). Reads a.when.clock a.when.epoch (key_bytes a.source.now a.command) g.item r) c.in-Value.is
    (c.read_item.ensures g.place.front g.place.back g.item g.stands) in
    let p = pieces (length a.s.now) g.place.front g.place.back g.item g.stands.holds.is g.stands.place in
    tells-hit p _ _ _ _ _ _ v.1 (finds-value _ _ _ _ row g.item g.is _ v.0 v.2) refl refl
