-- `lookup_in` meets its contract: the cases of a lookup, and what each makes of the shard. Assumes nothing.
use mathlib.Core.Path.{refl, sym, ap, ◌∙◌, subst}
use Prim.Native.Nat.{◌+◌, ◌^◌, ◌<◌}
use native.Mathlib.Omega.{arith}
use lib.ListN.{length}
use mathlib.Core.List.{[], ◌∷◌, ◌++◌}
use Rattle.book.specs.Book.{Row, row_bytes}
use Rattle.shard_lookup.specs.declared.Reading.{Reading}
use Rattle.shard_lookup.specs.Looked.{Reads}
use Rattle.command_key.specs.Key.{key_bytes}
use Rattle.shard.proofs.Fields.{fields, pieces}
use Rattle.shard.specs.Holds.{Holds}
use Rattle.shard.proofs.Items.{KeyAt, key-at, item-at, no_item}
use Rattle.shard_lookup.proofs.Lookups.{finds-none, finds-stale, finds-bare, finds-value, leaves, tells-miss, tells-hit, begins-first}
use Rattle.shard_lookup.proofs.lookup_in.Goals.{In-Some, In-Value}
use Rattle.shard_lookup.proofs.lookup_in.Goals as goal

-- the key's item
key : (c : In-Some) (row : Row)
    → let a = c.args in
    Holds a.s.now row → KeyAt a.s.now a.key.now row c.in-Some.at
key c row h = key-at h (sym (c.find.ensures row h) ∙ c.in-Some.is)

-- the value lies within the bytes
value-ends : (c : In-Value)
    → c.in-Some.at + (c.in-Value.skip + c.in-Value.len) < 256 ^ 4
value-ends c =
    let a = c.args in
    let h = c.requires.0.holds in
    let g = key-at h (sym (c.find.ensures _ h) ∙ c.in-Some.is) in
    let v = subst (λ (r : Reading). Reads a.when.clock a.when.epoch (key_bytes a.source.now a.command) g.item r) c.in-Value.is
    (c.read_item.ensures g.place.front g.place.back g.item g.stands) in
    let m = v.1 in
    let f = fields g.stands in
    omega arith

pub returns-in_default : goal.returns-in_default
returns-in_default c row h =
    let n = no_item 16 _ row (sym (c.find.ensures row h) ∙ c.in_default.is) in
    let f = finds-none _ _ _ _ row n in
    let s = c.args.s.now in
    (leaves (length s) s _ _ row h.is refl f, tells-miss s _ _ _ _ f refl, tt)

pub read_item-requires : goal.read_item-requires
read_item-requires c =
    let h = c.requires.0.holds in
    (item-at (key (goal.at.read_item-requires c).In-Some _ h), c.requires.1)

pub entry_count-n-requires : goal.entry_count-n-requires
entry_count-n-requires c =
    let h = c.requires.0.holds in
    item-at (key (goal.at.entry_count-n-requires c).In-Some _ h)

pub remove-requires : goal.remove-requires
remove-requires c =
    let h = c.requires.0.holds in
    item-at (key (goal.at.remove-requires c).In-Some _ h)

pub touch-requires : goal.touch-requires
touch-requires c =
    let h = c.requires.0.holds in
    item-at (key (goal.at.touch-requires c).In-Some _ h)

pub touch-requires-in-Value : goal.touch-requires-in-Value
touch-requires-in-Value c =
    let h = c.requires.0.holds in
    item-at (key (goal.at.touch-requires-in-Value c).In-Some _ h)

pub overflow_add-result : goal.overflow_add-result
overflow_add-result c = let e = value-ends (goal.at.overflow_add-result c).In-Value in omega arith

pub overflow_add-result-in-Value : goal.overflow_add-result-in-Value
overflow_add-result-in-Value c = let e = value-ends (goal.at.overflow_add-result-in-Value c).In-Value in omega arith

pub overflow_add-result-in-Value-2 : goal.overflow_add-result-in-Value-2
overflow_add-result-in-Value-2 c = let e = value-ends (goal.at.overflow_add-result-in-Value-2 c).In-Value in omega arith

pub returns-in-Stale : goal.returns-in-Stale
returns-in-Stale c row h =
    let g = key (goal.at.returns-in-Stale c).In-Some _ h in
    let a = c.args in
    let v = subst (λ (r : Reading). Reads a.when.clock a.when.epoch (key_bytes a.source.now a.command) g.item r)
    c.in-Stale.is
    (c.read_item.ensures g.place.front g.place.back g.item g.stands) in
    let f = finds-stale _ _ _ _ row g.item g.is v in
    let n = c.entry_count-n.ensures g.place.front g.place.back g.item g.stands in (
      leaves (length a.s.now) _ _ _ _ (c.remove.ensures g.place.front g.place.back g.item g.stands)
          (sym g.place.gone) f,
      tells-miss a.s.now _ _ _ _ f n,
      tt,
    )

pub returns-in-Bare : goal.returns-in-Bare
returns-in-Bare c row h =
    let g = key (goal.at.returns-in-Bare c).In-Some _ h in
    let a = c.args in
    let v = subst (λ (r : Reading). Reads a.when.clock a.when.epoch (key_bytes a.source.now a.command) g.item r)
    c.in-Bare.is
    (c.read_item.ensures g.place.front g.place.back g.item g.stands) in
    let f = finds-bare _ _ _ _ row g.item g.is v.0 v.1 in
    let moved = ap (λ (z : Row). g.item ∷ z) (sym g.place.gone) in (
      leaves (length a.s.now) _ _ _ _ (c.touch.ensures g.place.front g.place.back g.item g.stands) moved f,
      tells-miss a.s.now _ _ _ _ f refl,
      tt,
    )

pub returns-in-Value : goal.returns-in-Value
unfolding row_bytes
returns-in-Value c row h =
    let g = key (goal.at.returns-in-Value c).In-Some _ h in
    let a = c.args in
    let v = subst (λ (r : Reading). Reads a.when.clock a.when.epoch (key_bytes a.source.now a.command) g.item r)
    c.in-Value.is
    (c.read_item.ensures g.place.front g.place.back g.item g.stands) in
    let f = finds-value _ _ _ _ row g.item g.is _ v.0 v.2 in
    let t = c.touch-in-Value.ensures g.place.front g.place.back g.item g.stands in
    let moved = ap (λ (z : Row). g.item ∷ z) (sym g.place.gone) in
    let p = pieces _ [] (g.place.front ++ g.place.back) g.item t refl in (
      leaves (length a.s.now) _ _ _ _ t moved f,
      tells-hit p _ _ _ _ _ _ v.1 f refl refl,
      begins-first a.key.now _ _ _ row _ _ _ _ g.is f v.3 refl,
    )
