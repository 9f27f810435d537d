-- `store_instead` meets its contract: the space after is the new item's more and the old one's less (`instead-space`). Assumes nothing.
use mathlib.Core.Path.{sym, ap, ◌∙◌}
use Prim.Native.Nat.{ℕ}
use Rattle.book.specs.Book.{new_item}
use Rattle.arena.specs.Layout.{enc_shard}
use native.Mathlib.Omega.{arith}
use mathlib.Core.List.{◌∷◌, ◌++◌}
use lib.ListN.{length}
use Rattle.arena.proofs.Length.{length-shard}
use Rattle.shard.proofs.Fields.{fields, count-read, used-read}
use Rattle.shard_store.proofs.Judging.{refused, kept, front-space, instead-space, same_count}
use borrow.Author.Rules.{rules}
use Rattle.shard_store.proofs.store_instead.Goals as goal

pub overflow_sub-left : goal.overflow_sub-left
overflow_sub-left c =
    let w = c.requires.0 in
    let f = fields w.stands in
    let e = c.item_len.ensures w.front w.back w.item w.stands in
    omega arith

pub overflow_sub-s : goal.overflow_sub-s
overflow_sub-s c =
    let w = c.requires.0 in
    let f = fields w.stands in
    let e = c.item_len.ensures w.front w.back w.item w.stands in
    omega arith

pub returns-then-s-left : goal.returns-then-s-left
returns-then-s-left c front back it w =
    let a = c.args in
    let f = fields w in
    let e = c.item_len.ensures front back it w in
    let u = used-read w.holds in
    let m = instead-space a.key.now a.command.now a.value.now a.expiry a.epoch front back it in
    refused a.s.now _ (front ++ (it ∷ back)) w.holds.is (omega arith)

pub overflow_sub-left-2 : goal.overflow_sub-left-2
overflow_sub-left-2 c =
    let w = c.requires.0 in
    let f = fields w.stands in
    let e = c.item_len.ensures w.front w.back w.item w.stands in
    omega arith

pub push_front-requires : goal.push_front-requires
push_front-requires c =
    let w = c.requires.0 in
    let f = fields w.stands in
    let e = c.item_len.ensures w.front w.back w.item w.stands in
    record { ordered = omega arith; inside = omega arith; ends = omega arith; room = omega arith; short = omega arith }

pub returns : goal.returns
returns c front back it w =
    let a = c.args in
    let f = fields w in
    let e = c.item_len.ensures front back it w in
    let n = count-read w.holds in
    let u = used-read w.holds in
    let m = instead-space a.key.now a.command.now a.value.now a.expiry a.epoch front back it in
    let g = front-space a.key.now a.command.now a.value.now a.expiry a.epoch (front ++ back) in
    let o = same_count front back it in
    let l = length-shard (length a.s.now) (front ++ back) (omega arith) in
    let q = c.remove.ensures front back it w in
    let m₁ = ap length q ∙ l in
    let p = c.push_front.ensures (front ++ back)
    (record { is = q ∙ ap (λ (z : ℕ). enc_shard z (front ++ back)) (sym m₁); ends = omega arith; items = omega arith; bytes = omega arith }) in
    kept a.s.now _ _ _
    (p ∙ ap (λ (z : ℕ). enc_shard z (new_item a.key.now a.command.now a.value.now a.expiry a.epoch ∷ (front ++ back))) m₁) (omega arith)
