-- `store_front` meets its contract: the space after is the new item's more (`front-space`). Assumes nothing.
use native.Mathlib.Omega.{arith}
use Rattle.shard.proofs.Fields.{count-read, used-read}
use Rattle.arena.proofs.Image.{items-few}
use Rattle.shard_store.proofs.Judging.{refused, kept, front-space}
use borrow.Author.Rules.{rules}
use Rattle.shard_store.proofs.store_front.Goals as goal

pub overflow_sub-s : goal.overflow_sub-s
overflow_sub-s c = let h = c.requires.0.holds in let u = used-read h in let r = h.room in omega arith

pub returns-then-s-end : goal.returns-then-s-end
returns-then-s-end c row h =
    let a = c.args in
    let u = used-read h in
    let r = h.room in
    let f = front-space a.key.now a.command.now a.value.now a.expiry a.epoch row in
    refused a.s.now _ row h.is (omega arith)

pub overflow_add-count : goal.overflow_add-count
overflow_add-count c =
    let w = c.requires.0 in
    let h = w.holds in
    let n = count-read h in
    let m = items-few w.row in
    let r = h.room in
    let l = h.short in
    omega arith

pub returns : goal.returns
returns c row h =
    let a = c.args in
    let n = count-read h in
    let u = used-read h in
    let r = h.room in
    let f = front-space a.key.now a.command.now a.value.now a.expiry a.epoch row in
    let p = c.push_front.ensures row (record { is = h.is; ends = omega arith; items = omega arith; bytes = omega arith }) in
    kept a.s.now _ row _ p (omega arith)
