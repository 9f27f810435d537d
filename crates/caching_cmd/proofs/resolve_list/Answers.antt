-- `caching_cmd::resolve_list` meets its contract. Assumes nothing.
use Rattle.caching_cmd.specs.Laws as law
use Rattle.caching_cmd.proofs.Listed as listed
use lib.ListN.{length}
use Rattle.caching_cmd.proofs.resolve_list.Goals as goal

pub is_transaction-transaction-requires : goal.is_transaction-transaction-requires
is_transaction-transaction-requires c = (law.plan-read _ c.requires.1).long

pub command_count-n-requires : goal.command_count-n-requires
command_count-n-requires c = (law.plan-read _ c.requires.1).long

pub dry_pass-found-requires : goal.dry_pass-found-requires
dry_pass-found-requires c =
    let pre = c.requires in
    listed.begins _ _ _ _ c.start_at-start.ensures pre.1 pre.2

pub store_found-refused-requires : goal.store_found-refused-requires
store_found-refused-requires c =
    let pre = c.requires in
    (pre.0, listed.begins _ _ _ _ c.start_at-start.ensures pre.1 pre.2)

pub write_result-requires : goal.write_result-requires
write_result-requires c =
    let x = c.args in
    let pre = c.requires in
    let b = listed.begins _ _ _ _ c.start_at-start.ensures pre.1 pre.2 in
    let q = listed.room-left (length x.answer.now) _ _ _ c.spend-room.ensures c.head_len.ensures in
    let f = listed.fine-all _ _ _ x.g.mode x.when.clock _ _ _ _ q c.dry_pass-found.ensures c.in-Fits.is in
    (b, listed.head-fits _ _ _ x.g.mode x.when.clock _ _ b f, f)

pub returns-in-Wrong : goal.returns-in-Wrong
returns-in-Wrong c =
    let x = c.args in
    let pre = c.requires in
    λ v rs e t.
    listed.list-wrong x.g x.when.epoch x.plan.now x.list.now x.first _ x.when.clock x.answer.now pre.1
    c.start_at-start.ensures pre.2.small v rs e t _ _ _ _
    c.is_transaction-transaction.ensures c.command_count-n.ensures
    (listed.room-left (length x.answer.now) _ _ _ c.spend-room.ensures c.head_len.ensures)
    c.dry_pass-found.ensures _ _ _ c.store_found-refused.ensures _ _
    c.in-Wrong.is c.refuse_shape.ensures

pub returns-in-Short : goal.returns-in-Short
returns-in-Short c =
    let x = c.args in
    let pre = c.requires in
    λ v rs e t.
    listed.list-short x.g x.when.epoch x.plan.now x.list.now x.first _ x.when.clock x.answer.now pre.1
    c.start_at-start.ensures pre.2.small v rs e t _ _ _ _
    c.is_transaction-transaction.ensures c.command_count-n.ensures
    (listed.room-left (length x.answer.now) _ _ _ c.spend-room.ensures c.head_len.ensures)
    c.dry_pass-found.ensures _ _ _ c.store_found-refused.ensures c.in-Short.is

pub returns-in-Fits : goal.returns-in-Fits
returns-in-Fits c =
    let x = c.args in
    let pre = c.requires in
    λ v rs e t.
    listed.list-fits x.g x.when.epoch x.plan.now x.list.now x.first _ x.when.clock x.answer.now pre.1
    c.start_at-start.ensures pre.2.small v rs e t _ _ _ _
    c.is_transaction-transaction.ensures c.command_count-n.ensures
    (listed.room-left (length x.answer.now) _ _ _ c.spend-room.ensures c.head_len.ensures)
    c.dry_pass-found.ensures _ _ _ c.store_found-refused.ensures _ _
    c.in-Fits.is c.write_result.ensures
