-- `caching_cmd::resolve_checked` meets its contract. Assumes nothing.
use Rattle.resp3.proofs.Law.{value-means}
use Rattle.caching_cmd.specs.Laws as law
use Rattle.caching_cmd.proofs.Listed as listed
use Rattle.caching_cmd.specs.Heads as heads
use native.Mathlib.Omega.{arith}
use Rattle.buffer.specs.Part.{part}
use Rattle.resp3.specs.Decode as resp
use Rattle.caching_cmd.proofs.Settle as settle
use Rattle.caching_cmd.proofs.resolve_checked.Goals as goal

pub is_transaction-requires : goal.is_transaction-requires
is_transaction-requires c = (law.plan-read _ c.requires.1).long

pub slice_bounds-resolve_list-count : goal.slice_bounds-resolve_list-count
slice_bounds-resolve_list-count c =
    let x = c.args in
    (law.found-goes _ x.plan.now _ _ _ c.requires.2
    c.is_transaction.ensures c.in-Some.is
    c.find_list.ensures).order

pub slice_bounds-resolve_list-start : goal.slice_bounds-resolve_list-start
slice_bounds-resolve_list-start c =
    let x = c.args in
    let z = law.found-goes _ x.plan.now _ _ _ c.requires.2
    c.is_transaction.ensures c.in-Some.is
    c.find_list.ensures in
    omega (arith, z.order)

pub slice_bounds-resolve_list-end : goal.slice_bounds-resolve_list-end
slice_bounds-resolve_list-end c =
    let x = c.args in
    let z = law.found-goes _ x.plan.now _ _ _ c.requires.2
    c.is_transaction.ensures c.in-Some.is
    c.find_list.ensures in
    omega (arith, z.within)

pub resolve_list-requires : goal.resolve_list-requires
unfolding part
resolve_list-requires c =
    let x = c.args in
    let z = law.found-goes _ x.plan.now _ _ _
    c.requires.2
    c.is_transaction.ensures c.in-Some.is
    c.find_list.ensures in (
      c.requires.0,
      c.requires.1,
      law.goes-listed _ _ _ _ _
          c.requires.2 z,
    )

pub returns-in-None : goal.returns-in-None
returns-in-None c =
    let x = c.args in
    let f = law.found_as _ _ _ _ _ (resp.decode x.replies.now) c.is_transaction.ensures
    c.in-None.is
    (c.find_list.ensures _
    (value-means _ c.requires.2)) in
    settle.settle-none _ _ _ _ _ _ _ (listed.none_found x.plan.now x.replies.now x.g.mode x.when.clock (resp.decode x.replies.now) f)
    (heads.all-zeroed _ _ c.fill_zero.ensures)

pub returns-in-Some : goal.returns-in-Some
unfolding part
returns-in-Some c =
    let x = c.args in
    let z = law.found-goes _ x.plan.now _ _ _
    c.requires.2
    c.is_transaction.ensures
    c.in-Some.is
    c.find_list.ensures in
    c.resolve_list.ensures (resp.decode x.replies.now) z.rs z.some z.stands
