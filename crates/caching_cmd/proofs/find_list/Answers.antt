-- `caching_cmd::find_list` meets its contract. Assumes nothing.
use Rattle.caching_cmd.specs.Laws as law
use native.Mathlib.Omega.{arith}
use Rattle.buffer.specs.Part.{part}
use Rattle.caching_cmd.proofs.find_list.Goals as goal

pub returns-in_default : goal.returns-in_default
returns-in_default c =
    λ v m. law.find-no _ v m c.args.transaction
    (law.array-as _ _ _ c.in_default.is c.array.ensures.value)

pub returns-then-not-transaction : goal.returns-then-not-transaction
returns-then-not-transaction c =
    λ v m. law.find-plain _ v m c.args.transaction _ c.if-not-transaction.true
    (law.array-as _ _ _ c.in-Some.is c.array.ensures.value)

pub returns-then-first-ne1 : goal.returns-then-first-ne1
returns-then-first-ne1 c =
    λ v m. law.find-many _ v m c.args.transaction _
    c.if-not-transaction.false
    (law.array-as _ _ _ c.in-Some.is c.array.ensures.value)
    c.if-first-ne1.true

pub slice_bounds-array-count : goal.slice_bounds-array-count
slice_bounds-array-count c =
    (law.first-inside _ _ c.requires
    (law.array-as _ _ _ c.in-Some.is c.array.ensures.value)).order

pub slice_bounds-array-start : goal.slice_bounds-array-start
slice_bounds-array-start c =
    let i = law.first-inside _ _ c.requires
    (law.array-as _ _ _ c.in-Some.is c.array.ensures.value) in
    omega (arith, i.order)

pub slice_bounds-array-end : goal.slice_bounds-array-end
slice_bounds-array-end c =
    let i = law.first-inside _ _ c.requires
    (law.array-as _ _ _ c.in-Some.is c.array.ensures.value) in
    omega (arith, i.within)

pub returns-in_default-array : goal.returns-in_default-array
unfolding part
returns-in_default-array c =
    λ v m. law.find-inner-no _ v m c.args.transaction _
    c.if-not-transaction.false
    (law.array-as _ _ _ c.in-Some.is
    c.array.ensures.value) c.if-first-ne1.false
    (law.array-as _ _ _ c.in_default-array.is c.array-2.ensures.value)

pub returns : goal.returns
unfolding part
returns c =
    λ v m. law.find-inner _ v m
    c.args.transaction _ _
    c.if-not-transaction.false
    (law.array-as _ _ _ c.in-Some.is
    c.array.ensures.value)
    c.if-first-ne1.false (law.array-as _ _ _ c.in-Some-array.is c.array-2.ensures.value)
