-- `decimal::range_of` meets its contract: each line's bounds are powers of ten. Assumes nothing.
use mathlib.Core.Path.{◌≡◌}
use native.Mathlib.Omega.{arith}
use Rattle.decimal.specs.Ranges.{one-digit, more-digits, twenty-digits}
use Rattle.decimal.proofs.Arms.{above}
use Rattle.decimal.proofs.range_of.Goals as goal

pub returns-in-1 : goal.returns-in-1
returns-in-1 c = rw c.in-1.is one-digit

pub returns-in-2 : goal.returns-in-2
returns-in-2 c = rw c.in-2.is (more-digits 0 _ _ (omega arith) (omega arith))

pub returns-in-3 : goal.returns-in-3
returns-in-3 c = rw c.in-3.is (more-digits 1 _ _ (omega arith) (omega arith))

pub returns-in-4 : goal.returns-in-4
returns-in-4 c = rw c.in-4.is (more-digits 2 _ _ (omega arith) (omega arith))

pub returns-in-5 : goal.returns-in-5
returns-in-5 c = rw c.in-5.is (more-digits 3 _ _ (omega arith) (omega arith))

pub returns-in-6 : goal.returns-in-6
returns-in-6 c = rw c.in-6.is (more-digits 4 _ _ (omega arith) (omega arith))

pub returns-in-7 : goal.returns-in-7
returns-in-7 c = rw c.in-7.is (more-digits 5 _ _ (omega arith) (omega arith))

pub returns-in-8 : goal.returns-in-8
returns-in-8 c = rw c.in-8.is (more-digits 6 _ _ (omega arith) (omega arith))

pub returns-in-9 : goal.returns-in-9
returns-in-9 c = rw c.in-9.is (more-digits 7 _ _ (omega arith) (omega arith))

pub returns-in-10 : goal.returns-in-10
returns-in-10 c = rw c.in-10.is (more-digits 8 _ _ (omega arith) (omega arith))

pub returns-in-11 : goal.returns-in-11
returns-in-11 c = rw c.in-11.is (more-digits 9 _ _ (omega arith) (omega arith))

pub returns-in-12 : goal.returns-in-12
returns-in-12 c = rw c.in-12.is (more-digits 10 _ _ (omega arith) (omega arith))

pub returns-in-13 : goal.returns-in-13
returns-in-13 c = rw c.in-13.is (more-digits 11 _ _ (omega arith) (omega arith))

pub returns-in-14 : goal.returns-in-14
returns-in-14 c = rw c.in-14.is (more-digits 12 _ _ (omega arith) (omega arith))

pub returns-in-15 : goal.returns-in-15
returns-in-15 c = rw c.in-15.is (more-digits 13 _ _ (omega arith) (omega arith))

pub returns-in-16 : goal.returns-in-16
returns-in-16 c = rw c.in-16.is (more-digits 14 _ _ (omega arith) (omega arith))

pub returns-in-17 : goal.returns-in-17
returns-in-17 c = rw c.in-17.is (more-digits 15 _ _ (omega arith) (omega arith))

pub returns-in-18 : goal.returns-in-18
returns-in-18 c = rw c.in-18.is (more-digits 16 _ _ (omega arith) (omega arith))

pub returns-in-19 : goal.returns-in-19
returns-in-19 c = rw c.in-19.is (more-digits 17 _ _ (omega arith) (omega arith))

pub returns-in_default : goal.returns-in_default
returns-in_default c =
    let a = above 19 c.args.n (omega arith) c.in_default.in_default-own.rest in
    let e : c.args.n ≡ 20 = omega arith in
    rw e twenty-digits
