-- `bench_exports::bench_all_zero` meets its contract: the part that is tested is the whole. Assumes nothing.
use mathlib.Core.Path.{◌≡◌, ap, ◌∙◌}
use Prim.Native.Nat.{◌-◌}
use native.Mathlib.Omega.{arith}
use lib.ListN.{length}
use borrow.Author.Rules.{rules}
use Rattle.buffer.specs.Part.{part}
use Rattle.buffer.specs.PartLaws.{part-all}
use Rattle.buffer.specs.Same.{Bytes}
use Rattle.buffer.specs.Zero.{all_zero}
use Rattle.bench_exports.proofs.bench_all_zero.Goals as goal

whole : (s : Bytes) → part s 0 (length s - 0) ≡ s
whole s = let n : length s - 0 ≡ length s = omega arith in rw n (part-all s)

pub returns : goal.returns
returns c = c.all_zero.ensures ∙ ap all_zero (whole _)
