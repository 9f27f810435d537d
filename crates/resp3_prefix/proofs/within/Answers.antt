-- `resp3_prefix::within` meets its contract. Assumes nothing.
use Rattle.std.specs.Prelude.{ℕ, Result, Err}
use mathlib.Core.Path.{◌≡◌, sym, ap, ◌∙◌}
use Rattle.resp3_prefix.specs.declared.NotWhole.{NotWhole}
use Rattle.resp3_prefix.specs.declared.NotWhole.TheVariants.{Lacks}
use Rattle.resp3_prefix.specs.Begun.{within}
use Rattle.resp3_prefix.specs.Paths as paths
use Rattle.resp3_prefix.proofs.within.Goals as goal

-- what the two arms say
lacks-is : (x : Result ℕ NotWhole) (why : NotWhole) (k : ℕ) → x ≡ Err why → why ≡ Lacks k → x ≡ Err (Lacks k)
lacks-is x why k e f = e ∙ ap Err f

pub returns-then-k-gt-MAX_BYTES : goal.returns-then-k-gt-MAX_BYTES
returns-then-k-gt-MAX_BYTES c = sym (ap (within _) (lacks-is _ _ _ c.in-Err.is c.in-Lacks.is) ∙ paths.within-far _ _ c.if-k-gt-MAX_BYTES.true)

pub returns-then-n-k : goal.returns-then-n-k
returns-then-n-k c =
    ap Err c.in-Lacks.is ∙ sym (ap (within _) (lacks-is _ _ _ c.in-Err.is c.in-Lacks.is) ∙ paths.within-yes _ _ c.if-k-gt-MAX_BYTES.false c.if-n-k.true)

pub returns-else-n-k : goal.returns-else-n-k
returns-else-n-k c = sym (ap (within _) (lacks-is _ _ _ c.in-Err.is c.in-Lacks.is) ∙ paths.within-no _ _ c.if-k-gt-MAX_BYTES.false c.if-n-k.false)
