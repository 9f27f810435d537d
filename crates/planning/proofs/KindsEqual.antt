-- That `==` finds a served value's kind, and no other. Assumes nothing.
use Rattle.std.specs.Prelude.{◌≡◌, refl, true, Result, Ok, Err}
use Rattle.std.proofs.Common.{ap}
use Rattle.std.proofs.lemmas.Bool.{false≢true}
use Rattle.std.specs.Result.{result_eq}
use Rattle.planning.specs.contracts.NodeKindPartialEq.TheImpl as kinds
use Rattle.planning.specs.contracts.UnknownKindPartialEq.TheImpl as numbers
use Rattle.planning.specs.declared.NodeKind.{NodeKind}
use Rattle.planning.specs.declared.NodeKind.TheVariants.{HandOn, Served, AllServed, Missing, Several, Waiting, End}
use Rattle.planning.specs.declared.UnknownKind.{UnknownKind}

-- it finds no other
pub served_only : (k : Result NodeKind UnknownKind) → result_eq kinds.eq-value.it numbers.eq-value.it k (Ok Served) ≡ true → k ≡ Ok Served
served_only (Ok HandOn) e = absurd (false≢true e)
served_only (Ok Served) e = refl
served_only (Ok AllServed) e = absurd (false≢true e)
served_only (Ok Missing) e = absurd (false≢true e)
served_only (Ok Several) e = absurd (false≢true e)
served_only (Ok Waiting) e = absurd (false≢true e)
served_only (Ok End) e = absurd (false≢true e)
served_only (Err n) e = absurd (false≢true e)

-- it finds that one
pub served_same : (k : Result NodeKind UnknownKind) → k ≡ Ok Served → result_eq kinds.eq-value.it numbers.eq-value.it k (Ok Served) ≡ true
served_same k q = ap (λ (x : Result NodeKind UnknownKind). result_eq kinds.eq-value.it numbers.eq-value.it x (Ok Served)) q
