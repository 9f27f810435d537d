-- The kinds of a plan's nodes and their numbers, those of Plan.antt. Assumes nothing.
use Rattle.std.specs.Prelude.{◌≡◌, refl, Bool, ℕ, cond, eqb, Result, Ok, Err}
use Rattle.std.proofs.Common.{ap, ◌∙◌, arith}
use borrow.Author.Tests.{eqb-true}
use Rattle.buffer.specs.Cases.{by_test}
use Rattle.planning.specs.Plan.{hand_on_kind, served_kind, all_served_kind, missing_kind, several_kind, waiting_kind, end_kind}
use Rattle.planning.specs.declared.NodeKind.{NodeKind}
use Rattle.planning.specs.declared.NodeKind.TheVariants.{HandOn, Served, AllServed, Missing, Several, Waiting, End}
use Rattle.planning.specs.declared.UnknownKind.{UnknownKind}
use Rattle.planning.specs.contracts.NodeKindPartialEq.TheImpl as kinds

-- a kind's number
abbrev pub number_of_kind : NodeKind → ℕ
number_of_kind HandOn = hand_on_kind
number_of_kind Served = served_kind
number_of_kind AllServed = all_served_kind
number_of_kind Missing = missing_kind
number_of_kind Several = several_kind
number_of_kind Waiting = waiting_kind
number_of_kind End = end_kind

-- the kind of a number; or the number, if it is none's
unfoldable pub kind_of_number : ℕ → Result NodeKind UnknownKind
kind_of_number n =
    cond (eqb n hand_on_kind) (Ok HandOn)
    (cond (eqb n served_kind) (Ok Served)
    (cond (eqb n all_served_kind) (Ok AllServed)
    (cond (eqb n missing_kind) (Ok Missing)
    (cond (eqb n several_kind) (Ok Several)
    (cond (eqb n waiting_kind) (Ok Waiting)
    (cond (eqb n end_kind) (Ok End) (Err (record { number = n }))))))))

-- whether two kinds are the same, as `==` finds it
abbrev pub same_kind : NodeKind → NodeKind → Bool
same_kind j k = kinds.eq-value.it j k

-- a kind is found by its number
pub kind_found : (k : NodeKind) → kind_of_number (number_of_kind k) ≡ Ok k
unfolding kind_of_number
kind_found HandOn = refl
kind_found Served = refl
kind_found AllServed = refl
kind_found Missing = refl
kind_found Several = refl
kind_found Waiting = refl
kind_found End = refl

-- and by no other number
one_kind : (n m : ℕ) (k j : NodeKind) (r : Result NodeKind UnknownKind) → m ≡ number_of_kind j → cond (eqb n m) (Ok j) r ≡ Ok k
    → (r ≡ Ok k → n ≡ number_of_kind k) → n ≡ number_of_kind k
one_kind n m k j r z e f =
    by_test (eqb n m)
    (λ t. let y : Ok j ≡ Ok k = rw t at e in let x : j ≡ k = cc in eqb-true n m t ∙ z ∙ ap number_of_kind x)
    (λ t. f (rw t at e))

pub kind_is : (n : ℕ) (k : NodeKind) → kind_of_number n ≡ Ok k → n ≡ number_of_kind k
unfolding kind_of_number
kind_is n k e =
    one_kind n hand_on_kind k HandOn _ refl e
    (λ e₁. one_kind n served_kind k Served _ refl e₁
    (λ e₂. one_kind n all_served_kind k AllServed _ refl e₂
    (λ e₃. one_kind n missing_kind k Missing _ refl e₃
    (λ e₄. one_kind n several_kind k Several _ refl e₄
    (λ e₅. one_kind n waiting_kind k Waiting _ refl e₅
    (λ e₆. one_kind n end_kind k End _ refl e₆
    (λ e₇. absurd (let z : ◌≡◌ {A = ℕ} 0 1 = cc in omega arith))))))))
