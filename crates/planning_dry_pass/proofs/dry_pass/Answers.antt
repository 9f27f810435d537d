-- `planning_dry_pass::dry_pass` meets its contract. Assumes nothing.
use mathlib.Core.Path.{◌≡◌, sym, ap, ◌∙◌}
use Prim.Native.Nat.{◌+◌, ℕ, ◌-◌}
use native.Mathlib.Omega.{arith}
use mathlib.Core.Bool.{Bool, ◌||◌}
use Rattle.std.specs.Prelude.{is_none}
use Rattle.cursor.specs.At.{args_end}
use Rattle.cursor.specs.Steps.{one_more}
use Rattle.cursor.specs.declared.Head.{Head}
use Rattle.room.specs.Room.{none-says}
use Rattle.planning_dry_pass.specs.Dry as laws
use Rattle.planning_dry_pass.proofs.dry_pass.Goals as goal

pub loop-init : goal.loop-init
loop-init c =
    let z : c.args.k.left - 0 ≡ c.args.k.left = omega arith in
    rw z (laws.walked_start _ _ _ _ _ _ _ _ _ c.requires.0)

pub head_at-head-requires : goal.head_at-head-requires
head_at-head-requires c = laws.planable-room _ _ _ _ _ _ (one_more _ (λ z. omega arith)) c.loop.invariant.ahead

pub size_by-size-requires : goal.size_by-size-requires
size_by-size-requires c = (
  laws.planable-first _ _ _ _ _ _ (one_more _ (λ z. omega arith)) c.loop.invariant.ahead _
      c.head_at-head.ensures,
  c.requires.1,
  c.requires.2,
)

pub spend-p-requires : goal.spend-p-requires
spend-p-requires c = tt

pub spend-q-requires : goal.spend-q-requires
spend-q-requires c = tt

pub args_end-at-requires : goal.args_end-at-requires
args_end-at-requires c =
    (laws.planable-first _ _ _ _ _ _ (one_more _ (λ z. omega arith)) c.loop.invariant.ahead _
    c.head_at-head.ensures).here

pub loop-preserved : goal.loop-preserved
loop-preserved c =
    let l : ℕ = c.args.k.left - c.loop.counter in
    let m : ℕ = c.args.k.left - (c.loop.counter + 1) in
    let d = c.head_at-head.ensures in
    let f = c.args_end-at.ensures ∙ ap
    (λ (x : Head). args_end c.args.bytes.now x.args.left
    x.args.at) d in
    rw (c.spend-p.ensures, c.spend-q.ensures)
    (laws.walked_next _ _ _ _ _ _ _ _ _ l m _ _ _ _ _ _ (omega arith) d f c.size_by-size.ensures
    c.loop.invariant)

pub returns-then-is_none : goal.returns-then-is_none
returns-then-is_none c =
    λ rows o. c.if-is_none.true ∙ ap (λ (b : Bool). b || is_none c.loop.q)
    (sym c.if-is_none.true ∙ none-says _ _ c.is_none.ensures)
    ∙ laws.walked_end _ _ _ _ _ _ _ _ _ _ _ _ _ (omega arith) c.loop.invariant rows o

pub returns-else-is_none : goal.returns-else-is_none
returns-else-is_none c =
    λ rows o. none-says _ _ c.is_none-else-is_none.ensures
    ∙ ap (λ (b : Bool). b || is_none c.loop.q) (sym c.if-is_none.false ∙ none-says _ _ c.is_none.ensures)
    ∙ laws.walked_end _ _ _ _ _ _ _ _ _ _ _ _ _ (omega arith) c.loop.invariant rows o
