-- `resolving_step::on_node` meets its contract. Assumes nothing.
use Rattle.resolving_step.specs.Laws as laws
use mathlib.Core.Path.{refl, ap, subst, ◌∙◌}
use Rattle.std.specs.Prelude.{Option, Ok}
use native.Mathlib.Omega.{arith}
use Rattle.planning.specs.declared.NodeKind.TheVariants.{Missing, Several}
use Rattle.resolving_step.specs.declared.Walk.{Walk}
use Rattle.resolving_step.specs.declared.Missed.{Missed}
use Rattle.resolving_step.specs.Steps.{Readies, TakesSingle, Waits}
use Rattle.resolving_step.proofs.on_node.Goals as goal

pub returns-in_err-ok : goal.returns-in_err-ok
returns-in_err-ok c = λ p nd es rs b h l. absurd (laws.no-kind p _ b c.args.c c.args.n _ nd h c.ok.ensures.value c.in_err-ok.was)

pub returns-in-HandOn : goal.returns-in-HandOn
returns-in-HandOn c =
    λ p nd es rs b h l.
    let k = laws.one-kind p _ b c.args.c c.args.n _ _ c.ok.ensures.value c.in_ok-ok.was ∙ ap Ok c.in-HandOn.is in
    laws.on-hand p _ b _ _ _ _ _ k c.hand_on.ensures nd es rs h l

pub returns-in-Served : goal.returns-in-Served
returns-in-Served c =
    λ p nd es rs b h l.
    let k = laws.one-kind p _ b c.args.c c.args.n _ _ c.ok.ensures.value c.in_ok-ok.was ∙ ap Ok c.in-Served.is in
    laws.on_value p _ b _ _ _ _ _ k refl nd es rs h l

pub returns-in-AllServed : goal.returns-in-AllServed
returns-in-AllServed c =
    λ p nd es rs b h l.
    let k = laws.one-kind p _ b c.args.c c.args.n _ _ c.ok.ensures.value c.in_ok-ok.was ∙ ap Ok c.in-AllServed.is in
    laws.on-all p _ b _ _ _ _ _ k refl nd es rs h l

pub returns-in-Waiting : goal.returns-in-Waiting
returns-in-Waiting c =
    λ p nd es rs b h l.
    let x = c.args in
    let k = laws.one-kind p _ b c.args.c c.args.n _ _ c.ok.ensures.value c.in_ok-ok.was ∙ ap Ok c.in-Waiting.is in
    laws.on-waiting p _ b _ _ _ _ _ k _ refl
    (subst (λ (m : Missed). Waits x.list.now x.c m x.clock c.waiting.result) c.from-in-Waiting.ensures c.waiting.ensures) nd es rs h l

pub returns-in-End : goal.returns-in-End
returns-in-End c =
    λ p nd es rs b h l.
    let k = laws.one-kind p _ b c.args.c c.args.n _ _ c.ok.ensures.value c.in_ok-ok.was ∙ ap Ok c.in-End.is in
    laws.on-end p _ b _ _ _ _ _ k _ refl c.ended.ensures nd es rs h l

-- ---- one missing key

pub returns-in_err-drop_reply-in-Missing : goal.returns-in_err-drop_reply-in-Missing
returns-in_err-drop_reply-in-Missing c =
    λ p nd es rs b h l.
    let x = c.args in
    let k = laws.one-kind p _ b c.args.c c.args.n _ _ c.ok.ensures.value c.in_ok-ok.was ∙ ap Ok c.in-Missing.is in
    let i = laws.kind-says p _ b c.args.c c.args.n Missing nd h k in
    laws.missing-stop p _ b _ _ _ _ _
    (subst (λ (r : Option Walk). Readies x.list.now x.c x.mode r) c.in_err-drop_reply-in-Missing.was c.drop_reply.ensures)
    c.from_residual-in_err-drop_reply-in-Missing.ensures nd es rs h (omega arith) (omega arith) l

pub single-requires : goal.single-requires
single-requires c =
    let x = c.args in
    laws.ready-placed _ _ _ x.mode c.requires
    (subst (λ (r : Option Walk). Readies x.list.now x.c x.mode r) c.in_ok-drop_reply-in-Missing.was c.drop_reply.ensures)

pub returns-in_ok-drop_reply-in-Missing : goal.returns-in_ok-drop_reply-in-Missing
returns-in_ok-drop_reply-in-Missing c =
    λ p nd es rs b h l.
    let x = c.args in
    let k = laws.one-kind p _ b c.args.c c.args.n _ _ c.ok.ensures.value c.in_ok-ok.was ∙ ap Ok c.in-Missing.is in
    let i = laws.kind-says p _ b c.args.c c.args.n Missing nd h k in
    laws.missing-single p _ b _ _ _ _ _ _
    (subst (λ (r : Option Walk). Readies x.list.now x.c x.mode r) c.in_ok-drop_reply-in-Missing.was c.drop_reply.ensures)
    (laws.missing-one p _ b x.c x.n k)
    (subst (λ (m : Missed). TakesSingle x.list.now c.in_ok-drop_reply-in-Missing.field-0 m x.clock c.single.result) c.from.ensures c.single.ensures)
    nd es rs h (omega arith) (omega arith) l

-- ---- several keys

pub returns-in_err-drop_reply-in-Several : goal.returns-in_err-drop_reply-in-Several
returns-in_err-drop_reply-in-Several c =
    λ p nd es rs b h l.
    let x = c.args in
    let k = laws.one-kind p _ b c.args.c c.args.n _ _ c.ok.ensures.value c.in_ok-ok.was ∙ ap Ok c.in-Several.is in
    let i = laws.kind-says p _ b c.args.c c.args.n Several nd h k in
    laws.missing-stop p _ b _ _ _ _ _
    (subst (λ (r : Option Walk). Readies x.list.now x.c x.mode r) c.in_err-drop_reply-in-Several.was c.drop_reply-in-Several.ensures)
    c.from_residual-in_err-drop_reply-in-Several.ensures nd es rs h (omega arith) (omega arith) l

pub several-requires : goal.several-requires
several-requires c =
    let x = c.args in
    laws.ready-placed _ _ _ x.mode c.requires
    (subst (λ (r : Option Walk). Readies x.list.now x.c x.mode r) c.in_ok-drop_reply-in-Several.was c.drop_reply-in-Several.ensures)

pub returns-in_ok-drop_reply-in-Several : goal.returns-in_ok-drop_reply-in-Several
returns-in_ok-drop_reply-in-Several c =
    λ p nd es rs b h l.
    let x = c.args in
    let k = laws.one-kind p _ b c.args.c c.args.n _ _ c.ok.ensures.value c.in_ok-ok.was ∙ ap Ok c.in-Several.is in
    let i = laws.kind-says p _ b c.args.c c.args.n Several nd h k in
    laws.missing-several p _ b _ _ _ _ _ _
    (subst (λ (r : Option Walk). Readies x.list.now x.c x.mode r) c.in_ok-drop_reply-in-Several.was c.drop_reply-in-Several.ensures)
    k c.several.ensures nd es rs h (omega arith) (omega arith) l
