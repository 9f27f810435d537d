-- `call_record::command_end` meets its contract. Assumes nothing.
use mathlib.Core.Path.{sym, ◌∙◌}
use native.Mathlib.Omega.{arith}
use Rattle.call_record.specs.CommandPaths as laws
use Rattle.call_record.specs.Paths.{handed_on, byte-is}
use Rattle.call_record.proofs.command_end.Goals as goal

pub returns-in_err-f : goal.returns-in_err-f
returns-in_err-f c =
    handed_on c.from_residual.result _ c.from_residual.ensures.1
    ∙ sym (laws.command-out _ _ _ (sym c.byte_at.ensures ∙ c.in_err-f.was))

pub ttl_end-requires : goal.ttl_end-requires
ttl_end-requires c = let z = (byte-is _ _ _ (sym c.byte_at.ensures ∙ c.in_ok-f.was)).0 in omega arith

pub rest_end-requires : goal.rest_end-requires
rest_end-requires c =
    let z = (byte-is _ _ _ (sym c.byte_at.ensures ∙ c.in_ok-f.was)).0 in
    laws.ttl-inside _ _ _ _ (omega arith) (sym c.ttl_end.ensures ∙ c.in_ok-e.was)

pub returns-in_err-e : goal.returns-in_err-e
returns-in_err-e c =
    handed_on c.from_residual-in_err-e.result _ c.from_residual-in_err-e.ensures.1
    ∙ sym (laws.command-ttl _ _ _ (sym c.byte_at.ensures ∙ c.in_ok-f.was) _ (sym c.flags_ok.ensures ∙ c.if-flags_ok.true)
    (sym c.ttl_end.ensures ∙ c.in_err-e.was))

pub returns-in_ok-e : goal.returns-in_ok-e
returns-in_ok-e c =
    c.rest_end.ensures
    ∙ sym (laws.command-go _ _ _ (sym c.byte_at.ensures ∙ c.in_ok-f.was) _ (sym c.flags_ok.ensures ∙ c.if-flags_ok.true)
    (sym c.ttl_end.ensures ∙ c.in_ok-e.was))

pub returns-else-flags_ok : goal.returns-else-flags_ok
returns-else-flags_ok c =
    sym (laws.command-flags _ _ _ (sym c.byte_at.ensures ∙ c.in_ok-f.was) (sym c.flags_ok.ensures ∙ c.if-flags_ok.false))
