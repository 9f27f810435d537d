-- `planning_ask::ask_named` meets its contract. Assumes nothing.
use mathlib.Core.Path.{sym, ap, ap₂, ◌∙◌}
use Rattle.std.specs.Prelude.{Some}
use mathlib.Core.Bool.{true, false}
use Rattle.commands.specs.MultiKey.{multi_key}
use Rattle.commands.specs.Names.{is_cacheable}
use Rattle.cursor.specs.Steps.{args_count}
use Rattle.planning.specs.Ask as plan
use Rattle.planning_ask.specs.Naming as laws
use Rattle.planning_ask.specs.Reaching.{has-name}
use Rattle.planning_ask.proofs.ask_named.Goals as goal

pub several_of-requires : goal.several_of-requires
several_of-requires c =
    (c.requires.0, laws.name-left _ _ (has-name _ _ c.requires.2))

pub several_of-requires-in-Some-JsonMget : goal.several_of-requires-in-Some-JsonMget
several_of-requires-in-Some-JsonMget c =
    (c.requires.0, laws.name-left _ _ (has-name _ _ c.requires.2))

pub ask_one-requires : goal.ask_one-requires
ask_one-requires c = let given = c.requires in (given.0, has-name _ _ given.2)

pub returns-in-Some-Mget : goal.returns-in-Some-Mget
returns-in-Some-Mget c =
    rw c.ask_several.ensures
    (laws.named-several _ _ _ _ false _
    (ap multi_key (sym c.bytes_in-text.ensures) ∙ sym c.is_multi_key.ensures
    ∙ c.in-Some-Mget.is ∙ ap Some c.in-Some-Mget.field-0-is) c.several_of.ensures)

pub returns-in-Some-JsonMget : goal.returns-in-Some-JsonMget
returns-in-Some-JsonMget c =
    rw c.ask_several-in-Some-JsonMget.ensures
    (laws.named-several _ _ _ _ true _
    (ap multi_key (sym c.bytes_in-text.ensures) ∙ sym c.is_multi_key.ensures
    ∙ c.in-Some-JsonMget.is ∙ ap Some c.in-Some-JsonMget.field-0-is) c.several_of-in-Some-JsonMget.ensures)

-- below, `asked` is where the name was looked for among the cacheable ones, `n` that it is the record's, `m` that it asks for one key, `t` what was found, and
-- `u` whether it may have so many arguments
pub returns-then-may_have : goal.returns-then-may_have
returns-then-may_have c =
    let n = sym c.bytes_in-text.ensures in
    let m = ap multi_key n ∙ sym c.is_multi_key.ensures ∙ c.in-None.is in
    let t = ap is_cacheable n ∙ sym c.is_cachable_cmd.ensures ∙ c.if-is_cachable_cmd.true in
    let a = c.args in
    let u = ap₂ plan.may_have n (args_count a.bytes.now a.k.left a.k.at) ∙ sym c.may_have.ensures ∙ c.if-may_have.true in
    let e = c.ask_one.ensures in
    (e.0 ∙ sym (laws.named-one _ _ _ m t u), e.1)

pub returns-else-may_have : goal.returns-else-may_have
returns-else-may_have c =
    let n = sym c.bytes_in-text.ensures in
    let m = ap multi_key n ∙ sym c.is_multi_key.ensures ∙ c.in-None.is in
    let t = ap is_cacheable n ∙ sym c.is_cachable_cmd.ensures ∙ c.if-is_cachable_cmd.true in
    let a = c.args in
    let u = ap₂ plan.may_have n (args_count a.bytes.now a.k.left a.k.at) ∙ sym c.may_have.ensures ∙ c.if-may_have.false in
    (sym (laws.named-many _ _ _ m t u), tt)

pub returns-else-is_cachable_cmd : goal.returns-else-is_cachable_cmd
returns-else-is_cachable_cmd c =
    let n = sym c.bytes_in-text.ensures in
    let m = ap multi_key n ∙ sym c.is_multi_key.ensures ∙ c.in-None.is in
    let t = ap is_cacheable n ∙ sym c.is_cachable_cmd.ensures ∙ c.if-is_cachable_cmd.false in
    (sym (laws.named_none _ _ _ m t), tt)
