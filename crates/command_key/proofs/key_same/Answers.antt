-- `command_key::key_same` meets its contract. Assumes nothing.
use mathlib.Core.Path.{ap, ◌∙◌}
use Rattle.command_key.specs.Keys as keys
use Rattle.buffer.specs.Same.{same}
use Rattle.command_key.proofs.key_same.Goals as goal

pub bytes_in-requires : goal.bytes_in-requires
bytes_in-requires c = keys.part_in _ _ c.requires _ c.in-Part.is

pub joined_same-requires : goal.joined_same-requires
joined_same-requires c = keys.joined_in _ _ c.requires _ c.in-Joined.is

pub named_same-requires : goal.named_same-requires
named_same-requires c = keys.named_in _ _ c.requires _ _ _ c.in-Named.is

pub returns-in-Part : goal.returns-in-Part
returns-in-Part c =
    c.same.ensures ∙ ap (same _) (c.bytes_in.ensures ∙ keys.part_bytes _ _ c.requires _ c.in-Part.is)

pub returns-in-Joined : goal.returns-in-Joined
returns-in-Joined c =
    c.joined_same.ensures ∙ ap (same _) (keys.joined_bytes _ _ c.requires _ c.in-Joined.is)

pub returns-in-Named : goal.returns-in-Named
returns-in-Named c =
    c.named_same.ensures ∙ ap (same _)
    (keys.named-bytes _ _ c.requires _ _ _ c.in-Named.is)
