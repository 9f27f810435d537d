-- `push::is_blob` meets its contract. Assumes nothing.
use denote.Enum.Bare.{sameb}
use Rattle.std.proofs.Common.{◌≡◌, refl, ap, ◌∙◌}
use Rattle.resp3.specs.contracts.Kind.{the_type}
use Rattle.resp3.specs.declared.Kind.{Kind}
use Rattle.resp3.specs.declared.Kind.TheVariants.{BlobString, SimpleString, SimpleError, Number, Null, Double, Boolean, BlobError, VerbatimString}
use Rattle.resp3.specs.declared.Kind.TheVariants.{BigNumber, Array, Map, Set, Attribute, Push, Unknown}
use Rattle.push.specs.KeyKind.{is_key_kind, key-kind}
use Rattle.push.proofs.is_blob.Goals as goal

-- to be the kind of blob strings is to be a key's
same-kind : (k : Kind) → sameb the_type k BlobString ≡ is_key_kind k
same-kind BlobString = refl
same-kind SimpleString = refl
same-kind SimpleError = refl
same-kind Number = refl
same-kind Null = refl
same-kind Double = refl
same-kind Boolean = refl
same-kind BlobError = refl
same-kind VerbatimString = refl
same-kind BigNumber = refl
same-kind Array = refl
same-kind Map = refl
same-kind Set = refl
same-kind Attribute = refl
same-kind Push = refl
same-kind Unknown = refl

pub returns : goal.returns
returns c = λ v m. c.eq.ensures ∙ same-kind _ ∙ ap is_key_kind (c.kind.ensures.value v m) ∙ key-kind v
