-- `resp3_prefix::kind_begun` meets its contract. Assumes nothing.
use mathlib.Core.Path.{◌≡◌, sym, ap, ◌∙◌}
use Prim.Native.Nat.{ℕ, ◌+◌, ◌<◌}
use lib.ListN.{length, get_or}
use Rattle.buffer.specs.Same.{Bytes}
use Rattle.resp3.specs.Kinds.{kind_of}
use Rattle.resp3.specs.declared.Kind.{Kind}
use Rattle.resp3_prefix.specs.Begun.{alone_of, body_begun, kind_begun}
use Rattle.resp3_prefix.specs.Paths as paths
use Rattle.resp3_prefix.proofs.kind_begun.Goals as goal

-- where the kind is known, the beginning is what stands behind the first byte
kinded : (d : ℕ) (s : Bytes) (at : ℕ) (a k : Kind) → at < length s → a ≡ kind_of (get_or s at 0) → a ≡ k → kind_begun d s at ≡ body_begun d k s (at + 1)
kinded d s at a k l f h = paths.kind-is d s at k l (sym f ∙ h)

pub returns-then-at-s : goal.returns-then-at-s
returns-then-at-s c = sym (paths.kind-out _ _ _ c.if-at-s.true)

pub returns-in-BlobString : goal.returns-in-BlobString
unfolding body_begun
returns-in-BlobString c =
    c.alone.ensures ∙ ap alone_of c.string_begun.ensures ∙ sym (kinded _ _ _ _ _ c.if-at-s.false c.from.ensures c.in-BlobString.is)

pub returns-in-SimpleString : goal.returns-in-SimpleString
unfolding body_begun
returns-in-SimpleString c =
    c.alone-in-SimpleString.ensures ∙ ap alone_of c.line_begun.ensures ∙ sym (kinded _ _ _ _ _ c.if-at-s.false c.from.ensures c.in-SimpleString.is)

pub returns-in-SimpleError : goal.returns-in-SimpleError
unfolding body_begun
returns-in-SimpleError c =
    c.alone-in-SimpleError.ensures ∙ ap alone_of c.line_begun-in-SimpleError.ensures ∙ sym (kinded _ _ _ _ _ c.if-at-s.false c.from.ensures c.in-SimpleError.is)

pub returns-in-Number : goal.returns-in-Number
unfolding body_begun
returns-in-Number c =
    c.alone-in-Number.ensures ∙ ap alone_of c.integer_begun.ensures ∙ sym (kinded _ _ _ _ _ c.if-at-s.false c.from.ensures c.in-Number.is)

pub returns-in-Null : goal.returns-in-Null
unfolding body_begun
returns-in-Null c =
    c.alone-in-Null.ensures ∙ ap alone_of c.crlf_begun.ensures ∙ sym (kinded _ _ _ _ _ c.if-at-s.false c.from.ensures c.in-Null.is)

pub returns-in-Double : goal.returns-in-Double
unfolding body_begun
returns-in-Double c =
    c.alone-in-Double.ensures ∙ ap alone_of c.line_begun-in-Double.ensures ∙ sym (kinded _ _ _ _ _ c.if-at-s.false c.from.ensures c.in-Double.is)

pub returns-in-Boolean : goal.returns-in-Boolean
unfolding body_begun
returns-in-Boolean c =
    c.alone-in-Boolean.ensures ∙ ap alone_of c.boolean_begun.ensures ∙ sym (kinded _ _ _ _ _ c.if-at-s.false c.from.ensures c.in-Boolean.is)

pub returns-in-BlobError : goal.returns-in-BlobError
unfolding body_begun
returns-in-BlobError c =
    c.alone-in-BlobError.ensures ∙ ap alone_of c.blob_begun.ensures ∙ sym (kinded _ _ _ _ _ c.if-at-s.false c.from.ensures c.in-BlobError.is)

pub returns-in-VerbatimString : goal.returns-in-VerbatimString
unfolding body_begun
returns-in-VerbatimString c =
    c.alone-in-VerbatimString.ensures ∙ ap alone_of c.verbatim_begun.ensures ∙ sym (kinded _ _ _ _ _ c.if-at-s.false c.from.ensures c.in-VerbatimString.is)

pub returns-in-BigNumber : goal.returns-in-BigNumber
unfolding body_begun
returns-in-BigNumber c =
    c.alone-in-BigNumber.ensures ∙ ap alone_of c.line_begun-in-BigNumber.ensures ∙ sym (kinded _ _ _ _ _ c.if-at-s.false c.from.ensures c.in-BigNumber.is)

pub returns-in-Array : goal.returns-in-Array
unfolding body_begun
returns-in-Array c = c.row_begun.ensures ∙ sym (kinded _ _ _ _ _ c.if-at-s.false c.from.ensures c.in-Array.is)

pub returns-in-Map : goal.returns-in-Map
unfolding body_begun
returns-in-Map c = c.row_begun-in-Map.ensures ∙ sym (kinded _ _ _ _ _ c.if-at-s.false c.from.ensures c.in-Map.is)

pub returns-in-Set : goal.returns-in-Set
unfolding body_begun
returns-in-Set c = c.row_begun-in-Set.ensures ∙ sym (kinded _ _ _ _ _ c.if-at-s.false c.from.ensures c.in-Set.is)

pub returns-in-Attribute : goal.returns-in-Attribute
unfolding body_begun
returns-in-Attribute c = c.row_begun-in-Attribute.ensures ∙ sym (kinded _ _ _ _ _ c.if-at-s.false c.from.ensures c.in-Attribute.is)

pub returns-in-Push : goal.returns-in-Push
unfolding body_begun
returns-in-Push c = c.row_begun-in-Push.ensures ∙ sym (kinded _ _ _ _ _ c.if-at-s.false c.from.ensures c.in-Push.is)

pub returns-in-Unknown : goal.returns-in-Unknown
unfolding body_begun
returns-in-Unknown c = sym (kinded _ _ _ _ _ c.if-at-s.false c.from.ensures c.in-Unknown.is)
