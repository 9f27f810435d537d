-- `resp3::kind_head` meets its contract: an answer for each shape. Assumes nothing.
use Rattle.std.specs.Prelude.{Option}
use mathlib.Core.Path.{◌≡◌, sym, ap, ◌∙◌}
use Prim.Native.Nat.{ℕ, ◌+◌}
use native.Mathlib.Omega.{arith}
use lib.ListN.{get_or}
use Rattle.buffer.specs.Same.{Bytes}
use Rattle.resp3.specs.declared.Kind.{Kind}
use Rattle.resp3.specs.declared.Shape.{Shape}
use Rattle.resp3.specs.Kinds.{kind_of, shape_of}
use Rattle.resp3.specs.Ends.{alone_of, count_of, body_head, kind_head}
use Rattle.resp3.specs.Paths as paths
use Rattle.resp3.proofs.kind_head.Goals as goal

-- where the shape is known, the beginning is what stands behind the first byte
shaped : (s : Bytes) (at : ℕ) (a : Kind) (b k : Shape) → a ≡ kind_of (get_or s at 0) → b ≡ shape_of a → b ≡ k → kind_head s at ≡ body_head k s (at + 1)
shaped s at a b k f g h = paths.head-is _ _ k (sym (g ∙ ap shape_of f) ∙ h)

pub returns-then-at-s : goal.returns-then-at-s
returns-then-at-s c = sym (paths.kind-out _ _ c.if-at-s.true)

pub returns-in-List : goal.returns-in-List
unfolding body_head
returns-in-List c =
    c.length_at.ensures ∙ sym (shaped _ _ _ _ _ c.from.ensures c.shape_of.ensures c.in-List.is ∙ paths.count-all _)

pub returns-in_err-n-in-Pairs : goal.returns-in_err-n-in-Pairs
unfolding body_head
returns-in_err-n-in-Pairs c =
    c.from_residual.ensures ∙ sym (shaped _ _ _ _ _ c.from.ensures c.shape_of.ensures c.in-Pairs.is
    ∙ ap (λ (x : Option (ℕ × ℕ)). count_of x (λ n. n + n)) (sym c.length_at-in-Pairs.ensures ∙ c.in_err-n-in-Pairs.was))

pub overflow_add-result : goal.overflow_add-result
overflow_add-result c = let k = paths.length-bounds _ _ _ _ (sym c.length_at-in-Pairs.ensures ∙ c.in_ok-n-in-Pairs.was) in omega arith

pub returns-in_err-n-in-PairsAndValue : goal.returns-in_err-n-in-PairsAndValue
unfolding body_head
returns-in_err-n-in-PairsAndValue c =
    c.from_residual-in_err-n-in-PairsAndValue.ensures ∙ sym (shaped _ _ _ _ _ c.from.ensures c.shape_of.ensures c.in-PairsAndValue.is
    ∙ ap (λ (x : Option (ℕ × ℕ)). count_of x (λ n. n + n + 1)) (sym c.length_at-in-PairsAndValue.ensures ∙ c.in_err-n-in-PairsAndValue.was))

pub overflow_add-result-in-PairsAndValue : goal.overflow_add-result-in-PairsAndValue
overflow_add-result-in-PairsAndValue c =
    let k = paths.length-bounds _ _ _ _ (sym c.length_at-in-PairsAndValue.ensures ∙ c.in_ok-n-in-PairsAndValue.was) in
    omega arith

pub overflow_add-result-in-PairsAndValue-2 : goal.overflow_add-result-in-PairsAndValue-2
overflow_add-result-in-PairsAndValue-2 c =
    let k = paths.length-bounds _ _ _ _ (sym c.length_at-in-PairsAndValue.ensures ∙ c.in_ok-n-in-PairsAndValue.was) in
    omega arith

pub returns-in-Blob : goal.returns-in-Blob
unfolding body_head
returns-in-Blob c = c.alone.ensures ∙ ap alone_of c.blob_end.ensures ∙ sym (shaped _ _ _ _ _ c.from.ensures c.shape_of.ensures c.in-Blob.is)

pub returns-in-Line : goal.returns-in-Line
unfolding body_head
returns-in-Line c = c.alone-in-Line.ensures ∙ ap alone_of c.line_end.ensures ∙ sym (shaped _ _ _ _ _ c.from.ensures c.shape_of.ensures c.in-Line.is)

pub returns-in-Integer : goal.returns-in-Integer
unfolding body_head
returns-in-Integer c =
    c.alone-in-Integer.ensures ∙ ap alone_of c.number_end.ensures ∙ sym (shaped _ _ _ _ _ c.from.ensures c.shape_of.ensures c.in-Integer.is)

pub returns-in-Empty : goal.returns-in-Empty
unfolding body_head
returns-in-Empty c = c.alone-in-Empty.ensures ∙ ap alone_of c.crlf_end.ensures ∙ sym (shaped _ _ _ _ _ c.from.ensures c.shape_of.ensures c.in-Empty.is)

pub returns-in-Flag : goal.returns-in-Flag
unfolding body_head
returns-in-Flag c = c.alone-in-Flag.ensures ∙ ap alone_of c.boolean_end.ensures ∙ sym (shaped _ _ _ _ _ c.from.ensures c.shape_of.ensures c.in-Flag.is)

pub returns-in-Verbatim : goal.returns-in-Verbatim
unfolding body_head
returns-in-Verbatim c =
    c.alone-in-Verbatim.ensures ∙ ap alone_of c.verbatim_end.ensures ∙ sym (shaped _ _ _ _ _ c.from.ensures c.shape_of.ensures c.in-Verbatim.is)

pub returns-in_ok-n-in-Pairs : goal.returns-in_ok-n-in-Pairs
unfolding body_head
returns-in_ok-n-in-Pairs c =
    sym (shaped _ _ _ _ _ c.from.ensures c.shape_of.ensures c.in-Pairs.is
    ∙ ap (λ (x : Option (ℕ × ℕ)). count_of x (λ n. n + n)) (sym c.length_at-in-Pairs.ensures ∙ c.in_ok-n-in-Pairs.was))

pub returns-in_ok-n-in-PairsAndValue : goal.returns-in_ok-n-in-PairsAndValue
unfolding body_head
returns-in_ok-n-in-PairsAndValue c =
    sym (shaped _ _ _ _ _ c.from.ensures c.shape_of.ensures c.in-PairsAndValue.is
    ∙ ap (λ (x : Option (ℕ × ℕ)). count_of x (λ n. n + n + 1)) (sym c.length_at-in-PairsAndValue.ensures ∙ c.in_ok-n-in-PairsAndValue.was))

pub returns-in-Nothing : goal.returns-in-Nothing
unfolding body_head
returns-in-Nothing c = sym (shaped _ _ _ _ _ c.from.ensures c.shape_of.ensures c.in-Nothing.is)
