-- Rows of values and whole values: both readers find the same ends. Assumes nothing.
use Rattle.std.specs.Prelude.{◌≡◌, leb, get_or, drop, Option, Some, None, Result, Ok, Err}
use Rattle.std.proofs.Math.Path.{refl, ap}
use Rattle.std.proofs.Common.{sym, ◌∙◌, length-drop}
use Prim.Native.Nat.{ℕ, zero, suc, ◌+◌, ◌*◌, ◌≤◌, ◌<◌}
use native.Mathlib.Omega.{arith}
use Rattle.std.proofs.Math.ListN.{length}
use borrow.Author.Tests.{leb-true}
use Rattle.buffer.specs.Cases.{by_test}
use Rattle.buffer.specs.Same.{Bytes}
use Rattle.config.specs.Limits.{max_bytes}
use Rattle.resp3.specs.declared.Kind.{Kind}
use Rattle.resp3.specs.declared.Kind.TheVariants.{BlobString, SimpleString, SimpleError, Number, Null, Double, Boolean, BlobError, VerbatimString}
use Rattle.resp3.specs.declared.Kind.TheVariants.{BigNumber, Array, Map, Set, Attribute, Push, Unknown}
use Rattle.resp3.specs.Kinds.{shape_of, kind_of}
use Rattle.resp3.specs.Rows.{longer}
use Rattle.resp3.specs.Ends.{length_at, count_of, end_then, body_head, null_word_b, kind_head, head_at, value_end, items_end}
use Rattle.resp3.specs.Ends as ends
use Rattle.resp3.specs.Paths as paths
use Rattle.resp3.specs.Says.{not-bad, at_same, num-then}
use Rattle.resp3.specs.Sound.{end-sound}
use Rattle.resp3.proofs.Complete.{read-law}
use Rattle.resp3_prefix.specs.declared.NotWhole.{NotWhole}
use Rattle.resp3_prefix.specs.declared.NotWhole.TheVariants.{Lacks, Never}
use Rattle.resp3_prefix.specs.declared.Count.{Count}
use Rattle.resp3_prefix.specs.declared.Count.TheVariants.{Whole, Nothing, Digits, Ended, Never as NoCount}
use Rattle.resp3_prefix.specs.Begun.{lacking_below, count_begun, alone_of, row_of, body_begun, kind_begun, head_begun, head_then, begun_then, iter, value_begun}
use Rattle.resp3_prefix.specs.Begun.{row_begun}
use Rattle.resp3_prefix.specs.CountSays.{whole-bounds}
use Rattle.resp3_prefix.specs.Same.{lacks-no-end, never-no-end, same_end, row-no-end, below-no-end, Agree, neither, crlf-agree, length_to}
use Rattle.resp3_prefix.specs.Same.{length_from, line-agree, blob-agree, verbatim-agree, integer-agree, boolean-agree}
use Rattle.resp3_prefix.specs.Nulls.{string-agree, one-agree}

-- the same, in other words
agree-as : {x z : Result ℕ NotWhole} {y w : Option ℕ} → z ≡ x → w ≡ y → Agree x y → Agree z w
agree-as p q a = ((λ e h. q ∙ a.0 e (sym p ∙ h)), (λ e h. p ∙ a.1 e (sym q ∙ h)))

-- with no values inside, all is said at the beginning
pub alone-is : (d : ℕ) (s : Bytes) (x : Result ℕ NotWhole) → head_then (alone_of x) (λ n e. row_begun d s n e) ≡ x
unfolding row_begun iter
alone-is d s (Ok e) = refl
alone-is d s (Err why) = refl

-- where resp3's reader ends, it is behind its start and in the bytes
pub end-bounds : (d : ℕ) (s : Bytes) (at e : ℕ) → value_end d s at ≡ Some e → (at < e) × (e ≤ length s)
end-bounds d s at e h =
    let w = end-sound d s at e h in
    let z = read-law d s w.v w.ok w.deep at (drop e s) w.is in
    let k : z.e ≡ e = at_same z.e e (sym z.is ∙ h) in
    let i = z.within in
    (omega (arith, longer w.v (drop e s), ap length w.is, length-drop at s, length-drop e s), omega arith)

module _ (d : ℕ) (s : Bytes) (small : length s ≤ max_bytes) (one : (at : ℕ) → Agree (value_begun d s at) (value_end d s at)) where
  -- a row that ends here ends there, and has a byte at least for each value
  rows-to : (n q e : ℕ) → row_begun d s n q ≡ Ok e → q ≤ length s → (items_end d s n q ≡ Some e) × (q + n ≤ e) × (e ≤ length s)
  unfolding row_begun iter items_end ends.iter
  rows-to zero q e h l = let k = same_end q e h in (ap Some k, omega arith, omega arith)
  rows-to (suc n) q e h l = go (value_begun d s q) refl h (λ x i j. rows-to n x e i j)
    where
      go : (x : Result ℕ NotWhole) → value_begun d s q ≡ x → begun_then x n (λ z. iter (λ y. value_begun d s y) n z) ≡ Ok e
          → ((z : ℕ) → row_begun d s n z ≡ Ok e → z ≤ length s → (items_end d s n z ≡ Some e) × (z + n ≤ e) × (e ≤ length s))
          → (end_then (value_end d s q) (λ z. ends.iter (λ y. value_end d s y) n z) ≡ Some e) × (q + suc n ≤ e) × (e ≤ length s)
      go (Ok x) k h f =
          let v = (one q).0 x k in
          let b = end-bounds d s q x v in
          let lo = b.0 in
          let z = f x h b.1 in
          let hi = z.1 in
          (rw v z.0, omega arith, z.2)
      go (Err (Lacks m)) k h f = absurd (row-no-end m n e h)
      go (Err Never) k h f = absurd (never-no-end e h)

  rows-from : (n q e : ℕ) → items_end d s n q ≡ Some e → row_begun d s n q ≡ Ok e
  unfolding row_begun iter items_end ends.iter
  rows-from zero q e h = ap Ok (at_same q e h)
  rows-from (suc n) q e h = go (value_end d s q) refl h (λ x i. rows-from n x e i)
    where
      go : (y : Option ℕ) → value_end d s q ≡ y → end_then y (λ z. ends.iter (λ x. value_end d s x) n z) ≡ Some e
          → ((z : ℕ) → items_end d s n z ≡ Some e → row_begun d s n z ≡ Ok e)
          → begun_then (value_begun d s q) n (λ z. iter (λ x. value_begun d s x) n z) ≡ Ok e
      go (Some x) k h f = rw ((one q).1 x k) (f x h)
      go None k h f = absurd (not-bad e h)

  -- rows behind their count
  row-agree : (p a b : ℕ) (f : ℕ → ℕ) → ((n : ℕ) → f n ≡ a * n + b) → ((n : ℕ) → n ≤ a * n + b)
      → Agree (head_then (row_of d a b (count_begun max_bytes s p)) (λ n e. row_begun d s n e)) (ends.head_then (count_of (length_at s p) f) (λ n e. items_end d s n e))
  row-agree p a b f g few = ((λ e h. to e (count_begun max_bytes s p) refl h), from)
    where
      still : (k m e : ℕ) → head_then (alone_of (lacking_below d k m)) (λ n e. row_begun d s n e) ≡ Ok e → ⊥
      still k m e h = below-no-end d k m e (sym (alone-is d s (lacking_below d k m)) ∙ h)

      to : (e : ℕ) (c : Count) → count_begun max_bytes s p ≡ c → head_then (row_of d a b c) (λ n e. row_begun d s n e) ≡ Ok e
          → ends.head_then (count_of (length_at s p) f) (λ n e. items_end d s n e) ≡ Some e
      to e (Whole n q) k h =
          let i = (whole-bounds max_bytes s p n q k).1 in
          let z = rows-to (a * n + b) q e h i in
          let y = z.1 in
          let x = z.2 in
          let w = few n in
          paths.count-is (length_at s p) f (λ m r. items_end d s m r) ∙ rw (length_to s small p n q k (omega arith), g n) z.0
      to e Nothing k h = absurd (still 3 b e h)
      to e (Digits m) k h = absurd (still 2 (a * m + b) e h)
      to e (Ended m) k h = absurd (still 1 (a * m + b) e h)
      to e NoCount k h = absurd (never-no-end e h)

      from : (e : ℕ) → ends.head_then (count_of (length_at s p) f) (λ n e. items_end d s n e) ≡ Some e
          → head_then (row_of d a b (count_begun max_bytes s p)) (λ n e. row_begun d s n e) ≡ Ok e
      from e h =
          let z = num-then (length_at s p) (λ n q. items_end d s (f n) q) e (sym (paths.count-is (length_at s p) f (λ m r. items_end d s m r)) ∙ h) in
          rw (length_from s small p z.n z.q z.is) (rows-from (a * z.n + b) z.q e (rw (g z.n) at z.then))

  -- what stands behind a first byte
  body-agree : (p : ℕ) (k : Kind) → Agree (head_then (body_begun d k s p) (λ n e. row_begun d s n e)) (paths.body_end (shape_of k) s (λ n e. items_end d s n e) p)
  unfolding body_begun body_head
  body-agree p BlobString = agree-as (alone-is d s _) (paths.alone-is d s _) (string-agree s small p)
  body-agree p SimpleString = agree-as (alone-is d s _) (paths.alone-is d s _) (line-agree s small p)
  body-agree p SimpleError = agree-as (alone-is d s _) (paths.alone-is d s _) (line-agree s small p)
  body-agree p Number = agree-as (alone-is d s _) (paths.alone-is d s _) (integer-agree s small p)
  body-agree p Null = agree-as (alone-is d s _) (paths.alone-is d s _) (crlf-agree s p)
  body-agree p Double = agree-as (alone-is d s _) (paths.alone-is d s _) (line-agree s small p)
  body-agree p Boolean = agree-as (alone-is d s _) (paths.alone-is d s _) (boolean-agree s small p)
  body-agree p BlobError = agree-as (alone-is d s _) (paths.alone-is d s _) (blob-agree s small p)
  body-agree p VerbatimString = agree-as (alone-is d s _) (paths.alone-is d s _) (verbatim-agree s small p)
  body-agree p BigNumber = agree-as (alone-is d s _) (paths.alone-is d s _) (line-agree s small p)
  body-agree p Array = row-agree p 1 0 (λ n. n) (λ n. omega arith) (λ n. omega arith)
  body-agree p Map = row-agree p 2 0 (λ n. n + n) (λ n. omega arith) (λ n. omega arith)
  body-agree p Set = row-agree p 1 0 (λ n. n) (λ n. omega arith) (λ n. omega arith)
  body-agree p Attribute = row-agree p 2 1 (λ n. n + n + 1) (λ n. omega arith) (λ n. omega arith)
  body-agree p Push = row-agree p 1 0 (λ n. n) (λ n. omega arith) (λ n. omega arith)
  body-agree p Unknown = neither (Err Never) None (λ e h. never-no-end e h) refl

  -- what a first byte's kind says
  kind-agree : (at : ℕ) → Agree (head_then (kind_begun d s at) (λ n e. row_begun d s n e)) (ends.head_then (kind_head s at) (λ n e. items_end d s n e))
  unfolding kind_begun kind_head
  kind-agree at =
      by_test (leb (length s) at)
      (λ t.
      let l = leb-true (length s) at t in
      let out = ap (λ x. ends.head_then x (λ n e. items_end d s n e)) (paths.kind-out s at l) in
      rw t (neither (Err (Lacks 3)) (ends.head_then (kind_head s at) (λ n e. items_end d s n e)) (λ e h. lacks-no-end 3 e h) out))
      (λ t. rw t (body-agree (at + 1) (kind_of (get_or s at 0))))

-- both readers find the same ends
pub value-agree : (d : ℕ) (s : Bytes) → length s ≤ max_bytes → (at : ℕ) → Agree (value_begun d s at) (value_end d s at)
unfolding value_begun head_begun row_begun value_end head_at items_end
value-agree zero s small at = neither (Err Never) None (λ e h. never-no-end e h) refl
value-agree (suc d) s small at =
    by_test (null_word_b s at)
    (λ w. rw w (agree-as (alone-is d s _) (paths.alone-is d s _) (one-agree s small (at + 2))))
    (λ w. rw w (kind-agree d s small (λ q. value-agree d s small q) at))
