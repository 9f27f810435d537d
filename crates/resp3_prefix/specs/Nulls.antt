-- RESP2's nulls, `$-1` and `*-1`, of which a beginning stands in the bytes: the ways through the code, that resp3's reader agrees, and that bytes that
-- lack k begin one which is k longer. Assumes nothing.
use Rattle.std.specs.Prelude.{◌≡◌, true, false, ◌⊎◌, ℕ, ◌+◌, ◌≤◌, ◌<◌, leb, eqb, length, get_or, Result, Ok, Err}
use Rattle.std.proofs.Common.{sym, ◌∙◌, arith}
use Rattle.std.proofs.Math.Path.{ap}
use Rattle.std.proofs.Math.Logic.{inl, inr}
use mathlib.Core.List.{[], ◌∷◌, ◌++◌}
use Rattle.std.proofs.Math.ListN.{drop, drop_of_length-le}
use borrow.Author.Tests.{leb-true, leb-false, le-leb, lt-leb, eqb-true, eqb-false, ne_eqb}
use Rattle.buffer.specs.Cases.{by_test}
use Rattle.buffer.specs.Same.{Bytes}
use Rattle.config.specs.Limits.{max_bytes}
use Rattle.decimal.specs.Read.{digit_b}
use Rattle.decimal.specs.ReadLaws.{num-out, lead-stop}
use Rattle.resp3.specs.Kinds.{kind_of}
use Rattle.resp3.specs.declared.Kind.TheVariants.{BlobString, Array}
use Rattle.resp3.specs.Value.{Spelling, blob_null, array_null, crlf, framed, spelled}
use Rattle.resp3.specs.Ends.{length_at, blob_end, null_word_b, one_end}
use Rattle.resp3.specs.Nulls as ends
use Rattle.resp3.specs.Paths.{blob-bad}
use Rattle.resp3_prefix.specs.declared.NotWhole.{NotWhole}
use Rattle.resp3_prefix.specs.declared.NotWhole.TheVariants.{Lacks, Never}
use Rattle.resp3_prefix.specs.declared.Count.TheVariants.{Never as NoCount}
use Rattle.resp3_prefix.specs.Begun.{crlf_begun, blob_begun, string_begun, one_begun, alone_of, row_of, body_begun, kind_begun, null_begun, head_begun}
use Rattle.resp3_prefix.specs.Paths as paths
use Rattle.resp3_prefix.specs.Same.{lacks-no-end, never-no-end, Agree, neither, crlf-agree, blob-agree}
use Rattle.resp3_prefix.specs.Found.{Rest, lacks-same, never-lacks, crlf-found, blob-found, rest-behind}

-- ---- the ways through the code

-- nothing behind `$`
pub string-out : (s : Bytes) (at : ℕ) → length s ≤ at → string_begun s at ≡ Err (Lacks 4)
unfolding string_begun
string-out s at l = rw (le-leb (length s) at l)

-- something: a blob string's length
pub string-in : (s : Bytes) (at : ℕ) → at < length s → string_begun s at ≡ blob_begun s at
unfolding string_begun
string-in s at l = rw (lt-leb (length s) at l)

-- nothing behind the minus
pub one_out : (s : Bytes) (at : ℕ) → length s ≤ at → one_begun s at ≡ Err (Lacks 3)
unfolding one_begun
one_out s at l = rw (le-leb (length s) at l)

-- a 1
pub one-yes : (s : Bytes) (at : ℕ) → at < length s → get_or s at 0 ≡ 49 → one_begun s at ≡ crlf_begun s (at + 1)
unfolding one_begun
one-yes s at l h = rw (lt-leb (length s) at l, h)

-- anything else
pub one-no : (s : Bytes) (at : ℕ) → at < length s → ((get_or s at 0 ≡ 49) → ⊥) → one_begun s at ≡ Err Never
unfolding one_begun
one-no s at l h = rw (lt-leb (length s) at l, ne_eqb (get_or s at 0) 49 h)

-- by the kind of its first byte such a null has a length or a count that is none
word-never : (d : ℕ) (s : Bytes) (at : ℕ) → null_word_b s at ≡ true → kind_begun d s at ≡ Err Never
unfolding kind_of body_begun
word-never d s at w =
    let t = ends.word-says s at w in
    let i = ends.word_in s at w in
    let c = paths.count_none max_bytes s (at + 1) i (λ z. omega arith) (lead-stop s (at + 1) (ap digit_b t.1)) in
    by_test (eqb (get_or s at 0) 36)
    (λ b.
    paths.kind-is d s at BlobString (omega arith) (ap kind_of (eqb-true (get_or s at 0) 36 b))
    ∙ ap alone_of (string-in s (at + 1) i ∙ paths.blob-is s (at + 1) NoCount c))
    (λ b. paths.kind-is d s at Array (omega arith) (ap kind_of (eqb-true (get_or s at 0) 42 (rw b at t.0))) ∙ ap (row_of d 1 0) c)

-- so that what the kind finds is all that there is
head-found : (d : ℕ) (s : Bytes) (at : ℕ) (x : Result (ℕ × ℕ) NotWhole) → kind_begun d s at ≡ x → (x ≡ Err Never → ⊥) → head_begun d s at ≡ x
head-found d s at x h n =
    by_test (null_word_b s at)
    (λ w. absurd (n (sym h ∙ word-never d s at w)))
    (λ w. paths.head-kind d s at w ∙ h)

pub head_of : (d : ℕ) (s : Bytes) (at n e : ℕ) → kind_begun d s at ≡ Ok (n, e) → head_begun d s at ≡ Ok (n, e)
head_of d s at n e h = head-found d s at (Ok (n, e)) h (λ z. let y : ◌≡◌ {A = ℕ} 0 1 = cc in omega arith)

pub head-lacks : (d : ℕ) (s : Bytes) (at k : ℕ) → kind_begun d s at ≡ Err (Lacks k) → head_begun d s at ≡ Err (Lacks k)
head-lacks d s at k h = head-found d s at (Err (Lacks k)) h (λ z. let y : ◌≡◌ {A = ℕ} 0 1 = cc in omega arith)

-- and where it finds nothing, it may be such a null
pub head-else : (d : ℕ) (s : Bytes) (at : ℕ) → kind_begun d s at ≡ Err Never → head_begun d s at ≡ null_begun s at
unfolding head_begun
head-else d s at h = rw h

-- one, or none
pub null-yes : (s : Bytes) (at : ℕ) → null_word_b s at ≡ true → null_begun s at ≡ alone_of (one_begun s (at + 2))
null-yes s at w = rw w

pub null-no : (s : Bytes) (at : ℕ) → null_word_b s at ≡ false → null_begun s at ≡ Err Never
null-no s at w = rw w

-- ---- both readers find the same ends

module _ (s : Bytes) (small : length s ≤ max_bytes) (p : ℕ) where
  -- a blob string, of which less may be lacking where nothing stands behind its first byte
  pub string-agree : Agree (string_begun s p) (blob_end s p)
  unfolding string_begun length_at
  string-agree =
      by_test (leb (length s) p)
      (λ t.
      let l = leb-true (length s) p t in
      rw t (neither (Err (Lacks 4)) (blob_end s p) (λ e h. lacks-no-end 4 e h) (blob-bad s p (num-out (length s) s p l))))
      (λ t. rw t (blob-agree s small p))

  -- the rest of a null of RESP2's
  pub one-agree : Agree (one_begun s p) (one_end s p)
  unfolding one_begun
  one-agree =
      by_test (leb (length s) p)
      (λ t. rw t (neither (Err (Lacks 3)) (one_end s p) (λ e h. lacks-no-end 3 e h) (ends.one_out s p (leb-true (length s) p t))))
      (λ t.
      by_test (eqb (get_or s p 0) 49)
      (λ c. rw (t, c, ends.one-yes s p (eqb-true (get_or s p 0) 49 c)) (crlf-agree s (p + 1)))
      (λ c. rw (t, c) (neither (Err Never) (one_end s p) (λ e h. never-no-end e h) (ends.one-no s p (eqb-false (get_or s p 0) 49 c)))))

-- ---- what lacks k is completed by k

module _ (s : Bytes) (p k : ℕ) where
  -- the rest of a null of RESP2's
  pub one_found : p ≤ length s → one_begun s p ≡ Err (Lacks k) → Rest (49 ∷ crlf []) s p k
  unfolding one_begun
  one_found l h =
      by_test (leb (length s) p)
      (λ t.
      let d : drop p s ≡ [] = drop_of_length-le s {i = p} (leb-true (length s) p t) in
      record { q = 49 ∷ crlf []; is = ap (λ (x : Bytes). x ++ (49 ∷ crlf [])) (sym d); long = lacks-same 3 k (rw t at h) })
      (λ t.
      let o = leb-false (length s) p t in
      by_test (eqb (get_or s p 0) 49)
      (λ c. rest-behind s p 49 k (crlf []) o (eqb-true (get_or s p 0) 49 c) (crlf-found s (p + 1) k (omega arith) (rw (t, c) at h)))
      (λ c. absurd (never-lacks k (rw (t, c) at h))))

  -- a blob string; where nothing stands behind its first byte, RESP2's null
  pub string-found : string_begun s p ≡ Err (Lacks k) → Rest (45 ∷ 49 ∷ crlf []) s p k ⊎ ((x : Bytes) × Rest (framed x []) s p k)
  unfolding string_begun
  string-found h =
      by_test (leb (length s) p)
      (λ t.
      let d : drop p s ≡ [] = drop_of_length-le s {i = p} (leb-true (length s) p t) in
      inl (record { q = 45 ∷ 49 ∷ crlf []; is = ap (λ (x : Bytes). x ++ (45 ∷ 49 ∷ crlf [])) (sym d); long = lacks-same 4 k (rw t at h) }))
      (λ t. inr (blob-found s p k (rw t at h)))

-- a null of RESP2's, from what stands behind its minus
pub null-found : (s : Bytes) (at k : ℕ) → null_word_b s at ≡ true → one_begun s (at + 2) ≡ Err (Lacks k) → (q : Spelling) × Rest (spelled q []) s at k
null-found s at k w h =
    let t = ends.word-says s at w in
    let i = ends.word_in s at w in
    let two : at + 1 + 1 ≡ at + 2 = omega arith in
    let r = rest-behind s (at + 1) 45 k (49 ∷ crlf []) i t.1 (one_found s (at + 1 + 1) k (omega arith) (rw two h)) in
    by_test (eqb (get_or s at 0) 36)
    (λ b. (blob_null, rest-behind s at 36 k (45 ∷ 49 ∷ crlf []) (omega arith) (eqb-true (get_or s at 0) 36 b) r))
    (λ b. (array_null, rest-behind s at 42 k (45 ∷ 49 ∷ crlf []) (omega arith) (eqb-true (get_or s at 0) 42 (rw b at t.0)) r))
