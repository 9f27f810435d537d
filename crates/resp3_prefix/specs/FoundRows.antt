-- Bytes that lack k begin a value's bytes, which are exactly k longer: rows, and whole values. Assumes nothing.
use Rattle.std.specs.Prelude.{◌≡◌, leb, get_or, Result, Ok, Err}
use Rattle.std.proofs.Math.Path.{refl, sym, ap}
use Rattle.std.proofs.Common.{◌∙◌, arith, length-append}
use Rattle.std.proofs.Math.Logic.{⊎_elim}
use mathlib.Core.List.{[], ◌∷◌, ◌++◌, append_assoc}
use Prim.Native.Nat.{ℕ, zero, suc, ◌+◌, ◌*◌, ◌≤◌, ◌<◌}
use Rattle.std.proofs.Math.ListN.{length, drop, drop_of_length-le}
use borrow.Author.Tests.{leb-true, leb-false}
use Rattle.buffer.specs.Cases.{by_test}
use Rattle.buffer.specs.Same.{Bytes}
use Rattle.buffer.specs.Places.{step}
use Rattle.config.specs.Limits.{max_bytes}
use Rattle.decimal.specs.Digits.{digits}
use Rattle.resp3.specs.declared.Kind.{Kind}
use Rattle.resp3.specs.declared.Kind.TheVariants.{BlobString, SimpleString, SimpleError, Number, Null, Double, Boolean, BlobError, VerbatimString}
use Rattle.resp3.specs.declared.Kind.TheVariants.{BigNumber, Array, Map, Set, Attribute, Push, Unknown}
use Rattle.resp3.specs.Kinds.{byte_of, kind_of}
use Rattle.resp3.specs.KindLaws.{kind-known}
use Rattle.resp3.specs.Value.{blob_null, Value, Values, blob_string, simple_string, simple_error, number, null_as, null, double, boolean, blob_error}
use Rattle.resp3.specs.Value.{verbatim_string, big_number, more, count, below, deepest, depth, Valid, Valids, crlf, counted, enc, encs, encode}
use Rattle.resp3.specs.Rows.{enc-is}
use Rattle.resp3.specs.Ends.{null_word_b}
use Rattle.resp3.specs.Sound.{end-sound}
use Rattle.resp3_prefix.specs.declared.NotWhole.{NotWhole}
use Rattle.resp3_prefix.specs.declared.NotWhole.TheVariants.{Lacks, Never}
use Rattle.resp3_prefix.specs.declared.Count.{Count}
use Rattle.resp3_prefix.specs.declared.Count.TheVariants.{Whole, Nothing, Digits, Ended, Never as NoCount}
use Rattle.resp3_prefix.specs.Begun.{lacking_below, count_begun, alone_of, row_of, body_begun, kind_begun, head_begun, head_then}
use Rattle.resp3_prefix.specs.Begun.{begun_then, iter, value_begun, row_begun}
use Rattle.resp3_prefix.specs.CountSays.{count-says, whole-bounds}
use Rattle.resp3_prefix.specs.SameRows.{alone-is, end-bounds, value-agree}
use Rattle.resp3_prefix.specs.Found.{Rest, lacks-same, never-lacks, ends-lacks, fill-nothing, fill-digits, fill-ended, fill-whole, behind}
use Rattle.resp3_prefix.specs.Found.{crlf-found, line-found, blob-found, integer-found, boolean-found}
use Rattle.resp3_prefix.specs.Nulls.{string-found, null-found}
use Rattle.resp3_prefix.specs.FoundVerbatim.{verbatim-found}
use Rattle.resp3_prefix.specs.Makes.{Makes, array_makes, map-makes, set-makes, attribute-makes, push-makes, nulls, nulls-count, nulls-valid}
use Rattle.resp3_prefix.specs.Makes.{nulls-deep, nulls-long, row-says, below-says}

-- ---- a value, and a row of values

-- a value that begins with what stands at `at`, and is k longer
pub record Found (d : ℕ) (s : Bytes) (at k : ℕ) : Type 0 where
  pub v : Value
  pub ok : Valid v
  pub deep : depth v ≤ d
  pub rest : Rest (enc v []) s at k

record RowFound (d : ℕ) (s : Bytes) (n at k : ℕ) : Type 0 where
  vs : Values
  many : count vs ≡ n
  ok : Valids vs
  deep : deepest vs ≤ d
  rest : Rest (encs vs []) s at k

-- what follows a value's bytes goes on behind them
pub enc-more : (v : Value) (a b : Bytes) → enc v (a ++ b) ≡ enc v a ++ b
enc-more v a b = enc-is v (a ++ b) ∙ sym (append_assoc (encode v) a b) ∙ ap (λ (x : Bytes). x ++ b) (sym (enc-is v a))

module _ (d : ℕ) (s : Bytes) (small : length s ≤ max_bytes) (one : (at k : ℕ) → at ≤ length s → value_begun d s at ≡ Err (Lacks k) → Found d s at k) where
  -- a value that is whole before a row
  row-behind : (n q x k : ℕ) → value_begun d s q ≡ Ok x → RowFound d s n x k → RowFound d s (suc n) q k
  row-behind n q x k e f =
      let w = end-sound d s q x ((value-agree d s small q).0 x e) in
      let a = f.deep in
      let b = w.deep in
      record {
        vs = more w.v f.vs;
        many = ap suc f.many;
        ok = (w.ok, f.ok);
        deep = omega arith;
        rest =
            record {
              q = f.rest.q;
              is = ap (enc w.v) f.rest.is ∙ enc-more w.v (drop x s) f.rest.q ∙ ap (λ (y : Bytes). y ++ f.rest.q) (sym w.is);
              long = f.rest.long;
            };
      }

  -- a value that is not, before nulls
  row-nulls : (n q j k : ℕ) → Found d s q j → j + 3 * n ≡ k → RowFound d s (suc n) q k
  row-nulls n q j k f e =
      let N : Bytes = encs (nulls n) [] in
      let a = f.deep in
      let b = nulls-deep n in
      let c = f.rest.long in
      let l = nulls-long n in
      record {
        vs = more f.v (nulls n);
        many = ap suc (nulls-count n);
        ok = (f.ok, nulls-valid n);
        deep = omega arith;
        rest =
            record {
              q = f.rest.q ++ N;
              is = enc-more f.v [] N ∙ ap (λ (y : Bytes). y ++ N) f.rest.is ∙ append_assoc (drop q s) f.rest.q N;
              long = omega (arith, length-append f.rest.q N);
            };
      }

  row-found : (n q k : ℕ) → q ≤ length s → row_begun d s n q ≡ Err (Lacks k) → RowFound d s n q k
  unfolding row_begun iter
  row-found zero q k l h = absurd (ends-lacks q k h)
  row-found (suc n) q k l h = go (value_begun d s q) refl h (λ x i j. row-found n x k i j)
    where
      go : (x : Result ℕ NotWhole) → value_begun d s q ≡ x → begun_then x n (λ z. iter (λ y. value_begun d s y) n z) ≡ Err (Lacks k)
          → ((z : ℕ) → z ≤ length s → row_begun d s n z ≡ Err (Lacks k) → RowFound d s n z k) → RowFound d s (suc n) q k
      go (Ok x) e h f = row-behind n q x k e (f x (end-bounds d s q x ((value-agree d s small q).0 x e)).1 h)
      go (Err (Lacks j)) e h f = row-nulls n q j k (one q j l e) (row-says j n k h)
      go (Err Never) e h f = absurd (never-lacks k h)

  -- ---- behind a first byte

  -- a value of a kind that goes on as what stands at p does, and is k longer
  record Fills (kind : Kind) (p k : ℕ) : Type 0 where
    v : Value
    ok : Valid v
    deep : below v ≤ d
    body : Bytes
    is : enc v [] ≡ byte_of kind ∷ body
    rest : Rest body s p k

  module _ (p k : ℕ) where
    -- rows behind their count
    made : (kind : Kind) (a b n : ℕ) (m : Makes kind a b) (ws : Values) → count ws ≡ a * n + b → Valids ws → deepest ws ≤ d
        → Rest (counted n (encs ws [])) s p k → Fills kind p k
    made kind a b n m ws c o e r =
        record { v = m.make n ws; ok = m.valid n ws c o; deep = m.deep n ws d c e; body = counted n (encs ws []); is = m.written n ws [] c; rest = r }

    made-nulls : (kind : Kind) (a b n x : ℕ) (m : Makes kind a b) → lacking_below d x (a * n + b) ≡ Err (Lacks k)
        → ((j : ℕ) → x + 3 * (a * n + b) ≡ j → Rest (counted n (encs (nulls (a * n + b)) [])) s p j) → Fills kind p k
    made-nulls kind a b n x m h f =
        let z = below-says d x (a * n + b) k h in
        made kind a b n m (nulls (a * n + b)) (nulls-count (a * n + b)) (nulls-valid (a * n + b)) z.1 (f k z.0)

    rowed : (kind : Kind) (a b : ℕ) → Makes kind a b → ((a * 0 + b) ≡ b)
        → head_then (row_of d a b (count_begun max_bytes s p)) (λ n e. row_begun d s n e) ≡ Err (Lacks k) → Fills kind p k
    unfolding digits
    rowed kind a b m zb h = go (count_begun max_bytes s p) refl h
      where
        alone : (x n : ℕ) → head_then (alone_of (lacking_below d x n)) (λ n e. row_begun d s n e) ≡ Err (Lacks k) → lacking_below d x n ≡ Err (Lacks k)
        alone x n h = sym (alone-is d s (lacking_below d x n)) ∙ h

        go : (c : Count) → count_begun max_bytes s p ≡ c → head_then (row_of d a b c) (λ n e. row_begun d s n e) ≡ Err (Lacks k) → Fills kind p k
        go (Whole n e) c h =
            let w = whole-bounds max_bytes s p n e c in
            let r = row-found (a * n + b) e k w.1 h in
            made kind a b n m r.vs r.many r.ok r.deep
            (record {
              q = r.rest.q;
              is = fill-whole s p n n e r.rest.q (encs r.vs []) refl (behind s p max_bytes n e c)
                  r.rest.is;
              long = r.rest.long;
            })
        go Nothing c h =
            made-nulls kind a b 0 3 m (rw zb (alone 3 b h))
            (λ j e.
            let l = nulls-long (a * 0 + b) in
            record {
              q = counted 0 (encs (nulls (a * 0 + b)) []);
              is = fill-nothing s p 0 (encs (nulls (a * 0 + b)) [])
                  (count-says max_bytes s p Nothing c);
              long = omega arith;
            })
        go (Digits n) c h =
            made-nulls kind a b n 2 m (alone 2 (a * n + b) h)
            (λ j e.
            let l = nulls-long (a * n + b) in
            record {
              q = crlf (encs (nulls (a * n + b)) []);
              is = fill-digits s p n n (encs (nulls (a * n + b)) []) refl
                  (count-says max_bytes s p (Digits n) c).1;
              long = omega arith;
            })
        go (Ended n) c h =
            made-nulls kind a b n 1 m (alone 1 (a * n + b) h)
            (λ j e.
            let l = nulls-long (a * n + b) in
            record {
              q = 10 ∷ encs (nulls (a * n + b)) [];
              is = fill-ended s p n n (encs (nulls (a * n + b)) []) refl
                  (count-says max_bytes s p (Ended n) c).1;
              long = omega arith;
            })
        go NoCount c h = absurd (never-lacks k h)

    -- values with none inside
    single : (kind : Kind) (v : Value) (body : Bytes) → Valid v → below v ≤ d → enc v [] ≡ byte_of kind ∷ body → Rest body s p k → Fills kind p k
    single kind v body o l e r = record { v = v; ok = o; deep = l; body = body; is = e; rest = r }

    by_kind : (kind : Kind) → p ≤ length s → head_then (body_begun d kind s p) (λ n e. row_begun d s n e) ≡ Err (Lacks k) → Fills kind p k
    unfolding body_begun
    by_kind BlobString l h =
        ⊎_elim
        (λ f. single BlobString (null_as blob_null) _ tt (omega arith) refl f)
        (λ f. single BlobString (blob_string f.0) _ tt (omega arith) refl f.1)
        (string-found s p k (sym (alone-is d s _) ∙ h))
    by_kind SimpleString l h =
        let f = line-found s p k l (sym (alone-is d s _) ∙ h) in
        single SimpleString (simple_string f.0) _ f.1 (omega arith) refl f.2
    by_kind SimpleError l h =
        let f = line-found s p k l (sym (alone-is d s _) ∙ h) in
        single SimpleError (simple_error f.0) _ f.1 (omega arith) refl f.2
    by_kind Number l h = let f = integer-found s p k (sym (alone-is d s _) ∙ h) in single Number (number f.0) _ f.1 (omega arith) refl f.2
    by_kind Null l h = single Null null _ tt (omega arith) refl (crlf-found s p k l (sym (alone-is d s _) ∙ h))
    by_kind Double l h = let f = line-found s p k l (sym (alone-is d s _) ∙ h) in single Double (double f.0) _ f.1 (omega arith) refl f.2
    by_kind Boolean l h = let f = boolean-found s p k l (sym (alone-is d s _) ∙ h) in single Boolean (boolean f.0) _ tt (omega arith) refl f.1
    by_kind BlobError l h = let f = blob-found s p k (sym (alone-is d s _) ∙ h) in single BlobError (blob_error f.0) _ tt (omega arith) refl f.1
    by_kind VerbatimString l h =
        let f = verbatim-found s p k (sym (alone-is d s _) ∙ h) in
        single VerbatimString (verbatim_string f.0 f.1) _ f.2 (omega arith) refl f.3
    by_kind BigNumber l h = let f = line-found s p k l (sym (alone-is d s _) ∙ h) in single BigNumber (big_number f.0) _ f.1 (omega arith) refl f.2
    by_kind Array l h = rowed Array 1 0 array_makes refl h
    by_kind Map l h = rowed Map 2 0 map-makes refl h
    by_kind Set l h = rowed Set 1 0 set-makes refl h
    by_kind Attribute l h = rowed Attribute 2 1 attribute-makes refl h
    by_kind Push l h = rowed Push 1 0 push-makes refl h
    by_kind Unknown l h = absurd (never-lacks k h)

  -- a value, from what stands behind its first byte
  opened : (at k : ℕ) → at < length s → (get_or s at 0 ≡ byte_of (kind_of (get_or s at 0))) → Fills (kind_of (get_or s at 0)) (at + 1) k → Found (suc d) s at k
  opened at k l e f =
      let b = f.deep in
      record {
        v = f.v;
        ok = f.ok;
        deep = omega arith;
        rest =
            record {
              q = f.rest.q;
              is =
                  f.is
                  ∙ ap (λ (y : Bytes). byte_of (kind_of (get_or s at 0)) ∷ y) f.rest.is
                  ∙ ap (λ (y : Bytes). y ++ f.rest.q) (sym (step s at l ∙ ap (λ (x : ℕ). x ∷ drop (at + 1) s) e));
              long = f.rest.long;
            };
      }

  -- no kind begins nothing
  unknown : (at k : ℕ) → kind_of (get_or s at 0) ≡ Unknown
      → head_then (body_begun d (kind_of (get_or s at 0)) s (at + 1)) (λ n e. row_begun d s n e) ≡ Err (Lacks k) → ⊥
  unfolding body_begun
  unknown at k u h = never-lacks k (rw u at h)

  -- a value, by the kind of its first byte
  kind-opened : (at k : ℕ) → head_then (kind_begun d s at) (λ n e. row_begun d s n e) ≡ Err (Lacks k) → Found (suc d) s at k
  unfolding kind_begun
  kind-opened at k h =
      by_test (leb (length s) at)
      (λ t.
      let e : drop at s ≡ [] = drop_of_length-le s {i = at} (leb-true (length s) at t) in
      record {
        v = null;
        ok = tt;
        deep = omega arith;
        rest = record {
          q = enc null [];
          is = ap (λ (y : Bytes). y ++ enc null [])
              (sym e);
          long = lacks-same 3 k (rw t at h);
        };
      })
      (λ t.
      let o = leb-false (length s) at t in
      let b = rw t at h in
      ⊎_elim
      (λ e. opened at k o e (by_kind (at + 1) k (kind_of (get_or s at 0)) (omega arith) b))
      (λ u. absurd (unknown at k u b))
      (kind-known (get_or s at 0)))

  value-opened : (at k : ℕ) → value_begun (suc d) s at ≡ Err (Lacks k) → Found (suc d) s at k
  unfolding value_begun head_begun row_begun
  value-opened at k h =
      by_test (null_word_b s at)
      (λ w.
      let f = null-found s at k w (sym (alone-is d s _) ∙ rw w at h) in
      record { v = null_as f.0; ok = tt; deep = omega arith; rest = f.1 })
      (λ w. kind-opened at k (rw w at h))

-- no value nests at most 0 deep
zero-never : (s : Bytes) (at k : ℕ) → value_begun 0 s at ≡ Err (Lacks k) → ◌≡◌ {A = Result ℕ NotWhole} (Err Never) (Err (Lacks k))
unfolding value_begun
zero-never s at k h = h

-- bytes that lack k begin a value's, which is k longer
pub value_found : (d : ℕ) (s : Bytes) → length s ≤ max_bytes → (at k : ℕ) → at ≤ length s → value_begun d s at ≡ Err (Lacks k) → Found d s at k
value_found zero s small at k l h = absurd (never-lacks k (zero-never s at k h))
value_found (suc d) s small at k l h = value-opened d s small (λ a j i e. value_found d s small a j i e) at k h
