-- Bytes that end inside a valid value are found to lack no more than the value has behind them: whole values. Assumes nothing.
use Rattle.std.specs.Prelude.{◌≡◌, true, false, [], ◌∷◌, ◌++◌, ℕ, zero, suc, ◌+◌, ◌-◌, ◌≤◌, ◌<◌, leb, length, get_or, drop}
use Rattle.std.proofs.Math.Path.{refl}
use Rattle.std.proofs.Common.{sym, ap, ◌∙◌, arith, length-drop, leb-true, leb-false}
use Rattle.std.proofs.Math.ListN.{length-append}
use Rattle.buffer.specs.Cases.{by_test}
use Rattle.buffer.specs.Same.{Bytes}
use Rattle.config.specs.Limits.{max_bytes}
use Rattle.resp3.specs.declared.Kind.{Kind}
use Rattle.resp3.specs.declared.Kind.TheVariants.{BlobString, SimpleString, SimpleError, Number, Null, Double, Boolean, BlobError, VerbatimString}
use Rattle.resp3.specs.declared.Kind.TheVariants.{BigNumber, Array, Map, Set, Attribute, Push}
use Rattle.resp3.specs.Kinds.{byte_of, kind_of}
use Rattle.resp3.specs.KindLaws.{kind-byte}
use Rattle.resp3.specs.Value.{underscore, blob_null, array_null, Value, Values, Pairs, blob_string, simple_string, simple_error, number, null_as, double, boolean}
use Rattle.resp3.specs.Value.{blob_error, verbatim_string, big_number, array, map, set, attribute, push, none, more, count, count_pairs, below, deepest}
use Rattle.resp3.specs.Value.{deepest_pairs, depth, Valid, Valids, ValidPairs, crlf, counted, enc, encs, enc_pairs}
use Rattle.resp3.specs.Ends.{null_byte_b, null_word_b}
use Rattle.resp3.specs.Nulls as ends
use Rattle.resp3.specs.Rows.{flat, flat-enc, flat-count, flat-valid, flat-deep}
use Rattle.resp3_prefix.specs.declared.Count.{Count}
use Rattle.resp3_prefix.specs.Begun.{count_begun, row_of, body_begun, head_then, value_begun, row_begun}
use Rattle.resp3_prefix.specs.Paths as paths
use Rattle.resp3_prefix.specs.Nulls.{string-out}
use Rattle.resp3_prefix.specs.Pieces.{Early, lacks}
use Rattle.resp3_prefix.specs.SameRows.{alone-is}
use Rattle.resp3_prefix.specs.Early.{early-as, open-byte, line-early, blob-early, string-early, verbatim-early, no_minus, integer-early, crlf-early}
use Rattle.resp3_prefix.specs.Early.{boolean-early, one-early}
use Rattle.resp3_prefix.specs.EarlyRows.{three-long, counted-early}

-- what is lacking of a value that is within the limit of bytes
abbrev pub ValueEarly : ℕ → Bytes → Type 0
ValueEarly d s =
    (v : Value) → Valid v → depth v ≤ d → length (enc v []) ≤ max_bytes → (at : ℕ) → at ≤ length s → (q : Bytes) → 0 < length q → enc v [] ≡ drop at s ++ q
    → Early (value_begun d s at) (length q)

module _ (d : ℕ) (s : Bytes) (small : length s ≤ max_bytes) (one : ValueEarly d s) (at : ℕ) (l : at ≤ length s) (q : Bytes) (o : 0 < length q) where
  -- behind a first byte
  abbrev Behind : Kind → Type 0
  Behind k = Early (head_then (body_begun d k s (at + 1)) (λ n e. row_begun d s n e)) (length q)

  -- where no null of RESP2's begins, a value's first byte says its kind, and what is behind it is read by that
  by_kind : (v : Value) (k : Kind) (body : Bytes) → null_word_b s at ≡ false → enc v [] ≡ byte_of k ∷ body → enc v [] ≡ drop at s ++ q
      → (at + 1 ≤ length s → body ≡ drop (at + 1) s ++ q → Behind k) → Early (value_begun (suc d) s at) (length q)
  by_kind v k body w h e f =
      let j : suc d - 1 ≡ d = omega arith in
      let r = paths.head-kind (suc d - 1) s at w in
      open-byte s at (byte_of k) body q (sym h ∙ e)
      (λ i g.
      let z = three-long v [] in
      lacks 3 (paths.value-head (suc d) s at _ (λ y. omega arith) (r ∙ paths.kind-out (suc d - 1) s at i)) (omega (arith, ap length g, ap length h)))
      (λ i b g.
      let c : kind_of (get_or s at 0) ≡ k = ap kind_of b ∙ kind-byte k in
      early-as
      (paths.value-head (suc d) s at _ (λ y. omega arith) (r ∙ paths.kind-is (suc d - 1) s at k i c)
      ∙ ap (λ (i : ℕ). head_then (body_begun i k s (at + 1)) (λ n e. row_begun i s n e)) j)
      (f (omega arith) g))

  -- a kind whose byte begins none of them
  at-kind : (v : Value) (k : Kind) (body : Bytes) → null_byte_b (byte_of k) ≡ false → enc v [] ≡ byte_of k ∷ body → enc v [] ≡ drop at s ++ q
      → (at + 1 ≤ length s → body ≡ drop (at + 1) s ++ q → Behind k) → Early (value_begun (suc d) s at) (length q)
  at-kind v k body n h e f = by_kind v k body word h e f
    where
      word : null_word_b s at ≡ false
      word =
          open-byte s at (byte_of k) body q (sym h ∙ e) (λ i g. ends.word_out s at (omega arith)) (λ i b g. ends.word-other s at (ap null_byte_b b ∙ n))

  -- a kind with a length or a count, which has no sign
  at_count : (v : Value) (k : Kind) (n : ℕ) (r : Bytes) → enc v [] ≡ byte_of k ∷ counted n r → enc v [] ≡ drop at s ++ q
      → (at + 1 ≤ length s → counted n r ≡ drop (at + 1) s ++ q → Behind k) → Early (value_begun (suc d) s at) (length q)
  at_count v k n r h e f = by_kind v k (counted n r) word h e f
    where
      word : null_word_b s at ≡ false
      word =
          open-byte s at (byte_of k) (counted n r) q (sym h ∙ e) (λ i g. ends.word_out s at (omega arith))
          (λ i b g. ends.word-minus s at (no_minus s (at + 1) (omega arith) q o n r g))

  -- a null of RESP2's whose minus stands there
  null-minus : (b : ℕ) → null_byte_b b ≡ true → at + 1 < length s → b ∷ 45 ∷ 49 ∷ crlf [] ≡ drop at s ++ q → Early (value_begun (suc d) s at) (length q)
  null-minus b n i e =
      let two : at + 1 + 1 ≡ at + 2 = omega arith in
      open-byte s at b (45 ∷ 49 ∷ crlf []) q e (λ l g. absurd (omega arith))
      (λ l x g.
      open-byte s (at + 1) 45 (49 ∷ crlf []) q g (λ m z. absurd (omega arith))
      (λ m y z.
      let w = ends.word_byte s at y ∙ ap null_byte_b x ∙ n in
      early-as
      (paths.value-head (suc d) s at _ (λ y. omega arith) (paths.head-null (suc d - 1) s at w)
      ∙ alone-is (suc d - 1) s _)
      (one-early s (at + 2) (omega arith) q o (z ∙ ap (λ (i : ℕ). drop i s ++ q) two))))

  -- any such null, where it is told what is lacking behind its first byte alone
  null-early : (v : Value) (k : Kind) → null_byte_b (byte_of k) ≡ true → enc v [] ≡ byte_of k ∷ 45 ∷ 49 ∷ crlf [] → enc v [] ≡ drop at s ++ q
      → (length s ≤ at + 1 → 4 ≤ length q → Behind k) → Early (value_begun (suc d) s at) (length q)
  null-early v k n h e f =
      by_test (leb (length s) (at + 1))
      (λ t.
      let l = leb-true (length s) (at + 1) t in
      by_kind v k (45 ∷ 49 ∷ crlf []) (ends.word_out s at l) h e
      (λ i g. f l (omega (arith, ap length g, length-append (drop (at + 1) s) q, length-drop (at + 1) s))))
      (λ t. null-minus (byte_of k) n (leb-false (length s) (at + 1) t) (sym h ∙ e))

  -- rows laid out from pairs
  pairs-early : (k : Kind) (b : ℕ) (ps : Pairs) (vs : Values) → count vs ≡ b → ValidPairs ps → Valids vs → deepest_pairs ps ≤ d → deepest vs ≤ d
      → length (counted (count_pairs ps) (enc_pairs ps (encs vs []))) ≤ max_bytes → at + 1 ≤ length s
      → counted (count_pairs ps) (enc_pairs ps (encs vs [])) ≡ drop (at + 1) s ++ q
      → Early (head_then (row_of d 2 b (count_begun max_bytes s (at + 1))) (λ n e. row_begun d s n e)) (length q)
  pairs-early k b ps vs c ok vk dp dv m i e =
      let w = flat-enc ps vs [] in
      let n = flat-count ps vs in
      counted-early d s small one 2 b (count_pairs ps) (flat ps vs) (omega arith) (λ j h. omega arith) (omega arith) (omega arith)
      (flat-valid ps vs ok vk) (flat-deep ps vs d dp dv) (rw w m) (at + 1) i q o (ap (counted (count_pairs ps)) w ∙ e)

  value-step : (v : Value) → Valid v → below v ≤ d → length (enc v []) ≤ max_bytes → enc v [] ≡ drop at s ++ q → Early (value_begun (suc d) s at) (length q)
  unfolding body_begun
  value-step (blob_string x) ok dp m e =
      at_count (blob_string x) BlobString _ _ refl e
      (λ i g. early-as (alone-is d s _) (string-early s (at + 1) i q o x (let k = simp length-append at m in omega arith) g))
  value-step (simple_string x) ok dp m e =
      at-kind (simple_string x) SimpleString _ refl refl e (λ i g. early-as (alone-is d s _) (line-early s (at + 1) i q o x ok g))
  value-step (simple_error x) ok dp m e =
      at-kind (simple_error x) SimpleError _ refl refl e (λ i g. early-as (alone-is d s _) (line-early s (at + 1) i q o x ok g))
  value-step (number z) ok dp m e = at-kind (number z) Number _ refl refl e (λ i g. early-as (alone-is d s _) (integer-early s (at + 1) i q o z ok g))
  value-step (null_as underscore) ok dp m e =
      at-kind (null_as underscore) Null _ refl refl e (λ i g. early-as (alone-is d s _) (crlf-early s (at + 1) i q o g))
  value-step (null_as blob_null) ok dp m e =
      null-early (null_as blob_null) BlobString refl refl e (λ i g. early-as (alone-is d s _) (lacks 4 (string-out s (at + 1) i) g))
  value-step (null_as array_null) ok dp m e =
      null-early (null_as array_null) Array refl refl e
      (λ i g.
      early-as (ap (λ (c : Count). head_then (row_of d 1 0 c) (λ n e. row_begun d s n e)) (paths.count-out max_bytes s (at + 1) i) ∙ alone-is d s _)
      (lacks 3 (paths.below_none d 3 0 refl) (omega arith)))
  value-step (double x) ok dp m e = at-kind (double x) Double _ refl refl e (λ i g. early-as (alone-is d s _) (line-early s (at + 1) i q o x ok g))
  value-step (boolean b) ok dp m e = at-kind (boolean b) Boolean _ refl refl e (λ i g. early-as (alone-is d s _) (boolean-early s (at + 1) i q o b g))
  value-step (blob_error x) ok dp m e =
      at-kind (blob_error x) BlobError _ refl refl e
      (λ i g. early-as (alone-is d s _) (blob-early s (at + 1) i q o x (let k = simp length-append at m in omega arith) g))
  value-step (verbatim_string f x) ok dp m e =
      at-kind (verbatim_string f x) VerbatimString _ refl refl e
      (λ i g. early-as (alone-is d s _)
      (verbatim-early s (at + 1) i q o f x ok (let k = simp length-append at m in let j = length-append f (58 ∷ x) in omega arith) g))
  value-step (big_number x) ok dp m e = at-kind (big_number x) BigNumber _ refl refl e (λ i g. early-as (alone-is d s _) (line-early s (at + 1) i q o x ok g))
  value-step (array vs) ok dp m e =
      at_count (array vs) Array _ _ refl e
      (λ i g. counted-early d s small one 1 0 (count vs) vs (omega arith) (λ j h. omega arith) (omega arith) (omega arith) ok dp (omega arith) (at + 1) i q o g)
  value-step (map ps) ok dp m e = at-kind (map ps) Map _ refl refl e (λ i g. pairs-early Map 0 ps none refl ok tt dp (omega arith) (omega arith) i g)
  value-step (set vs) ok dp m e =
      at-kind (set vs) Set _ refl refl e
      (λ i g. counted-early d s small one 1 0 (count vs) vs (omega arith) (λ j h. omega arith) (omega arith) (omega arith) ok dp (omega arith) (at + 1) i q o g)
  value-step (attribute ps v) ok dp m e =
      at-kind (attribute ps v) Attribute _ refl refl e
      (λ i g. pairs-early Attribute 1 ps (more v none) refl ok.0 (ok.1, tt) (omega arith) (omega arith) (omega arith) i g)
  value-step (push vs) ok dp m e =
      at-kind (push vs) Push _ refl refl e
      (λ i g. counted-early d s small one 1 0 (count vs) vs (omega arith) (λ j h. omega arith) (omega arith) (omega arith) ok dp (omega arith) (at + 1) i q o g)

-- bytes that end inside a value lack no more than it has behind them
pub value-early : (d : ℕ) (s : Bytes) → length s ≤ max_bytes → ValueEarly d s
value-early zero s small v ok dp m at l q o e = absurd (omega arith)
value-early (suc d) s small v ok dp m at l q o e =
    value-step d s small (λ w a b c i j k x y. value-early d s small w a b c i j k x y) at l q o v ok (omega arith) m e
