-- Where a cursor stands: at the start of a list, at an element, at the next one. Assumes nothing.
use Rattle.std.specs.Prelude.{◌≡◌, refl, false, [], ◌∷◌, ◌++◌, ℕ, ◌-◌, ◌≤◌, eqb, length, get_or, take, drop, None}
use Rattle.std.proofs.Common.{ap, ◌∙◌, arith, length-append, length-drop, take_at, ne_eqb, eq-eqb}
use Rattle.std.proofs.Math.Option.{some}
use Rattle.buffer.specs.Same.{Bytes}
use Rattle.buffer.specs.Cases.{by_test}
use Rattle.config.specs.Limits.{max_depth}
use Rattle.resp3.specs.declared.Kind.TheVariants.{Array, Push}
use Rattle.resp3.specs.Kinds.{byte_of}
use Rattle.resp3.specs.Value.{Value, Values, blob_string, simple_string, simple_error, number, null_as, double, boolean, blob_error, verbatim_string}
use Rattle.resp3.specs.Value.{big_number, array, map, set, attribute, push, none, more, count, deepest, Valids, counted, encs, encode, Means}
use Rattle.resp3.specs.Ends.{length_at}
use Rattle.resp3.specs.Nulls.{word-length}
use Rattle.resp3.specs.Rows.{enc-is, longer, room}
use Rattle.resp3.specs.Reads.{length-reads}
use Rattle.resp3.proofs.Complete.{read-law}
use Rattle.resp3_element.specs.declared.Cursor.{Cursor}
use Rattle.resp3_element.specs.Meaning.{value_kind, array_of, push_of, Stands, Holds}
use Rattle.resp3_element.specs.Places.{stand_at, list_at}
use Rattle.resp3_element.specs.Law.{bytes-are, by-begin}

-- before values that stand at `at` and end with the slice
pub stand-law : (s : Bytes) (at n : ℕ) (vs : Values) → n ≡ count vs → at ≤ length s → drop at s ≡ encs vs [] → Valids vs → deepest vs ≤ max_depth
    → Stands s (stand_at s at n) vs
unfolding stand_at
stand-law s at n none e i h ok l =
    rw (eq-eqb n 0 e)
    (record { inside = record { order = omega arith; within = i }; left = e; ok = tt; deep = omega arith; here = h; after = h })
stand-law s at n (more v vs) e i h ok l =
    let z = read-law max_depth s v ok.0 (omega arith) at (encs vs []) h in
    let k = longer v (encs vs []) in
    let m : at ≤ z.e = omega (arith, z.within, length-drop at s, ap length h, length-drop z.e s, ap length z.rest) in
    rw (ne_eqb n 0 (λ y. omega arith), z.is)
    (record { inside = record { order = m; within = z.within }; left = e; ok = ok; deep = l; here = h; after = z.rest })

-- the bytes of the cursor's element
abbrev pub element_of : Bytes → Cursor → Bytes
element_of s c = take (c.end - c.at) (drop c.at s)

-- they are the first of the values before which it stands
pub element-law : (s : Bytes) (c : Cursor) (v : Value) (vs : Values) → Stands s c (more v vs) → Means (element_of s c) v
element-law s c v vs w =
    let h : drop c.at s ≡ encode v ++ encs vs [] = w.here ∙ enc-is v (encs vs []) in
    let n : length (encode v) ≡ c.end - c.at = omega
    (arith, w.inside.order, w.inside.within, simp (length-append, length-drop) at (ap length h), simp length-drop at (ap length w.after)) in
    record { ok = w.ok.0; deep = omega (arith, w.deep); is = ap (take (c.end - c.at)) h ∙ take_at (encode v) (encs vs []) (c.end - c.at) n }

-- the next cursor stands before the others
pub next-law : (s : Bytes) (c : Cursor) (v : Value) (vs : Values) → Stands s c (more v vs) → Stands s (stand_at s c.end (c.left - 1)) vs
next-law s c v vs w = stand-law s c.end (c.left - 1) vs (omega (arith, w.left)) w.inside.within w.after w.ok.1 (omega (arith, w.deep))

-- ---- lists

-- a value that begins with another byte
list-not : (b : ℕ) (s : Bytes) (v : Value) → Means s v → eqb (byte_of (value_kind v)) b ≡ false → list_at b s ≡ None
unfolding list_at
list-not b s v m e =
    by-begin s v m (λ w f. rw (f, e)) (λ w n. rw (word-length s 0 w) (by_test (eqb (get_or s 0 0) b) (λ t. rw t) (λ t. rw t)))

-- a count and as many values, behind b
list-is : (b : ℕ) (s : Bytes) (vs : Values) → Valids vs → deepest vs ≤ max_depth → s ≡ b ∷ counted (count vs) (encs vs []) → Holds s (list_at b s) (some vs)
unfolding list_at length_at
list-is b s vs ok l h =
    let f : get_or s 0 0 ≡ b = ap (λ (x : Bytes). get_or x 0 0) h in
    let k = length-reads s 1 (count vs) (encs vs []) (omega (arith, room vs [])) (ap (drop 1) h) in
    rw (eq-eqb (get_or s 0 0) b f, k.is) (stand-law s k.e (count vs) vs refl k.within k.rest ok l)

-- what is found of an array
pub array-law : (s : Bytes) (v : Value) → Means s v → Holds s (list_at (byte_of Array) s) (array_of v)
array-law s (blob_string xs) m = rw (list-not _ s _ m refl) tt
array-law s (simple_string xs) m = rw (list-not _ s _ m refl) tt
array-law s (simple_error xs) m = rw (list-not _ s _ m refl) tt
array-law s (number z) m = rw (list-not _ s _ m refl) tt
array-law s (null_as q) m = rw (list-not _ s _ m refl) tt
array-law s (double xs) m = rw (list-not _ s _ m refl) tt
array-law s (boolean b) m = rw (list-not _ s _ m refl) tt
array-law s (blob_error xs) m = rw (list-not _ s _ m refl) tt
array-law s (verbatim_string f xs) m = rw (list-not _ s _ m refl) tt
array-law s (big_number xs) m = rw (list-not _ s _ m refl) tt
array-law s (array vs) m = list-is _ s vs m.ok (omega (arith, m.deep)) (bytes-are s (array vs) m)
array-law s (map ps) m = rw (list-not _ s _ m refl) tt
array-law s (set vs) m = rw (list-not _ s _ m refl) tt
array-law s (attribute ps v) m = rw (list-not _ s _ m refl) tt
array-law s (push vs) m = rw (list-not _ s _ m refl) tt

-- what is found of a push
pub push-law : (s : Bytes) (v : Value) → Means s v → Holds s (list_at (byte_of Push) s) (push_of v)
push-law s (blob_string xs) m = rw (list-not _ s _ m refl) tt
push-law s (simple_string xs) m = rw (list-not _ s _ m refl) tt
push-law s (simple_error xs) m = rw (list-not _ s _ m refl) tt
push-law s (number z) m = rw (list-not _ s _ m refl) tt
push-law s (null_as q) m = rw (list-not _ s _ m refl) tt
push-law s (double xs) m = rw (list-not _ s _ m refl) tt
push-law s (boolean b) m = rw (list-not _ s _ m refl) tt
push-law s (blob_error xs) m = rw (list-not _ s _ m refl) tt
push-law s (verbatim_string f xs) m = rw (list-not _ s _ m refl) tt
push-law s (big_number xs) m = rw (list-not _ s _ m refl) tt
push-law s (array vs) m = rw (list-not _ s _ m refl) tt
push-law s (map ps) m = rw (list-not _ s _ m refl) tt
push-law s (set vs) m = rw (list-not _ s _ m refl) tt
push-law s (attribute ps v) m = rw (list-not _ s _ m refl) tt
push-law s (push vs) m = list-is _ s vs m.ok (omega (arith, m.deep)) (bytes-are s (push vs) m)
