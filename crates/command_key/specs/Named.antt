-- A name, a key and a path: how long they are together, compared and copied piece by piece. Assumes nothing.
use Rattle.std.specs.Prelude.{◌≡◌, refl, Bool, true, false, cond, [], ◌++◌, ℕ, ◌+◌, ◌-◌, ◌≤◌, length}
use Rattle.std.proofs.Common.{sym, ap, ap₂, ◌∙◌, append-nil, arith, length-append}
use Rattle.buffer.specs.Same.{Bytes, same}
use Rattle.buffer.specs.SameLaws.{same-append, same_length}
use Rattle.buffer.specs.Part.{part, put}
use Rattle.buffer.specs.PartLaws.{part-all, part-add, length_part}
use Rattle.cursor.specs.At.{range_bytes, RangeIn}
use Rattle.cursor.specs.declared.Range.{Range}
use Rattle.command_key.specs.Key.{name_bytes}
use Rattle.buffer.specs.Copied.{copied-start, copied_next, copied-done}
use Rattle.command_key.specs.Keys.{range_length, cut_of, range-cut, cut-length}

-- a name is short
pub name-length : (json : Bool) → length (name_bytes json) ≤ 8
unfolding name_bytes
name-length true = omega arith
name-length false = omega arith

-- how long they are together
pub named-length : (s : Bytes) (json : Bool) (g p : Range) → RangeIn s g → RangeIn s p
    → length (name_bytes json ++ (range_bytes s g ++ range_bytes s p)) ≡ length (name_bytes json) + (g.end - g.start) + (p.end - p.start)
named-length s json g p v w =
    let a = range_length s g v in
    let b = range_length s p w in
    length-append (name_bytes json) (range_bytes s g ++ range_bytes s p)
    ∙ ap (λ (z : ℕ). length (name_bytes json) + z) (length-append (range_bytes s g) (range_bytes s p))
    ∙ omega arith

-- compared piece by piece
same-pieces : (t X Y : Bytes) (at : ℕ) → at + (length X + length Y) ≤ length t
    → same (part t at (length X + length Y)) (X ++ Y) ≡ cond (same (part t at (length X)) X) (same (part t (at + length X) (length Y)) Y) false
same-pieces t X Y at h =
    ap (λ (z : Bytes). same z (X ++ Y)) (part-add t at (length X) (length Y))
    ∙ same-append (part t at (length X)) (part t (at + length X) (length Y)) X Y (length_part t at (length X) (omega arith))

module _ (t N K P : Bytes) where
  -- of another length
  pub named_other : (length t ≡ length N + length K + length P → ⊥) → same t (N ++ (K ++ P)) ≡ false
  named_other h = same_length t (N ++ (K ++ P)) (λ z. h (z ∙ length-append N (K ++ P) ∙ ap (λ (k : ℕ). length N + k) (length-append K P) ∙ omega arith))

  module _ (e : length t ≡ length N + length K + length P) where
    pieces : same t (N ++ (K ++ P))
        ≡ cond (same (part t 0 (length N)) N) (cond (same (part t (length N) (length K)) K) (same (part t (length N + length K) (length P)) P) false) false
    pieces =
        let l = length-append K P in
        let a : part t 0 (length N + length (K ++ P)) ≡ t = ap (part t 0) (omega arith) ∙ part-all t in
        let b : same (part t (0 + length N) (length (K ++ P))) (K ++ P)
        ≡ cond (same (part t (length N) (length K)) K) (same (part t (length N + length K) (length P)) P) false =
        ap₂ (λ (i : ℕ) (j : ℕ). same (part t i j) (K ++ P)) (omega arith) l ∙ same-pieces t K P (length N) (omega arith) in
        ap (λ (z : Bytes). same z (N ++ (K ++ P))) (sym a)
        ∙ same-pieces t N (K ++ P) 0 (omega arith)
        ∙ ap (λ (z : Bool). cond (same (part t 0 (length N)) N) z false) b

    pub named-name : same (part t 0 (length N)) N ≡ false → same t (N ++ (K ++ P)) ≡ false
    named-name z = pieces ∙ rw z

    pub named-key : same (part t 0 (length N)) N ≡ true → same (part t (length N) (length K)) K ≡ false → same t (N ++ (K ++ P)) ≡ false
    named-key z y = pieces ∙ rw (z, y)

    pub named-path : same (part t 0 (length N)) N ≡ true → same (part t (length N) (length K)) K ≡ true
        → same t (N ++ (K ++ P)) ≡ same (part t (length N + length K) (length P)) P
    named-path z y = pieces ∙ rw (z, y)

-- ---- as the code goes

-- how much room they need, and how long what is cut out is
pub record Space (s : Bytes) (json : Bool) (g p : Range) : Type 0 where
  pub all : length (name_bytes json ++ (range_bytes s g ++ range_bytes s p)) ≡ length (name_bytes json) + (g.end - g.start) + (p.end - p.start)
  pub name : length (name_bytes json) ≤ 8
  pub key : length (cut_of s g) ≡ g.end - g.start
  pub path : length (cut_of s p) ≡ p.end - p.start

-- both ranges lie inside
pub space : (s : Bytes) (json : Bool) (g p : Range) → RangeIn s g → RangeIn s p → Space s json g p
space s json g p v w = record { all = named-length s json g p v w; name = name-length json; key = cut-length s g v; path = cut-length s p w }

module _ (t s : Bytes) (json : Bool) (g p : Range) (v : RangeIn s g) (w : RangeIn s p) (n : ℕ) (q : n ≡ length (name_bytes json)) where
  pub same-other : (length t ≡ n + (g.end - g.start) + (p.end - p.start) → ⊥) → same t (name_bytes json ++ (range_bytes s g ++ range_bytes s p)) ≡ false
  same-other h =
      named_other t (name_bytes json) (range_bytes s g) (range_bytes s p) (λ z. h (z ∙ ap₂ ◌+◌ (ap₂ ◌+◌ (sym q) (range_length s g v)) (range_length s p w)))

  module _ (e : length t ≡ n + (g.end - g.start) + (p.end - p.start)) where
    long : length t ≡ length (name_bytes json) + length (range_bytes s g) + length (range_bytes s p)
    long = e ∙ sym (ap₂ ◌+◌ (ap₂ ◌+◌ (sym q) (range_length s g v)) (range_length s p w))

    cut-key : same (part t n (length (cut_of s g))) (cut_of s g) ≡ same (part t (length (name_bytes json)) (length (range_bytes s g))) (range_bytes s g)
    cut-key = ap₂ (λ (i : ℕ) (x : Bytes). same (part t i (length x)) x) q (range-cut s g)

    cut-path : same (part t (n + (g.end - g.start)) (length (cut_of s p))) (cut_of s p)
        ≡ same (part t (length (name_bytes json) + length (range_bytes s g)) (length (range_bytes s p))) (range_bytes s p)
    cut-path = ap₂ (λ (i : ℕ) (x : Bytes). same (part t i (length x)) x) (ap₂ ◌+◌ q (sym (range_length s g v))) (range-cut s p)

    pub same_name : same (part t 0 (length (name_bytes json))) (name_bytes json) ≡ false → same t (name_bytes json ++ (range_bytes s g ++ range_bytes s p)) ≡ false
    same_name z = named-name t (name_bytes json) (range_bytes s g) (range_bytes s p) long z

    module _ (y : same (part t 0 (length (name_bytes json))) (name_bytes json) ≡ true) where
      pub same_key : same (part t n (length (cut_of s g))) (cut_of s g) ≡ false → same t (name_bytes json ++ (range_bytes s g ++ range_bytes s p)) ≡ false
      same_key z = named-key t (name_bytes json) (range_bytes s g) (range_bytes s p) long y (sym cut-key ∙ z)

      pub same-path : same (part t n (length (cut_of s g))) (cut_of s g) ≡ true
          → same t (name_bytes json ++ (range_bytes s g ++ range_bytes s p)) ≡ same (part t (n + (g.end - g.start)) (length (cut_of s p))) (cut_of s p)
      same-path z = named-path t (name_bytes json) (range_bytes s g) (range_bytes s p) long y (sym cut-key ∙ z) ∙ sym cut-path

-- copied piece by piece
pub named-copied : (d d₁ d₂ d₃ s : Bytes) (json : Bool) (g p : Range) (to n : ℕ) → RangeIn s g → RangeIn s p
    → to + length (name_bytes json ++ (range_bytes s g ++ range_bytes s p)) ≤ length d → n ≡ length (name_bytes json)
    → d₁ ≡ put d to (name_bytes json) → d₂ ≡ put d₁ (to + n) (cut_of s g) → d₃ ≡ put d₂ (to + n + (g.end - g.start)) (cut_of s p)
    → d₃ ≡ put d to (name_bytes json ++ (range_bytes s g ++ range_bytes s p))
named-copied d d₁ d₂ d₃ s json g p to n v w h q u₁ u₂ u₃ =
    let N : Bytes = name_bytes json in
    let K : Bytes = range_bytes s g in
    let P : Bytes = range_bytes s p in
    let k : ℕ = to + n in
    let r : ℕ = to + n + (g.end - g.start) in
    let l = range_length s g v in
    let c₀ = copied-start d (N ++ (K ++ P)) to h in
    let c₁ = copied_next d (N ++ (K ++ P)) d d₁ N (N ++ (K ++ P)) (K ++ P) to to k refl (omega arith) u₁ c₀ in
    let c₂ = copied_next d (N ++ (K ++ P)) d₁ d₂ K (K ++ P) P to k r refl (omega arith) (u₂ ∙ ap (put d₁ k) (range-cut s g)) c₁ in
    let c₃ = copied_next d (N ++ (K ++ P)) d₂ d₃ P P [] to r (r + length P) (sym (append-nil P)) refl (u₃ ∙ ap (put d₂ r) (range-cut s p)) c₂ in
    copied-done d (N ++ (K ++ P)) d₃ [] to (r + length P) refl c₃
