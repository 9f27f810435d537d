-- A law for each way through the code of the check: the given bytes and arguments. Commands and the record are in CommandPaths.antt. Assumes nothing.
use Rattle.std.specs.Prelude.{◌≡◌, Result, Ok, Err, IsErrAnd, Bool, cond, List, ◌∷◌, ℕ, zero, suc, ◌+◌, ◌≤◌, ◌<◌, eqb, ltb, length, drop, get_or}
use Rattle.std.proofs.Math.Path.{refl}
use Rattle.std.proofs.Common.{sym, ap, ◌∙◌, arith, add-one, ltb-true, ltb-false, drop_of_length-le, drop-cons, lt-ltb, le-ltb}
use Rattle.buffer.specs.Cases.{by_test}
use Rattle.buffer.specs.Field.{Octets, read32}
use Rattle.format.specs.declared.Wrong.{Wrong}
use Rattle.format.specs.Format.{Format, byte_f}
use Rattle.format.specs.Ends.{wrong, same_offset, end_at, some_at, both_go, both-wrong, map-end, byte-got, byte-bad, byte-out, many_end, many-none, many-go, many-wrong}
use Rattle.format.specs.Skips.{skip_end}
use Rattle.format.specs.Places.{number_end, number-inside, word_end, word_none, word_out, word-bad, word-go, text-wrong, text-go}
use Rattle.call_record.specs.Formats.{text_max, text-fits, body_f, kind_b, KindBody, argument_f}

-- what `?` hands on
pub handed_on : {A : Type 0} (r : Result A Wrong) (w : Wrong) → IsErrAnd r (λ e. e ≡ w) → r ≡ Err w
handed_on (Ok a) w q = absurd q
handed_on (Err e) w q = ap Err q

-- ---- a byte

-- the byte at a place, or that the bytes end
unfoldable pub byte_at : List ℕ → ℕ → Result ℕ Wrong
byte_at s at = cond (ltb at (length s)) (Ok (get_or s at 0)) (wrong (length s))

-- inside the bytes, and behind them
pub byte-there : (s : List ℕ) (at : ℕ) → at < length s → byte_at s at ≡ Ok (get_or s at 0)
unfolding byte_at
byte-there s at h = rw (lt-ltb at (length s) h)

pub byte-behind : (s : List ℕ) (at : ℕ) → length s ≤ at → byte_at s at ≡ wrong (length s)
unfolding byte_at
byte-behind s at h = rw (le-ltb at (length s) h)

-- it is there
pub byte-is : (s : List ℕ) (at b : ℕ) → byte_at s at ≡ Ok b → (at < length s) × (get_or s at 0 ≡ b)
unfolding byte_at
byte-is s at b e =
    by_test (ltb at (length s))
    (λ t. let k : Ok (get_or s at 0) ≡ Ok b = rw t at e in (ltb-true at (length s) t, let z : get_or s at 0 ≡ b = cc in z))
    (λ t. let k : wrong (length s) ≡ Ok b = rw t at e in absurd (let z : ◌≡◌ {A = ℕ} 0 1 = cc in omega arith))

-- the bytes end
pub byte-past : (s : List ℕ) (at : ℕ) (w : Wrong) → byte_at s at ≡ Err w → (length s ≤ at) × (w.at ≡ length s)
unfolding byte_at
byte-past s at w e =
    by_test (ltb at (length s))
    (λ t. let k : Ok (get_or s at 0) ≡ Err w = rw t at e in absurd (let z : ◌≡◌ {A = ℕ} 0 1 = cc in omega arith))
    (λ t. let k : wrong (length s) ≡ wrong w.at = rw t at e in (ltb-false at (length s) t, sym (same_offset (length s) w.at k)))

-- ---- the given bytes, byte by byte

module _ (bs s : List ℕ) (k i : ℕ) (h : k < length bs) where
  rest-is : drop k bs ≡ get_or bs k 0 ∷ drop (k + 1) bs
  rest-is = rw add-one (drop-cons bs k 0 h)

  -- the bytes end
  pub turn-out : length s ≤ i → word_end (drop k bs) s i ≡ wrong (length s)
  turn-out l = rw rest-is (word_out s i (get_or bs k 0) (drop (k + 1) bs) l)

  -- another byte
  pub turn-bad : i < length s → (get_or s i 0 ≡ get_or bs k 0 → ⊥) → word_end (drop k bs) s i ≡ wrong i
  turn-bad l n = rw rest-is (word-bad s i (get_or bs k 0) (drop (k + 1) bs) l n)

  -- the same byte
  pub turn-go : i < length s → get_or s i 0 ≡ get_or bs k 0 → word_end (drop k bs) s i ≡ word_end (drop (k + 1) bs) s (i + 1)
  turn-go l e = rw rest-is (word-go s i (get_or bs k 0) (drop (k + 1) bs) l e)

-- all were there
pub turn-done : (bs s : List ℕ) (k i : ℕ) → length bs ≤ k → i ≤ length s → word_end (drop k bs) s i ≡ Ok i
turn-done bs s k i h l = rw (drop_of_length-le bs {i = k} h) (word_none s i l)

-- ---- n of a kind

-- on from where one ends
abbrev pub behind : Result ℕ Wrong → (ℕ → Result ℕ Wrong) → Result ℕ Wrong
behind (Ok e) others = others e
behind (Err w) others = Err w

-- where n of them end, one behind the other
unfoldable pub many : (ℕ → Result ℕ Wrong) → ℕ → ℕ → Result ℕ Wrong
many one zero at = Ok at
many one (suc n) at = behind (one at) (many one n)

module _ (one : ℕ → Result ℕ Wrong) where
  -- none is left
  pub many-done : (n at : ℕ) → n ≡ 0 → many one n at ≡ Ok at
  unfolding many
  many-done n at z = rw z refl

  module _ (n m at : ℕ) (q : m ≡ n + 1) where
    next : many one m at ≡ behind (one at) (many one n)
    unfolding many
    next = let z : m ≡ suc n = q ∙ add-one n in rw z refl

    -- one, and the others behind it
    pub many-next : (e : ℕ) → one at ≡ Ok e → many one m at ≡ many one n e
    many-next e k = next ∙ rw k refl

    -- the first is wrong
    pub many-bad : (w : Wrong) → one at ≡ Err w → many one m at ≡ Err w
    many-bad w k = next ∙ rw k refl

-- those of a format
pub many-of : {A : Type 0} (f : Format A) (s : List ℕ) (n at : ℕ) → at ≤ length s → many (end_at f s) n at ≡ many_end f s n at
unfolding many
many-of f s zero at h = sym (many-none f s at h)
many-of f s (suc n) at h = go (end_at f s at) refl (λ e k. many-of f s n e (some_at f s at h e k).got.inside)
  where
    go : (r : Result ℕ Wrong) → end_at f s at ≡ r → ((e : ℕ) → end_at f s at ≡ Ok e → many (end_at f s) n e ≡ many_end f s n e)
        → behind r (many (end_at f s) n) ≡ many_end f s (suc n) at
    go (Ok e) k others = others e k ∙ sym (many-go f s n (suc n) at e (sym (add-one n)) h k)
    go (Err w) k others = sym (many-wrong f s n (suc n) at w.at (sym (add-one n)) k)

-- what is asked of code that finds the end of one: it may be called at each place up to m, and finds what `one` says, which is no place behind m
pub record Finds (may : ℕ → Type 0) (gives : ℕ → Result ℕ Wrong → Type 0) (m : ℕ) (one : ℕ → Result ℕ Wrong) : Type 0 where
  pub called : (i : ℕ) → i ≤ m → may i
  pub found : (i : ℕ) (r : Result ℕ Wrong) → i ≤ m → gives i r → r ≡ one i
  pub inside : (i e : ℕ) → i ≤ m → one i ≡ Ok e → e ≤ m

-- ---- an argument

-- an argument's length and bytes
unfoldable pub text_end : Bool → List ℕ → ℕ → Result ℕ Wrong
text_end b s at = end_at (body_f b) s at

module _ (b : Bool) (m : ℕ) (q : m ≡ text_max b) (s : List ℕ) (at : ℕ) where
  pub text-no : (o : ℕ) → number_end 4 m s at ≡ wrong o → text_end b s at ≡ wrong o
  unfolding text_end
  text-no o k = text-wrong 4 (text_max b) (text-fits b) s at o (rw q at k)

  -- a length that was read lies inside
  pub text-inside : (e : ℕ) → at ≤ length s → number_end 4 m s at ≡ Ok e → (at + 4 ≤ length s) × (e ≤ length s)
  text-inside e h k = let w = number-inside 4 (text_max b) s at (text-fits b) e h (rw q at k) in let z = w.0 in let i = w.1 in (omega arith, i)

  -- on to the bytes
  pub text-on : (e n : ℕ) → Octets s → at ≤ length s → number_end 4 m s at ≡ Ok e → n ≡ read32 s at → text_end b s at ≡ skip_end (length s) e n
  unfolding text_end
  text-on e n o h k z = rw z (text-go 4 (text_max b) (text-fits b) s at e o h (rw q at k))

-- where an argument ends
unfoldable pub argument_end : List ℕ → ℕ → Result ℕ Wrong
argument_end s at = end_at argument_f s at

-- as kind, length and bytes
arg-map : (s : List ℕ) (at : ℕ) → argument_end s at ≡ end_at KindBody s at
unfolding argument_end
arg-map s at = map-end KindBody s at _ _ _ _ _ _

-- by its kind
abbrev body_of : ℕ → Format (List ℕ)
body_of k = body_f (eqb k 0)

module _ (s : List ℕ) (at : ℕ) where
  pub arg-out : (w : Wrong) → byte_at s at ≡ Err w → argument_end s at ≡ Err w
  arg-out w q =
      let z = byte-past s at w q in
      arg-map s at ∙ both-wrong (byte_f kind_b 0 refl) s at body_of (length s) (byte-out kind_b 0 refl s at z.0) ∙ sym (ap wrong z.1)

  module _ (b : ℕ) (q : byte_at s at ≡ Ok b) where
    -- no kind
    pub arg-kind : 2 ≤ b → argument_end s at ≡ wrong at
    arg-kind k =
        let z = byte-is s at b q in
        arg-map s at ∙ both-wrong (byte_f kind_b 0 refl) s at body_of at (byte-bad kind_b 0 refl s at z.0 (rw z.1 (le-ltb b 2 k)))

    -- on to length and bytes
    pub arg-go : b < 2 → argument_end s at ≡ text_end (eqb b 0) s (at + 1)
    unfolding text_end
    arg-go l =
        let z = byte-is s at b q in
        arg-map s at
        ∙ both_go (byte_f kind_b 0 refl) s at body_of b (at + 1) (rw z.1 at (byte-got kind_b 0 refl s at z.0 (rw z.1 (lt-ltb b 2 l))))

-- it lies inside
pub arg-inside : (s : List ℕ) (at e : ℕ) → at ≤ length s → argument_end s at ≡ Ok e → e ≤ length s
unfolding argument_end
arg-inside s at e h k = (some_at argument_f s at h e k).got.inside
