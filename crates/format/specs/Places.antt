-- What code finds at a place: numbers, given bytes, texts and lists, one law for each way that it can go on. Assumes nothing.
use Rattle.std.specs.Prelude.{◌≡◌, refl, Result, Ok, List, [], ◌∷◌, ◌++◌, ℕ, suc, ◌+◌, ◌^◌, ◌≤◌, ◌<◌, length, take, drop, get_or}
use Rattle.std.proofs.Common.{sym, ◌∙◌, arith, add-one, take-append-drop, length-take-le, eq-eqb, ne_eqb}
use Rattle.std.proofs.Math.Path.{ap}
use Rattle.std.proofs.Math.Dec.{eqb}
use Rattle.std.proofs.Math.ListN.{length-drop}
use Rattle.buffer.specs.Field.{Octets, read_le}
use Rattle.buffer.specs.FieldLaws.{length-le, read_at}
use Rattle.format.specs.Format.{Format}
use Rattle.format.specs.Both.{both_f}
use Rattle.format.specs.Runs.{bytes_f, many_f}
use Rattle.format.specs.Numbers.{digit_b, digit-yes, digit-no, digit-zero, digit_f, Digits, rest_of, upto, number_f}
use Rattle.format.specs.Words.{lit_f, word, word_f, list_f, text_f}
use Rattle.format.specs.Ends.{wrong, end_at, end_of, Got, some_at, both_go, both-wrong, map-end, byte-got, byte-bad, byte-out, many_end, many_is}
use Rattle.format.specs.Skips.{skip_end, skips-end, skip-bytes}
use Rattle.format.specs.declared.Wrong.{Wrong}

-- ---- a number of w bytes that is at most m

-- where it ends
unfoldable pub number_end : ℕ → ℕ → List ℕ → ℕ → Result ℕ Wrong
number_end w m s at = end_at (upto w m).form s at

-- its first byte, and the others with what is left of m
byte-map : (w m : ℕ) (s : List ℕ) (at : ℕ) → number_end (suc w) m s at ≡ end_at (both_f (digit_f m) (λ b. (upto w (rest_of m b)).form)) s at
unfolding number_end upto
byte-map w m s at = map-end (Digits w m (λ b. upto w (rest_of m b))) s at _ _ _ _ _ _

-- no byte is left
pub number-none : (m : ℕ) (s : List ℕ) (at : ℕ) → at ≤ length s → number_end 0 m s at ≡ Ok at
unfolding number_end upto end_at end_of
number-none m s at h = ap Ok (omega (arith, length-drop at s))

-- the bytes end
pub number-out : (w v m : ℕ) (s : List ℕ) (at : ℕ) → v ≡ w + 1 → length s ≤ at → number_end v m s at ≡ wrong (length s)
number-out w v m s at q h =
    let z : v ≡ suc w = q ∙ add-one w in
    rw z (byte-map w m s at ∙ both-wrong (digit_f m) s at (λ b. (upto w (rest_of m b)).form) (length s) (byte-out (digit_b m) 0 (digit-zero m) s at h))

-- the byte makes more than m
pub number-bad : (w v m : ℕ) (s : List ℕ) (at : ℕ) → v ≡ w + 1 → at < length s → m < get_or s at 0 → number_end v m s at ≡ wrong at
number-bad w v m s at q h k =
    let z : v ≡ suc w = q ∙ add-one w in
    rw z (byte-map w m s at ∙ both-wrong (digit_f m) s at (λ b. (upto w (rest_of m b)).form) at
    (byte-bad (digit_b m) 0 (digit-zero m) s at h (digit-no m (get_or s at 0) k)))

-- the byte is fine
pub number-go : (w v m : ℕ) (s : List ℕ) (at : ℕ) → v ≡ w + 1 → at < length s → get_or s at 0 < 256 → get_or s at 0 ≤ m
    → number_end v m s at ≡ number_end w (rest_of m (get_or s at 0)) s (at + 1)
unfolding number_end
number-go w v m s at q h b k =
    let z : v ≡ suc w = q ∙ add-one w in
    rw z
    (byte-map w m s at
    ∙ both_go (digit_f m) s at (λ b. (upto w (rest_of m b)).form) (get_or s at 0) (at + 1)
    (byte-got (digit_b m) 0 (digit-zero m) s at h (digit-yes m (get_or s at 0) b k)))

module _ (w m : ℕ) (q : m < 256 ^ w) (s : List ℕ) (at : ℕ) where
  pub number-end : end_at (number_f w m q) s at ≡ number_end w m s at
  unfolding number_end
  number-end = map-end (upto w m).form s at _ _ _ _ _ _

  -- the number that was read is what its bytes spell
  spelled : (n e : ℕ) → at ≤ length s → Got (number_f w m q) s at n e → (read_le w s at ≡ n) × (e ≡ at + w)
  spelled n e h g =
      let i = (number_f w m q).sound (drop at s) n (drop e s) g.is in
      let k : n ≤ m = i.fine in
      let l = length-le w n in
      let d = g.ends in (
        ap (λ (l : List ℕ). read_le w l at) (sym (take-append-drop at s) ∙ ap (λ (l : List ℕ). take at s ++ l) i.bytes)
            ∙ read_at w (take at s) (drop e s) n at (length-take-le at s h) (omega arith),
        omega arith,
      )

  -- where it ends, its bytes spell it
  pub number_is : (e : ℕ) → at ≤ length s → number_end w m s at ≡ Ok e → Got (number_f w m q) s at (read_le w s at) e × (e ≡ at + w) × (e ≤ length s)
  number_is e h k =
      let x = some_at (number_f w m q) s at h e (number-end ∙ k) in
      let y = spelled x.value e h x.got in
      (rw y.0 x.got, y.1, x.got.inside)

-- it lies inside
pub number-inside : (w m : ℕ) (s : List ℕ) (at : ℕ) → m < 256 ^ w → (e : ℕ) → at ≤ length s → number_end w m s at ≡ Ok e → (e ≡ at + w) × (e ≤ length s)
number-inside w m s at q e h k = let g = number_is w m q s at e h k in (g.1, g.2)

-- ---- the given bytes bs

-- where they end
unfoldable pub word_end : List ℕ → List ℕ → ℕ → Result ℕ Wrong
word_end bs s at = end_at (word bs).form s at

module _ (s : List ℕ) (at : ℕ) where
  pub word_end_lem : (bs : List ℕ) → end_at (word_f bs) s at ≡ word_end bs s at
  unfolding word_end
  word_end_lem bs = map-end (word bs).form s at _ _ _ _ _ _

  -- none is left
  pub word_none : at ≤ length s → word_end [] s at ≡ Ok at
  unfolding word_end word end_at end_of
  word_none h = ap Ok (omega (arith, length-drop at s))

  module _ (b : ℕ) (bs : List ℕ) where
    lit-map : word_end (b ∷ bs) s at ≡ end_at (both_f (lit_f b) (λ a. (word bs).form)) s at
    unfolding word_end word
    lit-map = map-end (both_f (lit_f b) (λ a. (word bs).form)) s at _ _ _ _ _ _

    pub word_out : length s ≤ at → word_end (b ∷ bs) s at ≡ wrong (length s)
    word_out h = lit-map ∙ both-wrong (lit_f b) s at (λ a. (word bs).form) (length s) (byte-out (λ y. eqb y b) b _ s at h)

    pub word-bad : at < length s → (get_or s at 0 ≡ b → ⊥) → word_end (b ∷ bs) s at ≡ wrong at
    word-bad h k = lit-map ∙ both-wrong (lit_f b) s at (λ a. (word bs).form) at (byte-bad (λ y. eqb y b) b _ s at h (ne_eqb (get_or s at 0) b k))

    pub word-go : at < length s → get_or s at 0 ≡ b → word_end (b ∷ bs) s at ≡ word_end bs s (at + 1)
    unfolding word_end
    word-go h k =
        lit-map
        ∙ both_go (lit_f b) s at (λ a. (word bs).form) (get_or s at 0) (at + 1) (byte-got (λ y. eqb y b) b (eq-eqb b b refl) s at h (eq-eqb (get_or s at 0) b k))

-- ---- a list or a text behind its number

module _ (w m : ℕ) (q : m < 256 ^ w) (s : List ℕ) (at : ℕ) where
  module _ {A : Type 0} (f : Format A) where
    list-map : end_at (list_f w m q f) s at ≡ end_at (both_f (number_f w m q) (λ n. many_f f n)) s at
    list-map = map-end (both_f (number_f w m q) (λ n. many_f f n)) s at _ _ _ _ _ _

    pub list-wrong : (o : ℕ) → number_end w m s at ≡ wrong o → end_at (list_f w m q f) s at ≡ wrong o
    list-wrong o k = list-map ∙ both-wrong (number_f w m q) s at (λ n. many_f f n) o (number-end w m q s at ∙ k)

    pub list-go : (e : ℕ) → at ≤ length s → number_end w m s at ≡ Ok e → end_at (list_f w m q f) s at ≡ many_end f s (read_le w s at) e
    list-go e h k = list-map ∙ both_go (number_f w m q) s at (λ n. many_f f n) (read_le w s at) e (number_is w m q s at e h k).0 ∙ many_is f s (read_le w s at) e

  -- as its length and its bytes
  text-map : end_at (text_f w m q) s at ≡ end_at (both_f (number_f w m q) (λ n. bytes_f n)) s at
  text-map = map-end (both_f (number_f w m q) (λ n. bytes_f n)) s at _ _ _ _ _ _

  -- its length is wrong
  pub text-wrong : (o : ℕ) → number_end w m s at ≡ wrong o → end_at (text_f w m q) s at ≡ wrong o
  text-wrong o k = text-map ∙ both-wrong (number_f w m q) s at (λ n. bytes_f n) o (number-end w m q s at ∙ k)

  -- on from its length to its bytes
  pub text-go : (e : ℕ) → Octets s → at ≤ length s → number_end w m s at ≡ Ok e → end_at (text_f w m q) s at ≡ skip_end (length s) e (read_le w s at)
  text-go e b h k =
      let g = number_is w m q s at e h k in
      text-map
      ∙ both_go (number_f w m q) s at (λ n. bytes_f n) (read_le w s at) e g.0
      ∙ skips-end (bytes_f (read_le w s at)) (read_le w s at) (skip-bytes (read_le w s at)) s b e g.2
