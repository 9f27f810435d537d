-- Reading at a place of a slice: where a thing ends, or the first wrong offset; the laws by which code goes from one thing to the next.
-- Assumes nothing.
use Rattle.std.proofs.Math.Path.{◌≡◌, refl, ap}
use Rattle.std.proofs.Common.{sym, ◌∙◌, arith, length-append, drop_of_length-le, drop-cons, drop-drop}
use Rattle.std.specs.Prelude.{Bool, true, false, List, ◌∷◌, Result, Ok, Err}
use Prim.Native.Nat.{ℕ, suc, ◌+◌, ◌-◌, ◌≤◌, ◌<◌}
use Rattle.std.proofs.Math.Numerals.{add-one}
use Rattle.std.proofs.Math.ListN.{length, drop, get_or, length-drop}
use Rattle.std.proofs.Math.Seq.{drop-append_seam}
use Rattle.format.specs.Format.{Read, ok, bad, short, Format, read_byte, byte_f}
use Rattle.format.specs.Both.{both_f, then_read, after}
use Rattle.format.specs.Map.{From, map_f, map_read}
use Rattle.format.specs.Runs.{many_f, rep}
use Rattle.format.specs.declared.Wrong.{Wrong}

-- the bytes are wrong at o
abbrev pub wrong : {A : Type 0} → ℕ → Result A Wrong
wrong o = Err (record { at = o })

-- which one
offset_of : {A : Type 0} → Result A Wrong → ℕ
offset_of (Ok a) = 0
offset_of (Err w) = w.at

pub same_offset : {A : Type 0} (o p : ℕ) → wrong {A = A} o ≡ wrong p → o ≡ p
unfolding offset_of
same_offset o p e = ap offset_of e

-- what a reading of s from `at` on found, as a place
unfoldable pub end_of : {A : Type 0} → List ℕ → ℕ → Read A → Result ℕ Wrong
end_of s at (ok a u) = Ok (length s - length u)
end_of s at (bad o) = wrong (at + o)
end_of s at short = wrong (length s)

-- where the thing at `at` ends
unfoldable pub end_at : {A : Type 0} → Format A → List ℕ → ℕ → Result ℕ Wrong
end_at f s at = end_of s at (f.read (drop at s))

-- a is read at `at`, and ends at e
pub record Got {A : Type 0} (f : Format A) (s : List ℕ) (at : ℕ) (a : A) (e : ℕ) : Type 0 where
  pub is : f.read (drop at s) ≡ ok a (drop e s)
  pub ends : e ≡ at + length (f.enc a)
  pub inside : e ≤ length s

-- something is read at `at`, and ends at e
pub record Some {A : Type 0} (f : Format A) (s : List ℕ) (at e : ℕ) : Type 0 where
  pub value : A
  pub got : Got f s at value e

module _ {A : Type 0} (f : Format A) (s : List ℕ) (at : ℕ) where
  pub got_of : at ≤ length s → (a : A) (u : List ℕ) → f.read (drop at s) ≡ ok a u → Got f s at a (length s - length u)
  got_of h a u k =
      let i = f.sound (drop at s) a u k in
      let n = length (f.enc a) in
      let l : length s - at ≡ n + length u = sym (length-drop at s) ∙ ap length i.bytes ∙ length-append (f.enc a) u in
      let e : length s - length u ≡ at + n = omega arith in
      let d : drop (at + n) s ≡ u = sym (drop-drop n at s) ∙ ap (drop n) i.bytes ∙ drop-append_seam (f.enc a) u in
      record { is = k ∙ ap (ok a) (sym d ∙ ap (λ (m : ℕ). drop m s) (sym e)); ends = e; inside = omega arith }

  -- where something ends, it was read
  pub some_at : at ≤ length s → (e : ℕ) → end_at f s at ≡ Ok e → Some f s at e
  unfolding end_at end_of
  some_at h e q = go (f.read (drop at s)) refl q
    where
      go : (r : Read A) → f.read (drop at s) ≡ r → end_of s at r ≡ Ok e → Some f s at e
      go (ok a u) k q = let z : length s - length u ≡ e = cc in record { value = a; got = rw z at (got_of h a u k) }
      go (bad o) k q = let z : ◌≡◌ {A = ℕ} 0 1 = cc in absurd (omega arith)
      go short k q = let z : ◌≡◌ {A = ℕ} 0 1 = cc in absurd (omega arith)

  -- where something was read, it ends
  pub at_some : (a : A) (e : ℕ) → Got f s at a e → end_at f s at ≡ Ok e
  unfolding end_at end_of
  at_some a e g = let l = length-drop e s in let h = g.inside in rw g.is (ap Ok (omega arith))

  module _ {B : Type 0} (g : A → Format B) where
    -- on from the first to the second
    pub both_go : (a : A) (e : ℕ) → Got f s at a e → end_at (both_f f g) s at ≡ end_at (g a) s e
    unfolding end_at end_of
    both_go a e w = rw w.is (go ((g a).read (drop e s)))
      where
        go : (r : Read B) → end_of s at (after f.enc a r) ≡ end_of s e r
        go (ok b v) = refl
        go (bad o) = let z = w.ends in ap wrong (omega arith)
        go short = refl

    pub both-wrong : (o : ℕ) → end_at f s at ≡ wrong o → end_at (both_f f g) s at ≡ wrong o
    unfolding end_at end_of
    both-wrong o q = go (f.read (drop at s)) refl q
      where
        go : (r : Read A) → f.read (drop at s) ≡ r → end_of s at r ≡ wrong o → end_of s at (then_read f.enc r (λ a u. (g a).read u)) ≡ wrong o
        go (ok a u) k q = let z : ◌≡◌ {A = ℕ} 0 1 = cc in absurd (omega arith)
        go (bad m) k q = q
        go short k q = q

  module _ {B : Type 0} (to : A → B) (enc : B → List ℕ) (valid : B → Type 0)
      (written : (a : A) → f.valid a → enc (to a) ≡ f.enc a)
      (kept : (a : A) → f.valid a → valid (to a))
      (onto : (b : B) → valid b → From f.valid to b) where
    pub map-end : end_at (map_f f to enc valid written kept onto) s at ≡ end_at f s at
    unfolding end_at end_of
    map-end = go (f.read (drop at s))
      where
        go : (r : Read A) → end_of s at (map_read to r) ≡ end_of s at r
        go (ok a u) = refl
        go (bad o) = refl
        go short = refl

-- ---- a byte

module _ (p : ℕ → Bool) (w : ℕ) (h : p w ≡ true) (s : List ℕ) (at : ℕ) where
  pub byte-got : at < length s → p (get_or s at 0) ≡ true → Got (byte_f p w h) s at (get_or s at 0) (at + 1)
  unfolding read_byte
  byte-got l t =
      record {
        is = let e : drop at s ≡ get_or s at 0 ∷ drop (at + 1) s = rw add-one (drop-cons s at 0 l) in rw (e, t);
        ends = refl;
        inside = omega arith;
      }

  -- a byte that does not pass
  pub byte-bad : at < length s → p (get_or s at 0) ≡ false → end_at (byte_f p w h) s at ≡ wrong at
  unfolding read_byte end_at end_of
  byte-bad l t = let e : drop at s ≡ get_or s at 0 ∷ drop (at + 1) s = rw add-one (drop-cons s at 0 l) in rw (e, t) (ap wrong (omega arith))

  -- no byte
  pub byte-out : length s ≤ at → end_at (byte_f p w h) s at ≡ wrong (length s)
  unfolding read_byte end_at end_of
  byte-out l = rw (drop_of_length-le s {i = at} l)

-- ---- n of a kind

module _ {A : Type 0} (f : Format A) (s : List ℕ) where
  -- where n of them from at on end
  unfoldable pub many_end : ℕ → ℕ → Result ℕ Wrong
  many_end n at = end_at (rep f n).form s at

  -- the same for the format of n
  pub many_is : (n at : ℕ) → end_at (many_f f n) s at ≡ many_end n at
  unfolding many_end
  many_is n at = map-end (rep f n).form s at _ _ _ _ _ _

  -- none is left
  pub many-none : (at : ℕ) → at ≤ length s → many_end 0 at ≡ Ok at
  unfolding many_end rep end_at end_of
  many-none at h = ap Ok (omega (arith, length-drop at s))

  -- one, and the others behind it
  pub many-go : (n m at e : ℕ) → m ≡ n + 1 → at ≤ length s → end_at f s at ≡ Ok e → many_end m at ≡ many_end n e
  unfolding many_end rep
  many-go n m at e q h k =
      let w = some_at f s at h e k in
      let z : m ≡ suc n = q ∙ add-one n in
      rw z (map-end (both_f f (λ a. (rep f n).form)) s at _ _ _ _ _ _ ∙ both_go f s at (λ a. (rep f n).form) w.value e w.got)

  -- the first is wrong
  pub many-wrong : (n m at o : ℕ) → m ≡ n + 1 → end_at f s at ≡ wrong o → many_end m at ≡ wrong o
  unfolding many_end rep
  many-wrong n m at o q k =
      let z : m ≡ suc n = q ∙ add-one n in
      rw z (map-end (both_f f (λ a. (rep f n).form)) s at _ _ _ _ _ _ ∙ both-wrong f s at (λ a. (rep f n).form) o k)
