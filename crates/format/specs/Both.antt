-- One thing after the other, the second by the value of the first: its format, with the laws. Assumes nothing.
use Rattle.std.specs.Prelude.{◌≡◌, refl, List, [], ◌++◌, ℕ, ◌+◌, length, take}
use Rattle.std.proofs.Common.{sym, ap, ◌∙◌, append_assoc, arith, length-append}
use Rattle.std.proofs.Math.Seq.{take-append-add}
use Rattle.format.specs.Format.{Read, ok, bad, short, Stuck, Is, Format}
use Rattle.format.specs.Begins.{Begins}

-- ---- one after the other, the second by the value of the first

-- the second behind a whole first
abbrev pub after : {A : Type 0} {B : Type 0} → (A → List ℕ) → A → Read B → Read (A × B)
after enc a (ok b v) = ok (a, b) v
after enc a (bad o) = bad (length (enc a) + o)
after enc a short = short

-- the second by what the first read
abbrev pub then_read : {A : Type 0} {B : Type 0} → (A → List ℕ) → Read A → (A → List ℕ → Read B) → Read (A × B)
then_read enc (ok a u) g = after enc a (g a u)
then_read enc (bad o) g = bad o
then_read enc short g = short

module _ {A : Type 0} {B : Type 0} (f : Format A) (g : A → Format B) where
  abbrev pub both_read : List ℕ → Read (A × B)
  both_read s = then_read f.enc (f.read s) (λ a u. (g a).read u)

  -- the bytes of both
  abbrev pub both_enc : A × B → List ℕ
  both_enc x = f.enc x.0 ++ (g x.0).enc x.1

  -- both are valid
  abbrev pub BothValid : A × B → Type 0
  BothValid x = f.valid x.0 × (g x.0).valid x.1

  -- what is valid is read
  pub both-complete : (x : A × B) (u : List ℕ) → BothValid x → both_read (both_enc x ++ u) ≡ ok x u
  both-complete x u h =
      rw (append_assoc, f.complete x.0 ((g x.0).enc x.1 ++ u) h.0, (g x.0).complete x.1 u h.1)

  -- what was read of the second, behind a whole first
  pub second-sound : (s : List ℕ) (a : A) (u : List ℕ) → f.read s ≡ ok a u → (r : Read B) → (g a).read u ≡ r → (x : A × B) (v : List ℕ)
      → after f.enc a r ≡ ok x v → Is both_enc BothValid s x v
  second-sound s a u e (ok b w) k x v q =
      let i = f.sound s a u e in
      let j = (g a).sound u b w k in
      let z : (a, b) ≡ x = cc in
      let y : w ≡ v = cc in
      rw (← z, ← y) (record {
        fine = (i.fine, j.fine);
        bytes = i.bytes ∙ ap (λ (l : List ℕ). f.enc a ++ l) j.bytes
            ∙ sym (append_assoc (f.enc a) ((g a).enc b) w);
      })
  second-sound s a u e (bad o) k x v q = let z : ◌≡◌ {A = ℕ} 0 1 = cc in absurd (omega arith)
  second-sound s a u e short k x v q = let z : ◌≡◌ {A = ℕ} 0 1 = cc in absurd (omega arith)

  -- what is read was valid and so written
  pub both-sound : (s : List ℕ) (x : A × B) (v : List ℕ) → both_read s ≡ ok x v → Is both_enc BothValid s x v
  both-sound s x v = go (f.read s) refl
    where
      go : (r : Read A) → f.read s ≡ r → then_read f.enc r (λ a u. (g a).read u) ≡ ok x v → Is both_enc BothValid s x v
      go (ok a u) e q = second-sound s a u e ((g a).read u) refl x v q
      go (bad o) e q = let z : ◌≡◌ {A = ℕ} 0 1 = cc in absurd (omega arith)
      go short e q = let z : ◌≡◌ {A = ℕ} 0 1 = cc in absurd (omega arith)

  -- a beginning of the first, and of the second behind a whole first
  pub begins-first : (s : List ℕ) → Begins f.enc f.valid s → Begins both_enc BothValid s
  begins-first s b =
      let d = (g b.value).one in
      record {
        value = (b.value, d.value);
        rest = b.rest ++ (g b.value).enc d.value;
        fine = (b.fine, d.fine);
        bytes = ap (λ (l : List ℕ). l ++ (g b.value).enc d.value) b.bytes ∙ append_assoc s b.rest ((g b.value).enc d.value);
      }

  -- a beginning of the second behind a whole first
  pub begins-second : (a : A) (u : List ℕ) → f.valid a → Begins (g a).enc (g a).valid u → Begins both_enc BothValid (f.enc a ++ u)
  begins-second a u h b =
      record {
        value = (a, b.value);
        rest = b.rest;
        fine = (h, b.fine);
        bytes = ap (λ (l : List ℕ). f.enc a ++ l) b.bytes ∙ sym (append_assoc (f.enc a) u b.rest);
      }

  -- a wrong byte in the second
  pub second_stuck : (s : List ℕ) (a : A) (u : List ℕ) → f.read s ≡ ok a u → (r : Read B) → (g a).read u ≡ r → (o : ℕ)
      → after f.enc a r ≡ bad o → Stuck both_read both_enc BothValid s o
  second_stuck s a u e (ok b w) k o q = let z : ◌≡◌ {A = ℕ} 0 1 = cc in absurd (omega arith)
  second_stuck s a u e (bad m) k o q =
      let i = f.sound s a u e in
      let j = (g a).stuck u m k in
      let n = length (f.enc a) in
      let z : n + m ≡ o = cc in
      let y : n + (m + 1) ≡ o + 1 = omega arith in
      let l : take (o + 1) s ≡ f.enc a ++ take (m + 1) u = ap (take (o + 1)) i.bytes ∙ rw (← y) (take-append-add (f.enc a) u (m + 1)) in
      let l₀ : take o s ≡ f.enc a ++ take m u = ap (take o) i.bytes ∙ rw (← z) (take-append-add (f.enc a) u m) in
      record {
        inside = omega (arith, j.inside, simp length-append at (ap length i.bytes));
        stops = λ t. rw (l, append_assoc, f.complete a (take (m + 1) u ++ t) i.fine, j.stops t) (ap bad z);
        before = rw l₀ (begins-second a (take m u) i.fine j.before);
      }
  second_stuck s a u e short k o q = let z : ◌≡◌ {A = ℕ} 0 1 = cc in absurd (omega arith)

  -- the first wrong byte stands in the first, or in the second behind it
  pub both-stuck : (s : List ℕ) (o : ℕ) → both_read s ≡ bad o → Stuck both_read both_enc BothValid s o
  both-stuck s o = go (f.read s) refl
    where
      go : (r : Read A) → f.read s ≡ r → then_read f.enc r (λ a u. (g a).read u) ≡ bad o → Stuck both_read both_enc BothValid s o
      go (ok a u) e q = second_stuck s a u e ((g a).read u) refl o q
      go (bad m) e q =
          let z : m ≡ o = cc in
          let j = f.stuck s o (e ∙ ap bad z) in
          record { inside = j.inside; stops = λ t. rw (j.stops t); before = begins-first (take o s) j.before }
      go short e q = let z : ◌≡◌ {A = ℕ} 0 1 = cc in absurd (omega arith)

  -- the second ends early
  pub second-early : (s : List ℕ) (a : A) (u : List ℕ) → f.read s ≡ ok a u → (r : Read B) → (g a).read u ≡ r
      → after f.enc a r ≡ short → Begins both_enc BothValid s
  second-early s a u e (ok b w) k q = let z : ◌≡◌ {A = ℕ} 0 1 = cc in absurd (omega arith)
  second-early s a u e (bad m) k q = let z : ◌≡◌ {A = ℕ} 0 1 = cc in absurd (omega arith)
  second-early s a u e short k q =
      let i = f.sound s a u e in
      rw i.bytes (begins-second a u i.fine ((g a).early u k))

  -- what ends early begins a valid pair
  pub both-early : (s : List ℕ) → both_read s ≡ short → Begins both_enc BothValid s
  both-early s = go (f.read s) refl
    where
      go : (r : Read A) → f.read s ≡ r → then_read f.enc r (λ a u. (g a).read u) ≡ short → Begins both_enc BothValid s
      go (ok a u) e q = second-early s a u e ((g a).read u) refl q
      go (bad m) e q = let z : ◌≡◌ {A = ℕ} 0 1 = cc in absurd (omega arith)
      go short e q = begins-first s (f.early s e)

  -- the format of both
  abbrev pub both_f : Format (A × B)
  both_f =
      record {
        read = both_read;
        enc = both_enc;
        valid = BothValid;
        complete = both-complete;
        sound = both-sound;
        stuck = both-stuck;
        early = both-early;
        one = begins-first [] f.one;
      }
