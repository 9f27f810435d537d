-- The same bytes as other values: their format, with the laws. Assumes nothing.
use Rattle.std.specs.Prelude.{◌≡◌, refl, List, [], ◌++◌, ℕ, take}
use Rattle.std.proofs.Common.{sym, ap, ◌∙◌, arith}
use Rattle.format.specs.Format.{Read, ok, bad, short, Stuck, Is, Format}
use Rattle.format.specs.Begins.{Begins}

-- ---- the same bytes as other values

-- what was read, as another value
abbrev pub map_read : {A : Type 0} {B : Type 0} → (A → B) → Read A → Read B
map_read to (ok a u) = ok (to a) u
map_read to (bad o) = bad o
map_read to short = short

-- every valid b is to a for a valid a
pub record From {A : Type 0} {B : Type 0} (valid : A → Type 0) (to : A → B) (b : B) : Type 0 where
  pub value : A
  pub fine : valid value
  pub same : to value ≡ b

module _ {A : Type 0} {B : Type 0} (f : Format A) (to : A → B) (enc : B → List ℕ) (valid : B → Type 0)
    (written : (a : A) → f.valid a → enc (to a) ≡ f.enc a)
    (kept : (a : A) → f.valid a → valid (to a))
    (onto : (b : B) → valid b → From f.valid to b) where
  pub map-begins : (s : List ℕ) → Begins f.enc f.valid s → Begins enc valid s
  map-begins s b =
      record { value = to b.value; rest = b.rest; fine = kept b.value b.fine; bytes = written b.value b.fine ∙ b.bytes }

  -- what is valid is read
  pub map-complete : (b : B) (u : List ℕ) → valid b → map_read to (f.read (enc b ++ u)) ≡ ok b u
  map-complete b u h =
      let w = onto b h in
      let e : enc b ≡ f.enc w.value = ap enc (sym w.same) ∙ written w.value w.fine in
      rw (e, f.complete w.value u w.fine, w.same)

  -- what is read was valid and so written
  pub map-sound : (s : List ℕ) (b : B) (u : List ℕ) → map_read to (f.read s) ≡ ok b u → Is enc valid s b u
  map-sound s b u = go (f.read s) refl
    where
      go : (r : Read A) → f.read s ≡ r → map_read to r ≡ ok b u → Is enc valid s b u
      go (ok a v) e q =
          let i = f.sound s a v e in
          let z : to a ≡ b = cc in
          let y : v ≡ u = cc in
          rw (← z, ← y) (record { fine = kept a i.fine; bytes = i.bytes ∙ ap (λ (l : List ℕ). l ++ v) (sym (written a i.fine)) })
      go (bad m) e q = let z : ◌≡◌ {A = ℕ} 0 1 = cc in absurd (omega arith)
      go short e q = let z : ◌≡◌ {A = ℕ} 0 1 = cc in absurd (omega arith)

  -- the same byte is wrong
  pub map-stuck : (s : List ℕ) (o : ℕ) → map_read to (f.read s) ≡ bad o → Stuck (λ s. map_read to (f.read s)) enc valid s o
  map-stuck s o = go (f.read s) refl
    where
      go : (r : Read A) → f.read s ≡ r → map_read to r ≡ bad o → Stuck (λ s. map_read to (f.read s)) enc valid s o
      go (ok a v) e q = let z : ◌≡◌ {A = ℕ} 0 1 = cc in absurd (omega arith)
      go (bad m) e q =
          let z : m ≡ o = cc in
          let j = f.stuck s o (e ∙ ap bad z) in
          record { inside = j.inside; stops = λ t. rw (j.stops t); before = map-begins (take o s) j.before }
      go short e q = let z : ◌≡◌ {A = ℕ} 0 1 = cc in absurd (omega arith)

  -- what ends early begins a valid value
  pub map-early : (s : List ℕ) → map_read to (f.read s) ≡ short → Begins enc valid s
  map-early s = go (f.read s) refl
    where
      go : (r : Read A) → f.read s ≡ r → map_read to r ≡ short → Begins enc valid s
      go (ok a v) e q = let z : ◌≡◌ {A = ℕ} 0 1 = cc in absurd (omega arith)
      go (bad m) e q = let z : ◌≡◌ {A = ℕ} 0 1 = cc in absurd (omega arith)
      go short e q = map-begins s (f.early s e)

  -- the format of the other values
  abbrev pub map_f : Format B
  map_f =
      record {
        read = λ s. map_read to (f.read s);
        enc = enc;
        valid = valid;
        complete = map-complete;
        sound = map-sound;
        stuck = map-stuck;
        early = map-early;
        one = map-begins [] f.one;
      }
