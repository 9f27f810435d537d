-- Bytes that stand at a place of others, and what is read there. Assumes nothing.
use Rattle.std.specs.Prelude.{◌≡◌, refl, ◌∷◌, ◌++◌, ℕ, ◌+◌, ◌^◌, ◌≤◌, ◌<◌, length, get_or}
use Rattle.std.proofs.Common.{sym, ap, ◌∙◌, append_assoc, arith, length-append}
use Rattle.std.proofs.lemmas.List.{get_or_at}
use Rattle.buffer.specs.Same.{Bytes}
use Rattle.buffer.specs.Part.{part}
use Rattle.buffer.specs.PartLaws.{part_at}
use Rattle.buffer.specs.Field.{le, read_le}
use Rattle.buffer.specs.FieldLaws.{read_at}

-- the bytes bs stand in s at `at`
pub record Lies (s : Bytes) (at : ℕ) (bs : Bytes) : Type 0 where
  pub front : Bytes
  pub back : Bytes
  pub is : s ≡ front ++ (bs ++ back)
  pub place : length front ≡ at

-- the first of two
pub lies-left : {s : Bytes} {at : ℕ} (xs ys : Bytes) → Lies s at (xs ++ ys) → Lies s at xs
lies-left xs ys w =
    record { front = w.front; back = ys ++ w.back; is = w.is ∙ ap (λ (l : Bytes). w.front ++ l) (append_assoc xs ys w.back); place = w.place }

-- the second of two
pub lies-right : {s : Bytes} {at : ℕ} (xs ys : Bytes) (e : ℕ) → e ≡ at + length xs → Lies s at (xs ++ ys) → Lies s e ys
lies-right xs ys e q w =
    record {
      front = w.front ++ xs;
      back = w.back;
      is = w.is ∙ ap (λ (l : Bytes). w.front ++ l) (append_assoc xs ys w.back) ∙ sym (append_assoc w.front xs (ys ++ w.back));
      place = let p = w.place in length-append w.front xs ∙ omega arith;
    }

module _ (s : Bytes) (at : ℕ) where
  pub lies-inside : (bs : Bytes) → Lies s at bs → at + length bs ≤ length s
  lies-inside bs w =
      let p = w.place in
      let l : length s ≡ length w.front + (length bs + length w.back) =
      ap length w.is ∙ length-append w.front (bs ++ w.back) ∙ ap (λ (n : ℕ). length w.front + n) (length-append bs w.back) in
      omega arith

  -- its first byte
  pub lies-head : (x : ℕ) (xs : Bytes) → Lies s at (x ∷ xs) → get_or s at 0 ≡ x
  lies-head x xs w = ap (λ (l : Bytes). get_or l at 0) w.is ∙ get_or_at w.front x (xs ++ w.back) 0 at w.place

  -- they are a part
  pub lies-part : (bs : Bytes) → Lies s at bs → part s at (length bs) ≡ bs
  lies-part bs w = ap (λ (l : Bytes). part l at (length bs)) w.is ∙ part_at w.front bs w.back at (length bs) w.place refl

  -- a number's bytes are read as it
  pub lies-number : (w n : ℕ) → n < 256 ^ w → Lies s at (le w n) → read_le w s at ≡ n
  lies-number w n h l = ap (λ (x : Bytes). read_le w x at) l.is ∙ read_at w l.front l.back n at l.place h
