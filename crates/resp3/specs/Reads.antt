-- Numbers, lengths and counts that are written are read. Assumes nothing.
use Rattle.std.specs.Prelude.{◌≡◌, [], ◌∷◌, ℕ, ◌+◌, ◌≤◌, length, drop, Some}
use Rattle.std.proofs.Common.{ap, arith, length-append, length-drop}
use Rattle.buffer.specs.Same.{Bytes}
use Rattle.buffer.specs.Places.{after}
use Rattle.decimal.specs.Digits.{digits}
use Rattle.decimal.specs.Read.{num_def}
use Rattle.decimal.specs.ReadLaws.{num-bounds}
use Rattle.decimal.specs.NumLaw.{num-law}
use Rattle.resp3.specs.Value.{crlf, counted}

-- the number n was read at p, and r follows
pub record Reads (lim : ℕ) (s : Bytes) (p n : ℕ) (r : Bytes) : Type 0 where
  pub e : ℕ
  pub is : num_def lim s p ≡ Some (n, e)
  pub rest : drop e s ≡ r
  pub within : e ≤ length s

-- what is written as a number is read as it
pub num-reads : (lim : ℕ) (s : Bytes) (p n : ℕ) (r : Bytes) → n ≤ lim → drop p s ≡ counted n r → Reads lim s p n r
num-reads lim s p n r l h =
    let i = num-law lim s p n r l h in
    record {
      e = p + length (digits n) + 2;
      is = i;
      rest = after s (p + length (digits n)) (13 ∷ 10 ∷ []) r (after s p (digits n) (crlf r) h);
      within = (num-bounds lim s p n _ i).1;
    }

-- a length that is no more than what follows
pub length-reads : (s : Bytes) (p n : ℕ) (r : Bytes) → n ≤ length r → drop p s ≡ counted n r → Reads (length s) s p n r
length-reads s p n r l h =
    num-reads (length s) s p n r (omega (arith, simp (length-append, length-drop) at (ap length h))) h
