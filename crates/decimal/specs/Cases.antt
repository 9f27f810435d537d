-- The joint table's numbers of digits, and worked examples of reading, computed. Assumes nothing.
use Rattle.std.specs.Prelude.{◌≡◌, refl, List, [], ◌∷◌, ◌++◌, ℕ, length, Option, Some, None}
use Rattle.decimal.specs.Digits.{digits}
use Rattle.decimal.specs.Read.{crlf_b, ended_def, fin_def, num_def}

-- the least and the greatest number of so many digits
abbrev pub Ends : ℕ → ℕ → ℕ → Type 0
Ends least greatest k = (length (digits least) ≡ k) × (length (digits greatest) ≡ k)

-- both ends of the twenty ranges by which `countdigits` goes (request 3)
pub record DigitRanges : Type 0 where
  pub one : Ends 0 9 1
  pub two : Ends 10 99 2
  pub three : Ends 100 999 3
  pub four : Ends 1_000 9_999 4
  pub five : Ends 10_000 99_999 5
  pub six : Ends 100_000 999_999 6
  pub seven : Ends 1_000_000 9_999_999 7
  pub eight : Ends 10_000_000 99_999_999 8
  pub nine : Ends 100_000_000 999_999_999 9
  pub ten : Ends 1_000_000_000 9_999_999_999 10
  pub eleven : Ends 10_000_000_000 99_999_999_999 11
  pub twelve : Ends 100_000_000_000 999_999_999_999 12
  pub thirteen : Ends 1_000_000_000_000 9_999_999_999_999 13
  pub fourteen : Ends 10_000_000_000_000 99_999_999_999_999 14
  pub fifteen : Ends 100_000_000_000_000 999_999_999_999_999 15
  pub sixteen : Ends 1_000_000_000_000_000 9_999_999_999_999_999 16
  pub seventeen : Ends 10_000_000_000_000_000 99_999_999_999_999_999 17
  pub eighteen : Ends 100_000_000_000_000_000 999_999_999_999_999_999 18
  pub nineteen : Ends 1_000_000_000_000_000_000 9_999_999_999_999_999_999 19
  pub twenty : Ends 10_000_000_000_000_000_000 18_446_744_073_709_551_615 20

pub digit-ranges : DigitRanges
unfolding digits
digit-ranges =
    record {
      one = (refl, refl);
      two = (refl, refl);
      three = (refl, refl);
      four = (refl, refl);
      five = (refl, refl);
      six = (refl, refl);
      seven = (refl, refl);
      eight = (refl, refl);
      nine = (refl, refl);
      ten = (refl, refl);
      eleven = (refl, refl);
      twelve = (refl, refl);
      thirteen = (refl, refl);
      fourteen = (refl, refl);
      fifteen = (refl, refl);
      sixteen = (refl, refl);
      seventeen = (refl, refl);
      eighteen = (refl, refl);
      nineteen = (refl, refl);
      twenty = (refl, refl);
    }

-- what a limit of 20 makes of bytes and a CR LF
reads : List ℕ → Option (ℕ × ℕ)
reads s = num_def 20 (s ++ (13 ∷ 10 ∷ [])) 0

-- `0` is read, and so is `20`; `21` is above the limit
read-0 : reads (48 ∷ []) ≡ Some (0, 3)
unfolding reads num_def fin_def ended_def crlf_b
read-0 = refl

read-20 : reads (50 ∷ 48 ∷ []) ≡ Some (20, 4)
unfolding reads num_def fin_def ended_def crlf_b
read-20 = refl

read-21 : reads (50 ∷ 49 ∷ []) ≡ None
unfolding reads num_def fin_def ended_def crlf_b
read-21 = refl

-- no plus sign, no minus sign, no leading zero, no empty number
read-plus : reads (43 ∷ 49 ∷ []) ≡ None
unfolding reads num_def fin_def ended_def crlf_b
read-plus = refl

read-minus : reads (45 ∷ 48 ∷ []) ≡ None
unfolding reads num_def fin_def ended_def crlf_b
read-minus = refl

read-leading-zero : reads (48 ∷ 49 ∷ []) ≡ None
unfolding reads num_def fin_def ended_def crlf_b
read-leading-zero = refl

read-nothing : reads [] ≡ None
unfolding reads num_def fin_def ended_def crlf_b
read-nothing = refl

-- a CR alone is no end
read-cr : num_def 20 (49 ∷ 13 ∷ 13 ∷ []) 0 ≡ None
unfolding num_def fin_def ended_def crlf_b
read-cr = refl
