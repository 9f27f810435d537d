-- Numbers as little-endian fields of w bytes: how they are written (`le`) and read (`read_le`). Assumes nothing: these are definitions; their laws are in
-- FieldLaws.antt.
use Rattle.std.specs.Prelude.{[], ◌∷◌, ℕ, zero, suc, ◌+◌, ◌*◌, ◌/◌, ◌%◌, ◌<◌, get_or}
use Rattle.buffer.specs.Same.{Bytes}

-- the w bytes of n, the lowest first
unfoldable pub le : ℕ → ℕ → Bytes
le zero n = []
le (suc w) n = n % 256 ∷ le w (n / 256)

-- the number that the w bytes of s at `at` spell, the lowest first
unfoldable pub read_le : ℕ → Bytes → ℕ → ℕ
read_le zero s at = 0
read_le (suc w) s at = get_or s at 0 + 256 * read_le w s (at + 1)

abbrev pub le16 : ℕ → Bytes
le16 n = le 2 n

abbrev pub le32 : ℕ → Bytes
le32 n = le 4 n

abbrev pub le64 : ℕ → Bytes
le64 n = le 8 n

abbrev pub read16 : Bytes → ℕ → ℕ
read16 s at = read_le 2 s at

abbrev pub read32 : Bytes → ℕ → ℕ
read32 s at = read_le 4 s at

abbrev pub read64 : Bytes → ℕ → ℕ
read64 s at = read_le 8 s at

-- each element is a byte: what is known of every slice of u8
abbrev pub Octets : Bytes → Type 0
Octets s = (i : ℕ) → get_or s i 0 < 256
