-- A filter of keys, and what it says of rows and of an arena. Assumes nothing: these are definitions.
use Rattle.std.specs.Prelude.{◌≡◌, ℕ, ◌/◌, ◌%◌, ◌^◌, Bool, true, cond, List, eqb, ltb, length, get_or, set}
use Rattle.std.specs.Int.Bits.{bit_or, bit_xor}
use Rattle.buffer.specs.Same.{Bytes}
use Rattle.config.specs.declared.Settings.{Settings}
use Rattle.book.specs.Book.{Row}
use Rattle.book.specs.Each.{Each}
use Rattle.arena_check.specs.Home.{marked_by}
use Rattle.sharded_lru.specs.Lent.{Lent, Arena}

-- the number of a key's bit
abbrev pub bit_of : Bytes → ℕ
bit_of k = bit_xor (marked_by k) (marked_by k / 16384) % 98304

-- whether a bit is set in a table of words of 64; one past its end counts as set
unfoldable pub is_set : List ℕ → ℕ → Bool
is_set seen b = cond (ltb (b / 64) (length seen)) (eqb (get_or seen (b / 64) 0 / 2 ^ (b % 64) % 2) 1) true

-- the table with a bit set
unfoldable pub set_bit : List ℕ → ℕ → List ℕ
set_bit seen b = set seen (b / 64) (bit_or (get_or seen (b / 64) 0) (2 ^ (b % 64)))

-- whether an item may have the key
abbrev pub may_hold : List ℕ → Bytes → Bool
may_hold seen k = is_set seen (bit_of k)

-- every bit that is set stays set
abbrev pub Grows : List ℕ → List ℕ → Type 0
Grows old new = (b : ℕ) → is_set old b ≡ true → is_set new b ≡ true

-- the bit of every item's key is set
abbrev pub Marked : List ℕ → Row → Type 0
Marked seen row = Each (λ it. may_hold seen it.key ≡ true) row

-- in all rows
abbrev pub Covers : List ℕ → (ℕ → Row) → Type 0
Covers seen rows = (i : ℕ) → Marked seen (rows i)

-- the filter tells of the arena: it covers whatever rows the bytes are the image of
abbrev pub Filters : Settings → Bytes → List ℕ → Type 0
Filters g s seen = (rows : ℕ → Row) → Lent g s rows → Covers seen rows

-- an arena, and a filter that tells of it
pub record Filtered (g : Settings) (s : Bytes) (seen : List ℕ) : Type 0 where
  pub arena : Arena g s
  pub filters : Filters g s seen
