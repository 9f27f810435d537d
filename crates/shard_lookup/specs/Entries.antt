-- An entry that stands in some bytes, and where the command key's entry stands in its item. Assumes nothing: these are definitions.
use Rattle.std.specs.Prelude.{◌≡◌, ℕ, ◌+◌, ◌≤◌, cond, List, [], ◌∷◌, ◌++◌, length, Option, Some, None}
use Rattle.buffer.specs.Same.{Bytes, same}
use Rattle.config.specs.Limits.{max_arena}
use Rattle.book.specs.Book.{Entry, Item}
use Rattle.arena.specs.Layout.{enc_entry}

-- the entry `en` stands at `at` in the bytes s, which are no longer than an arena may be
pub record EntryStands (s : Bytes) (at : ℕ) (en : Entry) : Type 0 where
  pub before : Bytes
  pub behind : Bytes
  pub is : s ≡ before ++ (enc_entry en ++ behind)
  pub starts : length before ≡ at
  pub short : length s ≤ max_arena

-- some entry stands at `at`
pub record EntryAt (s : Bytes) (at : ℕ) : Type 0 where
  pub entry : Entry
  pub stands : EntryStands s at entry

-- the bytes of an entry
abbrev pub entry_size : Entry → ℕ
entry_size en = 16 + length en.command + length en.value

-- the first entry with the command key, among entries the first of which stands at `at`
unfoldable pub entry_from : ℕ → Bytes → List Entry → Option ℕ
entry_from at c [] = None
entry_from at c (en ∷ ens) = cond (same c en.command) (Some at) (entry_from (at + entry_size en) c ens)

-- in an item that stands at `at`, whose entries begin behind its 32 bytes of header and its key
abbrev pub entry_of : ℕ → Bytes → Item → Option ℕ
entry_of at c it = entry_from (at + 32 + length it.key) c it.entries
