-- An arena by the rows that its bytes are (rules A1, A2): what may be stored, and whose image the bytes are. Assumes nothing: these are definitions.
use Rattle.std.specs.Prelude.{◌≡◌, [], ℕ, ◌^◌, ◌≤◌, ◌<◌, length}
use Rattle.buffer.specs.Same.{Bytes}
use Rattle.config.specs.Limits.{max_key, max_command_key}
use Rattle.format.specs.Lists.{All}
use Rattle.resp3.specs.Value.{IsValue}
use Rattle.book.specs.Book.{Setup, Entry, Item, Row}
use Rattle.book.specs.Sound.{Sound}
use Rattle.arena.specs.Layout.{encode}

-- what a call may store: a key of at most 65,535 bytes, a command key of at most 16 MiB, exactly one value
pub record MayStore (k c v : Bytes) : Type 0 where
  pub key : length k ≤ max_key
  pub command : length c ≤ max_command_key
  pub value : IsValue v

-- an item that calls can make: numbers of 64 bits, and entries that may be stored
pub record Storable (it : Item) : Type 0 where
  pub epoch : it.epoch < 2 ^ 64
  pub expiry : it.expiry < 2 ^ 64
  pub entries : All (λ (en : Entry). MayStore it.key en.command en.value) it.entries

-- an arena's bytes are those of these rows, each of which its shard can hold; beyond the shards there is nothing
pub record Image (p : Setup) (s : Bytes) (rows : ℕ → Row) : Type 0 where
  pub sound : (i : ℕ) → Sound p i (rows i)
  pub storable : (i : ℕ) → All Storable (rows i)
  pub beyond : (i : ℕ) → p.shards ≤ i → rows i ≡ []
  pub bytes : encode p (length s) rows ≡ s
