-- The theorems about images: `decode` gives exactly the well-formed rows that the bytes encode, so it is `none` exactly off the image, and no
-- bytes encode two books. Assumes what cause 1 leaves (`Sized`): room for each shard's header, fewer than 2^32 bytes a shard, all shards within the
-- arena.
use Rattle.std.specs.Prelude.{◌≡◌, ℕ, ◌+◌, ◌*◌, ◌^◌, ◌≤◌, ◌<◌, ◌↔◌, Bool, length, ltb}
use Rattle.std.proofs.Common.{sym, ap, ◌∙◌, zero-le, arith, ltb-true, ltb-false, le-ltb}
use Rattle.std.proofs.Math.Path.{subst, fun_ext}
use Rattle.std.proofs.Math.Option.{none, some, none-ne-some, some-injective}
use mathlib.Core.List.{List, [], ◌∷◌}
use Rattle.buffer.specs.Cases.{by_test}
use Rattle.buffer.specs.Same.{Bytes, same}
use Rattle.buffer.specs.SameLaws.{same_refl, same-eq}
use Rattle.book.specs.Book.{Setup, Entry, Row, entry_bytes, row_bytes}
use Rattle.book.specs.Each.{Each}
use Rattle.book.proofs.SoundLaws.{sound-nil}
use Rattle.arena.specs.Layout.{encode}
use Rattle.arena.specs.Decode.{every, read_arena, rows_fine, is_image, decode}
use Rattle.arena.specs.Read.{Smalls}
use Rattle.arena.specs.Tests.{Fits, WellFormed}

-- what cause 1 leaves of a setup with an arena of n bytes
pub record Sized (p : Setup) (n : ℕ) : Type 0 where
  pub header : 16 ≤ p.bytes
  pub small : p.bytes < 256 ^ 4
  pub inside : p.shards * p.bytes ≤ n

-- ---- fields hold the numbers of a row that is within its shard's bytes

module _ (is_value : Bytes → Bool) (p : Setup) where
  pub record Image (s : Bytes) (rows : ℕ → Row) : Type 0 where
    pub formed : WellFormed is_value p rows
    pub bytes : encode p (length s) rows ≡ s
