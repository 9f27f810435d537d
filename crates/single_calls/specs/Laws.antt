-- What setup leaves is the image of the fresh book, which is decoded to it. Assumes nothing; `hash` stands for the shards' hash.
use Rattle.std.specs.Prelude.{◌≡◌, ℕ, length, Ok}
use Rattle.std.proofs.Common.{sym}
use Rattle.buffer.specs.Same.{Bytes}
use Rattle.config.specs.Config.{checked}
use Rattle.config.specs.Laws.{passed}
use Rattle.config.specs.declared.Settings.{Settings}
use Rattle.book.specs.Book.{Counts, fresh}
use Rattle.arena.proofs.Empty.{zeros-empty}
use Rattle.arena.specs.Held.{lend}
use Rattle.arena.proofs.Sizes.{sized}
use Rattle.arena.specs.SetupOf.{setup_for}
use Rattle.single_calls.specs.Setup.{fresh_arena}

-- the arena after a setup that is not refused is what the caller of a fresh book holds
pub fresh-held : (hash : Bytes → ℕ) (size mode ttl : ℕ) (s : Bytes) (g : Settings) (lent : Counts) → checked size mode ttl (length s) ≡ Ok g
    → fresh_arena (checked size mode ttl (length s)) s ≡ (lend (setup_for hash g) (length s) (fresh lent)).arena
unfolding lend fresh
fresh-held hash size mode ttl s g lent e =
    rw e (sym (zeros-empty (setup_for hash g) (length s) (sized hash size mode ttl (length s) g (passed size mode ttl (length s) g e))))
