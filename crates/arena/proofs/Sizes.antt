-- Of the setup that a size and an arena's length give (SetupOf.antt) cause 1 leaves what the theorems ask; so cause 9 for every size and every arena that
-- cause 1 lets through. Assumes nothing; `hash` stands for SipHash-1-3 with both key words zero.
use Rattle.std.specs.Prelude.{◌≡◌, ◌↔◌, ℕ, ◌≤◌, Bool, length, Ok}
use Rattle.std.proofs.Common.{arith, le-mul_of_pos_right, mul_comm}
use Rattle.std.proofs.Math.Nat.{mod-lt, le_trans}
use Rattle.std.proofs.Math.Option.{none}
use Rattle.buffer.specs.Same.{Bytes}
use Rattle.buffer.specs.Field.{Octets}
use Rattle.config.specs.Config.{checked}
use Rattle.config.specs.Laws.{Passed, passed}
use Rattle.config.specs.declared.Settings.{Settings}
use Rattle.book.specs.Book.{Counts}
use Rattle.book.proofs.Trace.{Proper}
use Rattle.arena.specs.Decode.{decode}
use Rattle.arena.specs.Image.{Sized}
use Rattle.arena.proofs.Cause9.{LeftBy, cause-nine}
use Rattle.arena.specs.SetupOf.{setup_of, setup_for}

module _ (hash : Bytes → ℕ) (size mode ttl n : ℕ) (g : Settings) (w : Passed size mode ttl n g) where
  pub sized : Sized (setup_for hash g) n
  unfolding setup_of
  sized =
      let least = w.least in
      let largest = w.largest in
      let bytes : g.bytes ≤ n = le_trans (le-mul_of_pos_right g.bytes w.some) (rw (mul_comm g.bytes g.shards) w.inside) in
      record { header = omega arith; small = omega arith; inside = w.inside }

  pub proper : Proper (setup_for hash g)
  unfolding setup_of
  proper = record { some_key = w.keyed; in-range = λ k. mod-lt (hash k) w.some }

-- cause 9 for the settings g that cause 1 makes of a size and of this arena's length
pub cause-nine-for : (is_value : Bytes → Bool) (hash : Bytes → ℕ) (size mode ttl : ℕ) (s : Bytes) (g : Settings) (lent : Counts)
    → checked size mode ttl (length s) ≡ Ok g → Octets s → (decode is_value (setup_for hash g) s ≡ none) ↔ (LeftBy is_value (setup_for hash g) s lent → ⊥)
cause-nine-for is_value hash size mode ttl s g lent e b =
    let w = passed size mode ttl (length s) g e in
    cause-nine is_value (setup_for hash g) s (sized hash size mode ttl (length s) g w) (proper hash size mode ttl (length s) g w) lent b
