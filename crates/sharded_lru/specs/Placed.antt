-- A lookup's answer with places in its shard's bytes, and with places in the whole arena. Assumes nothing.
use Rattle.std.specs.Prelude.{◌≡◌, ℕ, ◌+◌, ◌-◌, ◌≤◌, length}
use Rattle.std.proofs.Common.{sym, ap, ◌∙◌, arith}
use Rattle.buffer.specs.Same.{Bytes}
use Rattle.buffer.specs.Part.{part}
use Rattle.book.specs.Book.{Effect, hit}
use Rattle.shard_lookup.specs.Looked.{Told, BeginsAt}
use Rattle.shard_lookup.specs.declared.Looked.{Looked}
use Rattle.shard_lookup.specs.declared.Looked.TheVariants.{Hit, Miss}

-- the answer of a shard that begins at `start`
abbrev pub placed_at : ℕ → Looked → Looked
placed_at start (Hit from to) = Hit (start + from) (start + to)
placed_at start (Miss n) = Miss n

-- its places are among n bytes
abbrev pub Within : ℕ → Looked → Type 0
Within n (Hit from to) = (from ≤ to) × (to ≤ n)
Within n (Miss m) = Unit {0}

pub told-within : (t : Bytes) (f : Effect) (r : Looked) → Told t f r → Within (length t) r
told-within t f (Hit from to) w = (w.0, w.1)
told-within t f (Miss n) w = tt

-- what is told of the bytes t is told of bytes that they are a part of
pub told-placed : (s t : Bytes) (start : ℕ) (f : Effect) (r : Looked) → start + length t ≤ length s
    → ((i n : ℕ) → i + n ≤ length t → part s (start + i) n ≡ part t i n)
    → Told t f r → Told s f (placed_at start r)
told-placed s t start f (Hit from to) h e w =
    let a = w.0 in
    let b = w.1 in
    let n : start + to - (start + from) ≡ to - from = omega arith in (
      omega arith,
      omega arith,
      w.2 ∙ ap hit (sym (ap (part s (start + from)) n ∙ e from (to - from) (omega arith))),
      w.3,
    )
told-placed s t start f (Miss n) h e w = w

-- what begins at a place of the shard begins so far behind the shard's start
pub begins-placed : (start at : ℕ) (r : Looked) → BeginsAt at r → BeginsAt (start + at) (placed_at start r)
begins-placed start at (Hit from to) e = ap (λ (n : ℕ). start + n) e
begins-placed start at (Miss n) e = tt
