-- What is sent of each key that waits, in the terms of planning's definitions; and the places of several keys on the rows of an arena. Assumes nothing.
-- Letters: g settings, rows the rows that the arena holds, t clock, e epoch, s the record's bytes, v several keys, ks keys.
use Rattle.std.specs.Prelude.{◌≡◌, refl, List, [], ◌∷◌, ◌++◌, ℕ}
use Rattle.std.proofs.Common.{ap}
use Rattle.buffer.specs.Same.{Bytes}
use Rattle.config.specs.declared.Settings.{Settings}
use Rattle.format.specs.Lists.{enc_all}
use Rattle.cursor.specs.At.{range_bytes}
use Rattle.cursor.specs.declared.Range.{Range}
use Rattle.cmd.specs.Pack.{packed, blob, blob_bytes, pttl_texts}
use Rattle.book.specs.Book.{Row}
use Rattle.book.specs.Calls.{Wanted}
use Rattle.planning.specs.Outcome.{Place, part_key}
use Rattle.planning.specs.Sent.{pttls}
use Rattle.planning_ask.specs.Asked.{several_name, path_in, wanted_in}
use Rattle.planning_ask.specs.declared.Several.{Several}
use Rattle.sharded_lru.specs.Lent.{setup_now}
use Rattle.planning_outcome.specs.Result.{place_on, places_on}
use Rattle.planning_places.specs.declared.Piece.{Piece}
use Rattle.planning_places.specs.declared.Piece.TheVariants.{Key, Pttl}

-- what is written of a key
unfoldable pub piece_of : Piece → Bytes → Bytes
piece_of Key k = blob k
piece_of Pttl k = packed (pttl_texts k)

-- of each, one after the other
abbrev pub pieces : Piece → List Bytes → Bytes
pieces what ks = enc_all (piece_of what) ks

-- ---- that is: the keys as blobs, and a `PTTL` for each

pub keys-are : (ks : List Bytes) → pieces Key ks ≡ blob_bytes ks
unfolding piece_of blob_bytes
keys-are [] = refl
keys-are (k ∷ ks) = ap (λ (z : Bytes). blob k ++ z) (keys-are ks)

pub pttls-are : (ks : List Bytes) → pieces Pttl ks ≡ enc_all packed (pttls ks)
unfolding piece_of pttls
pttls-are [] = refl
pttls-are (k ∷ ks) = ap (λ (z : Bytes). packed (pttl_texts k) ++ z) (pttls-are ks)

-- ---- the places of several keys, on these rows

-- a key with its command key
abbrev pub want_at : Bytes → Several → Range → Wanted
want_at s v key = part_key (several_name v.json) (path_in s v) (range_bytes s key)

-- its place
abbrev pub place_at : Settings → (ℕ → Row) → ℕ → ℕ → Bytes → Several → Range → Place
place_at g rows t e s v key = place_on (setup_now g) rows t e (want_at s v key)

-- all places
abbrev pub places_now : Settings → (ℕ → Row) → ℕ → ℕ → Bytes → Several → List Place
places_now g rows t e s v = places_on (setup_now g) rows t e (wanted_in s v)
