-- Every event that the causes let through keeps its shard's row fine, so that it may come back to its arena. Assumes of a store that its value may be stored.
use Rattle.std.specs.Prelude.{◌≡◌, ℕ, ◌^◌, ◌≤◌, ◌<◌, true}
use Rattle.std.proofs.Common.{le-leb}
use Rattle.buffer.specs.Same.{Bytes}
use Rattle.resp3.specs.Ends.{is_value}
use Rattle.book.specs.Book.{Setup, Row, Keyed, store, key_of, effect_on}
use Rattle.book.proofs.EachLaws.{each-effect_on}
use Rattle.book.proofs.SoundLaws.{sound-effect_on}
use Rattle.book.specs.Storable.{StorableItem}
use Rattle.book.proofs.Storable.{StorableKeyed, brings-storable}
use Rattle.arena.specs.Decode.{may_store}
use Rattle.arena.specs.Tests.{FineRow}
use Rattle.arena.proofs.Tests.{yes-every}
use Rattle.shard_store.specs.Store.{Storable}

-- what an event may store
abbrev pub MayStore : Keyed → Type 0
MayStore q = StorableKeyed (may_store is_value) q

-- a store's key, command key and value within the limits, the value a value
pub may-store : (k c v : Bytes) (x e : ℕ) → Storable k c v → is_value v ≡ true → x < 2 ^ 64 → e < 2 ^ 64 → MayStore (store k c v x e)
unfolding may_store
may-store k c v x e w i h l = (yes-every _ (le-leb _ _ w.key, (le-leb _ _ w.command, (i, tt))), h, l)

-- its key's row stays fine
pub fine-effect : (p : Setup) → 1 ≤ p.keys → (q : Keyed) (row : Row) → MayStore q → FineRow is_value p (p.shard_of (key_of q)) row
    → FineRow is_value p (p.shard_of (key_of q)) (effect_on p q row).row
fine-effect p n q row g w =
    record {
      sound = sound-effect_on p n q row w.sound;
      fits = each-effect_on (StorableItem (may_store is_value)) p q row (brings-storable (may_store is_value) q g) w.fits;
    }
