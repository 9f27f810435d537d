-- The book's store is `store_on`, and a case of the space rule. Assumes nothing.
use Rattle.std.specs.Prelude.{◌≡◌, refl, ℕ, [], length}
use Rattle.buffer.specs.Same.{Bytes}
use Rattle.book.specs.Book.{Setup, Row, stored, no_space, store, effect_on, book-defs}
use Rattle.shard_store.specs.Store.{store_on}

-- the book's store, in a shard with the setup's keys and bytes
pub store-on : (p : Setup) (k c v : Bytes) (x e : ℕ) (row : Row) → effect_on p (store k c v x e) row ≡ store_on p.keys p.bytes k c v x e row
unfolding effect_on
store-on p k c v x e row = refl

-- P: key 3, command 6, value 7 bytes take 64: an empty shard of 80 bytes takes them
pub takes-in-80 : (k c v : Bytes) (x e : ℕ) → length k ≡ 3 → length c ≡ 6 → length v ≡ 7 → (store_on 1 80 k c v x e []).answer ≡ stored
unfolding book-defs
takes-in-80 k c v x e a b d = rw (a, b, d)

-- and one of 79 does not
pub refuses-in-79 : (k c v : Bytes) (x e : ℕ) → length k ≡ 3 → length c ≡ 6 → length v ≡ 7 → (store_on 1 79 k c v x e []).answer ≡ no_space
unfolding book-defs
refuses-in-79 k c v x e a b d = rw (a, b, d)
