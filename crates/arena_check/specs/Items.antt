-- The check of items finds exactly the well-formed items: both ways. Assumes bytes (below 256) and fewer than 2^32 of them.
use Rattle.std.specs.Prelude.{◌≡◌, Bool, false, Some}
use Rattle.std.proofs.Math.Path.{refl, sym, ap, ap₂, subst}
use Rattle.std.proofs.Common.{◌∙◌}
use Prim.Native.Nat.{ℕ, ◌+◌, ◌^◌, ◌≤◌, ◌<◌}
use native.Mathlib.Omega.{arith}
use Rattle.std.proofs.Math.Bool.{true}
use Rattle.std.proofs.Math.Option.{none, none-ne-some}
use mathlib.Core.List.{List, [], ◌∷◌, ◌++◌, append_assoc}
use Rattle.std.proofs.Math.ListN.{length, length-append}
use borrow.Author.Tests.{leb-true, le-leb, eqb-true, eq-eqb}
use Rattle.buffer.specs.Cases.{by_test}
use Rattle.buffer.specs.Same.{Bytes, same}
use Rattle.buffer.specs.Field.{Octets, read32, read64}
use Rattle.buffer.specs.FieldLaws.{read_below}
use Rattle.buffer.specs.Part.{part}
use Rattle.buffer.specs.PartLaws.{part-add, part_at, length_part}
use Rattle.buffer.specs.Zero.{all_zero, zeros-pass}
use Rattle.config.specs.Limits.{max_key, max_command_key}
use Rattle.book.specs.Book.{Setup, Entry, Item, Row, find, entry_bytes, row_bytes}
use Rattle.book.specs.Sound.{Distinct, SoundItem}
use Rattle.book.specs.Storable.{StorableEntries}
use Rattle.format.specs.Lists.{All}
use Rattle.arena.specs.Decode.{may_store}
use Rattle.arena.proofs.Image.{row_small}
use Rattle.arena.specs.Layout.{zeros, item_head, enc_entries, enc_item, enc_items}
use Rattle.arena.proofs.Length.{length-item_head, length-item, length-items}
use Rattle.arena.specs.Read.{Small}
use Rattle.arena.proofs.Read.{key-length, entry-count, entries-length, item-key}
use Rattle.arena.specs.Tests.{Fits}
use Rattle.arena.proofs.Tests.{every-yes, yes-every}
use Rattle.arena_check.specs.Check.{key_at, entries_at, item_next, entries_end, item_ok, items_end}
use Rattle.arena_check.specs.Entries.{GoodEntry, EntriesThere, entries-found, entries-pass}
use Rattle.arena_check.specs.Ends.{ends-true, true-ends}
use Rattle.arena_check.specs.There.{item-head-there, item-head-zeros, read_behind, read_first, part-behind}
use Rattle.arena_check.specs.Walk.{walk, Differ, Stands, walk-found, run-good, run-bytes, bytes_run, found-walk}

module _ (is_value : Bytes → Bool) (p : Setup) (s : Bytes) (shard end : ℕ) where
  -- an item of the shard that may be stored
  pub record GoodItem (it : Item) : Type 0 where
    pub sound : SoundItem p shard it
    pub fits : Fits is_value p it

  abbrev pub ItemStands : ℕ → Item → Type 0
  ItemStands at it = Stands enc_item (λ i. i.key) GoodItem s (item_ok is_value p.shard_of s shard end) (item_next s) (key_at s) at it

  -- entries that may be stored by themselves may be stored under the key
  entries-storable : (k : Bytes) (ens : List Entry) → length k ≤ max_key → All (GoodEntry is_value) ens → StorableEntries (may_store is_value) k ens
  unfolding may_store
  entries-storable k [] l w = tt
  entries-storable k (en ∷ ens) l w =
      (yes-every _ (le-leb (length k) max_key l, (le-leb (length en.command) max_command_key w.0.0, (w.0.1, tt))), entries-storable k ens l w.1)

  storable-entries : (k : Bytes) (ens : List Entry) → StorableEntries (may_store is_value) k ens → All (GoodEntry is_value) ens
  unfolding may_store
  storable-entries k [] w = tt
  storable-entries k (en ∷ ens) w =
      let t = every-yes _ w.0 in ((leb-true _ _ t.1.0, t.1.1.0), storable-entries k ens w.1)

  -- the key is short, since an entry stands under it
  key-short : (k : Bytes) (ens : List Entry) → 1 ≤ length ens → StorableEntries (may_store is_value) k ens → length k ≤ max_key
  unfolding may_store
  key-short k [] l w = absurd (omega arith)
  key-short k (en ∷ ens) l w = leb-true _ _ (every-yes _ w.0).0

  -- ---- what passes is an item

  -- the item that stands at `at`, with these entries
  abbrev item_at : ℕ → List Entry → Item
  item_at at ens = record { key = key_at s at; epoch = read64 s (at + 8); expiry = read64 s (at + 16); entries = ens }

  item-there : (at : ℕ) (ens : List Entry) → Octets s → item_next s at ≤ length s → all_zero (part s (at + 28) 4) ≡ true → length ens ≡ read32 s (at + 4)
      → entry_bytes ens ≡ read32 s (at + 24) → part s (entries_at s at) (entry_bytes ens) ≡ enc_entries ens
      → part s at (length (enc_item (item_at at ens))) ≡ enc_item (item_at at ens)
  unfolding enc_item
  item-there at ens b h e c m q =
      let k : ℕ = read32 s at in
      let lk : length (key_at s at) ≡ k = length_part s (at + 32) k (omega arith) in
      let n : length (enc_item (item_at at ens)) ≡ 32 + (k + entry_bytes ens) = omega (arith, length-item (item_at at ens)) in
      let there = item-head-there s at b (omega arith) e in
      let H : ℕ → ℕ → ℕ → Bytes = λ x y z. item_head x y (read64 s (at + 8)) (read64 s (at + 16)) z in
      ap (part s at) n ∙ part-add s at 32 (k + entry_bytes ens)
      ∙ ap₂ (λ (x y : Bytes). x ++ y) there (part-add s (at + 32) k (entry_bytes ens) ∙ ap (λ (x : Bytes). key_at s at ++ x) q)
      ∙ (λ i. H (sym lk i) (sym c i) (sym m i) ++ (key_at s at ++ enc_entries ens))

  pub item-found : Octets s → end ≤ length s → (at : ℕ) → item_ok is_value p.shard_of s shard end at ≡ true → (it : Item) × ItemStands at it
  unfolding item_ok
  item-found b h at e =
      let w = every-yes _ e in
      let fits : item_next s at ≤ end = leb-true _ _ w.1.0 in
      let lk : length (key_at s at) ≡ read32 s at = length_part s (at + 32) (read32 s at) (omega arith) in
      let some-entry : 1 ≤ read32 s (at + 4) = leb-true _ _ w.1.1.1.1.1.0 in
      let g : EntriesThere is_value s (item_next s at) (entries_at s at) (item_next s at) (read32 s (at + 4)) =
      entries-found is_value s (item_next s at) b (omega arith) (read32 s (at + 4)) (entries_at s at) (item_next s at) (ends-true _ _ w.1.1.1.1.1.1.0) in
      let m : entry_bytes g.entries ≡ read32 s (at + 24) = omega (arith, g.ends) in
      let c = g.count in
      let short : length (key_at s at) ≤ max_key = rw lk (leb-true _ _ w.1.1.1.0) in (
        item_at at g.entries,
        record {
          passes = e;
          good = record {
            sound = record { home = eqb-true _ _ w.1.1.1.1.0; some-entry = omega arith; commands = g.distinct };
            fits = record {
              entries = entries-storable (key_at s at) g.entries short g.good;
              epoch = read_below 8 s (at + 8) b;
              expiry = read_below 8 s (at + 16) b;
            };
          };
          keyed = refl;
          size = sym (omega (arith, length-item (item_at at g.entries)));
          bytes = item-there at g.entries b (omega arith) w.1.1.0 c m g.bytes;
        },
      )

  -- ---- and an item passes

  item-zeros : (it : Item) (B : Bytes) → part (enc_item it ++ B) 28 4 ≡ zeros 4
  unfolding enc_item
  item-zeros it B =
      let H : Bytes = item_head (length it.key) (length it.entries) it.epoch it.expiry (entry_bytes it.entries) in
      rw (append_assoc H (it.key ++ enc_entries it.entries) B) (item-head-zeros _ _ _ _ _ ((it.key ++ enc_entries it.entries) ++ B))

  -- its entries are walked to its end
  own-entries : length s < 256 ^ 4 → (A B : Bytes) (it : Item) → s ≡ A ++ (enc_item it ++ B) → GoodItem it
      → entries_end is_value s (length A + length (enc_item it)) (length it.entries) (length A + (32 + length it.key)) ≡ Some (length A + length (enc_item it))
  unfolding enc_item
  own-entries l A B it e g =
      let H : Bytes = item_head (length it.key) (length it.entries) it.epoch it.expiry (entry_bytes it.entries) in
      let F : Bytes = A ++ (H ++ it.key) in
      let split : s ≡ F ++ (enc_entries it.entries ++ B) = e ∙ simp append_assoc in
      let n : length F ≡ length A + (32 + length it.key) = simp (length-append, length-item_head) in
      let m = length-item it in
      let there = entries-pass is_value s (length A + length (enc_item it)) l F B it.entries split
      (storable-entries it.key it.entries g.fits.entries) g.sound.commands (omega arith) in
      let to : length F + entry_bytes it.entries ≡ length A + length (enc_item it) = omega arith in
      ap (entries_end is_value s (length A + length (enc_item it)) (length it.entries)) (sym n) ∙ there ∙ ap Some to

  pub item-passes : length s < 256 ^ 4 → (A B : Bytes) (it : Item) → s ≡ A ++ (enc_item it ++ B) → GoodItem it → length A + length (enc_item it) ≤ end
      → ItemStands (length A) it
  unfolding item_ok row_bytes
  item-passes l A B it e g h =
      let Z : Bytes = enc_item it ++ B in
      let ls : length s ≡ length A + (length (enc_item it) + length B) = ap length e ∙ length-append A Z
      ∙ ap (λ (n : ℕ). length A + n) (length-append (enc_item it) B) in
      let m = length-item it in
      let small : Small it = (row_small is_value p (it ∷ []) (omega arith) (g.fits, tt)).0 in
      let k : read32 s (length A) ≡ length it.key = read_first s A Z e 4 ∙ key-length it B small in
      let c : read32 s (length A + 4) ≡ length it.entries = read_behind s A Z e 4 4 ∙ entry-count it B small in
      let y : read32 s (length A + 24) ≡ entry_bytes it.entries = read_behind s A Z e 4 24 ∙ entries-length it B small in
      let z : all_zero (part s (length A + 28) 4) ≡ true = ap all_zero (part-behind s A Z e 28 4 ∙ item-zeros it B) ∙ zeros-pass 4 in
      let key : key_at s (length A) ≡ it.key = ap (part s (length A + 32)) k ∙ part-behind s A Z e 32 (length it.key) ∙ item-key it B in
      let next : item_next s (length A) ≡ length A + length (enc_item it) = omega arith in
      let first : entries_at s (length A) ≡ length A + (32 + length it.key) = omega arith in
      let short = key-short it.key it.entries g.sound.some-entry g.fits.entries in
      let some-entry = g.sound.some-entry in
      let ends : entries_end is_value s (item_next s (length A)) (read32 s (length A + 4)) (entries_at s (length A)) ≡ Some (item_next s (length A)) =
      (λ i. entries_end is_value s (next i) (c i) (first i)) ∙ own-entries l A B it e g ∙ ap Some (sym next) in
      record {
        passes = yes-every _ (
          le-leb (length A + 32) end (omega arith),
          (
            le-leb (item_next s (length A)) end (omega arith),
            (
              z,
              (
                le-leb (read32 s (length A)) max_key (omega arith),
                (
                  eq-eqb (p.shard_of (key_at s (length A))) shard (ap p.shard_of key ∙ g.sound.home),
                  (le-leb 1 (read32 s (length A + 4)) (omega arith), (true-ends _ (item_next s (length A)) ends, tt)),
                ),
              ),
            ),
          ),
        );
        good = g;
        keyed = key;
        size = next;
        bytes = ap (λ (x : Bytes). part x (length A) (length (enc_item it))) e ∙ part_at A (enc_item it) B (length A) (length (enc_item it)) refl refl;
      }

  -- ---- several items

  -- well-formed items, no key twice, stand from byte 16 up to `e`
  pub record ItemsThere (e n : ℕ) : Type 0 where
    pub row : Row
    pub count : length row ≡ n
    pub ends : e ≡ 16 + row_bytes row
    pub bytes : part s 16 (row_bytes row) ≡ enc_items row
    pub distinct : Distinct row
    pub good : All GoodItem row

  absent-differ : (k : Bytes) (row : Row) → find k row ≡ none → All (λ i. same k i.key ≡ false) row
  unfolding find
  absent-differ k [] f = tt
  absent-differ k (it ∷ row) f =
      by_test (same k it.key) (λ q. absurd (none-ne-some it (sym (rw q at f)))) (λ q. (q, absent-differ k row (rw q at f)))

  differ-absent : (k : Bytes) (row : Row) → All (λ i. same k i.key ≡ false) row → find k row ≡ none
  unfolding find
  differ-absent k [] w = refl
  differ-absent k (it ∷ row) w = rw w.0 (differ-absent k row w.1)

  keys-differ : (row : Row) → Distinct row → Differ (λ i. i.key) row
  keys-differ [] d = tt
  keys-differ (it ∷ row) d = (absent-differ it.key row d.0, keys-differ row d.1)

  differ-keys : (row : Row) → Differ (λ i. i.key) row → Distinct row
  differ-keys [] d = tt
  differ-keys (it ∷ row) d = (differ-absent it.key row d.0, differ-keys row d.1)

  -- what is walked to its end is such items
  pub items-found : Octets s → end ≤ length s → (n e : ℕ) → items_end is_value p.shard_of s shard end n ≡ Some e → ItemsThere e n
  unfolding items_end enc_items
  items-found b h n e w =
      let f = walk-found enc_item (λ i. i.key) GoodItem s (item_ok is_value p.shard_of s shard end) (item_next s) (key_at s) (item-found b h) 16 n e w in
      let g =
      run-bytes enc_item (λ i. i.key) GoodItem s (item_ok is_value p.shard_of s shard end) (item_next s) (key_at s) enc_items refl (λ x xs. refl) 16 e
      f.things f.run in
      let l = length-items f.things in
      record {
        row = f.things;
        count = f.count;
        ends = g.0 ∙ ap (λ (i : ℕ). 16 + i) l;
        bytes = ap (part s 16) (sym l) ∙ g.1;
        distinct = differ-keys f.things f.differ;
        good = run-good enc_item (λ i. i.key) GoodItem s (item_ok is_value p.shard_of s shard end) (item_next s) (key_at s) 16 e f.things f.run;
      }

  -- and such items are walked to their end
  pub items-pass : length s < 256 ^ 4 → (A B : Bytes) (row : Row) → length A ≡ 16 → s ≡ A ++ (enc_items row ++ B) → All GoodItem row → Distinct row
      → 16 + row_bytes row ≤ end → items_end is_value p.shard_of s shard end (length row) ≡ Some (16 + row_bytes row)
  unfolding items_end enc_items
  items-pass l A B row a e g d h =
      let n = length-items row in
      let r =
      bytes_run enc_item (λ i. i.key) GoodItem s (item_ok is_value p.shard_of s shard end) (item_next s) (key_at s) enc_items refl (λ x xs. refl) end
      (item-passes l) A B row e g
      (omega arith) in
      let walked =
      found-walk enc_item (λ i. i.key) GoodItem s (item_ok is_value p.shard_of s shard end) (item_next s) (key_at s) (length A)
      (length A + length (enc_items row)) row r (keys-differ row d) in
      subst (λ (i : ℕ). walk (key_at s) (item_next s) (item_ok is_value p.shard_of s shard end) i 0 (length row) i ≡ Some (i + length (enc_items row))) a walked
      ∙ ap (λ (i : ℕ). Some (16 + i)) n
