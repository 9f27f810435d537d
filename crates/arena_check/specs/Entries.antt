-- The check of entries finds exactly the entries that may be stored: both ways. Assumes bytes (below 256) and fewer than 2^32 of them.
use Rattle.std.specs.Prelude.{◌≡◌, ℕ, ◌+◌, ◌^◌, ◌≤◌, ◌<◌, Bool, false, Some, List, [], ◌∷◌, ◌++◌}
use Rattle.std.proofs.Math.Path.{refl, sym, ap, ap₂}
use Rattle.std.proofs.Common.{◌∙◌, subst, append_assoc}
use native.Mathlib.Omega.{arith}
use Rattle.std.proofs.Math.Bool.{true}
use Rattle.std.proofs.Math.Option.{none, none-ne-some}
use Rattle.std.proofs.Math.ListN.{length, length-append}
use borrow.Author.Tests.{leb-true, le-leb}
use Rattle.buffer.specs.Cases.{by_test}
use Rattle.buffer.specs.Same.{Bytes, same}
use Rattle.buffer.specs.Field.{Octets, read32}
use Rattle.buffer.specs.Part.{part}
use Rattle.buffer.specs.PartLaws.{part-add, part_at, length_part}
use Rattle.buffer.specs.Zero.{all_zero, zeros-pass}
use Rattle.config.specs.Limits.{max_command_key}
use Rattle.book.specs.Book.{Entry, value_for, entry_bytes}
use Rattle.book.specs.Sound.{DistinctCommands}
use Rattle.format.specs.Lists.{All}
use Rattle.arena.specs.Layout.{zeros, head, enc_entry, enc_entries}
use Rattle.arena.proofs.Length.{length-entry, length-entries}
use Rattle.arena.proofs.Read.{command-length, value-length, entry-command, entry_value}
use Rattle.arena.proofs.Tests.{every-yes, yes-every}
use Rattle.arena_check.specs.There.{head-there, head-zeros, read_behind, read_first, part-behind}
use Rattle.arena_check.specs.Walk.{Differ, Stands, walk-found, run-good, run-bytes, bytes_run, found-walk}
use Rattle.arena_check.specs.Check.{command_at, value_at, entry_next, entry_ok, entries_end}

-- ---- entries

-- the entry that stands at `at`
abbrev pub entry_at : Bytes → ℕ → Entry
entry_at s at = record { command = command_at s at; value = value_at s at }

-- its bytes are an entry's, where its head's filler is zero
entry-there : (s : Bytes) (at : ℕ) → Octets s → entry_next s at ≤ length s → all_zero (part s (at + 8) 8) ≡ true
    → part s at (length (enc_entry (entry_at s at))) ≡ enc_entry (entry_at s at)
unfolding enc_entry
entry-there s at b h e =
    let c : ℕ = read32 s at in
    let v : ℕ = read32 s (at + 4) in
    let lc : length (command_at s at) ≡ c = length_part s (at + 16) c (omega arith) in
    let lv : length (value_at s at) ≡ v = length_part s (at + 16 + c) v (omega arith) in
    let n : length (enc_entry (entry_at s at)) ≡ 16 + (c + v) = omega (arith, length-entry (entry_at s at)) in
    let there : part s at 16 ≡ head c v = head-there s at b (omega arith) e in
    ap (part s at) n ∙ part-add s at 16 (c + v) ∙ ap₂ (λ (x y : Bytes). x ++ y) there (part-add s (at + 16) c v)
    ∙ ap₂ (λ (x y : ℕ). head x y ++ (command_at s at ++ value_at s at)) (sym lc) (sym lv)

entry-zeros : (en : Entry) (B : Bytes) → part (enc_entry en ++ B) 8 8 ≡ zeros 8
unfolding enc_entry
entry-zeros en B =
    rw (append_assoc (head (length en.command) (length en.value)) (en.command ++ en.value) B)
    (head-zeros (length en.command) (length en.value) ((en.command ++ en.value) ++ B))

-- ---- no command key twice

absent-differ : (c : Bytes) (ens : List Entry) → value_for c ens ≡ none → All (λ e. same c e.command ≡ false) ens
unfolding value_for
absent-differ c [] f = tt
absent-differ c (en ∷ ens) f =
    by_test (same c en.command) (λ q. absurd (none-ne-some en.value (sym (rw q at f)))) (λ q. (q, absent-differ c ens (rw q at f)))

differ-absent : (c : Bytes) (ens : List Entry) → All (λ e. same c e.command ≡ false) ens → value_for c ens ≡ none
unfolding value_for
differ-absent c [] w = refl
differ-absent c (en ∷ ens) w = rw w.0 (differ-absent c ens w.1)

commands-differ : (ens : List Entry) → DistinctCommands ens → Differ (λ e. e.command) ens
commands-differ [] d = tt
commands-differ (en ∷ ens) d = (absent-differ en.command ens d.0, commands-differ ens d.1)

differ-commands : (ens : List Entry) → Differ (λ e. e.command) ens → DistinctCommands ens
differ-commands [] d = tt
differ-commands (en ∷ ens) d = (differ-absent en.command ens d.0, differ-commands ens d.1)

-- an entry that may be stored
abbrev pub GoodEntry : (Bytes → Bool) → Entry → Type 0
GoodEntry is_value en = (length en.command ≤ max_command_key) × (is_value en.value ≡ true)

module _ (is_value : Bytes → Bool) (s : Bytes) (end : ℕ) where
  abbrev pub EntryStands : ℕ → Entry → Type 0
  EntryStands at en = Stands enc_entry (λ e. e.command) (GoodEntry is_value) s (entry_ok is_value s end) (entry_next s) (command_at s) at en

  -- what passes is an entry
  pub entry_found : Octets s → end ≤ length s → (at : ℕ) → entry_ok is_value s end at ≡ true → (en : Entry) × EntryStands at en
  unfolding entry_ok
  entry_found b h at e =
      let w = every-yes _ e in
      let fits : entry_next s at ≤ end = leb-true _ _ w.1.0 in
      let c : length (command_at s at) ≡ read32 s at = length_part s (at + 16) (read32 s at) (omega arith) in
      let v : length (value_at s at) ≡ read32 s (at + 4) = length_part s (at + 16 + read32 s at) (read32 s (at + 4)) (omega arith) in (
        entry_at s at,
        record {
          passes = e;
          good = (rw c (leb-true _ _ w.1.1.1.0), w.1.1.1.1.0);
          keyed = refl;
          size = sym (omega (arith, length-entry (entry_at s at)));
          bytes = entry-there s at b (omega arith) w.1.1.0;
        },
      )

  -- and an entry passes
  pub entry-passes : length s < 256 ^ 4 → (A B : Bytes) (en : Entry) → s ≡ A ++ (enc_entry en ++ B) → GoodEntry is_value en
      → length A + length (enc_entry en) ≤ end
      → EntryStands (length A) en
  unfolding entry_ok
  entry-passes l A B en e g h =
      let Z : Bytes = enc_entry en ++ B in
      let ls : length s ≡ length A + (length (enc_entry en) + length B) = ap length e ∙ length-append A Z
      ∙ ap (λ (n : ℕ). length A + n) (length-append (enc_entry en) B) in
      let le = length-entry en in
      let c : read32 s (length A) ≡ length en.command = read_first s A Z e 4 ∙ command-length en B (omega arith) in
      let v : read32 s (length A + 4) ≡ length en.value = read_behind s A Z e 4 4 ∙ value-length en B (omega arith) in
      let z : all_zero (part s (length A + 8) 8) ≡ true = ap all_zero (part-behind s A Z e 8 8 ∙ entry-zeros en B) ∙ zeros-pass 8 in
      let key : command_at s (length A) ≡ en.command = ap (part s (length A + 16)) c ∙ part-behind s A Z e 16 (length en.command) ∙ entry-command en B in
      let at : length A + 16 + read32 s (length A) ≡ length A + (16 + length en.command) = omega arith in
      let value : value_at s (length A) ≡ en.value =
      ap₂ (λ (i n : ℕ). part s i n) at v ∙ part-behind s A Z e (16 + length en.command) (length en.value) ∙ entry_value en B in
      record {
        passes = yes-every _ (
          le-leb (length A + 16) end (omega arith),
          (
            le-leb (entry_next s (length A)) end (omega arith),
            (z, (le-leb (read32 s (length A)) max_command_key (subst (λ (n : ℕ). n ≤ max_command_key) (sym c) g.0), (ap is_value value ∙ g.1, tt))),
          ),
        );
        good = g;
        keyed = key;
        size = omega arith;
        bytes = ap (λ (x : Bytes). part x (length A) (length (enc_entry en))) e ∙ part_at A (enc_entry en) B (length A) (length (enc_entry en)) refl refl;
      }

  -- ---- several entries

  -- entries that may be stored, none twice, stand from `first` up to `e`
  pub record EntriesThere (first e n : ℕ) : Type 0 where
    pub entries : List Entry
    pub count : length entries ≡ n
    pub ends : e ≡ first + entry_bytes entries
    pub bytes : part s first (entry_bytes entries) ≡ enc_entries entries
    pub distinct : DistinctCommands entries
    pub good : All (GoodEntry is_value) entries

  -- what is walked to its end is such entries
  pub entries-found : Octets s → end ≤ length s → (n first e : ℕ) → entries_end is_value s end n first ≡ Some e → EntriesThere first e n
  unfolding entries_end enc_entries
  entries-found b h n first e w =
      let f = walk-found enc_entry (λ en. en.command) (GoodEntry is_value) s (entry_ok is_value s end) (entry_next s) (command_at s)
      (entry_found b h) first n e w in
      let g =
      run-bytes enc_entry (λ en. en.command) (GoodEntry is_value) s (entry_ok is_value s end) (entry_next s) (command_at s) enc_entries refl
      (λ x xs. refl) first e f.things f.run in
      let l = length-entries f.things in
      record {
        entries = f.things;
        count = f.count;
        ends = g.0 ∙ ap (λ (i : ℕ). first + i) l;
        bytes = ap (part s first) (sym l) ∙ g.1;
        distinct = differ-commands f.things f.differ;
        good = run-good enc_entry (λ en. en.command) (GoodEntry is_value) s (entry_ok is_value s end) (entry_next s) (command_at s) first e f.things f.run;
      }

  -- and such entries are walked to their end
  pub entries-pass : length s < 256 ^ 4 → (A B : Bytes) (ens : List Entry) → s ≡ A ++ (enc_entries ens ++ B) → All (GoodEntry is_value) ens → DistinctCommands ens
      → length A + entry_bytes ens ≤ end → entries_end is_value s end (length ens) (length A) ≡ Some (length A + entry_bytes ens)
  unfolding entries_end enc_entries
  entries-pass l A B ens e g d h =
      let n = length-entries ens in
      let r =
      bytes_run enc_entry (λ en. en.command) (GoodEntry is_value) s (entry_ok is_value s end) (entry_next s) (command_at s) enc_entries refl (λ x xs. refl) end
      (entry-passes l) A B ens e g
      (omega arith) in
      found-walk enc_entry (λ en. en.command) (GoodEntry is_value) s (entry_ok is_value s end) (entry_next s) (command_at s) (length A)
      (length A + length (enc_entries ens)) ens r (commands-differ ens d)
      ∙ ap (λ (i : ℕ). Some (length A + i)) n
