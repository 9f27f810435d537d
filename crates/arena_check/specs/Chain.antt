-- Keys of things that stand one after the other, numbered from 0 on: none twice, one among the first, and the chains of those that share a mark.
-- Assumes nothing: these are definitions.
use Rattle.std.specs.Prelude.{◌≡◌, ℕ, ◌+◌, ◌-◌, ◌^◌, ◌≤◌, ◌<◌, Bool, true, false, Option, Some, None, List, length, get_or}
use Rattle.buffer.specs.Same.{Bytes, same}
use Rattle.buffer.specs.Field.{read32}
use Rattle.arena_check.specs.Walk.{nth}
use Rattle.arena_check.specs.Check.{key_in, next_in}

-- n things stand from `first` on, within the bytes
abbrev pub Stand : ℕ → ℕ → Bytes → ℕ → ℕ → Type 0
Stand h f s n first =
    ((k : ℕ) → k < n → next_in h f s (nth (next_in h f s) k first) ≤ length s) × (4 ≤ h) × (f + 4 ≤ h) × (length s < 2 ^ 32)

-- the key of the t-th of them
abbrev pub keys_from : ℕ → ℕ → Bytes → ℕ → ℕ → Bytes
keys_from h f s first t = key_in h s (nth (next_in h f s) t first)

module _ (key : ℕ → Bytes) where
  -- none of the first m has the key of a later one, of n
  abbrev pub Apart : ℕ → ℕ → Type 0
  Apart m n = (j k : ℕ) → j < m → j < k → k < n → same (key j) (key k) ≡ false

  -- two of n have the same key
  pub record Twice (n : ℕ) : Type 0 where
    pub one : ℕ
    pub other : ℕ
    pub order : one < other
    pub below : other < n
    pub equal : same (key one) (key other) ≡ true

  -- what an answer on the first m of n says
  abbrev pub Answers : Bool → ℕ → ℕ → Type 0
  Answers true m n = Apart m n
  Answers false m n = Twice n

  -- what an answer on whether one of the first k has the key x says
  abbrev pub Among : Bool → ℕ → Bytes → Type 0
  Among true k x = (t : ℕ) × (t < k) × (same (key t) x ≡ true)
  Among false k x = (t : ℕ) → t < k → same (key t) x ≡ false

-- a key's mark is whatever `mark` says: keys that are the same have the same mark
module _ (mark : Bytes → ℕ) (key : ℕ → Bytes) where
  -- q numbers, from 1 on, the latest of the first k that has the mark m; it is 0 where none has
  pub record Latest (m q k : ℕ) : Type 0 where
    pub low : q ≤ k
    pub none : (t : ℕ) → q ≤ t → t < k → mark (key t) ≡ m → ⊥
    pub its : 0 < q → mark (key (q - 1)) ≡ m

  -- the first k are chained: each has its key at its place, and is linked to the latest before it that has its mark
  pub record Chains (key_at : ℕ → Bytes) (place prev : List ℕ) (k : ℕ) : Type 0 where
    pub keyed : (t : ℕ) → t < k → key_at (get_or place t 0) ≡ key t
    pub links : (t : ℕ) → t < k → Latest (mark (key t)) (get_or prev t 0) t

-- the first c can be followed: links lead back, and places are within the bytes
pub record Linked (h : ℕ) (s : Bytes) (place prev : List ℕ) (c : ℕ) : Type 0 where
  pub few : c ≤ 4096
  pub places : c ≤ length place
  pub links : c ≤ length prev
  pub back : (t : ℕ) → t < c → get_or prev t 0 ≤ t
  pub inside : (t : ℕ) → t < c → get_or place t 0 + h + read32 s (get_or place t 0) ≤ length s

-- tables for m things whose marks are at most `top`: a number for each mark, all 0, and a link and a place for each thing
pub record Tables (top m : ℕ) (last prev place : List ℕ) : Type 0 where
  pub marked : top < length last
  pub none : (v : ℕ) → v ≤ top → get_or last v 0 ≡ 0
  pub linked : m ≤ length prev
  pub placed : m ≤ length place

-- what is found of the first m of n things from `first` on: two of the n have the same key, or this is where the m end, and each is apart from those behind it
abbrev pub Chained : ℕ → ℕ → Bytes → ℕ → ℕ → ℕ → Option ℕ → Type 0
Chained h f s first m n None = Twice (keys_from h f s first) n
Chained h f s first m n (Some e) = (e ≡ nth (next_in h f s) m first) × Apart (keys_from h f s first) m n
