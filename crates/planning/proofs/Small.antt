-- Lengths: the keys that a valid command asks for, and its command keys, are as short as a plan's rules want. Assumes nothing.
use Rattle.std.specs.Prelude.{◌≡◌, refl, List, [], ◌∷◌, ◌++◌, ◌≤◌, length, Option, None, Some}
use Rattle.std.proofs.Common.{arith, length-append}
use Rattle.buffer.specs.Same.{Bytes}
use Rattle.buffer.specs.Field.{le32}
use Rattle.config.specs.Limits.{max_argument}
use Rattle.format.specs.Lists.{enc_all, All}
use Rattle.commands.specs.MultiKey.{multi_key, single_name}
use Rattle.commands.specs.declared.MultiKey.{MultiKey}
use Rattle.commands.specs.declared.MultiKey.TheVariants.{Mget, JsonMget}
use Rattle.call_record.specs.Record.{Argument, simple, cursor, ValidArgument, enc_argument}
use Rattle.command_key.specs.Key.{command_key}
use Rattle.planning.specs.Ask.{simples, after_name, but_last, last_only}
use Rattle.planning.specs.Outcome.{as_simple, part_key, part_keys}
use Rattle.planning.specs.Rules.{GoodWanted}

-- no longer than an argument
abbrev pub Short : Bytes → Type 0
Short b = length b ≤ max_argument

-- simple arguments are
pub simples-short : (l : List Argument) → All ValidArgument l → All Short (simples l)
unfolding simples ValidArgument
simples-short [] h = tt
simples-short (simple b ∷ l) h = (h.0.0, simples-short l h.1)
simples-short (cursor ∷ l) h = simples-short l h.1

-- and no more than all
pub simples-count : (l : List Argument) → length (simples l) ≤ length l
unfolding simples
simples-count [] = omega arith
simples-count (simple b ∷ l) = let i = simples-count l in omega arith
simples-count (cursor ∷ l) = let i = simples-count l in omega arith

-- so are those after the name
pub after-short : (l : List Argument) → All ValidArgument l → All Short (after_name l)
unfolding after_name
after-short [] h = tt
after-short (a ∷ l) h = simples-short l h.1

-- and no more than all
pub after-count : (l : List Argument) → length (after_name l) ≤ length l
unfolding after_name
after-count [] = omega arith
after-count (a ∷ l) = let i = simples-count l in omega arith

-- and all but the last of them
pub but-last-short : (l : List Bytes) → All Short l → All Short (but_last l)
unfolding but_last
but-last-short [] h = tt
but-last-short (b ∷ []) h = tt
but-last-short (b ∷ (d ∷ l)) h = (h.0, but-last-short (d ∷ l) h.1)

-- and no more than all
pub but-last-count : (l : List Bytes) → length (but_last l) ≤ length l
unfolding but_last
but-last-count [] = omega arith
but-last-count (b ∷ []) = omega arith
but-last-count (b ∷ (d ∷ l)) = let i = but-last-count (d ∷ l) in omega arith

-- and the path
pub last-short : (l : List Bytes) → All Short l → Short (command_key (as_simple (last_only l)))
unfolding last_only command_key as_simple
last-short [] h = omega arith
last-short (b ∷ []) h = let g : length b ≤ max_argument = h.0 in let j = length-append b [] in omega arith
last-short (b ∷ (d ∷ l)) h = last-short (d ∷ l) h.1

-- a command key is no longer than the record's bytes of the arguments
pub key-short : (l : List Argument) → length (command_key l) ≤ length (enc_all enc_argument l)
unfolding command_key enc_argument
key-short [] = omega arith
key-short (simple b ∷ l) =
    let i = key-short l in
    let j = length-append b (command_key l) in
    let k = length-append (enc_argument (simple b)) (enc_all enc_argument l) in
    let m = length-append (le32 (length b)) b in
    omega arith
key-short (cursor ∷ l) =
    let i = key-short l in let k = length-append (enc_argument cursor) (enc_all enc_argument l) in omega arith

-- `JSON.GET` is the longest of the names
name-short : (k : Option MultiKey) → length (single_name k) ≤ 8
unfolding single_name
name-short None = omega arith
name-short (Some Mget) = omega arith
name-short (Some JsonMget) = omega arith

-- each of several keys with its command key
pub parts-good : (n : Bytes) (path ks : List Bytes) → Short (command_key (as_simple path)) → All Short ks → All GoodWanted (part_keys n path ks)
unfolding part_keys part_key command_key
parts-good n path [] q h = tt
parts-good n path (k ∷ ks) q h =
    let g : length k ≤ max_argument = h.0 in
    let P : Bytes = command_key (as_simple path) in
    let a = length-append (single_name (multi_key n)) (k ++ P) in
    let b = length-append k P in
    let c = name-short (multi_key n) in
    (record { key = omega arith; command = omega arith }, parts-good n path ks q h.1)

-- as many as keys
pub parts-count : (n : Bytes) (path ks : List Bytes) → length (part_keys n path ks) ≡ length ks
unfolding part_keys
parts-count n path [] = refl
parts-count n path (k ∷ ks) = let i = parts-count n path ks in omega arith
