-- How many commands are sent for a command, by its outcome as the code holds it, case by case. Assumes nothing.
-- Letters: m mode, g settings, rows the rows that the arena holds, t clock, e epoch, s the record's bytes, a the arena's, c command.
use Rattle.std.specs.Prelude.{◌≡◌, refl, List, [], ◌∷◌, ℕ, suc, ◌+◌, ◌≤◌, length}
use Rattle.std.proofs.Common.{ap, ◌∙◌, arith}
use Rattle.buffer.specs.Same.{Bytes}
use Rattle.config.specs.Limits.{max_bytes}
use Rattle.config.specs.declared.CacheMode.{CacheMode}
use Rattle.config.specs.declared.CacheMode.TheVariants.{All, OptIn}
use Rattle.config.specs.declared.Settings.{Settings}
use Rattle.call_record.specs.Record.{Command}
use Rattle.book.specs.Book.{Row}
use Rattle.book.specs.Calls.{Wanted}
use Rattle.planning.specs.Outcome.{missing}
use Rattle.planning.specs.Sent.{Packed, keys_of, pttls, packs, opt_in_first, sends}
use Rattle.sharded_lru.specs.Lent.{setup_now}
use Rattle.planning_outcome.specs.Result.{command_for, result_of, ResultIn}
use Rattle.planning_outcome.specs.declared.CacheableCommand.{CacheableCommand}
use Rattle.planning_outcome.specs.declared.CacheableCommand.TheVariants.{Single, Multiple}
use Rattle.planning_outcome.specs.declared.PrepCacheItem.{PrepCacheItem}
use Rattle.planning_outcome.specs.declared.PrepCacheItem.TheVariants.{Cached, NotCached, NotCacheable}
use Rattle.planning_outcome.specs.declared.CachingResult.{CachingResult}
use Rattle.planning_outcome.specs.declared.CachingResult.TheVariants.{Item, Ignored}
use Rattle.planning_places.specs.Pieces.{places_now}
use Rattle.planning_send.specs.Sends.{few-missing}

-- ---- how many

-- `CLIENT CACHING YES`, in opt-in mode
abbrev pub opt_in_count : CacheMode → ℕ
opt_in_count All = 0
opt_in_count OptIn = 1

-- `PTTL` and the command; or the name with n keys, and a `PTTL` for each
abbrev pub packs_count : CacheableCommand → ℕ
packs_count (Single key x) = 2
packs_count (Multiple v n x) = 1 + n

abbrev item_count : CacheMode → PrepCacheItem → ℕ
item_count m (Cached b) = 0
item_count m (NotCached cc) = opt_in_count m + packs_count cc
item_count m NotCacheable = 1

abbrev pub count_with : CacheMode → CachingResult → ℕ
count_with m (Item i) = item_count m i
count_with m Ignored = 1

-- no more keys are missing than a record has bytes
abbrev pub CommandFew : CacheableCommand → Type 0
CommandFew (Single key x) = Unit {0}
CommandFew (Multiple v n x) = n ≤ max_bytes

abbrev ItemFew : PrepCacheItem → Type 0
ItemFew (Cached b) = Unit {0}
ItemFew (NotCached cc) = CommandFew cc
ItemFew NotCacheable = Unit {0}

abbrev pub ResultFew : CachingResult → Type 0
ResultFew (Item i) = ItemFew i
ResultFew Ignored = Unit {0}

-- at most one command more
pub opt-few : (m : CacheMode) → opt_in_count m ≤ 1
opt-few All = omega arith
opt-few OptIn = omega arith

-- ---- that is planning's

-- a `PTTL` for each missing key
pttl-count : (ws : List Wanted) → length (pttls (keys_of ws)) ≡ length ws
unfolding pttls keys_of
pttl-count [] = refl
pttl-count (w ∷ ws) = ap suc (pttl-count ws)

-- before a list of commands
opt-count : (m : CacheMode) (l : List Packed) → length (opt_in_first m l) ≡ opt_in_count m + length l
unfolding opt_in_first
opt-count All l = omega arith
opt-count OptIn l = omega arith

pub count_held : (m : CacheMode) (g : Settings) (rows : ℕ → Row) (t e : ℕ) (s a : Bytes) (c : Command) → length s ≤ max_bytes → (r : CachingResult)
    → ResultIn (setup_now g) rows t e s a c r → (length (sends m c (result_of (setup_now g) rows t e s a c r)) ≡ count_with m r) × ResultFew r
unfolding sends packs
count_held m g rows t e s a c l Ignored i = (refl, tt)
count_held m g rows t e s a c l (Item NotCacheable) i = (refl, tt)
count_held m g rows t e s a c l (Item (Cached b)) i = (refl, tt)
count_held m g rows t e s a c l (Item (NotCached (Single key x))) i = (opt-count m (packs c (command_for (setup_now g) rows t e s a c (Single key x))), tt)
count_held m g rows t e s a c l (Item (NotCached (Multiple v n x))) i =
    let k = pttl-count (missing (places_now g rows t e s v)) in
    let q = i.1 in
    let f = few-missing g rows t e s v n i.0 q in
    let d : length (packs c (command_for (setup_now g) rows t e s a c (Multiple v n x))) ≡ 1 + n = omega arith in
    (opt-count m (packs c (command_for (setup_now g) rows t e s a c (Multiple v n x))) ∙ ap (λ (z : ℕ). opt_in_count m + z) d, omega arith)
