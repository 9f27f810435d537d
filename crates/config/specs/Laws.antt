-- What holds of the shards of any size, and of settings that cause 1 lets through: the bounds that callers work with. Assumes nothing.
use Rattle.std.specs.Prelude.{◌≡◌, refl, ℕ, ◌*◌, ◌/◌, ◌≤◌, Bool, true, false, cond, ◌||◌, ltb, Ok, Err}
use Rattle.std.proofs.Common.{sym, arith, ltb-false}
use Rattle.std.proofs.lemmas.Bool.{false≢true}
use Rattle.config.specs.Limits.{max_size, max_arena, max_shards, min_shard_bytes}
use Rattle.config.specs.Config.{shard_count, shard_size, shard_bytes, refused, settings_of, checked}
use Rattle.config.specs.declared.Settings.{Settings}
use Rattle.config.specs.declared.Cause.{Cause}
use Rattle.config.specs.declared.Cause.TheVariants.{BadConfig}

-- at least one shard and at most 32
pub count-bounds : (size : ℕ) → (1 ≤ shard_count size) × (shard_count size ≤ max_shards)
count-bounds size = go (ltb size max_shards)
  where
    go : (b : Bool) → (1 ≤ cond b 1 max_shards) × (cond b 1 max_shards ≤ max_shards)
    go true = (omega arith, omega arith)
    go false = (omega arith, omega arith)

-- a shard has a key where the cache has one, and no more keys than the cache
pub size-bounds : (size : ℕ) → 1 ≤ size → (1 ≤ shard_size size) × (shard_size size ≤ size)
size-bounds size h = go (ltb size max_shards) refl
  where
    go : (b : Bool) → ltb size max_shards ≡ b → (1 ≤ cond b size (size / max_shards)) × (cond b size (size / max_shards) ≤ size)
    go true e = (omega arith, omega arith)
    go false e = (omega (arith, ltb-false size max_shards e), omega arith)

-- an arena of enough bytes gives each shard enough, and holds all shards
pub bytes-bounds : (size arena : ℕ) → min_shard_bytes * shard_count size ≤ arena
    → (min_shard_bytes ≤ shard_bytes size arena) × (shard_count size * shard_bytes size arena ≤ arena)
bytes-bounds size arena h = go (ltb size max_shards) h
  where
    go : (b : Bool) → min_shard_bytes * cond b 1 max_shards ≤ arena
        → (min_shard_bytes ≤ arena / cond b 1 max_shards) × (cond b 1 max_shards * (arena / cond b 1 max_shards) ≤ arena)
    go true k = (omega arith, omega arith)
    go false k = (omega arith, omega arith)

-- neither test of two holds where their disjunction does not
neither : (a b : Bool) → (a || b) ≡ false → (a ≡ false) × (b ≡ false)
neither true b e = absurd (false≢true (sym e))
neither false b e = (refl, e)

-- what holds where cause 1's test lets g through
pub record Passed (size mode ttl arena : ℕ) (g : Settings) : Type 0 where
  pub passes : refused size mode arena ≡ false
  pub is : g ≡ settings_of size mode ttl arena
  pub some : 1 ≤ g.shards
  pub few : g.shards ≤ max_shards
  pub keyed : 1 ≤ g.keys
  pub numbered : g.keys ≤ max_size
  pub least : min_shard_bytes ≤ g.bytes
  pub inside : g.shards * g.bytes ≤ arena
  pub largest : arena ≤ max_arena

-- settings that are not refused keep within the bounds
unrefused : (size mode ttl arena : ℕ) → refused size mode arena ≡ false → Passed size mode ttl arena (settings_of size mode ttl arena)
unfolding refused settings_of
unrefused size mode ttl arena e =
    let e₁ = neither _ _ e in
    let e₂ = neither _ _ e₁.0 in
    let e₃ = neither _ _ e₂.0 in
    let e₄ = neither _ _ e₃.0 in
    let size-most : size ≤ max_size = ltb-false _ _ e₄.1 in
    let keys = size-bounds size (ltb-false _ _ e₄.0) in
    let bytes = bytes-bounds size arena (ltb-false _ _ e₁.1) in
    record {
      passes = e;
      is = refl;
      some = (count-bounds size).0;
      few = (count-bounds size).1;
      keyed = keys.0;
      numbered = omega (arith, keys.1);
      least = bytes.0;
      inside = bytes.1;
      largest = ltb-false _ _ e₂.1;
    }

-- where the test refuses, it is cause 1 that does
pub checked-cause : (size mode ttl arena : ℕ) (cause : Cause) → checked size mode ttl arena ≡ Err cause → BadConfig ≡ cause
unfolding checked
checked-cause size mode ttl arena cause = go (refused size mode arena)
  where
    go : (b : Bool) → cond b (Err BadConfig) (Ok (settings_of size mode ttl arena)) ≡ Err cause → BadConfig ≡ cause
    go true e = cc
    go false e = let z : ◌≡◌ {A = ℕ} 0 1 = cc in absurd (omega arith)

-- what a caller knows once the test has let g through
pub passed : (size mode ttl arena : ℕ) (g : Settings) → checked size mode ttl arena ≡ Ok g → Passed size mode ttl arena g
unfolding checked
passed size mode ttl arena g = go (refused size mode arena) refl
  where
    go : (b : Bool) → refused size mode arena ≡ b → cond b (Err BadConfig) (Ok (settings_of size mode ttl arena)) ≡ Ok g → Passed size mode ttl arena g
    go true r e = let z : ◌≡◌ {A = ℕ} 0 1 = cc in absurd (omega arith)
    go false r e = let same : g ≡ settings_of size mode ttl arena = cc in rw same (unrefused size mode ttl arena r)
