-- What `admit` asks of the image check. Assumes nothing.
use Rattle.std.specs.Prelude.{◌≡◌, ℕ, ◌*◌, ◌^◌, ◌≤◌, ◌<◌, length, Ok}
use Rattle.std.proofs.Common.{arith}
use Rattle.buffer.specs.Same.{Bytes}
use Rattle.config.specs.Config.{checked}
use Rattle.config.specs.Laws.{passed}
use Rattle.config.specs.declared.Settings.{Settings}
use Rattle.siphash.specs.Sip.{sip_hash13}
use Rattle.arena.proofs.Sizes.{sized}
use Rattle.arena.specs.SetupOf.{setup_of}

pub bounds : (size mode ttl : ℕ) (s : Bytes) (g : Settings) → checked size mode ttl (length s) ≡ Ok g
    → (0 < g.shards) × (16 ≤ g.bytes) × (g.bytes < 2 ^ 32) × (g.shards * g.bytes ≤ length s)
unfolding setup_of
bounds size mode ttl s g e =
    let w = passed size mode ttl (length s) g e in
    let z = sized sip_hash13 size mode ttl (length s) g w in
    let a = z.header in
    let b = z.small in
    (w.some, omega arith, omega arith, z.inside)
