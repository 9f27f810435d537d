-- `arena_check::is_image` meets its contract. The loop's invariant: the test of the shards that are left is the whole test. Assumes nothing.
use mathlib.Core.Path.{◌≡◌}
use Rattle.resp3.specs.Ends.{is_value}
use Rattle.siphash.specs.Sip.{sip_hash13}
use Rattle.arena.specs.Decode.{is_image}
use Rattle.arena.specs.SetupOf.{setup_of}
use Rattle.arena_check.specs.Check.{shards_ok}
use Rattle.arena_check.specs.Home.{home_in}
use Rattle.arena_check.proofs.is_image.Given as goal

abbrev pub invariant-loop-i : goal.invariant-loop-i
invariant-loop-i l =
    is_image is_value (setup_of sip_hash13 l.shards l.keys l.bytes) l.arena ≡ shards_ok is_value (home_in l.shards) l.keys l.bytes l.arena l.i
