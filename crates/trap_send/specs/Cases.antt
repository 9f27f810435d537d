-- The program on `GET a` and at its limits, computed from planning's own call. Assumes nothing.
use Rattle.std.specs.Prelude.{None, Some, ◌≡◌, refl, [], ◌∷◌, ◌++◌, length, replicate}
use Rattle.buffer.specs.Same.{Bytes}
use Rattle.cache_manager.specs.Cases.{call-case-defs, record_of, get_a, sent_a}
use Rattle.trap_send.specs.Send.{output, sends_with}

-- the joint table's case: 41 bytes, and the end of a longer buffer unchanged; the plan takes 33
pub get-a : sends_with (record_of 0 1 (get_a 0 0)) (replicate 43 8) (replicate 33 9) ≡ output (Some 41) (sent_a ++ (8 ∷ 8 ∷ []))
unfolding call-case-defs sends_with
get-a = refl

-- a buffer with a byte less room, and a byte that trails: nothing
pub no_room : sends_with (record_of 0 1 (get_a 0 0)) (replicate 40 8) (replicate 33 9) ≡ output None (replicate 40 8)
unfolding call-case-defs sends_with
no_room = refl

pub trailing : sends_with (record_of 0 1 (get_a 0 0) ++ (0 ∷ [])) (replicate 43 8) (replicate 33 9) ≡ output None (replicate 43 8)
unfolding call-case-defs sends_with
trailing = refl

-- a record of 65,537 bytes, whatever they are
pub too_long : (s f d : Bytes) → length s ≡ 65537 → sends_with s f d ≡ output None f
unfolding sends_with
too_long s f d l = rw l
