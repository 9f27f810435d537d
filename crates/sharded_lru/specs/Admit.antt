-- Causes 1 and 9, with which every call on an arena but setup begins (rule C12 of docs/BEHAVIOUR.md). What a call that passes them knows of its arena. Assumes
-- nothing.
use Rattle.std.specs.Prelude.{◌≡◌, refl, ℕ, Bool, true, false, cond, length, Result, Ok, Err}
use Rattle.std.proofs.Common.{sym, arith}
use Rattle.std.proofs.Math.Option.{some}
use Rattle.buffer.specs.Same.{Bytes}
use Rattle.config.specs.Config.{checked}
use Rattle.config.specs.Laws.{passed}
use Rattle.config.specs.declared.Settings.{Settings}
use Rattle.config.specs.declared.Cause.{Cause}
use Rattle.config.specs.declared.Cause.TheVariants.{BadArena}
use Rattle.resp3.specs.Ends.{is_value}
use Rattle.arena.specs.Decode.{read_arena, is_image, decode}
use Rattle.arena.proofs.Image.{decode-exact}
use Rattle.sharded_lru.specs.Lent.{setup_now, Lent, Arena}

-- from the outcome of cause 1's test; which bytes cause 9 refuses is rule A2 (arena/proofs/Sizes.antt, `cause-nine-for`)
abbrev pub admitted_by : Result Settings Cause → Bytes → Result Settings Cause
admitted_by (Err cause) s = Err cause
admitted_by (Ok g) s = cond (is_image is_value (setup_now g) s) (Ok g) (Err BadArena)

-- from a size, a mode's number, a default TTL and the arena's bytes
unfoldable pub admitted : ℕ → ℕ → ℕ → Bytes → Result Settings Cause
admitted size mode ttl s = admitted_by (checked size mode ttl (length s)) s

-- what an admitted call knows
pub record Entered (size mode ttl : ℕ) (s : Bytes) (g : Settings) : Type 0 where
  pub fine : checked size mode ttl (length s) ≡ Ok g
  pub read : decode is_value (setup_now g) s ≡ some (read_arena (setup_now g) s)
  pub lent : Lent g s (read_arena (setup_now g) s)

pub admits : (size mode ttl : ℕ) (s : Bytes) (g : Settings) → admitted size mode ttl s ≡ Ok g → Entered size mode ttl s g
unfolding admitted
admits size mode ttl s g = go (checked size mode ttl (length s)) refl
  where
    image : (f : Settings) → checked size mode ttl (length s) ≡ Ok f → is_image is_value (setup_now f) s ≡ true → Entered size mode ttl s f
    image f q e =
        let w = passed size mode ttl (length s) f q in
        let d : decode is_value (setup_now f) s ≡ some (read_arena (setup_now f) s) = unfold decode in rw e in
        record {
          fine = q;
          read = d;
          lent = record {
            some = w.some;
            few = w.few;
            keyed = w.keyed;
            least = w.least;
            inside = w.inside;
            largest = w.largest;
            image = decode-exact is_value (setup_now f) s (read_arena (setup_now f) s) d;
          };
        }

    judge : (f : Settings) → checked size mode ttl (length s) ≡ Ok f → (b : Bool) → is_image is_value (setup_now f) s ≡ b
        → cond b (Ok f) (Err BadArena) ≡ Ok g → Entered size mode ttl s g
    judge f q true e r = let same : f ≡ g = cc in rw (sym same) (image f q e)
    judge f q false e r = let z : ◌≡◌ {A = ℕ} 0 1 = cc in absurd (omega arith)

    go : (c : Result Settings Cause) → checked size mode ttl (length s) ≡ c → admitted_by c s ≡ Ok g → Entered size mode ttl s g
    go (Err cause) q r = let z : ◌≡◌ {A = ℕ} 0 1 = cc in absurd (omega arith)
    go (Ok f) q r = judge f q (is_image is_value (setup_now f) s) refl r

-- so the functions of this crate may be called
pub enter : (size mode ttl : ℕ) (s : Bytes) (g : Settings) → admitted size mode ttl s ≡ Ok g → Arena g s
enter size mode ttl s g e = record { rows = read_arena (setup_now g) s; lent = (admits size mode ttl s g e).lent }
