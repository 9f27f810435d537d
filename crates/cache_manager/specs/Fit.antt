-- What a record that the check calls fine gives the passes: commands inside its bytes, valid, and not too many. Assumes nothing.
use Rattle.std.specs.Prelude.{Ok, ◌≡◌, refl, false, ℕ, zero, suc, ◌≤◌, length}
use Rattle.std.proofs.Common.{ap, arith}
use Rattle.buffer.specs.Same.{Bytes}
use Rattle.buffer.specs.Field.{read16}
use Rattle.config.specs.Limits.{max_commands}
use Rattle.config.specs.declared.Settings.{Settings}
use Rattle.format.specs.Lists.{All}
use Rattle.call_record.specs.Record.{Record, ValidCommand}
use Rattle.call_record.specs.Check.{check_def, check-fine}
use Rattle.cursor.specs.At.{commands_at, CommandsIn, record_at}
use Rattle.cursor.specs.Laws.{decoded-is}
use Rattle.planning.specs.Ask.{any_late}
use Rattle.planning_dry_pass.specs.Dry.{Planable}

pub record Fit (s : Bytes) : Type 0 where
  pub room : 8 ≤ length s
  pub here : CommandsIn s (read16 s 6) 8
  pub valid : All ValidCommand (commands_at s (read16 s 6) 8)
  pub count : read16 s 6 ≤ max_commands

-- as many commands as are said
pub commands-count : (s : Bytes) (n at : ℕ) → length (commands_at s n at) ≡ n
unfolding commands_at
commands-count s zero at = refl
commands-count s (suc n) at = ap suc (commands-count s n _)

pub fit : (s : Bytes) → check_def s ≡ Ok tt → Fit s
unfolding record_at
fit s q =
    let w = (check-fine s).0 q in
    let d = decoded-is s w in
    let e : commands_at s (read16 s 6) 8 ≡ w.value.commands = ap (λ (r : Record). r.commands) d.is in
    let k = w.valid.count in
    let l = ap length e in
    let n = commands-count s (read16 s 6) 8 in
    record { room = d.room; here = d.inside; valid = rw e w.valid.commands; count = omega arith }

pub planable : (g : Settings) (t : ℕ) (s : Bytes) → Fit s → any_late g t (commands_at s (read16 s 6) 8) ≡ false → Planable g t s (read16 s 6) 8
planable g t s w l = record { here = w.here; valid = w.valid; times = l }
