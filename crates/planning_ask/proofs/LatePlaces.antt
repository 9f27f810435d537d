-- Cause 4 over commands by how many are left and where the next one stands. Assumes nothing.
use Rattle.std.specs.Prelude.{◌≡◌, true, false, ℕ, ◌+◌}
use Rattle.buffer.specs.Same.{Bytes}
use Rattle.config.specs.declared.Settings.{Settings}
use Rattle.cursor.specs.At.{head_at, command_of, command_next, commands_at}
use Rattle.cursor.specs.Steps.{commands-none, commands-more}
use Rattle.planning.specs.Ask as plan
use Rattle.planning_ask.specs.Asked.{late}

module _ (g : Settings) (t : ℕ) (s : Bytes) (m n at : ℕ) where
  -- no command is left
  pub late-none : m ≡ 0 → plan.any_late g t (commands_at s m at) ≡ false
  unfolding plan.any_late
  late-none q = rw (commands-none s m at q)

  module _ (q : m ≡ n + 1) where
    -- the first
    pub late-here : late g t (command_of s (head_at s at)) ≡ true → plan.any_late g t (commands_at s m at) ≡ true
    unfolding plan.any_late
    late-here h = rw (commands-more s m n at q, h)

    -- or one behind it
    pub late-later : late g t (command_of s (head_at s at)) ≡ false
        → plan.any_late g t (commands_at s m at) ≡ plan.any_late g t (commands_at s n (command_next s at))
    unfolding plan.any_late
    late-later h = rw (commands-more s m n at q, h)
