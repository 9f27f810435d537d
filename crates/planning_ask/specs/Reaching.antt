-- How far a command gets, and cause 4: one law for each path of the code. Assumes nothing.
use Rattle.std.specs.Prelude.{◌≡◌, refl, Some, None, Bool, false, cond, List, [], ◌∷◌, ℕ, ◌+◌, ◌-◌, ◌^◌, ◌%◌, ◌<◌, ltb, leb, length}
use Rattle.std.proofs.Common.{sym, ◌∙◌, arith, div-one}
use Rattle.std.proofs.Math.Path.{ap}
use Rattle.std.proofs.Math.Bool.{true}
use Rattle.std.proofs.Math.Dec.{eqb}
use borrow.Author.Tests.{eq-eqb, ne_eqb, leb-true, leb-false, lt-ltb, le-ltb}
use Rattle.buffer.specs.Cases.{by_test}
use Rattle.buffer.specs.Same.{Bytes}
use Rattle.config.specs.declared.CacheMode.{CacheMode}
use Rattle.config.specs.declared.CacheMode.TheVariants.{All, OptIn}
use Rattle.config.specs.declared.Settings.{Settings}
use Rattle.call_record.specs.Record.{Argument, simple, cursor, Command, ignored}
use Rattle.cursor.specs.At.{command_of, commands_of, CommandsHere}
use Rattle.cursor.specs.Steps.{command_step, command-stepped, command-stopped}
use Rattle.cursor.specs.Index.{Text, none, text, arg_idx}
use Rattle.cursor.specs.declared.Commands.{Commands}
use Rattle.cursor.specs.declared.Head.{Head}
use Rattle.planning.specs.Ask as plan
use Rattle.planning_ask.specs.Asked.{reached_of, late}
use Rattle.planning_ask.specs.Steps.{takes_part_by, ttl_by, late_by, HasName}
use Rattle.planning_ask.specs.declared.Reached.{Reached}
use Rattle.planning_ask.specs.declared.Reached.TheVariants.{Skipped, Stopped, Named}

-- ---- the name

-- by what `arg_idx` finds at 0
abbrev pub by_text : Text → plan.Reach
by_text none = plan.stopped
by_text (text b) = plan.named b

pub by_name : (l : List Argument) → plan.reach_by l ≡ by_text (arg_idx l 0)
unfolding plan.reach_by
by_name [] = refl
by_name (simple [] ∷ l) = refl
by_name (simple (b ∷ bs) ∷ l) = rw (ne_eqb (0 + length (b ∷ bs)) 0 (λ z. omega arith))
by_name (cursor ∷ l) = refl

-- a command that gets as far as its name has one
pub has-name : (l : List Argument) (n : Bytes) → plan.reach_by l ≡ plan.named n → HasName l
unfolding plan.reach_by HasName
has-name [] n q = let z : ◌≡◌ {A = ℕ} 0 1 = cc in omega arith
has-name (simple [] ∷ l) n q = let z : ◌≡◌ {A = ℕ} 0 1 = cc in omega arith
has-name (simple (b ∷ bs) ∷ l) n q = omega arith
has-name (cursor ∷ l) n q = let z : ◌≡◌ {A = ℕ} 0 1 = cc in omega arith

-- ---- how far

takes_part_lem : (m : CacheMode) (c : Command) → plan.takes_part m c ≡ takes_part_by m c.flags
unfolding plan.takes_part
takes_part_lem All c = refl
takes_part_lem OptIn c = refl

module _ (m : CacheMode) (c : Command) where
  pub reach-skipped : c.flags % 2 ≡ 1 → plan.reach m c ≡ plan.skipped
  unfolding plan.reach
  reach-skipped h =
      let z : ignored c ≡ true = ap (λ (f : ℕ). eqb (f % 2) 1) (div-one c.flags) ∙ eq-eqb (c.flags % 2) 1 h in
      rw z

  module _ (h : c.flags % 2 ≡ 1 → ⊥) where
    not-ignored : ignored c ≡ false
    not-ignored = ap (λ (f : ℕ). eqb (f % 2) 1) (div-one c.flags) ∙ ne_eqb (c.flags % 2) 1 h

    pub reach-stopped : takes_part_by m c.flags ≡ false → plan.reach m c ≡ plan.stopped
    unfolding plan.reach
    reach-stopped t = rw (not-ignored, takes_part_lem m c, t)

    pub reach-name : takes_part_by m c.flags ≡ true → plan.reach m c ≡ by_text (arg_idx c.args 0)
    unfolding plan.reach
    reach-name t = rw (not-ignored, takes_part_lem m c, t) (by_name c.args)

-- a command that gets as far as its name gets there by its arguments
pub named_by : (m : CacheMode) (c : Command) (n : Bytes) → plan.reach m c ≡ plan.named n → plan.reach_by c.args ≡ plan.named n
unfolding plan.reach
named_by m c n q = by-ignored (ignored c) (plan.takes_part m c) (plan.reach_by c.args) q
  where
    by_part : (t : Bool) (r : plan.Reach) → cond t r plan.stopped ≡ plan.named n → r ≡ plan.named n
    by_part true r z = z
    by_part false r z = let y : ◌≡◌ {A = ℕ} 0 1 = cc in absurd (omega arith)

    by-ignored : (i t : Bool) (r : plan.Reach) → cond i plan.skipped (cond t r plan.stopped) ≡ plan.named n → r ≡ plan.named n
    by-ignored true t r z = let y : ◌≡◌ {A = ℕ} 0 1 = cc in absurd (omega arith)
    by-ignored false t r z = by_part t r z

-- ---- cause 4

-- of what `reach` answers
pub late_by_lem : (s : Bytes) (r : Reached) (x : ℕ) → plan.past_end (reached_of s r) x ≡ late_by r x
unfolding plan.past_end
late_by_lem s Skipped x = refl
late_by_lem s Stopped x = refl
late_by_lem s (Named n) x = refl

-- a sum past 64 bits, by the code's test
pub past-test : (t x : ℕ) → t < 2 ^ 64 → ltb (18446744073709551615 - t) x ≡ leb (2 ^ 64) (t + x)
past-test t x h =
    by_test (leb (2 ^ 64) (t + x))
    (λ l. rw l (lt-ltb (18446744073709551615 - t) x (let z = leb-true (2 ^ 64) (t + x) l in omega arith)))
    (λ l. rw l (le-ltb (18446744073709551615 - t) x (let z = leb-false (2 ^ 64) (t + x) l in omega arith)))

-- of one command
pub late_is : (s : Bytes) (r : Reached) (g : Settings) (t : ℕ) (c : Command) → reached_of s r ≡ plan.reach g.mode c
    → late g t c ≡ late_by r (t + ttl_by c.flags c.ttl g.ttl)
unfolding plan.client_expiry
late_is s r g t c q = ap (λ (z : plan.Reach). plan.past_end z (plan.client_expiry g t c)) (sym q) ∙ late_by_lem s r (plan.client_expiry g t c)

-- a client expiry that is worked out and not late fits 64 bits
pub fits-time : (g : Settings) (t : ℕ) (c : Command) (n : Bytes) → plan.reach g.mode c ≡ plan.named n → late g t c ≡ false
    → t + ttl_by c.flags c.ttl g.ttl < 2 ^ 64
unfolding plan.client_expiry plan.past_end
fits-time g t c n q h =
    let z : plan.past_end (plan.named n) (plan.client_expiry g t c) ≡ false = rw q at h in
    leb-false (2 ^ 64) (t + ttl_by c.flags c.ttl g.ttl) z

module _ (g : Settings) (t : ℕ) (s : Bytes) (k : Commands) (w : CommandsHere s k) where
  -- no command is left
  pub late-none : command_step s k ≡ None → plan.any_late g t (commands_of s k) ≡ false
  unfolding plan.any_late
  late-none q = rw (command-stopped s k w q)

  module _ (h : Head) (r : Commands) (q : command_step s k ≡ Some (h, r)) where
    -- the first
    pub late-here : late g t (command_of s h) ≡ true → plan.any_late g t (commands_of s k) ≡ true
    unfolding plan.any_late
    late-here l = rw ((command-stepped s k h r w q).are, l)

    -- or one behind it
    pub late-later : late g t (command_of s h) ≡ false → plan.any_late g t (commands_of s k) ≡ plan.any_late g t (commands_of s r)
    unfolding plan.any_late
    late-later l = rw ((command-stepped s k h r w q).are, l)
