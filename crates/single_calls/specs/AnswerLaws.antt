-- Which answer a call's return asks for, one law for each case; and that a call which causes 1 and 9 do not admit has a cause's number. Assumes nothing.
use Rattle.std.specs.Prelude.{◌≡◌, ℕ, ◌+◌, Bool, true, false, cond, length, Result, Ok, Err, Some, None}
use Rattle.std.proofs.Common.{sym, refl, arith, ◌∙◌}
use Rattle.std.proofs.Math.Option.{none, some}
use Rattle.buffer.specs.Same.{Bytes}
use Rattle.config.specs.Causes.{number, cause_numbered}
use Rattle.config.specs.Config.{checked}
use Rattle.config.specs.declared.Settings.{Settings}
use Rattle.config.specs.declared.Cause.{Cause}
use Rattle.resp3.specs.Ends.{is_value}
use Rattle.arena.specs.Decode.{is_image}
use Rattle.sharded_lru.specs.Lent.{setup_now}
use Rattle.sharded_lru.specs.Admit.{admitted_by, admitted}
use Rattle.call_entry.specs.Entered.{no_cause}
use Rattle.call_entry.specs.Laws.{each-refusal}
use Rattle.single_calls.specs.Single.{Return}
use Rattle.single_calls.specs.Answers.{answered_of, found_of}

module _ (d : Return) where
  -- no cause
  pub done-is : no_cause ≡ d.cause → Ok tt ≡ answered_of d
  done-is e = rw (sym e)

  -- a cause
  pub refused-is : (cause : Cause) → cause_numbered (number cause) ≡ Some cause → number cause ≡ d.cause → Err cause ≡ answered_of d
  refused-is cause f e = rw (sym e, f)

  module _ (at : ℕ) where
    -- a value, at its place and of its length
    pub hit-is : (v : Bytes) (from to : ℕ) → no_cause ≡ d.cause → some v ≡ d.value → from ≡ at → to ≡ from + length v
        → Ok (Some (record { start = from; end = to })) ≡ found_of d at
    hit-is v from to e f a b = rw (sym e, sym f, b, a)

    -- none
    pub miss-is : no_cause ≡ d.cause → none ≡ d.value → Ok None ≡ found_of d at
    miss-is e f = rw (sym e, sym f)

    pub denied-is : (cause : Cause) → cause_numbered (number cause) ≡ Some cause → number cause ≡ d.cause → Err cause ≡ found_of d at
    denied-is cause f e = rw (sym e, f)

-- the cause of a call that causes 1 and 9 do not admit is told by its number
pub not-admitted-cause : (size mode ttl : ℕ) (s : Bytes) (cause : Cause) → admitted size mode ttl s ≡ Err cause
    → cause_numbered (number cause) ≡ Some cause
not-admitted-cause size mode ttl s cause = each-refusal (λ (c : Cause). cause_numbered (number c) ≡ Some c) refl refl size mode ttl cause s
