-- Each command's outcome is told from the book before the planning, by itself: so a pass over the commands that changes nothing knows all that planning
-- writes. And the call that the book is fed does what planning answers. Assumes nothing.
use Rattle.std.specs.Prelude.{◌≡◌, true, false, length}
use Rattle.std.proofs.Math.Path.{refl, ap, ap₂}
use Rattle.std.proofs.Common.{◌∙◌}
use mathlib.Core.List.{List, [], ◌∷◌, ◌++◌}
use Prim.Native.Nat.{ℕ, suc}
use Rattle.std.proofs.Math.ListN.{take, drop}
use Rattle.std.proofs.Math.Seq.{take_at, drop_at}
use Rattle.config.specs.declared.Settings.{Settings}
use Rattle.call_record.specs.Record.{Command, Record}
use Rattle.book.specs.Book.{Setup, Book, Answer, after_all}
use Rattle.book.specs.Calls.{Wanted, lookups, ons, after_call, call-defs}
use Rattle.book.specs.Lookups.{dry}
use Rattle.book.proofs.Lookups.{planned}
use Rattle.planning.specs.Ask.{Ask, ask, any_late}
use Rattle.planning.specs.Outcome.{CachingResult, wants, wanted, outcome, outcomes}
use Rattle.planning.specs.Planning.{planned_by, planned_from, short, call_of, PlanAnswer, because, done, plan_answer, plan_on}

module _ (p : Setup) (bk : Book) (asks : Command → Ask) (t e : ℕ) where
  -- answers to lookups one list after the other
  dry-append : (ws vs : List Wanted) → dry p bk t e (ws ++ vs) ≡ dry p bk t e ws ++ dry p bk t e vs
  unfolding dry
  dry-append [] vs = refl
  dry-append (w ∷ ws) vs = ap₂ ◌∷◌ refl (dry-append ws vs)

  -- an answer for each lookup
  dry-length : (ws : List Wanted) → length (dry p bk t e ws) ≡ length ws
  unfolding dry
  dry-length [] = refl
  dry-length (w ∷ ws) = ap suc (dry-length ws)

  -- a command's outcome, from the book before the planning
  unfoldable pub outcome_on : Command → CachingResult
  outcome_on c = outcome c (asks c) (dry p bk t e (wants c (asks c)))

  unfoldable pub outcomes_on : List Command → List CachingResult
  outcomes_on [] = []
  outcomes_on (c ∷ cs) = outcome_on c ∷ outcomes_on cs

  -- each command's outcome is its own
  pub each-alone : (cs : List Command) → outcomes asks cs (dry p bk t e (wanted asks cs)) ≡ outcomes_on cs
  unfolding outcomes wanted outcomes_on outcome_on
  each-alone [] = refl
  each-alone (c ∷ cs) =
      let ws = wants c (asks c) in
      let vs = wanted asks cs in
      let l = dry-length ws in
      let a : take (length ws) (dry p bk t e (ws ++ vs)) ≡ dry p bk t e ws =
      ap (take (length ws)) (dry-append ws vs) ∙ take_at (dry p bk t e ws) (dry p bk t e vs) (length ws) l in
      let b : drop (length ws) (dry p bk t e (ws ++ vs)) ≡ dry p bk t e vs =
      ap (drop (length ws)) (dry-append ws vs) ∙ drop_at (dry p bk t e ws) (dry p bk t e vs) (length ws) l in
      ap₂ ◌∷◌ (ap (outcome c (asks c)) a) (ap (outcomes asks cs) b ∙ each-alone cs)

module _ (p : Setup) (bk : Book) (g : Settings) (t e : ℕ) where
  module _ (r : Record) (plan_room send_room : ℕ) where
    -- the answers to this planning's lookups, on the book before it
    abbrev said : List Answer
    said = dry p bk t e (wanted (ask g t) r.commands)

    -- what planning answers and what the book does, by what is tested: cause 4 first, then 5
    pub record Does (a : PlanAnswer) (after : Book) : Type 0 where
      pub answers : plan_on p bk g t e r plan_room send_room ≡ a
      pub leaves : after_call p (call_of g t e r plan_room send_room) bk ≡ after

    -- cause 4
    pub refused-4 : any_late g t r.commands ≡ true → Does (because 4) bk
    unfolding plan_on plan_answer call_of call-defs after_all
    refused-4 l = record { answers = rw l; leaves = rw l }

    -- cause 5
    pub refused-5 : any_late g t r.commands ≡ false → short (ask g t) g r plan_room send_room said ≡ true → Does (because 5) bk
    unfolding plan_on plan_answer call_of call-defs after_all
    refused-5 l h = record { answers = rw (planned, l, h); leaves = rw (l, planned, h) }

    -- all is written, and the lookups are done in their order
    pub plans : any_late g t r.commands ≡ false → short (ask g t) g r plan_room send_room said ≡ false
        → Does (done (planned_by g r (outcomes_on p bk (ask g t) t e r.commands))) (after_all p (ons (lookups t e (wanted (ask g t) r.commands))) bk)
    unfolding plan_on plan_answer call_of call-defs planned_from
    plans l h =
        record {
          answers = rw (planned, l, h) (ap (λ (rs : List CachingResult). done (planned_by g r rs)) (each-alone p bk (ask g t) t e r.commands));
          leaves = rw
              (l, planned, h);
        }
