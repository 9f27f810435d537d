-- The plan that planning wrote is a plan, and resolving reads it as the outcomes that it was written for, missing keys and all. Assumes nothing.
use Rattle.std.specs.Prelude.{◌≡◌, refl, Bool, false, List, [], ◌∷◌, ◌++◌, map, ℕ, suc, ◌≤◌, length, drop}
use Rattle.std.proofs.Common.{ap, ap₂, ◌∙◌}
use Rattle.buffer.specs.Same.{Bytes}
use Rattle.config.specs.Limits.{max_bytes}
use Rattle.config.specs.declared.Settings.{Settings}
use Rattle.format.specs.Lists.{All}
use Rattle.call_record.specs.Record.{Record, transaction, ValidRecord, enc_record}
use Rattle.book.specs.Book.{Answer}
use Rattle.book.specs.Calls.{Missing, missing_until}
use Rattle.planning.specs.Ask.{ask, any_late}
use Rattle.planning.specs.Outcome as outcome
use Rattle.planning.specs.Outcome.{CachingResult, missing, outcomes}
use Rattle.planning.specs.Plan.{Node, end_of_several, value_nodes, place_nodes, served_nodes, missing_nodes, nodes_of, nodes, plan_of, enc_plan}
use Rattle.planning.specs.Planning.{planned_by, planned_from}
use Rattle.planning.proofs.Gives.{missing_of, all_missing}
use Rattle.planning.proofs.Kept.{GoodAnswer, good-plan}
use Rattle.planning.specs.Rules.{GoodPlan}
use Rattle.resolving.specs.Plan.{Plan}
use Rattle.plan.proofs.Law.{decode-law}
use Rattle.resolving_walk.specs.Commands.{value_at, place_at, values_at, places_at, commands_of, plan_read}
use Rattle.plan_outcomes.specs.Outcomes.{values_given, place_given, served_given, missing_given, command_given, plan_given}
use Rattle.plan_outcomes.specs.Outcomes.{places_missing, command_missing, commands_missing}
use Rattle.plan_outcomes.specs.Law.{Read}

-- ---- nodes read as commands

values-read : (vs : List Bytes) (ns : List Node) → (values_at (length vs) (value_nodes vs ++ ns) ≡ values_given vs) × (drop (length vs) (value_nodes vs ++ ns) ≡ ns)
unfolding values_at value_at value_nodes values_given
values-read [] ns = (refl, refl)
values-read (v ∷ vs) ns = let i = values-read vs ns in (rw i.0, i.1)

places-read : (x : ℕ) (ps : List outcome.Place) (ns : List Node)
    → (places_at (length ps) ((place_nodes x ps ++ (end_of_several ∷ [])) ++ ns) ≡ map (place_given x) ps)
    × (drop (suc (length ps)) ((place_nodes x ps ++ (end_of_several ∷ [])) ++ ns) ≡ ns)
unfolding places_at place_at place_nodes place_given
places-read x [] ns = (refl, refl)
places-read x (outcome.filled v ∷ ps) ns = let i = places-read x ps ns in (rw i.0, i.1)
places-read x (outcome.waiting w ∷ ps) ns = let i = places-read x ps ns in (rw i.0, i.1)

-- the commands read off the nodes of outcomes are those of the outcomes
pub commands-given : (rs : List CachingResult) → commands_of (length rs) (nodes rs) ≡ map command_given rs
unfolding commands_of nodes nodes_of served_nodes missing_nodes command_given served_given missing_given
commands-given [] = refl
commands-given (outcome.ignored ∷ rs) = rw (commands-given rs)
commands-given (outcome.item outcome.not_cacheable ∷ rs) = rw (commands-given rs)
commands-given (outcome.item (outcome.cached (outcome.value v)) ∷ rs) = rw (commands-given rs)
commands-given (outcome.item (outcome.cached (outcome.values vs)) ∷ rs) = let i = values-read vs (nodes rs) in rw (i.0, i.1, commands-given rs)
commands-given (outcome.item (outcome.not_cached (outcome.single w x)) ∷ rs) = rw (commands-given rs)
commands-given (outcome.item (outcome.not_cached (outcome.multiple n ps path x)) ∷ rs) =
    let i = places-read x ps (nodes rs) in rw (i.0, i.1, commands-given rs)

-- so is the whole plan
pub plan-given : (b : Bool) (rs : List CachingResult) → plan_read (plan_of b rs) ≡ plan_given b rs
unfolding plan_read plan_of plan_given
plan-given b rs = rw (commands-given rs)

-- ---- the missing keys

places-missing : (x : ℕ) (ps : List outcome.Place) → places_missing (map (place_given x) ps) ≡ map (missing_until x) (missing ps)
unfolding places_missing place_given missing
places-missing x [] = refl
places-missing x (outcome.filled v ∷ ps) = places-missing x ps
places-missing x (outcome.waiting w ∷ ps) = rw (places-missing x ps)

command-missing : (r : CachingResult) → command_missing (command_given r) ≡ missing_of r
unfolding command_missing command_given served_given missing_given missing_of
command-missing outcome.ignored = refl
command-missing (outcome.item outcome.not_cacheable) = refl
command-missing (outcome.item (outcome.cached (outcome.value v))) = refl
command-missing (outcome.item (outcome.cached (outcome.values vs))) = refl
command-missing (outcome.item (outcome.not_cached (outcome.single w x))) = refl
command-missing (outcome.item (outcome.not_cached (outcome.multiple n ps path x))) = places-missing x ps

-- the missing keys of the plan that resolving reads are planning's, in their order
pub missing-given : (rs : List CachingResult) → commands_missing (map command_given rs) ≡ all_missing rs
unfolding commands_missing all_missing
missing-given [] = refl
missing-given (r ∷ rs) =
    ap₂ (λ (k l : List Missing). k ++ l) (command-missing r) (missing-given rs)

-- ---- the plan as bytes

pub written_read : (b : Bool) (rs : List CachingResult) → GoodPlan (plan_of b rs) → Read (enc_plan (plan_of b rs)) b rs
written_read b rs g =
    record {
      decoded = (decode-law (enc_plan (plan_of b rs)) (plan_of b rs)).1 (g, refl);
      given = plan-given b rs;
      keys = ap (λ (p : Plan). commands_missing p.commands) (plan-given b rs) ∙ (unfold plan_given in missing-given rs);
    }

-- what planning writes for a valid record of at most 16 MiB, of which no client expiry is past 64 bits, on a cache that holds values, is read as its outcomes
pub planned-read : (g : Settings) (t : ℕ) (r : Record) (said : List Answer) → ValidRecord r → length (enc_record r) ≤ max_bytes
    → any_late g t r.commands ≡ false
    → All GoodAnswer said → Read (planned_from (ask g t) g r said).plan (transaction r) (outcomes (ask g t) r.commands said)
unfolding planned_from planned_by
planned-read g t r said v b e h = written_read (transaction r) (outcomes (ask g t) r.commands said) (good-plan g t r said v b e h)
