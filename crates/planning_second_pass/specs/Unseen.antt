-- A planning's lookups change no command's outcome: so the second pass, which looks up as it goes, writes what the dry pass has measured. Assumes nothing.
use Rattle.std.specs.Prelude.{◌≡◌}
use Rattle.std.proofs.Math.Path.{refl, sym, ap, ap₂}
use Rattle.std.proofs.Common.{◌∙◌}
use mathlib.Core.List.{List, [], ◌∷◌, ◌++◌}
use Prim.Native.Nat.{ℕ, ◌+◌}
use Rattle.std.proofs.Math.ListN.{length}
use Rattle.config.specs.declared.Settings.{Settings}
use Rattle.call_record.specs.Record.{Command}
use Rattle.book.specs.Book.{Setup, Book, lookup, on, after, after_all}
use Rattle.book.specs.Calls.{Wanted, lookups, ons}
use Rattle.book.specs.Lookups.{dry}
use Rattle.planning.specs.Ask.{ask}
use Rattle.planning.specs.Outcome as plan
use Rattle.planning.specs.Sent.{sends, sent_bytes}
use Rattle.planning.specs.Plan.{enc_node, nodes_of}
use Rattle.format.specs.Lists.{enc_all}
use Rattle.planning.proofs.Passes.{outcome_on}
use Rattle.planning_outcome.specs.Result.{outcome_for}
use Rattle.planning_outcome.specs.Places.{outcome-on}
use Rattle.planning_look_up.specs.Finds.{dry-one}
use Rattle.planning_outcome.specs.Sizes.{all_nodes, all_sent, sent_count}

module _ (p : Setup) (t e : ℕ) where
  -- the book after some
  abbrev pub after_lookups : List Wanted → Book → Book
  after_lookups ws bk = after_all p (ons (lookups t e ws)) bk

  dry-after : (ws : List Wanted) (bk : Book) (vs : List Wanted) → dry p (after_lookups ws bk) t e vs ≡ dry p bk t e vs
  unfolding after_all ons lookups
  dry-after [] bk vs = refl
  dry-after (w ∷ ws) bk vs = dry-after ws (after p (on (lookup w.key w.command t e)) bk) vs ∙ dry-one p t e w bk vs

  module _ (g : Settings) (ws : List Wanted) (bk : Book) where
    -- a command's outcome
    outcome-after : (c : Command) → outcome_for p (after_lookups ws bk).rows t e (ask g t) c ≡ outcome_for p bk.rows t e (ask g t) c
    unfolding outcome_on
    outcome-after c =
        sym (outcome-on p (after_lookups ws bk) (ask g t) t e c)
        ∙ ap (plan.outcome c (ask g t c)) (dry-after ws bk (plan.wants c (ask g t c)))
        ∙ outcome-on p bk (ask g t) t e c

    -- so what is written for others
    pub nodes-after : (cs : List Command) → all_nodes p (after_lookups ws bk).rows t e (ask g t) cs ≡ all_nodes p bk.rows t e (ask g t) cs
    unfolding all_nodes
    nodes-after [] = refl
    nodes-after (c ∷ cs) = ap₂ ◌++◌ (ap (λ (r : plan.CachingResult). enc_all enc_node (nodes_of r)) (outcome-after c)) (nodes-after cs)

    pub sent-after : (cs : List Command) → all_sent p (after_lookups ws bk).rows t e (ask g t) g.mode cs ≡ all_sent p bk.rows t e (ask g t) g.mode cs
    unfolding all_sent
    sent-after [] = refl
    sent-after (c ∷ cs) = ap₂ ◌++◌ (ap (λ (r : plan.CachingResult). sent_bytes (sends g.mode c r)) (outcome-after c)) (sent-after cs)

    pub count-after : (cs : List Command) → sent_count p (after_lookups ws bk).rows t e (ask g t) g.mode cs ≡ sent_count p bk.rows t e (ask g t)
        g.mode cs
    unfolding sent_count
    count-after [] = refl
    count-after (c ∷ cs) = ap₂ ◌+◌ (ap (λ (r : plan.CachingResult). length (sends g.mode c r)) (outcome-after c)) (count-after cs)
