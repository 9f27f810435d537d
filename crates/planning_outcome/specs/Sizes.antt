-- How many bytes planning writes for each command of a record, from the rows before it, and for all of them: what the dry pass adds up. Assumes nothing.
-- Letters: p setup, rows the rows that the arena holds, t clock, e epoch, asks what each command asks for, m mode, c command.
use Rattle.std.specs.Prelude.{◌≡◌, ℕ, ◌+◌}
use Rattle.std.proofs.Math.Path.{refl, ap, ap₂}
use Rattle.std.proofs.Common.{◌∙◌}
use mathlib.Core.List.{List, [], ◌∷◌, ◌++◌}
use Rattle.std.proofs.Math.ListN.{length, length-append}
use Rattle.buffer.specs.Same.{Bytes}
use Rattle.config.specs.declared.CacheMode.{CacheMode}
use Rattle.format.specs.Lists.{enc_all}
use Rattle.call_record.specs.Record.{Command}
use Rattle.book.specs.Book.{Setup, Book, Row}
use Rattle.book.specs.Lookups.{dry}
use Rattle.planning.specs.Ask.{Ask}
use Rattle.planning.specs.Outcome.{CachingResult, wanted, outcomes}
use Rattle.planning.specs.Sent.{sends, sent, command_values, sent_bytes}
use Rattle.planning.specs.Plan.{enc_node, nodes_of, nodes}
use Rattle.planning.proofs.Passes.{outcomes_on, each-alone}
use Rattle.planning_outcome.specs.Result.{outcome_for}
use Rattle.planning_outcome.specs.Places.{outcome-on}
use Rattle.planning_outcome.specs.Joined.{enc_all-append, sent-append}

module _ (p : Setup) (rows : ℕ → Row) (t e : ℕ) (asks : Command → Ask) where
  -- each command's outcome
  unfoldable pub outcomes_for : List Command → List CachingResult
  outcomes_for [] = []
  outcomes_for (c ∷ cs) = outcome_for p rows t e asks c ∷ outcomes_for cs

  -- the bytes of its nodes
  abbrev pub nodes_for : Command → Bytes
  nodes_for c = enc_all enc_node (nodes_of (outcome_for p rows t e asks c))

  -- of all commands
  unfoldable pub all_nodes : List Command → Bytes
  all_nodes [] = []
  all_nodes (c ∷ cs) = nodes_for c ++ all_nodes cs

  -- that is what planning writes
  pub nodes-are : (cs : List Command) → enc_all enc_node (nodes (outcomes_for cs)) ≡ all_nodes cs
  unfolding outcomes_for all_nodes nodes
  nodes-are [] = refl
  nodes-are (c ∷ cs) =
      enc_all-append enc_node (nodes_of (outcome_for p rows t e asks c)) (nodes (outcomes_for cs)) ∙ ap (λ (z : Bytes). nodes_for c ++ z) (nodes-are cs)

  module _ (m : CacheMode) where
    -- the bytes of what is sent for a command
    abbrev pub sent_for : Command → Bytes
    sent_for c = sent_bytes (sends m c (outcome_for p rows t e asks c))

    -- for all commands
    unfoldable pub all_sent : List Command → Bytes
    all_sent [] = []
    all_sent (c ∷ cs) = sent_for c ++ all_sent cs

    -- that is what planning sends
    pub sent-are : (cs : List Command) → sent_bytes (sent m cs (outcomes_for cs)) ≡ all_sent cs
    unfolding outcomes_for all_sent sent sent_bytes command_values
    sent-are [] = refl
    sent-are (c ∷ cs) =
        sent-append (sends m c (outcome_for p rows t e asks c)) (sent m cs (outcomes_for cs)) ∙ ap (λ (z : Bytes). sent_for c ++ z) (sent-are cs)

    -- how many commands are sent
    unfoldable pub sent_count : List Command → ℕ
    sent_count [] = 0
    sent_count (c ∷ cs) = length (sends m c (outcome_for p rows t e asks c)) + sent_count cs

    pub count-is : (cs : List Command) → length (sent m cs (outcomes_for cs)) ≡ sent_count cs
    unfolding outcomes_for sent_count sent
    count-is [] = refl
    count-is (c ∷ cs) =
        length-append (sends m c (outcome_for p rows t e asks c)) (sent m cs (outcomes_for cs))
        ∙ ap (λ (n : ℕ). length (sends m c (outcome_for p rows t e asks c)) + n) (count-is cs)

-- on a book's rows, each command's outcome is what planning's is (`each-alone`)
module _ (p : Setup) (bk : Book) (asks : Command → Ask) (t e : ℕ) where
  pub outcomes-on : (cs : List Command) → outcomes_on p bk asks t e cs ≡ outcomes_for p bk.rows t e asks cs
  unfolding outcomes_on outcomes_for
  outcomes-on [] = refl
  outcomes-on (c ∷ cs) = ap₂ ◌∷◌ (outcome-on p bk asks t e c) (outcomes-on cs)

  pub outcomes-are : (cs : List Command) → outcomes asks cs (dry p bk t e (wanted asks cs)) ≡ outcomes_for p bk.rows t e asks cs
  outcomes-are cs = each-alone p bk asks t e cs ∙ outcomes-on cs
