-- What is sent for a command whose nodes were written, and how many commands that is: planning's, of the outcome that was prepared. Assumes nothing.
use Rattle.std.specs.Prelude.{◌≡◌, ℕ, ◌≤◌, length}
use Rattle.std.proofs.Common.{sym, ap, ◌∙◌}
use Rattle.buffer.specs.Same.{Bytes}
use Rattle.config.specs.Limits.{max_bytes}
use Rattle.config.specs.declared.CacheMode.{CacheMode}
use Rattle.config.specs.declared.Settings.{Settings}
use Rattle.cursor.specs.At.{command_of}
use Rattle.cursor.specs.declared.Head.{Head}
use Rattle.book.specs.Book.{Row}
use Rattle.planning.specs.Outcome.{CachingResult}
use Rattle.planning.specs.Sent.{sends}
use Rattle.planning_places.specs.declared.Source.TheVariants.{Nodes}
use Rattle.planning_send.specs.Sends.{sent_as, sent_with, ResultSends, sent-held}
use Rattle.planning_send_len.specs.Counts.{count_with, ResultFew, count_held}
use Rattle.planning_nodes.specs.Prepared.{Prepares}
use Rattle.planning_nodes.specs.declared.Prepared.{Prepared}

module _ (m : CacheMode) (g : Settings) (rows : ℕ → Row) (t e : ℕ) (s a d : Bytes) (to : ℕ) (d₁ : Bytes) (h : Head) (o : CachingResult) (r : Prepared)
    (l : length s ≤ max_bytes)
    (w : Prepares g rows t e s a d to d₁ (command_of s h) o r) where
  pub prepared-sent : (sent_as m (command_of s h) o ≡ sent_with m s h d₁ (Nodes r.places) r.result) × ResultSends s d₁ (Nodes r.places) r.result
  prepared-sent =
      let k = sent-held m g rows t e s a h d₁ (Nodes r.places) l r.result w.tells.inside w.holds in
      (ap (sent_as m (command_of s h)) (sym w.tells.is) ∙ k.0, k.1)

  pub prepared-count : (length (sends m (command_of s h) o) ≡ count_with m r.result) × ResultFew r.result
  prepared-count =
      let k = count_held m g rows t e s a (command_of s h) l r.result w.tells.inside in
      (ap (λ (z : CachingResult). length (sends m (command_of s h) z)) (sym w.tells.is) ∙ k.0, k.1)
