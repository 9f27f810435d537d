-- The walk of the dry pass over the commands: what is left is the whole. Assumes nothing.
use Rattle.std.specs.Prelude.{◌≡◌, refl, Bool, true, false, ◌||◌, Option, is_none, ◌∷◌, ◌++◌, ℕ, zero, suc, ◌+◌, ◌≤◌, length}
use Rattle.std.proofs.Math.Path.{sym, ap}
use Rattle.std.proofs.Common.{ap₂, ◌∙◌, true≢false, arith, length-append}
use Rattle.buffer.specs.Same.{Bytes}
use Rattle.config.specs.Limits.{max_arguments}
use Rattle.config.specs.declared.Settings.{Settings}
use Rattle.format.specs.Lists.{All}
use Rattle.call_record.specs.Record.{Command, ValidCommand}
use Rattle.cursor.specs.At.{args_at, ArgsHere, head_at, command_of, command_next, commands_at, CommandsIn}
use Rattle.cursor.specs.Steps.{commands-none, commands-more, commands-in}
use Rattle.cursor.specs.declared.Head.{Head}
use Rattle.book.specs.Book.{Row}
use Rattle.planning.specs.Ask.{ask, any_late}
use Rattle.planning.specs.Outcome.{CachingResult}
use Rattle.planning_ask.specs.Asked.{late, OnTime}
use Rattle.sharded_lru.specs.Lent.{setup_now, Lent}
use Rattle.planning_outcome.specs.Result.{outcome_for}
use Rattle.planning_outcome.specs.Nodes.{nodes_as}
use Rattle.planning_outcome.specs.Sizes.{nodes_for, sent_for, all_nodes, all_sent}
use Rattle.planning_send.specs.Sends.{sent_as}
use Rattle.planning_dry_pass.specs.Size.{SizedAs}
use Rattle.room.specs.Room.{spent, spent-none, spent-more}
use Rattle.planning_dry_pass.specs.declared.Size.{Size}

-- ---- commands that may be planned: they lie inside, are valid, and none is late

pub record Planable (g : Settings) (t : ℕ) (s : Bytes) (n at : ℕ) : Type 0 where
  pub here : CommandsIn s n at
  pub valid : All ValidCommand (commands_at s n at)
  pub times : any_late g t (commands_at s n at) ≡ false

-- as many arguments as are said
args_count : (s : Bytes) (n at : ℕ) → length (args_at s n at) ≡ n
unfolding args_at
args_count s zero at = refl
args_count s (suc n) at = ap suc (args_count s n _)

-- one command that may be
pub record One (g : Settings) (t : ℕ) (s : Bytes) (h : Head) : Type 0 where
  pub here : ArgsHere s h.args
  pub count : h.args.left ≤ max_arguments
  pub times : OnTime g t (command_of s h)

module _ (g : Settings) (t : ℕ) (s : Bytes) (m n at : ℕ) (q : m ≡ n + 1) (w : Planable g t s m at) where
  more : commands_at s m at ≡ command_of s (head_at s at) ∷ commands_at s n (command_next s at)
  more = commands-more s m n at q

  pub planable-room : at + 19 ≤ length s
  planable-room = (commands-in s m n at q w.here).0

  either : (a b : Bool) → (a || b) ≡ false → (a ≡ false) × (b ≡ false)
  either false b z = (refl, z)
  either true b z = let y : ◌≡◌ {A = Bool} true false = z in absurd (true≢false y)

  times : (late g t (command_of s (head_at s at)) ≡ false) × (any_late g t (commands_at s n (command_next s at)) ≡ false)
  unfolding any_late
  times = either _ _ (rw more at w.times)

  -- the first
  pub planable-first : (h : Head) → h ≡ head_at s at → One g t s h
  planable-first h e =
      let v = rw more at w.valid in
      let k = v.0.count in
      let l = args_count s (head_at s at).args.left (head_at s at).args.at in
      rw e (record { here = (commands-in s m n at q w.here).1; count = omega arith; times = times.0 })

  -- and the others
  pub planable-next : (x : ℕ) → x ≡ command_next s at → Planable g t s n x
  planable-next x e = rw e (record { here = (commands-in s m n at q w.here).2; valid = (rw more at w.valid).1; times = times.1 })

-- ---- the walk

-- a command's size
pub record SizeIs (g : Settings) (rows : ℕ → Row) (t e : ℕ) (c : Command) (z : Size) : Type 0 where
  pub plan : z.plan ≡ length (nodes_for (setup_now g) rows t e (ask g t) c)
  pub send : z.send ≡ length (sent_for (setup_now g) rows t e (ask g t) g.mode c)

-- from the outcome's
pub sized-is : (g : Settings) (rows : ℕ → Row) (t e : ℕ) (c : Command) (o : CachingResult) (z : Size) → outcome_for (setup_now g) rows t e (ask g t) c ≡ o
    → SizedAs g.mode c o z
    → SizeIs g rows t e c z
sized-is g rows t e c o z q w =
    record {
      plan = w.plan ∙ ap (λ (x : CachingResult). length (nodes_as x)) (sym q);
      send = w.send ∙ ap (λ (x : CachingResult). length (sent_as g.mode c x)) (sym q);
    }

-- the rooms p and q, with the commands from `at` on still to be taken, come to what they were at the start, with all of them
pub record Walked (g : Settings) (a s : Bytes) (t e : ℕ) (m₀ at₀ : ℕ) (p₀ q₀ : Option ℕ) (m at : ℕ) (p q : Option ℕ) : Type 0 where
  pub ahead : Planable g t s m at
  pub plan : (rows : ℕ → Row) → Lent g a rows
      → spent p₀ (length (all_nodes (setup_now g) rows t e (ask g t) (commands_at s m₀ at₀))) ≡ spent p
      (length (all_nodes (setup_now g) rows t e (ask g t) (commands_at s m at)))
  pub send : (rows : ℕ → Row) → Lent g a rows
      → spent q₀ (length (all_sent (setup_now g) rows t e (ask g t) g.mode (commands_at s m₀ at₀))) ≡ spent q
      (length (all_sent (setup_now g) rows t e (ask g t) g.mode (commands_at s m at)))

module _ (g : Settings) (a s : Bytes) (t e m₀ at₀ : ℕ) (p₀ q₀ : Option ℕ) where
  pub walked_start : Planable g t s m₀ at₀ → Walked g a s t e m₀ at₀ p₀ q₀ m₀ at₀ p₀ q₀
  walked_start w = record { ahead = w; plan = λ rows o. refl; send = λ rows o. refl }

  -- one command further
  pub walked_next : (m n at x : ℕ) (p q : Option ℕ) (h : Head) (z : Size) → m ≡ n + 1 → h ≡ head_at s at → x ≡ command_next s at
      → ((rows : ℕ → Row) → Lent g a rows → SizeIs g rows t e (command_of s h) z)
      → Walked g a s t e m₀ at₀ p₀ q₀ m at p q → Walked g a s t e m₀ at₀ p₀ q₀ n x (spent p z.plan) (spent q z.send)
  unfolding all_nodes all_sent
  walked_next m n at x p q h z k d f is w =
      record {
        ahead = planable-next g t s m n at k w.ahead x f;
        plan = λ rows o.
            let y = (is rows o).plan in
            let N : Bytes = nodes_for (setup_now g) rows t e (ask g t) (command_of s h) in
            let R : Bytes = all_nodes (setup_now g) rows t e (ask g t) (commands_at s n x) in
            let c : all_nodes (setup_now g) rows t e (ask g t) (commands_at s m at) ≡ N ++ R = rw (d, f, commands-more s m n at k) in
            w.plan rows o ∙ ap (λ (b : Bytes). spent p (length b)) c ∙ ap (spent p) (length-append N R) ∙ sym (spent-more p (length N) (length R))
            ∙ ap (λ (b : ℕ). spent (spent p b) (length R)) (sym y);
        send = λ rows o.
            let y = (is rows o).send in
            let N : Bytes = sent_for (setup_now g) rows t e (ask g t) g.mode (command_of s h) in
            let R : Bytes = all_sent (setup_now g) rows t e (ask g t) g.mode (commands_at s n x) in
            let c : all_sent (setup_now g) rows t e (ask g t) g.mode (commands_at s m at) ≡ N ++ R = rw (d, f, commands-more s m n at k) in
            w.send rows o ∙ ap (λ (b : Bytes). spent q (length b)) c ∙ ap (spent q) (length-append N R) ∙ sym (spent-more q (length N) (length R))
            ∙ ap (λ (b : ℕ). spent (spent q b) (length R)) (sym y);
      }

  -- none is left
  pub walked_end : (m at : ℕ) (p q : Option ℕ) → m ≡ 0 → Walked g a s t e m₀ at₀ p₀ q₀ m at p q → (rows : ℕ → Row) → Lent g a rows
      → (is_none p || is_none q)
      ≡ (is_none (spent p₀ (length (all_nodes (setup_now g) rows t e (ask g t) (commands_at s m₀ at₀)))) || is_none (spent q₀
      (length (all_sent (setup_now g) rows t e (ask g t) g.mode (commands_at s m₀ at₀)))))
  unfolding all_nodes all_sent
  walked_end m at p q z w rows o =
      let c = commands-none s m at z in
      let a : spent p (length (all_nodes (setup_now g) rows t e (ask g t) (commands_at s m at))) ≡ p = rw c (spent-none p 0 refl) in
      let b : spent q (length (all_sent (setup_now g) rows t e (ask g t) g.mode (commands_at s m at))) ≡ q = rw c (spent-none q 0 refl) in
      sym (ap₂ (λ (x : Option ℕ) (y : Option ℕ). is_none x || is_none y) (w.plan rows o ∙ a) (w.send rows o ∙ b))
