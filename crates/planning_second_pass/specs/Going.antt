-- The walk of the second pass over the commands: whoever does what is left from here has done the whole. Assumes nothing.
use Rattle.std.specs.Prelude.{◌≡◌, refl, List, ◌∷◌, ℕ, ◌+◌, ◌*◌, ◌^◌, ◌≤◌, length}
use Rattle.std.proofs.Common.{sym, ◌∙◌, subst, arith}
use Rattle.buffer.specs.Same.{Bytes}
use Rattle.config.specs.declared.Settings.{Settings}
use Rattle.call_record.specs.Record.{Command}
use Rattle.cursor.specs.At.{head_at, command_of, command_next, commands_at}
use Rattle.cursor.specs.Steps.{commands-none, commands-more}
use Rattle.cursor.specs.declared.Head.{Head}
use Rattle.book.specs.Book.{Row}
use Rattle.sharded_lru.specs.Lent.{setup_now, Lent, Arena}
use Rattle.planning_outcome.specs.Sizes.{nodes_for, sent_for}
use Rattle.planning_look_up.specs.Looks.{looks-arena}
use Rattle.planning_dry_pass.specs.Dry.{Planable, planable-next}
use Rattle.planning_second_pass.specs.Does.{One, Does, Room, does-none, does-more, room-more, room-one, long-more}
use Rattle.planning_second_pass.specs.declared.Progress.{Progress}
use Rattle.planning.specs.Ask.{ask}

module _ (g : Settings) (t e : ℕ) (s : Bytes) (m₀ at₀ : ℕ) (a₀ d₀ f₀ : Bytes) (x₀ : Progress) where
  pub record Going (m at : ℕ) (a d f : Bytes) (x : Progress) : Type 0 where
    pub ahead : Planable g t s m at
    pub arena : Arena g a
    pub room : Room g t e (commands_at s m at) a d f x
    pub few : x.sent + 2 ^ 26 * m ≤ x₀.sent + 2 ^ 26 * m₀
    pub long : length a ≡ length a₀
    pub plan-long : length d ≡ length d₀
    pub send-long : length f ≡ length f₀
    pub goes : (a' d' f' : Bytes) (x' : Progress) → Does g t e (commands_at s m at) a d f x a' d' f' x'
        → Does g t e (commands_at s m₀ at₀) a₀ d₀ f₀ x₀ a' d' f' x'

  pub going_start : Planable g t s m₀ at₀ → Arena g a₀ → Room g t e (commands_at s m₀ at₀) a₀ d₀ f₀ x₀ → Going m₀ at₀ a₀ d₀ f₀ x₀
  going_start w v r =
      record { ahead = w; arena = v; room = r; few = omega arith; long = refl; plan-long = refl; send-long = refl; goes = λ a' d' f' x' z. z }

  -- room for the first command
  pub going-room : (m n at : ℕ) (a d f : Bytes) (x : Progress) (h : Head) → m ≡ n + 1 → h ≡ head_at s at → Going m at a d f x
      → ((rows : ℕ → Row) → Lent g a rows → x.to + length (nodes_for (setup_now g) rows t e (ask g t) (command_of s h)) ≤ length d)
      × ((rows : ℕ → Row) → Lent g a rows → x.from + length (sent_for (setup_now g) rows t e (ask g t) g.mode (command_of s h)) ≤ length f)
  going-room m n at a d f x h q i w =
      let u : commands_at s m at ≡ command_of s h ∷ commands_at s n (command_next s at) = rw (i, commands-more s m n at q) in
      room-one g t e (command_of s h) (commands_at s n (command_next s at)) a d f x (subst (λ (z : List Command). Room g t e z a d f x) u w.room)

  -- one command further
  pub going_next : (m n at next : ℕ) (a a₁ d d₁ f f₁ : Bytes) (x x₁ : Progress) (h : Head) → m ≡ n + 1 → h ≡ head_at s at → next ≡ command_next s at
      → One g t e (command_of s h) a d f x a₁ d₁ f₁ x₁ → x₁.sent ≤ x.sent + 2 ^ 26 → length a₁ ≡ length a
      → Going m at a d f x → Going n next a₁ d₁ f₁ x₁
  going_next m n at next a a₁ d d₁ f f₁ x x₁ h q i j o b l w =
      let c : Command = command_of s h in
      let cs : List Command = commands_at s n next in
      let u : commands_at s m at ≡ c ∷ cs = rw (i, j, commands-more s m n at q) in
      let r : Room g t e (c ∷ cs) a d f x = subst (λ (z : List Command). Room g t e z a d f x) u w.room in
      let k = long-more g t e c cs a a₁ d d₁ f f₁ x x₁ o r w.arena in
      let k₁ = k.0 in
      let k₂ = k.1 in
      let y = w.few in
      let l₀ = w.long in
      let l₁ = w.plan-long in
      let l₂ = w.send-long in
      record {
        ahead = planable-next g t s m n at q w.ahead next j;
        arena = looks-arena g t e _ a a₁ x.counts x₁.counts o.looks w.arena;
        room = room-more g t e c cs a a₁ d d₁ f f₁ x x₁ o r w.arena;
        few = omega arith;
        long = l ∙ l₀;
        plan-long = k₁ ∙ l₁;
        send-long = k₂ ∙ l₂;
        goes = λ a' d' f' x' z.
            w.goes a' d' f' x'
            (subst (λ (v : List Command). Does g t e v a d f x a' d' f' x') (sym u) (does-more g t e c cs a a₁ d d₁ f f₁ x x₁ o r a' d' f' x' z));
      }

  -- all are done
  pub going_end : (m at : ℕ) (a d f : Bytes) (x : Progress) → m ≡ 0 → Going m at a d f x → Does g t e (commands_at s m₀ at₀) a₀ d₀ f₀ x₀ a d f x
  going_end m at a d f x q w =
      w.goes a d f x (subst (λ (v : List Command). Does g t e v a d f x a d f x) (sym (commands-none s m at q)) (does-none g t e a d f x))
