-- The two walks over the commands, on an arena that stays as it is: what is left to send comes to the whole. Assumes nothing.
-- Letters: g settings, a the arena's bytes, s the record's, t clock, e epoch, m commands left at `at`, q room, d and f the send buffer's bytes, b whether it is
-- a transaction.
use Rattle.std.specs.Prelude.{Option, ◌≡◌, Bool, List, [], ◌++◌, ℕ, ◌+◌, ◌≤◌, length}
use Rattle.std.proofs.Math.Path.{refl}
use Rattle.std.proofs.Common.{sym, ap, ◌∙◌, arith, length-append}
use Rattle.buffer.specs.Same.{Bytes}
use Rattle.config.specs.declared.Settings.{Settings}
use Rattle.call_record.specs.Record.{Command}
use Rattle.cursor.specs.At.{head_at, command_of, command_next, commands_at}
use Rattle.cursor.specs.Steps.{commands-none, commands-more}
use Rattle.cursor.specs.declared.Head.{Head}
use Rattle.cmd.specs.Laws.{Wrote}
use Rattle.book.specs.Book.{Row}
use Rattle.plan_write.specs.Wrote.{wrote_none, wrote-both, wrote-long, room-first, room-second}
use Rattle.sharded_lru.specs.Lent.{setup_now, Lent, Arena}
use Rattle.planning_outcome.specs.Sizes.{sent_for, all_sent}
use Rattle.planning_send_len.specs.Wrapped.{start_bytes, end_bytes}
use Rattle.cache_manager.specs.Planned.{send_bytes}
use Rattle.room.specs.Room.{spent, spent-none, spent-more}
use Rattle.planning_dry_pass.specs.Dry.{Planable, planable-next}
use Rattle.planning.specs.Ask.{ask}

-- ---- what is written by the rows that the arena holds

-- it fits into n bytes, from `to` on
abbrev pub Fits : Settings → Bytes → ((ℕ → Row) → Bytes) → ℕ → ℕ → Type 0
Fits g a all to n = (rows : ℕ → Row) → Lent g a rows → to + length (all rows) ≤ n

-- it is written to d at `to`, up to e
abbrev pub Puts : Settings → Bytes → ((ℕ → Row) → Bytes) → Bytes → ℕ → Bytes → ℕ → Type 0
Puts g a all d to d₁ e = (rows : ℕ → Row) → Lent g a rows → Wrote d to (all rows) d₁ e

module _ (g : Settings) (a s : Bytes) (t e : ℕ) where
  -- what is sent for the m commands at `at`, by the rows
  abbrev pub sent_at : ℕ → ℕ → (ℕ → Row) → Bytes
  sent_at m at rows = all_sent (setup_now g) rows t e (ask g t) g.mode (commands_at s m at)

  -- for none
  sent-end : (m at : ℕ) → m ≡ 0 → (rows : ℕ → Row) → sent_at m at rows ≡ []
  unfolding all_sent
  sent-end m at q rows = rw (commands-none s m at q)

  module _ (m n at x : ℕ) (h : Head) (k : m ≡ n + 1) (d : h ≡ head_at s at) (f : x ≡ command_next s at) where
    -- for the first, by itself
    abbrev first : (ℕ → Row) → Bytes
    first rows = sent_for (setup_now g) rows t e (ask g t) g.mode (command_of s h)

    -- for the first, and then for the others
    sent-more : (rows : ℕ → Row) → sent_at m at rows ≡ first rows ++ sent_at n x rows
    unfolding all_sent
    sent-more rows = rw (d, f, commands-more s m n at k)

  module _ (m₀ at₀ : ℕ) where
    -- ---- room counted down

    pub record Counted (q₀ : Option ℕ) (m at : ℕ) (q : Option ℕ) : Type 0 where
      pub ahead : Planable g t s m at
      pub left : (rows : ℕ → Row) → Lent g a rows → spent q₀ (length (sent_at m₀ at₀ rows)) ≡ spent q (length (sent_at m at rows))

    pub counted_start : (q₀ : Option ℕ) → Planable g t s m₀ at₀ → Counted q₀ m₀ at₀ q₀
    counted_start q₀ w = record { ahead = w; left = λ rows o. refl }

    -- one command further
    pub counted_next : (q₀ : Option ℕ) (m n at x : ℕ) (q : Option ℕ) (h : Head) (z : ℕ) (k : m ≡ n + 1) (d : h ≡ head_at s at) (f : x ≡ command_next s at)
        → ((rows : ℕ → Row) → Lent g a rows → z ≡ length (first m n at x h k d f rows)) → Counted q₀ m at q → Counted q₀ n x (spent q z)
    counted_next q₀ m n at x q h z k d f is w =
        record {
          ahead = planable-next g t s m n at k w.ahead x f;
          left = λ rows o.
              let N : Bytes = first m n at x h k d f rows in
              let R : Bytes = sent_at n x rows in
              w.left rows o ∙ ap (λ (b : Bytes). spent q (length b)) (sent-more m n at x h k d f rows) ∙ ap (spent q) (length-append N R)
              ∙ sym (spent-more q (length N) (length R)) ∙ ap (λ (b : ℕ). spent (spent q b) (length R)) (sym (is rows o));
        }

    -- none is left
    pub counted-end : (q₀ : Option ℕ) (m at : ℕ) (q : Option ℕ) → m ≡ 0 → Counted q₀ m at q → (rows : ℕ → Row) → Lent g a rows
        → q ≡ spent q₀ (length (sent_at m₀ at₀ rows))
    counted-end q₀ m at q z w rows o = sym (w.left rows o ∙ spent-none q (length (sent_at m at rows)) (ap length (sent-end m at z rows)))

    -- ---- bytes written

    pub record Writing (d₀ : Bytes) (to₀ m at : ℕ) (d : Bytes) (to : ℕ) : Type 0 where
      pub ahead : Planable g t s m at
      pub room : Fits g a (sent_at m at) to (length d)
      pub long : length d ≡ length d₀
      pub goes : (d' : Bytes) (e' : ℕ) → Puts g a (sent_at m at) d to d' e' → Puts g a (sent_at m₀ at₀) d₀ to₀ d' e'

    pub writing_start : (d₀ : Bytes) (to₀ : ℕ) → Planable g t s m₀ at₀ → Fits g a (sent_at m₀ at₀) to₀ (length d₀) → Writing d₀ to₀ m₀ at₀ d₀ to₀
    writing_start d₀ to₀ w r = record { ahead = w; room = r; long = refl; goes = λ d' e' z. z }

    module _ (d₀ : Bytes) (to₀ m n at x : ℕ) (h : Head) (k : m ≡ n + 1) (i : h ≡ head_at s at) (d : Bytes) (to : ℕ) where
      -- there is room for the first
      pub writing-room : x ≡ command_next s at → Writing d₀ to₀ m at d to
          → Fits g a (λ rows. sent_for (setup_now g) rows t e (ask g t) g.mode (command_of s h)) to (length d)
      writing-room f w =
          λ rows o. room-first (sent_at m at rows) (first m n at x h k i f rows) (sent_at n x rows) to (length d) (sent-more m n at x h k i f rows)
          (w.room rows o)

      -- one command further
      pub writing-next : (f : x ≡ command_next s at) → Arena g a → (d₁ : Bytes) (to₁ : ℕ) → Puts g a (first m n at x h k i f) d to d₁ to₁
          → Writing d₀ to₀ m at d to → Writing d₀ to₀ n x d₁ to₁
      writing-next f v d₁ to₁ z w =
          let l = wrote-long d d₁ (first m n at x h k i f v.rows) to to₁ (writing-room f w v.rows v.lent) (z v.rows v.lent) in
          record {
            ahead = planable-next g t s m n at k w.ahead x f;
            room =
                λ rows o. room-second d d₁ (sent_at m at rows) (first m n at x h k i f rows) (sent_at n x rows) to to₁ (sent-more m n at x h k i f rows)
                (w.room rows o) (z rows o);
            long = l ∙ w.long;
            goes = λ d' e' y.
                w.goes d' e'
                (λ rows o.
                wrote-both d d₁ d' (sent_at m at rows) (first m n at x h k i f rows) (sent_at n x rows) to to₁ e' (sent-more m n at x h k i f rows)
                (w.room rows o) (z rows o) (y rows o));
          }

    -- none is left
    pub writing-end : (d₀ : Bytes) (to₀ m at : ℕ) (d : Bytes) (to : ℕ) → m ≡ 0 → Writing d₀ to₀ m at d to → Puts g a (sent_at m₀ at₀) d₀ to₀ d to
    writing-end d₀ to₀ m at d to q w = w.goes d to (λ rows o. wrote_none d (sent_at m at rows) to (sent-end m at q rows))

-- ---- `MULTI`, the commands and `EXEC`

module _ (g : Settings) (a : Bytes) (t e : ℕ) (b : Bool) (cs : List Command) (f : Bytes)
    (room : Fits g a (λ rows. send_bytes (setup_now g) rows t e g b cs) 0 (length f)) where
  -- what is sent for the commands, and what stands behind `MULTI`
  abbrev commands_sent : (ℕ → Row) → Bytes
  commands_sent rows = all_sent (setup_now g) rows t e (ask g t) g.mode cs

  abbrev tail_sent : (ℕ → Row) → Bytes
  tail_sent rows = commands_sent rows ++ end_bytes b

  -- room for `MULTI`
  pub start-room : Arena g a → 0 + length (start_bytes b) ≤ length f
  unfolding send_bytes
  start-room v = room-first (start_bytes b ++ tail_sent v.rows) (start_bytes b) (tail_sent v.rows) 0 (length f) refl (room v.rows v.lent)

  module _ (f₁ : Bytes) (from : ℕ) (j : Wrote f 0 (start_bytes b) f₁ from) where
    tail-room : Fits g a tail_sent from (length f₁)
    unfolding send_bytes
    tail-room rows o = room-second f f₁ (start_bytes b ++ tail_sent rows) (start_bytes b) (tail_sent rows) 0 from refl (room rows o) j

    -- for the commands
    pub commands-room : Fits g a commands_sent from (length f₁)
    commands-room rows o = room-first (tail_sent rows) (commands_sent rows) (end_bytes b) from (length f₁) refl (tail-room rows o)

    module _ (f₂ : Bytes) (to : ℕ) (z : Puts g a commands_sent f₁ from f₂ to) where
      -- and for `EXEC`
      pub end-room : Arena g a → to + length (end_bytes b) ≤ length f₂
      end-room v =
          room-second f₁ f₂ (tail_sent v.rows) (commands_sent v.rows) (end_bytes b) from to refl (tail-room v.rows v.lent) (z v.rows v.lent)

      -- all is written
      pub all-wrote : (f₃ : Bytes) (end : ℕ) → Wrote f₂ to (end_bytes b) f₃ end → Puts g a (λ rows. send_bytes (setup_now g) rows t e g b cs) f 0 f₃ end
      unfolding send_bytes
      all-wrote f₃ end y rows o =
          let x = wrote-both f₁ f₂ f₃ (tail_sent rows) (commands_sent rows) (end_bytes b) from to end refl (tail-room rows o) (z rows o) y in
          wrote-both f f₁ f₃ (start_bytes b ++ tail_sent rows) (start_bytes b) (tail_sent rows) 0 from end refl (room rows o) j x

  -- what is written from the beginning ends inside
  pub ends-within : Arena g a → (f₁ : Bytes) (end : ℕ) → Puts g a (λ rows. send_bytes (setup_now g) rows t e g b cs) f 0 f₁ end → end ≤ length f
  ends-within v f₁ end z = let h = room v.rows v.lent in let k = (z v.rows v.lent).ends in omega arith
