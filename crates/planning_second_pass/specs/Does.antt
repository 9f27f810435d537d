-- What the second pass has done for commands: their nodes and what is sent for them are written, and their lookups are done. Assumes nothing.
-- Letters: g settings, t clock, e epoch, a the arena's bytes, d the plan buffer's, f the send buffer's, x how far the pass is, c command.
use Rattle.std.specs.Prelude.{◌≡◌, ℕ, ◌+◌, ◌≤◌, length}
use Rattle.std.proofs.Math.Path.{refl, ap, subst}
use Rattle.std.proofs.Common.{sym, arith}
use mathlib.Core.List.{List, [], ◌∷◌, ◌++◌}
use Rattle.buffer.specs.Same.{Bytes}
use Rattle.config.specs.declared.Settings.{Settings}
use Rattle.call_record.specs.Record.{Command}
use Rattle.cmd.specs.Laws.{Wrote}
use Rattle.book.specs.Book.{Book, Row, after_all}
use Rattle.book.specs.Calls.{Wanted, lookups, ons}
use Rattle.planning.specs.Ask.{ask}
use Rattle.planning.specs.Outcome.{wants, wanted}
use Rattle.planning.specs.Sent.{sends}
use Rattle.plan_write.specs.Wrote.{wrote_none, wrote-both, wrote-long, room-first, room-second}
use Rattle.sharded_lru.specs.Lent.{setup_now, Lent, Arena}
use Rattle.planning_outcome.specs.Result.{outcome_for}
use Rattle.planning_outcome.specs.Sizes.{nodes_for, sent_for, all_nodes, all_sent, sent_count}
use Rattle.statistics.specs.OfBook.{counts_of}
use Rattle.planning_look_up.specs.Looks.{Keeps, Looks, looks-none}
use Rattle.sharded_lru.specs.Laws.{lent_same}
use Rattle.planning_second_pass.specs.Unseen.{after_lookups, nodes-after, sent-after, count-after}
use Rattle.planning_second_pass.specs.declared.Progress.{Progress}

-- what is written and looked up, from one state to another: these nodes, these bytes sent, so many commands, these lookups
pub record Step (g : Settings) (t e : ℕ) (nodes sent : (ℕ → Row) → Bytes) (number : (ℕ → Row) → ℕ) (ws : List Wanted)
    (a d f : Bytes) (x : Progress) (a' d' f' : Bytes) (x' : Progress) : Type 0 where
  pub plan : (rows : ℕ → Row) → Lent g a rows → Wrote d x.to (nodes rows) d' x'.to
  pub send : (rows : ℕ → Row) → Lent g a rows → Wrote f x.from (sent rows) f' x'.from
  pub count : (rows : ℕ → Row) → Lent g a rows → x'.sent ≡ x.sent + number rows
  pub looks : Looks g t e ws a x.counts a' x'.counts

module _ (g : Settings) (t e : ℕ) where
  -- for one command
  abbrev pub One : Command → Bytes → Bytes → Bytes → Progress → Bytes → Bytes → Bytes → Progress → Type 0
  One c a d f x a' d' f' x' =
      Step g t e (λ rows. nodes_for (setup_now g) rows t e (ask g t) c) (λ rows. sent_for (setup_now g) rows t e (ask g t) g.mode c)
      (λ rows. length (sends g.mode c (outcome_for (setup_now g) rows t e (ask g t) c))) (wants c (ask g t c)) a d f x a' d' f' x'

  -- for several
  abbrev pub Does : List Command → Bytes → Bytes → Bytes → Progress → Bytes → Bytes → Bytes → Progress → Type 0
  Does cs a d f x a' d' f' x' =
      Step g t e (λ rows. all_nodes (setup_now g) rows t e (ask g t) cs) (λ rows. all_sent (setup_now g) rows t e (ask g t) g.mode cs)
      (λ rows. sent_count (setup_now g) rows t e (ask g t) g.mode cs) (wanted (ask g t) cs) a d f x a' d' f' x'

  -- there is room for what is written for commands
  pub record Room (cs : List Command) (a d f : Bytes) (x : Progress) : Type 0 where
    pub plan : (rows : ℕ → Row) → Lent g a rows → x.to + length (all_nodes (setup_now g) rows t e (ask g t) cs) ≤ length d
    pub send : (rows : ℕ → Row) → Lent g a rows → x.from + length (all_sent (setup_now g) rows t e (ask g t) g.mode cs) ≤ length f

  -- for none
  pub does-none : (a d f : Bytes) (x : Progress) → Does [] a d f x a d f x
  unfolding all_nodes all_sent sent_count wanted
  does-none a d f x =
      record {
        plan = λ rows o. wrote_none d [] x.to refl;
        send = λ rows o. wrote_none f [] x.from refl;
        count = λ rows o. omega arith;
        looks = looks-none g t e a x.counts;
      }

  -- lookups one list after the other
  pub after-append : (ws vs : List Wanted) (bk : Book)
      → after_lookups (setup_now g) t e (ws ++ vs) bk ≡ after_lookups (setup_now g) t e vs (after_lookups (setup_now g) t e ws bk)
  unfolding after_all ons lookups
  after-append [] vs bk = refl
  after-append (w ∷ ws) vs bk = after-append ws vs _

  module _ (c : Command) (cs : List Command) (a a₁ d d₁ f f₁ : Bytes) (x x₁ : Progress) (o : One c a d f x a₁ d₁ f₁ x₁) (r : Room (c ∷ cs) a d f x) where
    -- the book before, for rows that the arena holds, and after the command's lookups
    abbrev before : (ℕ → Row) → Book
    before rows = record { rows = rows; counts = counts_of x.counts; next = 0 }

    abbrev behind : (ℕ → Row) → Book
    behind rows = after_lookups (setup_now g) t e (wants c (ask g t c)) (before rows)

    middle : (rows : ℕ → Row) → Lent g a rows → Lent g a₁ (behind rows).rows
    middle rows h = (o.looks (before rows) (record { rows = h; counts = refl })).rows

    plan-both : (rows : ℕ → Row) → all_nodes (setup_now g) rows t e (ask g t) (c ∷ cs) ≡ nodes_for (setup_now g) rows t e (ask g t) c
        ++ all_nodes (setup_now g) (behind rows).rows t e (ask g t) cs
    unfolding all_nodes
    plan-both rows = ap (λ (z : Bytes). nodes_for (setup_now g) rows t e (ask g t) c ++ z)
        (sym (nodes-after (setup_now g) t e g (wants c (ask g t c)) (before rows) cs))

    send-both : (rows : ℕ → Row) → all_sent (setup_now g) rows t e (ask g t) g.mode (c ∷ cs) ≡ sent_for (setup_now g) rows t e (ask g t) g.mode c
        ++ all_sent (setup_now g) (behind rows).rows t e (ask g t) g.mode cs
    unfolding all_sent
    send-both rows = ap (λ (z : Bytes). sent_for (setup_now g) rows t e (ask g t) g.mode c ++ z)
        (sym (sent-after (setup_now g) t e g (wants c (ask g t c)) (before rows) cs))

    -- one, and then others
    pub does-more : (a₂ d₂ f₂ : Bytes) (x₂ : Progress) → Does cs a₁ d₁ f₁ x₁ a₂ d₂ f₂ x₂ → Does (c ∷ cs) a d f x a₂ d₂ f₂ x₂
    unfolding wanted sent_count
    does-more a₂ d₂ f₂ x₂ w =
        record {
          plan = λ rows h.
              wrote-both d d₁ d₂ _ _ _ x.to x₁.to x₂.to (plan-both rows) (r.plan rows h) (o.plan rows h)
              (w.plan (behind rows).rows (middle rows h));
          send = λ rows h.
              wrote-both f f₁ f₂ _ _ _ x.from x₁.from x₂.from (send-both rows) (r.send rows h) (o.send rows h)
              (w.send (behind rows).rows (middle rows h));
          count = λ rows h.
              let i = o.count rows h in
              let j = w.count (behind rows).rows (middle rows h) in
              let k = count-after (setup_now g) t e g (wants c (ask g t c)) (before rows) cs in
              omega arith;
          looks = λ bk k.
              subst (λ (b : Book). Keeps g a₂ x₂.counts b) (sym (after-append (wants c (ask g t c)) (wanted (ask g t) cs) bk)) (w.looks _ (o.looks bk k));
        }

    -- there is room for the others then
    pub room-more : Arena g a → Room cs a₁ d₁ f₁ x₁
    room-more w =
        let R : ℕ → Row = w.rows in
        let h = w.lent in
        record {
          plan = λ rows k.
              let q : (behind R).rows ≡ rows = lent_same (middle R h) k in
              subst (λ (z : ℕ → Row). x₁.to + length (all_nodes (setup_now g) z t e (ask g t) cs) ≤ length d₁) q
              (room-second d d₁ _ _ _ x.to x₁.to (plan-both R) (r.plan R h) (o.plan R h));
          send = λ rows k.
              let q : (behind R).rows ≡ rows = lent_same (middle R h) k in
              subst (λ (z : ℕ → Row). x₁.from + length (all_sent (setup_now g) z t e (ask g t) g.mode cs) ≤ length f₁) q
              (room-second f f₁ _ _ _ x.from x₁.from (send-both R) (r.send R h) (o.send R h));
        }

    -- the buffers keep their lengths
    pub long-more : Arena g a → (length d₁ ≡ length d) × (length f₁ ≡ length f)
    long-more w =
        let R : ℕ → Row = w.rows in
        let h = w.lent in (
          wrote-long d d₁ _ x.to x₁.to
              (room-first _ (nodes_for (setup_now g) R t e (ask g t) c) (all_nodes (setup_now g) (behind R).rows t e (ask g t) cs) x.to (length d) (plan-both R)
              (r.plan R h)) (o.plan R h),
          wrote-long f f₁ _ x.from x₁.from
              (room-first _ (sent_for (setup_now g) R t e (ask g t) g.mode c) (all_sent (setup_now g) (behind R).rows t e (ask g t) g.mode cs) x.from
              (length f) (send-both R)
              (r.send R h)) (o.send R h),
        )

  -- room for the first alone
  pub room-one : (c : Command) (cs : List Command) (a d f : Bytes) (x : Progress) → Room (c ∷ cs) a d f x
      → ((rows : ℕ → Row) → Lent g a rows → x.to + length (nodes_for (setup_now g) rows t e (ask g t) c) ≤ length d)
      × ((rows : ℕ → Row) → Lent g a rows → x.from + length (sent_for (setup_now g) rows t e (ask g t) g.mode c) ≤ length f)
  unfolding all_nodes all_sent
  room-one c cs a d f x r = (
    λ rows h. room-first _ (nodes_for (setup_now g) rows t e (ask g t) c) (all_nodes (setup_now g) rows t e (ask g t) cs) x.to (length d) refl (r.plan rows h),
    λ rows h. room-first _ (sent_for (setup_now g) rows t e (ask g t) g.mode c) (all_sent (setup_now g) rows t e (ask g t) g.mode cs) x.from
        (length f) refl (r.send rows h),
  )
