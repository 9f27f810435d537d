-- What the second pass leaves, all of it: both buffers from their beginning, the arena and the counts. Assumes nothing.
use Rattle.std.specs.Prelude.{◌≡◌, Bool, true, false, cond, List, ◌++◌, ltb, Ok, Option, is_none}
use Rattle.std.proofs.Math.Path.{refl, ap}
use Rattle.std.proofs.Common.{sym, ◌∙◌}
use Prim.Native.Nat.{ℕ, ◌+◌, ◌≤◌}
use native.Mathlib.Omega.{arith}
use Rattle.std.proofs.Math.ListN.{length, length-append}
use Rattle.buffer.specs.Same.{Bytes}
use Rattle.buffer.specs.Part.{put}
use Rattle.config.specs.declared.Settings.{Settings}
use Rattle.call_record.specs.Record.{Command}
use Rattle.cmd.specs.Laws.{Wrote}
use Rattle.book.specs.Book.{Setup, Book, Row, after_all}
use Rattle.book.specs.Calls.{lookups, ons}
use Rattle.planning.specs.Ask.{ask}
use Rattle.planning.specs.Outcome.{wanted}
use Rattle.planning.specs.Sent.{responses}
use Rattle.plan_write.specs.Pieces.{plan_head, length-plan-head}
use Rattle.plan_write.specs.Wrote.{wrote-both, wrote-is, room-first, room-second}
use Rattle.statistics.specs.declared.Statistics.{Statistics}
use Rattle.sharded_lru.specs.Lent.{setup_now, Lent, Arena}
use Rattle.planning_outcome.specs.Sizes.{all_nodes, all_sent, sent_count}
use Rattle.planning_send_len.specs.Wrapped.{start_bytes, end_bytes}
use Rattle.planning_look_up.specs.Looks.{Keeps}
use Rattle.room.specs.Room.{spent, whole, spent-more, whole-short}
use Rattle.planning.specs.Plan.{plan_head_size}
use Rattle.planning_second_pass.specs.Does.{Does, Room}
use Rattle.planning_second_pass.specs.declared.Progress.{Progress}
use Rattle.cache_manager.specs.Pipeline.{returned_of, wrote}
use Rattle.cache_manager.specs.Planned.{plan_bytes, send_bytes}
use Rattle.cache_manager.specs.declared.Written.{Written}
use Rattle.cache_manager.specs.declared.CachedPipeline.{CachedPipeline}

-- ---- cause 5

-- the room of the two buffers, counted down
pub room-short : (R n : ℕ) (P x y : Bytes) → P ≡ x ++ y → length x ≡ n → is_none (spent (spent (whole R) n) (length y)) ≡ ltb R (length P)
room-short R n P x y q l =
    ap (λ (r : Option ℕ). is_none r) (spent-more (whole R) n (length y)) ∙ whole-short R (n + length y)
    ∙ ap (ltb R) (sym (ap length q ∙ length-append x y ∙ ap (λ (z : ℕ). z + length y) l))

module _ (p : Setup) (rows : ℕ → Row) (t e : ℕ) (g : Settings) (b : Bool) (cs : List Command) where
  pub plan-short : (R : ℕ) → is_none (spent (spent (whole R) plan_head_size) (length (all_nodes p rows t e (ask g t) cs))) ≡ ltb R
      (length (plan_bytes p rows t e g b cs))
  unfolding plan_bytes
  plan-short R = room-short R plan_head_size _ (plan_head b (length cs)) (all_nodes p rows t e (ask g t) cs) refl (length-plan-head b (length cs))

  pub send-short : (S w : ℕ) → w ≡ length (start_bytes b) + length (end_bytes b)
      → is_none (spent (spent (whole S) w) (length (all_sent p rows t e (ask g t) g.mode cs))) ≡ ltb S (length (send_bytes p rows t e g b cs))
  unfolding send_bytes
  send-short S w q =
      let l = length-append (start_bytes b) (all_sent p rows t e (ask g t) g.mode cs ++ end_bytes b) in
      let k = length-append (all_sent p rows t e (ask g t) g.mode cs) (end_bytes b) in
      ap (λ (r : Option ℕ). is_none r) (spent-more (whole S) w (length (all_sent p rows t e (ask g t) g.mode cs)))
      ∙ whole-short S (w + length (all_sent p rows t e (ask g t) g.mode cs))
      ∙ ap (ltb S) (omega arith)

-- ---- the second pass

-- with the response counts of rule P18
abbrev pub written_of : Bool → ℕ → ℕ → ℕ → Written
written_of b n m x =
    cond b (record { plan = n; send = m; offset = x + 1; count = 1 }) (record { plan = n; send = m; offset = 0; count = x })

pub record Passed (g : Settings) (t e : ℕ) (b : Bool) (cs : List Command) (bk : Book) (d f a' d' f' : Bytes) (r : CachedPipeline) : Type 0 where
  pub plan : d' ≡ put d 0 (plan_bytes (setup_now g) bk.rows t e g b cs)
  pub send : f' ≡ put f 0 (send_bytes (setup_now g) bk.rows t e g b cs)
  pub returned : returned_of r.answer
      ≡ wrote (length (plan_bytes (setup_now g) bk.rows t e g b cs)) (length (send_bytes (setup_now g) bk.rows t e g b cs))
      (responses b (sent_count (setup_now g) bk.rows t e (ask g t) g.mode cs))
  pub keeps : Keeps g a' r.counts (after_all (setup_now g) (ons (lookups t e (wanted (ask g t) cs))) bk)

-- there is room for the heads
module _ (g : Settings) (t e : ℕ) (b : Bool) (cs : List Command) (a d f : Bytes)
    (room : (rows : ℕ → Row) → Lent g a rows → (length (plan_bytes (setup_now g) rows t e g b cs) ≤ length d)
    × (length (send_bytes (setup_now g) rows t e g b cs) ≤ length f))
    (v : Arena g a) where
  pub head-fits : plan_head_size ≤ length d
  unfolding plan_bytes
  head-fits =
      let h = (room v.rows v.lent).0 in
      let l = length-append (plan_head b (length cs)) (all_nodes (setup_now g) v.rows t e (ask g t) cs) in
      let k = length-plan-head b (length cs) in
      omega arith

  pub start_fits : 0 + length (start_bytes b) ≤ length f
  unfolding send_bytes
  start_fits =
      let h = (room v.rows v.lent).1 in
      let l = length-append (start_bytes b) (all_sent (setup_now g) v.rows t e (ask g t) g.mode cs ++ end_bytes b) in
      omega arith

-- the numbers
pub numbers : (b : Bool) (n m x n' m' x' : ℕ) → n ≡ n' → m ≡ m' → x ≡ x' → returned_of (Ok (written_of b n m x)) ≡ wrote n' m' (responses b x')
unfolding responses
numbers true n m x n' m' x' p q r = rw (p, q, r)
numbers false n m x n' m' x' p q r = rw (p, q, r)

module _ (g : Settings) (t e : ℕ) (b : Bool) (cs : List Command) (a d f d₁ f₁ : Bytes) (to from n : ℕ) (counts : Statistics)
    (k : length cs ≡ n) (i : (to ≡ plan_head_size) × (d₁ ≡ put d 0 (plan_head b n))) (j : Wrote f 0 (start_bytes b) f₁ from)
    (room : (rows : ℕ → Row) → Lent g a rows → (length (plan_bytes (setup_now g) rows t e g b cs) ≤ length d)
    × (length (send_bytes (setup_now g) rows t e g b cs) ≤ length f)) where
  -- the heads are written
  head-wrote : Wrote d 0 (plan_head b (length cs)) d₁ to
  head-wrote = wrote-is d d₁ _ (plan_head b n) 0 to (ap (plan_head b) k) (let l = length-plan-head b n in i.0 ∙ omega arith, i.1)

  plan-room : (rows : ℕ → Row) → Lent g a rows → 0 + length (plan_bytes (setup_now g) rows t e g b cs) ≤ length d
  plan-room rows o = let h = (room rows o).0 in omega arith

  send-room : (rows : ℕ → Row) → Lent g a rows → 0 + length (send_bytes (setup_now g) rows t e g b cs) ≤ length f
  send-room rows o = let h = (room rows o).1 in omega arith

  sent-room : (rows : ℕ → Row) → Lent g a rows → from + length (all_sent (setup_now g) rows t e (ask g t) g.mode cs ++ end_bytes b) ≤ length f₁
  unfolding send_bytes
  sent-room rows o = room-second f f₁ _ (start_bytes b) (all_sent (setup_now g) rows t e (ask g t) g.mode cs ++ end_bytes b) 0 from refl (send-room rows o) j

  -- so there is room for the commands
  pub pass-room : Room g t e cs a d₁ f₁ (record { to = to; from = from; sent = 0; counts = counts })
  unfolding plan_bytes
  pass-room =
      record {
        plan = λ rows o. room-second d d₁ _ (plan_head b (length cs)) (all_nodes (setup_now g) rows t e (ask g t) cs) 0 to refl (plan-room rows o) head-wrote;
        send = λ rows o. room-first _ (all_sent (setup_now g) rows t e (ask g t) g.mode cs) (end_bytes b) from (length f₁) refl (sent-room rows o);
      }

  module _ (a' d₂ f₂ : Bytes) (y : Progress) (w : Does g t e cs a d₁ f₁ (record { to = to; from = from; sent = 0; counts = counts }) a' d₂ f₂ y) where
    -- and for the end
    pub end-room : Arena g a → y.from + length (end_bytes b) ≤ length f₂
    end-room v =
        let R : ℕ → Row = v.rows in
        room-second f₁ f₂ _ (all_sent (setup_now g) R t e (ask g t) g.mode cs) (end_bytes b) from y.from refl (sent-room R v.lent) (w.send R v.lent)

    -- all is written
    pub passed : (f₃ : Bytes) (end : ℕ) (r : CachedPipeline) → Wrote f₂ y.from (end_bytes b) f₃ end
        → r.answer ≡ Ok (written_of b y.to end y.sent) → r.counts ≡ y.counts
        → (bk : Book) → Keeps g a counts bk → Passed g t e b cs bk d f a' d₂ f₃ r
    unfolding plan_bytes send_bytes
    passed f₃ end r z q c bk o =
        let R : ℕ → Row = bk.rows in
        let h = o.rows in
        let P = wrote-both d d₁ d₂ _ (plan_head b (length cs)) (all_nodes (setup_now g) R t e (ask g t) cs) 0 to y.to refl (plan-room R h) head-wrote
        (w.plan R h) in
        let S = wrote-both f₁ f₂ f₃ _ (all_sent (setup_now g) R t e (ask g t) g.mode cs) (end_bytes b) from y.from end refl (sent-room R h)
        (w.send R h) z in
        let T = wrote-both f f₁ f₃ _ (start_bytes b) (all_sent (setup_now g) R t e (ask g t) g.mode cs ++ end_bytes b) 0 from end refl (send-room R h) j S in
        let n₁ = P.ends in
        let n₂ = T.ends in
        let n₃ = w.count R h in
        record {
          plan = P.is;
          send = T.is;
          returned = ap returned_of q ∙ numbers b _ _ _ _ _ _ (n₁ ∙ omega arith) (n₂ ∙ omega arith) (n₃ ∙ omega arith);
          keeps = rw c (w.looks bk o);
        }
