-- Causes 7 and 8 and the result: what the passes found and did is what becomes of the plan. Assumes nothing.
-- (Where a definition changes, a worked case is to say so first: this file cites one.)
use Rattle.std.proofs.Math.Path.{◌≡◌, refl}
use Rattle.std.proofs.Common.{sym, ap, subst, ◌∙◌, arith, length-append, leb-true}
use Rattle.std.specs.Prelude.{Bool, List, [], ◌++◌, ℕ, ◌+◌, ◌≤◌, length, replicate}
use Rattle.std.proofs.Math.Bool.{true, false}
use Rattle.std.proofs.Math.Dec.{leb}
use Rattle.buffer.specs.Same.{Bytes}
use Rattle.buffer.specs.Part.{put}
use Rattle.buffer.specs.PartLaws.{put-put}
use Rattle.config.specs.Causes.{bad_shape, short_answer}
use Rattle.config.specs.declared.Settings.{Settings}
use Rattle.resp3.specs.Value.{Values, encs, count}
use Rattle.book.specs.Book.{after_all}
use Rattle.book.specs.Calls.{Storing, call-defs}
use Rattle.resolving.specs.Resolve.{Resolved, cause7, answered}
use Rattle.resolving.specs.Result.{result_bytes}
use Rattle.resolving_walk.specs.Walk.{Walked, stopped, through}
use Rattle.resolving_walk.specs.Same.{walked_of, result_head}
use Rattle.resolving_walk.proofs.WalkLaws.{result-pieces}
use Rattle.room.specs.Room.{spent, whole, has_room, room-spent}
use Rattle.resolving_passes.specs.declared.Dry.TheVariants.{Fits, Short, Wrong}
use Rattle.resolving_passes.specs.Passes.{dry_if, dry_of, FineWalk, answer_bytes}
use Rattle.resolving_store.specs.Stores.{Stores, walked_stores}
use Rattle.resolving_store.specs.Laws.{stores-none}
use Rattle.std.specs.Prelude.{Err}
use Rattle.config.specs.declared.Cause.TheVariants.{BadShape, ShortAnswer}
use Rattle.caching_cmd.specs.Call.{answered_with, fits, told_to, refused_of, answer_of, buffer_after}
use Rattle.caching_cmd.specs.Parts.{Judged}
use Rattle.caching_cmd.specs.Settle.{dry_for, Many}

-- ---- the room

-- after a head of h bytes there is room for x more exactly if both have room
room_says : (n h x : ℕ) → has_room (spent (whole n) h) x ≡ leb (h + x) n
room_says n h x = room-spent (whole n) h x

-- the length of the result
result-length : (transaction : Bool) (vs : Values) (k : ℕ) → count vs ≡ k
    → length (result_head transaction k) + length (encs vs []) ≡ length (result_bytes transaction vs)
result-length transaction vs k e =
    sym (ap length (result-pieces transaction vs ∙ ap (λ (i : ℕ). result_head transaction i ++ encs vs []) e)
    ∙ length-append (result_head transaction k) (encs vs []))

pub dry-says : (transaction : Bool) (v : Resolved) (n k : ℕ) → Many v k
    → dry_of (spent (whole n) (length (result_head transaction k))) (walked_of v) ≡ dry_for transaction v n
unfolding dry_of dry_for
dry-says transaction (cause7 ss) n k m = refl
dry-says transaction (answered vs ss) n k m =
    ap dry_if (room_says n (length (result_head transaction k)) (length (encs vs [])) ∙ ap (λ (i : ℕ). leb i n) (result-length transaction vs k m))

-- where the dry pass found room, the walk goes through and its bytes have room behind the head
pub fine-dry : (n h : ℕ) (w : Walked) → Fits ≡ dry_of (spent (whole n) h) w → FineWalk h n w
unfolding dry_of
fine-dry n h (stopped ss) d = absurd (let z : ◌≡◌ {A = ℕ} 0 1 = cc in omega arith)
fine-dry n h (through bs ss) d = go (leb (h + length bs) n) refl (d ∙ ap dry_if (room_says n h (length bs)))
  where
    go : (b : Bool) → leb (h + length bs) n ≡ b → Fits ≡ dry_if b → h + length bs ≤ n
    go true e q = leb-true (h + length bs) n e
    go false e q = absurd (let z : ◌≡◌ {A = ℕ} 0 1 = cc in omega arith)

-- so has the head
pub fine-head : (n h : ℕ) (w : Walked) → FineWalk h n w → h ≤ n
fine-head n h (stopped ss) f = absurd f
fine-head n h (through bs ss) f = omega arith

-- ---- on the book

module _ (g : Settings) (transaction : Bool) (epoch : ℕ) (old buffer : Bytes) where
  -- cause 7
  pub judged-wrong : (ss : List Storing) (new after : Bytes) (n : ℕ) → Stores g epoch ss old new n → after ≡ replicate (length buffer) 0
      → Judged g transaction epoch (cause7 ss) old new buffer after (Err BadShape)
  unfolding answer_of told_to fits buffer_after call-defs
  judged-wrong ss new after n f e bk l = (refl, (f bk l).0, e)

  -- cause 8
  judged-short : (vs : Values) (ss : List Storing) → leb (length (result_bytes transaction vs)) (length buffer) ≡ false
      → Judged g transaction epoch (answered vs ss) old old buffer buffer (Err ShortAnswer)
  unfolding answer_of told_to fits buffer_after call-defs after_all
  judged-short vs ss e bk l = rw e (refl, l, refl)

  -- neither
  judged-fits : (vs : Values) (ss : List Storing) (new after : Bytes) (n : ℕ) → leb (length (result_bytes transaction vs)) (length buffer) ≡ true
      → Stores g epoch ss old new n
      → after ≡ put buffer 0 (result_bytes transaction vs)
      → Judged g transaction epoch (answered vs ss) old new buffer after (answered_with (length (result_bytes transaction vs)) n)
  unfolding answer_of told_to fits buffer_after refused_of call-defs
  judged-fits vs ss new after n e f q bk l = let z = f bk l in rw e (ap (λ (i : ℕ). answered_with (length (result_bytes transaction vs)) i) z.1, z.0, q)

  -- ---- by what the dry pass found

  pub settle-wrong : (v : Resolved) (w : Walked) (new after : Bytes) (n : ℕ) → w ≡ walked_of v → Wrong ≡ dry_for transaction v (length buffer)
      → Stores g epoch (walked_stores w) old new n → after ≡ replicate (length buffer) 0 → Judged g transaction epoch v old new buffer after (Err BadShape)
  unfolding dry_for walked_stores
  settle-wrong (cause7 ss) w new after n e d f q = judged-wrong ss new after n (subst (λ (u : Walked). Stores g epoch (walked_stores u) old new n) e f) q
  settle-wrong (answered vs ss) w new after n e d f q = go (leb (length (result_bytes transaction vs)) (length buffer)) d
    where
      go : (b : Bool) → Wrong ≡ dry_if b → Judged g transaction epoch (answered vs ss) old new buffer after (Err BadShape)
      go true h = absurd (let z : ◌≡◌ {A = ℕ} 0 1 = cc in omega arith)
      go false h = absurd (let z : ◌≡◌ {A = ℕ} 0 1 = cc in omega arith)

  pub settle-short : (v : Resolved) → Short ≡ dry_for transaction v (length buffer) → Judged g transaction epoch v old old buffer buffer (Err ShortAnswer)
  unfolding dry_for
  settle-short (cause7 ss) d = absurd (let z : ◌≡◌ {A = ℕ} 0 1 = cc in omega arith)
  settle-short (answered vs ss) d = go (leb (length (result_bytes transaction vs)) (length buffer)) refl d
    where
      go : (b : Bool) → leb (length (result_bytes transaction vs)) (length buffer) ≡ b → Short ≡ dry_if b
          → Judged g transaction epoch (answered vs ss) old old buffer buffer (Err ShortAnswer)
      go true e h = absurd (let z : ◌≡◌ {A = ℕ} 0 1 = cc in omega arith)
      go false e h = judged-short vs ss e

  pub settle-fits : (v : Resolved) (w : Walked) (k : ℕ) (new after : Bytes) (n : ℕ) → Many v k → w ≡ walked_of v → Fits ≡ dry_for transaction v (length buffer)
      → Stores g epoch (walked_stores w) old new n → after ≡ put (put buffer 0 (result_head transaction k)) (length (result_head transaction k)) (answer_bytes w)
      → Judged g transaction epoch v old new buffer after (answered_with (length (result_head transaction k) + length (answer_bytes w)) n)
  unfolding dry_for walked_stores
  settle-fits (cause7 ss) w k new after n m e d f q = absurd (let z : ◌≡◌ {A = ℕ} 0 1 = cc in omega arith)
  settle-fits (answered vs ss) w k new after n m e d f q = go (leb (length (result_bytes transaction vs)) (length buffer)) refl d
    where
      H : Bytes
      H = result_head transaction k

      go : (b : Bool) → leb (length (result_bytes transaction vs)) (length buffer) ≡ b → Fits ≡ dry_if b
          → Judged g transaction epoch (answered vs ss) old new buffer after (answered_with (length H + length (answer_bytes w)) n)
      go true h z =
          let i = leb-true (length (result_bytes transaction vs)) (length buffer) h in
          let j : length H + length (encs vs []) ≡ length (result_bytes transaction vs) = result-length transaction vs k m in
          let r : result_bytes transaction vs ≡ H ++ encs vs [] = result-pieces transaction vs ∙ ap (λ (i : ℕ). result_head transaction i ++ encs vs []) m in
          let a : length H + length (answer_bytes w) ≡ length (result_bytes transaction vs) = ap (λ (u : Walked). length H + length (answer_bytes u)) e ∙ j in
          let t : put (put buffer 0 H) (length H) (answer_bytes w) ≡ put buffer 0 (result_bytes transaction vs) =
          ap (λ (u : Walked). put (put buffer 0 H) (length H) (answer_bytes u)) e
          ∙ put-put buffer H (encs vs []) 0 (length H) (omega arith) (omega arith)
          ∙ ap (put buffer 0) (sym r) in
          rw a
          (judged-fits vs ss new after n h (subst (λ (u : Walked). Stores g epoch (walked_stores u) old new n) e f) (q ∙ t))
      go false h z = absurd (let y : ◌≡◌ {A = ℕ} 0 1 = cc in omega arith)

  -- where there is no list, nothing is stored
  pub settle-none : (v : Resolved) (after : Bytes) → v ≡ cause7 [] → after ≡ replicate (length buffer) 0
      → Judged g transaction epoch v old old buffer after (Err BadShape)
  settle-none v after e q = rw e (judged-wrong [] old after 0 (stores-none g epoch old) q)
