-- The part of the arena that a function of one shard is lent, and the arena when it is back. Assumes nothing more than `Lent`.
use mathlib.Core.Path.{◌≡◌, sym, ap, ◌∙◌, subst}
use Prim.Native.Nat.{ℕ, suc, ◌+◌, ◌-◌, ◌*◌, ◌≤◌, ◌<◌}
use native.Mathlib.Omega.{arith}
use native.Mathlib.Nat.{mod-lt, mul-le-mul_right}
use mathlib.Core.List.{◌++◌}
use lib.ListN.{length, take, drop}
use lib.Seq.{drop-drop}
use borrow.Rule.Slice.PartMut.{put_mid}
use Rattle.buffer.specs.Same.{Bytes}
use Rattle.buffer.specs.Part.{part, put}
use Rattle.buffer.specs.PartLaws.{length_part}
use Rattle.config.specs.Limits.{max_arena}
use Rattle.config.specs.declared.Settings.{Settings}
use Rattle.siphash.specs.Sip.{sip_hash13}
use Rattle.siphash.specs.Shard.{shard_of}
use Rattle.resp3.specs.Ends.{is_value}
use Rattle.book.specs.Book.{Row, Keyed, on, key_of, set_row}
use Rattle.arena.specs.Layout.{enc_shard}
use Rattle.arena.proofs.Length.{length-shard}
use Rattle.arena.specs.Tests.{FineRow}
use Rattle.arena.specs.SetupOf.{setup_of}
use Rattle.shard.specs.Holds.{Holds, Shard}
use Rattle.sharded_lru.specs.Lent.{setup_now, Lent, Arena, effect_in, rows_after}
use Rattle.sharded_lru.specs.Laws.{proper, ends-within, shard-holds, shard-changed}
use Rattle.sharded_lru.specs.Keeps.{MayStore, fine-effect}

-- a key's shard begins within an arena's bytes
pub start-below : (k : Bytes) (shards bytes : ℕ) → 1 ≤ shards → shards * bytes ≤ max_arena → shard_of k shards * bytes ≤ max_arena
start-below k shards bytes h l =
    let e : suc (shard_of k shards) * bytes ≤ shards * bytes = mul-le-mul_right bytes (mod-lt (sip_hash13 k) h) in omega arith

-- what is lent of a shard that begins at `from`
abbrev pub lent_part : Settings → Bytes → ℕ → Bytes
lent_part g s from = take (from + g.bytes - from) (drop from s)

-- and the arena with other bytes there
abbrev pub back_part : Settings → Bytes → ℕ → Bytes → Bytes
back_part g s from t = put_mid from (from + g.bytes - from) s t

-- which is what it is with them put there
pub back-put : (g : Settings) (s : Bytes) (from : ℕ) (t : Bytes) → length t ≡ g.bytes → back_part g s from t ≡ put s from t
unfolding put
back-put g s from t m =
    let n : from + g.bytes - from ≡ length t = omega arith in
    ap (λ (k : ℕ). take from s ++ (t ++ drop k (drop from s))) n ∙ ap (λ (z : Bytes). take from s ++ (t ++ z)) (drop-drop (length t) from s)

module _ (g : Settings) (s : Bytes) (rows : ℕ → Row) (w : Lent g s rows) where
  module _ (i from : ℕ) (h : i < g.shards) (a : from ≡ i * g.bytes) where
    pub lent-within : from + g.bytes ≤ length s
    lent-within = let z = ends-within g s rows w i h in omega arith

    is-part : lent_part g s from ≡ part s (i * g.bytes) g.bytes
    unfolding part
    is-part = let n : from + g.bytes - from ≡ g.bytes = omega arith in cc

    lent-long : length (lent_part g s from) ≡ g.bytes
    lent-long = ap length is-part ∙ length_part s (i * g.bytes) g.bytes (ends-within g s rows w i h)

    -- it holds the shard's row
    pub lent-holds : Holds (lent_part g s from) (rows i)
    lent-holds = subst (λ (t : Bytes). Holds t (rows i)) (sym is-part) (shard-holds g s rows w i h)

    -- as long as any fine row's bytes
    pub back_long : (row : Row) (t : Bytes) → FineRow is_value (setup_now g) i row → t ≡ enc_shard (length (lent_part g s from)) row → length t ≡ g.bytes
    unfolding setup_of
    back_long row t f e =
        let light = f.sound.light in
        let least = w.least in
        ap length (e ∙ ap (λ (n : ℕ). enc_shard n row) lent-long) ∙ length-shard g.bytes row (omega arith)

    -- and when those come back, the arena is the image of the rows with that one
    pub lent_back : (row : Row) (t : Bytes) → FineRow is_value (setup_now g) i row → t ≡ enc_shard (length (lent_part g s from)) row
        → Lent g (back_part g s from t) (set_row i row rows)
    lent_back row t f e =
        let b : t ≡ enc_shard g.bytes row = e ∙ ap (λ (n : ℕ). enc_shard n row) lent-long in
        let d : put s (i * g.bytes) (enc_shard g.bytes row) ≡ back_part g s from t =
        sym (back-put g s from t (back_long row t f e) ∙ ap (λ (k : ℕ). put s k t) a ∙ ap (put s (i * g.bytes)) b) in
        subst (λ (z : Bytes). Lent g z (set_row i row rows)) d (shard-changed g s rows w i h row f)

  -- the same of a key's shard
  module _ (k : Bytes) (from : ℕ) (a : from ≡ shard_of k g.shards * g.bytes) where
    abbrev home : ℕ
    home = shard_of k g.shards

    home-in : home < g.shards
    home-in = mod-lt (sip_hash13 k) w.some

    pub home_ends : from + g.bytes ≤ length s
    home_ends = lent-within home from home-in a

    pub key-long : length (lent_part g s from) ≡ g.bytes
    key-long = lent-long home from home-in a

    pub key-holds : Holds (lent_part g s from) (rows (shard_of k g.shards))
    key-holds = lent-holds home from home-in a

  -- and when the bytes of its row after an event come back, the arena is the image of the rows after that event
  module _ (q : Keyed) (from : ℕ) (a : from ≡ shard_of (key_of q) g.shards * g.bytes) (m : MayStore q) (t : Bytes)
      (e : t ≡ enc_shard (length (lent_part g s from)) (effect_in (setup_now g) q rows).row) where
    here_in : shard_of (key_of q) g.shards < g.shards
    here_in = mod-lt (sip_hash13 (key_of q)) w.some

    fine : FineRow is_value (setup_now g) (shard_of (key_of q) g.shards) (effect_in (setup_now g) q rows).row
    unfolding setup_of
    fine = fine-effect (setup_now g) (proper g s rows w).some_key q _ m (w.image.formed.fine (shard_of (key_of q) g.shards))

    pub key-back-long : length t ≡ g.bytes
    key-back-long = back_long (shard_of (key_of q) g.shards) from here_in a (effect_in (setup_now g) q rows).row t fine e

    pub key_back : Lent g (back_part g s from t) (rows_after (setup_now g) (on q) rows)
    unfolding setup_of rows_after
    key_back = lent_back (shard_of (key_of q) g.shards) from here_in a (effect_in (setup_now g) q rows).row t fine e

-- what is known before the rows are given: the bounds, and that the part is some row's
module _ (g : Settings) (s : Bytes) (w : Arena g s) (k : Bytes) (from : ℕ) (a : from ≡ shard_of k g.shards * g.bytes) where
  pub key-ends : from + g.bytes ≤ length s
  key-ends = home_ends g s w.rows w.lent k from a

  pub key_below : from + g.bytes ≤ max_arena
  key_below = let z = key-ends in let l = w.lent.largest in omega arith

  pub key-shard : Shard (lent_part g s from)
  key-shard = record { row = w.rows (shard_of k g.shards); holds = key-holds g s w.rows w.lent k from a }

-- all shards together are within an arena's bytes
pub shards-below : (g : Settings) (s : Bytes) → Arena g s → (1 ≤ g.shards) × (g.shards * g.bytes ≤ max_arena)
shards-below g s w = let a = w.lent.inside in let b = w.lent.largest in (w.lent.some, omega arith)
