-- What the places of a several-key command take, measured place by place: how many wait, how many bytes their nodes take, and how many the keys that wait
-- take as blobs. Assumes nothing.
-- Letters: m what was measured, q a place, s the record's bytes, a the arena's, v several keys, w a key with its command key.
use Rattle.std.specs.Prelude.{◌≡◌, ℕ, ◌+◌, ◌*◌, ◌^◌, ◌≤◌}
use Rattle.std.proofs.Common.{sym}
use Rattle.std.proofs.Math.Path.{ap}
use mathlib.Core.List.{List, [], ◌∷◌}
use native.Mathlib.Omega.{arith}
use Rattle.std.proofs.Math.ListN.{length, length-append}
use Rattle.buffer.specs.Same.{Bytes}
use Rattle.config.specs.Limits.{max_bytes}
use Rattle.config.specs.declared.Settings.{Settings}
use Rattle.format.specs.Lists.{enc_all}
use Rattle.decimal.specs.Digits.{digits}
use Rattle.decimal.specs.DigitLaws.{count-max}
use Rattle.cursor.specs.At.{range_bytes, RangeIn, ArgsHere}
use Rattle.cursor.specs.declared.Args.{Args}
use Rattle.cursor.specs.declared.Range.{Range}
use Rattle.command_key.specs.declared.CommandKey.TheVariants.{Named}
use Rattle.command_key.specs.Key.{key_bytes, KeyIn}
use Rattle.cmd.specs.Pack.{blob, blob_bytes}
use Rattle.cmd.specs.Laws.{blob-length}
use Rattle.book.specs.Book.{Row}
use Rattle.book.specs.Calls.{Wanted}
use Rattle.planning.specs.Outcome.{Place, filled, waiting, missing, part_key}
use Rattle.planning.specs.Sent.{keys_of}
use Rattle.planning.specs.Plan.{served_value, waiting_place, place_nodes, node_bytes, enc_node, served_kind, waiting_kind}
use Rattle.plan_write.specs.Pieces.{length-node, range-short, key-bound}
use Rattle.sharded_lru.specs.Lent.{Lent}
use Rattle.planning_ask.specs.Asked.{simples_of, SeveralIn, KeyStep}
use Rattle.planning_ask.specs.Keys.{part-key}
use Rattle.planning_ask.specs.declared.KeyAt.{KeyAt}
use Rattle.planning_ask.specs.declared.Several.{Several}
use Rattle.planning_places.specs.Pieces.{want_at, place_at}
use Rattle.planning_places.specs.Steps.{places_from, places-none, places-more, enough-more}
use Rattle.planning_places.specs.declared.Measured.{Measured}

-- the nodes of places, as long as they are under any client expiry
abbrev nodes_in : List Place → Bytes
nodes_in ps = enc_all enc_node (place_nodes 0 ps)

-- the keys that wait, as blobs
abbrev keys_in : List Place → Bytes
keys_in ps = blob_bytes (keys_of (missing ps))

-- so much is measured of these places
pub record Measures (ps : List Place) (m : Measured) : Type 0 where
  pub number : m.missing ≡ length (missing ps)
  pub nodes : m.nodes ≡ length (enc_all enc_node (place_nodes 0 ps))
  pub keys : m.keys ≡ length (blob_bytes (keys_of (missing ps)))

-- with one place more
pub record More (m : Measured) (q : Place) (r : Measured) : Type 0 where
  pub number : r.missing ≡ m.missing + length (missing (q ∷ []))
  pub nodes : r.nodes ≡ m.nodes + length (enc_all enc_node (place_nodes 0 (q ∷ [])))
  pub keys : r.keys ≡ m.keys + length (blob_bytes (keys_of (missing (q ∷ []))))

-- a place takes at most 2^32 bytes
pub record Grows (m r : Measured) : Type 0 where
  pub number : r.missing ≤ m.missing + 1
  pub nodes : r.nodes ≤ m.nodes + 2 ^ 32
  pub keys : r.keys ≤ m.keys + 2 ^ 32

-- so n places take at most so many
pub record Bounded (n : ℕ) (m : Measured) : Type 0 where
  pub number : m.missing ≤ n
  pub nodes : m.nodes ≤ n * 2 ^ 32
  pub keys : m.keys ≤ n * 2 ^ 32

-- ---- one place

-- that is filled by n bytes
pub more-filled : (m : Measured) (q : Place) (b : Bytes) (n : ℕ) → q ≡ filled b → n ≡ length b
    → More m q (record { missing = m.missing; nodes = m.nodes + (20 + n); keys = m.keys })
unfolding missing place_nodes keys_of blob_bytes enc_node
more-filled m q b n e l =
    let i = length-node served_kind b [] 0 in
    let j = length-append (node_bytes served_kind b [] 0) [] in
    rw e (record { number = omega arith; nodes = omega arith; keys = omega arith })

-- its key and its command key lie inside
pub part_in : (s : Bytes) (v : Several) (key : Range) → SeveralIn s v → RangeIn s key → length s ≤ max_bytes → KeyIn s (Named v.json key v.path)
unfolding KeyIn
part_in s v key w i h = (i, w.inside, h)

-- that waits for a key, whose text is t
module _ (s : Bytes) (v : Several) (key : Range) (w : SeveralIn s v) (i : RangeIn s key) (t : Bytes) (p : t ≡ range_bytes s key) (n l : ℕ)
    (a : n ≡ 20 + length t + length (key_bytes s (Named v.json key v.path))) (b : l ≡ 5 + length (digits (length t)) + length t) where
  pub more-waiting : (m : Measured) (q : Place) → q ≡ waiting (want_at s v key)
      → More m q (record { missing = m.missing + 1; nodes = m.nodes + n; keys = m.keys + l })
  unfolding missing place_nodes keys_of blob_bytes enc_node part_key
  more-waiting m q e =
      let W : Wanted = want_at s v key in
      let x : length (key_bytes s (Named v.json key v.path)) ≡ length W.command = ap length (sym (part-key s v key w)) in
      let y : length t ≡ length W.key = ap length p in
      let z : length (digits (length t)) ≡ length (digits (length W.key)) = ap (λ (k : ℕ). length (digits k)) y in
      let c = length-node waiting_kind W.key W.command 0 in
      let d = length-append (node_bytes waiting_kind W.key W.command 0) [] in
      let f = blob-length W.key in
      let g = length-append (blob W.key) [] in
      rw e (record { number = omega arith; nodes = omega arith; keys = omega arith })

  pub waiting_few : length s ≤ max_bytes → (n ≤ 2 ^ 32) × (l ≤ 2 ^ 32)
  waiting_few h =
      let c = key-bound s (Named v.json key v.path) (part_in s v key w i h) in
      let d = range-short s key t p i in
      let f = count-max (length t) (omega arith) in
      (omega arith, omega arith)

-- ---- one place after the other

-- what was measured, with the places that are left, comes to all of them
pub record Sums (m : Measured) (ps all : List Place) : Type 0 where
  pub number : m.missing + length (missing ps) ≡ length (missing all)
  pub nodes : m.nodes + length (enc_all enc_node (place_nodes 0 ps)) ≡ length (enc_all enc_node (place_nodes 0 all))
  pub keys : m.keys + length (blob_bytes (keys_of (missing ps))) ≡ length (blob_bytes (keys_of (missing all)))

-- the first place, and the others
sums_first : (m r : Measured) (q : Place) (ps all : List Place) → More m q r → Sums m (q ∷ ps) all → Sums r ps all
unfolding missing place_nodes keys_of blob_bytes
sums_first m r (filled b) ps all w h =
    let i = length-append (enc_node (served_value b)) (nodes_in ps) in
    let j = length-append (enc_node (served_value b)) [] in
    let a = w.number in
    let c = w.nodes in
    let d = w.keys in
    let x = h.number in
    let y = h.nodes in
    let z = h.keys in
    record { number = omega arith; nodes = omega arith; keys = omega arith }
sums_first m r (waiting u) ps all w h =
    let i = length-append (enc_node (waiting_place u 0)) (nodes_in ps) in
    let j = length-append (enc_node (waiting_place u 0)) [] in
    let k = length-append (blob u.key) (keys_in ps) in
    let l = length-append (blob u.key) [] in
    let a = w.number in
    let c = w.nodes in
    let d = w.keys in
    let x = h.number in
    let y = h.nodes in
    let z = h.keys in
    record { number = omega arith; nodes = omega arith; keys = omega arith }

-- before the cursor k so much is measured, and n keys are left behind it
pub record Measuring (g : Settings) (a s : Bytes) (v : Several) (t e : ℕ) (k₀ : Args) (n₀ : ℕ) (k : Args) (n : ℕ) (m : Measured) : Type 0 where
  pub here : ArgsHere s k
  pub enough : n ≤ length (simples_of s k)
  pub bound : (m.missing + n ≤ n₀) × (m.nodes + n * 2 ^ 32 ≤ n₀ * 2 ^ 32) × (m.keys + n * 2 ^ 32 ≤ n₀ * 2 ^ 32)
  pub sums : (rows : ℕ → Row) → Lent g a rows → Sums m (places_from g rows t e s v k n) (places_from g rows t e s v k₀ n₀)

module _ (g : Settings) (a s : Bytes) (v : Several) (t e : ℕ) where
  pub measuring-start : SeveralIn s v → Measuring g a s v t e v.args v.keys v.args v.keys (record { missing = 0; nodes = 0; keys = 0 })
  measuring-start i =
      record {
        here = i.here;
        enough = i.enough;
        bound = (omega arith, omega arith, omega arith);
        sums = λ rows o. record { number = omega arith; nodes = omega arith; keys = omega arith };
      }

  module _ (k₀ : Args) (n₀ : ℕ) where
    -- one key further
    pub measuring-next : (k : Args) (n j : ℕ) (m r : Measured) (f : KeyAt) → n ≡ j + 1 → KeyStep s k f → Grows m r
        → ((rows : ℕ → Row) → Lent g a rows → More m (place_at g rows t e s v f.key) r)
        → Measuring g a s v t e k₀ n₀ k n m → Measuring g a s v t e k₀ n₀ f.rest j r
    measuring-next k n j m r f q i b h w =
        let x = w.bound.0 in
        let y = w.bound.1 in
        let z = w.bound.2 in
        let bm = b.number in
        let bn = b.nodes in
        let bk = b.keys in
        record {
          here = i.here;
          enough = enough-more s k f n j q i w.enough;
          bound = (omega arith, omega arith, omega arith);
          sums = λ rows o.
              sums_first m r (place_at g rows t e s v f.key) (places_from g rows t e s v f.rest j) _ (h rows o)
              (rw (places-more g rows t e s v k f n j q i) at (w.sums rows o));
        }

    -- none is left
    pub measuring-end : (k : Args) (n : ℕ) (m : Measured) → n ≡ 0 → Measuring g a s v t e k₀ n₀ k n m → (rows : ℕ → Row) → Lent g a rows
        → Measures (places_from g rows t e s v k₀ n₀) m
    unfolding missing place_nodes keys_of blob_bytes
    measuring-end k n m q w rows o =
        let h : Sums m [] (places_from g rows t e s v k₀ n₀) = rw (places-none g rows t e s v k n q) at (w.sums rows o) in
        let x = h.number in
        let y = h.nodes in
        let z = h.keys in
        record { number = omega arith; nodes = omega arith; keys = omega arith }

    pub measuring-few : (k : Args) (n : ℕ) (m : Measured) → Measuring g a s v t e k₀ n₀ k n m → Bounded n₀ m
    measuring-few k n m w =
        let x = w.bound.0 in
        let y = w.bound.1 in
        let z = w.bound.2 in
        record { number = omega arith; nodes = omega arith; keys = omega arith }
