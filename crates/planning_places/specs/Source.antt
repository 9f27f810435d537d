-- Where the keys that wait are read from: the nodes of the places that stand in a plan, of which served ones are passed over; or, where every key waits, the
-- record itself. Assumes nothing.
-- Letters: s the bytes read, at a node's place, n how many places, ps places, x client expiry, r what follows, f where they are read from.
use Rattle.std.specs.Prelude.{◌≡◌, refl, cond, Option, None, Some, Ok, List, [], ◌∷◌, ◌++◌, ℕ, zero, suc, ◌+◌, ◌-◌, ◌^◌, ◌≤◌, ◌<◌, length, take, drop, eqb}
use Rattle.std.proofs.Common.{sym, ap, ap₂, ◌∙◌, append_assoc, arith, add-one, ne_eqb}
use Rattle.buffer.specs.Same.{Bytes}
use Rattle.buffer.specs.Field.{read32}
use Rattle.buffer.specs.Part.{part}
use Rattle.buffer.specs.Copied.{Copied, copied_next, copied-room, copied-done, copied-ends}
use Rattle.format.specs.Lists.{enc_all, All}
use Rattle.cursor.specs.At.{range_bytes, RangeIn, ArgsHere}
use Rattle.cursor.specs.declared.Args.{Args}
use Rattle.cursor.specs.declared.Range.{Range}
use Rattle.cmd.specs.Pack.{packed, blob, pttl_texts}
use Rattle.cmd.specs.Laws.{Wrote}
use Rattle.planning.specs.Outcome.{Place, filled, waiting, missing}
use Rattle.planning.specs.Sent.{keys_of}
use Rattle.planning.specs.Kinds.{kind_of_number, kind_found, kind_is}
use Rattle.planning.specs.declared.NodeKind.TheVariants.{Served}
use Rattle.planning.specs.Plan.{place_nodes, node_bytes, enc_node, node_head_size, served_kind, waiting_kind}
use Rattle.plan.specs.Head.{end_at, head_at, HeadIn}
use Rattle.plan.specs.Node.{FitsNode}
use Rattle.plan.specs.There.{kind-there, first-there, second-there, first_part, long-there, rest-there}
use Rattle.plan.specs.declared.NodeHead.{NodeHead}
use Rattle.planning_ask.specs.Asked.{simples_of, KeyStep}
use Rattle.planning_ask.specs.declared.KeyAt.{KeyAt}
use Rattle.planning_places.specs.Pieces.{piece_of, pieces}
use Rattle.planning_places.specs.declared.Piece.{Piece}
use Rattle.planning_places.specs.declared.Piece.TheVariants.{Key, Pttl}
use Rattle.planning_places.specs.declared.Source.{Source}
use Rattle.planning_places.specs.declared.Source.TheVariants.{Nodes, Keys}
use Rattle.planning_places.specs.declared.PlaceAt.{PlaceAt}

-- ---- what is read

-- the keys of the nodes that are not a served value's
unfoldable pub node_keys : Bytes → ℕ → ℕ → List Bytes
node_keys s zero at = []
node_keys s (suc n) at = let rest = node_keys s n (end_at s at) in cond (eqb (read32 s at) served_kind) rest (part s (at + node_head_size) (read32 s (at + 4)) ∷ rest)

-- so many nodes stand there, whole
unfoldable pub NodesIn : Bytes → ℕ → ℕ → Type 0
NodesIn s zero at = Unit {0}
NodesIn s (suc n) at = HeadIn s at × NodesIn s n (end_at s at)

-- the keys that wait among n places
unfoldable pub keys_at : Bytes → Source → ℕ → List Bytes
keys_at s (Nodes at) n = node_keys s n at
keys_at s (Keys k) n = take n (simples_of s k)

-- so many places stand there
unfoldable pub KeysIn : Bytes → Source → ℕ → Type 0
KeysIn s (Nodes at) n = NodesIn s n at
KeysIn s (Keys k) n = ArgsHere s k × (n ≤ length (simples_of s k))

-- ---- one place

-- a place's key lies inside, if it waits
abbrev pub PlaceIn : Bytes → Option Range → Type 0
PlaceIn s None = Unit {0}
PlaceIn s (Some key) = RangeIn s key

-- and stands before the others
abbrev pub key_before : Bytes → Option Range → List Bytes → List Bytes
key_before s None ks = ks
key_before s (Some key) ks = range_bytes s key ∷ ks

-- the next place, of n + 1: its key, if it waits, and where the others are read from
pub record Step (s : Bytes) (f : Source) (n : ℕ) (r : PlaceAt) : Type 0 where
  pub keys : keys_at s f (suc n) ≡ key_before s r.key (keys_at s r.rest n)
  pub inside : PlaceIn s r.key
  pub others : KeysIn s r.rest n

-- a node: what is read of it, by its kind
module _ (s : Bytes) (f : Source) (at n : ℕ) (h : NodeHead) (q : f ≡ Nodes at) (e : h ≡ head_at s at) (w : KeysIn s f (suc n)) where
  others_in : KeysIn s (Nodes h.end) n
  unfolding KeysIn NodesIn head_at
  others_in = rw e (rw q at w).1

  pub served-step : h.kind ≡ Ok Served → Step s f n (record { key = None; rest = Nodes h.end })
  unfolding keys_at node_keys head_at
  served-step k =
      let z : read32 s at ≡ served_kind = kind_is (read32 s at) Served (ap (λ (x : NodeHead). x.kind) (sym e) ∙ k) in
      record { keys = rw (q, e, z); inside = tt; others = others_in }

  pub waiting-step : (h.kind ≡ Ok Served → ⊥) → Step s f n (record { key = Some (record { start = h.first; end = h.second }); rest = Nodes h.end })
  unfolding keys_at KeysIn node_keys NodesIn head_at
  waiting-step k =
      let y : read32 s at ≡ served_kind → ⊥ = λ z. k (ap (λ (x : NodeHead). x.kind) e ∙ ap kind_of_number z ∙ kind_found Served) in
      let z : at + 20 + read32 s (at + 4) - (at + 20) ≡ read32 s (at + 4) = omega arith in
      record {
        keys = rw (q, e, ne_eqb _ _ y) (ap (λ (l : ℕ). part s (at + 20) l ∷ node_keys s n (end_at s at)) (sym z));
        inside = rw e (omega arith, let b : end_at s at ≤ length s = (rw q at w).0.1 in omega arith);
        others = others_in;
      }

-- a head stands there
pub node_in : (s : Bytes) (f : Source) (at : ℕ) → f ≡ Nodes at → KeysIn s f 1 → HeadIn s at
unfolding KeysIn NodesIn
node_in s f at q w = (rw q at w).0

-- a key of the record
pub key_step : (s : Bytes) (f : Source) (k : Args) (n : ℕ) (r : KeyAt) → f ≡ Keys k → KeyStep s k r → KeysIn s f (suc n)
    → Step s f n (record { key = Some r.key; rest = Keys r.rest })
unfolding keys_at KeysIn
key_step s f k n r q i w =
    let l = ap length i.is in
    let v : ArgsHere s k × (suc n ≤ length (simples_of s k)) = rw q at w in
    let b = v.1 in
    record { keys = rw (q, i.is); inside = i.inside; others = (i.here, omega arith) }

pub key_in : (s : Bytes) (f : Source) (k : Args) → f ≡ Keys k → KeysIn s f 1 → ArgsHere s k × (0 < length (simples_of s k))
unfolding KeysIn
key_in s f k q w = rw q at w

-- where more stand, one does
pub one_in : (s : Bytes) (f : Source) (n : ℕ) → KeysIn s f (suc n) → KeysIn s f 1
unfolding KeysIn NodesIn
one_in s (Nodes at) n w = (w.0, tt)
one_in s (Keys k) n w = let b = w.1 in (w.0, omega arith)

-- ---- one place after the other

-- what is written of a place
abbrev pub piece_at : Piece → Bytes → Option Range → Bytes
piece_at what s None = []
piece_at what s (Some key) = piece_of what (range_bytes s key)

-- of one that is served, and of one that waits
module _ (what : Piece) (s : Bytes) (o : Option Range) where
  pub piece-served : o ≡ None → piece_at what s o ≡ []
  piece-served q = rw q

  module _ (key : Range) (q : o ≡ Some key) where
    pub piece-key : what ≡ Key → piece_at what s o ≡ blob (range_bytes s key)
    unfolding piece_of
    piece-key e = rw (q, e)

    pub piece-pttl : what ≡ Pttl → piece_at what s o ≡ packed (pttl_texts (range_bytes s key))
    unfolding piece_of
    piece-pttl e = rw (q, e)

module _ (what : Piece) (s : Bytes) where
  -- none are left
  keys_none : (f : Source) (n : ℕ) → n ≡ 0 → pieces what (keys_at s f n) ≡ []
  unfolding keys_at node_keys
  keys_none (Nodes at) n q = rw q
  keys_none (Keys k) n q = rw q

  -- the first, and the others
  keys-more : (f : Source) (n m : ℕ) (r : PlaceAt) → n ≡ m + 1 → Step s f m r
      → pieces what (keys_at s f n) ≡ piece_at what s r.key ++ pieces what (keys_at s r.rest m)
  keys-more f n m r q w = ap (λ (k : ℕ). pieces what (keys_at s f k)) (q ∙ add-one m) ∙ ap (pieces what) w.keys ∙ by r.key
    where
      by : (o : Option Range) → pieces what (key_before s o (keys_at s r.rest m)) ≡ piece_at what s o ++ pieces what (keys_at s r.rest m)
      by None = refl
      by (Some key) = refl

  module _ (d₀ all d : Bytes) (to next : ℕ) (f : Source) (r : PlaceAt) (n m : ℕ) (q : n ≡ m + 1) (w : Step s f m r)
      (c : Copied d₀ to all d next (pieces what (keys_at s f n))) where
    -- room for the first
    pub keys-room : next + length (piece_at what s r.key) ≤ length d
    keys-room =
        copied-room d₀ all d (piece_at what s r.key) (pieces what (keys_at s f n)) (pieces what (keys_at s r.rest m)) to next
        (keys-more f n m r q w) c

    -- it is written
    pub keys_step : (d₁ : Bytes) (e : ℕ) → Wrote d next (piece_at what s r.key) d₁ e
        → Copied d₀ to all d₁ e (pieces what (keys_at s r.rest m))
    keys_step d₁ e h =
        copied_next d₀ all d d₁ (piece_at what s r.key) (pieces what (keys_at s f n))
        (pieces what (keys_at s r.rest m)) to next e (keys-more f n m r q w) h.ends h.is c

  -- all are written
  pub keys-done : (d₀ all d : Bytes) (to next : ℕ) (f : Source) (n : ℕ) → n ≡ 0 → Copied d₀ to all d next (pieces what (keys_at s f n)) → Wrote d₀ to all d next
  keys-done d₀ all d to next f n q c =
      let z = keys_none f n q in
      record { ends = copied-ends d₀ all d _ to next z c; is = copied-done d₀ all d _ to next z c }

-- ---- nodes that were written are read

-- a place's parts fit their widths
unfoldable pub FitsPlace : Place → Type 0
FitsPlace (filled b) = length b < 2 ^ 32
FitsPlace (waiting w) = (length w.key < 2 ^ 32) × (length w.command < 2 ^ 32)

-- where the nodes of places stand, the keys that are read are those that wait
pub keys-held : (s : Bytes) (x : ℕ) → x < 2 ^ 64 → (ps : List Place) (at : ℕ) (r : Bytes) → All FitsPlace ps → drop at s ≡ enc_all enc_node (place_nodes x ps) ++ r
    → (node_keys s (length ps) at ≡ keys_of (missing ps)) × NodesIn s (length ps) at
unfolding node_keys NodesIn FitsPlace place_nodes missing keys_of enc_node
keys-held s x h [] at r f q = (refl, tt)
keys-held s x h (filled b ∷ ps) at r f q =
    let N : Bytes = enc_all enc_node (place_nodes x ps) in
    let w : FitsNode served_kind b [] 0 = record { kind = omega arith; first = f.0; second = omega arith; number = omega arith } in
    let p : drop at s ≡ node_bytes served_kind b [] 0 ++ (N ++ r) = q ∙ append_assoc (node_bytes served_kind b [] 0) N r in
    let k = kind-there s at served_kind b [] 0 (N ++ r) w p in
    let l = first-there s at served_kind b [] 0 (N ++ r) w p in
    let m = second-there s at served_kind b [] 0 (N ++ r) w p in
    let g = long-there s at served_kind b [] 0 (N ++ r) w p in
    let d = rest-there s at served_kind b [] 0 (N ++ r) w p in
    let e : at + 20 + length b + 0 ≡ end_at s at = omega arith in
    let i = keys-held s x h ps (end_at s at) r f.1 (ap (λ (n : ℕ). drop n s) (sym e) ∙ d) in
    (rw k i.0, ((omega arith, omega arith), i.1))
keys-held s x h (waiting u ∷ ps) at r f q =
    let N : Bytes = enc_all enc_node (place_nodes x ps) in
    let w : FitsNode waiting_kind u.key u.command x = record { kind = omega arith; first = f.0.0; second = f.0.1; number = h } in
    let p : drop at s ≡ node_bytes waiting_kind u.key u.command x ++ (N ++ r) = q ∙ append_assoc (node_bytes waiting_kind u.key u.command x) N r in
    let k = kind-there s at waiting_kind u.key u.command x (N ++ r) w p in
    let l = first-there s at waiting_kind u.key u.command x (N ++ r) w p in
    let m = second-there s at waiting_kind u.key u.command x (N ++ r) w p in
    let g = long-there s at waiting_kind u.key u.command x (N ++ r) w p in
    let d = rest-there s at waiting_kind u.key u.command x (N ++ r) w p in
    let y = first_part s at waiting_kind u.key u.command x (N ++ r) w p in
    let e : at + 20 + length u.key + length u.command ≡ end_at s at = omega arith in
    let i = keys-held s x h ps (end_at s at) r f.1 (ap (λ (n : ℕ). drop n s) (sym e) ∙ d) in
    (rw k (ap₂ ◌∷◌ (ap (part s (at + 20)) l ∙ y) i.0), ((omega arith, omega arith), i.1))
