-- The test of a node by itself finds exactly the good nodes: where it holds a good node stands there, and where one stands it holds. Assumes nothing.
use Rattle.std.specs.Prelude.{◌≡◌, true, false, Result, Ok, Err, [], ◌∷◌, ◌++◌, ℕ, ◌+◌, ◌-◌, ◌^◌, ◌≤◌, ◌<◌, eqb, length, drop}
use Rattle.std.proofs.Math.Path.{refl}
use Rattle.std.proofs.Common.{sym, ap, ◌∙◌, arith}
use Rattle.std.proofs.Math.Bool.{Bool}
use Rattle.std.proofs.lemmas.Bool.{false≢true}
use borrow.Author.Tests.{eqb-true, leb-true, le-leb}
use Rattle.buffer.specs.Same.{Bytes}
use Rattle.buffer.specs.Field.{le, le32, le64, read_le, read32, read64, Octets}
use Rattle.buffer.specs.FieldLaws.{le_read, read_below}
use Rattle.buffer.specs.Part.{part}
use Rattle.buffer.specs.PartLaws.{length_part, drop-part}
use Rattle.config.specs.Limits.{max_key, max_command_key, max_arguments}
use Rattle.resp3.specs.Ends.{is_value}
use Rattle.resp3.proofs.Law.{value-law}
use Rattle.planning.specs.Plan.{Node, hand_on, served_value, all_served, missing_key, several, waiting_place, end_of_several, node_bytes, enc_node}
use Rattle.planning.specs.Plan.{served_kind, missing_kind, waiting_kind}
use Rattle.planning.specs.Kinds.{kind_of_number, kind_is}
use Rattle.planning.specs.declared.NodeKind.{NodeKind}
use Rattle.planning.specs.declared.NodeKind.TheVariants.{HandOn, Served, AllServed, Missing, Several, Waiting, End}
use Rattle.planning.specs.declared.UnknownKind.{UnknownKind}
use Rattle.planning.specs.Rules.{GoodNode}
use Rattle.plan.specs.Head.{head_at, end_at, HeadIn}
use Rattle.plan.specs.Node.{kind_of, first_of, second_of, number_of, node-defs}
use Rattle.plan.specs.There.{node-then, NodeAt, head_of, node_law}
use Rattle.plan_check.specs.Check.{whole_at, empty_fine, value_fine, places_fine, key_fine, kind_fine, head_fine}
use Rattle.plan_check.specs.Paths.{both_yes, whole_says}

-- ---- where the test holds, a good node stands

-- whole nodes are written by their heads
module _ (s : Bytes) (octets : Octets s) where
  -- a field and what follows it
  pub field-then : (w at : ℕ) → at + w ≤ length s → drop at s ≡ le w (read_le w s at) ++ drop (at + w) s
  field-then w at h = drop-part s at w ∙ ap (λ (l : Bytes). l ++ drop (at + w) s) (sym (le_read w s at octets h))

  node-bytes : (at a b : ℕ) → HeadIn s at → read32 s (at + 4) ≡ a → read32 s (at + 8) ≡ b
      → drop at s ≡ node_bytes (read32 s at) (part s (at + 20) a) (part s (at + 20 + a) b) (read64 s (at + 12)) ++ drop (at + 20 + a + b) s
  node-bytes at a b h i j =
      let h₁ = h.1 in
      let A : Bytes = part s (at + 20) a in
      let B : Bytes = part s (at + 20 + a) b in
      let la : length A ≡ a = length_part s (at + 20) a (omega arith) in
      let lb : length B ≡ b = length_part s (at + 20 + a) b (omega arith) in
      let p₁ : at + 4 + 4 ≡ at + 8 = omega arith in
      let p₂ : at + 8 + 4 ≡ at + 12 = omega arith in
      let p₃ : at + 12 + 8 ≡ at + 20 = omega arith in
      let d₁ : drop at s ≡ le32 (read32 s at) ++ drop (at + 4) s = field-then 4 at (omega arith) in
      let d₂ : drop (at + 4) s ≡ le32 (read32 s (at + 4)) ++ drop (at + 4 + 4) s = field-then 4 (at + 4) (omega arith) in
      let d₃ : drop (at + 8) s ≡ le32 (read32 s (at + 8)) ++ drop (at + 8 + 4) s = field-then 4 (at + 8) (omega arith) in
      let d₄ : drop (at + 12) s ≡ le64 (read64 s (at + 12)) ++ drop (at + 12 + 8) s = field-then 8 (at + 12) (omega arith) in
      cc (drop-part s (at + 20) a, drop-part s (at + 20 + a) b, node-then (read32 s at) A B (read64 s (at + 12)) (drop (at + 20 + a + b) s))

-- the good node of a kind, with its parts and its number
pub record GoodParts (k : ℕ) (A B : Bytes) (x : ℕ) : Type 0 where
  pub node : Node
  pub good : GoodNode node
  pub is : node_bytes k A B x ≡ enc_node node

none_left : (l : Bytes) → length l ≡ 0 → l ≡ []
none_left [] e = refl
none_left (y ∷ l) e = absurd (omega arith)

module _ (k : ℕ) (A B : Bytes) (x : ℕ) where
  -- no parts
  no-parts : eqb (length A) 0 ≡ true → eqb (length B) 0 ≡ true → (A ≡ []) × (B ≡ [])
  no-parts e f = (none_left A (eqb-true _ _ e), none_left B (eqb-true _ _ f))

  empty-good : (nd : Node) → GoodNode nd → enc_node nd ≡ node_bytes k [] [] 0 → empty_fine (length A) (length B) x ≡ true → GoodParts k A B x
  empty-good nd g e h =
      let t = both_yes _ _ h in
      let u = both_yes _ _ t.1 in
      let n = no-parts t.0 u.0 in
      record { node = nd; good = g; is = rw (n.0, n.1, eqb-true x 0 u.1) (sym e) }

  value-good : k ≡ served_kind → value_fine (length B) x (is_value A) ≡ true → GoodParts k A B x
  unfolding enc_node GoodNode
  value-good e h =
      let t = both_yes _ _ h in
      let u = both_yes _ _ t.1 in
      record { node = served_value A; good = (value-law A).0 u.1; is = rw (e, none_left B (eqb-true _ _ t.0), eqb-true x 0 u.0) }

  places-good : (nd : ℕ → Node) → (x ≤ max_arguments → GoodNode (nd x)) → enc_node (nd x) ≡ node_bytes k [] [] x → places_fine (length A) (length B) x ≡ true
      → GoodParts k A B x
  places-good nd g e h =
      let t = both_yes _ _ h in
      let u = both_yes _ _ t.1 in
      let n = no-parts t.0 u.0 in
      record { node = nd x; good = g (leb-true _ _ u.1); is = rw (n.0, n.1) (sym e) }

  missing-good : k ≡ missing_kind → x < 2 ^ 64 → key_fine (length A) (length B) ≡ true → GoodParts k A B x
  unfolding enc_node GoodNode
  missing-good e l h =
      let t = both_yes _ _ h in
      record {
        node = missing_key (record { key = A; command = B }) x;
        good = (record { key = leb-true _ _ t.0; command = leb-true _ _ t.1 }, l);
        is = rw e;
      }

  waiting-good : k ≡ waiting_kind → x < 2 ^ 64 → key_fine (length A) (length B) ≡ true → GoodParts k A B x
  unfolding enc_node GoodNode
  waiting-good e l h =
      let t = both_yes _ _ h in
      record {
        node = waiting_place (record { key = A; command = B }) x;
        good = (record { key = leb-true _ _ t.0; command = leb-true _ _ t.1 }, l);
        is = rw e;
      }

  -- by the kind
  pub fine-good : x < 2 ^ 64 → kind_fine (kind_of_number k) (length A) (length B) x (is_value A) ≡ true → GoodParts k A B x
  unfolding kind_fine enc_node GoodNode
  fine-good l h = go (kind_of_number k) refl h
    where
      go : (r : Result NodeKind UnknownKind) → kind_of_number k ≡ r → kind_fine r (length A) (length B) x (is_value A) ≡ true → GoodParts k A B x
      go (Ok HandOn) e g = empty-good hand_on tt (rw (kind_is k HandOn e)) g
      go (Ok Served) e g = value-good (kind_is k Served e) g
      go (Ok AllServed) e g = places-good all_served (λ q. q) (rw (kind_is k AllServed e)) g
      go (Ok Missing) e g = missing-good (kind_is k Missing e) l g
      go (Ok Several) e g = places-good several (λ q. q) (rw (kind_is k Several e)) g
      go (Ok Waiting) e g = waiting-good (kind_is k Waiting e) l g
      go (Ok End) e g = empty-good end_of_several tt (rw (kind_is k End e)) g
      go (Err n) e g = absurd (false≢true g)

-- some good node stands at `at`, and what follows it from its end on
pub record Stands (s : Bytes) (at : ℕ) : Type 0 where
  pub node : Node
  pub there : NodeAt s at node (drop (end_at s at) s)

stands_by : (s : Bytes) (at k : ℕ) (A B : Bytes) (x : ℕ) → GoodParts k A B x → drop at s ≡ node_bytes k A B x ++ drop (end_at s at) s → Stands s at
stands_by s at k A B x g e = record { node = g.node; there = record { good = g.good; is = e ∙ ap (λ (l : Bytes). l ++ drop (end_at s at) s) g.is } }

-- where the tests hold
pub fine-stands : (s : Bytes) → Octets s → (at : ℕ) → whole_at s at ≡ true → head_fine s (head_at s at) ≡ true → Stands s at
unfolding head_fine head_at
fine-stands s octets at e f =
    let h = whole_says s at e in
    let h₁ = h.1 in
    let a : ℕ = read32 s (at + 4) in
    let b : ℕ = read32 s (at + 8) in
    let A : Bytes = part s (at + 20) a in
    let B : Bytes = part s (at + 20 + a) b in
    let la : length A ≡ a = length_part s (at + 20) a (omega arith) in
    let lb : length B ≡ b = length_part s (at + 20 + a) b (omega arith) in
    let da : at + 20 + a - (at + 20) ≡ a = omega arith in
    let db : at + 20 + a + b - (at + 20 + a) ≡ b = omega arith in
    let t : kind_fine (kind_of_number (read32 s at)) a b (read64 s (at + 12)) (is_value A) ≡ true = rw (da, db) at f in
    let g = fine-good (read32 s at) A B (read64 s (at + 12)) (read_below 8 s (at + 12) octets) (rw (la, lb) t) in
    stands_by s at (read32 s at) A B (read64 s (at + 12)) g (node-bytes s octets at a b h refl refl)

-- ---- where a good node stands, the test holds

good-fine : (nd : Node) → GoodNode nd → kind_fine (kind_of_number (kind_of nd)) (length (first_of nd)) (length (second_of nd)) (number_of nd) (is_value (first_of nd)) ≡ true
unfolding node-defs kind_fine kind_of_number GoodNode
good-fine hand_on g = refl
good-fine (served_value v) g = (value-law v).1 g
good-fine (all_served n) g = le-leb n max_arguments g
good-fine (missing_key w x) g = rw (le-leb (length w.key) max_key g.0.key) (le-leb (length w.command) max_command_key g.0.command)
good-fine (several n) g = le-leb n max_arguments g
good-fine (waiting_place w x) g = rw (le-leb (length w.key) max_key g.0.key) (le-leb (length w.command) max_command_key g.0.command)
good-fine end_of_several g = refl

pub stands-fine : (s : Bytes) (at : ℕ) (nd : Node) (r : Bytes) → NodeAt s at nd r → (whole_at s at ≡ true) × (head_fine s (head_at s at) ≡ true)
unfolding whole_at head_fine head_of
stands-fine s at nd r n =
    let h = node_law s at nd r n in
    let a : ℕ = length (first_of nd) in
    let b : ℕ = length (second_of nd) in
    let da : at + 20 + a - (at + 20) ≡ a = omega arith in
    let db : at + 20 + a + b - (at + 20 + a) ≡ b = omega arith in (
      rw (le-leb (at + 20) (length s) h.inside.0) (le-leb (end_at s at) (length s) h.inside.1),
      rw (h.head, da, db, h.first) (good-fine nd n.good),
    )
