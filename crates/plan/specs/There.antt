-- A node that was written is read: where the bytes of a good node stand, the head there says its kind, its parts and its number. Assumes nothing.
use Rattle.std.specs.Prelude.{◌≡◌, refl, ℕ, ◌+◌, ◌≤◌, length, drop}
use Rattle.std.proofs.Common.{sym, ap, ◌∙◌, arith, length-append, length-drop, drop-drop, get_or-drop, drop_at}
use mathlib.Core.List.{◌++◌, append_assoc}
use Rattle.buffer.specs.Same.{Bytes}
use Rattle.buffer.specs.Field.{le32, le64, read_le, read32, read64}
use Rattle.buffer.specs.FieldLaws.{length-le, read_past, read_here, read-agree}
use Rattle.buffer.specs.Lists.{drop_past}
use Rattle.buffer.specs.Part.{part}
use Rattle.buffer.specs.PartLaws.{part-drop}
use Rattle.planning.specs.Kinds.{kind_of_number}
use Rattle.planning.specs.Plan.{Node, node_head_size, node_bytes, enc_node}
use Rattle.planning.specs.Rules.{GoodNode}
use Rattle.plan.specs.declared.NodeHead.{NodeHead}
use Rattle.plan.specs.Head.{head_at, end_at, HeadIn}
use Rattle.plan.specs.Node.{kind_of, first_of, second_of, number_of, node-is, FitsNode, good-fits}

-- ---- reading from a place on

-- a field of what stands from a place on
pub read-drop : (w : ℕ) (s : Bytes) (at k : ℕ) → read_le w s (at + k) ≡ read_le w (drop at s) k
read-drop w s at k =
    read-agree w s (drop at s) (at + k) k (λ i h. let e : at + (k + i) ≡ at + k + i = omega arith in cc (get_or-drop at s (k + i) 0))

-- the bytes of a node before what follows, field by field
module _ (k : ℕ) (a b : Bytes) (x : ℕ) (r : Bytes) where
  pub node-then : node_bytes k a b x ++ r ≡ le32 k ++ (le32 (length a) ++ (le32 (length b) ++ (le64 x ++ (a ++ (b ++ r)))))
  unfolding node_bytes
  node-then =
      cc (
        append_assoc (le32 k) (le32 (length a) ++ (le32 (length b) ++ (le64 x ++ (a ++ b)))) r,
        append_assoc (le32 (length a)) (le32 (length b) ++ (le64 x ++ (a ++ b))) r,
        append_assoc (le32 (length b)) (le64 x ++ (a ++ b)) r,
        append_assoc (le64 x) (a ++ b) r,
        append_assoc a b r,
      )

  -- what the fields are, and what stands behind them
  pub record Fields (t : Bytes) : Type 0 where
    pub kind : read32 t 0 ≡ k
    pub first : read32 t 4 ≡ length a
    pub second : read32 t 8 ≡ length b
    pub number : read64 t 12 ≡ x
    pub behind : drop node_head_size t ≡ a ++ (b ++ r)

  pub fields : FitsNode k a b x → Fields (node_bytes k a b x ++ r)
  fields f = rw node-then (record { kind = here; first = second-field; second = third-field; number = last-field; behind = all-behind })
    where
      Y₄ : Bytes
      Y₄ = a ++ (b ++ r)

      Y₃ : Bytes
      Y₃ = le64 x ++ Y₄

      Y₂ : Bytes
      Y₂ = le32 (length b) ++ Y₃

      Y₁ : Bytes
      Y₁ = le32 (length a) ++ Y₂

      here : read32 (le32 k ++ Y₁) 0 ≡ k
      here = read_here 4 k Y₁ f.kind

      second-field : read32 (le32 k ++ Y₁) 4 ≡ length a
      second-field = read_past 4 (le32 k) Y₁ 4 0 (length-le 4 k) ∙ read_here 4 (length a) Y₂ f.first

      third-field : read32 (le32 k ++ Y₁) 8 ≡ length b
      third-field =
          read_past 4 (le32 k) Y₁ 4 4 (length-le 4 k) ∙ read_past 4 (le32 (length a)) Y₂ 4 0 (length-le 4 (length a)) ∙ read_here 4 (length b) Y₃ f.second

      last-field : read64 (le32 k ++ Y₁) 12 ≡ x
      last-field =
          read_past 8 (le32 k) Y₁ 4 8 (length-le 4 k) ∙ read_past 8 (le32 (length a)) Y₂ 4 4 (length-le 4 (length a))
          ∙ read_past 8 (le32 (length b)) Y₃ 4 0 (length-le 4 (length b)) ∙ read_here 8 x Y₄ f.number

      all-behind : drop node_head_size (le32 k ++ Y₁) ≡ Y₄
      all-behind =
          drop_past (le32 k) Y₁ 4 16 (length-le 4 k) ∙ drop_past (le32 (length a)) Y₂ 4 12 (length-le 4 (length a))
          ∙ drop_past (le32 (length b)) Y₃ 4 8 (length-le 4 (length b)) ∙ drop_at (le64 x) Y₄ 8 (length-le 8 x)

-- ---- the node that stands at a place

-- the bytes of the node nd stand at `at`, and r is what follows them
pub record NodeAt (s : Bytes) (at : ℕ) (nd : Node) (r : Bytes) : Type 0 where
  pub good : GoodNode nd
  pub is : drop at s ≡ enc_node nd ++ r

-- the head that is then read
unfoldable pub head_of : ℕ → Node → NodeHead
head_of at nd =
    record {
      kind = kind_of_number (kind_of nd);
      first = at + node_head_size;
      second = at + node_head_size + length (first_of nd);
      end = at + node_head_size + length (first_of nd) + length (second_of nd);
      number = number_of nd;
    }

-- what is known of a node that stands at a place: its head, its parts as parts of the bytes, and what follows it
pub record Told (s : Bytes) (at : ℕ) (nd : Node) (r : Bytes) : Type 0 where
  pub inside : HeadIn s at
  pub head : head_at s at ≡ head_of at nd
  pub kind : read32 s at ≡ kind_of nd
  pub ends : end_at s at ≡ at + node_head_size + length (first_of nd) + length (second_of nd)
  pub long : at + node_head_size + length (first_of nd) + length (second_of nd) ≤ length s
  pub first : part s (at + node_head_size) (length (first_of nd)) ≡ first_of nd
  pub second : part s (at + node_head_size + length (first_of nd)) (length (second_of nd)) ≡ second_of nd
  pub rest : drop (at + node_head_size + length (first_of nd) + length (second_of nd)) s ≡ r

module _ (s : Bytes) (at : ℕ) (k : ℕ) (a b : Bytes) (x : ℕ) (r : Bytes) (f : FitsNode k a b x) (is : drop at s ≡ node_bytes k a b x ++ r) where
  -- the fields that stand there
  there : Fields k a b x r (drop at s)
  there = rw is (fields k a b x r f)

  pub kind-there : read32 s at ≡ k
  kind-there = let z : at + 0 ≡ at = omega arith in cc (read-drop 4 s at 0, there.kind)

  pub first-there : read32 s (at + 4) ≡ length a
  first-there = read-drop 4 s at 4 ∙ there.first

  pub second-there : read32 s (at + 8) ≡ length b
  second-there = read-drop 4 s at 8 ∙ there.second

  pub number-there : read64 s (at + 12) ≡ x
  number-there = read-drop 8 s at 12 ∙ there.number

  -- the parts, from their place on
  parts-there : drop (at + node_head_size) s ≡ a ++ (b ++ r)
  parts-there = sym (drop-drop node_head_size at s) ∙ there.behind

  pub long-there : at + node_head_size + length a + length b ≤ length s
  long-there =
      let e = node-then k a b x r in
      let l : length (drop at s) ≡ node_head_size + (length a + (length b + length r)) =
      ap length (is ∙ e)
      ∙ simp (length-append, length-le 4 k, length-le 4 (length a), length-le 4 (length b), length-le 8 x) (omega arith) in
      omega (arith, length-drop at s)

  pub first_part : part s (at + node_head_size) (length a) ≡ a
  first_part = (part-drop s a (b ++ r) (at + node_head_size) (length a) parts-there refl).0

  second-drop : drop (at + node_head_size + length a) s ≡ b ++ r
  second-drop = (part-drop s a (b ++ r) (at + node_head_size) (length a) parts-there refl).1

  pub second-part : part s (at + node_head_size + length a) (length b) ≡ b
  second-part = (part-drop s b r (at + node_head_size + length a) (length b) second-drop refl).0

  pub rest-there : drop (at + node_head_size + length a + length b) s ≡ r
  rest-there = (part-drop s b r (at + node_head_size + length a) (length b) second-drop refl).1

-- a node that was written is read
pub node_law : (s : Bytes) (at : ℕ) (nd : Node) (r : Bytes) → NodeAt s at nd r → Told s at nd r
unfolding head_at head_of
node_law s at nd r h =
    let f = good-fits nd h.good in
    let a : Bytes = first_of nd in
    let b : Bytes = second_of nd in
    let is : drop at s ≡ node_bytes (kind_of nd) a b (number_of nd) ++ r = h.is ∙ ap (λ (l : Bytes). l ++ r) (node-is nd) in
    let k = kind-there s at (kind_of nd) a b (number_of nd) r f is in
    let x = number-there s at (kind_of nd) a b (number_of nd) r f is in
    let i : read32 s (at + 4) ≡ length a = first-there s at (kind_of nd) a b (number_of nd) r f is in
    let j : read32 s (at + 8) ≡ length b = second-there s at (kind_of nd) a b (number_of nd) r f is in
    let l = long-there s at (kind_of nd) a b (number_of nd) r f is in
    record {
      inside = (omega arith, omega arith);
      head = rw (k, x, i, j);
      kind = k;
      ends = omega arith;
      long = l;
      first = first_part s at (kind_of nd) a b (number_of nd) r f is;
      second = second-part s at (kind_of nd) a b (number_of nd) r f is;
      rest = rest-there s at (kind_of nd) a b (number_of nd) r f is;
    }
