-- The start of a plan: where its test holds, the bytes are a plan exactly if the walk from the first node finds the nodes that have to follow; where it does
-- not, they are none. And the walk as a whole: what is known wherever it has come to. Assumes nothing.
use Rattle.std.specs.Prelude.{◌≡◌, refl, None, Some, Bool, true, false, cond, ◌∷◌, ◌++◌, ℕ, zero, suc, ◌≤◌, ◌<◌, length, get_or, drop, eqb}
use Rattle.std.proofs.Common.{sym, ap, ap₂, ◌∙◌, arith, length-append, drop-cons, leb-true, le-leb}
use Rattle.std.proofs.lemmas.Bool.{false≢true}
use Rattle.buffer.specs.Cases.{by_test}
use Rattle.buffer.specs.Same.{Bytes, same}
use Rattle.buffer.specs.SameLaws.{same-eq}
use Rattle.buffer.specs.Field.{le32, read32, Octets}
use Rattle.buffer.specs.FieldLaws.{length-le}
use Rattle.buffer.specs.Part.{part}
use Rattle.buffer.specs.PartLaws.{drop-part}
use Rattle.config.specs.Limits.{max_commands}
use Rattle.format.specs.Lists.{enc_all}
use Rattle.resp3.specs.Value.{encode, null_bytes}
use Rattle.planning.specs.Plan.{enc_node, enc_plan, plan_head_size, null_start}
use Rattle.planning.specs.Rules.{values_then, ordered, IsPlan}
use Rattle.plan.specs.Decode.{is_plan}
use Rattle.plan.proofs.Law.{read-start, plan-law}
use Rattle.plan_check.specs.declared.Walk.{Walk}
use Rattle.plan_check.specs.Check.{walked_past, finished, start_fine, start_at}
use Rattle.plan_check.specs.Paths.{both_yes}
use Rattle.plan_check.specs.Nodes.{field-then}
use Rattle.plan_check.specs.Order.{ordered_by, ordered_at}
use Rattle.plan_check.specs.Law.{Rest, step-to, step-refused, end-yes, end-no}

-- ---- what the test of the start says

pub record StartSays (s : Bytes) : Type 0 where
  pub long : plan_head_size ≤ length s
  pub flags : get_or s 0 0 ≤ 1
  pub null-bytes : part s null_start 3 ≡ null_bytes
  pub count : read32 s 4 ≤ max_commands

pub start-says : (s : Bytes) → start_fine s ≡ true → StartSays s
unfolding start_fine
start-says s e =
    let t = both_yes _ _ e in
    let u = both_yes _ _ t.1 in
    let v = both_yes _ _ u.1 in
    record { long = leb-true _ _ t.0; flags = leb-true _ _ u.0; null-bytes = same-eq _ _ v.0; count = leb-true _ _ v.1 }

-- flags are those of a transaction, or of none
flags_of : (n : ℕ) → n ≤ 1 → n ≡ cond (eqb n 1) 1 0
flags_of zero h = refl
flags_of (suc zero) h = refl
flags_of (suc (suc n)) h = absurd (omega arith)

-- the bytes, in pieces
start-bytes : (s : Bytes) → Octets s → StartSays s → s ≡ cond (eqb (get_or s 0 0) 1) 1 0 ∷ (null_bytes ++ (le32 (read32 s 4) ++ drop plan_head_size s))
start-bytes s octets q =
    let l = q.long in
    let a : drop 0 s ≡ get_or s 0 0 ∷ drop 1 s = drop-cons s 0 0 (omega arith) in
    let b : drop 1 s ≡ part s null_start 3 ++ drop 4 s = drop-part s null_start 3 in
    let c : drop 4 s ≡ le32 (read32 s 4) ++ drop plan_head_size s = field-then s octets 4 4 l in
    let n : part s null_start 3 ≡ null_bytes = q.null-bytes in
    let f : get_or s 0 0 ≡ cond (eqb (get_or s 0 0) 1) 1 0 = flags_of (get_or s 0 0) q.flags in
    a ∙ ap₂ (λ (x : ℕ) (y : Bytes). x ∷ y) f (b ∙ ap₂ (λ (x y : Bytes). x ++ y) n c)

-- ---- the start of a plan that was written

cond-flags : (b : Bool) → cond b 1 0 ≤ 1
cond-flags true = omega arith
cond-flags false = omega arith

written_start : (f c : ℕ) (r : Bytes) → f ≤ 1 → c ≤ max_commands → start_fine (f ∷ (null_bytes ++ (le32 c ++ r))) ≡ true
unfolding start_fine encode part same
written_start f c r h i =
    let t : Bytes = f ∷ (null_bytes ++ (le32 c ++ r)) in
    let g = read-start f c r i in
    let l : plan_head_size ≤ length t = let k = length-append (le32 c) r in let m = length-le 4 c in omega arith in
    rw (le-leb plan_head_size (length t) l, le-leb f 1 h, g.count) (le-leb c max_commands i)

pub plan-start : (s : Bytes) → IsPlan s → start_fine s ≡ true
unfolding enc_plan
plan-start s w =
    ap start_fine w.is
    ∙ written_start (cond w.plan.transaction 1 0) w.plan.commands (enc_all enc_node w.plan.nodes) (cond-flags w.plan.transaction) w.good.count

-- ---- the walk

-- what is known where the walk has come to: the bytes are a plan exactly if what is left there is what has to follow
pub record Reached (s : Bytes) (w : Walk) : Type 0 where
  pub inside : w.at ≤ length s
  pub ahead : IsPlan s → Rest s w
  pub back : Rest s w → IsPlan s

pub walk-starts : (s : Bytes) → Octets s → start_fine s ≡ true → Reached s (start_at s)
unfolding ordered_at ordered_by values_then enc_plan
walk-starts s octets e = record { inside = q.long; ahead = on; back = off }
  where
    q : StartSays s
    q = start-says s e

    on : IsPlan s → Rest s (start_at s)
    on w =
        let p = w.plan in
        let g = read-start (cond p.transaction 1 0) p.commands (enc_all enc_node p.nodes) w.good.count in
        let c : read32 s 4 ≡ p.commands = ap (λ (t : Bytes). read32 t 4) w.is ∙ g.count in
        record {
          nodes = p.nodes;
          good = w.good.each;
          order = ap (λ (n : ℕ). ordered n p.nodes) c ∙ w.good.order;
          is = ap (λ (t : Bytes). drop plan_head_size t) w.is ∙ g.behind;
        }

    off : Rest s (start_at s) → IsPlan s
    off r =
        record {
          plan = record { transaction = eqb (get_or s 0 0) 1; commands = read32 s 4; nodes = r.nodes };
          good = record { count = q.count; each = r.good; order = r.order };
          is = start-bytes s octets q
              ∙ ap (λ (l : Bytes). cond (eqb (get_or s 0 0) 1) 1 0 ∷ (null_bytes ++ (le32 (read32 s 4) ++ l))) r.is;
        }

-- a step keeps it, and goes on
pub walk-on : (s : Bytes) → Octets s → (w v : Walk) → Reached s w → walked_past s w ≡ Some v → Reached s v × (w.at < v.at)
walk-on s octets w v r e =
    let t = step-to s w octets v e in (record { inside = t.inside; ahead = λ p. t.ahead (r.ahead p); back = λ q. r.back (t.back q) }, t.more)

-- ---- what the test answers

plan-no : (s : Bytes) → (IsPlan s → ⊥) → is_plan s ≡ false
plan-no s f = by_test (is_plan s) (λ t. absurd (f ((plan-law s).0 t))) (λ t. t)

-- no start
pub check-start : (s : Bytes) → start_fine s ≡ false → is_plan s ≡ false
check-start s e = plan-no s (λ w. false≢true (sym e ∙ plan-start s w))

-- a step that is refused
pub check-refused : (s : Bytes) (w : Walk) → Reached s w → w.at < length s → walked_past s w ≡ None → is_plan s ≡ false
check-refused s w r l e = plan-no s (λ p. step-refused s w l e (r.ahead p))

-- the end
pub check-end : (s : Bytes) (w : Walk) → Reached s w → length s ≤ w.at → finished w ≡ is_plan s
check-end s w r l = go (finished w) refl
  where
    at-end : w.at ≡ length s
    at-end = let i = r.inside in omega arith

    go : (t : Bool) → finished w ≡ t → t ≡ is_plan s
    go true e = sym ((plan-law s).1 (r.back (end-yes s w at-end e)))
    go false e = sym (plan-no s (λ p. end-no s w at-end e (r.ahead p)))
