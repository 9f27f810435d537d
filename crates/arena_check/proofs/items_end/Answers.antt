-- `arena_check::items_end` meets its contract. The loop's invariant: the items walked so far. Assumes nothing.
use mathlib.Core.Path.{◌≡◌, refl, sym, ◌∙◌}
use Prim.Native.Nat.{ℕ, ◌≤◌}
use native.Mathlib.Omega.{arith}
use mathlib.Core.Bool.{Bool, true, false}
use Rattle.std.specs.Prelude.{Some}
use Rattle.buffer.specs.Same.{Bytes}
use Rattle.resp3.specs.Ends.{is_value}
use Rattle.arena_check.specs.Check.{key_at, item_next, item_ok, items_end}
use Rattle.arena_check.specs.Home.{home_in}
use Rattle.arena_check.specs.Chain.{keys_from, Answers}
use Rattle.arena_check.proofs.Items.{within-says, item-outside}
use Rattle.arena_check.proofs.Walks.{Walked, walk_start, walk-done, walk_inside, walk-bad, walk-next, walk-failed, walk-answer}
use Rattle.arena_check.proofs.items_end.Goals as goal

-- items that were all walked, and of which no two have the same key, end where the walk is
ended : (s : Bytes) (shards shard end n at i : ℕ) (r : Bool) → Walked (item_next s) (item_ok is_value (home_in shards) s shard end) end 16 n at i → n ≤ i
    → r ≡ true → Answers (keys_from 32 24 s 16) r n n → Some at ≡ items_end is_value (home_in shards) s shard end n
unfolding items_end
ended s shards shard end n at i r w l e q =
    sym (walk-answer (key_at s) (item_next s) (item_ok is_value (home_in shards) s shard end) 16 r true n e q
    ∙ walk-done (item_next s) (item_ok is_value (home_in shards) s shard end) end 16 n at i w l)

pub loop-init : goal.loop-init
loop-init c =
    let a = c.args in
    walk_start (item_next a.s.now) (item_ok is_value (home_in a.shards) a.s.now a.shard a.end) a.end 16 a.n (omega arith)

pub item_within-requires : goal.item_within-requires
item_within-requires c = let w = c.loop.invariant in omega (arith, w.inside)

pub returns-then-not-item_within : goal.returns-then-not-item_within
unfolding items_end
returns-then-not-item_within c =
    let a = c.args in
    let l = c.loop in
    sym (walk-failed (key_at a.s.now) (item_next a.s.now) (item_ok is_value (home_in a.shards) a.s.now a.shard a.end) 16 a.n
    (walk-bad (item_next a.s.now) (item_ok is_value (home_in a.shards) a.s.now a.shard a.end) a.end 16 a.n l.at l.counter l.invariant
    (omega arith)
    (item-outside is_value (home_in a.shards) a.s.now a.shard a.end l.at (sym c.item_within.ensures ∙ c.if-not-item_within.true))))

pub key_hash-hash-requires : goal.key_hash-hash-requires
key_hash-hash-requires c =
    let a = c.args in
    let l = c.loop in
    let q = within-says a.s.now a.end l.at (sym c.item_within.ensures ∙ c.if-not-item_within.false) in
    let q₁ = q.1 in
    omega arith

pub item_ok-requires : goal.item_ok-requires
item_ok-requires c =
    let a = c.args in
    let l = c.loop in
    let q = within-says a.s.now a.end l.at (sym c.item_within.ensures ∙ c.if-not-item_within.false) in
    let q₁ = q.1 in
    (q.0, q.1, omega arith, omega arith, c.key_hash-hash.ensures, omega arith)

pub returns-then-not-item_ok : goal.returns-then-not-item_ok
unfolding items_end
returns-then-not-item_ok c =
    let a = c.args in
    let l = c.loop in
    sym (walk-failed (key_at a.s.now) (item_next a.s.now) (item_ok is_value (home_in a.shards) a.s.now a.shard a.end) 16 a.n
    (walk-bad (item_next a.s.now) (item_ok is_value (home_in a.shards) a.s.now a.shard a.end) a.end 16 a.n l.at l.counter l.invariant
    (omega arith) (sym c.item_ok.ensures ∙ c.if-not-item_ok.true)))

pub next_place-at-requires : goal.next_place-at-requires
next_place-at-requires c =
    let a = c.args in
    let l = c.loop in
    let q = within-says a.s.now a.end l.at (sym c.item_within.ensures ∙ c.if-not-item_within.false) in
    let q₁ = q.1 in
    omega arith

pub loop-preserved : goal.loop-preserved
loop-preserved c =
    let a = c.args in
    let l = c.loop in
    let q = within-says a.s.now a.end l.at (sym c.item_within.ensures ∙ c.if-not-item_within.false) in
    walk-next (item_next a.s.now) (item_ok is_value (home_in a.shards) a.s.now a.shard a.end) a.end 16 a.n l.at l.counter l.invariant
    (omega arith) (sym c.item_ok.ensures ∙ c.if-not-item_ok.false) q.1 _ c.next_place-at.ensures

pub returns-then-n-lt2 : goal.returns-then-n-lt2
returns-then-n-lt2 c =
    let a = c.args in
    let l = c.loop in
    ended a.s.now a.shards a.shard a.end a.n l.at l.counter true l.invariant (omega arith) refl (λ j k p q r. absurd (omega arith))

pub many_distinct-requires : goal.many_distinct-requires
many_distinct-requires c =
    let a = c.args in
    let l = c.loop in
    let w = walk_inside (item_next a.s.now) (item_ok is_value (home_in a.shards) a.s.now a.shard a.end) a.end 16 a.n l.at
    l.counter l.invariant (omega arith) in
    ((λ k q. let p = w k q in omega arith), omega arith, omega arith, omega arith)

pub returns-then-not-many_distinct : goal.returns-then-not-many_distinct
unfolding items_end
returns-then-not-many_distinct c =
    let a = c.args in
    sym (walk-answer (key_at a.s.now) (item_next a.s.now) (item_ok is_value (home_in a.shards) a.s.now a.shard a.end) 16
    c.many_distinct.result false a.n c.if-not-many_distinct.true c.many_distinct.ensures)

pub returns : goal.returns
returns c =
    let a = c.args in
    let l = c.loop in
    ended a.s.now a.shards a.shard a.end a.n l.at l.counter c.many_distinct.result l.invariant (omega arith)
    c.if-not-many_distinct.false c.many_distinct.ensures
