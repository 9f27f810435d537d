-- `shard::other_tail` meets its contract: keys that are the same have the same last eight bytes. Assumes nothing.
use mathlib.Core.Path.{◌≡◌, sym, ap, ◌∙◌}
use mathlib.Core.Bool.{false≢true}
use Prim.Native.Nat.{ℕ, ◌+◌, ◌-◌, ◌≤◌}
use native.Mathlib.Omega.{arith}
use lib.ListN.{length}
use borrow.Author.Tests.{eqb-false, not-true}
use Rattle.buffer.specs.Same.{Bytes}
use Rattle.buffer.specs.Part.{part}
use Rattle.buffer.specs.Field.{read64}
use Rattle.buffer.specs.FieldLaws.{read-in-part, other-read}
use Rattle.shard.proofs.Fields.{fields}
use Rattle.shard.proofs.other_tail.Goals as goal

-- a word that is read within the key k that stands at p is a word of k
key-word : (s k : Bytes) (p i : ℕ) → part s p (length k) ≡ k → i + 8 ≤ length k → read64 s (p + i) ≡ read64 k i
key-word s k p i w h = sym (read-in-part 8 s p (length k) i h) ∙ ap (λ (z : Bytes). read64 z i) w

pub returns-then-n-lt8 : goal.returns-then-n-lt8
returns-then-n-lt8 c front back it w e = absurd (false≢true e)

pub overflow_add-at : goal.overflow_add-at
overflow_add-at c = let f = fields c.requires.0.stands in omega arith

pub overflow_add-at-2 : goal.overflow_add-at-2
overflow_add-at-2 c = let f = fields c.requires.0.stands in omega arith

pub read_u64-requires : goal.read_u64-requires
read_u64-requires c = let f = fields c.requires.0.stands in omega arith

pub returns : goal.returns
returns c front back it w e =
    let a = c.args in
    let f = fields w in
    let n : ℕ = length a.key.now in
    let i : a.at + 24 + n ≡ a.at + 32 + (n - 8) = omega arith in
    let p = c.read_u64.ensures ∙ ap (read64 a.s.now) i ∙ key-word a.s.now it.key (a.at + 32) (n - 8) f.key (omega arith) in
    other-read 8 a.key.now it.key (n - 8) (λ z. eqb-false _ _ (not-true _ e) (p ∙ sym z ∙ sym c.read_u64-2.ensures))
