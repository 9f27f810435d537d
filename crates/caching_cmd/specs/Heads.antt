-- What stands before the answers, written and measured; and a buffer that is zeroed. Assumes nothing.
use Rattle.std.specs.Prelude.{◌≡◌, refl, Bool, true, false, ℕ, ◌+◌, ◌-◌, ◌≤◌, length, replicate}
use Rattle.std.proofs.Common.{sym, ap, ◌∙◌, arith, length-append}
use Rattle.std.proofs.lemmas.List.{length-replicate}
use Rattle.buffer.specs.Same.{Bytes}
use Rattle.buffer.specs.Part.{put}
use Rattle.buffer.specs.PartLaws.{put-put, put_all}
use Rattle.buffer.specs.Zero.{zeroed}
use Rattle.decimal.specs.Digits.{digits}
use Rattle.cmd.specs.Pack.{head}
use Rattle.resolving_walk.specs.Same.{result_head}

head-length : (n : ℕ) → length (head 42 n) ≡ length (digits n) + 3
head-length n = simp length-append (omega arith)

-- ---- their length

pub length-plain : (transaction : Bool) (n d : ℕ) → transaction ≡ false → d ≡ length (digits n) → d + 3 ≡ length (result_head transaction n)
unfolding result_head
length-plain true n d t e = absurd (let z : ◌≡◌ {A = ℕ} 0 1 = cc in omega arith)
length-plain false n d t e = let k = head-length n in omega arith

-- `*1` has four bytes
pub length_both : (transaction : Bool) (n : ℕ) → transaction ≡ true → length (result_head transaction n) ≡ 4 + length (head 42 n)
unfolding result_head digits
length_both true n t = length-append (head 42 1) (head 42 n)
length_both false n t = absurd (let z : ◌≡◌ {A = ℕ} 0 1 = cc in omega arith)

pub length-wrapped : (transaction : Bool) (n d : ℕ) → transaction ≡ true → d ≡ length (digits n) → d + 3 + 4 ≡ length (result_head transaction n)
length-wrapped transaction n d t e = let k = head-length n in let j = length_both transaction n t in omega arith

one-length : length (head 42 1) ≡ 4
unfolding digits
one-length = refl

-- ---- written

pub head_plain : (transaction : Bool) (n r : ℕ) (s t : Bytes) → transaction ≡ false → r ≡ 0 + length (head 42 n) → t ≡ put s 0 (head 42 n)
    → (r ≡ length (result_head transaction n)) × (t ≡ put s 0 (result_head transaction n))
unfolding result_head
head_plain true n r s t z e f = absurd (let y : ◌≡◌ {A = ℕ} 0 1 = cc in omega arith)
head_plain false n r s t z e f = (omega arith, f)

pub room-plain : (transaction : Bool) (n l : ℕ) → transaction ≡ false → length (result_head transaction n) ≤ l → 0 + length (head 42 n) ≤ l
unfolding result_head
room-plain true n l z h = absurd (let y : ◌≡◌ {A = ℕ} 0 1 = cc in omega arith)
room-plain false n l z h = omega arith

pub room-one : (transaction : Bool) (n l : ℕ) → transaction ≡ true → length (result_head transaction n) ≤ l → 0 + length (head 42 1) ≤ l
room-one transaction n l z h = let j = length_both transaction n z in let k = one-length in omega arith

pub room-two : (transaction : Bool) (n l m at : ℕ) → transaction ≡ true → length (result_head transaction n) ≤ l → m ≡ l → at ≡ 0 + length (head 42 1)
    → at + length (head 42 n) ≤ m
room-two transaction n l m at z h q e = let j = length_both transaction n z in let k = one-length in omega arith

pub head-wrapped : (transaction : Bool) (n at r : ℕ) (s t u : Bytes) → transaction ≡ true → length (result_head transaction n) ≤ length s
    → at ≡ 0 + length (head 42 1) → t ≡ put s 0 (head 42 1) → r ≡ at + length (head 42 n) → u ≡ put t at (head 42 n)
    → (r ≡ length (result_head transaction n)) × (u ≡ put s 0 (result_head transaction n))
unfolding result_head
head-wrapped true n at r s t u z h a f e g =
    let j = length-append (head 42 1) (head 42 n) in
    (omega arith, g ∙ ap (λ (x : Bytes). put x at (head 42 n)) f ∙ put-put s (head 42 1) (head 42 n) 0 at (omega arith) (omega arith))
head-wrapped false n at r s t u z h a f e g = absurd (let y : ◌≡◌ {A = ℕ} 0 1 = cc in omega arith)

-- ---- zeroed

-- all of a buffer
pub all-zeroed : (s t : Bytes) → t ≡ zeroed s 0 (length s) → t ≡ replicate (length s) 0
all-zeroed s t e =
    let n : length s - 0 ≡ length s = omega arith in
    let l : length s ≡ length (replicate {A = ℕ} (length s) 0) = sym (length-replicate (length s) 0) in
    e ∙ ap (λ (m : ℕ). put s 0 (replicate m 0)) n ∙ put_all s (replicate (length s) 0) l
