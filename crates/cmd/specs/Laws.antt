-- What the writers have done, piece by piece. Assumes nothing.
use Rattle.std.specs.Prelude.{◌≡◌, refl, List, [], ◌∷◌, ◌++◌, ℕ, zero, suc, ◌+◌, ◌^◌, ◌≤◌, ◌<◌, eqb, length, get_or, set}
use Rattle.std.proofs.Common.{sym, ap, ap₂, ◌∙◌, append-nil, arith, add-one, length-append, eq-eqb, ne_eqb, eqb-true}
use Rattle.std.proofs.lemmas.Bool.{eqb-false}
use Rattle.buffer.specs.Cases.{by_test}
use Rattle.buffer.specs.Same.{Bytes}
use Rattle.buffer.specs.Part.{put}
use Rattle.buffer.specs.PartLaws.{length_part, length-put}
use Rattle.buffer.specs.Step.{set-put}
use Rattle.config.specs.Limits.{max_bytes}
use Rattle.call_record.specs.Record.{Argument, simple, cursor}
use Rattle.cursor.specs.declared.Arg.{Arg}
use Rattle.cursor.specs.declared.Args.{Args}
use Rattle.cursor.specs.At.{own, argument_of, size_at, next_at, arg_at, args_at, args_of, ArgIn}
use Rattle.cursor.specs.Steps.{args_none, args_more, Stepped}
use Rattle.buffer.specs.Copied.{Copied, copied-start, copied_next, copied-done, copied-ends, copied-room}
use Rattle.decimal.specs.Digits.{digits}
use Rattle.decimal.specs.DigitLaws.{count-max}
use Rattle.cmd.specs.Pack.{sent, texts, head, blob, blob_bytes, packed, pttl_texts, caching_texts, multi_texts, exec_texts}
use Rattle.cmd.specs.PackLaws.{packed-pieces}

-- the bytes all were written at `to`, up to e
pub record Wrote (d : Bytes) (to : ℕ) (all d₁ : Bytes) (e : ℕ) : Type 0 where
  pub ends : e ≡ to + length all
  pub is : d₁ ≡ put d to all

-- ---- heads and blobs

-- how long a head is
pub head-length : (m n : ℕ) → length (head m n) ≡ 3 + length (digits n)
head-length m n = ap suc (length-append (digits n) (13 ∷ 10 ∷ [])) ∙ omega arith

-- there is room for it
pub head-room : (d : Bytes) (to m n : ℕ) → to + length (head m n) ≤ length d → (to < length d) × (to + 3 + length (digits n) ≤ length d)
head-room d to m n h = let l = head-length m n in (omega arith, omega arith)

-- a mark, digits, CR LF
pub head-wrote : (d d₂ d₃ : Bytes) (to m n e : ℕ) → to + length (head m n) ≤ length d → e ≡ to + 1 + length (digits n)
    → d₂ ≡ put (set d to m) (to + 1) (digits n) → d₃ ≡ put d₂ e (13 ∷ 10 ∷ []) → Wrote d to (head m n) d₃ (e + 2)
head-wrote d d₂ d₃ to m n e h q u₂ u₃ =
    let r = (head-room d to m n h).0 in
    let crlf : Bytes = 13 ∷ 10 ∷ [] in
    let c₀ = copied-start d (head m n) to h in
    let c₁ = copied_next d (head m n) d (set d to m) (m ∷ []) (head m n) (digits n ++ crlf) to to (to + 1) refl refl (set-put d to m r) c₀ in
    let c₂ = copied_next d (head m n) (set d to m) d₂ (digits n) (digits n ++ crlf) crlf to (to + 1) e refl q u₂ c₁ in
    let c₃ = copied_next d (head m n) d₂ d₃ crlf crlf [] to e (e + 2) refl refl u₃ c₂ in
    record { ends = copied-ends d (head m n) d₃ [] to (e + 2) refl c₃; is = copied-done d (head m n) d₃ [] to (e + 2) refl c₃ }

-- how long a blob is
pub blob-length : (t : Bytes) → length (blob t) ≡ 5 + length (digits (length t)) + length t
unfolding blob
blob-length t =
    length-append (head 36 (length t)) (t ++ (13 ∷ 10 ∷ []))
    ∙ ap₂ ◌+◌ (head-length 36 (length t)) (length-append t (13 ∷ 10 ∷ []))
    ∙ omega arith

-- a head, the text, CR LF
pub blob-wrote : (d d₁ d₂ d₃ t : Bytes) (to n e f : ℕ) → n ≡ length t → to + length (blob t) ≤ length d → e ≡ to + length (head 36 n)
    → d₁ ≡ put d to (head 36 n)
    → f ≡ e + length t → d₂ ≡ put d₁ e t → d₃ ≡ put d₂ f (13 ∷ 10 ∷ []) → Wrote d to (blob t) d₃ (f + 2)
unfolding blob
blob-wrote d d₁ d₂ d₃ t to n e f z h p u₁ q u₂ u₃ =
    let crlf : Bytes = 13 ∷ 10 ∷ [] in
    let H : Bytes = head 36 (length t) in
    let y : head 36 n ≡ H = ap (head 36) z in
    let c₀ = copied-start d (blob t) to h in
    let c₁ = copied_next d (blob t) d d₁ H (blob t) (t ++ crlf) to to e refl (p ∙ ap (λ (x : Bytes). to + length x) y) (u₁ ∙ ap (put d to) y) c₀ in
    let c₂ = copied_next d (blob t) d₁ d₂ t (t ++ crlf) crlf to e f refl q u₂ c₁ in
    let c₃ = copied_next d (blob t) d₂ d₃ crlf crlf [] to f (f + 2) refl refl u₃ c₂ in
    record { ends = copied-ends d (blob t) d₃ [] to (f + 2) refl c₃; is = copied-done d (blob t) d₃ [] to (f + 2) refl c₃ }

-- room for a blob's pieces
pub blob-room : (d t : Bytes) (to n : ℕ) → n ≡ length t → to + length (blob t) ≤ length d → to + length (head 36 n) + length t + 2 ≤ length d
blob-room d t to n z h = let a = blob-length t in let b = head-length 36 (length t) in rw z (omega arith)

-- ---- an argument

-- a cursor's digits
pub sent-cursor : (s : Bytes) (cur at : ℕ) → (get_or s at 0 ≡ 0 → ⊥) → sent cur (arg_at s at) ≡ digits cur
sent-cursor s cur at h = rw (ne_eqb (get_or s at 0) 0 h)

-- how long it is as it is sent
pub sent-size : (s : Bytes) (cur at : ℕ) → ArgIn s at → get_or s at 0 ≡ 0 → length (sent cur (arg_at s at)) ≡ size_at s at
sent-size s cur at w h = let i = w.inside in rw (eq-eqb (get_or s at 0) 0 h) (length_part s (at + 5) (size_at s at) (omega arith))

-- no more than its own bytes, or a cursor's digits, of which there are at most 20
pub sent-bound : (cur : ℕ) → cur < 2 ^ 64 → (a : Argument) → length (sent cur a) ≤ length (own a) + 20
sent-bound cur h (simple b) = omega arith
sent-bound cur h cursor = count-max cur h

pub sent-small : (cur m : ℕ) → cur < 2 ^ 64 → 20 ≤ m → (a : Argument) → length (own a) ≤ m → length (sent cur a) ≤ m
sent-small cur m h k (simple b) l = l
sent-small cur m h k cursor l = let z = count-max cur h in omega arith

-- a bound for it: a cursor has at most 20 digits
pub record Bounded (s : Bytes) (cur at : ℕ) : Type 0 where
  pub more : length (sent cur (arg_at s at)) ≤ size_at s at + 20
  pub small : length (sent cur (arg_at s at)) ≤ max_bytes

-- every argument that lies inside is so
pub bounded : (s : Bytes) (cur at : ℕ) → ArgIn s at → length s ≤ max_bytes → cur < 2 ^ 64 → Bounded s cur at
bounded s cur at w h k =
    let i = w.inside in
    by_test (eqb (get_or s at 0) 0)
    (λ t. let e = sent-size s cur at w (eqb-true _ _ t) in record { more = omega arith; small = omega arith })
    (λ t. let e = ap length (sent-cursor s cur at (eqb-false _ _ t)) in let m = count-max cur k in record { more = omega arith; small = omega arith })

-- written under another name for the same bytes
pub wrote_as : (d d₁ x y : Bytes) (to e : ℕ) → x ≡ y → (e ≡ to + length (blob y)) × (d₁ ≡ put d to (blob y))
    → (e ≡ to + length (blob x)) × (d₁ ≡ put d to (blob x))
wrote_as d d₁ x y to e q w = rw q w

-- room under another name for the same bytes
pub room_as : (d x y : Bytes) (to : ℕ) → x ≡ y → to + length (blob x) ≤ length d → to + length (blob y) ≤ length d
room_as d x y to q h = rw q at h

-- ---- arguments

-- the m arguments from `at` on, as blobs
abbrev pub blobs_at : Bytes → ℕ → ℕ → ℕ → Bytes
blobs_at s cur m at = blob_bytes (texts cur (args_at s m at))

-- no argument is left
pub blobs-none : (s : Bytes) (cur m at : ℕ) → m ≡ 0 → blobs_at s cur m at ≡ []
unfolding blob_bytes texts
blobs-none s cur m at q = rw (args_none s m at q)

-- the first, and the others
pub blobs-more : (s : Bytes) (cur m n at : ℕ) → m ≡ n + 1 → blobs_at s cur m at ≡ blob (sent cur (arg_at s at)) ++ blobs_at s cur n (next_at s at)
unfolding blob_bytes texts
blobs-more s cur m n at q = rw (args_more s m n at q)

-- how long they are
pub blobs-length : (s : Bytes) (cur m n at : ℕ) → m ≡ n + 1
    → length (blobs_at s cur m at) ≡ 5 + length (digits (length (sent cur (arg_at s at)))) + length (sent cur (arg_at s at)) + length
    (blobs_at s cur n (next_at s at))
blobs-length s cur m n at q =
    ap length (blobs-more s cur m n at q)
    ∙ length-append (blob (sent cur (arg_at s at))) (blobs_at s cur n (next_at s at))
    ∙ ap (λ (z : ℕ). z + length (blobs_at s cur n (next_at s at))) (blob-length (sent cur (arg_at s at)))

-- as many texts as arguments
pub texts-length : (cur : ℕ) (l : List Argument) → length (texts cur l) ≡ length l
unfolding texts
texts-length cur [] = refl
texts-length cur (a ∷ l) = ap suc (texts-length cur l)

-- as many arguments as were asked for
args-length : (s : Bytes) (n at : ℕ) → length (args_at s n at) ≡ n
args-length s zero at = ap length (args_none s zero at refl)
args-length s (suc n) at = ap length (args_more s (suc n) n at (sym (add-one n))) ∙ ap suc (args-length s n (next_at s at))

-- a command: the head of an array, and its blobs
pub command-pieces : (s : Bytes) (cur n at : ℕ) → packed (texts cur (args_at s n at)) ≡ head 42 n ++ blobs_at s cur n at
command-pieces s cur n at =
    packed-pieces (texts cur (args_at s n at)) ∙ ap (λ (k : ℕ). head 42 k ++ blobs_at s cur n at) (texts-length cur (args_at s n at) ∙ args-length s n at)

-- how long a command is
pub packed-length : (s : Bytes) (cur n at : ℕ) → length (packed (texts cur (args_at s n at))) ≡ 3 + length (digits n) + length (blobs_at s cur n at)
packed-length s cur n at =
    ap length (command-pieces s cur n at) ∙ length-append (head 42 n) (blobs_at s cur n at) ∙ ap (λ (k : ℕ). k + length (blobs_at s cur n at)) (head-length 42 n)

-- k's first, and the others
module _ (s : Bytes) (cur : ℕ) (k : Args) (a : Arg) (r : Args) (w : Stepped s k a r) where
  pub sent-more : blob_bytes (texts cur (args_of s k)) ≡ blob (sent cur (argument_of s a)) ++ blob_bytes (texts cur (args_of s r))
  unfolding blob_bytes texts
  sent-more = ap (λ (l : List Argument). blob_bytes (texts cur l)) w.are

  -- how long they are
  pub sent-length : length (blob_bytes (texts cur (args_of s k)))
      ≡ 5 + length (digits (length (sent cur (argument_of s a)))) + length (sent cur (argument_of s a)) + length (blob_bytes (texts cur (args_of s r)))
  sent-length =
      ap length sent-more
      ∙ length-append (blob (sent cur (argument_of s a))) (blob_bytes (texts cur (args_of s r)))
      ∙ ap (λ (z : ℕ). z + length (blob_bytes (texts cur (args_of s r)))) (blob-length (sent cur (argument_of s a)))

-- a head, and then the rest
pub two-wrote : (d d₁ d₂ x y all : Bytes) (to e f : ℕ) → all ≡ x ++ y → to + length all ≤ length d → e ≡ to + length x → d₁ ≡ put d to x
    → f ≡ e + length y → d₂ ≡ put d₁ e y → (f ≡ to + length all) × (d₂ ≡ put d to all)
two-wrote d d₁ d₂ x y all to e f a h p u q v =
    let c₀ = copied-start d all to h in
    let c₁ = copied_next d all d d₁ x all y to to e a p u c₀ in
    let c₂ = copied_next d all d₁ d₂ y y [] to e f (sym (append-nil y)) q v c₁ in
    (copied-ends d all d₂ [] to f refl c₂, copied-done d all d₂ [] to f refl c₂)

-- room for both
pub two-room : (d d₁ x y all : Bytes) (to e : ℕ) → all ≡ x ++ y → to + length all ≤ length d → e ≡ to + length x → d₁ ≡ put d to x
    → (to + length x ≤ length d) × (e + length y ≤ length d₁)
two-room d d₁ x y all to e a h p u =
    let l = ap length a ∙ length-append x y in
    let k : length d₁ ≡ length d = ap length u ∙ length-put d x to (omega arith) in
    (omega arith, omega arith)

-- room for the first
pub first-room : (d x y all : Bytes) (to : ℕ) → all ≡ x ++ y → to + length all ≤ length d → to + length x ≤ length d
first-room d x y all to a h = let l = ap length a ∙ length-append x y in omega arith

-- ---- the fixed commands

-- `PTTL` as it is packed before its key
abbrev pub pttl_start : Bytes
pttl_start = 42 ∷ 50 ∷ 13 ∷ 10 ∷ 36 ∷ 52 ∷ 13 ∷ 10 ∷ 80 ∷ 84 ∷ 84 ∷ 76 ∷ 13 ∷ 10 ∷ []

-- it is that
pub pttl-pieces : (key : Bytes) → packed (pttl_texts key) ≡ pttl_start ++ blob key
unfolding blob_bytes blob digits
pttl-pieces key = packed-pieces (pttl_texts key) ∙ ap (λ (x : Bytes). pttl_start ++ x) (append-nil (blob key))

-- `CLIENT CACHING YES`
pub caching-is : packed caching_texts ≡ 42 ∷ 51 ∷ 13 ∷ 10 ∷ 36 ∷ 54 ∷ 13 ∷ 10 ∷ 67 ∷ 76 ∷ 73 ∷ 69 ∷ 78 ∷ 84 ∷ 13 ∷ 10 ∷ 36 ∷ 55 ∷ 13 ∷ 10 ∷ 67 ∷ 65 ∷ 67
    ∷ 72 ∷ 73 ∷ 78 ∷ 71 ∷ 13 ∷ 10 ∷ 36 ∷ 51 ∷ 13 ∷ 10 ∷ 89 ∷ 69 ∷ 83 ∷ 13 ∷ 10 ∷ []
unfolding blob_bytes blob digits
caching-is = packed-pieces caching_texts

-- `MULTI`
pub multi-is : packed multi_texts ≡ 42 ∷ 49 ∷ 13 ∷ 10 ∷ 36 ∷ 53 ∷ 13 ∷ 10 ∷ 77 ∷ 85 ∷ 76 ∷ 84 ∷ 73 ∷ 13 ∷ 10 ∷ []
unfolding blob_bytes blob digits
multi-is = packed-pieces multi_texts

-- `EXEC`
pub exec-is : packed exec_texts ≡ 42 ∷ 49 ∷ 13 ∷ 10 ∷ 36 ∷ 52 ∷ 13 ∷ 10 ∷ 69 ∷ 88 ∷ 69 ∷ 67 ∷ 13 ∷ 10 ∷ []
unfolding blob_bytes blob digits
exec-is = packed-pieces exec_texts
