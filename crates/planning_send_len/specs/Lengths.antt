-- How long that is which is sent for a command, case by case. Assumes nothing.
use Rattle.std.specs.Prelude.{◌≡◌, refl, Bool, true, false, List, [], ◌∷◌, ◌++◌, ℕ, zero, suc, ◌+◌, ◌*◌, ◌-◌, ◌^◌, ◌≤◌, ◌<◌, length}
use Rattle.std.proofs.Common.{sym, ap, ◌∙◌, arith, add-one, length-append}
use Rattle.buffer.specs.Same.{Bytes}
use Rattle.config.specs.Limits.{max_bytes, max_arguments}
use Rattle.config.specs.declared.CacheMode.{CacheMode}
use Rattle.config.specs.declared.CacheMode.TheVariants.{All, OptIn}
use Rattle.decimal.specs.Digits.{digits}
use Rattle.decimal.specs.DigitLaws.{count-max}
use Rattle.cursor.specs.At.{range_bytes, RangeIn, next_at, arg_at, ArgsIn, ArgsHere}
use Rattle.cursor.specs.Steps.{in-more, in_start}
use Rattle.cursor.specs.declared.Head.{Head}
use Rattle.cursor.specs.declared.Range.{Range}
use Rattle.command_key.specs.Keys.{range_length}
use Rattle.cmd.specs.Pack.{sent, packed, pttl_texts, head, blob, blob_bytes}
use Rattle.cmd.specs.Laws.{bounded, head-length, blob-length, blobs_at, blobs-none, blobs-length, packed-length, pttl_start, pttl-pieces, caching-is}
use Rattle.format.specs.Lists.{enc_all}
use Rattle.planning.specs.Sent.{pttls}
use Rattle.planning_ask.specs.Asked.{several_name, path_in, SeveralIn}
use Rattle.planning_ask.specs.declared.Several.{Several}
use Rattle.planning_send.specs.Sends.{caching_bytes, caching-all, caching-opt-in, own_bytes, single_bytes, argument_count, get_name, several_with}
use Rattle.planning_send.specs.Sends.{path-json, path-none, name-json, name-plain}

-- ---- `CLIENT CACHING YES`

pub caching-none : (m : CacheMode) → m ≡ All → (0 ≡ length (caching_bytes m)) × (0 ≤ 38)
caching-none m q = (sym (ap length (caching-all m q)), omega arith)

pub caching-length : (m : CacheMode) → m ≡ OptIn → (38 ≡ length (caching_bytes m)) × (38 ≤ 38)
caching-length m q = (sym (ap length (caching-opt-in m q ∙ caching-is)), omega arith)

-- ---- a command of the record

-- each argument has at most 45 bytes more than of its own
blobs-bound : (s : Bytes) (cur n at : ℕ) → ArgsIn s n at → length s ≤ max_bytes → cur < 2 ^ 64 → at + length (blobs_at s cur n at) ≤ length s + 45 * n
blobs-bound s cur zero at w h k = let z = ap length (blobs-none s cur zero at refl) in let i = in_start s zero at w in omega arith
blobs-bound s cur (suc n) at w h k =
    let q : suc n ≡ n + 1 = sym (add-one n) in
    let v = in-more s (suc n) n at q w in
    let i = blobs-bound s cur n (next_at s at) v.1 h k in
    let l = blobs-length s cur (suc n) n at q in
    let b = bounded s cur at v.0 h k in
    let m = b.more in
    let o = b.small in
    let d = count-max (length (sent cur (arg_at s at))) (omega arith) in
    omega arith

-- so it has at most 2^32
pub own-bound : (s : Bytes) (h : Head) → ArgsHere s h.args → length s ≤ max_bytes → h.args.left ≤ max_arguments → h.cursor < 2 ^ 64
    → length (own_bytes s h) ≤ 2 ^ 32
own-bound s h w m n k =
    let p = packed-length s h.cursor h.args.left h.args.at in
    let b = blobs-bound s h.cursor h.args.left h.args.at w m k in
    let d = count-max h.args.left (omega arith) in
    omega arith

-- `PTTL` and a key, and the command
pub single-length : (s : Bytes) (h : Head) (key : Range) (x y : ℕ) → RangeIn s key → length s ≤ max_bytes
    → x ≡ 5 + length (digits (key.end - key.start)) + (key.end - key.start) → y ≡ length (own_bytes s h) → y ≤ 2 ^ 32
    → (14 + x + y ≡ length (single_bytes s h key)) × (14 + x + y ≤ 2 ^ 57)
single-length s h key x y i m p q k =
    let t : Bytes = range_bytes s key in
    let l = range_length s key i in
    let b = blob-length t in
    let z : length (digits (length t)) ≡ length (digits (key.end - key.start)) = ap (λ (n : ℕ). length (digits n)) l in
    let a = length-append (packed (pttl_texts t)) (own_bytes s h) in
    let c = ap length (pttl-pieces t) ∙ length-append pttl_start (blob t) in
    let e = i.1 in
    let d = count-max (length t) (omega arith) in
    (omega arith, omega arith)

-- ---- several keys

-- the name
pub json-length : (json : Bool) → json ≡ true → (15 ≡ length (blob (several_name json))) × (15 ≤ 15)
unfolding blob digits
json-length json q = (sym (ap length (name-json json q)), omega arith)

pub plain-length : (json : Bool) → json ≡ false → (10 ≡ length (blob (several_name json))) × (10 ≤ 15)
unfolding blob digits
plain-length json q = (sym (ap length (name-plain json q)), omega arith)

-- the number of arguments, and the name
pub get-length : (json : Bool) (n c x y : ℕ) → n ≤ max_bytes → c ≡ argument_count json n → x ≡ length (digits c) → y ≡ length (blob (several_name json)) → y ≤ 15
    → (3 + x + y ≡ length (get_name json n)) × (3 + x + y ≤ 38)
get-length json n c x y h p q r k =
    let a = length-append (head 42 (argument_count json n)) (blob (several_name json)) in
    let b = head-length 42 (argument_count json n) in
    let z : length (digits c) ≡ length (digits (argument_count json n)) = ap (λ (m : ℕ). length (digits m)) p in
    let o = few json n in
    let d = count-max (argument_count json n) (omega arith) in
    (omega arith, omega arith)
  where
    few : (json : Bool) (n : ℕ) → argument_count json n ≤ n + 2
    few true n = omega arith
    few false n = omega arith

-- the path
pub path-length : (s : Bytes) (v : Several) (x : ℕ) → SeveralIn s v → length s ≤ max_bytes → 0 < v.keys → v.json ≡ true
    → x ≡ 5 + length (digits (v.path.end - v.path.start)) + (v.path.end - v.path.start)
    → (x ≡ length (blob_bytes (path_in s v))) × (x ≤ 2 ^ 32)
path-length s v x w m k j p =
    let t : Bytes = range_bytes s v.path in
    let l = range_length s v.path w.inside in
    let z : length (digits (length t)) ≡ length (digits (v.path.end - v.path.start)) = ap (λ (n : ℕ). length (digits n)) l in
    let b = ap length (path-json s v w j k) ∙ blob-length t in
    let e = w.inside.1 in
    let d = count-max (length t) (omega arith) in
    (omega arith, omega arith)

pub no-path : (s : Bytes) (v : Several) → SeveralIn s v → v.json ≡ false → (0 ≡ length (blob_bytes (path_in s v))) × (0 ≤ 2 ^ 32)
no-path s v w j = (sym (ap length (path-none s v w j)), omega arith)

-- `PTTL` and a key
pttl-length : (key : Bytes) → length (packed (pttl_texts key)) ≡ 14 + (5 + length (digits (length key)) + length key)
pttl-length key = ap length (pttl-pieces key) ∙ length-append pttl_start (blob key) ∙ ap (λ (n : ℕ). 14 + n) (blob-length key)

-- a `PTTL` for each key
pttls-length : (ks : List Bytes) → length (enc_all packed (pttls ks)) ≡ length (blob_bytes ks) + 14 * length ks
unfolding pttls blob_bytes
pttls-length [] = refl
pttls-length (k ∷ ks) =
    let i = pttls-length ks in
    let a = length-append (packed (pttl_texts k)) (enc_all packed (pttls ks)) in
    let b = length-append (blob k) (blob_bytes ks) in
    let c = pttl-length k in
    let d = blob-length k in
    omega arith

-- all of it
pub several-length : (s : Bytes) (v : Several) (n : ℕ) (ks : List Bytes)
    → length (several_with s v n ks) ≡ length (get_name v.json n) + length (blob_bytes ks) + length (blob_bytes (path_in s v)) +
    (length (blob_bytes ks) + 14 * length ks)
several-length s v n ks =
    let a = length-append (get_name v.json n ++ (blob_bytes ks ++ blob_bytes (path_in s v))) (enc_all packed (pttls ks)) in
    let b = length-append (get_name v.json n) (blob_bytes ks ++ blob_bytes (path_in s v)) in
    let c = length-append (blob_bytes ks) (blob_bytes (path_in s v)) in
    let d = pttls-length ks in
    omega arith
