-- The check of a call record as a definition, and what its answers mean (`check-fine`, `check-offset`). Assumes nothing.
use Rattle.std.specs.Prelude.{◌≡◌, Result, Ok, Err, refl, ◌↔◌, [], ◌∷◌, ◌++◌, ℕ, ◌+◌, ◌-◌, ◌≤◌, ◌<◌, length, take, drop}
use Rattle.std.proofs.Common.{sym, ap, ◌∙◌, append-nil, append_assoc, arith, length-append, take-append-drop, take_at, take_all, take-take}
use Rattle.std.proofs.Math.Seq.{take-append-add}
use Rattle.buffer.specs.Same.{Bytes}
use Rattle.format.specs.Format.{Read, ok, bad, short}
use Rattle.format.specs.Begins.{Begins}
use Rattle.format.specs.Ends.{wrong, same_offset}
use Rattle.call_record.specs.Record.{Record, enc_record, ValidRecord}
use Rattle.call_record.specs.Offset.{IsRecord, NoneBegins, EndsEarly, WrongAt, breaks, cut_short}
use Rattle.call_record.specs.Formats.{record_f}
use Rattle.format.specs.declared.Wrong.{Wrong}

-- what a reading of n bytes answers: nothing may trail
unfoldable pub check_of : ℕ → Read Record → Result (Unit {0}) Wrong
check_of n (ok r []) = Ok tt
check_of n (ok r (x ∷ u)) = wrong (n - length (x ∷ u))
check_of n (bad o) = wrong o
check_of n short = wrong n

-- the check's answer
unfoldable pub check_def : Bytes → Result (Unit {0}) Wrong
check_def s = check_of (length s) (record_f.read s)

-- ---- fine

-- what is read to its end is a record
is-record : (s : Bytes) (r : Record) → record_f.read s ≡ ok r [] → IsRecord s
is-record s r e =
    let i = record_f.sound s r [] e in
    record { value = r; valid = i.fine; bytes = i.bytes ∙ append-nil (enc_record r) }

-- a valid record's bytes are read as it
pub read-record : (s : Bytes) (r : Record) → ValidRecord r → s ≡ enc_record r → record_f.read s ≡ ok r []
read-record s r v e = ap record_f.read (e ∙ sym (append-nil (enc_record r))) ∙ record_f.complete r [] v

-- bytes are those of one valid record at most
pub record-one : (s : Bytes) (r q : Record) → ValidRecord r → ValidRecord q → s ≡ enc_record r → s ≡ enc_record q → r ≡ q
record-one s r q v w e f = let k : ok r [] ≡ ok q [] = sym (read-record s r v e) ∙ read-record s q w f in cc

-- what is found fine is a record
fine-sound : (s : Bytes) → check_def s ≡ Ok tt → IsRecord s
unfolding check_def check_of
fine-sound s e = go (record_f.read s) refl e
  where
    go : (x : Read Record) → record_f.read s ≡ x → check_of (length s) x ≡ Ok tt → IsRecord s
    go (ok r []) k q = is-record s r k
    go (ok r (x ∷ u)) k q = let z : ◌≡◌ {A = ℕ} 0 1 = cc in absurd (omega arith)
    go (bad o) k q = let z : ◌≡◌ {A = ℕ} 0 1 = cc in absurd (omega arith)
    go short k q = let z : ◌≡◌ {A = ℕ} 0 1 = cc in absurd (omega arith)

-- THE CHECK SAYS FINE exactly for the bytes of a valid record
pub check-fine : (s : Bytes) → (check_def s ≡ Ok tt) ↔ IsRecord s
unfolding check_def check_of
check-fine s = (λ e. fine-sound s e, λ w. ap (check_of (length s)) (read-record s w.value w.valid w.bytes))

-- ---- wrong

-- no valid record begins with a whole one and a byte more
trails : (s : Bytes) (r : Record) (x : ℕ) (u : Bytes) → record_f.read s ≡ ok r (x ∷ u) → (o : ℕ) → o ≡ length s - length (x ∷ u) → WrongAt s o
trails s r x u e o h =
    let i = record_f.sound s r (x ∷ u) e in
    let n = length (enc_record r) in
    let l : length s ≡ n + length (x ∷ u) = ap length i.bytes ∙ length-append (enc_record r) (x ∷ u) in
    let k : n ≡ o = omega arith in
    let t₀ : take o s ≡ enc_record r = ap (take o) i.bytes ∙ take_at (enc_record r) (x ∷ u) o k in
    let t₁ : take (o + 1) s ≡ enc_record r ++ (x ∷ []) = ap (take (o + 1)) i.bytes ∙ rw (← k) (take-append-add (enc_record r) (x ∷ u) 1) in
    breaks (omega arith) (record { value = r; rest = []; fine = i.fine; bytes = sym (rw t₀ (append-nil (enc_record r))) })
    (λ q t v b.
    let d : enc_record q ≡ enc_record r ++ (x ∷ t) = b ∙ rw (t₁, append_assoc) in
    let f : record_f.read (enc_record q) ≡ ok r (x ∷ t) = ap record_f.read d ∙ record_f.complete r (x ∷ t) i.fine in
    let g : ok q [] ≡ ok r (x ∷ t) = sym (read-record (enc_record q) q v refl) ∙ f in
    let z : ◌≡◌ {A = ℕ} 0 1 = cc in
    omega arith)

-- what the reading is stuck at
stuck : (s : Bytes) (o : ℕ) → record_f.read s ≡ bad o → WrongAt s o
stuck s o k =
    let j = record_f.stuck s o k in
    breaks j.inside j.before
    (λ r t v b.
    let g : ok r [] ≡ bad o = sym (read-record (enc_record r) r v refl) ∙ ap record_f.read b ∙ j.stops t in
    let z : ◌≡◌ {A = ℕ} 0 1 = cc in
    omega arith)

-- a beginning of a record that is no record lacks something
lacks : (s : Bytes) (b : Begins enc_record ValidRecord s) → record_f.read s ≡ short → EndsEarly s
lacks s b k = go b.rest b.bytes
  where
    go : (t : Bytes) → enc_record b.value ≡ s ++ t → EndsEarly s
    go [] e =
        let a : record_f.read s ≡ ok b.value [] = read-record s b.value b.fine (sym (e ∙ append-nil s)) in
        let z : ◌≡◌ {A = ℕ} 0 1 = cc in
        absurd (omega arith)
    go (x ∷ t) e = record { value = b.value; rest = x ∷ t; valid = b.fine; bytes = e; more = omega arith }

-- what an answered offset means
found : (s : Bytes) (o : ℕ) → check_def s ≡ wrong o → WrongAt s o
unfolding check_def check_of
found s o e = go (record_f.read s) refl e
  where
    go : (x : Read Record) → record_f.read s ≡ x → check_of (length s) x ≡ wrong o → WrongAt s o
    go (ok r []) k q = let z : ◌≡◌ {A = ℕ} 0 1 = cc in absurd (omega arith)
    go (ok r (x ∷ u)) k q = trails s r x u k o (sym (same_offset (length s - length (x ∷ u)) o q))
    go (bad m) k q = stuck s o (k ∙ ap bad (same_offset m o q))
    go short k q = cut_short (sym (same_offset (length s) o q)) (lacks s (record_f.early s k) k)

-- ---- there is one such offset

-- the bytes before it are the beginning of a valid record
pub wrong-begins : (s : Bytes) (o : ℕ) → WrongAt s o → Begins enc_record ValidRecord (take o s)
wrong-begins s o (breaks l b n) = b
wrong-begins s o (cut_short h e) =
    record { value = e.value; rest = e.rest; fine = e.valid; bytes = e.bytes ∙ ap (λ (l : Bytes). l ++ e.rest) (sym (take_all o s (omega arith))) }

-- it is at most the length
pub wrong-inside : (s : Bytes) (o : ℕ) → WrongAt s o → o ≤ length s
wrong-inside s o (breaks l b n) = omega arith
wrong-inside s o (cut_short h e) = omega arith

-- where some valid record begins with the first p bytes, some begins with fewer of them
pub none-longer : (s : Bytes) (o p : ℕ) → o < p → p ≤ length s → Begins enc_record ValidRecord (take p s) → NoneBegins s o → ⊥
none-longer s o p h l b n =
    n b.value (drop (o + 1) (take p s) ++ b.rest) b.fine
    (b.bytes
    ∙ ap (λ (x : Bytes). x ++ b.rest)
    (sym (take-append-drop (o + 1) (take p s)) ∙ ap (λ (x : Bytes). x ++ drop (o + 1) (take p s)) (take-take (o + 1) p s (omega arith)))
    ∙ append_assoc (take (o + 1) s) (drop (o + 1) (take p s)) b.rest)

-- none is earlier than another
not_earlier : (s : Bytes) (o p : ℕ) → WrongAt s o → WrongAt s p → o < p → ⊥
not_earlier s o p (breaks l b n) w h = none-longer s o p h (wrong-inside s p w) (wrong-begins s p w) n
not_earlier s o p (cut_short e u) w h = let i = wrong-inside s p w in omega arith

-- ONE OFFSET: bytes go wrong at one place at most
pub wrong-once : (s : Bytes) (o p : ℕ) → WrongAt s o → WrongAt s p → o ≡ p
wrong-once s o p v w = same o p (not_earlier s o p v w) (not_earlier s p o w v)
  where
    same : (o p : ℕ) → (o < p → ⊥) → (p < o → ⊥) → o ≡ p
    same o p f g = omega arith

-- of a valid record's bytes each front is a front of it
pub record-begins : (s : Bytes) → IsRecord s → (o : ℕ) → NoneBegins s o → ⊥
record-begins s w o n = n w.value (drop (o + 1) s) w.valid (sym w.bytes ∙ sym (take-append-drop (o + 1) s))

-- a valid record's bytes go wrong nowhere
pub record-right : (s : Bytes) → IsRecord s → (o : ℕ) → WrongAt s o → ⊥
record-right s w o (breaks l b n) = record-begins s w o n
record-right s w o (cut_short h e) =
    let r : record_f.read (enc_record e.value) ≡ ok w.value e.rest =
    ap record_f.read (e.bytes ∙ ap (λ (l : Bytes). l ++ e.rest) w.bytes) ∙ record_f.complete w.value e.rest w.valid in
    let g : ok e.value [] ≡ ok w.value e.rest = sym (read-record (enc_record e.value) e.value e.valid refl) ∙ r in
    let z : [] ≡ e.rest = cc in
    let m = e.more in
    omega (arith, ap length z)

-- THE OFFSET: the check answers o exactly where the bytes go wrong at o
pub check-offset : (s : Bytes) (o : ℕ) → (check_def s ≡ wrong o) ↔ WrongAt s o
check-offset s o = (λ e. found s o e, λ w. go w (check_def s) refl)
  where
    go : WrongAt s o → (x : Result (Unit {0}) Wrong) → check_def s ≡ x → check_def s ≡ wrong o
    go w (Ok x) e = absurd (record-right s (fine-sound s e) o w)
    go w (Err p) e = e ∙ ap wrong (wrong-once s p.at o (found s p.at e) w)

-- the place where bytes go wrong, and that there is no other
pub record WrongOnce (s : Bytes) : Type 0 where
  pub offset : ℕ
  pub wrong : WrongAt s offset
  pub only : (p : ℕ) → WrongAt s p → p ≡ offset

-- EXACTLY ONE: bytes that are no valid record's go wrong at just one place
pub exactly-one : (s : Bytes) → (IsRecord s → ⊥) → WrongOnce s
exactly-one s n = go (check_def s) refl
  where
    go : (x : Result (Unit {0}) Wrong) → check_def s ≡ x → WrongOnce s
    go (Ok x) e = absurd (n (fine-sound s e))
    go (Err p) e = let w = found s p.at e in record { offset = p.at; wrong = w; only = λ o v. wrong-once s o p.at v w }
