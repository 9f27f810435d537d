-- What is sent determines the commands: no two rows of commands are written alike, nor inside a transaction's frame. Assumes nothing.
use Rattle.std.specs.Prelude.{◌≡◌, refl, ℕ, Bool, true, false, List, [], ◌∷◌, ◌++◌, length}
use Rattle.std.proofs.Common.{sym, ap, ap₂, ◌∙◌, arith}
use Rattle.std.proofs.lemmas.List.{append_cancel_left, append_cancel_right}
use Rattle.buffer.specs.Same.{Bytes}
use Rattle.resp3.specs.Value.{Value, Values, none, more, Valid, Valids, enc, encs, encode}
use Rattle.resp3.specs.Rows.{enc-is, longer}
use Rattle.resp3.proofs.Law.{unique}
use Rattle.cmd.specs.Pack.{blobs, exec_texts}
use Rattle.cmd.specs.PackLaws.{blobs-valid}
use Rattle.planning.specs.Sent.{Packed, wrapped, command_values, sent_bytes}

-- ---- values in a row

-- no row of values begins as nothing
none_first : (v : Value) (vs : Values) → ◌≡◌ {A = Bytes} [] (encs (more v vs) []) → ⊥
none_first v vs h = let l = longer v (encs vs []) in let n : 0 ≡ length (enc v (encs vs [])) = ap length h in omega arith

-- two values that are written alike with what follows are the same, and so is what follows
heads-alike : (v w : Value) (r q : Bytes) → Valid v → Valid w → enc v r ≡ enc w q → (v ≡ w) × (r ≡ q)
heads-alike v w r q ok pk h =
    let e : encode v ++ r ≡ encode w ++ q = sym (enc-is v r) ∙ h ∙ enc-is w q in
    let k : v ≡ w = unique v w r q ok pk e in
    (k, append_cancel_left (encode v) r q (e ∙ ap (λ (z : Value). encode z ++ q) (sym k)))

-- so no two rows of values are written alike
pub encs-injective : (vs ws : Values) → Valids vs → Valids ws → encs vs [] ≡ encs ws [] → vs ≡ ws
encs-injective none none ok pk h = refl
encs-injective none (more w ws) ok pk h = absurd (none_first w ws h)
encs-injective (more v vs) none ok pk h = absurd (none_first v vs (sym h))
encs-injective (more v vs) (more w ws) ok pk h =
    let e = heads-alike v w (encs vs []) (encs ws []) ok.0 pk.0 h in
    ap₂ more e.0 (encs-injective vs ws ok.1 pk.1 e.1)

-- ---- commands

-- no two rows of texts are the same blobs
blobs-injective : (ts us : List Bytes) → blobs ts ≡ blobs us → ts ≡ us
unfolding blobs
blobs-injective [] [] h = refl
blobs-injective [] (u ∷ us) h = absurd (let z : ◌≡◌ {A = ℕ} 0 1 = cc in omega arith)
blobs-injective (t ∷ ts) [] h = absurd (let z : ◌≡◌ {A = ℕ} 0 1 = cc in omega arith)
blobs-injective (t ∷ ts) (u ∷ us) h =
    let first : t ≡ u = cc in
    let rest : blobs ts ≡ blobs us = cc in
    ap₂ ◌∷◌ first (blobs-injective ts us rest)

-- the values of commands are valid
values-valid : (ps : List Packed) → Valids (command_values ps)
unfolding command_values
values-valid [] = tt
values-valid (p ∷ ps) = (blobs-valid p, values-valid ps)

-- no two rows of commands have the same values
values-injective : (ps qs : List Packed) → command_values ps ≡ command_values qs → ps ≡ qs
unfolding command_values
values-injective [] [] h = refl
values-injective [] (q ∷ qs) h = absurd (let z : ◌≡◌ {A = ℕ} 0 1 = cc in omega arith)
values-injective (p ∷ ps) [] h = absurd (let z : ◌≡◌ {A = ℕ} 0 1 = cc in omega arith)
values-injective (p ∷ ps) (q ∷ qs) h =
    let first : blobs p ≡ blobs q = cc in
    let rest : command_values ps ≡ command_values qs = cc in
    ap₂ ◌∷◌ (blobs-injective p q first) (values-injective ps qs rest)

-- no two rows of commands are sent alike
pub sent-injective : (ps qs : List Packed) → sent_bytes ps ≡ sent_bytes qs → ps ≡ qs
unfolding sent_bytes
sent-injective ps qs h =
    values-injective ps qs (encs-injective (command_values ps) (command_values qs) (values-valid ps) (values-valid qs) h)

-- nor inside the same frame
frame-injective : (b : Bool) (ps qs : List Packed) → wrapped b ps ≡ wrapped b qs → ps ≡ qs
unfolding wrapped
frame-injective true ps qs h =
    let inside : ps ++ (exec_texts ∷ []) ≡ qs ++ (exec_texts ∷ []) = cc in
    append_cancel_right ps qs (exec_texts ∷ []) inside
frame-injective false ps qs h = h

-- THE COMMANDS SENT are determined by the bytes
pub framed-injective : (b : Bool) (ps qs : List Packed) → sent_bytes (wrapped b ps) ≡ sent_bytes (wrapped b qs) → ps ≡ qs
framed-injective b ps qs h = frame-injective b ps qs (sent-injective (wrapped b ps) (wrapped b qs) h)
