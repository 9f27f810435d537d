-- What is written for lists, one after the other: nodes of the plan, commands that are sent. Assumes nothing.
use Rattle.std.specs.Prelude.{◌≡◌, refl, List, [], ◌∷◌, ◌++◌}
use Rattle.std.proofs.Common.{sym, ap, ap₂, ◌∙◌, append_assoc}
use Rattle.buffer.specs.Same.{Bytes}
use Rattle.format.specs.Lists.{enc_all}
use Rattle.resp3.specs.Value.{encs}
use Rattle.resp3.specs.Rows.{enc-is}
use Rattle.cmd.specs.Pack.{packed, command_value}
use Rattle.planning.specs.Sent.{Packed, command_values, sent_bytes}

-- two lists
pub enc_all-append : {A : Type 0} (f : A → Bytes) (xs ys : List A) → enc_all f (xs ++ ys) ≡ enc_all f xs ++ enc_all f ys
enc_all-append f [] ys = refl
enc_all-append f (x ∷ xs) ys = ap (λ (z : Bytes). f x ++ z) (enc_all-append f xs ys) ∙ sym (append_assoc (f x) (enc_all f xs) (enc_all f ys))

-- what is sent is each command, packed
pub sent-packed : (ps : List Packed) → sent_bytes ps ≡ enc_all packed ps
unfolding sent_bytes command_values packed
sent-packed [] = refl
sent-packed (p ∷ ps) =
    enc-is (command_value p) (encs (command_values ps) []) ∙ ap (λ (z : Bytes). packed p ++ z) (sent-packed ps)

-- for two lists
pub sent-append : (xs ys : List Packed) → sent_bytes (xs ++ ys) ≡ sent_bytes xs ++ sent_bytes ys
sent-append xs ys = sent-packed (xs ++ ys) ∙ enc_all-append packed xs ys ∙ ap₂ ◌++◌ (sym (sent-packed xs)) (sym (sent-packed ys))
