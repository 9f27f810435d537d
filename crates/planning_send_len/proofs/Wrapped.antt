-- Laws of the bytes of `MULTI` and `EXEC` around what is sent for a transaction (specs/Wrapped.antt). Assumes nothing.
use Rattle.std.specs.Prelude.{◌≡◌, Bool, true, false, List, [], ◌∷◌, ◌++◌, ◌+◌, length}
use Rattle.std.proofs.Common.{sym, ap, ap₂, ◌∙◌, append-nil}
use Rattle.buffer.specs.Same.{Bytes}
use Rattle.cmd.specs.Pack.{packed, multi_texts, exec_texts}
use Rattle.cmd.specs.Laws.{multi-is, exec-is}
use Rattle.planning.specs.Sent.{Packed, wrapped, sent_bytes}
use Rattle.planning_outcome.specs.Joined.{sent-append}
use Rattle.planning_send.specs.Sends.{sent-more, sent-one}
use Rattle.planning_send_len.specs.Wrapped.{start_bytes, end_bytes}

-- rule P17, as bytes
pub wrapped-bytes : (b : Bool) (l : List Packed) → sent_bytes (wrapped b l) ≡ start_bytes b ++ (sent_bytes l ++ end_bytes b)
unfolding wrapped start_bytes end_bytes
wrapped-bytes true l =
    sent-more multi_texts (l ++ (exec_texts ∷ []))
    ∙ ap (λ (z : Bytes). packed multi_texts ++ z) (sent-append l (exec_texts ∷ []) ∙ ap (λ (z : Bytes). sent_bytes l ++ z) (sent-one exec_texts))
wrapped-bytes false l = sym (append-nil (sent_bytes l))

module _ (b : Bool) where
  pub start-yes : b ≡ true → start_bytes b ≡ packed multi_texts
  unfolding start_bytes
  start-yes q = rw q

  pub start-no : b ≡ false → start_bytes b ≡ []
  unfolding start_bytes
  start-no q = rw q

  pub end-yes : b ≡ true → end_bytes b ≡ packed exec_texts
  unfolding end_bytes
  end-yes q = rw q

  pub end-no : b ≡ false → end_bytes b ≡ []
  unfolding end_bytes
  end-no q = rw q

  -- both together
  pub wrap-yes : b ≡ true → 29 ≡ length (start_bytes b) + length (end_bytes b)
  wrap-yes q = sym (ap₂ ◌+◌ (ap length (start-yes q ∙ multi-is)) (ap length (end-yes q ∙ exec-is)))

  pub wrap-no : b ≡ false → 0 ≡ length (start_bytes b) + length (end_bytes b)
  wrap-no q = sym (ap₂ ◌+◌ (ap length (start-no q)) (ap length (end-no q)))
