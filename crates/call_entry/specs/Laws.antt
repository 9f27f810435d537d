-- Laws of how calls begin: what holds of each way holds of the call; what `admit` answers decides the way; and a call that is refused leaves what the
-- caller holds. Assumes nothing.
use Rattle.std.proofs.Math.Path.{◌≡◌, refl, ap}
use Rattle.std.proofs.Common.{sym, arith, ◌∙◌, subst}
use Rattle.std.specs.Prelude.{Bool, ℕ, length, Result, Ok, Err}
use Rattle.std.proofs.Math.Bool.{true, false, cond}
use Rattle.std.proofs.Math.Option.{Option, none, some}
use Rattle.buffer.specs.Same.{Bytes}
use Rattle.config.specs.Causes.{bad_config, bad_arena, number}
use Rattle.config.specs.Config.{checked}
use Rattle.config.specs.Laws.{checked-cause}
use Rattle.config.specs.declared.Settings.{Settings}
use Rattle.config.specs.declared.Cause.{Cause}
use Rattle.config.specs.declared.Cause.TheVariants.{BadConfig, BadArena}
use Rattle.resp3.specs.Ends.{is_value}
use Rattle.book.specs.Book.{Setup, Row, after_all}
use Rattle.book.specs.Calls.{refused, after_call, call-defs}
use Rattle.arena.specs.Decode.{read_arena, is_image, decode}
use Rattle.arena.proofs.Image.{decode-exact}
use Rattle.arena.specs.Held.{Held, lend, book_of}
use Rattle.sharded_lru.specs.Lent.{setup_now}
use Rattle.sharded_lru.specs.Admit.{admitted_by, admitted}
use Rattle.call_entry.specs.Entered.{on_rows, entered}

-- refusals are the same where their causes are
same-cause : (x y : Cause) → ◌≡◌ {A = Result Settings Cause} (Err x) (Err y) → x ≡ y
same-cause x y e = cc

-- what holds of causes 1 and 9 holds of the cause for which a call is not admitted
pub each-refusal : (P : Cause → Type 0) → P BadConfig → P BadArena → (size mode ttl : ℕ) (cause : Cause) (s : Bytes) → admitted size mode ttl s ≡ Err cause
    → P cause
unfolding admitted
each-refusal P one nine size mode ttl cause s = go (checked size mode ttl (length s)) refl
  where
    judge : (g : Settings) (b : Bool) → cond b (Ok g) (Err BadArena) ≡ Err cause → P cause
    judge g true r = absurd (let z : ◌≡◌ {A = ℕ} 0 1 = cc in omega arith)
    judge g false r = subst P (same-cause BadArena cause r) nine

    go : (c : Result Settings Cause) → checked size mode ttl (length s) ≡ c → admitted_by c s ≡ Err cause → P cause
    go (Err x) q r = subst P (checked-cause size mode ttl (length s) x q ∙ same-cause x cause r) one
    go (Ok g) q r = judge g (is_image is_value (setup_now g) s) r

module _ {R : Type 0} (refusal : ℕ → R) (goes_on : Settings → (ℕ → Row) → R) where
  -- what holds of both refusals, and of the call on the rows of its arena, holds of the call
  pub each-entry : (P : R → Type 0) (c : Result Settings Cause) (s : Bytes) → P (refusal bad_config) → P (refusal bad_arena)
      → ((g : Settings) (rows : ℕ → Row) → c ≡ Ok g → decode is_value (setup_now g) s ≡ some rows → P (goes_on g rows)) → P (entered refusal goes_on c s)
  unfolding entered
  each-entry P (Err cause) s one nine f = one
  each-entry P (Ok g) s one nine f = go (decode is_value (setup_now g) s) refl
    where
      go : (o : Option (ℕ → Row)) → decode is_value (setup_now g) s ≡ o → P (on_rows refusal (goes_on g) o)
      go none d = unfold on_rows in nine
      go (some rows) d = unfold on_rows in f g rows refl d

  -- a call that neither refuses
  pub is-entered : (c : Result Settings Cause) (s : Bytes) (g : Settings) (rows : ℕ → Row) → c ≡ Ok g → decode is_value (setup_now g) s ≡ some rows
      → entered refusal goes_on c s ≡ goes_on g rows
  unfolding entered on_rows
  is-entered c s g rows e d = rw (e, d)

  -- one that `admit` refuses
  pub not_entered : (size mode ttl : ℕ) (cause : Cause) (s : Bytes) → admitted size mode ttl s ≡ Err cause
      → entered refusal goes_on (checked size mode ttl (length s)) s ≡ refusal (number cause)
  unfolding admitted
  not_entered size mode ttl cause s = go (checked size mode ttl (length s)) refl
    where
      told : (x y : Cause) → x ≡ y → refusal (number x) ≡ refusal (number y)
      told x y e = ap (λ (z : Cause). refusal (number z)) e

      judge : (g : Settings) (b : Bool) → cond b (Ok g) (Err BadArena) ≡ Err cause
          → on_rows refusal (goes_on g) (cond b (some (read_arena (setup_now g) s)) none) ≡ refusal (number cause)
      judge g true r = absurd (let z : ◌≡◌ {A = ℕ} 0 1 = cc in omega arith)
      judge g false r = unfold on_rows in told _ _ (same-cause BadArena cause r)

      go : (c : Result Settings Cause) → checked size mode ttl (length s) ≡ c → admitted_by c s ≡ Err cause → entered refusal goes_on c s ≡ refusal (number cause)
      go (Err x) q r =
          unfold entered in
          told _ _ (checked-cause size mode ttl (length s) x q ∙ same-cause x cause r)
      go (Ok g) q r = unfold entered decode in judge g (is_image is_value (setup_now g) s) r

-- a call whose refusals and whose way on the rows are another's, turned by f, returns what the other returns, turned by f
pub entered-like : {R Q : Type 0} (f : R → Q) (refusal : ℕ → R) (goes_on : Settings → (ℕ → Row) → R) (refusal' : ℕ → Q) (goes_on' : Settings → (ℕ → Row) → Q)
    → ((n : ℕ) → refusal' n ≡ f (refusal n)) → ((g : Settings) (rows : ℕ → Row) → goes_on' g rows ≡ f (goes_on g rows))
    → (c : Result Settings Cause) (s : Bytes) → entered refusal' goes_on' c s ≡ f (entered refusal goes_on c s)
unfolding entered
entered-like f refusal goes_on refusal' goes_on' a b (Err cause) s = a bad_config
entered-like f refusal goes_on refusal' goes_on' a b (Ok g) s = go (decode is_value (setup_now g) s)
  where
    go : (o : Option (ℕ → Row)) → on_rows refusal' (goes_on' g) o ≡ f (on_rows refusal (goes_on g) o)
    go none = unfold on_rows in a bad_arena
    go (some rows) = unfold on_rows in b g rows

-- a call that is refused leaves what the caller holds
pub refused-held : (p : Setup) (rows : ℕ → Row) (h : Held) → decode is_value p h.arena ≡ some rows
    → h ≡ lend p (length h.arena) (after_call p refused (book_of rows h))
unfolding lend call-defs after_all
refused-held p rows h e =
    let q = (decode-exact is_value p h.arena rows e).bytes in
    λ i. record { arena = sym q i; counts = h.counts; next = h.next }
