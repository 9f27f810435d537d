-- What planning asks the cache for one `MGET` or one `GET`: nothing, where the command is ignored or takes no part; else all its keys. With the arguments
-- read as keys and sent. Assumes nothing.
-- Letters: g settings, t clock, c command, k key, x client expiry.
use Rattle.std.specs.Prelude.{◌≡◌, refl, ℕ, ◌<◌, length}
use Rattle.std.proofs.Math.Path.{ap}
use Rattle.std.proofs.Common.{◌∙◌, arith}
use mathlib.Core.List.{List, [], ◌∷◌}
use Rattle.buffer.specs.Cases.{by_test}
use Rattle.buffer.specs.Same.{Bytes, same}
use Rattle.buffer.specs.Ascii.{ascii}
use Rattle.config.specs.declared.Settings.{Settings}
use Rattle.commands.specs.Names.{name-defs}
use Rattle.commands.specs.MultiKey.{multi_key}
use Rattle.call_record.specs.Record.{simple, Command, ignored}
use Rattle.cmd.specs.Pack.{texts}
use Rattle.planning.specs.Ask.{Ask, nothing, uncacheable, one_key, several_keys, takes_part, reach_by, reach, simples, after_name, ask_one, may_have, ask_listed}
use Rattle.planning.specs.Ask.{ask_several, ask_by, ask_from, ask}
use Rattle.planning.specs.Outcome.{as_simple}
use Rattle.planning.specs.Sent.{itself}

-- ---- either command

-- nothing, as it is ignored; nothing, as it takes no part; or its keys, with some client expiry
pub data Asked (keys : ℕ → Ask) : Ask → Type 0 where
  for_nothing : Asked keys nothing
  handed_over : Asked keys uncacheable
  for_keys : (x : ℕ) → Asked keys (keys x)

-- one that gets as far as its name asks for what the name says
asked_by : (g : Settings) (t : ℕ) (c : Command) (keys : ℕ → Ask) → ((x : ℕ) → Asked keys (ask_from (reach_by c.args) c.args x)) → Asked keys (ask g t c)
unfolding ask ask_from reach
asked_by g t c keys f =
    by_test (ignored c) (λ i. rw i for_nothing) (λ i. by_test (takes_part g.mode c) (λ p. rw (i, p) (f _)) (λ p. rw (i, p) handed_over))

-- ---- `MGET`

-- keys as arguments are read as these keys
simples-back : (ks : List Bytes) → simples (as_simple ks) ≡ ks
unfolding simples as_simple
simples-back [] = refl
simples-back (k ∷ ks) = ap (λ (l : List Bytes). k ∷ l) (simples-back ks)

-- and sent so, whatever the cursor
texts-back : (cur : ℕ) (ks : List Bytes) → texts cur (as_simple ks) ≡ ks
unfolding texts as_simple
texts-back cur [] = refl
texts-back cur (k ∷ ks) = ap (λ (l : List Bytes). k ∷ l) (texts-back cur ks)

-- at least one key is asked for
asks-keys : (ks : List Bytes) (x : ℕ) → 0 < length ks
    → Asked (λ y. several_keys (ascii "MGET") ks [] y) (ask_several (ascii "MGET") ks [] x)
unfolding ask_several
asks-keys [] x l = absurd (omega arith)
asks-keys (k ∷ ks) x l = for_keys x

module _ (c : Command) (ks : List Bytes) (args : c.args ≡ simple (ascii "MGET") ∷ as_simple ks) where
  -- what it asks for
  pub mget-asked : (g : Settings) (t : ℕ) → 0 < length ks → Asked (λ x. several_keys (ascii "MGET") ks [] x) (ask g t c)
  unfolding ask_from ask_by after_name reach_by multi_key same
  mget-asked g t l = asked_by g t c (λ x. several_keys (ascii "MGET") ks [] x) (λ x. rw (args, simples-back ks) (asks-keys ks x l))

  -- as it is sent
  pub mget-itself : itself c ≡ ascii "MGET" ∷ ks
  unfolding itself texts
  mget-itself = ap (texts c.cursor) args ∙ ap (λ (l : List Bytes). ascii "MGET" ∷ l) (texts-back c.cursor ks)

-- ---- `GET`

module _ (c : Command) (k : Bytes) (args : c.args ≡ simple (ascii "GET") ∷ simple k ∷ []) where
  -- what it asks for
  pub get-asked : (g : Settings) (t : ℕ) → Asked (λ x. one_key k x) (ask g t c)
  unfolding ask_from ask_by ask_listed ask_one may_have reach_by multi_key same name-defs
  get-asked g t = asked_by g t c (λ x. one_key k x) (λ x. rw args (for_keys x))

  -- as it is sent
  pub get-itself : itself c ≡ ascii "GET" ∷ k ∷ []
  unfolding itself texts
  get-itself = ap (texts c.cursor) args
