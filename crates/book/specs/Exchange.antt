-- Two neighbouring calls with no shard in common may change places: each a single lookup, store or invalidation or a push, refused or not.
-- Then the book at the end is the same, and so is what every call answers. Assumes nothing.
use Rattle.std.specs.Prelude.{◌≡◌, refl, ◌≢◌, ℕ, suc, ◌+◌, ◌%◌, ◌^◌, List, [], ◌∷◌, ◌++◌, length, eqb}
use Rattle.std.proofs.Common.{sym, ap, ap₂, ◌∙◌, subst, arith, eqb-true, ne_eqb}
use Rattle.std.proofs.Math.Path.{fun_ext}
use Rattle.std.proofs.Math.Nat.{mod-add-mod}
use Rattle.std.proofs.Math.Option.{Option, some}
use Rattle.buffer.specs.Cases.{by_test}
use Rattle.buffer.specs.Same.{Bytes}
use Rattle.config.specs.Wrap.{wrap}
use Rattle.book.specs.Book.{Row, Setup, Book, Counts, Effect, Answer, Keyed, key_of, on, count, set_row, put, effect, after, answer_to, after_all, answers}
use Rattle.book.specs.Calls.{Call, push, push_all, single, refused, invalidations, ons, after_call, reply_to, after_calls, replies, homes, these}
use Rattle.book.specs.Calls.{shards_of, NotAmong, Apart, NoneCommon, call-defs}

-- ---- two events in different shards

-- the calls that may change places (rule D4): single calls and pushes, refused or not
pub data Movable : Call → Type 0 where
  a_single : (q : Keyed) → Movable (single q)
  a_push : (ks : List Bytes) → Movable (push ks)
  a_push_all : Movable push_all
  a_refused : Movable refused

-- the exchange leaves the same book at the end, and every call its answer: the calls before and behind the two, and of the two each its own
pub record Swapped (p : Setup) (bk : Book) (before : List Call) (x y : Call) (later : List Call) : Type 0 where
  pub book : after_calls p (before ++ (x ∷ y ∷ later)) bk ≡ after_calls p (before ++ (y ∷ x ∷ later)) bk
  pub of_before : List (Option (List Answer))
  pub of_x : Option (List Answer)
  pub of_y : Option (List Answer)
  pub of_later : List (Option (List Answer))
  pub as_many : length of_before ≡ length before
  pub answered : replies p (before ++ (x ∷ y ∷ later)) bk ≡ of_before ++ (of_x ∷ of_y ∷ of_later)
  pub exchanged : replies p (before ++ (y ∷ x ∷ later)) bk ≡ of_before ++ (of_y ∷ of_x ∷ of_later)
