-- Rule B11 for hits and misses: after a sequence of calls the two counts are those at its start and the hits and misses that the calls
-- answered, wrapping. Assumes of the counts at the start that they are of 64 bits.
use Rattle.std.specs.Prelude.{◌≡◌, ℕ, ◌+◌, ◌^◌, Bool, true, false}
use Rattle.std.proofs.Math.Path.{refl, sym, ap}
use Rattle.std.proofs.Common.{ap₂, ◌∙◌, mod-eq_of_lt}
use Rattle.std.proofs.Math.Nat.{mod-add-mod}
use native.Mathlib.Omega.{arith}
use Rattle.std.proofs.Math.Option.{Option, none, some}
use mathlib.Core.List.{List, [], ◌∷◌}
use Rattle.buffer.specs.Cases.{by_test}
use Rattle.buffer.specs.Same.{Bytes}
use Rattle.config.specs.Wrap.{wrap}
use Rattle.book.specs.Book.{Item, Row, Setup, Book, Counts, plus, Answer, hit, miss, stored, no_space, invalidated, number, Keyed, lookup}
use Rattle.book.specs.Book.{store, invalidate, Event, on, invalidate_all, new_epoch, find, without, value_for, current, serve, lookup_item, if_fits}
use Rattle.book.specs.Book.{key_of, effect_on, effect, count, put, after, answer_to, after_all, answers}
use Rattle.book.specs.Calls.{Storing, Call, planning, resolving, resolving7, push, push_all, single, take_epoch, refused, stores, ons, events_of}
use Rattle.book.specs.Calls.{is_refused, remaining, happening, after_call, reply_to, after_calls, replies}
use Rattle.book.specs.Counted.{Counted}

-- ---- what is counted

-- a hit
unfoldable pub hits_in : Answer → ℕ
hits_in (hit v) = 1
hits_in miss = 0
hits_in stored = 0
hits_in no_space = 0
hits_in invalidated = 0
hits_in (number n) = 0

-- a miss
unfoldable pub misses_in : Answer → ℕ
misses_in (hit v) = 0
misses_in miss = 1
misses_in stored = 0
misses_in no_space = 0
misses_in invalidated = 0
misses_in (number n) = 0

-- how many in the answers of a call
unfoldable pub tally : (Answer → ℕ) → List Answer → ℕ
tally g [] = 0
tally g (x ∷ xs) = g x + tally g xs

-- which are none where it is refused
unfoldable pub tally_reply : (Answer → ℕ) → Option (List Answer) → ℕ
tally_reply g none = 0
tally_reply g (some xs) = tally g xs

-- and in those of a sequence
unfoldable pub tally_all : (Answer → ℕ) → List (Option (List Answer)) → ℕ
tally_all g [] = 0
tally_all g (r ∷ rs) = tally_reply g r + tally_all g rs

-- ---- any count that goes by the answers
