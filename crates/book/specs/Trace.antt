-- Laws of traces: which row an event changes, what holds of every row after any events, and the trace of a sequence of calls.
-- Assumes what each law says of the setup.
use Rattle.std.specs.Prelude.{◌≡◌, refl, false, eqb}
use Rattle.std.proofs.Common.{sym, ap, ◌∙◌, arith, eqb-true}
use Rattle.std.proofs.Math.Path.{subst}
use Prim.Native.Nat.{ℕ, ◌≤◌, ◌<◌}
use mathlib.Core.List.{List, [], ◌∷◌}
use Rattle.buffer.specs.Cases.{by_test, eqb_same}
use Rattle.buffer.specs.Same.{Bytes}
use Rattle.book.specs.Book.{Row, Setup, Book, Counts, key_of, effect_on, Event, on, invalidate_all, new_epoch, fresh, set_row, put, effect, after, after_all}
use Rattle.book.specs.Calls.{Call, happening, after_call, after_calls, run, onto, traced}
use Rattle.book.specs.Sound.{Sound}

-- ---- rows

-- of every shard
abbrev pub SoundBook : Setup → Book → Type 0
SoundBook p bk = (s : ℕ) → Sound p s (bk.rows s)
