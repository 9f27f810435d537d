-- What a caller holds of the cache, and the book that it stands for. Assumes nothing: these are definitions.
use Rattle.std.specs.Prelude.{ℕ}
use Rattle.buffer.specs.Same.{Bytes}
use Rattle.book.specs.Book.{Setup, Row, Book, Counts}
use Rattle.arena.specs.Layout.{encode}

-- what the caller holds between calls and lends to the next one (rule D1)
pub record Held : Type 0 where
  pub arena : Bytes
  pub counts : Counts
  pub next : ℕ

-- the book as the caller holds it, with an arena of n bytes
unfoldable pub lend : Setup → ℕ → Book → Held
lend p n bk = record { arena = encode p n bk.rows; counts = bk.counts; next = bk.next }

-- the book that the caller holds, with the rows that its arena encodes
abbrev pub book_of : (ℕ → Row) → Held → Book
book_of rows h = record { rows = rows; counts = h.counts; next = h.next }
