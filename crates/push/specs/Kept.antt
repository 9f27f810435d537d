-- What the inner functions keep: an arena and counts that are a book's, and values that stand where a cursor does. Assumes nothing: these are definitions.
use Rattle.std.specs.Prelude.{◌≡◌}
use Rattle.buffer.specs.Same.{Bytes}
use Rattle.config.specs.declared.Settings.{Settings}
use Rattle.statistics.specs.declared.Statistics.{Statistics}
use Rattle.resp3.specs.Value.{Value, Values, Means}
use Rattle.resp3_element.specs.declared.Cursor.{Cursor}
use Rattle.resp3_element.specs.Meaning.{Stands}
use Rattle.book.specs.Book.{Book}
use Rattle.sharded_lru.specs.Lent.{Lent}
use Rattle.statistics.specs.OfBook.{counts_of}

-- the arena s and the counts c are those of the book bk
pub record Kept (g : Settings) (s : Bytes) (c : Statistics) (bk : Book) : Type 0 where
  pub lent : Lent g s bk.rows
  pub counts : counts_of c ≡ bk.counts

-- the bytes are some value
pub record One (s : Bytes) : Type 0 where
  pub value : Value
  pub means : Means s value

-- the cursor stands before some values
pub record Standing (s : Bytes) (c : Cursor) : Type 0 where
  pub values : Values
  pub stands : Stands s c values
