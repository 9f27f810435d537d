-- What the store pass does, on the book: its stores in order, and how many of them are refused as 11. Assumes nothing: these are definitions.
use Rattle.std.specs.Prelude.{◌≡◌, List, ℕ}
use Rattle.buffer.specs.Same.{Bytes}
use Rattle.config.specs.declared.CacheMode.{CacheMode}
use Rattle.config.specs.declared.Settings.{Settings}
use Rattle.resp3.specs.Value.{Values}
use Rattle.book.specs.Book.{Book, after_all, answers}
use Rattle.book.specs.Calls.{Storing, stores, ons, refusals}
use Rattle.planning.specs.Plan.{Node}
use Rattle.sharded_lru.specs.Lent.{setup_now, Lent}
use Rattle.resolving_walk.specs.Walk.{Walked, stopped, through, walk}
use Rattle.resolving_step.specs.declared.Walk.{Walk}
use Rattle.resolving_passes.specs.Passes.{Starts}

-- an arena that holds a book's rows becomes one that holds the rows after the stores, of which n are refused
abbrev pub Stores : Settings → ℕ → List Storing → Bytes → Bytes → ℕ → Type 0
Stores g epoch ss old new n =
    (bk : Book) → Lent g old bk.rows
    → Lent g new (after_all (setup_now g) (ons (stores epoch ss)) bk).rows × (n ≡ refusals (answers (setup_now g) (ons (stores epoch ss)) bk))

-- the stores of a walk; where it stopped, those before
unfoldable pub walked_stores : Walked → List Storing
walked_stores (stopped ss) = ss
walked_stores (through bs ss) = ss

abbrev pub StorePass : Settings → ℕ → Bytes → Bytes → Walk → CacheMode → ℕ → Bytes → Bytes → ℕ → Type 0
StorePass g epoch p s c mode clock old new n =
    (ns : List Node) (es rs : Values) → Starts p s c ns es rs → Stores g epoch (walked_stores (walk mode clock ns es rs)) old new n
