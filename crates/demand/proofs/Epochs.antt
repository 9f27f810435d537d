-- The clause `new_epochs`, and its corollary: a new epoch answers 1 and as many more as there were before it, wrapping. Both are seen on what the caller
-- holds: no other call is given the next number. Assumes that setup was not refused.
use Rattle.std.specs.Prelude.{◌≡◌, refl, ℕ, ◌+◌, ◌^◌, List, [], ◌∷◌, length}
use Rattle.std.proofs.Math.Path.{ap}
use Rattle.std.proofs.Common.{◌∙◌, arith}
use Rattle.std.proofs.Math.Nat.{mod-add-mod}
use Rattle.buffer.specs.Same.{Bytes}
use Rattle.config.specs.Wrap.{wrap}
use Rattle.book.specs.Book.{Counts}
use Rattle.arena.specs.Held.{Held}
use Rattle.call_entry.specs.Entered.{no_cause}
use Rattle.demand.specs.Call as real
use Rattle.demand.specs.Call.{RealCall, epoch_taken, setup_by, after_setup, step, held_after}
use Rattle.demand.specs.Demand.{held_by, CallIn, returned, book_before}
use Rattle.demand.specs.CorollaryWords.{epochs_in}
use Rattle.demand.proofs.Laws.{fine}

-- each new epoch adds one to the next number, wrapping, and no other call changes it
next-after : (size : ℕ) (cs : List RealCall) (h : Held) (n : ℕ) → h.next ≡ wrap n → (held_after size cs h).next ≡ wrap (n + epochs_in cs)
unfolding held_after step epochs_in
next-after size [] h n q = q ∙ ap wrap (omega arith)
next-after size (real.planning m d t e bytes plan send ∷ cs) h n q = next-after size cs (step size (real.planning m d t e bytes plan send) h).held n q
next-after size (real.resolving m d t e plan replies answer ∷ cs) h n q =
    next-after size cs (step size (real.resolving m d t e plan replies answer) h).held n q
next-after size (real.push m d bytes ∷ cs) h n q = next-after size cs (step size (real.push m d bytes) h).held n q
next-after size (real.lookup m d t e k c ∷ cs) h n q = next-after size cs (step size (real.lookup m d t e k c) h).held n q
next-after size (real.store m d e k c v x ∷ cs) h n q = next-after size cs (step size (real.store m d e k c v x) h).held n q
next-after size (real.invalidate m d k ∷ cs) h n q = next-after size cs (step size (real.invalidate m d k) h).held n q
next-after size (real.new_epoch ∷ cs) h n q =
    next-after size cs (step size real.new_epoch h).held (n + 1) (ap (λ (z : ℕ). wrap (z + 1)) q ∙ mod-add-mod n (2 ^ 64) 1) ∙ ap wrap (omega arith)

module _ (size mode ttl : ℕ) (s : Bytes) (lent : Counts) (set-up : (setup_by size mode ttl s).cause ≡ no_cause) where
  -- setup leaves 1
  next_one : (after_setup size mode ttl s lent).next ≡ wrap 1
  next_one = rw (fine size mode ttl (length s) set-up) refl

  -- what a new epoch after some calls answers
  taken : (before : List RealCall) → (step size real.new_epoch (held_by size mode ttl s lent before)).return ≡ epoch_taken (wrap (1 + epochs_in before))
  unfolding step
  taken before = ap epoch_taken (next-after size before (after_setup size mode ttl s lent) 1 next_one)

  -- the clause: what is held is the book's next number
  pub next-taken : (cs : List RealCall) (a : CallIn size mode ttl s lent cs)
      → (held_by size mode ttl s lent a.before).next ≡ (book_before size mode ttl s lent a).next
      → a.call ≡ real.new_epoch → returned size mode ttl s lent a ≡ epoch_taken (book_before size mode ttl s lent a).next
  unfolding step
  next-taken cs a is q = ap (λ (c : RealCall). (step size c (held_by size mode ttl s lent a.before)).return) q ∙ ap epoch_taken is

  -- the corollary
  pub new-epochs-field : (cs : List RealCall) (a : CallIn size mode ttl s lent cs) → a.call ≡ real.new_epoch
      → returned size mode ttl s lent a ≡ epoch_taken (wrap (1 + epochs_in a.before))
  new-epochs-field cs a q =
      ap (λ (c : RealCall). (step size c (held_by size mode ttl s lent a.before)).return) q ∙ taken a.before
