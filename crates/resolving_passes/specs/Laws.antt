-- The two passes by the shared invariant. Assumes nothing.
use Rattle.std.specs.Prelude.{◌≡◌, refl, Option, None, Some, is_some, IsSome, true, List, [], ◌++◌, ℕ, ◌+◌, ◌-◌, ◌≤◌, ◌<◌}
use Rattle.std.proofs.Common.{sym, ◌∙◌, length-append}
use Rattle.std.proofs.Math.Path.{ap}
use native.Mathlib.Omega.{arith}
use Rattle.std.proofs.Math.ListN.{length}
use Rattle.buffer.specs.Same.{Bytes}
use Rattle.buffer.specs.Part.{part, put}
use Rattle.buffer.specs.PartLaws.{length_part, length-put, put-put}
use Rattle.buffer.specs.Step.{put-nil}
use Rattle.config.specs.declared.CacheMode.{CacheMode}
use Rattle.resp3.specs.Value.{Values}
use Rattle.book.specs.Calls.{Storing}
use Rattle.planning.specs.Plan.{Node}
use Rattle.resolving_walk.specs.Walk.{Walked, stopped, through, before, walk}
use Rattle.resolving_step.specs.declared.Walk.{Walk}
use Rattle.resolving_step.specs.declared.Step.{Step}
use Rattle.resolving_step.specs.declared.Next.{Next}
use Rattle.resolving_step.specs.declared.Next.TheVariants.{Plan, Reply, Head, Keep, Pass}
use Rattle.resolving_step.specs.Steps.{element_bytes, next_bytes, next_stores, NextIn, StepIs}
use Rattle.room.specs.Room.{spent, has_room, room-spent, room-nothing}
use Rattle.resolving_passes.specs.declared.Dry.TheVariants.{Wrong}
use Rattle.resolving_passes.specs.Passes.{Ordered, next_size, Starts, dry_if, dry_of, FineWalk, Fine, answer_bytes}
use Rattle.resolving_passes.specs.Reached.{Reached, start, Stepped, stepped, stops, ended}

-- ---- sizes

part-size : (s : Bytes) (a e : ℕ) → a ≤ e → e ≤ length s → length (part s a (e - a)) ≡ e - a
part-size s a e l m = length_part s a (e - a) (omega arith)

pub size-law : (p s : Bytes) (n : Next) → NextIn p s n → next_size n ≡ length (next_bytes p s n)
size-law p s (Plan a e) h = sym (part-size p a e h.0 h.1)
size-law p s (Reply a e) h = sym (part-size s a e h.0 h.1)
size-law p s (Head n) h = simp length-append (omega arith)
size-law p s (Keep m a e) h = sym (part-size s a e h.0 h.1)
size-law p s Pass h = refl

pub in_order : (p s : Bytes) (n : Next) → NextIn p s n → Ordered n
in_order p s (Plan a e) h = h.0
in_order p s (Reply a e) h = h.0
in_order p s (Head n) h = tt
in_order p s (Keep m a e) h = h.0
in_order p s Pass h = tt

-- what is no head is the element that is handed out
pub no-head : (p s : Bytes) (n : Next) → ((k : ℕ) → n ≡ Head k → ⊥) → next_bytes p s n ≡ element_bytes p s n
no-head p s (Plan a e) h = refl
no-head p s (Reply a e) h = refl
no-head p s (Head n) h = absurd (h n refl)
no-head p s (Keep m a e) h = refl
no-head p s Pass h = refl

-- ---- the dry pass

-- how the room stands after n bytes, from the room that there was
abbrev pub Tally : Option ℕ → ℕ → Option ℕ → Type 0
Tally room n r = (x : ℕ) → has_room r x ≡ has_room room (n + x)

pub room-same : (room : Option ℕ) → Tally room 0 room
room-same room x = let e : x ≡ 0 + x = omega arith in ap (has_room room) e

-- n bytes more
pub tally-spent : (room r : Option ℕ) (n k : ℕ) → Tally room n r → Tally room (n + k) (spent r k)
tally-spent room r n k h x = let e : n + (k + x) ≡ n + k + x = omega arith in room-spent r k x ∙ h (k + x) ∙ ap (has_room room) e

module _ (p s : Bytes) (mode : CacheMode) (clock : ℕ) where
  -- where the dry pass stands
  pub record Dried (o : Walked) (c : Walk) (room r : Option ℕ) : Type 0 where
    pub bs : Bytes
    pub ss : List Storing
    pub at : Reached p s mode clock o c bs ss
    pub tally : Tally room (length bs) r

  pub dry-start : (room : Option ℕ) (c : Walk) (ns : List Node) (es rs : Values) → Starts p s c ns es rs → Dried (walk mode clock ns es rs) c room room
  dry-start room c ns es rs h = record { bs = []; ss = []; at = start p s mode clock c ns es rs h; tally = room-same room }

  pub dry-step : (o : Walked) (c : Walk) (room r : Option ℕ) (t : Step) → c.at < length p → StepIs p s c mode clock (Some t)
      → Dried o c room r
      → Dried o t.walk room (spent r (next_size t.next))
  dry-step o c room r t l f d =
      let g = stepped p s mode clock o c d.bs d.ss t d.at l f in
      let z = size-law p s t.next g.inside in
      let e : length (d.bs ++ next_bytes p s t.next) ≡ length d.bs + next_size t.next =
      length-append d.bs (next_bytes p s t.next) ∙ ap (λ (k : ℕ). length d.bs + k) (sym z) in
      record {
        bs = d.bs ++ next_bytes p s t.next;
        ss = d.ss ++ next_stores p s t.next;
        at = g.on;
        tally = rw e (tally-spent room r (length d.bs) (next_size t.next) d.tally);
      }

  pub dry-wrong : (o : Walked) (c : Walk) (room r : Option ℕ) → c.at < length p → StepIs p s c mode clock None
      → Dried o c room r
      → Wrong ≡ dry_of room o
  unfolding dry_of
  dry-wrong o c room r l f d = rw (stops p s mode clock o c d.bs d.ss d.at l f)

  pub dry-end : (o : Walked) (c : Walk) (room r : Option ℕ) → length p ≤ c.at → Dried o c room r → dry_if (is_some r) ≡ dry_of room o
  unfolding dry_of
  dry-end o c room r l d =
      let k : length d.bs + 0 ≡ length d.bs = omega arith in
      rw (ended p s mode clock o c d.bs d.ss d.at l)
      (ap dry_if (sym (room-nothing r) ∙ d.tally 0 ∙ ap (has_room room) k))

  -- ---- the answer pass

  -- where it stands: what is written so far
  pub record Written (o : Walked) (c : Walk) (at i : ℕ) (old new : Bytes) : Type 0 where
    pub bs : Bytes
    pub ss : List Storing
    pub reached : Reached p s mode clock o c bs ss
    pub place : i ≡ at + length bs
    pub bytes : new ≡ put old at bs
    pub fine : FineWalk at (length old) o

  fine-not : (at room : ℕ) (o : Walked) (ss : List Storing) → FineWalk at room o → o ≡ stopped ss → ⊥
  fine-not at room (stopped st) ss f e = f
  fine-not at room (through bs st) ss f e = let z : ◌≡◌ {A = ℕ} 0 1 = cc in omega arith

  room_for : (at room : ℕ) (o : Walked) (bs : Bytes) (ss : List Storing) (q : Walked) → FineWalk at room o → o ≡ before bs ss q → at + length bs ≤ room
  room_for at room o bs ss (stopped st) f e = absurd (fine-not at room o (ss ++ st) f e)
  room_for at room o bs ss (through b st) f e = let g : at + length (bs ++ b) ≤ room = rw e at f in omega (arith, length-append bs b)

  -- all that the pass needs before the plan's end
  pub record Ready (o : Walked) (c : Walk) (at i : ℕ) (old new : Bytes) (t : Step) (w : Written o c at i old new) : Type 0 where
    pub step : Stepped p s mode clock o c w.bs w.ss t
    pub fits : i + length (next_bytes p s t.next) ≤ length new

  -- there is a step
  pub write-some : (o : Walked) (c : Walk) (at i : ℕ) (old new : Bytes) (t : Option Step) → c.at < length p → StepIs p s c mode clock t
      → Written o c at i old new
      → IsSome t
  write-some o c at i old new None l f w = absurd (fine-not at (length old) o w.ss w.fine (stops p s mode clock o c w.bs w.ss w.reached l f))
  write-some o c at i old new (Some t) l f w = refl

  pub write-ready : (o : Walked) (c : Walk) (at i : ℕ) (old new : Bytes) (t : Step) → c.at < length p → StepIs p s c mode clock (Some t)
      → (w : Written o c at i old new)
      → Ready o c at i old new t w
  write-ready o c at i old new t l f w =
      let g = stepped p s mode clock o c w.bs w.ss t w.reached l f in
      let r = g.on in
      let k = room_for at (length old) o (w.bs ++ next_bytes p s t.next) (w.ss ++ next_stores p s t.next)
      (walk mode clock r.rest.ns r.rest.es r.rest.rs) w.fine r.is in
      let j = length-append w.bs (next_bytes p s t.next) in
      let h : length new ≡ length old = rw w.bytes (length-put old w.bs at (omega arith)) in
      record { step = g; fits = omega (arith, w.place) }

  pub write-start : (at : ℕ) (old : Bytes) (c : Walk) (ns : List Node) (es rs : Values) → Starts p s c ns es rs → Fine p s c mode clock at (length old)
      → Written (walk mode clock ns es rs) c at at old old
  write-start at old c ns es rs h f =
      record { bs = []; ss = []; reached = start p s mode clock c ns es rs h; place = omega arith; bytes = sym (put-nil old at); fine = f ns es rs h }

  pub write_step : (o : Walked) (c : Walk) (at i j : ℕ) (old new then : Bytes) (t : Step) → c.at < length p → StepIs p s c mode clock (Some t)
      → j ≡ i + length (next_bytes p s t.next) → then ≡ put new i (next_bytes p s t.next) → Written o c at i old new → Written o t.walk at j old then
  write_step o c at i j old new then t l f hj ht w =
      let r = write-ready o c at i old new t l f w in
      let q = r.step.on in
      let a = length-append w.bs (next_bytes p s t.next) in
      let k : at + length w.bs ≤ length old =
      room_for at (length old) o w.bs w.ss (walk mode clock w.reached.rest.ns w.reached.rest.es w.reached.rest.rs) w.fine
      w.reached.is in
      record {
        bs = w.bs ++ next_bytes p s t.next;
        ss = w.ss ++ next_stores p s t.next;
        reached = q;
        place = omega (arith, w.place);
        bytes = ht ∙ rw w.bytes (put-put old w.bs (next_bytes p s t.next) at i w.place (omega (arith, w.place)));
        fine = w.fine;
      }

  pub write-end : (o : Walked) (c : Walk) (at i : ℕ) (old new : Bytes) → length p ≤ c.at → Written o c at i old new
      → (i ≡ at + length (answer_bytes o)) × (new ≡ put old at (answer_bytes o))
  write-end o c at i old new l w = rw (ended p s mode clock o c w.bs w.ss w.reached l) (w.place, w.bytes)
