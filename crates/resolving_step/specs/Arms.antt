-- Each arm of a step does what the walk does at its node: one law for each way through the code. Assumes nothing.
use Rattle.std.specs.Prelude.{◌≡◌, refl, ℕ, ◌+◌, ◌-◌, ◌≤◌, ◌<◌, length, Option, Some, None}
use Rattle.std.proofs.Common.{sym, subst, ◌∙◌, arith}
use Rattle.std.proofs.Math.Option.{some}
use Rattle.std.proofs.Math.Option as option
use Rattle.buffer.specs.Same.{Bytes}
use Rattle.buffer.specs.Part.{part}
use Rattle.buffer.specs.PartLaws.{part-part, length_part}
use Rattle.config.specs.declared.CacheMode.TheVariants.{OptIn}
use Rattle.resp3.specs.Value.{Value, Values, none, more, Means}
use Rattle.resp3_element.specs.declared.Cursor.{Cursor}
use Rattle.resp3_element.specs.Meaning.{array_of, Inside, Stands, Holds}
use Rattle.resp3_element.specs.CursorLaw.{element-law}
use Rattle.book.specs.Calls.{Missing}
use Rattle.planning.specs.Plan.{null_start, null_end}
use Rattle.resolving.specs.Resolve.{eaten}
use Rattle.resolving_walk.specs.Walk.{nothing, move, hand_move, single_move, array_move, several_move, waiting_move}
use Rattle.resolving_step.specs.declared.Walk.{Walk}
use Rattle.resolving_step.specs.declared.Missed.{Missed}
use Rattle.resolving_step.specs.declared.Step.{Step}
use Rattle.resolving_step.specs.declared.Next.{Next}
use Rattle.resolving_step.specs.declared.Next.TheVariants.{Plan, Reply, Head, Pass}
use Rattle.resolving_step.specs.Steps.{Bounds, Lists, Placed, MissedIs, Fetches, Moved, ReadyFor}
use Rattle.resolving_step.specs.Says.{reply-says, blank-says, head-says, pass-says}

-- ---- cursors

-- the element of a cursor, as a part
pub element-means : (s : Bytes) (c : Cursor) (v : Value) (vs : Values) → Stands s c (more v vs) → Means (part s c.at (c.end - c.at)) v
unfolding part
element-means s c v vs h = element-law s c v vs h

-- no bytes are no values
pub empty_stands : (s : Bytes) → Stands (part s 0 0) (record { at = 0; end = 0; left = 0 }) none
unfolding part
empty_stands s = record { inside = record { order = omega arith; within = omega arith }; left = refl; ok = tt; deep = omega arith; here = refl; after = refl }

-- q is the cursor after c
abbrev pub After : Bytes → Cursor → Cursor → Type 0
After s c q = (v : Value) (vs : Values) → Stands s c (more v vs) → Stands s q vs

-- the walk with another reply
abbrev pub with_reply : Walk → Cursor → Walk
with_reply c q = record { at = c.at; reply = q; from = c.from; to = c.to; element = c.element }

-- a step that says n
abbrev pub says : Next → Walk → Step
says n c = record { next = n; walk = c }

-- nothing is left where the count is 0, and something where it is not
none_left : {A : Type 0} (s : Bytes) (c : Cursor) (v : Value) (vs : Values) → Stands s c (more v vs) → c.left ≡ 0 → A
none_left s c v vs h e = absurd (omega (arith, h.left))

some_left : {A : Type 0} (s : Bytes) (c : Cursor) → Stands s c none → ((c.left ≡ 0) → ⊥) → A
some_left s c h e = absurd (e h.left)

module _ (p s : Bytes) (b : Bounds p s) where
  -- the lists after one reply
  next-lists : (c : Walk) (q : Cursor) (es : Values) (v : Value) (rs : Values) → Lists s c es (more v rs) → After s c.reply q → Lists s (with_reply c q) es rs
  next-lists c q es v rs h f = record { replies = f v rs h.replies; order = h.order; within = h.within; elements = h.elements }

  -- ---- a reply that is handed on

  pub hand-none : (c : Walk) (es rs : Values) → Lists s c es rs → c.reply.left ≡ 0 → Moved p s c None (hand_move es rs)
  hand-none c es none h e = tt
  hand-none c es (more v rs) h e = none_left s c.reply v rs h.replies e

  pub hand-one : (c d : Walk) (q : Cursor) (es rs : Values) → Lists s c es rs → ((c.reply.left ≡ 0) → ⊥) → After s c.reply q → d ≡ with_reply c q
      → Moved p s c (Some (says (Reply c.reply.at c.reply.end) d)) (hand_move es rs)
  hand-one c d q es none h e f g = some_left s c.reply h.replies e
  hand-one c d q es (more v rs) h e f g =
      rw g (
        reply-says p s c.reply.at c.reply.end v h.replies.inside.order h.replies.inside.within (element-means s c.reply v rs h.replies),
        next-lists c q es v rs h f,
        refl,
      )

  -- ---- one missing key

  pub single-short : (c : Walk) (clock : ℕ) (w : Missing) (es rs : Values) → Lists s c es rs → c.reply.left < 2
      → Moved p s c None (single_move clock w es rs)
  single-short c clock w es none h l = tt
  single-short c clock w es (more t none) h l = tt
  single-short c clock w es (more t (more v rs)) h l = absurd (omega (arith, h.replies.left))

  pub single-both : (c d : Walk) (q r : Cursor) (m : Missed) (clock : ℕ) (n : Next) (w : Missing) (es rs : Values) → MissedIs p m w → Lists s c es rs
      → 2 ≤ c.reply.left → After s c.reply q → After s q r → Fetches s m clock c.reply q.at q.end n → d ≡ with_reply c r
      → Moved p s c (Some (says n d)) (single_move clock w es rs)
  single-both c d q r m clock n w es none u h l f g k z = absurd (omega (arith, h.replies.left))
  single-both c d q r m clock n w es (more t none) u h l f g k z = absurd (omega (arith, h.replies.left))
  single-both c d q r m clock n w es (more t (more v rs)) u h l f g k z =
      let y = f t (more v rs) h.replies in
      rw z (
        k p w t v (more v rs) b u h.replies (element-means s q v rs y),
        record { replies = g v rs y; order = h.order; within = h.within; elements = h.elements },
        refl,
      )

  -- ---- several keys

  pub several-none : (c : Walk) (n : ℕ) (es rs : Values) → Lists s c es rs → c.reply.left ≡ 0 → Moved p s c None (several_move n rs)
  several-none c n es none h e = tt
  several-none c n es (more v rs) h e = none_left s c.reply v rs h.replies e

  -- x is the reply's bytes
  abbrev pub ReplyIs : Walk → Bytes → Type 0
  ReplyIs c x = (v : Value) (vs : Values) → Stands s c.reply (more v vs) → Means x v

  abbrev pub ArrayIs : Bytes → Option Cursor → Type 0
  ArrayIs x r = (v : Value) → Means x v → Holds x r (array_of v)

  pub several-no : (c : Walk) (n : ℕ) (x : Bytes) (es rs : Values) → Lists s c es rs → ReplyIs c x → ArrayIs x None
      → Moved p s c None (several_move n rs)
  several-no c n x es none h f g = tt
  several-no c n x es (more v rs) h f g = go (array_of v) (g v (f v rs h.replies))
    where
      go : (o : option.Option Values) → Holds x None o → Moved p s c None (array_move n o rs)
      go option.none k = tt
      go (some vs) k = absurd k

  -- the walk in the array that the reply is
  abbrev pub in_array : Walk → Cursor → Cursor → Walk
  in_array c q first = record { at = c.at; reply = q; from = c.reply.at; to = c.reply.end; element = first }

  pub several-of : (c : Walk) (n : ℕ) (x : Bytes) (first q : Cursor) (es rs : Values) → Lists s c es rs → ((c.reply.left ≡ 0) → ⊥) → ReplyIs c x
      → ArrayIs x (Some first)
      → After s c.reply q → Moved p s c (Some (says (Head n) (in_array c q first))) (several_move n rs)
  several-of c n x first q es none h e f g a = some_left s c.reply h.replies e
  several-of c n x first q es (more v rs) h e f g a = go (array_of v) (g v (f v rs h.replies))
    where
      same_bytes : x ≡ part s c.reply.at (c.reply.end - c.reply.at)
      same_bytes = (f v rs h.replies).is ∙ sym (element-means s c.reply v rs h.replies).is

      go : (o : option.Option Values) → Holds x (Some first) o → Moved p s c (Some (says (Head n) (in_array c q first))) (array_move n o rs)
      go option.none k = absurd k
      go (some vs) k = (
        head-says p s n,
        record {
          replies = a v rs h.replies;
          order = h.replies.inside.order;
          within = h.replies.inside.within;
          elements = subst (λ (y : Bytes). Stands y first vs) same_bytes k;
        },
        refl,
      )

  -- ---- a place that waits

  -- an element of the array, as a part of the list
  pub element-in : (c : Walk) (es rs : Values) (v : Value) (vs : Values) → Lists s c es rs
      → Stands (part s c.from (c.to - c.from)) c.element (more v vs)
      → Means (part s (c.from + c.element.at) (c.from + c.element.end - (c.from + c.element.at))) v
  element-in c es rs v vs h k =
      let A : Bytes = part s c.from (c.to - c.from) in
      let l : length A ≡ c.to - c.from = length_part s c.from (c.to - c.from) (omega (arith, h.order, h.within)) in
      let e : c.from + c.element.end - (c.from + c.element.at) ≡ c.element.end - c.element.at = omega arith in
      let i = k.inside.order in
      let j = k.inside.within in
      let q : part A c.element.at (c.element.end - c.element.at) ≡ part s (c.from + c.element.at) (c.element.end - c.element.at) =
      part-part s c.from (c.to - c.from) c.element.at (c.element.end - c.element.at) (omega arith) in
      rw e (subst (λ (y : Bytes). Means y v) q (element-means A c.element v vs k))

  pub waiting-element : (c : Walk) (clock : ℕ) (w : Missing) (es rs : Values) → Lists s c es rs → c.element.left ≡ 0
      → Moved p s c (Some (says (Plan null_start null_end) c)) (waiting_move clock w es rs)
  waiting-element c clock w none rs h e = (blank-says p s b, h, refl)
  waiting-element c clock w (more v es) rs h e = none_left (part s c.from (c.to - c.from)) c.element v es h.elements e

  pub waiting-pttl : (c : Walk) (clock : ℕ) (w : Missing) (es rs : Values) → Lists s c es rs → ((c.element.left ≡ 0) → ⊥) → c.reply.left ≡ 0
      → Moved p s c (Some (says (Plan null_start null_end) c)) (waiting_move clock w es rs)
  waiting-pttl c clock w none rs h k e = (blank-says p s b, h, refl)
  waiting-pttl c clock w (more v es) none h k e = (blank-says p s b, h, refl)
  waiting-pttl c clock w (more v es) (more t rs) h k e = none_left s c.reply t rs h.replies e

  pub waiting-both : (c : Walk) (q r : Cursor) (m : Missed) (clock : ℕ) (n : Next) (w : Missing) (es rs : Values) → MissedIs p m w → Lists s c es rs
      → ((c.element.left ≡ 0) → ⊥) → ((c.reply.left ≡ 0) → ⊥) → After (part s c.from (c.to - c.from)) c.element q → After s c.reply r
      → Fetches s m clock c.reply (c.from + c.element.at) (c.from + c.element.end) n
      → Moved p s c (Some (says n (record { at = c.at; reply = r; from = c.from; to = c.to; element = q }))) (waiting_move clock w es rs)
  waiting-both c q r m clock n w none rs u h e i f g k = some_left (part s c.from (c.to - c.from)) c.element h.elements e
  waiting-both c q r m clock n w (more v es) none u h e i f g k = some_left s c.reply h.replies i
  waiting-both c q r m clock n w (more v es) (more t rs) u h e i f g k = (
    k p w t v rs b u h.replies (element-in c (more v es) (more t rs) v es h h.elements),
    record { replies = g t rs h.replies; order = h.order; within = h.within; elements = f v es h.elements },
    refl,
  )

  -- ---- the end of several keys

  -- the walk in no array
  abbrev pub over : Walk → Walk
  over c = record { at = c.at; reply = c.reply; from = 0; to = 0; element = record { at = 0; end = 0; left = 0 } }

  over-lists : (c : Walk) (es rs : Values) → Lists s c es rs → Lists s (over c) none rs
  over-lists c es rs h = record { replies = h.replies; order = omega arith; within = omega arith; elements = empty_stands s }

  pub ends-element : (c : Walk) (es rs : Values) → Lists s c es rs → c.element.left ≡ 0 → Moved p s c (Some (says Pass (over c))) (move nothing none (eaten es rs))
  ends-element c none rs h e = (pass-says p s, over-lists c none rs h, refl)
  ends-element c (more v es) rs h e = none_left (part s c.from (c.to - c.from)) c.element v es h.elements e

  pub ends-pttl : (c : Walk) (es rs : Values) → Lists s c es rs → c.reply.left ≡ 0 → Moved p s c (Some (says Pass (over c))) (move nothing none (eaten es rs))
  ends-pttl c none rs h e = (pass-says p s, over-lists c none rs h, refl)
  ends-pttl c (more v es) none h e = (pass-says p s, over-lists c (more v es) none h, refl)
  ends-pttl c (more v es) (more t rs) h e = none_left s c.reply t rs h.replies e

  pub ends-both : (c d : Walk) (q : Cursor) (es rs : Values) → Lists s c es rs → ((c.element.left ≡ 0) → ⊥) → ((c.reply.left ≡ 0) → ⊥)
      → After s c.reply q
      → d ≡ with_reply (over c) q → Moved p s c (Some (says Pass d)) (move nothing none (eaten es rs))
  ends-both c d q none rs h e i f g = some_left (part s c.from (c.to - c.from)) c.element h.elements e
  ends-both c d q (more v es) none h e i f g = some_left s c.reply h.replies i
  ends-both c d q (more v es) (more t rs) h e i f g =
      rw g (pass-says p s, record { replies = f t rs h.replies; order = omega arith; within = omega arith; elements = empty_stands s }, refl)

-- ---- opt-in

pub ready-stop : (s : Bytes) (c : Walk) (es rs : Values) → Lists s c es rs → c.reply.left ≡ 0 → ReadyFor s c es OptIn rs None
ready-stop s c es none h e = tt
ready-stop s c es (more v rs) h e = none_left s c.reply v rs h.replies e

pub ready-go : (s : Bytes) (c d : Walk) (q : Cursor) (es rs : Values) → Lists s c es rs → ((c.reply.left ≡ 0) → ⊥) → After s c.reply q → d ≡ with_reply c q
    → ReadyFor s c es OptIn rs (Some d)
ready-go s c d q es none h e f g = some_left s c.reply h.replies e
ready-go s c d q es (more v rs) h e f g =
    rw g (record { replies = f v rs h.replies; order = h.order; within = h.within; elements = h.elements }, refl)

-- ---- what the callees ask for

-- the second of two replies lies in the list
pub record Second (s : Bytes) (q : Cursor) : Type 0 where
  pub inside : Inside s q
  pub some : 0 < q.left

pub second-reply : (s : Bytes) (c : Walk) (q : Cursor) → Placed s c → 2 ≤ c.reply.left → After s c.reply q → Second s q
second-reply s c q a l f = go a.rs a.lists.replies
  where
    go : (rs : Values) → Stands s c.reply rs → Second s q
    go none h = absurd (omega (arith, h.left))
    go (more t none) h = absurd (omega (arith, h.left))
    go (more t (more v rs)) h = let y = f t (more v rs) h in record { inside = y.inside; some = omega (arith, y.left) }

-- an element of the array lies in the list
pub element-inside : (s : Bytes) (c : Walk) → Placed s c → (c.element.at ≤ c.element.end) × (c.from + c.element.end ≤ length s)
element-inside s c a =
    let h = a.lists in
    let l : length (part s c.from (c.to - c.from)) ≡ c.to - c.from = length_part s c.from (c.to - c.from) (omega (arith, h.order, h.within)) in
    (h.elements.inside.order, omega (arith, h.elements.inside.within, h.order, h.within))
