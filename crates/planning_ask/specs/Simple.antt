-- Simple arguments, one after the other, and the last one. Assumes nothing.
use Rattle.std.specs.Prelude.{◌≡◌, refl, Some, None, true, false, ℕ, zero, suc, ◌+◌, ◌-◌, ◌≤◌, ◌<◌, length}
use Rattle.std.proofs.Math.Path.{sym, ap}
use Rattle.std.proofs.Common.{ap₂, ◌∙◌, true≢false}
use mathlib.Core.List.{List, [], ◌∷◌, append-nil}
use native.Mathlib.Omega.{arith}
use Rattle.std.proofs.Math.ListN.{take}
use Rattle.std.proofs.Math.Seq.{take-length}
use borrow.Author.Tests.{ne_eqb}
use Rattle.buffer.specs.Same.{Bytes}
use Rattle.buffer.specs.Part.{part}
use Rattle.call_record.specs.Record.{Argument, simple, cursor}
use Rattle.cursor.specs.At.{range_bytes, RangeIn, args_of, ArgsHere}
use Rattle.cursor.specs.Steps.{in_start, in-more, args_none, args_more, arg_next, Stepped}
use Rattle.cursor.specs.Index.{Text, none, text, arg_idx}
use Rattle.cursor.specs.declared.Arg.{Arg}
use Rattle.cursor.specs.declared.Arg.TheVariants.{Simple, Cursor}
use Rattle.cursor.specs.declared.Args.{Args}
use Rattle.cursor.specs.declared.Range.{Range}
use Rattle.command_key.specs.Key.{command_key}
use Rattle.planning.specs.Ask as plan
use Rattle.planning.specs.Outcome.{as_simple}
use Rattle.planning_ask.specs.Asked.{simples_of, KeyStep}
use Rattle.planning_ask.specs.Steps.{simple_range, with_argument, last_in, Extracted, SeveralOf, HasName}
use Rattle.planning_ask.specs.declared.SimpleArgs.{SimpleArgs}

-- no argument is left
pub simples-none : (s : Bytes) (k : Args) → k.left ≡ 0 → simples_of s k ≡ []
unfolding plan.simples
simples-none s k q = rw (args_none s k.left k.at q)

module _ (s : Bytes) (k r : Args) where
  -- a cursor is passed over
  pub simples-cursor : Stepped s k Cursor r → simples_of s k ≡ simples_of s r
  unfolding plan.simples
  simples-cursor w = rw w.are

  -- a simple one is the first
  pub simples-first : (g : Range) → Stepped s k (Simple g) r → simples_of s k ≡ range_bytes s g ∷ simples_of s r
  unfolding plan.simples
  simples-first g w = rw w.are

-- ---- the next one

-- a simple argument is among those before k, and the first of them is the first before k₀
pub record Ahead (s : Bytes) (k₀ k : Args) : Type 0 where
  pub here : ArgsHere s k
  pub some : 0 < length (simples_of s k)
  pub is : simples_of s k₀ ≡ simples_of s k

module _ (s : Bytes) (k₀ k : Args) (w : Ahead s k₀ k) where
  -- so there is an argument
  pub ahead_more : k.left ≡ 0 → ⊥
  ahead_more q = let z = ap length (simples-none s k q) in let h = w.some in omega arith

  module _ (a : Arg) (r : Args) (x : Stepped s k a r) where
    -- a cursor is passed over
    pub ahead-next : simple_range a ≡ None → Ahead s k₀ r
    ahead-next q = go a q x
      where
        go : (a : Arg) → simple_range a ≡ None → Stepped s k a r → Ahead s k₀ r
        go (Simple g) q x = let z : ◌≡◌ {A = ℕ} 0 1 = cc in absurd (omega arith)
        go Cursor q x = let u = simples-cursor s k r x in record { here = x.here; some = rw u at w.some; is = w.is ∙ u }

    -- a simple one is the next
    pub ahead-found : (g : Range) → simple_range a ≡ Some g → KeyStep s k₀ (record { key = g; rest = r })
    ahead-found g q = go a q x
      where
        go : (a : Arg) → simple_range a ≡ Some g → Stepped s k a r → KeyStep s k₀ (record { key = g; rest = r })
        go (Simple d) q x =
            let e : d ≡ g = cc in
            let y : KeyStep s k₀ (record { key = d; rest = r }) = record { is = w.is ∙ simples-first s k r d x; inside = x.inside; here = x.here } in
            rw e at y
        go Cursor q x = let z : ◌≡◌ {A = ℕ} 0 1 = cc in absurd (omega arith)

-- ---- the last

-- the last of l, or of what stood before it
unfoldable pub last_behind : List Bytes → List Bytes → List Bytes
last_behind a [] = a
last_behind a (b ∷ l) = plan.last_only (b ∷ l)

pub last-all : (l : List Bytes) → plan.last_only l ≡ last_behind [] l
unfolding last_behind plan.last_only
last-all [] = refl
last-all (b ∷ l) = refl

pub last-next : (a : List Bytes) (b : Bytes) (l : List Bytes) → last_behind a (b ∷ l) ≡ last_behind (b ∷ []) l
unfolding last_behind plan.last_only
last-next a b [] = refl
last-next a b (d ∷ l) = refl

-- what was found of the arguments before k₀, when those before k are left
pub record Found (s : Bytes) (k₀ k : Args) (f : SimpleArgs) : Type 0 where
  pub here : ArgsHere s k
  pub count : f.count + length (simples_of s k) ≡ length (simples_of s k₀)
  pub last : plan.last_only (simples_of s k₀) ≡ last_behind (last_in s f) (simples_of s k)
  pub inside : RangeIn s f.last
  pub before : f.count ≤ k.at

-- at the start
pub found-start : (s : Bytes) (k : Args) → ArgsHere s k → Found s k k (record { count = 0; last = record { start = k.at; end = k.at } })
found-start s k w =
    let h = in_start s k.left k.at w in
    record { here = w; count = omega arith; last = last-all (simples_of s k); inside = (omega arith, h); before = omega arith }

-- one further
pub found-next : (s : Bytes) (k₀ k : Args) (a : Arg) (r : Args) (f : SimpleArgs) → Stepped s k a r → Found s k₀ k f → Found s k₀ r (with_argument f a)
found-next s k₀ k (Simple g) r f x w =
    let u = simples-first s k r g x in
    let l = ap length u in
    let e = x.ends in
    let c = w.count in
    let b = w.before in
    record {
      here = x.here;
      count = omega arith;
      last = w.last ∙ ap (last_behind (last_in s f)) u ∙ last-next (last_in s f) (range_bytes s g) (simples_of s r)
          ∙ rw (ne_eqb (f.count + 1) 0 (λ y. omega arith)) refl;
      inside = x.inside;
      before = omega arith;
    }
found-next s k₀ k Cursor r f x w =
    let u = simples-cursor s k r x in
    let e = x.ends in
    let b = w.before in
    record {
      here = x.here;
      count = ap (λ (l : List Bytes). f.count + length l) (sym u) ∙ w.count;
      last = w.last ∙ ap (last_behind (last_in s f)) u;
      inside = w.inside;
      before = omega arith;
    }

-- at the end
pub found-end : (s : Bytes) (k₀ k : Args) (f : SimpleArgs) → k.left ≡ 0 → Found s k₀ k f → Extracted s k₀ f
unfolding last_behind
found-end s k₀ k f q w =
    let z = simples-none s k q in
    record {
      count = let c = w.count in let l = ap length z in omega arith;
      last = w.last ∙ ap (last_behind (last_in s f)) z;
      inside = w.inside;
    }

-- all but the last are one less
pub but_last_lem : (l : List Bytes) (n : ℕ) → length l ≡ n + 1 → take n l ≡ plan.but_last l
unfolding plan.but_last
but_last_lem [] n h = absurd (omega arith)
but_last_lem (b ∷ []) zero h = refl
but_last_lem (b ∷ []) (suc n) h = absurd (omega arith)
but_last_lem (b ∷ (d ∷ l)) zero h = absurd (omega arith)
but_last_lem (b ∷ (d ∷ l)) (suc n) h = ap₂ ◌∷◌ refl (but_last_lem (d ∷ l) n (omega arith))

-- ---- several keys of arguments whose first is the name

-- an empty range
pub none-bytes : (s : Bytes) (at : ℕ) → part s at (at - at) ≡ []
unfolding part
none-bytes s at = let z : at - at ≡ 0 = omega arith in rw z

-- behind the name
pub after-name : (s : Bytes) (k : Args) → 0 < k.left → plan.after_name (args_of s k) ≡ simples_of s (arg_next s k)
unfolding plan.after_name
after-name s k h = rw (args_more s k.left (k.left - 1) k.at (omega arith))

-- a list of no elements
pub nil-length : (l : List Bytes) → length l ≡ 0 → l ≡ []
nil-length [] h = refl
nil-length (b ∷ l) h = absurd (omega arith)

module _ (s : Bytes) (whole k : Args) (p : ArgsHere s whole × (0 < whole.left)) (e : k ≡ arg_next s whole) where
  -- the arguments behind the name lie inside
  pub behind-in : ArgsHere s k
  behind-in = let h = p.1 in rw e (in-more s whole.left (whole.left - 1) whole.at (omega arith) p.0).1

  behind-is : plan.after_name (args_of s whole) ≡ simples_of s k
  behind-is = after-name s whole p.1 ∙ ap (simples_of s) (sym e)

module _ (s : Bytes) (whole k : Args) (f : SimpleArgs) (p : ArgsHere s whole × (0 < whole.left)) (e : k ≡ arg_next s whole) (x : Extracted s k f) where
  w : ArgsHere s k
  w = behind-in s whole k p e

  h : k.at ≤ length s
  h = in_start s k.left k.at w

  q : plan.after_name (args_of s whole) ≡ simples_of s k
  q = behind-is s whole k p e

  -- not JSON: all are keys
  pub several-plain : SeveralOf s (args_of s whole) false (record { json = false; args = k; keys = f.count; path = record { start = k.at; end = k.at } })
  unfolding command_key as_simple
  several-plain =
      let c = x.count in
      record {
        is = refl;
        inside =
            record {
              here = w;
              inside = (omega arith, h);
              enough = omega arith;
              joins = sym (none-bytes s k.at);
              alone = λ z. absurd
                  (true≢false (sym z));
            };
        keys = ap (λ (n : ℕ). take n (simples_of s k)) c ∙ take-length (simples_of s k) ∙ sym q;
        path = refl;
      }

  -- JSON with nothing behind its name
  pub several-none : f.count ≡ 0 → SeveralOf s (args_of s whole) true (record { json = true; args = k; keys = 0; path = record { start = k.at; end = k.at } })
  unfolding command_key as_simple plan.last_only plan.but_last
  several-none z =
      let n : simples_of s k ≡ [] = nil-length (simples_of s k) (sym x.count ∙ z) in
      record {
        is = refl;
        inside =
            record {
              here = w;
              inside = (omega arith, h);
              enough = omega arith;
              joins = rw n (sym (none-bytes s k.at));
              alone = λ u v. absurd
                  (omega arith);
            };
        keys = rw (q, n);
        path = rw (q, n);
      }

  -- JSON: the last one is the path
  pub several-json : (f.count ≡ 0 → ⊥) → SeveralOf s (args_of s whole) true (record { json = true; args = k; keys = f.count - 1; path = f.last })
  unfolding command_key as_simple
  several-json z =
      let c = x.count in
      let y : plan.last_only (simples_of s k) ≡ range_bytes s f.last ∷ [] = x.last ∙ rw (ne_eqb f.count 0 z) in
      record {
        is = refl;
        inside = record { here = w; inside = x.inside; enough = omega arith; joins = rw y (append-nil (range_bytes s f.last)); alone = λ u v. y };
        keys = but_last_lem (simples_of s k) (f.count - 1) (omega arith) ∙ ap plan.but_last (sym q);
        path = ap plan.last_only (sym q);
      }

-- ---- one key

-- by what `arg_idx` finds at 1
abbrev pub one_by : Text → ℕ → plan.Ask
one_by none x = plan.uncacheable
one_by (text b) x = plan.one_key b x

pub by_key : (l : List Argument) (x : ℕ) → HasName l → plan.ask_one l x ≡ one_by (arg_idx l 1) x
unfolding plan.ask_one HasName
by_key [] x h = absurd h
by_key (simple b ∷ []) x h = refl
by_key (simple b ∷ (simple d ∷ l)) x h = rw (ne_eqb (0 + length b + length d) 0 (λ z. omega arith))
by_key (simple b ∷ (cursor ∷ l)) x h = refl
by_key (cursor ∷ l) x h = absurd h
