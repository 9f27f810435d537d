-- A row of names searched from the left: what holds before each turn, and how a turn keeps it. Assumes nothing.
use mathlib.Core.Path.{◌≡◌, refl, sym, ap, ◌∙◌}
use mathlib.Core.Bool.{true, false}
use mathlib.Core.List.{List, [], ◌∷◌, ◌++◌}
use Prim.Native.Nat.{ℕ, ◌+◌, ◌<◌}
use native.Mathlib.Omega.{arith}
use lib.ListN.{length, take, drop, length-append}
use lib.Seq.{take_at, drop_at}
use Rattle.buffer.specs.Same.{Bytes, same}
use Rattle.commands.specs.Names.{member}
use Rattle.commands.specs.Rows.{row, of_length, EachOf, each-of-length, member-of-length}

-- the names that stand in what is left of the row answer for all of xs
pub record Left (b left : Bytes) (xs : List Bytes) : Type 0 where
  pub rest : List Bytes
  pub each : EachOf (length b) rest
  pub stands : left ≡ row rest
  pub answer : member b xs ≡ member b rest

-- at first all names of that length do
pub all_left : (b rows : Bytes) (xs : List Bytes) → rows ≡ row (of_length (length b) xs) → Left b rows xs
all_left b rows xs e = record {
  rest = of_length (length b) xs;
  each = each-of-length (length b) xs;
  stands = e;
  answer = sym (member-of-length b xs);
}

-- the first name of a row behind its bar, and what follows it
first_of : (n : ℕ) (x after y : Bytes) (ys : List Bytes) → length x ≡ n + 1 → length y ≡ n → x ++ after ≡ row (y ∷ ys) → (x ≡ 124 ∷ y) × (after ≡ row ys)
unfolding row
first_of n x after y ys l m e = (
  sym (take_at x after (n + 1) l) ∙ ap (take (n + 1)) e ∙ take_at (124 ∷ y) (row ys) (n + 1) (omega arith),
  sym (drop_at x after (n + 1) l) ∙ ap (drop (n + 1)) e ∙ drop_at (124 ∷ y) (row ys) (n + 1) (omega arith),
)

-- where a bar and a name stand, there is a name
some_left : (n : ℕ) (x after : Bytes) → length x ≡ n + 1 → x ++ after ≡ row [] → ⊥
unfolding row
some_left n x after l e = omega (arith, length-append x after, ap length e)

-- the first name is b, so b is one of xs
pub found : (b left x after : Bytes) (xs : List Bytes) → Left b left xs → left ≡ x ++ after → length x ≡ length b + 1 → same (drop 1 x) b ≡ true
    → member b xs ≡ true
unfolding member EachOf
found b left x after xs f e l s = f.answer ∙ go f.rest f.each (sym e ∙ f.stands)
  where
    go : (ys : List Bytes) → EachOf (length b) ys → x ++ after ≡ row ys → member b ys ≡ true
    go [] g q = absurd (some_left (length b) x after l q)
    go (y ∷ ys) g q = let p = first_of (length b) x after y ys l g.0 q in let t : same y b ≡ true = rw p.0 at s in rw t

-- the first name is not b, so those after it answer
pub passed : (b left x after : Bytes) (xs : List Bytes) → Left b left xs → left ≡ x ++ after → length x ≡ length b + 1 → same (drop 1 x) b ≡ false
    → Left b after xs
unfolding member EachOf
passed b left x after xs f e l s = go f.rest f.each (sym e ∙ f.stands) f.answer
  where
    go : (ys : List Bytes) → EachOf (length b) ys → x ++ after ≡ row ys → member b xs ≡ member b ys → Left b after xs
    go [] g q a = absurd (some_left (length b) x after l q)
    go (y ∷ ys) g q a =
        let p = first_of (length b) x after y ys l g.0 q in
        let t : same y b ≡ false = rw p.0 at s in
        record { rest = ys; each = g.1; stands = p.1; answer = a ∙ rw t }

-- where no name has room, none stands, so b is none of xs
pub none_left : (b left : Bytes) (xs : List Bytes) → Left b left xs → length left < length b + 1 → member b xs ≡ false
unfolding member EachOf row
none_left b left xs f h = f.answer ∙ go f.rest f.each f.stands
  where
    go : (ys : List Bytes) → EachOf (length b) ys → left ≡ row ys → member b ys ≡ false
    go [] g e = refl
    go (y ∷ ys) g e = absurd (let l = g.0 in omega (arith, ap length e, length-append y (row ys)))
