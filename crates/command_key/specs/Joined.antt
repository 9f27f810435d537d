-- Arguments joined, one after the other. Assumes nothing.
use Rattle.std.specs.Prelude.{◌≡◌, true, false, [], ◌∷◌, ◌++◌, ℕ, ◌+◌, ◌-◌, ◌≤◌, ◌<◌, eqb, take}
use Rattle.std.proofs.Math.Path.{refl, ap, ap₂}
use Rattle.std.proofs.Common.{sym, ◌∙◌, arith, length-append, take-append-drop, eqb-true}
use Rattle.std.proofs.Math.Bool.{cond}
use Rattle.std.proofs.Math.ListN.{length, drop, length-drop}
use Rattle.std.proofs.Math.Seq.{drop-drop, length-take-le}
use Rattle.std.proofs.lemmas.Bool.{eqb-false}
use Rattle.buffer.specs.Cases.{by_test}
use Rattle.buffer.specs.Same.{Bytes, same}
use Rattle.buffer.specs.SameLaws.{same-append, same_length}
use Rattle.buffer.specs.Part.{part}
use Rattle.cursor.specs.declared.Arg.{Arg}
use Rattle.cursor.specs.declared.Args.{Args}
use Rattle.cursor.specs.At.{own, argument_of, args_of, size_at, next_at, arg_at, args_at, ArgsIn}
use Rattle.cursor.specs.Steps.{Stepped, in-more, args_none, args_more}
use Rattle.cursor.specs.Index.{own-length}
use Rattle.command_key.specs.Key.{command_key}

-- ---- one more argument

-- the joined bytes of the m arguments from `at` on
abbrev pub joined_at : Bytes → ℕ → ℕ → Bytes
joined_at s m at = command_key (args_at s m at)

-- none is left
pub joined-none : (s : Bytes) (m at : ℕ) → m ≡ 0 → joined_at s m at ≡ []
unfolding command_key
joined-none s m at q = rw (args_none s m at q)

-- the first's own bytes, and the others'
pub joined_length : (s : Bytes) (m n at : ℕ) → m ≡ n + 1 → ArgsIn s m at → length (joined_at s m at) ≡ size_at s at + length (joined_at s n (next_at s at))
unfolding command_key
joined_length s m n at q w =
    ap (λ l. length (command_key l)) (args_more s m n at q)
    ∙ length-append (own (arg_at s at)) (joined_at s n (next_at s at))
    ∙ ap (λ (z : ℕ). z + length (joined_at s n (next_at s at))) (own-length s at (in-more s m n at q w).0)

-- none is left before a cursor
pub key-none : (s : Bytes) (k : Args) → k.left ≡ 0 → command_key (args_of s k) ≡ []
key-none s k q = joined-none s k.left k.at q

module _ (s : Bytes) (k : Args) (a : Arg) (r : Args) (w : Stepped s k a r) where
  -- the first argument's own bytes, and the others'
  pub key-more : command_key (args_of s k) ≡ own (argument_of s a) ++ command_key (args_of s r)
  unfolding command_key
  key-more = ap command_key w.are

  -- how long they are
  pub key-length : length (command_key (args_of s k)) ≡ length (own (argument_of s a)) + length (command_key (args_of s r))
  key-length = ap length key-more ∙ length-append (own (argument_of s a)) (command_key (args_of s r))

-- ---- compared

-- nothing is left to compare
pub same-nil : (t : Bytes) (d : ℕ) → d ≤ length t → same (drop d t) [] ≡ eqb d (length t)
same-nil t d h =
    let l = length-drop d t in
    by_test (eqb d (length t))
    (λ e. rw e (ends (drop d t) (let z = eqb-true d (length t) e in omega arith)))
    (λ e. rw e (same_length (drop d t) [] (λ z. eqb-false d (length t) e (omega arith))))
  where
    ends : (x : Bytes) → length x ≡ 0 → same x [] ≡ true
    ends [] q = unfold same in refl
    ends (y ∷ x) q = absurd (omega arith)

-- x and the others are compared with t from d on
module _ (t all x others : Bytes) (d : ℕ) (q : all ≡ x ++ others) (h : d ≤ length t) where
  -- too long
  pub same-long : length t < d + length x → same (drop d t) all ≡ false
  same-long l =
      let n = length-drop d t in
      let m = ap length q ∙ length-append x others in
      same_length (drop d t) all (λ z. omega arith)

  -- x, and the others
  piece : d + length x ≤ length t
      → same (drop d t) all ≡ cond (same (part t d (length x)) x) (same (drop (d + length x) t) others) false
  unfolding part
  piece r =
      let u : Bytes = drop d t in
      let i : length (take (length x) u) ≡ length x = length-take-le (length x) u (omega (arith, length-drop d t)) in
      ap₂ same (sym (take-append-drop (length x) u)) q
      ∙ same-append (take (length x) u) (drop (length x) u) x others i
      ∙ ap (λ (z : Bytes). cond (same (take (length x) u) x) (same z others) false) (drop-drop (length x) d t)

  -- another piece
  pub same-no : d + length x ≤ length t → same (part t d (length x)) x ≡ false → same (drop d t) all ≡ false
  same-no r z = piece r ∙ rw z

  -- the same piece
  pub same-yes : d + length x ≤ length t → same (part t d (length x)) x ≡ true → same (drop d t) all ≡ same (drop (d + length x) t) others
  same-yes r z = piece r ∙ rw z
