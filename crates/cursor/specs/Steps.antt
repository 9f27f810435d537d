-- What the cursors answer, step by step, and what a step means for the arguments and commands that are left. Assumes nothing.
use Rattle.std.specs.Prelude.{◌≡◌, refl, Option, Some, None, IsSome, cond, [], ◌∷◌, ℕ, zero, suc, ◌+◌, ◌-◌, ◌≤◌, eqb, length, get_or}
use Rattle.std.proofs.Common.{sym, ap, subst, ◌∙◌, arith, add-one, eqb-true, ne_eqb}
use Rattle.std.proofs.lemmas.Bool.{eqb-false}
use Rattle.buffer.specs.Cases.{by_test}
use Rattle.buffer.specs.Same.{Bytes}
use Rattle.buffer.specs.Part.{part}
use Rattle.buffer.specs.PartLaws.{length_part}
use Rattle.buffer.specs.Field.{read16}
use Rattle.call_record.specs.Record.{Argument, simple, cursor}
use Rattle.cursor.specs.At.{own, range_bytes, RangeIn, argument_of, PlaceIn, size_at, next_at, arg_at, args_at, args_end, ArgIn, ArgsIn, args_of, ArgsHere, head_at, command_of}
use Rattle.cursor.specs.At.{command_next, commands_at, CommandsIn, commands_of, CommandsHere}
use Rattle.cursor.specs.declared.Args.{Args}
use Rattle.cursor.specs.declared.Commands.{Commands}
use Rattle.cursor.specs.declared.Arg.{Arg}
use Rattle.cursor.specs.declared.Arg.TheVariants.{Simple, Cursor}
use Rattle.cursor.specs.declared.Head.{Head}

-- ---- one argument more

-- a number that is not 0
pub one_more : (n : ℕ) → (n ≡ 0 → ⊥) → n ≡ n - 1 + 1
one_more n h = omega arith

-- n arguments are n
pub args_count : (s : Bytes) (n at : ℕ) → length (args_at s n at) ≡ n
unfolding args_at
args_count s zero at = refl
args_count s (suc n) at = ap suc (args_count s n (next_at s at))

-- they begin inside
pub in_start : (s : Bytes) (n at : ℕ) → ArgsIn s n at → at ≤ length s
unfolding ArgsIn
in_start s zero at w = w
in_start s (suc n) at w = let k = w.0.room in omega arith

-- the first, and the others
pub in-more : (s : Bytes) (m n at : ℕ) → m ≡ n + 1 → ArgsIn s m at → ArgIn s at × ArgsIn s n (next_at s at)
unfolding ArgsIn
in-more s m n at q w = let z : m ≡ suc n = q ∙ add-one n in rw z at w

-- the first of them
pub in-first : (s : Bytes) (m at : ℕ) → (m ≡ 0 → ⊥) → ArgsIn s m at → ArgIn s at
in-first s m at h w = (in-more s m (m - 1) at (one_more m h) w).0

-- no argument is left
pub args_none : (s : Bytes) (m at : ℕ) → m ≡ 0 → args_at s m at ≡ []
unfolding args_at
args_none s m at q = rw q

-- the first, and the others
pub args_more : (s : Bytes) (m n at : ℕ) → m ≡ n + 1 → args_at s m at ≡ arg_at s at ∷ args_at s n (next_at s at)
unfolding args_at
args_more s m n at q = let z : m ≡ suc n = q ∙ add-one n in rw z

-- they end here
pub end_none : (s : Bytes) (m at : ℕ) → m ≡ 0 → args_end s m at ≡ at
unfolding args_end
end_none s m at q = rw q

-- they end where the others do
pub end_more : (s : Bytes) (m n at : ℕ) → m ≡ n + 1 → args_end s m at ≡ args_end s n (next_at s at)
unfolding args_end
end_more s m n at q = let z : m ≡ suc n = q ∙ add-one n in rw z

-- ---- the cursor over arguments

-- the cursor behind the first argument
abbrev pub arg_next : Bytes → Args → Args
arg_next s k = record { at = next_at s k.at; left = k.left - 1 }

-- the next argument, and the cursor behind it
abbrev pub arg_step : Bytes → Args → Option (Arg × Args)
arg_step s k =
    cond (eqb k.left 0) None
    (cond (eqb (get_or s k.at 0) 0) (Some (Simple (record { start = k.at + 5; end = next_at s k.at }), arg_next s k)) (Some (Cursor, arg_next s k)))

-- what a step means
unfoldable pub ArgStep : Bytes → Args → Option (Arg × Args) → Type 0
ArgStep s k None = args_of s k ≡ []
ArgStep s k (Some (Simple g, r)) = (args_of s k ≡ simple (range_bytes s g) ∷ args_of s r) × RangeIn s g × ArgsHere s r × (k.left ≡ r.left + 1)
ArgStep s k (Some (Cursor, r)) = (args_of s k ≡ cursor ∷ args_of s r) × ArgsHere s r × (k.left ≡ r.left + 1)

-- what the step is, it means
pub arg_step_lem : (s : Bytes) (k : Args) → ArgsHere s k → ArgStep s k (arg_step s k)
unfolding ArgStep
arg_step_lem s k w = by_test (eqb k.left 0) (λ t. rw t (args_none s k.left k.at (eqb-true _ _ t))) (λ t. rw t (some (one_more k.left (eqb-false _ _ t))))
  where
    some : (q : k.left ≡ k.left - 1 + 1)
        → ArgStep s k (cond (eqb (get_or s k.at 0) 0) (Some (Simple (record { start = k.at + 5; end = next_at s k.at }), arg_next s k)) (Some (Cursor, arg_next s k)))
    some q =
        let v = in-more s k.left (k.left - 1) k.at q w in
        let i = v.0.inside in
        let m = args_more s k.left (k.left - 1) k.at q in
        let n : next_at s k.at - (k.at + 5) ≡ size_at s k.at = omega arith in
        by_test (eqb (get_or s k.at 0) 0)
        (λ t. rw t (
          m ∙ ap (λ (a : Argument). a ∷ args_of s (arg_next s k)) (rw t (ap (λ (z : ℕ). simple (part s (k.at + 5) z)) (sym n))),
          (omega arith, i),
          v.1,
          q,
        ))
        (λ t. rw t (m ∙ ap (λ (a : Argument). a ∷ args_of s (arg_next s k)) (rw t refl), v.1, q))

-- k's first argument stands at a, and r is behind it
pub record Stepped (s : Bytes) (k : Args) (a : Arg) (r : Args) : Type 0 where
  pub are : args_of s k ≡ argument_of s a ∷ args_of s r
  pub inside : PlaceIn s a
  pub here : ArgsHere s r
  pub count : k.left ≡ r.left + 1
  pub ends : r.at ≡ k.at + 5 + length (own (argument_of s a))
  pub last : args_end s k.left k.at ≡ args_end s r.left r.at

-- so does what a step answers
StepIs : Bytes → Args → Option (Arg × Args) → Type 0
StepIs s k None = k.left ≡ 0
StepIs s k (Some (a, r)) = Stepped s k a r

step-is : (s : Bytes) (k : Args) → ArgsHere s k → StepIs s k (arg_step s k)
unfolding StepIs
step-is s k w = by_test (eqb k.left 0) (λ t. rw t (eqb-true _ _ t)) (λ t. rw t (some (one_more k.left (eqb-false _ _ t))))
  where
    some : (q : k.left ≡ k.left - 1 + 1)
        → StepIs s k (cond (eqb (get_or s k.at 0) 0) (Some (Simple (record { start = k.at + 5; end = next_at s k.at }), arg_next s k)) (Some (Cursor, arg_next s k)))
    some q =
        let v = in-more s k.left (k.left - 1) k.at q w in
        let i = v.0.inside in
        let m = args_more s k.left (k.left - 1) k.at q in
        let e = end_more s k.left (k.left - 1) k.at q in
        let n : next_at s k.at - (k.at + 5) ≡ size_at s k.at = omega arith in
        let l : length (part s (k.at + 5) (size_at s k.at)) ≡ size_at s k.at = length_part s (k.at + 5) (size_at s k.at) (omega arith) in
        by_test (eqb (get_or s k.at 0) 0)
        (λ t.
        rw t
        (record {
          are = m ∙ ap (λ (a : Argument). a ∷ args_of s (arg_next s k)) (rw t (ap (λ (z : ℕ). simple (part s (k.at + 5) z)) (sym n)));
          inside = (omega arith, i);
          here = v.1;
          count = q;
          ends = rw n (ap (λ (z : ℕ). k.at + 5 + z) (sym l));
          last = e;
        }))
        (λ t.
        let z = v.0.empty t in
        rw t
        (record {
          are = m ∙ ap (λ (a : Argument). a ∷ args_of s (arg_next s k)) (rw t refl);
          inside = tt;
          here = v.1;
          count = q;
          ends = omega arith;
          last = e;
        }))

pub stepped : (s : Bytes) (k : Args) (a : Arg) (r : Args) → ArgsHere s k → arg_step s k ≡ Some (a, r) → Stepped s k a r
unfolding StepIs
stepped s k a r w e = subst (StepIs s k) e (step-is s k w)

-- nothing is left
pub stopped : (s : Bytes) (k : Args) → ArgsHere s k → arg_step s k ≡ None → k.left ≡ 0
unfolding StepIs
stopped s k w e = subst (StepIs s k) e (step-is s k w)

-- where one is left, one comes
pub step-there : (s : Bytes) (k : Args) → (k.left ≡ 0 → ⊥) → IsSome (arg_step s k)
step-there s k h = rw (ne_eqb k.left 0 h) (by_test (eqb (get_or s k.at 0) 0) (λ t. rw t refl) (λ t. rw t refl))

-- what the iterator over arguments does: it gives the first and goes behind it, or nothing is left
abbrev pub IterStep : Bytes → Args → Option Arg → Args → Type 0
IterStep s k None r = (arg_step s k ≡ None) × (r ≡ k)
IterStep s k (Some a) r = arg_step s k ≡ Some (a, r)

module _ (s bs : Bytes) (e : bs ≡ s) (k r : Args) (w : ArgsHere s k) where
  pub iter-next : (a : Arg) → IterStep bs k (Some a) r → Stepped s k a r
  iter-next a i = stepped s k a r w (rw e at i)

  pub iter-done : IterStep bs k None r → k.left ≡ 0
  iter-done i = stopped s k w (rw e at i.0)

-- ---- the cursor over commands

-- no command is left
pub commands-none : (s : Bytes) (m at : ℕ) → m ≡ 0 → commands_at s m at ≡ []
unfolding commands_at
commands-none s m at q = rw q

-- the first, and the others
pub commands-more : (s : Bytes) (m n at : ℕ) → m ≡ n + 1 → commands_at s m at ≡ command_of s (head_at s at) ∷ commands_at s n (command_next s at)
unfolding commands_at
commands-more s m n at q = let z : m ≡ suc n = q ∙ add-one n in rw z

-- they lie inside
pub commands-in : (s : Bytes) (m n at : ℕ) → m ≡ n + 1 → CommandsIn s m at
    → (at + 19 ≤ length s) × ArgsIn s (read16 s (at + 17)) (at + 19) × CommandsIn s n (command_next s at)
unfolding CommandsIn
commands-in s m n at q w = let z : m ≡ suc n = q ∙ add-one n in rw z at w

-- the next command, and the cursor behind it
abbrev pub command_step : Bytes → Commands → Option (Head × Commands)
command_step s k =
    cond (eqb k.left 0) None (Some (head_at s k.at, record { at = command_next s k.at; left = k.left - 1 }))

-- what a step means
unfoldable pub CommandStep : Bytes → Commands → Option (Head × Commands) → Type 0
CommandStep s k None = commands_of s k ≡ []
CommandStep s k (Some (h, r)) = (commands_of s k ≡ command_of s h ∷ commands_of s r) × ArgsHere s h.args × CommandsHere s r × (k.left ≡ r.left + 1)

-- what the step is, it means
pub command-step : (s : Bytes) (k : Commands) → CommandsHere s k → CommandStep s k (command_step s k)
unfolding CommandStep
command-step s k w =
    by_test (eqb k.left 0)
    (λ t. rw t (commands-none s k.left k.at (eqb-true _ _ t)))
    (λ t. let q : k.left ≡ k.left - 1 + 1 = one_more k.left (eqb-false _ _ t) in
    let v = commands-in s k.left (k.left - 1) k.at q w in
    rw t (commands-more s k.left (k.left - 1) k.at q, v.1, v.2, q))

-- what a step answers, by its fields
pub record CommandStepped (s : Bytes) (k : Commands) (h : Head) (r : Commands) : Type 0 where
  pub are : commands_of s k ≡ command_of s h ∷ commands_of s r
  pub args : ArgsHere s h.args
  pub here : CommandsHere s r
  pub count : k.left ≡ r.left + 1

pub command-stepped : (s : Bytes) (k : Commands) (h : Head) (r : Commands) → CommandsHere s k → command_step s k ≡ Some (h, r) → CommandStepped s k h r
unfolding CommandStep
command-stepped s k h r w e = let x = subst (CommandStep s k) e (command-step s k w) in record { are = x.0; args = x.1; here = x.2; count = x.3 }

-- no command is left
pub command-stopped : (s : Bytes) (k : Commands) → CommandsHere s k → command_step s k ≡ None → commands_of s k ≡ []
unfolding CommandStep
command-stopped s k w e = subst (CommandStep s k) e (command-step s k w)
