-- What a command asks for, by its name and by how far it gets: one law for each path of the code. Assumes nothing.
use Rattle.std.specs.Prelude.{◌≡◌, refl, Bool, ℕ, ◌+◌, ◌<◌, eqb, ltb, length, None}
use Rattle.std.proofs.Common.{sym, ◌∙◌, arith}
use Rattle.std.proofs.Math.Path.{ap, ap₂}
use Rattle.std.proofs.Math.Bool.{true, false}
use mathlib.Core.List.{List, [], ◌∷◌}
use Rattle.std.proofs.Math.Seq.{length-take-le}
use borrow.Author.Tests.{eqb-true, eqb-false, ltb-true, ltb-false}
use Rattle.buffer.specs.Cases.{by_test}
use Rattle.buffer.specs.Same.{Bytes}
use Rattle.config.specs.declared.Settings.{Settings}
use Rattle.commands.specs.Names.{is_cacheable}
use Rattle.commands.specs.MultiKey.{multi_key}
use Rattle.call_record.specs.Record.{Argument, Command}
use Rattle.cursor.specs.At.{args_of}
use Rattle.cursor.specs.Steps.{args_none}
use Rattle.cursor.specs.declared.Args.{Args}
use Rattle.planning.specs.Ask as plan
use Rattle.planning_ask.specs.Asked.{simples_of, several_name, keys_in, path_in, asked_of, AskedIn}
use Rattle.planning_ask.specs.Steps.{ttl_by, SeveralOf, asked_several, HasName, ask_named}
use Rattle.planning_ask.specs.Keys.{several_of, several-name}
use Rattle.planning_ask.specs.Simple.{nil-length}
use Rattle.planning_ask.specs.declared.Several.{Several}

-- where there is a name there is an argument
pub name-left : (s : Bytes) (k : Args) → HasName (args_of s k) → 0 < k.left
unfolding HasName
name-left s k h =
    by_test (ltb 0 k.left) (λ t. ltb-true 0 k.left t)
    (λ t. let z = args_none s k.left k.at (let y = ltb-false 0 k.left t in omega arith) in absurd (rw z at h))

-- where there are keys, they are asked for
some-keys : (n : Bytes) (ks path : List Bytes) (x : ℕ) → 0 < length ks → plan.ask_several n ks path x ≡ plan.several_keys n ks path x
unfolding plan.ask_several
some-keys n [] path x h = absurd (omega arith)
some-keys n (k ∷ ks) path x h = refl

module _ (n : Bytes) (l : List Argument) (x : ℕ) where
  -- several keys, as planning takes them
  several-asked : (s : Bytes) (json : Bool) (v : Several) → multi_key n ≡ several_of json → SeveralOf s l json v
      → plan.ask_several (several_name v.json) (keys_in s v) (path_in s v) x ≡ ask_named n l x
  unfolding plan.ask_by
  several-asked s true v q w =
      ap₂ (λ (ks : List Bytes) (path : List Bytes). plan.ask_several (several_name v.json) ks path x) w.keys w.path
      ∙ ap (λ (m : Bytes). plan.ask_several m (plan.but_last (plan.after_name l)) (plan.last_only (plan.after_name l)) x)
      (ap several_name w.is ∙ several-name n true q)
      ∙ rw q
  several-asked s false v q w =
      ap₂ (λ (ks : List Bytes) (path : List Bytes). plan.ask_several (several_name v.json) ks path x) w.keys w.path
      ∙ ap (λ (m : Bytes). plan.ask_several m (plan.after_name l) [] x) (ap several_name w.is ∙ several-name n false q)
      ∙ rw q

  -- as the code does: by their number
  pub named-several : (s : Bytes) (json : Bool) (v : Several) → multi_key n ≡ several_of json → SeveralOf s l json v
      → (asked_of s (asked_several v x) ≡ ask_named n l x) × AskedIn s (asked_several v x)
  unfolding plan.ask_several
  named-several s json v q w =
      let e = several-asked s json v q w in
      let f = length-take-le v.keys (simples_of s v.args) w.inside.enough in
      by_test (eqb v.keys 0)
      (λ t. let z = eqb-true v.keys 0 t in
      rw t (sym (ap (λ (ks : List Bytes). plan.ask_several (several_name v.json) ks (path_in s v) x) (nil-length (keys_in s v) (omega arith))) ∙ e, tt))
      (λ t. let z = eqb-false v.keys 0 t in rw t (sym (some-keys _ (keys_in s v) (path_in s v) x (omega arith)) ∙ e, w.inside))

  module _ (q : multi_key n ≡ None) where
    -- one key
    pub named-one : is_cacheable n ≡ true → plan.may_have n (length l) ≡ true → ask_named n l x ≡ plan.ask_one l x
    unfolding plan.ask_by plan.ask_listed
    named-one t u = rw (q, t, u)

    -- with so many arguments not cacheable
    pub named-many : is_cacheable n ≡ true → plan.may_have n (length l) ≡ false → ask_named n l x ≡ plan.uncacheable
    unfolding plan.ask_by plan.ask_listed
    named-many t u = rw (q, t, u)

    -- not cacheable
    pub named_none : is_cacheable n ≡ false → ask_named n l x ≡ plan.uncacheable
    unfolding plan.ask_by
    named_none t = rw (q, t)

-- ---- by how far it gets

module _ (g : Settings) (t : ℕ) (c : Command) where
  pub ask-skipped : plan.reach g.mode c ≡ plan.skipped → plan.ask g t c ≡ plan.nothing
  unfolding plan.ask plan.ask_from
  ask-skipped q = rw q

  pub ask-stopped : plan.reach g.mode c ≡ plan.stopped → plan.ask g t c ≡ plan.uncacheable
  unfolding plan.ask plan.ask_from
  ask-stopped q = rw q

  pub ask-name : (n : Bytes) → plan.reach g.mode c ≡ plan.named n → plan.ask g t c ≡ ask_named n c.args (t + ttl_by c.flags c.ttl g.ttl)
  unfolding plan.ask plan.ask_from plan.client_expiry
  ask-name n q = rw q
