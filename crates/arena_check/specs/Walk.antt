-- A run of things, one after the other, none with another's key: how it is walked, and that the walk finds exactly the runs. For entries and for
-- items. Assumes nothing.
use Rattle.std.specs.Prelude.{◌≡◌, Bool, true, false, cond, Option, Some, None}
use Rattle.std.proofs.Math.Path.{refl, ap, subst}
use Rattle.std.proofs.Common.{sym, ◌∙◌, zero-add, true≢false}
use Prim.Native.Nat.{ℕ, zero, suc, ◌+◌, ◌≤◌}
use native.Mathlib.Omega.{arith}
use mathlib.Core.List.{List, [], ◌∷◌, ◌++◌, append_assoc}
use Rattle.std.proofs.Math.ListN.{length, length-append}
use Rattle.buffer.specs.Cases.{by_test}
use Rattle.buffer.specs.Same.{Bytes, same}
use Rattle.buffer.specs.Part.{part}
use Rattle.buffer.specs.PartLaws.{part-add}
use Rattle.format.specs.Runs.{all_append}
use Rattle.format.specs.Lists.{All}

-- ---- the walk

-- the k-th place behind a
unfoldable pub nth : (ℕ → ℕ) → ℕ → ℕ → ℕ
nth next zero a = a
nth next (suc k) a = next (nth next k a)

-- where n things end that stand from `at` on, where each of them is ok
unfoldable pub passes : (ℕ → ℕ) → (ℕ → Bool) → ℕ → ℕ → Option ℕ
passes next ok zero at = Some at
passes next ok (suc n) at = cond (ok at) (passes next ok n (next at)) None

module _ (key_at : ℕ → Bytes) (next : ℕ → ℕ) where
  -- whether one of the n things from `from` on has the key of the one at `at`
  unfoldable pub before : ℕ → ℕ → ℕ → Bool
  before zero from at = false
  before (suc n) from at = cond (same (key_at from) (key_at at)) true (before n (next from) at)

  -- where n things more end that stand from `at` on, behind i others from `first` on, where each of them is ok and has the key of none before it
  unfoldable pub walk : (ℕ → Bool) → ℕ → ℕ → ℕ → ℕ → Option ℕ
  walk ok first i zero at = Some at
  walk ok first i (suc n) at = cond (ok at) (cond (before i first at) None (walk ok first (suc i) n (next at))) None

-- ---- what an answer says

pub some-is : {a b : ℕ} → Some a ≡ Some b → a ≡ b
some-is e = cc

pub none-some : {a : ℕ} → None ≡ Some a → ⊥
none-some e = let z : ◌≡◌ {A = ℕ} 0 1 = cc in omega arith

-- ---- keys

module _ {X : Type 0} (key : X → Bytes) where
  -- no key twice
  abbrev pub Differ : List X → Type 0
  Differ [] = Unit {0}
  Differ (x ∷ xs) = All (λ y. same (key x) (key y) ≡ false) xs × Differ xs

  -- one more behind the others
  differ-more : (xs : List X) (x : X) → Differ xs → All (λ y. same (key y) (key x) ≡ false) xs → Differ (xs ++ (x ∷ []))
  differ-more [] x d w = (tt, tt)
  differ-more (y ∷ xs) x d w = (all_append (λ z. same (key y) (key z) ≡ false) xs (x ∷ []) d.0 (w.0, tt), differ-more xs x d.1 w.1)

  -- each of those before one has another key
  all-last : (P : X → Type 0) (xs : List X) (x : X) (ys : List X) → All P (xs ++ (x ∷ ys)) → P x
  all-last P [] x ys w = w.0
  all-last P (z ∷ xs) x ys w = all-last P xs x ys w.1

  differ-before : (xs : List X) (x : X) (ys : List X) → Differ (xs ++ (x ∷ ys)) → All (λ y. same (key y) (key x) ≡ false) xs
  differ-before [] x ys d = tt
  differ-before (y ∷ xs) x ys d = (all-last (λ z. same (key y) (key z) ≡ false) xs x ys d.0, differ-before xs x ys d.1)

-- ---- things in bytes

module _ {X : Type 0} (enc : X → Bytes) (key : X → Bytes) (Good : X → Type 0) (s : Bytes) (ok : ℕ → Bool) (next : ℕ → ℕ) (key_at : ℕ → Bytes) where
  -- x stands at `at`
  pub record Stands (at : ℕ) (x : X) : Type 0 where
    pub passes : ok at ≡ true
    pub good : Good x
    pub keyed : key_at at ≡ key x
    pub size : next at ≡ at + length (enc x)
    pub bytes : part s at (length (enc x)) ≡ enc x

  -- these stand one after the other, from `at` up to `e`
  abbrev pub Run : ℕ → List X → ℕ → Type 0
  Run at [] e = at ≡ e
  Run at (x ∷ xs) e = Stands at x × Run (next at) xs e

  run_more : (at e : ℕ) (xs : List X) (x : X) → Run at xs e → Stands e x → Run at (xs ++ (x ∷ [])) (next e)
  run_more at e [] x r w = (subst (λ (i : ℕ). Stands i x) (sym r) w, ap next r)
  run_more at e (y ∷ xs) x r w = (r.0, run_more (next at) e xs x r.1 w)

  pub run-good : (at e : ℕ) (xs : List X) → Run at xs e → All Good xs
  run-good at e [] r = tt
  run-good at e (x ∷ xs) r = (r.0.good, run-good (next at) e xs r.1)

  -- none of the run has the key of the thing at `to`, exactly if the test says so
  before-no : (from e to : ℕ) (xs : List X) → Run from xs e → before key_at next (length xs) from to ≡ false → All (λ x. same (key x) (key_at to) ≡ false) xs
  unfolding before
  before-no from e to [] r b = tt
  before-no from e to (x ∷ xs) r b =
      by_test (same (key_at from) (key_at to))
      (λ q. absurd (true≢false (rw q at b)))
      (λ q. (ap (λ (k : Bytes). same k (key_at to)) (sym r.0.keyed) ∙ q, before-no (next from) e to xs r.1 (rw q at b)))

  no-before : (from e to : ℕ) (xs : List X) → Run from xs e → All (λ x. same (key x) (key_at to) ≡ false) xs → before key_at next (length xs) from to ≡ false
  unfolding before
  no-before from e to [] r w = refl
  no-before from e to (x ∷ xs) r w =
      rw (ap (λ (k : Bytes). same k (key_at to)) r.0.keyed ∙ w.0) (no-before (next from) e to xs r.1 w.1)

  -- what a walk finds
  pub record Found (first e n : ℕ) : Type 0 where
    pub things : List X
    pub count : length things ≡ n
    pub run : Run first things e
    pub differ : Differ key things

  -- ---- what is found is a run

  -- the thing at the end of a run has no key of the run's
  others : (first at i : ℕ) (done : List X) (x : X) → length done ≡ i → Run first done at → before key_at next i first at ≡ false → key_at at ≡ key x
      → All (λ y. same (key y) (key x) ≡ false) done
  others first at i done x c r b k =
      subst (λ (z : Bytes). All (λ y. same (key y) z ≡ false) done) k
      (before-no first at at done r (ap (λ (m : ℕ). before key_at next m first at) c ∙ b))

  -- a walk that goes on behind a run
  walk-on : ((at : ℕ) → ok at ≡ true → (x : X) × Stands at x) → (first i n at e : ℕ) (done : List X) → length done ≡ i → Run first done at → Differ key done
      → walk key_at next ok first i n at ≡ Some e → Found first e (i + n)
  unfolding walk
  walk-on f first i zero at e done c r d w =
      record { things = done; count = omega arith; run = subst (Run first done) (some-is w) r; differ = d }
  walk-on f first i (suc n) at e done c r d w =
      by_test (ok at)
      (λ q.
      by_test (before key_at next i first at)
      (λ b. let z : None ≡ Some e = rw (q, b) at w in absurd (none-some z))
      (λ b.
      let g = f at q in
      let m : suc i + n ≡ i + suc n = omega arith in
      subst (Found first e) m
      (walk-on f first (suc i) n (next at) e (done ++ (g.0 ∷ [])) (length-append done (g.0 ∷ []) ∙ omega arith) (run_more first at done g.0 r g.1)
      (differ-more key done g.0 d (others first at i done g.0 c r b g.1.keyed)) (rw (q, b) at w))))
      (λ q. let z : None ≡ Some e = rw q at w in absurd (none-some z))

  -- a walk that ends found a run
  pub walk-found : ((at : ℕ) → ok at ≡ true → (x : X) × Stands at x) → (first n e : ℕ) → walk key_at next ok first 0 n first ≡ Some e → Found first e n
  walk-found f first n e w = subst (Found first e) (zero-add n) (walk-on f first 0 n first e [] refl refl tt w)

  -- ---- a run is found

  on-walk : (first at e : ℕ) (done todo : List X) → Run first done at → Run at todo e → Differ key (done ++ todo)
      → walk key_at next ok first (length done) (length todo) at ≡ Some e
  unfolding walk
  on-walk first at e done [] r t d = ap Some t
  on-walk first at e done (x ∷ todo) r t d =
      let k = t.0.keyed in
      let w : All (λ y. same (key y) (key_at at) ≡ false) done =
      subst (λ (z : Bytes). All (λ y. same (key y) z ≡ false) done) (sym k) (differ-before key done x todo d) in
      let c : length (done ++ (x ∷ [])) ≡ suc (length done) = length-append done (x ∷ []) ∙ omega arith in
      rw (t.0.passes, no-before first at at done r w)
      (ap (λ (m : ℕ). walk key_at next ok first m (length todo) (next at)) (sym c)
      ∙ on-walk first (next at) e (done ++ (x ∷ [])) todo (run_more first at done x r t.0) t.1 (rw append_assoc d))

  -- a run with no key twice is walked to its end
  pub found-walk : (first e : ℕ) (xs : List X) → Run first xs e → Differ key xs → walk key_at next ok first 0 (length xs) first ≡ Some e
  found-walk first e xs r d = on-walk first first e [] xs refl r d

  -- ---- the bytes of a run, where `enc_all` writes one thing after the other
  module _ (enc_all : List X → Bytes) (none : enc_all [] ≡ []) (more : (x : X) (xs : List X) → enc_all (x ∷ xs) ≡ enc x ++ enc_all xs) where
    -- the bytes of a run
    pub run-bytes : (at e : ℕ) (xs : List X) → Run at xs e → (e ≡ at + length (enc_all xs)) × (part s at (length (enc_all xs)) ≡ enc_all xs)
    run-bytes at e [] r = (let z : length (enc_all []) ≡ 0 = ap length none in omega arith, rw none (unfold part in refl))
    run-bytes at e (x ∷ xs) r =
        let ih = run-bytes (next at) e xs r.1 in
        let z = r.0.size in
        let l : length (enc_all (x ∷ xs)) ≡ length (enc x) + length (enc_all xs) = ap length (more x xs) ∙ length-append (enc x) (enc_all xs) in
        let a = ih.0 in
        let b = ih.1 in
        let c = r.0.bytes in
        (omega arith, cc (part-add s at (length (enc x)) (length (enc_all xs)), more x xs))

    -- things whose bytes stand one after the other are a run, where each of them passes
    pub bytes_run : (end : ℕ)
        → ((A B : Bytes) (x : X) → s ≡ A ++ (enc x ++ B) → Good x → length A + length (enc x) ≤ end → Stands (length A) x)
        → (A B : Bytes) (xs : List X) → s ≡ A ++ (enc_all xs ++ B) → All Good xs → length A + length (enc_all xs) ≤ end
        → Run (length A) xs (length A + length (enc_all xs))
    bytes_run end f A B [] e w h = let z : length (enc_all []) ≡ 0 = ap length none in omega arith
    bytes_run end f A B (x ∷ xs) e w h =
        let l : length (enc_all (x ∷ xs)) ≡ length (enc x) + length (enc_all xs) = ap length (more x xs) ∙ length-append (enc x) (enc_all xs) in
        let apart : s ≡ A ++ (enc x ++ (enc_all xs ++ B)) = e ∙ ap (λ (z : Bytes). A ++ (z ++ B)) (more x xs)
        ∙ ap (λ (z : Bytes). A ++ z) (append_assoc (enc x) (enc_all xs) B) in
        let further : s ≡ (A ++ enc x) ++ (enc_all xs ++ B) = apart ∙ sym (append_assoc A (enc x) (enc_all xs ++ B)) in
        let here : Stands (length A) x = f A (enc_all xs ++ B) x apart w.0 (omega arith) in
        let n : length (A ++ enc x) ≡ length A + length (enc x) = length-append A (enc x) in
        let z = here.size in
        let to : length (A ++ enc x) + length (enc_all xs) ≡ length A + length (enc_all (x ∷ xs)) = omega arith in
        let start : length (A ++ enc x) ≡ next (length A) = omega arith in
        let rest : Run (length (A ++ enc x)) xs (length (A ++ enc x) + length (enc_all xs)) = bytes_run end f (A ++ enc x) B xs further w.1 (omega arith) in
        (here, subst (λ (i : ℕ). Run i xs (length A + length (enc_all (x ∷ xs)))) start (subst (Run (length (A ++ enc x)) xs) to rest))
