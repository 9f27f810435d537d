-- A call that may move leaves the rows of shards that are none of its own, and so the place of a value in them. Assumes nothing.
use Rattle.std.specs.Prelude.{◌≡◌, List, [], ◌∷◌, ℕ, length}
use Rattle.std.proofs.Math.Path.{refl}
use Rattle.std.proofs.Common.{sym, ap, ◌∙◌, arith, ne_eqb}
use Rattle.book.specs.Book as book
use Rattle.book.specs.Book.{Setup, Book, Keyed, key_of, on, put, effect, after, after_all}
use Rattle.book.specs.Calls.{Call, single, ons, invalidations, after_call, homes, Shards, these, all_shards, shards_of, NotAmong, Apart, NoneCommon, call-defs}
use Rattle.book.specs.Exchange.{Movable, a_single, a_push, a_push_all, a_refused}
use Rattle.book.proofs.Exchange.{commute}
use Rattle.book.proofs.Trace.{row-elsewhere}
use Rattle.arena.proofs.PlaceLaws.{place-local}
use Rattle.demand.specs.Replies.{place_in}

-- events with keys leave the row of a shard that is none of theirs
rows-elsewhere : (p : Setup) (i : ℕ) (qs : List Keyed) (bk : Book) → NotAmong i (homes p qs) → (after_all p (ons qs) bk).rows i ≡ bk.rows i
unfolding after_all ons homes after put
rows-elsewhere p i [] bk d = refl
rows-elsewhere p i (q ∷ qs) bk d =
    rows-elsewhere p i qs (after p (on q) bk) d.1
    ∙ row-elsewhere (p.shard_of (key_of q)) i (effect p q bk).row bk.rows (ne_eqb i (p.shard_of (key_of q)) d.0)

-- and so does a call that may move
call-elsewhere : (p : Setup) (i : ℕ) {y : Call} → Movable y → NoneCommon (these (i ∷ [])) (shards_of p y) → (bk : Book) → (after_call p y bk).rows i ≡ bk.rows i
unfolding call-defs shards_of
call-elsewhere p i (a_single q) d bk = rows-elsewhere p i (q ∷ []) bk d.0
call-elsewhere p i (a_push ks) d bk = rows-elsewhere p i (invalidations ks) bk d.0
call-elsewhere p i a_push_all d bk = absurd (let z : length (i ∷ []) ≡ 0 = ap length d in omega arith)
call-elsewhere p i a_refused d bk = unfold after_all in refl

-- so the place of what a call hands out does not hang on another call that shares no shard with it
pub place-stays : (p : Setup) {x y : Call} → Movable x → Movable y → NoneCommon (shards_of p x) (shards_of p y) → (bk : Book)
    → place_in p x (after_call p x (after_call p y bk)).rows ≡ place_in p x (after_call p x bk).rows
unfolding place_in shards_of homes key_of
place-stays p (a_single (book.lookup k c t e)) m d bk =
    place-local p k c _ _
    (ap (λ (b : Book). b.rows (p.shard_of k)) (sym (commute p (a_single (book.lookup k c t e)) m d bk).book)
    ∙ call-elsewhere p (p.shard_of k) m d (after_call p (single (book.lookup k c t e)) bk))
place-stays p (a_single (book.store k c v x e)) m d bk = refl
place-stays p (a_single (book.invalidate k)) m d bk = refl
place-stays p (a_push ks) m d bk = refl
place-stays p a_push_all m d bk = refl
place-stays p a_refused m d bk = refl

-- no shard in common, whichever call is named first
apart_none : (rs : List ℕ) → Apart rs []
apart_none [] = tt
apart_none (r ∷ rs) = (tt, apart_none rs)

apart_more : (i : ℕ) (ss rs : List ℕ) → NotAmong i rs → Apart rs ss → Apart rs (i ∷ ss)
apart_more i ss [] d a = tt
apart_more i ss (r ∷ rs) d a = ((λ e. d.0 (sym e), a.0), apart_more i ss rs d.1 a.1)

apart-sym : (ss rs : List ℕ) → Apart ss rs → Apart rs ss
apart-sym [] rs a = apart_none rs
apart-sym (s ∷ ss) rs a = apart_more s ss rs a.0 (apart-sym ss rs a.1)

pub common-sym : (a b : Shards) → NoneCommon a b → NoneCommon b a
common-sym (these ss) (these rs) d = apart-sym ss rs d
common-sym (these ss) all_shards d = d
common-sym all_shards (these rs) d = d
common-sym all_shards all_shards d = d
