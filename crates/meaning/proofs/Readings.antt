-- What is read, tested and asked (`Readings` of Meaning.antt), proved: the laws of call_record, cursor, resp3 and plan together, with those of Elements.antt,
-- NodeLaws.antt and WrittenLaws.antt, and the arena's with "exactly one value" by meaning in the place of the test. Assumes nothing.
use Rattle.std.specs.Prelude.{◌≡◌, refl, ◌↔◌, true, false, List, [], ◌∷◌, ℕ, length}
use Rattle.std.proofs.Common.{sym, ◌∙◌, leb-true, le-leb}
use Rattle.std.proofs.Math.Path.{ap}
use Rattle.std.proofs.Math.Option.{Option, none, some, none-ne-some, some-injective}
use Rattle.buffer.specs.Same.{Bytes, same}
use Rattle.buffer.specs.SameLaws.{same_refl, same-eq}
use Rattle.config.specs.Causes.{no_space}
use Rattle.config.specs.Config.{refused, settings_of, checked}
use Rattle.config.specs.Laws.{passed}
use Rattle.std.specs.Prelude.{Ok}
use Rattle.format.specs.Lists.{All}
use Rattle.siphash.specs.Sip.{sip_hash13}
use Rattle.resp3.specs.Ends.{is_value}
use Rattle.resp3.proofs.Law as values
use Rattle.call_record.specs.Record.{enc_record}
use Rattle.call_record.specs.Check.{check-fine, check-offset}
use Rattle.cursor.specs.Laws.{decoded}
use Rattle.book.specs.Book.{Setup, Entry, Row, Answer, hit, miss, stored, no_space as spaceless, invalidated, number}
use Rattle.book.specs.Each.{Each}
use Rattle.book.specs.Storable.{StorableEntries, StorableItem}
use Rattle.arena.specs.Decode.{may_store, decode}
use Rattle.arena.specs.Tests.{WellFormed}
use Rattle.arena.proofs.Tests.{every-yes, yes-every}
use Rattle.arena.specs.Image as images
use Rattle.arena.proofs.Image as image_laws
use Rattle.arena.specs.Image.{Sized}
use Rattle.arena.proofs.Sizes.{sized}
use Rattle.sharded_lru.specs.Lent.{setup_now}
use Rattle.call_entry.specs.Entered.{no_cause}
use Rattle.single_calls.specs.Single.{number_of, served_by}
use Rattle.plan.proofs.Law as plans
use Rattle.meaning.specs.Meaning.{Readings}
use Rattle.meaning.specs.Rows.{MayStore, Storable, Image}
use Rattle.meaning.proofs.NodeLaws.{order-means, commands-mean}
use Rattle.meaning.proofs.OutcomeLaws.{recorded-means, resolved-means, refuses-mean, stores-remain, none-remains}
use Rattle.meaning.proofs.WrittenLaws.{means-written, encode-written, row-bytes, within-written}
use Rattle.meaning.proofs.Elements.{array-means, integer-means, error-means, inner-means, keys-mean, no-key-means, keys-pushed-so, all-pushed-so}
use Rattle.meaning.proofs.Elements.{none-pushed-so}
use Rattle.meaning.proofs.NullBytes.{dollar-minus, star-minus}

-- ---- what may be stored

may-means : (k c v : Bytes) → (may_store is_value k c v ≡ true) ↔ MayStore k c v
unfolding may_store
may-means k c v = (
  λ e.
      let w = every-yes _ e in
      record { key = leb-true _ _ w.0; command = leb-true _ _ w.1.0; value = (values.value-law v).0 w.1.1.0 },
  λ m. yes-every _ (le-leb _ _ m.key, (le-leb _ _ m.command, ((values.value-law v).1 m.value, tt))),
)

-- entries
entries-mean : (k : Bytes) (ens : List Entry) → StorableEntries (may_store is_value) k ens → All (λ (en : Entry). MayStore k en.command en.value) ens
entries-mean k [] w = tt
entries-mean k (en ∷ ens) w = ((may-means k en.command en.value).0 w.0, entries-mean k ens w.1)

mean-entries : (k : Bytes) (ens : List Entry) → All (λ (en : Entry). MayStore k en.command en.value) ens → StorableEntries (may_store is_value) k ens
mean-entries k [] w = tt
mean-entries k (en ∷ ens) w = ((may-means k en.command en.value).1 w.0, mean-entries k ens w.1)

-- rows
row-means : (row : Row) → Each (StorableItem (may_store is_value)) row → All Storable row
row-means [] w = tt
row-means (it ∷ row) w = (
  record { epoch = w.0.epoch; expiry = w.0.expiry; entries = entries-mean it.key it.entries w.0.entries },
  row-means row w.1,
)

mean-row : (row : Row) → All Storable row → Each (StorableItem (may_store is_value)) row
mean-row [] w = tt
mean-row (it ∷ row) w = (
  record { epoch = w.0.epoch; expiry = w.0.expiry; entries = mean-entries it.key it.entries w.0.entries },
  mean-row row w.1,
)

-- ---- an image

module _ (p : Setup) (s : Bytes) (rows : ℕ → Row) where
  -- by meaning, from the test's
  pub image-means : images.Image is_value p s rows → Image p s rows
  image-means w =
      record {
        sound = λ i. (w.formed.fine i).sound;
        storable = λ i. row-means (rows i) (w.formed.fine i).fits;
        beyond = w.formed.beyond;
        bytes = w.bytes;
      }

  -- and the other way
  pub formed-of : Image p s rows → WellFormed is_value p rows
  formed-of w = record { fine = λ i. record { sound = w.sound i; fits = mean-row (rows i) (w.storable i) }; beyond = w.beyond }

  pub means-image : Image p s rows → images.Image is_value p s rows
  means-image w = record { formed = formed-of w; bytes = w.bytes }

module _ (size mode ttl : ℕ) (s : Bytes) (e : refused size mode (length s) ≡ false) where
  abbrev p : Setup
  p = setup_now (settings_of size mode ttl (length s))

  -- cause 1 lets the settings through
  pub is-fine : checked size mode ttl (length s) ≡ Ok (settings_of size mode ttl (length s))
  unfolding checked
  is-fine = rw e

  is-sized : Sized p (length s)
  is-sized = sized sip_hash13 size mode ttl (length s) (settings_of size mode ttl (length s)) (passed size mode ttl (length s) _ is-fine)

  rows_are : (rows : ℕ → Row) → (decode is_value p s ≡ some rows) ↔ Image p s rows
  rows_are rows = (
    λ d. image-means p s rows (image_laws.decode-exact is_value p s rows d),
    λ w. (image_laws.decodes is_value p s is-sized rows).1 (means-image p s rows w),
  )

  no-image : (decode is_value p s ≡ none) ↔ ((rows : ℕ → Row) → Image p s rows → ⊥)
  no-image = (
    λ d rows w. none-ne-some rows (sym d ∙ (rows_are rows).1 w),
    λ f. go (decode is_value p s) refl f,
  )
    where
      go : (o : Option (ℕ → Row)) → decode is_value p s ≡ o → ((rows : ℕ → Row) → Image p s rows → ⊥) → o ≡ none
      go none d f = refl
      go (some rows) d f = absurd (f rows ((rows_are rows).0 d))

-- ---- the book's answers

served-so : (v : Bytes) → served_by (hit v) ≡ some v
unfolding served_by
served-so v = refl

served-means : (a : Answer) (v : Bytes) → (served_by a ≡ some v) ↔ (a ≡ hit v)
served-means a v = (served-only a, λ e. ap served_by e ∙ served-so v)
  where
    served-only : (a : Answer) → served_by a ≡ some v → a ≡ hit v
    served-only (hit u) e = ap hit (some-injective u v (unfold served_by in e))
    served-only miss e = absurd (none-ne-some v (unfold served_by in e))
    served-only stored e = absurd (none-ne-some v (unfold served_by in e))
    served-only spaceless e = absurd (none-ne-some v (unfold served_by in e))
    served-only invalidated e = absurd (none-ne-some v (unfold served_by in e))
    served-only (number n) e = absurd (none-ne-some v (unfold served_by in e))

number-means : (a : Answer) → (number_of spaceless ≡ no_space) × ((a ≡ spaceless → ⊥) → number_of a ≡ no_cause)
unfolding number_of
number-means (hit u) = (refl, λ n. refl)
number-means miss = (refl, λ n. refl)
number-means stored = (refl, λ n. refl)
number-means spaceless = (refl, λ n. absurd (n refl))
number-means invalidated = (refl, λ n. refl)
number-means (number k) = (refl, λ n. refl)

-- ---- all of them

pub readings : Readings
readings =
    record {
      is_record = check-fine;
      offset = check-offset;
      record_of = λ r w. (decoded (enc_record r) r w refl).is;
      value = values.value-law;
      value_of = values.decode-law;
      dollar-null = dollar-minus;
      star-null = star-minus;
      plan-of = plans.decode-law;
      no-plan = plans.decode-none;
      order = order-means;
      commands-of = commands-mean;
      means = means-written;
      encoded = encode-written;
      encoded-row = row-bytes;
      within = within-written;
      recorded-is = recorded-means;
      refused-is = λ n buffer h. refl;
      resolved-is = resolved-means;
      refuses = refuses-mean;
      stores-left = stores-remain;
      none_left = none-remains;
      same-is = λ a b. (same-eq a b, λ e. ap (λ (z : Bytes). same a z) (sym e) ∙ same_refl a);
      array-of = array-means;
      integer-of = integer-means;
      no-error = error-means;
      replies-of = array-means;
      replies-in = inner-means;
      keys-pushed = keys-pushed-so;
      all-pushed = all-pushed-so;
      none-pushed = none-pushed-so;
      keys = keys-mean;
      no_key = no-key-means;
      serves = served-means;
      number-of = number-means;
      rows_of = rows_are;
      no_rows = no-image;
    }
