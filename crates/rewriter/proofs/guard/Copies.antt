-- What is copied of one record of a permit's condition, as the code tells the records apart.
use mathlib.Core.Path.{◌≡◌, refl, sym, ap, ◌∙◌}
use mathlib.Core.List.{List, [], ◌∷◌, ◌++◌}
use Prim.Native.Nat.{ℕ, ◌+◌, ◌<◌}
use lib.ListN.{length}
use borrow.Author.Tests.{eq-eqb, ne_eqb}
use denote.Enum.Declared.{tag_of, declared}
use types.Run.{OneOf, miss}
use Rattle.model.specs.Lists.{index_of}
use Rattle.model.specs.Syntax.{variables}
use Rattle.kinds.specs.Record.{record_at}
use Rattle.kinds.specs.declared.Record.{Record}
use Rattle.kinds.specs.declared.Record.TheVariants as R
use Rattle.kinds.specs.contracts.Record.{enum}
use Rattle.scans.specs.Flat.{parts_of, flat, flat_bindings}
use Rattle.scans.proofs.Walk.{flat-on}
use Rattle.copier.specs.Copied.{record_bytes, renamed_record, number_in, copied_record, copied_bytes}
use Rattle.copier.proofs.Sets.{Wrote, Left, left-then, left-room}

-- records with no variable that a condition could have
pub unnamed : (r : Record) (ρ : ℕ → ℕ) → OneOf (0 ∷ 1 ∷ 2 ∷ 3 ∷ 4 ∷ 5 ∷ 6 ∷ 8 ∷ 11 ∷ 12 ∷ 13 ∷ []) (tag_of (declared enum) r) → r ≡ renamed_record ρ r
unnamed (R.Some v r) ρ h = absurd (miss (0 ∷ 1 ∷ 2 ∷ 3 ∷ 4 ∷ 5 ∷ 6 ∷ 8 ∷ 11 ∷ 12 ∷ 13 ∷ []) 7 tt h)
unnamed (R.Attribute v a) ρ h = absurd (miss (0 ∷ 1 ∷ 2 ∷ 3 ∷ 4 ∷ 5 ∷ 6 ∷ 8 ∷ 11 ∷ 12 ∷ 13 ∷ []) 9 tt h)
unnamed (R.Aggregate f v r a) ρ h = absurd (miss (0 ∷ 1 ∷ 2 ∷ 3 ∷ 4 ∷ 5 ∷ 6 ∷ 8 ∷ 11 ∷ 12 ∷ 13 ∷ []) 10 tt h)
unnamed (R.Range v r) ρ h = refl
unnamed R.True ρ h = refl
unnamed R.False ρ h = refl
unnamed R.Not ρ h = refl
unnamed R.And ρ h = refl
unnamed R.Or ρ h = refl
unnamed (R.Compare o) ρ h = refl
unnamed (R.Constant a b c d) ρ h = refl
unnamed (R.Permit a b c) ρ h = refl
unnamed R.Unknown ρ h = refl
unnamed R.Short ρ h = refl

-- a record whose variable was renamed
module _ (ρ : ℕ → ℕ) (x : Record) (v n : ℕ) (en : n ≡ ρ v) where
  pub some-renamed : (r : ℕ) → x ≡ R.Some v r → R.Some n r ≡ renamed_record ρ x
  some-renamed r e = ap (λ (m : ℕ). R.Some m r) en ∙ sym (ap (renamed_record ρ) e)

  pub attribute-renamed : (a : ℕ) → x ≡ R.Attribute v a → R.Attribute n a ≡ renamed_record ρ x
  attribute-renamed a e = ap (λ (m : ℕ). R.Attribute m a) en ∙ sym (ap (renamed_record ρ) e)

  pub aggregate-renamed : (f r a : ℕ) → x ≡ R.Aggregate f v r a → R.Aggregate f n r a ≡ renamed_record ρ x
  aggregate-renamed f r a e = ap (λ (m : ℕ). R.Aggregate f m r a) en ∙ sym (ap (renamed_record ρ) e)

-- the number of a variable
pub number-zero : (q : List ℕ) (v n w : ℕ) → w ≡ 0 → v ≡ number_in q v n w
unfolding number_in
number-zero q v n w h = rw (eq-eqb w 0 h)

pub number-other : (q : List ℕ) (v n w i : ℕ) → (w ≡ 0 → ⊥) → i ≡ index_of w (variables (flat_bindings q)) → n + i ≡ number_in q v n w
unfolding number_in
number-other q v n w i h e = rw (ne_eqb w 0 h, e)

-- a turn of the walk over a condition's records, from s to t: what is still to be written
module _ (q : List ℕ) (v n : ℕ) (s t x : List ℕ) (h : parts_of s ≡ x ∷ parts_of t) (r y : Record) (er : r ≡ record_at x) (ey : y ≡ renamed_record (number_in q v n) r) where
  copy-left : flat (copied_record q v n) s ≡ record_bytes y ++ flat (copied_record q v n) t
  copy-left =
      flat-on (copied_record q v n) s t x h
      ∙ ap (λ (b : List ℕ). b ++ flat (copied_record q v n) t) (sym (ap record_bytes (ey ∙ ap (renamed_record (number_in q v n)) er)))

  pub copy-room : (d : List ℕ) (at : ℕ) (o : List ℕ) (to : ℕ) → Left d at (copied_bytes q v n) o to (flat (copied_record q v n) s) → at + length (copied_bytes q v n) < 9223372036854775808 → to + length (record_bytes y) < 9223372036854775808
  copy-room d at o to l m = left-room d at (copied_bytes q v n) o to (flat (copied_record q v n) s) (record_bytes y) (flat (copied_record q v n) t) copy-left l m

  pub copy-turn : (d : List ℕ) (at : ℕ) (o : List ℕ) (to : ℕ) → Left d at (copied_bytes q v n) o to (flat (copied_record q v n) s) → (z : List ℕ) (p : ℕ) → Wrote o to (record_bytes y) z p → Left d at (copied_bytes q v n) z p (flat (copied_record q v n) t)
  copy-turn d at o to l z p w = left-then d at (copied_bytes q v n) o to (flat (copied_record q v n) s) (record_bytes y) (flat (copied_record q v n) t) z p copy-left l w

pub copy_start : (d q : List ℕ) (v n at : ℕ) → Left d at (copied_bytes q v n) d at (flat (copied_record q v n) q)
unfolding copied_bytes
copy_start d q v n at = (refl, refl)
