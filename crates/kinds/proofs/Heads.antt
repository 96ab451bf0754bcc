-- The bytes that a RANGE or a permit's record was read from, and that they are read so.
use mathlib.Core.Path.{◌≡◌, refl, sym, ap, ◌∙◌}
use mathlib.Core.Bool.{Bool, true, false}
use mathlib.Core.List.{List, [], ◌∷◌}
use mathlib.Core.Option.{Option, none, some}
use Prim.Native.Nat.{ℕ, ◌+◌, ◌*◌, ◌<◌}
use native.Mathlib.Omega.{arith}
use lib.Dec.{leb}
use lib.ListN.{length, get_or, drop}
use borrow.Author.Tests.{leb-true, leb-false}
use Rattle.model.specs.Kinds.{Kind, k-range, k-true, k-false, k-not, k-and, k-or, k-compare, k-some, k-constant, k-attribute, k-aggregate, k-permit, kind_of, find, kinds, code, body_length}
use Rattle.model.proofs.Reading.{find-inv}
use Rattle.kinds.specs.Record.{filled, within, record_at}
use Rattle.kinds.specs.Places.{head_of, head_at, permit_of, permit_at}
use Rattle.kinds.specs.declared.Record.TheVariants as R
use Rattle.kinds.specs.declared.HeadRecord.{HeadRecord}
use Rattle.kinds.specs.declared.HeadRecord.TheVariants as H
use Rattle.kinds.specs.declared.PermitRecord.TheVariants as P
use Rattle.kinds.proofs.Entries.{of_none}
use Rattle.kinds.proofs.Records.{whole-record, short-record}

-- bytes that start with a whole record of a kind
pub record Begun (q : List ℕ) : Type 0 where
  pub kind : Kind
  pub byte : get_or q 0 0 ≡ code kind
  pub room : body_length kind < length q
  pub is : record_at q ≡ filled (get_or q 1 0) (get_or q 2 0) (get_or q 3 0) (get_or q 4 0) kind

pub begun : (q : List ℕ) → (record_at q ≡ R.Unknown → ⊥) → (record_at q ≡ R.Short → ⊥) → Begun q
unfolding record_at kind_of
begun [] u s = absurd (s refl)
begun (k ∷ r) u s = go (kind_of k) refl
  where
    go : (o : Option Kind) → kind_of k ≡ o → Begun (k ∷ r)
    go none e = absurd (u (of_none R.Unknown (λ x. within x r) k e))
    go (some x) e = whole (leb (body_length x) (length r)) refl
      where
        whole : (b : Bool) → leb (body_length x) (length r) ≡ b → Begun (k ∷ r)
        whole true h = let l = leb-true (body_length x) (length r) h in record { kind = x; byte = find-inv k kinds x e; room = omega (arith, l); is = whole-record k r x e l }
        whole false h = absurd (s (short-record k r x e (omega (arith, leb-false (body_length x) (length r) h))))

-- RANGE
pub range-bytes : (q : List ℕ) (v y : ℕ) → head_at q ≡ H.Range v y → q ≡ 1 ∷ v ∷ y ∷ drop 3 q
range-bytes q v y e =
    let b = begun q (λ i. no (ap head_of (sym i) ∙ e)) (λ i. no (ap head_of (sym i) ∙ e)) in go b.kind b.byte b.room (ap head_of (sym b.is) ∙ e)
  where
    no : H.Other ≡ H.Range v y → ⊥
    no i = let z : ◌≡◌ {A = ℕ} 0 1 = cc in omega arith

    spelt : (q : List ℕ) → get_or q 0 0 ≡ 1 → 2 < length q → get_or q 1 0 ≡ v → get_or q 2 0 ≡ y → q ≡ 1 ∷ v ∷ y ∷ drop 3 q
    spelt [] k l f g = absurd (omega arith)
    spelt (a ∷ []) k l f g = absurd (omega arith)
    spelt (a ∷ b ∷ []) k l f g = absurd (omega arith)
    spelt (a ∷ b ∷ c ∷ r) k l f g = rw (k, f, g)

    go : (x : Kind) → get_or q 0 0 ≡ code x → body_length x < length q → head_of (filled (get_or q 1 0) (get_or q 2 0) (get_or q 3 0) (get_or q 4 0) x) ≡ H.Range v y → q ≡ 1 ∷ v ∷ y ∷ drop 3 q
    go k-range k l i = let f : get_or q 1 0 ≡ v = cc in let g : get_or q 2 0 ≡ y = cc in spelt q k l f g
    go k-true k l i = absurd (no i)
    go k-false k l i = absurd (no i)
    go k-not k l i = absurd (no i)
    go k-and k l i = absurd (no i)
    go k-or k l i = absurd (no i)
    go k-compare k l i = absurd (no i)
    go k-some k l i = absurd (no i)
    go k-constant k l i = absurd (no i)
    go k-attribute k l i = absurd (no i)
    go k-aggregate k l i = absurd (no i)
    go k-permit k l i = absurd (no i)

pub range_at : (v y : ℕ) (r : List ℕ) → head_at (1 ∷ v ∷ y ∷ r) ≡ H.Range v y
unfolding kind_of find
range_at v y r = ap head_of (whole-record 1 (v ∷ y ∷ r) k-range refl (omega arith))

pub no-range : (q : List ℕ) → (get_or q 0 0 ≡ 1 → ⊥) → head_at q ≡ H.Other
no-range q n = go (head_at q) refl
  where
    go : (h : HeadRecord) → head_at q ≡ h → h ≡ H.Other
    go (H.Range v y) e = absurd (n (ap (λ (l : List ℕ). get_or l 0 0) (range-bytes q v y e)))
    go H.Other e = refl

-- a permit's record, its mask as two bytes
pub record Opened (q : List ℕ) (x m : ℕ) : Type 0 where
  pub low : ℕ
  pub high : ℕ
  pub bytes : q ≡ 64 ∷ x ∷ low ∷ high ∷ drop 4 q
  pub mask : m ≡ low + 256 * high

pub permit-bytes : (q : List ℕ) (x m : ℕ) → permit_at q ≡ P.Permit x m → Opened q x m
permit-bytes q x m e =
    let b = begun q (λ i. no (ap permit_of (sym i) ∙ e)) (λ i. no (ap permit_of (sym i) ∙ e)) in go b.kind b.byte b.room (ap permit_of (sym b.is) ∙ e)
  where
    no : P.Other ≡ P.Permit x m → ⊥
    no i = let z : ◌≡◌ {A = ℕ} 0 1 = cc in omega arith

    spelt : (q : List ℕ) → get_or q 0 0 ≡ 64 → 3 < length q → get_or q 1 0 ≡ x → q ≡ 64 ∷ x ∷ get_or q 2 0 ∷ get_or q 3 0 ∷ drop 4 q
    spelt [] k l f = absurd (omega arith)
    spelt (a ∷ []) k l f = absurd (omega arith)
    spelt (a ∷ b ∷ []) k l f = absurd (omega arith)
    spelt (a ∷ b ∷ c ∷ []) k l f = absurd (omega arith)
    spelt (a ∷ b ∷ c ∷ d ∷ r) k l f = rw (k, f)

    go : (z : Kind) → get_or q 0 0 ≡ code z → body_length z < length q → permit_of (filled (get_or q 1 0) (get_or q 2 0) (get_or q 3 0) (get_or q 4 0) z) ≡ P.Permit x m → Opened q x m
    go k-permit k l i =
        let f : get_or q 1 0 ≡ x = cc in let g : m ≡ get_or q 2 0 + 256 * get_or q 3 0 = cc in
        record { low = get_or q 2 0; high = get_or q 3 0; bytes = spelt q k l f; mask = g }
    go k-range k l i = absurd (no i)
    go k-true k l i = absurd (no i)
    go k-false k l i = absurd (no i)
    go k-not k l i = absurd (no i)
    go k-and k l i = absurd (no i)
    go k-or k l i = absurd (no i)
    go k-compare k l i = absurd (no i)
    go k-some k l i = absurd (no i)
    go k-constant k l i = absurd (no i)
    go k-attribute k l i = absurd (no i)
    go k-aggregate k l i = absurd (no i)

pub permit-at : (x l h : ℕ) (r : List ℕ) → permit_at (64 ∷ x ∷ l ∷ h ∷ r) ≡ P.Permit x (l + 256 * h)
unfolding kind_of find
permit-at x l h r = ap permit_of (whole-record 64 (x ∷ l ∷ h ∷ r) k-permit refl (omega arith))
