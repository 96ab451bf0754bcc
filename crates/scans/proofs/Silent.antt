-- What is said of no record but those of some kinds, the kind byte alone can rule out.
use mathlib.Core.Path.{◌≡◌, refl, sym, ap, ◌∙◌}
use mathlib.Core.Bool.{Bool, true, false, cond}
use mathlib.Core.List.{List, [], ◌∷◌}
use mathlib.Core.Option.{Option, none, some}
use Prim.Native.Nat.{ℕ}
use native.Mathlib.Omega.{arith}
use lib.Dec.{eqb, leb}
use lib.ListN.{length, get_or}
use borrow.Author.Tests.{eqb-true}
use Rattle.model.specs.Kinds.{Kind, k-range, k-true, k-false, k-not, k-and, k-or, k-compare, k-some, k-constant, k-attribute, k-aggregate, k-permit, kinds, code, body_length, find, kind_of}
use Rattle.kinds.specs.Record.{filled, within, record_at}
use Rattle.kinds.specs.declared.Record.{Record}
use Rattle.kinds.specs.declared.Record.TheVariants as R
use Rattle.kinds.proofs.Entries.{of_none, of_some}
use Rattle.scans.specs.Flat.{binding_of, use_of}

find-code : (b : ℕ) (xs : List Kind) (x : Kind) → find b xs ≡ some x → b ≡ code x
unfolding find
find-code b [] x e = let z : ◌≡◌ {A = ℕ} 0 1 = cc in absurd (omega arith)
find-code b (y ∷ ys) x e = go (eqb b (code y)) refl e (find-code b ys x)
  where
    go : (t : Bool) → eqb b (code y) ≡ t → cond t (some y) (find b ys) ≡ some x → (find b ys ≡ some x → b ≡ code x) → b ≡ code x
    go true h e k = let s : y ≡ x = cc in eqb-true b (code y) h ∙ ap code s
    go false h e k = k e

module _ {A : Type 0} (f : Record → List A) (short : f R.Short ≡ []) (unknown : f R.Unknown ≡ []) where
  silent : (q : List ℕ) → ((x : Kind) → get_or q 0 0 ≡ code x → (a b c d : ℕ) → f (filled a b c d x) ≡ []) → f (record_at q) ≡ []
  unfolding record_at kind_of
  silent [] k = short
  silent (b ∷ r) k = go (kind_of b) refl
    where
      cut : (x : Kind) (t : Bool) → b ≡ code x → f (cond t (filled (get_or r 0 0) (get_or r 1 0) (get_or r 2 0) (get_or r 3 0) x) R.Short) ≡ []
      cut x true e = k x e (get_or r 0 0) (get_or r 1 0) (get_or r 2 0) (get_or r 3 0)
      cut x false e = short

      go : (o : Option Kind) → kind_of b ≡ o → f (record_at (b ∷ r)) ≡ []
      go none e = ap f (of_none R.Unknown (λ x. within x r) b e) ∙ unknown
      go (some x) e = ap f (of_some R.Unknown (λ x. within x r) b x e) ∙ cut x (leb (body_length x) (length r)) (find-code b kinds x e)

pub binds-nothing : (q : List ℕ) (k : ℕ) → k ≡ get_or q 0 0 → (k ≡ 1 → ⊥) × (k ≡ 22 → ⊥) × (k ≡ 34 → ⊥) → [] ≡ binding_of (record_at q)
binds-nothing q k ek (range, exists, aggregate) = sym (silent binding_of refl refl q λ x e. go x (ek ∙ e))
  where
    go : (x : Kind) → k ≡ code x → (a b c d : ℕ) → binding_of (filled a b c d x) ≡ []
    go k-range e a b c d = absurd (range e)
    go k-true e a b c d = refl
    go k-false e a b c d = refl
    go k-not e a b c d = refl
    go k-and e a b c d = refl
    go k-or e a b c d = refl
    go k-compare e a b c d = refl
    go k-some e a b c d = absurd (exists e)
    go k-constant e a b c d = refl
    go k-attribute e a b c d = refl
    go k-aggregate e a b c d = absurd (aggregate e)
    go k-permit e a b c d = refl

pub uses-nothing : (q : List ℕ) (k : ℕ) → k ≡ get_or q 0 0 → (k ≡ 33 → ⊥) × (k ≡ 34 → ⊥) → [] ≡ use_of (record_at q)
uses-nothing q k ek (attribute, aggregate) = sym (silent use_of refl refl q λ x e. go x (ek ∙ e))
  where
    go : (x : Kind) → k ≡ code x → (a b c d : ℕ) → use_of (filled a b c d x) ≡ []
    go k-range e a b c d = refl
    go k-true e a b c d = refl
    go k-false e a b c d = refl
    go k-not e a b c d = refl
    go k-and e a b c d = refl
    go k-or e a b c d = refl
    go k-compare e a b c d = refl
    go k-some e a b c d = refl
    go k-constant e a b c d = refl
    go k-attribute e a b c d = absurd (attribute e)
    go k-aggregate e a b c d = absurd (aggregate e)
    go k-permit e a b c d = refl
