-- The whole list, record by record.
use mathlib.Core.Path.{◌≡◌, refl, sym, ap, ap₂, ◌∙◌}
use mathlib.Core.Bool.{Bool, true, false, not, cond, ◌&&◌}
use mathlib.Core.List.{List, [], ◌∷◌}
use Prim.Native.Nat.{ℕ, ◌+◌, ◌<◌, ◌≤◌}
use native.Mathlib.Omega.{arith}
use lib.Dec.{leb, ltb}
use lib.ListN.{length, get_or, drop, length-drop}
use lib.Seq.{drop-drop, get_or-drop}
use borrow.Author.Tests.{leb-true}
use Rattle.model.proofs.Tests.{and-inv}
use Rattle.quel.specs.Results.{Word}
use Rattle.quel.specs.Names.{is_padded}
use Rattle.model.proofs.Lists.{first-at}
use Rattle.names.specs.Entries.{place_of, width_of, name_at}
use Rattle.names.specs.Search.{is_named, seek, again, good_code, good_at}
use Rattle.tokens.specs.Spans.{capped}
use Rattle.tokens.specs.Kinds.{code_of}
use Rattle.names.proofs.Words.{code-some}
use Rattle.names.proofs.Walk.{name-at}
use Rattle.names.proofs.Reading.{passes, passes-cons}

-- a good name lies within the list
pub padded-room : (x w : List ℕ) (at : ℕ) → is_padded w (drop at x) ≡ true → at + 12 ≤ length x
unfolding is_padded
padded-room x w at h = omega (arith, leb-true 12 (length (drop at x)) (and-inv (leb 12 (length (drop at x))) _ h).0, length-drop at x)

module _ (x : List ℕ) (at n : ℕ) (en : n ≡ good_code x at) where
  pub letters-none : n ≡ 0 → false ≡ is_padded (name_at x at) (drop at x)
  unfolding good_code
  letters-none z = go (is_padded (name_at x at) (drop at x)) refl (sym en ∙ z)
    where
      go : (t : Bool) → is_padded (name_at x at) (drop at x) ≡ t → cond t (capped (code_of (name_at x at))) 0 ≡ 0 → false ≡ t
      go true h e = absurd (omega (arith, e, code-some (name_at x at)))
      go false h e = refl

  pub letters-some : (n ≡ 0 → ⊥) → (true ≡ is_padded (name_at x at) (drop at x)) × (n ≡ capped (code_of (name_at x at)))
  unfolding good_code
  letters-some nz = go (is_padded (name_at x at) (drop at x)) refl en
    where
      go : (t : Bool) → is_padded (name_at x at) (drop at x) ≡ t → n ≡ cond t (capped (code_of (name_at x at))) 0 → (true ≡ t) × (n ≡ capped (code_of (name_at x at)))
      go true h e = (refl, e)
      go false h e = absurd (nz e)

-- the tests of one record, over what they look at
abbrev good_by : ℕ → ℕ → Word → List ℕ → List ℕ → Bool
good_by k a w p y = (leb 80 k && leb k 82) && (is_padded w p && not (ltb 0 (length (seek (is_named k a w) y))))

module _ (x : List ℕ) (at k : ℕ) (ek : k ≡ get_or x at 0) where
  pub good_of : good_at (drop at x) ≡ good_by k (get_or x (at + 1) 0) (name_at x (at + place_of k)) (drop (at + place_of k) x) (drop (at + width_of k) x)
  unfolding good_at again
  good_of =
      ap (λ (k : ℕ). good_by k (get_or (drop at x) 1 0) (name_at (drop at x) (place_of k)) (drop (place_of k) (drop at x)) (drop (width_of k) (drop at x))) (first-at at x ∙ sym ek)
      ∙ ap₂ (λ (a : ℕ) (w : Word). good_by k a w (drop (place_of k) (drop at x)) (drop (width_of k) (drop at x))) (get_or-drop at x 1 0) (name-at x at (place_of k))
      ∙ ap₂ (λ (p y : List ℕ). good_by k (get_or x (at + 1) 0) (name_at x (at + place_of k)) p y) (drop-drop (place_of k) at x) (drop-drop (width_of k) at x)

-- the first record, and the rest
pub passes-some : (y : List ℕ) → 0 < length y → passes y ≡ (good_at y && passes (drop (width_of (get_or y 0 0)) y))
passes-some [] h = absurd (omega arith)
passes-some (k ∷ r) h = passes-cons k r
