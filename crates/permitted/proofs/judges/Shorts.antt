-- A condition of ten bytes, and what judging by tables gives.
use Prim.Native.Nat.{ℕ}
use mathlib.Core.Bool.{true}
use mathlib.Core.List.{List, [], ◌∷◌}
use mathlib.Core.Option.{some}
use mathlib.Core.Path.{◌≡◌, refl, sym, ap, ap₂, ◌∙◌, subst}
use native.Mathlib.Omega.{arith}
use lib.IntN.{ℤ, pos}
use lib.ListN.{length, get_or, replicate, length-replicate}
use Rattle.model.specs.Lists.{update}
use Rattle.model.specs.Syntax.{Condition, COMPARE, ATTRIBUTE, CONSTANT, is_operator, WellFormed, levels}
use Rattle.model.specs.Encoding.{ok, encode, read_condition}
use Rattle.model.proofs.Reading.{read-encode}
use Rattle.model.specs.Meaning.{Tuple, whole, signed, compare, holds_with}
use Rattle.catalogue.specs.Layout.{rows_of}
use Rattle.numbers.specs.declared.Ratio.{Ratio}
use Rattle.numbers.specs.Numbers.{value_of}
use Rattle.sizes.specs.Decode.{decode}
use Rattle.sizes.proofs.Decoding.{decode_is, condition-sized}
use Rattle.walks.specs.declared.Walk.{Walk}
use Rattle.walks.specs.Walks.{rows_by}
use Rattle.allrows.specs.Filled.{whole_of}
use Rattle.numbers.specs.Recalled.{holds_by}
use Rattle.evaluator.specs.Evaluation.{holds_on}
use Rattle.walks.specs.Assigned.{assigned}
use Rattle.aggregates.specs.Filled.{filled_c}
use Rattle.permitted.specs.Marked.{Marked, Short, turned, tuple_of, judged_on}
use Rattle.permitted.specs.Meets.{sizes_of, own_walks, no_places, own_memo, meets_bytes, row_of}
use Rattle.permitted.proofs.judges.Steps.{marked-same}

ten : (q : List ℕ) → length q ≡ 10 → q ≡ get_or q 0 0 ∷ get_or q 1 0 ∷ get_or q 2 0 ∷ get_or q 3 0 ∷ get_or q 4 0 ∷ get_or q 5 0 ∷ get_or q 6 0 ∷ get_or q 7 0 ∷ get_or q 8 0 ∷ get_or q 9 0 ∷ []
ten [] l = absurd (omega arith)
ten (a ∷ []) l = absurd (omega arith)
ten (a ∷ b ∷ []) l = absurd (omega arith)
ten (a ∷ b ∷ c ∷ []) l = absurd (omega arith)
ten (a ∷ b ∷ c ∷ d ∷ []) l = absurd (omega arith)
ten (a ∷ b ∷ c ∷ d ∷ e ∷ []) l = absurd (omega arith)
ten (a ∷ b ∷ c ∷ d ∷ e ∷ f ∷ []) l = absurd (omega arith)
ten (a ∷ b ∷ c ∷ d ∷ e ∷ f ∷ g ∷ []) l = absurd (omega arith)
ten (a ∷ b ∷ c ∷ d ∷ e ∷ f ∷ g ∷ h ∷ []) l = absurd (omega arith)
ten (a ∷ b ∷ c ∷ d ∷ e ∷ f ∷ g ∷ h ∷ i ∷ []) l = absurd (omega arith)
ten (a ∷ b ∷ c ∷ d ∷ e ∷ f ∷ g ∷ h ∷ i ∷ j ∷ []) l = refl
ten (a ∷ b ∷ c ∷ d ∷ e ∷ f ∷ g ∷ h ∷ i ∷ j ∷ k ∷ q) l = absurd (omega arith)

comparison : (o a b c d e : ℕ) → is_operator o ≡ true → read_condition 16 (21 ∷ o ∷ 33 ∷ 0 ∷ a ∷ 32 ∷ b ∷ c ∷ d ∷ e ∷ []) ≡ ok (COMPARE o (ATTRIBUTE 0 a) (CONSTANT b c d e)) []
unfolding encode WellFormed levels
comparison o a b c d e h = read-encode (COMPARE o (ATTRIBUTE 0 a) (CONSTANT b c d e)) 16 [] (h, tt, tt) (omega arith)

module _ (q : List ℕ) (s : Short q) where
  abbrev c : Condition
  c = COMPARE (get_or q 1 0) (ATTRIBUTE 0 (get_or q 4 0)) (CONSTANT (get_or q 6 0) (get_or q 7 0) (get_or q 8 0) (get_or q 9 0))

  read_short : read_condition 16 q ≡ ok c []
  read_short =
      ap (read_condition 16) (ten q s.size ∙ ap₂ (λ (x y : ℕ). x ∷ get_or q 1 0 ∷ y ∷ get_or q 3 0 ∷ get_or q 4 0 ∷ get_or q 5 0 ∷ get_or q 6 0 ∷ get_or q 7 0 ∷ get_or q 8 0 ∷ get_or q 9 0 ∷ []) s.compare s.attribute ∙ ap₂ (λ (x y : ℕ). 21 ∷ get_or q 1 0 ∷ 33 ∷ x ∷ get_or q 4 0 ∷ y ∷ get_or q 6 0 ∷ get_or q 7 0 ∷ get_or q 8 0 ∷ get_or q 9 0 ∷ []) s.variable s.constant)
      ∙ comparison (get_or q 1 0) (get_or q 4 0) (get_or q 6 0) (get_or q 7 0) (get_or q 8 0) (get_or q 9 0) s.operator

  decoded : decode 16 q (sizes_of q) ≡ c
  decoded =
      let n : length (replicate {A = ℕ} 256 0) ≡ 256 = length-replicate {A = ℕ} 256 0 in
      decode_is 16 q c [] (sizes_of q) read_short (condition-sized 16 q 0 (replicate 256 0) c [] read_short (omega (arith, n, s.size)) (omega (arith, s.size)))

  meets-short : (cb : List ℕ) (vs : List ℤ) (x : Tuple) → meets_bytes cb vs q x ≡ compare (get_or q 1 0) (some (whole (x (get_or q 4 0)))) (some (whole (signed (get_or q 6 0) (get_or q 7 0) (get_or q 8 0) (get_or q 9 0))))
  unfolding meets_bytes holds_on holds_with
  meets-short cb vs x = ap (λ (d : Condition). holds_by (own_memo cb vs q) d (rows_by (own_walks cb q) vs) (update (assigned vs (no_places vs)) 0 x)) decoded

  pub short-marks : (vs : List ℤ) (x : Walk) (n : ℕ) (ms y : List ℕ) (o a b₀ b₁ b₂ b₃ : ℕ) (v : ℤ) (r : Ratio) → o ≡ get_or q 1 0 → a ≡ get_or q 4 0 → b₀ ≡ get_or q 6 0 → b₁ ≡ get_or q 7 0 → b₂ ≡ get_or q 8 0 → b₃ ≡ get_or q 9 0 → v ≡ signed b₀ b₁ b₂ b₃ → value_of r ≡ some (whole v)
      → Marked (λ i. turned true (compare o (some (whole (tuple_of vs x i a))) (value_of r))) n ms y → (cb : List ℕ) → Marked (λ i. meets_bytes cb vs q (tuple_of vs x i)) n ms y
  short-marks vs x n ms y o a b₀ b₁ b₂ b₃ v r eo ea e₀ e₁ e₂ e₃ ev er h cb =
      marked-same h refl (λ i k. ap (compare o (some (whole (tuple_of vs x i a)))) (er ∙ ap (λ n. some (whole n)) ev) ∙ rw (eo, ea, e₀, e₁, e₂, e₃) (sym (meets-short cb vs (tuple_of vs x i))))

-- by tables
pub long-marks : (cb : List ℕ) (vs : List ℤ) (q z ws : List ℕ) (m : List ℤ) (x : Walk) (n : ℕ) (ms y : List ℕ) → z ≡ sizes_of q → ws ≡ own_walks cb q → m ≡ filled_c (decode 16 q z) (rows_by ws vs) (assigned vs (no_places vs)) (replicate 8 (pos 0))
    → Marked (judged_on 16 q z ws vs m x true) n ms y → Marked (λ i. meets_bytes cb vs q (tuple_of vs x i)) n ms y
unfolding judged_on meets_bytes holds_on
long-marks cb vs q z ws m x n ms y ez ew em h = marked-same h refl (λ i k. rw (em, ew, ez))

-- the whole of a relation
pub whole-marks : (cb : List ℕ) (vs : List ℤ) (q : List ℕ) (r : ℕ) (x : Walk) (ms y : List ℕ) → x ≡ whole_of cb r → Marked (λ i. meets_bytes cb vs q (tuple_of vs x i)) x.count ms y → Marked (λ i. meets_bytes cb vs q (row_of cb vs r i)) (rows_of cb r) ms y
whole-marks cb vs q r x ms y e h = subst (λ (u : Walk). Marked (λ i. meets_bytes cb vs q (tuple_of vs u i)) u.count ms y) e h
