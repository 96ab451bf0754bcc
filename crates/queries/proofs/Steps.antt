-- One step of each function as an equation over plain variables.
use mathlib.Core.Path.{◌≡◌, refl, sym, ap, ap₂, ◌∙◌}
use mathlib.Core.Bool.{Bool, true, ◌&&◌}
use mathlib.Core.List.{List, [], ◌∷◌}
use mathlib.Core.Option.{some}
use Prim.Native.Nat.{ℕ, suc, ◌+◌, ◌-◌, ◌<◌}
use native.Mathlib.Omega.{arith}
use lib.ListN.{length, drop, set}
use Rattle.model.specs.Lists.{update, all}
use Rattle.model.specs.Syntax.{Binding}
use Rattle.model.specs.Scope.{Scope, nobody, range_scope}
use Rattle.kinds.specs.Tables.{record_length}
use Rattle.kinds.specs.Places.{head_at}
use Rattle.kinds.specs.declared.HeadRecord.{HeadRecord}
use Rattle.kinds.specs.declared.HeadRecord.TheVariants as H
use Rattle.conditions.specs.Reach.{scope_of}
use Rattle.conditions.proofs.scope.Tables.{scope-set}
use Rattle.queries.specs.Parts.{reach_on}
use Rattle.queries.specs.Found.{range_then, head_ranges}

-- the RANGE records, one at a time: none are left, or another record stands there, or one more
pub none_left : (left : ℕ) (q : List ℕ) → left ≡ 0 → head_ranges left q ≡ []
unfolding head_ranges
none_left left q h = rw h

module _ (left : ℕ) (q : List ℕ) (nz : left ≡ 0 → ⊥) (h : HeadRecord) (eh : h ≡ head_at q) where
  step : head_ranges left q ≡ range_then h (head_ranges (left - 1) (drop (record_length 1) q))
  unfolding head_ranges
  step =
      let e : left ≡ suc (left - 1) = omega (arith, nz) in
      ap (λ n. head_ranges n q) e ∙ ap (λ (x : HeadRecord). range_then x (head_ranges (left - 1) (drop (record_length 1) q))) (sym eh)

  pub other-here : h ≡ H.Other → head_ranges left q ≡ []
  other-here e = step ∙ ap (λ (x : HeadRecord). range_then x (head_ranges (left - 1) (drop (record_length 1) q))) e

  pub range-here : (v r : ℕ) → h ≡ H.Range v r → (n : ℕ) (u : List ℕ) → n ≡ record_length 1 → u ≡ drop n q
      → head_ranges left q ≡ record { variable = v; relation = r } ∷ head_ranges (left - 1) u
  range-here v r e n u en eu =
      step ∙ ap (λ (x : HeadRecord). range_then x (head_ranges (left - 1) (drop (record_length 1) q))) e
      ∙ ap (λ (x : List ℕ). record { variable = v; relation = r } ∷ head_ranges (left - 1) x) (sym (eu ∙ ap (λ k. drop k q) en))

-- what is known of them, and whom they put in reach
module _ (f : Binding → Bool) (bs : List Binding) where
  pub none-known : bs ≡ [] → (0 ≡ length bs) × (true ≡ all f bs)
  unfolding all
  none-known e = (sym (ap length e), sym (ap (all f) e))

  pub more-known : (b : Binding) (cs : List Binding) → bs ≡ b ∷ cs → (n : ℕ) (x y z : Bool) → n ≡ length cs → x ≡ f b → y ≡ all f cs → z ≡ (x && y) → (1 + n ≡ length bs) × (z ≡ all f bs)
  unfolding all
  more-known b cs e n x y z en ex ey ez = (omega (arith, en, ap length e), ez ∙ ap₂ ◌&&◌ ex ey ∙ sym (ap (all f) e))

pub none-bound : (bs : List Binding) (σ : Scope) → bs ≡ [] → σ ≡ reach_on bs σ
unfolding reach_on
none-bound bs σ e = sym (ap (λ (l : List Binding). reach_on l σ) e)

pub more-bound : (bs : List Binding) (v r : ℕ) (cs : List Binding) → bs ≡ record { variable = v; relation = r } ∷ cs → (s t w : List ℕ) → scope_of t ≡ reach_on cs (scope_of s)
    → v < length t → w ≡ set t v (r + 1) → scope_of w ≡ reach_on bs (scope_of s)
unfolding reach_on
more-bound bs v r cs e s t w et hv ew =
    ap scope_of ew ∙ scope-set t v r hv ∙ ap (λ (σ : Scope). update σ v (some r)) et ∙ sym (ap (λ (l : List Binding). reach_on l (scope_of s)) e)

-- the whole query
pub scope-ranges : (bs : List Binding) → reach_on bs nobody ≡ range_scope bs
unfolding reach_on range_scope
scope-ranges [] = refl
scope-ranges (b ∷ bs) = ap (λ (σ : Scope). update σ b.variable (some b.relation)) (scope-ranges bs)
