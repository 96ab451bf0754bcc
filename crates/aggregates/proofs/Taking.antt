-- What an aggregate takes, by a loop that passes over rows that fail.
use Prim.Native.Nat.{ℕ, ◌+◌, ◌≤◌, ◌<◌}
use native.Mathlib.Omega.{arith}
use mathlib.Core.Bool.{Bool, true, false, not, cond, ◌&&◌}
use mathlib.Core.List.{List, map}
use mathlib.Core.Path.{◌≡◌, refl, sym, ap, ap₂, ◌∙◌, subst, fun_ext}
use lib.IntN.{ℤ, pos}
use lib.ListN.{length, get_or, set, drop}
use Rattle.model.specs.Lists.{update, filter, all, below}
use Rattle.model.specs.Meaning.{Tuple, Assignment}
use Rattle.model.proofs.Tests.{not_yes, not-no, and-true}
use Rattle.numbers.specs.Numbers.{added, Bounded, Accumulates}
use Rattle.numbers.specs.declared.Accumulator.{Accumulator}
use Rattle.catalogue.specs.Layout.{tuple_at}
use Rattle.walks.specs.declared.Walk.{Walk}
use Rattle.walks.proofs.Loops.{kept-miss}
use Rattle.sizes.specs.Decode.{decode}
use Rattle.sizes.specs.Parts.{ranges_at}
use Rattle.walks.specs.Walks.{walk_of, place_at, walked, kept}
use Rattle.evaluator.specs.Evaluation.{holds_on, values_on}
use Rattle.walks.specs.Assigned.{assigned}
use Rattle.evaluator.proofs.Steps.{taken-hit, taken-miss}
use Rattle.walks.proofs.Assigned.{assigned-set}
use Rattle.conjuncts.specs.Stages.{stage_holds, stages_hold, Planned}
use Rattle.branches.specs.Branches.{runs}
use Rattle.decide.specs.Cursor.{stops, Ready, Prepared}
use Rattle.decide.specs.declared.seeks.Cursor.{Cursor}
use Rattle.decide.proofs.seeks.Places.{passed_over}
use Rattle.aggregates.specs.Taken.{both_hold, both_from, taken_by}

module _ (t q z ws : List ℕ) (vs m : List ℤ) (e : List ℕ) where
  module _ (n : ℕ) where
    pub both-no : (b : Bool) → b ≡ runs t q z ws vs m n (assigned vs e) → not b ≡ true → false ≡ both_from t q z ws vs m n (assigned vs e)
    unfolding both_from
    both-no b eb h = sym (rw (sym eb ∙ not_yes b h))

    pub both_yes : (b r : Bool) (i : ℕ) (e₁ : List ℕ) → b ≡ runs t q z ws vs m n (assigned vs e) → not b ≡ false → e₁ ≡ e → i ≡ get_or t 1 0 → r ≡ runs t q z ws vs m i (assigned vs e₁) → r ≡ both_from t q z ws vs m n (assigned vs e)
    unfolding both_from stage_holds
    both_yes b r i e₁ eb h ee ei er = er ∙ ap₂ (λ (k : ℕ) (d : List ℕ). runs t q z ws vs m k (assigned vs d)) ei ee ∙ sym (rw (sym eb ∙ not-no b h))

    -- one row
    module _ (b : Bool) (c : Accumulator) (eb : b ≡ both_from t q z ws vs m n (assigned vs e)) where
      pub row-no : not b ≡ true → (x : ℤ) → c ≡ cond (both_from t q z ws vs m n (assigned vs e)) (added c x) c
      row-no h x = sym (rw (sym eb ∙ not_yes b h))

      pub row-yes : (r : Accumulator) (x y : ℤ) → not b ≡ false → x ≡ y → r ≡ added c x → r ≡ cond (both_from t q z ws vs m n (assigned vs e)) (added c y) c
      row-yes r x y h ex er = er ∙ ap (added c) ex ∙ sym (rw (sym eb ∙ not-no b h))

  -- the conjuncts with variable v on a row
  abbrev pub meets : ℕ → Tuple → Bool
  meets v x = both_hold t q z ws vs m (update (assigned vs e) v x)

-- what the first stage says, by the branch that it starts with
both_is : (t q z ws : List ℕ) (vs m : List ℤ) (i : ℕ) (u : Assignment) → i ≡ get_or t 0 0 → both_hold t q z ws vs m u ≡ both_from t q z ws vs m i u
unfolding both_hold both_from stage_holds
both_is t q z ws vs m i u e = rw e

both-stages : (t q z ws : List ℕ) (vs m : List ℤ) (u : Assignment) → both_hold t q z ws vs m u ≡ stages_hold t q z ws vs m 0 u
unfolding both_hold stages_hold all below
both-stages t q z ws vs m u = ap (λ (b : Bool). stage_holds t q z ws vs m 0 u && b) (sym (and-true (stage_holds t q z ws vs m 1 u)))

-- the rows of a variable at the places P 0, P 1 and so on, by a cursor
module _ (t q z ws : List ℕ) (vs m : List ℤ) (e : List ℕ) (v a : ℕ) (P : ℕ → ℕ) (k : Cursor) (start : ℕ) (chains : List ℕ) (es : start ≡ get_or t 0 0) (made : Prepared k t start v ws vs m e chains) where
  abbrev kept_to : ℕ → List ℤ
  kept_to i = kept vs (meets t q z ws vs m e v) a P i

  both_at : (i : ℕ) (row : Tuple) → runs t q z ws vs m start (update (assigned vs e) v row) ≡ runs t q z ws vs m i (update (assigned vs e) v row) → meets t q z ws vs m e v row ≡ both_from t q z ws vs m i (update (assigned vs e) v row)
  unfolding both_from
  both_at i row h = both_is t q z ws vs m start _ es ∙ rw h

  both_false : (row : Tuple) → runs t q z ws vs m start (update (assigned vs e) v row) ≡ false → meets t q z ws vs m e v row ≡ false
  unfolding both_from
  both_false row h = both_is t q z ws vs m start _ es ∙ rw h

  -- rows that it passes over add nothing
  pub taken-over : (i s : ℕ) (c : Accumulator) → i ≤ s → ((j : ℕ) → i ≤ j → j < s → stops k (tuple_at vs (P j)) ≡ false) → Accumulates c (kept_to i) → Accumulates c (kept_to s)
  taken-over i s c hs h = subst (Accumulates c) (sym (passed_over kept_to i s hs λ j g l. kept-miss P vs (meets t q z ws vs m e v) a j (both_false _ (made.fails q z ws _ (h j g l)))))

  -- row i, at which it stops
  pub take_next : (y : List ℕ) (i row : ℕ) (c r : Accumulator) → stops k (tuple_at vs (P i)) ≡ true → row ≡ P i → y ≡ set e v row → v < length e
      → Accumulates c (kept_to i) → r ≡ cond (both_from t q z ws vs m k.next (assigned vs y)) (added c (get_or vs (row + a) (pos 0))) c → Bounded r → Accumulates r (kept_to (i + 1))
  take_next y i row c r hit hr ey hv inv er hb =
      go (meets t q z ws vs m e v (tuple_at vs (P i))) refl (er ∙ ap₂ (λ (x : Bool) (p : ℕ). cond x (added c (get_or vs (p + a) (pos 0))) c) here hr)
    where
      here : both_from t q z ws vs m k.next (assigned vs y) ≡ meets t q z ws vs m e v (tuple_at vs (P i))
      here =
          ap (both_from t q z ws vs m k.next) (ap (assigned vs) ey ∙ assigned-set vs e v row hv ∙ ap (λ (p : ℕ). update (assigned vs e) v (tuple_at vs p)) hr)
          ∙ sym (both_at k.next (tuple_at vs (P i)) (made.found q z ws (tuple_at vs (P i)) hit))

      go : (x : Bool) → meets t q z ws vs m e v (tuple_at vs (P i)) ≡ x → r ≡ cond x (added c (get_or vs (P i + a) (pos 0))) c → Accumulates r (kept_to (i + 1))
      go true g f = taken-hit P vs (meets t q z ws vs m e v) a i c inv r (get_or vs (P i + a) (pos 0)) g refl f hb
      go false g f = taken-miss P vs (meets t q z ws vs m e v) a i c inv r g f

  pub ready_for : (w : Walk) → w ≡ walk_of ws v → Ready k vs ws w chains
  ready_for w ew = subst (λ (x : Walk). Ready k vs ws x chains) (sym ew) made.ready

pub take_all : (t q z ws : List ℕ) (vs m : List ℤ) (e : List ℕ) (v a i : ℕ) (x : Walk) (c : Accumulator) → x ≡ walk_of ws v → i ≡ x.count → Accumulates c (kept vs (meets t q z ws vs m e v) a (place_at ws x) i) → Accumulates c (taken_by t q z ws vs m e v a)
unfolding kept taken_by walked
take_all t q z ws vs m e v a i x c ex ei h = subst (Accumulates c) (rw ei (rw ex)) h

-- a table planned with no ranges takes the rows that meet the condition
pub taken-planned : (t q z ws : List ℕ) (vs m : List ℤ) (l : ℕ) (e : List ℕ) (v a : ℕ) (c : Accumulator) → Planned t q z ws vs m (decode l (drop 0 q) (drop 0 z)) (ranges_at 0 q) → Accumulates c (taken_by t q z ws vs m e v a) → Accumulates c (values_on l q z ws vs m e v a)
unfolding taken_by values_on holds_on ranges_at
taken-planned t q z ws vs m l e v a c p = subst (Accumulates c) (ap (λ (f : Tuple → Bool). map (λ (x : Tuple). x a) (filter f (walked ws vs v))) (fun_ext λ x. both-stages t q z ws vs m (update (assigned vs e) v x) ∙ p.whole (update (assigned vs e) v x)))

pub nonzero : (l : ℕ) → 1 ≤ l → l ≡ 0 → ⊥
nonzero l h e = omega arith
