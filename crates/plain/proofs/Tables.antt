-- The lent table: branches, then chains before place f, then the list of targets and the answer's rows.
use mathlib.Core.Path.{◌≡◌, refl, sym, ap, ◌∙◌, subst}
use mathlib.Core.Bool.{Bool, true, false}
use mathlib.Core.List.{List, ◌++◌}
use Prim.Native.Nat.{ℕ, ◌+◌, ◌-◌}
use native.Mathlib.Omega.{arith}
use lib.Dec.{ltb}
use lib.IntN.{ℤ}
use lib.ListN.{length, get_or, take, drop, length-take, length-drop, get_or-eq_default}
use lib.Seq.{get_or-take, get_or-drop, take_at, drop_at, drop-drop}
use borrow.Author.Tests.{ltb-true, ltb-false}
use Rattle.grammar.specs.declared.Layout.{Layout}
use Rattle.sizes.specs.Decode.{decode}
use Rattle.sizes.specs.Parts.{ranges_at}
use Rattle.conjuncts.specs.Stages.{Planned}
use Rattle.decide.specs.Keys.{Faithful}
use Rattle.decide.proofs.seeks.Filling.{nothing}
use Rattle.rows.specs.Chains.{Linked}
use Rattle.rows.proofs.Links.{linked-none}
use Rattle.odometer.specs.declared.Plan.{Plan}
use Rattle.odometer.specs.Plan.{table_in}
use Rattle.plain.specs.Reply.{plan_of, Cleared, Furnished}

-- a part of it is cleared too
pub part-clear : (a k : ℕ) (w : List ℕ) → ((i : ℕ) → get_or w i 0 ≡ 0) → (i : ℕ) → get_or (take k (drop a w)) i 0 ≡ 0
part-clear a k w z i = go (ltb i k) refl
  where
    go : (b : Bool) → ltb i k ≡ b → get_or (take k (drop a w)) i 0 ≡ 0
    go true e = get_or-take k (drop a w) i 0 (ltb-true i k e) ∙ get_or-drop a w i 0 ∙ z (a + i)
    go false e = get_or-eq_default (take k (drop a w)) 0 (omega (arith, length-take k (drop a w), ltb-false i k e))

module _ (y : Layout) (l f : ℕ) (q z ws : List ℕ) (vs m : List ℤ) (w : List ℕ) (clear : Cleared f w) where
  -- branches at its start, and behind them chains that serve them
  module _ (code behind : List ℕ) (n : length code ≡ 768) (p : Planned code q z ws vs m (decode l (drop y.condition q) (drop y.condition z)) (ranges_at y.ranges q)) where
    furnished : Faithful code ws vs (take (f - 768) behind) → drop (f - 768) behind ≡ drop (f - 768) (drop 768 w) → Furnished y l f q z ws vs m w (code ++ behind)
    furnished s e =
        let here : take 768 (code ++ behind) ≡ code = take_at code behind 768 n in
        let there : drop 768 (code ++ behind) ≡ behind = drop_at code behind 768 n in
        let low = clear.branches in
        let whole : 768 + (f - 768) ≡ f = omega arith in
        let joined : (t : List ℕ) → drop (f - 768) (drop 768 t) ≡ drop f t = λ t. drop-drop (f - 768) 768 t ∙ ap (λ (k : ℕ). drop k t) whole in
        record {
          planned = subst (λ (t : List ℕ). Planned t q z ws vs m (decode l (drop y.condition q) (drop y.condition z)) (ranges_at y.ranges q)) (sym here) p;
          faithful = subst (λ (t : List ℕ). Faithful t ws vs (take (f - 768) (drop 768 (code ++ behind)))) (sym here) (subst (λ (t : List ℕ). Faithful code ws vs (take (f - 768) t)) (sym there) s);
          rest = sym (joined (code ++ behind)) ∙ ap (drop (f - 768)) there ∙ e ∙ joined w;
        }

    pub furnished-alone : behind ≡ drop 768 w → Furnished y l f q z ws vs m w (code ++ behind)
    furnished-alone e =
        furnished (subst (λ (t : List ℕ). Faithful code ws vs (take (f - 768) t)) (sym e) (nothing code ws vs _ (part-clear 768 (f - 768) w clear.clear)).faithful) (ap (drop (f - 768)) e)

  pub furnished-linked : (code back chains : List ℕ) → length code ≡ 768 → Planned code q z ws vs m (decode l (drop y.condition q) (drop y.condition z)) (ranges_at y.ranges q)
      → back ≡ drop 768 w → length chains ≡ f - 768 → Faithful code ws vs chains → Furnished y l f q z ws vs m w (code ++ (chains ++ drop (f - 768) back))
  furnished-linked code back chains n p e k s =
      let r : List ℕ = drop (f - 768) back in
      furnished code (chains ++ r) n p (subst (Faithful code ws vs) (sym (take_at chains r (f - 768) k)) s) (drop_at chains r (f - 768) k ∙ ap (drop (f - 768)) e)

  -- the answer's rows have room, and none is there
  pub no_rows : (p : Plan) (columns : ℕ) (cells : List ℤ) (after : List ℕ) → p ≡ plan_of y l f → Furnished y l f q z ws vs m w after → Linked columns 0 cells (table_in p after)
  no_rows p columns cells after ep h =
      let same : drop (f + 16) after ≡ drop (f + 16) w = sym (drop-drop 16 f after) ∙ ap (drop 16) h.rest ∙ drop-drop 16 f w in
      subst (λ (k : Plan). Linked columns 0 cells (table_in k after)) (sym ep)
      (subst (Linked columns 0 cells) (sym same) (linked-none columns cells (drop (f + 16) w) (omega (arith, length-drop (f + 16) w, clear.rows)) (λ i. get_or-drop (f + 16) w i 0 ∙ clear.clear (f + 16 + i))))
