-- The equality that a chain serves: found on the way, and tried by the chain.
use mathlib.Core.Path.{◌≡◌, refl, sym, ap, ap₂, ◌∙◌, subst}
use mathlib.Core.Bool.{Bool, true, false, cond, ◌&&◌}
use lib.Dec.{ltb}
use mathlib.Core.List.{List}
use mathlib.Core.Option.{none, some}
use Prim.Native.Nat.{ℕ, ◌+◌, ◌*◌, ◌/◌, ◌%◌, ◌≤◌, ◌<◌}
use native.Mathlib.Omega.{arith}
use lib.IntN.{ℤ, pos, ◌*ℤ◌, nat_abs, one, *ℤ-one}
use lib.Signed.{le_z}
use lib.ListN.{get_or}
use Rattle.model.specs.Meaning as M
use Rattle.model.specs.Meaning.{Assignment, Tuple, whole, compare}
use Rattle.numbers.specs.Numbers.{fraction, value_of}
use Rattle.numbers.specs.declared.Ratio.{Ratio}
use Rattle.branches.specs.Branches.{number, field, operand, branch_holds, next, runs}
use Rattle.branches.proofs.Running.{runs-step}
use Rattle.model.specs.Lists.{update}
use Rattle.walks.specs.Assigned.{assigned}
use Rattle.decide.specs.Chains.{same}
use Rattle.decide.specs.declared.chains.Entry.{Entry}
use Rattle.decide.specs.Keys.{Tells, Follows, Decides, onward, Chain, Enters, Faithful, Stands, Entering}
use Rattle.decide.proofs.probes.Tests.{and-turn}
use Rattle.decide.proofs.seeks.Steps.{left_is, right_is, branch-fails, start-fails, onward-met}

equal-turn : (x y : M.Value) → compare 1 x y ≡ compare 1 y x
unfolding M.ordered
equal-turn none none = refl
equal-turn none (some y) = refl
equal-turn (some x) none = refl
equal-turn (some x) (some y) = and-turn (le_z (x.numerator *ℤ pos y.denominator) (y.numerator *ℤ pos x.denominator)) (le_z (y.numerator *ℤ pos x.denominator) (x.numerator *ℤ pos y.denominator))

-- an equality with the variable on its left, and on its right
module _ (t : List ℕ) (i v o a b c : ℕ) (eo : o ≡ get_or t (8 * i) 0) (e1 : o ≡ 1) (ea : a ≡ field t i 1) (eb : b ≡ field t i 3) (l : v < 256) where
  some-operator : o ≡ 0 → ⊥
  some-operator h = omega arith

  no-search : o ≡ 256 → ⊥
  no-search h = omega arith

  pub tells-left : a ≡ v → (b ≡ v → ⊥) → c ≡ field t i 2 → Tells t i v (8 * i + 3) (2 * i + 1) c
  tells-left ha hb hc q z ws vs m e row =
      let y = operand m (get_or t (8 * i + 3) 0) (get_or t (8 * i + 3 + 1) 0) (number t (2 * i + 1)) e in
      left_is t q z ws vs m i v e row o a b y eo some-operator no-search ea eb l (8 * i + 3) c ha hb refl hc refl ∙ ap (λ (k : ℕ). compare k (some (whole (row c))) y) e1

  pub tells-right : (a ≡ v → ⊥) → b ≡ v → c ≡ field t i 4 → Tells t i v (8 * i + 1) (2 * i) c
  tells-right ha hb hc q z ws vs m e row =
      let y = operand m (get_or t (8 * i + 1) 0) (get_or t (8 * i + 1 + 1) 0) (number t (2 * i)) e in
      right_is t q z ws vs m i v e row o a b y eo some-operator no-search ea eb l (8 * i + 1) c ha hb refl hc refl ∙ ap (λ (k : ℕ). compare k y (some (whole (row c)))) e1 ∙ equal-turn y (some (whole (row c)))

-- what starts with branch s fails where it fails from branch i on
abbrev pub Along : List ℕ → ℕ → ℕ → Type 0
Along t s i = (q z ws : List ℕ) (vs m : List ℤ) (e : Assignment) → runs t q z ws vs m i e ≡ false → runs t q z ws vs m s e ≡ false

module _ (t : List ℕ) (s i f : ℕ) (l : 2 ≤ i) (ef : f ≡ field t i 6) (along : Along t s i) where
  pub along-found : (v p n a : ℕ) → Tells t i v p n a → Decides t s f v p n a
  along-found v p n a tells q z ws vs m e row h k = along q z ws vs m _ (branch-fails t q z ws vs m i f _ l ef (tells q z ws vs m e row ∙ h) k)

  pub along-here : (v p n a : ℕ) → Tells t i v p n a → p / 8 ≡ i → p / 8 ≡ s → Tells t s v p n a
  along-here v p n a tells e h = subst (λ (k : ℕ). Tells t k v p n a) (sym e ∙ h) tells

  pub along-next : f ≡ 1 → (to : ℕ) → to ≡ field t i 5 → to < i → Along t s to
  along-next e1 to et g q z ws vs m e h = along q z ws vs m e (go (branch_holds t q z ws vs m i e) refl)
    where
      go : (b : Bool) → branch_holds t q z ws vs m i e ≡ b → runs t q z ws vs m i e ≡ false
      go true p =
          let n : next t q z ws vs m i e ≡ to = rw p (sym et) in
          runs-step t q z ws vs m i e l (subst (λ (k : ℕ). k < i) (sym n) g) ∙ ap (λ (k : ℕ). runs t q z ws vs m k e) n ∙ h
      go false p = start-fails t q z ws vs m i f e l ef e1 p

-- a row that has the equality of a branch goes on from where that leads
pub along-met : (t : List ℕ) (s r v p n a : ℕ) → 2 ≤ s → r ≡ cond (ltb (field t s 5) s) (field t s 5) 1 → Tells t s v p n a → Follows t s r v p n a
along-met t s r v p n a l er tells q z ws vs m e row h = onward-met t q z ws vs m s r _ l er (tells q z ws vs m e row ∙ h)

-- a value compared with a whole number
pub agrees : (u : ℤ) (x : Ratio) (y : M.Value) → value_of x ≡ y → x.denominator ≡ pos 1 → compare 1 (some (whole u)) y ≡ same u x.numerator
unfolding M.ordered one
agrees u x y ex e1 =
    let n : y ≡ some (whole x.numerator) = sym ex ∙ ap (λ (d : ℤ). fraction x.numerator (nat_abs d)) e1 in
    ap (compare 1 (some (whole u))) n ∙ ap₂ (λ (a b : ℤ). le_z a b && le_z b a) (*ℤ-one u) (*ℤ-one x.numerator)

-- what is not true
nothing_stops : (b : Bool) → (b ≡ true → ⊥) → b ≡ false
nothing_stops true h = absurd (h refl)
nothing_stops false h = refl

-- the chain of a table for variable v
module _ (t ws : List ℕ) (vs : List ℤ) (chains : List ℕ) (f : Faithful t ws vs chains) (s v at : ℕ) (h : Stands chains s v at) where
  chain : Chain t ws vs chains s at
  chain = subst (Chain t ws vs chains s) (sym h.place) (f s h.low (λ z. h.some (h.place ∙ z)))

  -- entered with a whole value
  module _ (x : Entry) (m : List ℤ) (env : List ℕ) (e : Entering x at t vs m env chains) where
    fails : (q z us : List ℕ) (row : Tuple) → (same (row x.attribute) x.value ≡ true → ⊥) → runs t q z us vs m (onward (get_or chains (at + 2) 0)) (update (assigned vs env) v row) ≡ false
        → runs t q z us vs m s (update (assigned vs env) v row) ≡ false
    fails q z us row never k =
        let d : Decides t s (onward (get_or chains (at + 2) 0)) v (get_or chains (at + 1) 0) (get_or chains (at + 2) 0 % 256) x.attribute = rw (e.attribute, sym h.variable) chain.decides in
        d q z us vs m (assigned vs env) row (e.equals row ∙ nothing_stops _ never) k

    pub enters : at ≤ 65535 → Enters x t s (onward (get_or chains (at + 2) 0)) v ws vs m env chains
    enters l = record { entered = record { place = omega (arith, e.at); small = e.small; built = rw (e.at, e.attribute, sym h.variable) chain.built }; fails = fails }

    pub tells : get_or chains (at + 1) 0 / 8 ≡ s → Tells t s v (get_or chains (at + 1) 0) (get_or chains (at + 2) 0 % 256) x.attribute
    tells k = rw (e.attribute, sym h.variable) (chain.met k)
