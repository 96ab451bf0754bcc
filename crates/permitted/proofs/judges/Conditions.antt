-- Marks by NOT, AND and OR, and by the rows one after the other.
use Prim.Native.Nat.{ℕ, ◌+◌, ◌-◌, ◌<◌}
use mathlib.Core.Bool.{Bool, true, false, not, cond, ◌&&◌, ◌||◌}
use mathlib.Core.List.{List}
use mathlib.Core.Path.{◌≡◌, refl, sym, ap, ap₂, ◌∙◌, subst}
use native.Mathlib.Omega.{arith}
use lib.Dec.{eqb}
use lib.IntN.{ℤ}
use lib.ListN.{get_or, drop, replicate}
use Rattle.model.specs.Lists.{update}
use Rattle.model.specs.Syntax.{Condition}
use Rattle.model.specs.Meaning.{Assignment, holds_with}
use Rattle.kinds.specs.Tables.{record_length}
use Rattle.kinds.specs.Places.{condition_at}
use Rattle.kinds.specs.declared.ConditionRecord.{ConditionRecord}
use Rattle.kinds.specs.declared.ConditionRecord.TheVariants as C
use Rattle.sizes.specs.Decode.{first, second, condition_by, decode, decode_t}
use Rattle.sizes.proofs.Decoding.{decode-step}
use Rattle.walks.specs.declared.Walk.{Walk}
use Rattle.walks.specs.Walks.{rows_by}
use Rattle.numbers.specs.Recalled.{holds_by}
use Rattle.walks.specs.Assigned.{assigned}
use Rattle.branches.specs.Branches.{leads, runs}
use Rattle.branches.specs.Compiled.{Compiled}
use Rattle.model.proofs.Lists.{get_or-same}
use Rattle.permitted.specs.Marked.{Marked, turned, tuple_of, judged_on, ran_on}
use Rattle.permitted.specs.Meets.{no_places}
use Rattle.permitted.proofs.judges.Steps.{marked-same, marked-then}

turned-yes : (w : Bool) → w ≡ turned w true
turned-yes true = refl
turned-yes false = refl

turned-turned : (w b : Bool) → turned (not w) b ≡ turned w (not b)
turned-turned true b = refl
turned-turned false true = refl
turned-turned false false = refl

turned-away : (w b : Bool) → turned (not w) b ≡ not (turned w b)
turned-away true b = refl
turned-away false true = refl
turned-away false false = refl

neither : (a b : Bool) → not (a && b) ≡ not a || not b
neither true b = refl
neither false b = refl

neither-or : (a b : Bool) → not (a || b) ≡ not a && not b
neither-or true b = refl
neither-or false b = refl

or_swap : (a b : Bool) → a || b ≡ b || a
or_swap true true = refl
or_swap true false = refl
or_swap false true = refl
or_swap false false = refl

left_out : (a b : Bool) (m : ℕ) → m ≡ cond (not a || not b) 1 0 → eqb m 0 ≡ a && b
left_out true true m e = ap (λ n. eqb n 0) e
left_out true false m e = ap (λ n. eqb n 0) e
left_out false b m e = ap (λ n. eqb n 0) e

-- the two ends
pub end_low : (w : Bool) (k : ℕ) → k ≡ cond w 0 1 → k < 2
end_low true k e = omega (arith, e)
end_low false k e = omega (arith, e)

ends : (t q z ws : List ℕ) (vs m : List ℤ) (w : Bool) (k : ℕ) (u : Assignment) → k ≡ cond w 0 1 → runs t q z ws vs m k u ≡ w
unfolding runs leads
ends t q z ws vs m w k u e = ap (λ n. runs t q z ws vs m n u) e ∙ go w
  where
    go : (w : Bool) → runs t q z ws vs m (cond w 0 1) u ≡ w
    go true = refl
    go false = refl

-- a table marks as the condition does that it was compiled from
pub compiled-marks : (r a b : ℕ) (t t' q z ws : List ℕ) (vs m : List ℤ) (l : ℕ) (x : Walk) (w : Bool) (n : ℕ) (ms y : List ℕ) → Compiled 2 r a b t t' q z m (decode l (drop 0 q) (drop 0 z)) → a ≡ cond w 0 1 → b ≡ cond (not w) 0 1
    → Marked (ran_on t' r q z ws vs m x) n ms y → Marked (judged_on l q z ws vs m x w) n ms y
unfolding judged_on
compiled-marks r a b t t' q z ws vs m l x w n ms y c ea eb h =
    marked-same h refl (λ i k. let u = update (assigned vs (no_places vs)) 0 (tuple_of vs x i) in
    c.means ws vs u ∙ ap₂ (λ (f g : Bool). cond (holds_by m (decode l q z) (rows_by ws vs) u) f g) (ends t q z ws vs m w a u ea) (ends t q z ws vs m (not w) b u eb) ∙ either w (holds_by m (decode l q z) (rows_by ws vs) u))
  where
    either : (w h : Bool) → cond h w (not w) ≡ turned w h
    either true true = refl
    either true false = refl
    either false true = refl
    either false false = refl

module _ (q z ws : List ℕ) (vs m : List ℤ) (x : Walk) where
  -- the two conditions under AND or OR
  abbrev pub one : ℕ → Bool → ℕ → Bool
  one l w i = judged_on l (drop (first q) q) (drop (first q) z) ws vs m x w i

  abbrev pub two : ℕ → Bool → ℕ → Bool
  two l w i = judged_on l (drop (second q z) q) (drop (second q z) z) ws vs m x w i

  module _ (l : ℕ) (r : ConditionRecord) (nz : l ≡ 0 → ⊥) (er : r ≡ condition_at q) where
    opened : (w : Bool) (i : ℕ) (k : ConditionRecord) → r ≡ k → judged_on l q z ws vs m x w i ≡ turned w (holds_by m (condition_by k (λ x y. decode (l - 1) x y) (λ x y. decode_t (l - 1) x y) q z) (rows_by ws vs) (update (assigned vs (no_places vs)) 0 (tuple_of vs x i)))
    unfolding judged_on
    opened w i k h = ap (λ (c : Condition). turned w (holds_by m c (rows_by ws vs) (update (assigned vs (no_places vs)) 0 (tuple_of vs x i)))) (decode-step l q z k nz (sym er ∙ h))

    -- whether the first, and the second, holds with row i
    abbrev fst : ℕ → Bool
    fst i = holds_by m (decode (l - 1) (drop (first q) q) (drop (first q) z)) (rows_by ws vs) (update (assigned vs (no_places vs)) 0 (tuple_of vs x i))

    abbrev snd : ℕ → Bool
    snd i = holds_by m (decode (l - 1) (drop (second q z) q) (drop (second q z) z)) (rows_by ws vs) (update (assigned vs (no_places vs)) 0 (tuple_of vs x i))

    pub true-is : r ≡ C.True → (w : Bool) (i : ℕ) → w ≡ judged_on l q z ws vs m x w i
    unfolding holds_with
    true-is h w i = turned-yes w ∙ sym (opened w i C.True h)

    pub not_is : r ≡ C.Not → (w : Bool) (i : ℕ) → one (l - 1) (not w) i ≡ judged_on l q z ws vs m x w i
    unfolding holds_with judged_on
    not_is h w i = turned-turned w _ ∙ sym (opened w i C.Not h)

    pub and_is : r ≡ C.And → (w : Bool) → w ≡ true → (i : ℕ) → one (l - 1) w i && two (l - 1) w i ≡ judged_on l q z ws vs m x w i
    unfolding holds_with judged_on
    and_is h w ew i = subst (λ b. one (l - 1) b i && two (l - 1) b i ≡ judged_on l q z ws vs m x b i) (sym ew) (sym (opened true i C.And h))

    pub and-not : r ≡ C.And → (w : Bool) → w ≡ false → (i : ℕ) → one (l - 1) w i || two (l - 1) w i ≡ judged_on l q z ws vs m x w i
    unfolding holds_with judged_on
    and-not h w ew i = subst (λ b. one (l - 1) b i || two (l - 1) b i ≡ judged_on l q z ws vs m x b i) (sym ew) (sym (opened false i C.And h ∙ neither (fst i) (snd i)))

    pub or_is : r ≡ C.Or → (w : Bool) → w ≡ true → (i : ℕ) → one (l - 1) w i || two (l - 1) w i ≡ judged_on l q z ws vs m x w i
    unfolding holds_with judged_on
    or_is h w ew i = subst (λ b. one (l - 1) b i || two (l - 1) b i ≡ judged_on l q z ws vs m x b i) (sym ew) (sym (opened true i C.Or h))

    pub or-not : r ≡ C.Or → (w : Bool) → w ≡ false → (i : ℕ) → one (l - 1) w i && two (l - 1) w i ≡ judged_on l q z ws vs m x w i
    unfolding holds_with judged_on
    or-not h w ew i = subst (λ b. one (l - 1) b i && two (l - 1) b i ≡ judged_on l q z ws vs m x b i) (sym ew) (sym (opened false i C.Or h ∙ neither-or (fst i) (snd i)))

  pub under_first : (l : ℕ) (u w : Bool) (i k a : ℕ) (x₁ y₁ : List ℕ) → u ≡ w → k ≡ get_or q 0 0 → a ≡ record_length k → x₁ ≡ drop a q → y₁ ≡ drop a z → judged_on l x₁ y₁ ws vs m x u i ≡ one l w i
  under_first l u w i k a x₁ y₁ eu ek ea e₁ e₂ = let f = ea ∙ ap record_length ek in ap (λ b. judged_on l x₁ y₁ ws vs m x b i) eu ∙ ap₂ (λ (u v : List ℕ). judged_on l u v ws vs m x w i) (e₁ ∙ ap (λ n. drop n q) f) (e₂ ∙ ap (λ n. drop n z) f)

  -- what two calls mark, in either order
  module _ (l : ℕ) (w : Bool) (n k a s : ℕ) (x₁ y₁ x₂ y₂ : List ℕ) (ek : k ≡ get_or q 0 0) (ea : a ≡ record_length k) (es : s ≡ get_or z a 0) (e₁ : x₁ ≡ drop a q) (e₂ : y₁ ≡ drop a z) (e₃ : x₂ ≡ drop (a + s) q) (e₄ : y₂ ≡ drop (a + s) z) where
    at_first : a ≡ first q
    at_first = ea ∙ ap record_length ek

    at_second : a + s ≡ second q z
    at_second = ap (λ n. a + n) es ∙ ap (λ n. n + get_or z n 0) at_first

    is_one : (i : ℕ) → judged_on l x₁ y₁ ws vs m x w i ≡ one l w i
    is_one i = ap₂ (λ (u v : List ℕ). judged_on l u v ws vs m x w i) (e₁ ∙ ap (λ n. drop n q) at_first) (e₂ ∙ ap (λ n. drop n z) at_first)

    is-two : (i : ℕ) → judged_on l x₂ y₂ ws vs m x w i ≡ two l w i
    is-two i = ap₂ (λ (u v : List ℕ). judged_on l u v ws vs m x w i) (e₃ ∙ ap (λ n. drop n q) at_second) (e₄ ∙ ap (λ n. drop n z) at_second)

    pub in_order : (ms y t : List ℕ) → Marked (judged_on l x₁ y₁ ws vs m x w) n ms y → Marked (judged_on l x₂ y₂ ws vs m x w) n y t → Marked (λ i. one l w i || two l w i) n ms t
    in_order ms y t h k = marked-same (marked-then h k) refl (λ i g. ap₂ ◌||◌ (is_one i) (is-two i))

    pub swapped : (ms y t : List ℕ) → Marked (judged_on l x₂ y₂ ws vs m x w) n ms y → Marked (judged_on l x₁ y₁ ws vs m x w) n y t → Marked (λ i. one l w i || two l w i) n ms t
    swapped ms y t h k = marked-same (marked-then h k) refl (λ i g. ap₂ ◌||◌ (is-two i) (is_one i) ∙ or_swap (two l w i) (one l w i))

  -- what neither leaves out
  pub both-marked : (l : ℕ) (u w : Bool) (n k : ℕ) (others ms y : List ℕ) → u ≡ not w → Marked (λ i. one l u i || two l u i) n (replicate k 0) others → Marked (λ i. eqb (get_or others i 0) 0) n ms y → Marked (λ i. one l w i && two l w i) n ms y
  unfolding judged_on
  both-marked l u w n k others ms y eu g₀ g =
      let h = subst (λ b. Marked (λ i. one l b i || two l b i) n (replicate k 0) others) eu g₀ in
      marked-same g refl (λ i j. left_out (one l w i) (two l w i) (get_or others i 0)
      (h.row i j ∙ ap₂ (λ (b : Bool) (o : ℕ). cond b 1 o) (ap₂ ◌||◌ (turned-away w _) (turned-away w _)) (get_or-same {A = ℕ} k 0 i)))
