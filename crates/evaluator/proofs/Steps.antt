-- One level of the evaluation as an equation, and what a loop over rows keeps.
use mathlib.Core.Path.{◌≡◌, refl, sym, ap, ap₂, ◌∙◌, subst, subst₂}
use mathlib.Core.Bool.{Bool, true, false, not}
use mathlib.Core.List.{List, [], ◌∷◌, ◌++◌, map}
use mathlib.Core.Option.{some}
use Prim.Native.Nat.{ℕ, zero, suc, ◌+◌, ◌-◌, ◌≤◌, ◌<◌}
use native.Mathlib.Omega.{arith}
use native.Mathlib.Numerals.{sub-one}
use lib.IntN.{ℤ, pos}
use lib.ListN.{length, get_or, set, drop, length-set}
use lib.Seq.{set-set, set-get_or}
use Rattle.model.specs.Lists.{update, filter, any}
use Rattle.model.specs.Search.{Search, search}
use Rattle.model.proofs.Search.{search-found}
use Rattle.model.proofs.Tests.{not_yes, not-no}
use Rattle.model.specs.Meaning.{Tuple, Value, whole, signed, compare, aggregate, holds_with}
use Rattle.kinds.specs.Tables.{record_length}
use Rattle.kinds.specs.Places.{condition_at, term_at}
use Rattle.kinds.specs.declared.ConditionRecord.{ConditionRecord}
use Rattle.kinds.specs.declared.ConditionRecord.TheVariants as C
use Rattle.kinds.specs.declared.TermRecord.{TermRecord}
use Rattle.kinds.specs.declared.TermRecord.TheVariants as T
use Rattle.numbers.specs.declared.Accumulator.{Accumulator}
use Rattle.numbers.specs.Numbers.{Bounded, accumulator_of, added, Accumulates}
use Rattle.numbers.proofs.Laws.{starts, continues, counts}
use Rattle.catalogue.specs.Layout.{tuple_at}
use Rattle.walks.specs.declared.Walk.{Walk}
use Rattle.walks.specs.Walks.{walk_of, place_at, walked, rows_by, kept}
use Rattle.walks.proofs.Assigned.{get_or-inside, assigned-set}
use Rattle.walks.proofs.Loops.{kept-start, kept-hit, kept-miss, kept-length}
use Rattle.sizes.specs.Decode.{first, second, condition_by, term_by, decode, decode_t}
use Rattle.numbers.specs.Memo.{knows, recalled}
use Rattle.numbers.specs.Recalled.{holds_by, value_by}
use Rattle.evaluator.specs.Evaluation.{holds_at, value_at, holds_on, values_on}
use Rattle.walks.specs.Assigned.{assigned}

module _ (ws : List ℕ) (vs m : List ℤ) (e q z : List ℕ) where
  pub holds-zero : (l : ℕ) → l ≡ 0 → false ≡ holds_at l q z ws vs m e
  unfolding holds_at decode holds_with
  holds-zero l h = rw h

  pub value-zero : (l : ℕ) → l ≡ 0 → some (whole (pos 0)) ≡ value_at l q z ws vs m e
  unfolding value_at decode holds_with signed
  value-zero l h = rw h

  -- by the record that q starts with
  holds-is : (l : ℕ) (r : ConditionRecord) → (l ≡ 0 → ⊥) → r ≡ condition_at q
      → holds_by m (condition_by r (λ x y. decode (l - 1) x y) (λ x y. decode_t (l - 1) x y) q z) (rows_by ws vs) (assigned vs e) ≡ holds_at l q z ws vs m e
  unfolding holds_at decode
  holds-is zero r h k = absurd (h refl)
  holds-is (suc l) r h k = rw (sub-one, k)

  value-is : (l : ℕ) (r : TermRecord) → (l ≡ 0 → ⊥) → r ≡ term_at q
      → value_by m (term_by r (λ x y. decode (l - 1) x y) q z) (rows_by ws vs) (assigned vs e) ≡ value_at l q z ws vs m e
  unfolding value_at decode
  value-is zero r h k = absurd (h refl)
  value-is (suc l) r h k = rw (sub-one, k)

  -- the parts that the code hands on
  module _ (l k a : ℕ) (r : ConditionRecord) (nz : l ≡ 0 → ⊥) (ek : k ≡ get_or q 0 0) (ea : a ≡ record_length k) (er : r ≡ condition_at q) where
    at_first : a ≡ first q
    at_first = ea ∙ ap record_length ek

    pub true-is : r ≡ C.True → true ≡ holds_at l q z ws vs m e
    unfolding holds_with
    true-is h = holds-is l C.True nz (sym h ∙ er)

    pub false-is : r ≡ C.False → false ≡ holds_at l q z ws vs m e
    unfolding holds_with
    false-is h = holds-is l C.False nz (sym h ∙ er)

    -- another record is no condition
    pub no-condition : r ≡ C.Other → false ≡ holds_at l q z ws vs m e
    unfolding holds_with
    no-condition h = holds-is l C.Other nz (sym h ∙ er)

    module _ (x y : List ℕ) (ex : x ≡ drop a q) (ey : y ≡ drop a z) where
      child : holds_at (l - 1) x y ws vs m e ≡ holds_by m (decode (l - 1) (drop (first q) q) (drop (first q) z)) (rows_by ws vs) (assigned vs e)
      unfolding holds_at
      child = ap₂ (λ (u w : List ℕ). holds_by m (decode (l - 1) u w) (rows_by ws vs) (assigned vs e)) (ex ∙ ap (λ n. drop n q) at_first) (ey ∙ ap (λ n. drop n z) at_first)

      child_t : value_at (l - 1) x y ws vs m e ≡ value_by m (decode_t (l - 1) (drop (first q) q) (drop (first q) z)) (rows_by ws vs) (assigned vs e)
      unfolding value_at
      child_t = ap₂ (λ (u w : List ℕ). value_by m (decode_t (l - 1) u w) (rows_by ws vs) (assigned vs e)) (ex ∙ ap (λ n. drop n q) at_first) (ey ∙ ap (λ n. drop n z) at_first)

      pub not_is : (b : Bool) → r ≡ C.Not → b ≡ holds_at (l - 1) x y ws vs m e → not b ≡ holds_at l q z ws vs m e
      unfolding holds_with
      not_is b h eb = ap not (eb ∙ child) ∙ holds-is l C.Not nz (sym h ∙ er)

      pub and_no : (b : Bool) → r ≡ C.And → b ≡ holds_at (l - 1) x y ws vs m e → not b ≡ true → false ≡ holds_at l q z ws vs m e
      unfolding holds_with
      and_no b h eb f = let g = sym child ∙ sym eb ∙ not_yes b f in sym (rw g) ∙ holds-is l C.And nz (sym h ∙ er)

      pub or_yes : (b : Bool) → r ≡ C.Or → b ≡ holds_at (l - 1) x y ws vs m e → b ≡ true → true ≡ holds_at l q z ws vs m e
      unfolding holds_with
      or_yes b h eb f = let g = sym child ∙ sym eb ∙ f in sym (rw g) ∙ holds-is l C.Or nz (sym h ∙ er)

      pub some_is : (v r' : ℕ) (b : Bool) (n : ℕ) → r ≡ C.Some v r' → record { found = b; tried = n } ≡ search (holds_on (l - 1) x y ws vs m e v) (walked ws vs v) → b ≡ holds_at l q z ws vs m e
      unfolding holds_with holds_on
      some_is v r' b n h eb =
          ap (λ (s : Search). s.found) eb ∙ search-found (holds_on (l - 1) x y ws vs m e v) (walked ws vs v) ∙ ap₂ (λ (u w : List ℕ). any (λ t. holds_by m (decode (l - 1) u w) (rows_by ws vs) (update (assigned vs e) v t)) (walked ws vs v)) (ex ∙ ap (λ n. drop n q) at_first) (ey ∙ ap (λ n. drop n z) at_first)
          ∙ holds-is l (C.Some v r') nz (sym h ∙ er)

      -- the second child
      module _ (s b : ℕ) (u w : List ℕ) (es : s ≡ get_or z a 0) (eb : b ≡ a + s) (eu : u ≡ drop b q) (ew : w ≡ drop b z) where
        at_second : b ≡ second q z
        at_second = eb ∙ ap (λ n. a + n) es ∙ ap (λ n. n + get_or z n 0) at_first

        next : holds_at (l - 1) u w ws vs m e ≡ holds_by m (decode (l - 1) (drop (second q z) q) (drop (second q z) z)) (rows_by ws vs) (assigned vs e)
        unfolding holds_at
        next = ap₂ (λ (i n : List ℕ). holds_by m (decode (l - 1) i n) (rows_by ws vs) (assigned vs e)) (eu ∙ ap (λ n. drop n q) at_second) (ew ∙ ap (λ n. drop n z) at_second)

        next_t : value_at (l - 1) u w ws vs m e ≡ value_by m (decode_t (l - 1) (drop (second q z) q) (drop (second q z) z)) (rows_by ws vs) (assigned vs e)
        unfolding value_at
        next_t = ap₂ (λ (i n : List ℕ). value_by m (decode_t (l - 1) i n) (rows_by ws vs) (assigned vs e)) (eu ∙ ap (λ n. drop n q) at_second) (ew ∙ ap (λ n. drop n z) at_second)

        pub and_yes : (c d : Bool) (e₁ : List ℕ) → r ≡ C.And → c ≡ holds_at (l - 1) x y ws vs m e → not c ≡ false → e₁ ≡ e → d ≡ holds_at (l - 1) u w ws vs m e₁ → d ≡ holds_at l q z ws vs m e
        unfolding holds_with
        and_yes c d e₁ h ec f ee ed =
            let g = sym child ∙ sym ec ∙ not-no c f in
            ed ∙ ap (holds_at (l - 1) u w ws vs m) ee ∙ next ∙ sym (rw g) ∙ holds-is l C.And nz (sym h ∙ er)

        pub or_no : (c d : Bool) (e₁ : List ℕ) → r ≡ C.Or → c ≡ holds_at (l - 1) x y ws vs m e → c ≡ false → e₁ ≡ e → d ≡ holds_at (l - 1) u w ws vs m e₁ → d ≡ holds_at l q z ws vs m e
        unfolding holds_with
        or_no c d e₁ h ec f ee ed =
            let g = sym child ∙ sym ec ∙ f in
            ed ∙ ap (holds_at (l - 1) u w ws vs m) ee ∙ next ∙ sym (rw g) ∙ holds-is l C.Or nz (sym h ∙ er)

        pub compare-is : (o : ℕ) (c d : Value) (e₁ : List ℕ) (t : Bool) → r ≡ C.Compare o → c ≡ value_at (l - 1) x y ws vs m e → e₁ ≡ e → d ≡ value_at (l - 1) u w ws vs m e₁ → t ≡ compare o c d → t ≡ holds_at l q z ws vs m e
        unfolding holds_with
        compare-is o c d e₁ t h ec ee ed et =
            et ∙ ap₂ (compare o) (ec ∙ child_t) (ed ∙ ap (value_at (l - 1) u w ws vs m) ee ∙ next_t) ∙ holds-is l (C.Compare o) nz (sym h ∙ er)

  -- a term
  module _ (l k a : ℕ) (r : TermRecord) (nz : l ≡ 0 → ⊥) (ek : k ≡ get_or q 0 0) (ea : a ≡ record_length k) (er : r ≡ term_at q) where
    to-first : a ≡ first q
    to-first = ea ∙ ap record_length ek

    -- an aggregate that the memo knows
    pub known_is : (f v r' t : ℕ) (u : Value) (b : Bool) → r ≡ T.Aggregate f v r' t → b ≡ knows m v → b ≡ true → u ≡ recalled m v → u ≡ value_at l q z ws vs m e
    unfolding holds_with
    known_is f v r' t u b h ek f' eu = let g = sym ek ∙ f' in eu ∙ sym (rw g) ∙ value-is l (T.Aggregate f v r' t) nz (sym h ∙ er)

    module _ (x y : List ℕ) (ex : x ≡ drop a q) (ey : y ≡ drop a z) where
      pub aggregate-is : (f v r' t : ℕ) (u : Value) (b : Bool) → r ≡ T.Aggregate f v r' t → b ≡ knows m v → b ≡ false → u ≡ aggregate f (values_on (l - 1) x y ws vs m e v t) → u ≡ value_at l q z ws vs m e
      unfolding holds_with holds_on values_on
      aggregate-is f v r' t u b h ek f' eu =
          let g = sym ek ∙ f' in
          eu ∙ ap₂ (λ (i w : List ℕ). aggregate f (map (λ (s : Tuple). s t) (filter (λ s. holds_by m (decode (l - 1) i w) (rows_by ws vs) (update (assigned vs e) v s)) (walked ws vs v)))) (ex ∙ ap (λ n. drop n q) to-first) (ey ∙ ap (λ n. drop n z) to-first)
          ∙ sym (rw g) ∙ value-is l (T.Aggregate f v r' t) nz (sym h ∙ er)

  pub constant-is : (l a b c d : ℕ) (r : TermRecord) (t : ℤ) → (l ≡ 0 → ⊥) → r ≡ term_at q → r ≡ T.Constant a b c d → t ≡ signed a b c d → some (whole t) ≡ value_at l q z ws vs m e
  unfolding holds_with
  constant-is l a b c d r t nz er h et = ap (λ (y : ℤ). some (whole y)) et ∙ value-is l (T.Constant a b c d) nz (sym h ∙ er)

  pub attribute-is : (l v a p : ℕ) (r : TermRecord) (t : ℤ) → (l ≡ 0 → ⊥) → r ≡ term_at q → r ≡ T.Attribute v a → v < length e → p ≡ get_or e v 0 → t ≡ get_or vs (p + a) (pos 0) → some (whole t) ≡ value_at l q z ws vs m e
  unfolding holds_with
  attribute-is l v a p r t nz er h hv ep et = ap (λ (y : ℤ). some (whole y)) (et ∙ ap (λ n. get_or vs (n + a) (pos 0)) (ep ∙ get_or-inside e v 0 (length vs) hv)) ∙ value-is l (T.Attribute v a) nz (sym h ∙ er)

  pub no-term : (l : ℕ) (r : TermRecord) → (l ≡ 0 → ⊥) → r ≡ term_at q → r ≡ T.Other → some (whole (pos 0)) ≡ value_at l q z ws vs m e
  unfolding holds_with signed
  no-term l r nz er h = value-is l T.Other nz (sym h ∙ er)

-- the places: the variable's own is put back at the end, so a loop keeps what they are with the old one back
pub places-start : (e : List ℕ) (v old : ℕ) → old ≡ get_or e v 0 → set e v old ≡ e
places-start e v old h = ap (set e v) h ∙ set-get_or e v 0

module _ (d e y : List ℕ) (v old p : ℕ) (inv : set d v old ≡ e) (ey : y ≡ set d v p) where
  pub places-on : y ≡ set e v p
  places-on = ey ∙ sym (set-set d v old p) ∙ ap (λ (x : List ℕ). set x v p) inv

  pub places-back : (x : List ℕ) → x ≡ y → set x v old ≡ e
  places-back x ex = ap (λ (u : List ℕ). set u v old) (ex ∙ ey) ∙ set-set d v p old ∙ inv

  pub places-length : (x : List ℕ) → x ≡ y → length d ≡ length e → length x ≡ length e
  places-length x ex h = ap length (ex ∙ ey) ∙ length-set d v p ∙ h

  pub on_row : (l : ℕ) (q z ws : List ℕ) (vs m : List ℤ) (b : Bool) → v < length e → b ≡ holds_at l q z ws vs m y → holds_on l q z ws vs m e v (tuple_at vs p) ≡ b
  unfolding holds_at holds_on
  on_row l q z ws vs m b h eb = sym (eb ∙ ap (λ (x : List ℕ). holds_by m (decode l q z) (rows_by ws vs) (assigned vs x)) places-on ∙ ap (holds_by m (decode l q z) (rows_by ws vs)) (assigned-set vs e v p h))

-- the values taken
pub taken-all : (l : ℕ) (q z ws : List ℕ) (vs m : List ℤ) (e : List ℕ) (v a i : ℕ) (x : Walk) → x ≡ walk_of ws v → i ≡ x.count → kept vs (holds_on l q z ws vs m e v) a (place_at ws x) i ≡ values_on l q z ws vs m e v a
unfolding kept values_on walked
taken-all l q z ws vs m e v a i x ex ei = rw ei (rw ex)

-- a collection of the values of the rows that meet the condition
module _ (P : ℕ → ℕ) where
  pub taken_start : (vs : List ℤ) (f : Tuple → Bool) (t : ℕ) (a : Accumulator) → a ≡ accumulator_of [] → Accumulates a (kept vs f t P 0)
  taken_start vs f t a e = subst (Accumulates a) (sym (kept-start P vs f t)) (starts a e)

  module _ (vs : List ℤ) (f : Tuple → Bool) (t i : ℕ) (a : Accumulator) (inv : Accumulates a (kept vs f t P i)) where
    pub taken-few : (n : ℕ) → i ≤ n → a.count ≤ n
    taken-few n h = omega (arith, counts a (kept vs f t P i) inv, kept-length P vs f t i)

    pub taken-hit : (r : Accumulator) (x : ℤ) → f (tuple_at vs (P i)) ≡ true → x ≡ get_or vs (P i + t) (pos 0) → r ≡ added a x → Bounded r → Accumulates r (kept vs f t P (i + 1))
    taken-hit r x e ex er k = subst (Accumulates r) (ap (λ z. kept vs f t P i ++ (z ∷ [])) ex ∙ sym (kept-hit P vs f t i e)) (continues a r (kept vs f t P i) x inv er k)

    pub taken-miss : (r : Accumulator) → f (tuple_at vs (P i)) ≡ false → r ≡ a → Accumulates r (kept vs f t P (i + 1))
    taken-miss r e er = subst₂ Accumulates (sym er) (sym (kept-miss P vs f t i e)) inv
