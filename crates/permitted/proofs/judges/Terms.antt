-- Comparisons of an attribute with something known: what the bytes stand for, and the form in which they are tried.
use Prim.Native.Nat.{ℕ, zero, suc, ◌+◌, ◌-◌, ◌*◌, ◌≤◌, ◌<◌}
use mathlib.Core.Bool.{Bool, true, false, not, ◌&&◌}
use mathlib.Core.List.{List}
use mathlib.Core.Option.{none, some}
use mathlib.Core.Path.{◌≡◌, refl, sym, ap, ap₂, ◌∙◌, subst}
use native.Mathlib.Omega.{arith}
use native.Mathlib.Nat.{mul-le-mul, le_refl}
use mir.Syntax.{w64}
use mir.Val.{Fits}
use lib.Dec.{ltb, leb}
use lib.IntN.{ℤ, pos, negsuc, ◌*ℤ◌, nat_abs, one, *ℤ-one}
use lib.Signed.{le_z, lt_z}
use lib.ListN.{get_or, drop}
use borrow.Author.Tests.{ne_eqb, ltb-true, ltb-false, lt-leb, le-leb}
use Rattle.model.specs.Lists.{update}
use Rattle.model.specs.Syntax.{Condition, Term}
use Rattle.model.specs.Meaning.{Rows, Assignment, Tuple, whole, signed, compare, holds_with}
use Rattle.model.specs.Meaning as M
use Rattle.kinds.specs.Tables.{record_length}
use Rattle.kinds.specs.Places.{condition_at, term_at}
use Rattle.kinds.specs.declared.ConditionRecord.{ConditionRecord}
use Rattle.kinds.specs.declared.ConditionRecord.TheVariants as C
use Rattle.kinds.specs.declared.TermRecord.{TermRecord}
use Rattle.kinds.specs.declared.TermRecord.TheVariants as T
use Rattle.numbers.specs.declared.Ratio.{Ratio}
use Rattle.numbers.specs.Numbers.{value_of, Number, ordered, Small}
use Rattle.numbers.proofs.Laws.{value-some}
use Rattle.numbers.specs.Memo.{knows, recalled}
use Rattle.sizes.specs.Decode.{first, second, term_by, decode, decode_t}
use Rattle.sizes.proofs.Decoding.{decode-step, decode_t-step}
use Rattle.walks.specs.declared.Walk.{Walk}
use Rattle.walks.specs.Walks.{rows_by}
use Rattle.numbers.specs.Recalled.{holds_by, value_by}
use Rattle.walks.specs.Assigned.{assigned}
use Rattle.permitted.specs.Marked.{between, passes, turned, tuple_of, judged_on}
use Rattle.permitted.specs.Meets.{no_places}
use Rattle.permitted.specs.declared.judges.Test.{Test}

below-is : (a b : ℕ) → ltb a b ≡ not (leb b a)
below-is a b = go (ltb a b) refl
  where
    go : (x : Bool) → ltb a b ≡ x → ltb a b ≡ not (leb b a)
    go true h = h ∙ sym (ap not (lt-leb b a (ltb-true a b h)))
    go false h = h ∙ sym (ap not (le-leb b a (ltb-false a b h)))

less-is : (a b : ℤ) → lt_z a b ≡ not (le_z b a)
less-is (pos a) (pos b) = below-is a b
less-is (pos a) (negsuc b) = refl
less-is (negsuc a) (pos b) = refl
less-is (negsuc a) (negsuc b) = below-is b a

and-swap : (a b : Bool) → a && b ≡ b && a
and-swap true true = refl
and-swap true false = refl
and-swap false true = refl
and-swap false false = refl

and_yes : (a : Bool) → a && true ≡ a
and_yes true = refl
and_yes false = refl

turned-not : (w b : Bool) → turned (not w) b ≡ turned w (not b)
turned-not true b = refl
turned-not false true = refl
turned-not false false = refl

-- the operators, n on the right of v
pub test-1 : (w : Bool) (n v : ℤ) → between false false w n v ≡ turned w (ordered 1 v n)
test-1 w n v = ap (turned w) (and-swap (le_z n v) (le_z v n))

pub test-2 : (w : Bool) (n v : ℤ) → between false false (not w) n v ≡ turned w (ordered 2 v n)
test-2 w n v = turned-not w (le_z n v && le_z v n) ∙ ap (λ b. turned w (not b)) (and-swap (le_z n v) (le_z v n))

pub test-3 : (w : Bool) (n v : ℤ) → between false true (not w) n v ≡ turned w (ordered 3 v n)
test-3 w n v = turned-not w (le_z n v && true) ∙ ap (turned w) (ap not (and_yes (le_z n v)) ∙ sym (less-is v n))

pub test-4 : (w : Bool) (n v : ℤ) → between true false w n v ≡ turned w (ordered 4 v n)
test-4 w n v = refl

pub test-5 : (w : Bool) (n v : ℤ) → between true false (not w) n v ≡ turned w (ordered 5 v n)
test-5 w n v = turned-not w (le_z v n) ∙ ap (turned w) (sym (less-is n v))

pub test-6 : (w : Bool) (n v : ℤ) → between false true w n v ≡ turned w (le_z n v)
test-6 w n v = ap (turned w) (and_yes (le_z n v))

-- a whole number is compared by one cross product
pub test-is : (o : ℕ) (above below want w : Bool) (x : Ratio) (t : Test) → t ≡ record { above = above; below = below; wanted = want; number = x.numerator; scale = x.denominator }
    → ((n v : ℤ) → between above below want n v ≡ turned w (ordered o v n))
    → (Small x → Number x → (a : ℤ) → passes t a ≡ turned w (compare o (some (whole a)) (value_of x))) × ((t.number ≡ x.numerator) × (t.scale ≡ x.denominator))
unfolding M.ordered one
test-is o above below want w x t e h = (
  (λ s k a.
      let left : x.numerator *ℤ pos 1 ≡ x.numerator = *ℤ-one x.numerator in
      let right : a *ℤ pos (nat_abs x.denominator) ≡ a *ℤ x.denominator = ap (λ (y : ℤ). a *ℤ y) (sym s.sign) in
      ap (λ (u : Test). passes u a) e ∙ h x.numerator (a *ℤ x.denominator) ∙ ap (turned w) (sym (ap (compare o (some (whole a))) (value-some x k) ∙ ap₂ (ordered o) right left))),
  (ap (λ (u : Test). u.number) e, ap (λ (u : Test). u.scale) e),
)

-- with nothing a comparison is false
pub against-nothing : (o : ℕ) (w : Bool) (a : ℤ) (x : Ratio) → value_of x ≡ none → not w ≡ turned w (compare o (some (whole a)) (value_of x))
against-nothing o w a x e = sym (ap (λ (v : M.Value). turned w (compare o (some (whole a)) v)) e ∙ go w)
  where
    go : (w : Bool) → turned w false ≡ not w
    go true = refl
    go false = refl

pub other : (o : ℕ) (a b : ℤ) → (((((Unit {0} × (o ≡ 1 → ⊥)) × (o ≡ 2 → ⊥)) × (o ≡ 3 → ⊥)) × (o ≡ 4 → ⊥)) × (o ≡ 5 → ⊥)) → le_z b a ≡ ordered o a b
other o a b h = sym (simp (ne_eqb _ _ h.0.0.0.0.1, ne_eqb _ _ h.0.0.0.1, ne_eqb _ _ h.0.0.1, ne_eqb _ _ h.0.1, ne_eqb _ _ h.1))

pub fits-product : (n w : ℕ) → n ≤ 65535 → w ≤ 65535 → Fits w64 (n * w)
fits-product n w h k = record { fits = omega (arith, mul-le-mul h k) }

pub fits-place : (b n w : ℕ) → b ≤ 4294967295 → n ≤ 65535 → w ≤ 65535 → Fits w64 (b + n * w)
fits-place b n w g h k = record { fits = omega (arith, g, mul-le-mul h k) }

-- the values of an attribute are all there
pub reach : (b a w n i len : ℕ) → a < w → b + n * w ≤ len → i < n → b + a + i * w < len
reach b a w n i len h k l = let e : (i + 1) * w ≡ i * w + w = omega arith in omega (arith, h, k, e, mul-le-mul (next i n l) (le_refl w))
  where
    next : (i n : ℕ) → i < n → i + 1 ≤ n
    next i n l = omega arith

pub row-place : (vs : List ℤ) (x : Walk) (a k i : ℕ) → k ≡ a → get_or vs (x.base + k + i * x.width) (pos 0) ≡ tuple_of vs x i a
row-place vs x a k i e = let s : x.base + k + i * x.width ≡ x.base + i * x.width + a = omega (arith, e) in ap (λ n. get_or vs n (pos 0)) s

pub not-zero : (l : ℕ) → 2 ≤ l → l ≡ 0 → ⊥
not-zero l h e = omega arith

pub not-one : (l : ℕ) → 2 ≤ l → l - 1 ≡ 0 → ⊥
not-one l h e = omega arith

pub eq-zero : (v : ℕ) → v ≡ 0 → v ≡ 0
eq-zero v h = h

-- a term whose value is known
module _ (m : List ℤ) (q : List ℕ) (l : ℕ) (r : TermRecord) (nz : l ≡ 0 → ⊥) (er : r ≡ term_at q) where
  pub constant-known : (x : Ratio) (y : ℤ) (a b c d : ℕ) → r ≡ T.Constant a b c d → y ≡ signed a b c d → value_of x ≡ some (whole y) → (z : List ℕ) (R : Rows) (e : Assignment) → value_of x ≡ value_by m (decode_t l q z) R e
  unfolding holds_with
  constant-known x y a b c d h ey ex z R e =
      ex ∙ ap (λ n. some (whole n)) ey ∙ sym (ap (λ (t : Term). value_by m t R e) (decode_t-step l q z _ nz (sym er ∙ h)))

  pub aggregate-known : (x : Ratio) (f v s a : ℕ) → r ≡ T.Aggregate f v s a → knows m v ≡ true → value_of x ≡ recalled m v → (z : List ℕ) (R : Rows) (e : Assignment) → value_of x ≡ value_by m (decode_t l q z) R e
  unfolding holds_with
  aggregate-known x f v s a h k ex z R e = ex ∙ sym (ap (λ (t : Term). value_by m t R e) (decode_t-step l q z _ nz (sym er ∙ h)) ∙ rw k)

  pub attribute-is : (v a : ℕ) → r ≡ T.Attribute v a → (z : List ℕ) (R : Rows) (e : Assignment) → value_by m (decode_t l q z) R e ≡ some (whole (e v a))
  unfolding holds_with
  attribute-is v a h z R e = ap (λ (t : Term). value_by m t R e) (decode_t-step l q z _ nz (sym er ∙ h))

module _ (m : List ℤ) (q : List ℕ) (l : ℕ) (r : ConditionRecord) (nz : l ≡ 0 → ⊥) (er : r ≡ condition_at q) where
  pub compared_is : (o k a s v at : ℕ) (u w : List ℕ) (y : TermRecord) (x : Ratio) (z : List ℕ) → r ≡ C.Compare o → k ≡ get_or q 0 0 → a ≡ record_length k → s ≡ get_or z a 0 → u ≡ drop a q → w ≡ drop (a + s) q → (l - 1 ≡ 0 → ⊥) → y ≡ term_at u → y ≡ T.Attribute v at → v ≡ 0
      → ((z : List ℕ) (R : Rows) (e : Assignment) → value_of x ≡ value_by m (decode_t (l - 1) w z) R e)
      → (ws : List ℕ) (vs : List ℤ) (g : Walk) (wanted : Bool) (i : ℕ) → turned wanted (compare o (some (whole (tuple_of vs g i at))) (value_of x)) ≡ judged_on l q z ws vs m g wanted i
  unfolding holds_with judged_on decode
  compared_is o k a s v at u w y x z h ek ea es eu ew nz' ey hy ev hx ws vs g wanted i =
      let R = rows_by ws vs in
      let E : Assignment = update (assigned vs (no_places vs)) 0 (tuple_of vs g i) in
      let at_first = ea ∙ ap record_length ek in
      let at_second : a + s ≡ second q z = ap (λ n. a + n) es ∙ ap (λ n. n + get_or z n 0) at_first in
      let fst : value_by m (decode_t (l - 1) (drop (first q) q) (drop (first q) z)) R E ≡ some (whole (tuple_of vs g i at)) = subst (λ (p : List ℕ). value_by m (decode_t (l - 1) p (drop (first q) z)) R E ≡ some (whole (tuple_of vs g i at))) (eu ∙ ap (λ n. drop n q) at_first) (left u y nz' ey hy E (drop (first q) z) ∙ ap (λ n. some (whole (E n at))) ev) in
      let snd : value_of x ≡ value_by m (decode_t (l - 1) (drop (second q z) q) (drop (second q z) z)) R E = subst (λ (p : List ℕ). value_of x ≡ value_by m (decode_t (l - 1) p (drop (second q z) z)) R E) (ew ∙ ap (λ n. drop n q) at_second) (hx (drop (second q z) z) R E) in
      ap (turned wanted) (ap₂ (compare o) (sym fst) snd ∙ sym (ap (λ (c : Condition). holds_by m c R E) (decode-step l q z _ nz (sym er ∙ h))))
    where
      left : (u : List ℕ) (y : TermRecord) → (l - 1 ≡ 0 → ⊥) → y ≡ term_at u → y ≡ T.Attribute v at → (E : Assignment) (z : List ℕ) → value_by m (decode_t (l - 1) u z) (rows_by ws vs) E ≡ some (whole (E v at))
      left u y nz' ey hy E z = go (l - 1) nz'
        where
          go : (k : ℕ) → (k ≡ 0 → ⊥) → value_by m (decode_t k u z) (rows_by ws vs) E ≡ some (whole (E v at))
          go zero h = absurd (h refl)
          go (suc k) h = ap (λ (r : TermRecord). value_by m (term_by r (λ x y. decode k x y) u z) (rows_by ws vs) E) (sym ey ∙ hy)
