-- Terms and comparisons kept in numbers.
use Prim.Native.Nat.{ℕ, ◌+◌, ◌-◌, ◌*◌, ◌≤◌, ◌<◌}
use mathlib.Core.Bool.{Bool, false, not, cond}
use mathlib.Core.List.{List}
use mathlib.Core.Option.{some}
use mathlib.Core.Path.{◌≡◌, sym, ap, ap₂, ◌∙◌, subst}
use native.Mathlib.Omega.{arith}
use lib.Dec.{ltb}
use lib.IntN.{ℤ, pos, ◌-ℤ◌}
use lib.ListN.{get_or, drop}
use borrow.Author.Tests.{lt-ltb, le-ltb}
use Rattle.model.specs.Syntax.{Condition, Term, AGGREGATE}
use Rattle.model.specs.Meaning.{Assignment, Rows, whole, signed, compare, holds_with}
use Rattle.model.proofs.Tests.{not-no}
use Rattle.kinds.specs.Tables.{record_length}
use Rattle.kinds.specs.Places.{condition_at, term_at}
use Rattle.kinds.specs.declared.ConditionRecord.{ConditionRecord}
use Rattle.kinds.specs.declared.ConditionRecord.TheVariants as C
use Rattle.kinds.specs.declared.TermRecord.{TermRecord}
use Rattle.kinds.specs.declared.TermRecord.TheVariants as T
use Rattle.numbers.specs.Memo.{knows}
use Rattle.sizes.specs.Decode.{first, second, decode, decode_t}
use Rattle.sizes.proofs.Decoding.{decode-step, decode_t-step}
use Rattle.numbers.specs.Recalled.{holds_by, value_by}
use Rattle.std.specs.Prelude.{Option, Some, None, IfSome}
use Rattle.branches.specs.Compiled.{side_of, Means, Compares}
use Rattle.branches.specs.declared.Operand.{Operand}

-- a number by its halves
halves : (a b c d low high : ℕ) → low ≡ a + 256 * b → high ≡ c + 256 * d → signed a b c d ≡ signed low 0 high 0
unfolding signed
halves a b c d low high el eh =
    let n : a + 256 * b + 65536 * c + 16777216 * d ≡ low + 256 * 0 + 65536 * high + 16777216 * 0 = omega (arith, el, eh) in
    ap (λ (n : ℕ). cond (ltb n 2147483648) (pos n) (pos n -ℤ pos 4294967296)) n

-- an aggregate that the memo knows
pub recalled-means : (m : List ℤ) (v w : ℕ) (b : Bool) (o : Operand) → b ≡ knows m v → not b ≡ false → w ≡ v → v < 256
    → o ≡ record { variable = w + 256; attribute = 0; low = 0; high = 0 } → (f r a : ℕ) (c : Condition) → Means o m (AGGREGATE f v r a c)
unfolding holds_with
recalled-means m v w b o eb h ew g eo f r a c R e =
    let y = sym eb ∙ not-no b h in
    let low : 256 ≤ v + 256 = omega arith in
    let high : v + 256 < 512 = omega arith in
    let back : v + 256 - 256 ≡ v = omega arith in
    rw y (sym (ap (λ (u : Operand). side_of m u e) (eo ∙ ap (λ (n : ℕ). record { variable = n + 256; attribute = 0; low = 0; high = 0 }) ew) ∙ rw (le-ltb (v + 256) 256 low, lt-ltb (v + 256) 512 high, back, y)))

module _ (m : List ℤ) (q : List ℕ) (l : ℕ) (r : TermRecord) (nz : l ≡ 0 → ⊥) (er : r ≡ term_at q) where
  module _ (o : Operand) where
    pub constant-means : (a b c d low high : ℕ) → r ≡ T.Constant a b c d → low ≡ a + 256 * b → high ≡ c + 256 * d → o ≡ record { variable = 512; attribute = 0; low = low; high = high } → (z : List ℕ) → Means o m (decode_t l q z)
    unfolding holds_with
    constant-means a b c d low high h el eh eo z R e =
        ap (λ (t : Term). value_by m t R e) (decode_t-step l q z _ nz (sym er ∙ h)) ∙ ap (λ (y : ℤ). some (whole y)) (halves a b c d low high el eh) ∙ ap (λ (w : Operand). side_of m w e) (sym eo)

    pub attribute-means : (v a : ℕ) → v < 256 → r ≡ T.Attribute v a → o ≡ record { variable = v; attribute = a; low = 0; high = 0 } → (z : List ℕ) → Means o m (decode_t l q z)
    unfolding holds_with
    attribute-means v a g h eo z R e =
        ap (λ (t : Term). value_by m t R e) (decode_t-step l q z _ nz (sym er ∙ h)) ∙ sym (rw (lt-ltb v 256 g)) ∙ ap (λ (w : Operand). side_of m w e) (sym eo)

    pub aggregate-means : (f v s a : ℕ) → r ≡ T.Aggregate f v s a → ((f r a : ℕ) (c : Condition) → Means o m (AGGREGATE f v r a c)) → (z : List ℕ) → Means o m (decode_t l q z)
    aggregate-means f v s a h g z = subst (Means o m) (sym (decode_t-step l q z _ nz (sym er ∙ h))) (g f s a (decode (l - 1) (drop (first q) q) (drop (first q) z)))

  -- the same, of what the code has found
  pub aggregate-side : (o : Option Operand) (f v s a : ℕ) → r ≡ T.Aggregate f v s a → IfSome o (λ o. (f r a : ℕ) (c : Condition) → Means o m (AGGREGATE f v r a c)) → IfSome o (λ o. (z : List ℕ) → Means o m (decode_t l q z))
  aggregate-side None f v s a h g = g
  aggregate-side (Some o) f v s a h g = aggregate-means o f v s a h g

module _ (m : List ℤ) (q : List ℕ) (l : ℕ) (r : ConditionRecord) (nz : l ≡ 0 → ⊥) (er : r ≡ condition_at q) where
  module _ (z : List ℕ) (o k a s : ℕ) (u w : List ℕ) (left right : Operand) (h : r ≡ C.Compare o) (ek : k ≡ get_or q 0 0) (ea : a ≡ record_length k) (es : s ≡ get_or z a 0) (eu : u ≡ drop a q) (ew : w ≡ drop (a + s) q)
      (hl : (y : List ℕ) → Means left m (decode_t (l - 1) u y)) (hr : (y : List ℕ) → Means right m (decode_t (l - 1) w y)) where
    compares-says : (R : Rows) (e : Assignment) → holds_by m (decode l q z) R e ≡ compare o (side_of m left e) (side_of m right e)
    unfolding holds_with
    compares-says R e =
        let at_first = ea ∙ ap record_length ek in
        let at_second : a + s ≡ second q z = ap (λ n. a + n) es ∙ ap (λ n. n + get_or z n 0) at_first in
        let fst = subst (λ (y : List ℕ). value_by m (decode_t (l - 1) y (drop (first q) z)) R e ≡ side_of m left e) (eu ∙ ap (λ n. drop n q) at_first) (hl (drop (first q) z) R e) in
        let snd = subst (λ (y : List ℕ). value_by m (decode_t (l - 1) y (drop (second q z) z)) R e ≡ side_of m right e) (ew ∙ ap (λ n. drop n q) at_second) (hr (drop (second q z) z) R e) in
        ap (λ (c : Condition). holds_by m c R e) (decode-step l q z _ nz (sym er ∙ h)) ∙ ap₂ (compare o) fst snd

    pub compares : (o ≡ 0 → ⊥) → Compares (record { operator = o; left = left; right = right }) m (decode l q z)
    compares h = record { nonzero = h; holds = λ R e. compares-says R e }
