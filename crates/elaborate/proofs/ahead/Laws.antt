-- A token counts by its kind, and the four numbers of a place follow from those after it.
use Prim.Native.Nat.{ℕ, zero, suc, ◌+◌, ◌-◌, ◌≤◌, ◌<◌}
use mathlib.Core.Bool.{Bool, true, false, cond, ◌&&◌}
use mathlib.Core.List.{List, [], ◌∷◌}
use mathlib.Core.Path.{◌≡◌, refl, sym, ap, ◌∙◌, subst}
use native.Mathlib.Nat.{add-zero}
use native.Mathlib.Omega.{arith}
use native.Mathlib.Numerals.{add-one}
use lib.Dec.{eqb, leb}
use lib.ListN.{length, drop, get_or, set, get_or-eq_default, length-drop}
use borrow.Author.Tests.{ne_eqb, lt-leb, le-leb, leb-true, eqb-true, eqb-false}
use lib.Seq.{drop-cons, drop-drop, drop-length, get_or-set_same, get_or-set_other}
use Rattle.quel.specs.Results.{Word}
use Rattle.quel.specs.Tokens.{Token, key, point, Sign, equal, unequal, less, at_most, more, at_least}
use Rattle.quel.specs.Elaboration.{operator_of}
use Rattle.quel.specs.Ahead.{Count, ahead, top, outer, count, one_sign, one_or, one_and, fresh, ors_at, ands_at, operator_at}
use Rattle.model.proofs.Tests.{and-inv}
use Rattle.tokens.specs.Table.{Table, fixed, token_of, token_at, tokens_at}
use Rattle.elaborate.specs.Counts.{ors_in, ands_in, sign_in, skip_in, kind_in, plain, Place, Stepped}

-- the kinds of signs are 7 to 12
abbrev pub sign_of : ℕ → Sign
sign_of k = cond (eqb k 7) equal (cond (eqb k 8) unequal (cond (eqb k 9) less (cond (eqb k 10) at_most (cond (eqb k 11) more at_least))))

abbrev pub count_kind : ℕ → List Count → List Count
count_kind k l =
    cond (leb 7 k && leb k 12) (one_sign (sign_of k) (top l) ∷ outer l)
    (cond (eqb k 18) (one_or (top l) ∷ outer l)
    (cond (eqb k 19) (one_and (top l) ∷ outer l)
    (cond (eqb k 20) (outer l)
    (cond (eqb k 21) (fresh ∷ l) l))))

past : (k : ℕ) (w : Word) (n : ℕ) (l : List Count) → 26 ≤ k → count (token_of k w n) l ≡ count_kind k l
unfolding token_of
past k w n l h =
    rw (
      ne_eqb k 0 (λ e. omega arith),
      ne_eqb k 1 (λ e. omega arith),
      get_or-eq_default fixed (key point) {n = k - 2} (omega arith),
      lt-leb k 12 (omega arith),
      le-leb 7 k (omega arith),
      ne_eqb k 18 (λ e. omega arith),
      ne_eqb k 19 (λ e. omega arith),
      ne_eqb k 20 (λ e. omega arith),
      ne_eqb k 21 (λ e. omega arith),
    )

pub counted : (k : ℕ) (w : Word) (n : ℕ) (l : List Count) → count (token_of k w n) l ≡ count_kind k l
unfolding token_of
counted zero w n l = refl
counted (suc zero) w n l = refl
counted (suc (suc zero)) w n l = refl
counted (suc (suc (suc zero))) w n l = refl
counted (suc (suc (suc (suc zero)))) w n l = refl
counted (suc (suc (suc (suc (suc zero))))) w n l = refl
counted (suc (suc (suc (suc (suc (suc zero)))))) w n l = refl
counted (suc (suc (suc (suc (suc (suc (suc zero))))))) w n l = refl
counted (suc (suc (suc (suc (suc (suc (suc (suc zero)))))))) w n l = refl
counted (suc (suc (suc (suc (suc (suc (suc (suc (suc zero))))))))) w n l = refl
counted (suc (suc (suc (suc (suc (suc (suc (suc (suc (suc zero)))))))))) w n l = refl
counted (suc (suc (suc (suc (suc (suc (suc (suc (suc (suc (suc zero))))))))))) w n l = refl
counted (suc (suc (suc (suc (suc (suc (suc (suc (suc (suc (suc (suc zero)))))))))))) w n l = refl
counted (suc (suc (suc (suc (suc (suc (suc (suc (suc (suc (suc (suc (suc zero))))))))))))) w n l = refl
counted (suc (suc (suc (suc (suc (suc (suc (suc (suc (suc (suc (suc (suc (suc zero)))))))))))))) w n l = refl
counted (suc (suc (suc (suc (suc (suc (suc (suc (suc (suc (suc (suc (suc (suc (suc zero))))))))))))))) w n l = refl
counted (suc (suc (suc (suc (suc (suc (suc (suc (suc (suc (suc (suc (suc (suc (suc (suc zero)))))))))))))))) w n l = refl
counted (suc (suc (suc (suc (suc (suc (suc (suc (suc (suc (suc (suc (suc (suc (suc (suc (suc zero))))))))))))))))) w n l = refl
counted (suc (suc (suc (suc (suc (suc (suc (suc (suc (suc (suc (suc (suc (suc (suc (suc (suc (suc zero)))))))))))))))))) w n l = refl
counted (suc (suc (suc (suc (suc (suc (suc (suc (suc (suc (suc (suc (suc (suc (suc (suc (suc (suc (suc zero))))))))))))))))))) w n l = refl
counted (suc (suc (suc (suc (suc (suc (suc (suc (suc (suc (suc (suc (suc (suc (suc (suc (suc (suc (suc (suc zero)))))))))))))))))))) w n l = refl
counted (suc (suc (suc (suc (suc (suc (suc (suc (suc (suc (suc (suc (suc (suc (suc (suc (suc (suc (suc (suc (suc zero))))))))))))))))))))) w n l = refl
counted (suc (suc (suc (suc (suc (suc (suc (suc (suc (suc (suc (suc (suc (suc (suc (suc (suc (suc (suc (suc (suc (suc zero)))))))))))))))))))))) w n l = refl
counted (suc (suc (suc (suc (suc (suc (suc (suc (suc (suc (suc (suc (suc (suc (suc (suc (suc (suc (suc (suc (suc (suc (suc zero))))))))))))))))))))))) w n l = refl
counted (suc (suc (suc (suc (suc (suc (suc (suc (suc (suc (suc (suc (suc (suc (suc (suc (suc (suc (suc (suc (suc (suc (suc (suc zero)))))))))))))))))))))))) w n l = refl
counted (suc (suc (suc (suc (suc (suc (suc (suc (suc (suc (suc (suc (suc (suc (suc (suc (suc (suc (suc (suc (suc (suc (suc (suc (suc zero))))))))))))))))))))))))) w n l = refl
counted (suc (suc (suc (suc (suc (suc (suc (suc (suc (suc (suc (suc (suc (suc (suc (suc (suc (suc (suc (suc (suc (suc (suc (suc (suc (suc k)))))))))))))))))))))))))) w n l = past (suc (suc (suc (suc (suc (suc (suc (suc (suc (suc (suc (suc (suc (suc (suc (suc (suc (suc (suc (suc (suc (suc (suc (suc (suc (suc k)))))))))))))))))))))))))) w n l (omega arith)

-- what stands ahead of one token more
module _ (k r : ℕ) (ts : List Token) (l : List Count) (e : count_kind k (ahead ts) ≡ l) where
  stands : ors_in r ≡ (top l).ors → ands_in r ≡ (top l).ands → suc (sign_in r) ≡ operator_of (top l).operator → outer l ≡ ahead (drop (skip_in r) (token_of k [] 0 ∷ ts))
      → ors_in r ≤ suc (length ts) → ands_in r ≤ suc (length ts) → skip_in r ≤ suc (length ts) → Place r (token_of k [] 0 ∷ ts)
  unfolding ors_at ands_at operator_at ahead
  stands a b o d x y z =
      let h = counted k [] 0 (ahead ts) ∙ e in
      record {
        ors = a ∙ ap (λ (m : List Count). (top m).ors) (sym h);
        ands = b ∙ ap (λ (m : List Count). (top m).ands) (sym h);
        operator = o ∙ ap (λ (m : List Count). operator_of (top m).operator) (sym h);
        level = ap outer h ∙ d;
        ors-most = x;
        ands-most = y;
        skip-most = z;
      }

sign-number : (j : ℕ) → j ≤ 5 → suc j ≡ operator_of (sign_of (7 + j))
sign-number zero h = refl
sign-number (suc zero) h = refl
sign-number (suc (suc zero)) h = refl
sign-number (suc (suc (suc zero))) h = refl
sign-number (suc (suc (suc (suc zero)))) h = refl
sign-number (suc (suc (suc (suc (suc zero))))) h = refl
sign-number (suc (suc (suc (suc (suc (suc j)))))) h = absurd (omega arith)

one_on : (t : Token) (ts : List Token) (n d : ℕ) → d ≡ n + 1 → ahead (drop n ts) ≡ ahead (drop d (t ∷ ts))
one_on t ts n d e = ap (λ (m : ℕ). ahead (drop m (t ∷ ts))) (sym (e ∙ add-one n))

module _ (k next after r : ℕ) where
  pub step-sign : (leb 7 k && leb k 12) ≡ true → (s : ℕ) → s ≡ k - 7 → (ors_in r ≡ ors_in next) × (ands_in r ≡ ands_in next) × (sign_in r ≡ s) × (skip_in r ≡ skip_in next + 1) × (kind_in r ≡ k) → Stepped k next after r
  unfolding ors_at ands_at operator_at
  step-sign i s es p =
      let j = and-inv (leb 7 k) (leb k 12) i in
      let low = leb-true 7 k j.0 in let high = leb-true k 12 j.1 in
      record {
        place = λ ts n a. stands k r ts (one_sign (sign_of k) (top (ahead ts)) ∷ outer (ahead ts)) (rw i)
            (p.0 ∙ n.ors) (p.1 ∙ n.ands)
            (ap suc p.2 ∙ ap suc es ∙ sign-number (k - 7) (omega arith) ∙ ap (λ (m : ℕ). operator_of (sign_of m)) (seven (omega arith)))
            (n.level ∙ one_on (token_of k [] 0) ts (skip_in next) (skip_in r) p.3)
            (omega (arith, p.0, n.ors-most)) (omega (arith, p.1, n.ands-most)) (omega (arith, p.3, n.skip-most));
        kind-is = p.4;
      }
    where
      seven : 7 ≤ k → 7 + (k - 7) ≡ k
      seven h = omega arith

  pub step-or : k ≡ 18 → (ors_in r ≡ ors_in next + 1) × (ands_in r ≡ 0) × (sign_in r ≡ sign_in next) × (skip_in r ≡ skip_in next + 1) × (kind_in r ≡ k) → Stepped k next after r
  unfolding ors_at ands_at operator_at
  step-or i p = record {
    place = λ ts n a. stands k r ts (one_or (top (ahead ts)) ∷ outer (ahead ts)) (rw i)
        (p.0 ∙ add-one (ors_in next) ∙ ap suc n.ors) p.1 (ap suc p.2 ∙ n.operator)
        (n.level ∙ one_on (token_of k [] 0) ts (skip_in next) (skip_in r) p.3)
        (omega (arith, p.0, n.ors-most)) (omega (arith, p.1)) (omega (arith, p.3, n.skip-most));
    kind-is = p.4;
  }

  pub step-and : k ≡ 19 → (ors_in r ≡ ors_in next) × (ands_in r ≡ ands_in next + 1) × (sign_in r ≡ sign_in next) × (skip_in r ≡ skip_in next + 1) × (kind_in r ≡ k) → Stepped k next after r
  unfolding ors_at ands_at operator_at
  step-and i p = record {
    place = λ ts n a. stands k r ts (one_and (top (ahead ts)) ∷ outer (ahead ts)) (rw i)
        (p.0 ∙ n.ors) (p.1 ∙ add-one (ands_in next) ∙ ap suc n.ands) (ap suc p.2 ∙ n.operator)
        (n.level ∙ one_on (token_of k [] 0) ts (skip_in next) (skip_in r) p.3)
        (omega (arith, p.0, n.ors-most)) (omega (arith, p.1, n.ands-most)) (omega (arith, p.3, n.skip-most));
    kind-is = p.4;
  }

  -- ( goes back to the level around: that of the place after its )
  pub step_left : k ≡ 20 → (ors_in r ≡ ors_in after) × (ands_in r ≡ ands_in after) × (sign_in r ≡ sign_in after) × (skip_in r ≡ skip_in next + 1 + skip_in after) × (kind_in r ≡ k) → Stepped k next after r
  unfolding ors_at ands_at operator_at
  step_left i p = record {
    place = λ ts n a.
        let l = length-drop (skip_in next) ts in
        stands k r ts (ahead (drop (skip_in next) ts)) (rw i n.level)
        (p.0 ∙ a.ors) (p.1 ∙ a.ands) (ap suc p.2 ∙ a.operator)
        (a.level ∙ ap ahead (drop-drop (skip_in after) (skip_in next) ts) ∙ one_on (token_of k [] 0) ts (skip_in next + skip_in after) (skip_in r) (omega (arith, p.3)))
        (omega (arith, p.0, a.ors-most, l)) (omega (arith, p.1, a.ands-most, l)) (omega (arith, p.3, a.skip-most, n.skip-most, l));
    kind-is = p.4;
  }

  pub step_right : k ≡ 21 → (ors_in r ≡ 0) × (ands_in r ≡ 0) × (sign_in r ≡ 0) × (skip_in r ≡ 1) × (kind_in r ≡ k) → Stepped k next after r
  step_right i p = record {
    place = λ ts n a. stands k r ts (fresh ∷ ahead ts) (rw i)
        p.0 p.1 (ap suc p.2) (ap (λ (m : ℕ). ahead (drop m (token_of k [] 0 ∷ ts))) (sym p.3))
        (omega (arith, p.0)) (omega (arith, p.1)) (omega (arith, p.3));
    kind-is = p.4;
  }

  pub step-rest : (leb 7 k && leb k 12) ≡ false → (k ≡ 18 → ⊥) → (k ≡ 19 → ⊥) → (k ≡ 20 → ⊥) → (k ≡ 21 → ⊥)
      → (ors_in r ≡ ors_in next) × (ands_in r ≡ ands_in next) × (sign_in r ≡ sign_in next) × (skip_in r ≡ skip_in next + 1) × (kind_in r ≡ k) → Stepped k next after r
  unfolding ors_at ands_at operator_at
  step-rest i a b c d p = record {
    place = λ ts n _. stands k r ts (ahead ts) (rw (i, ne_eqb k 18 a, ne_eqb k 19 b, ne_eqb k 20 c, ne_eqb k 21 d))
        (p.0 ∙ n.ors) (p.1 ∙ n.ands) (ap suc p.2 ∙ n.operator)
        (n.level ∙ one_on (token_of k [] 0) ts (skip_in next) (skip_in r) p.3)
        (omega (arith, p.0, n.ors-most)) (omega (arith, p.1, n.ands-most)) (omega (arith, p.3, n.skip-most));
    kind-is = p.4;
  }

pub back : {i : ℕ} → 0 < i → i ≡ i - 1 + 1
back h = omega arith

-- a place of the kinds
plain-drop : (n : ℕ) (ks : List ℕ) → plain (drop n ks) ≡ drop n (plain ks)
unfolding plain
plain-drop zero ks = refl
plain-drop (suc n) [] = refl
plain-drop (suc n) (k ∷ ks) = plain-drop n ks

plain-length : (ks : List ℕ) → length (plain ks) ≡ length ks
unfolding plain
plain-length [] = refl
plain-length (k ∷ ks) = ap suc (plain-length ks)

plain-cons : (ks : List ℕ) (i : ℕ) → i < length ks → plain (drop i ks) ≡ token_of (get_or ks i 0) [] 0 ∷ plain (drop (i + 1) ks)
unfolding plain
plain-cons ks i h = rw (add-one, drop-cons ks i 0)

abbrev pub From : List ℕ → List ℕ → ℕ → Type 0
From ks cs i = (j : ℕ) → i ≤ j → j ≤ length ks → Place (get_or cs j 0) (plain (drop j ks)) × (kind_in (get_or cs j 0) ≡ get_or ks j 0)

pub from_end : (ks cs : List ℕ) → length ks < length cs → From ks (set cs (length ks) 0) (length ks)
unfolding ors_at ands_at operator_at ahead plain
from_end ks cs h j a b =
    let e : j ≡ length ks = omega arith in
    subst (λ (i : ℕ). Place (get_or (set cs (length ks) 0) i 0) (plain (drop i ks)) × (kind_in (get_or (set cs (length ks) 0) i 0) ≡ get_or ks i 0)) (sym e) (
      rw (get_or-set_same cs (length ks) 0 0 h, drop-length ks) (record { ors = refl; ands = refl; operator = refl; level = refl; ors-most = omega arith; ands-most = omega arith; skip-most = omega arith }),
      ap kind_in (get_or-set_same cs (length ks) 0 0 h) ∙ sym (get_or-eq_default ks 0 (omega arith)),
    )

module _ (ks cs : List ℕ) (i : ℕ) (h : i < length ks) (k : length ks < length cs) (f : From ks cs (i + 1)) where
  pub next-most : (ors_in (get_or cs (i + 1) 0) ≤ length ks) × (ands_in (get_or cs (i + 1) 0) ≤ length ks) × (i + 1 + skip_in (get_or cs (i + 1) 0) ≤ length ks)
  next-most =
      let p = (f (i + 1) (omega arith) (omega arith)).0 in
      let l = plain-length (drop (i + 1) ks) ∙ length-drop (i + 1) ks in
      (omega (arith, p.ors-most, l), omega (arith, p.ands-most, l), omega (arith, p.skip-most, l))

  abbrev after : ℕ
  after = get_or cs (i + 1 + skip_in (get_or cs (i + 1) 0)) 0

  the-after : Place after (drop (skip_in (get_or cs (i + 1) 0)) (plain (drop (i + 1) ks)))
  the-after =
      subst (λ (ts : List Token). Place after ts) (ap plain (sym (drop-drop (skip_in (get_or cs (i + 1) 0)) (i + 1) ks)) ∙ plain-drop (skip_in (get_or cs (i + 1) 0)) (drop (i + 1) ks))
      (f (i + 1 + skip_in (get_or cs (i + 1) 0)) (omega arith) next-most.2).0

  pub after-most : skip_in after ≤ length ks
  after-most = omega (arith, (f (i + 1 + skip_in (get_or cs (i + 1) 0)) (omega arith) next-most.2).0.skip-most, plain-length (drop (i + 1 + skip_in (get_or cs (i + 1) 0)) ks) ∙ length-drop (i + 1 + skip_in (get_or cs (i + 1) 0)) ks)

  pub from_next : (r : ℕ) → Stepped (get_or ks i 0) (get_or cs (i + 1) 0) after r → From ks (set cs i r) i
  from_next r s j a b = at_place (eqb j i) refl
    where
      other : (j ≡ i → ⊥) → i + 1 ≤ j
      other n = omega arith

      at_place : (t : Bool) → eqb j i ≡ t → Place (get_or (set cs i r) j 0) (plain (drop j ks)) × (kind_in (get_or (set cs i r) j 0) ≡ get_or ks j 0)
      at_place true e =
          subst (λ (n : ℕ). Place (get_or (set cs i r) n 0) (plain (drop n ks)) × (kind_in (get_or (set cs i r) n 0) ≡ get_or ks n 0)) (sym (eqb-true j i e))
          (rw (get_or-set_same cs i r 0 (omega arith), plain-cons ks i h) (s.place (plain (drop (i + 1) ks)) (f (i + 1) (omega arith) (omega arith)).0 the-after), ap kind_in (get_or-set_same cs i r 0 (omega arith)) ∙ s.kind-is)
      at_place false e = rw (get_or-set_other cs i j r 0 (eqb-false j i e)) (f j (omega (arith, other (eqb-false j i e))) b)

-- with the words and numbers of a table
pub tokens-ahead : (text : List ℕ) (t : Table) (m i : ℕ) → i + m ≡ length t.kinds → ahead (tokens_at text t i m) ≡ ahead (plain (drop i t.kinds))
unfolding tokens_at token_at ahead plain
tokens-ahead text t zero i e = sym (ap (λ (n : ℕ). ahead (plain (drop n t.kinds))) (sym (add-zero i) ∙ e) ∙ ap (λ (l : List ℕ). ahead (plain l)) (drop-length t.kinds))
tokens-ahead text t (suc m) i e =
    counted (get_or t.kinds i 0) _ _ (ahead (tokens_at text t (suc i) m)) ∙ ap (count_kind (get_or t.kinds i 0)) (tokens-ahead text t m (suc i) (omega arith))
    ∙ sym (ap ahead (plain-cons t.kinds i (omega arith)) ∙ counted (get_or t.kinds i 0) [] 0 (ahead (plain (drop (i + 1) t.kinds))) ∙ ap (λ (n : ℕ). count_kind (get_or t.kinds i 0) (ahead (plain (drop n t.kinds)))) (add-one i))
