-- Where the branches of a table lead.
use Prim.Native.Nat.{ℕ, zero, suc, ◌+◌, ◌*◌, ◌≤◌, ◌<◌}
use mathlib.Core.Bool.{Bool, true, false, cond}
use mathlib.Core.List.{List}
use mathlib.Core.Path.{◌≡◌, refl, sym, ap, ap₂, ◌∙◌, fun_ext}
use native.Mathlib.Omega.{arith}
use lib.Dec.{eqb, ltb}
use lib.IntN.{ℤ}
use lib.ListN.{get_or, drop}
use borrow.Author.Tests.{lt-ltb, le-ltb, ltb-true}
use Rattle.model.specs.Lists.{update, any}
use Rattle.model.specs.Meaning.{Tuple, Assignment, compare, signed}
use Rattle.walks.specs.Walks.{walked, rows_by}
use Rattle.sizes.specs.Decode.{decode}
use Rattle.numbers.specs.Recalled.{holds_by}
use Rattle.branches.specs.Branches.{field, number, operand, holds_in, next_in, branch_holds, next, leads, runs}
use Rattle.branches.specs.Compiled.{Kept}

below : (i j : ℕ) (x y : Bool) → (j < i → x ≡ y) → cond (ltb j i) x false ≡ cond (ltb j i) y false
below i j x y h = go (ltb j i) refl
  where
    go : (b : Bool) → ltb j i ≡ b → cond b x false ≡ cond b y false
    go true p = h (ltb-true j i p)
    go false p = refl

module _ (t q z ws : List ℕ) (vs m : List ℤ) where
  -- only what is said of earlier branches matters
  pub holds_same : (f g : ℕ → Assignment → Bool) (i : ℕ) (e : Assignment) → ((j : ℕ) → j < i → (u : Assignment) → f j u ≡ g j u) → holds_in t q z ws vs m f i e ≡ holds_in t q z ws vs m g i e
  unfolding holds_in
  holds_same f g i e h =
      ap (λ (y : Bool). cond (eqb (field t i 0) 0) (holds_by m (decode (field t i 2) (drop (field t i 1) q) (drop (field t i 1) z)) (rows_by ws vs) e) (cond (eqb (field t i 0) 256) y
      (compare (field t i 0) (operand m (field t i 1) (field t i 2) (number t (2 * i)) e) (operand m (field t i 3) (field t i 4) (number t (2 * i + 1)) e))))
      (below i (field t i 2) _ _ (λ l. ap (λ (p : Tuple → Bool). cond (ltb (field t i 1) 256) (any p (walked ws vs (field t i 1))) false) (fun_ext λ x. h (field t i 2) l (update e (field t i 1) x))))

  next-same : (f g : ℕ → Assignment → Bool) (i : ℕ) (e : Assignment) → ((j : ℕ) → j < i → (u : Assignment) → f j u ≡ g j u) → next_in t q z ws vs m f i e ≡ next_in t q z ws vs m g i e
  next-same f g i e h = ap (λ b. cond b (field t i 5) (field t i 6)) (holds_same f g i e h)

  -- steps to spare change nothing
  leads-same : (n k i : ℕ) (e : Assignment) → i < n → i < k → leads t q z ws vs m n i e ≡ leads t q z ws vs m k i e
  unfolding leads
  leads-same zero k i e h g = absurd (omega arith)
  leads-same (suc n) zero i e h g = absurd (omega arith)
  leads-same (suc n) (suc k) i e h g =
      ap (λ (j : ℕ). cond (ltb i 2) (eqb i 0) (cond (ltb j i) (leads t q z ws vs m n j e) false)) (next-same (λ j u. leads t q z ws vs m n j u) (λ j u. leads t q z ws vs m k j u) i e (λ j l u. leads-same n k j u (omega arith) (omega arith)))
      ∙ choice' (below i (next_in t q z ws vs m (λ j u. leads t q z ws vs m k j u) i e) _ _ (λ l. leads-same n k (next_in t q z ws vs m (λ j u. leads t q z ws vs m k j u) i e) e (omega arith) (omega arith)))
    where
      choice' : {x y : Bool} → x ≡ y → cond (ltb i 2) (eqb i 0) x ≡ cond (ltb i 2) (eqb i 0) y
      choice' p = ap (λ z. cond (ltb i 2) (eqb i 0) z) p

  -- as many steps as a branch needs
  next-runs : (i : ℕ) (e : Assignment) → next_in t q z ws vs m (λ j u. leads t q z ws vs m i j u) i e ≡ next t q z ws vs m i e
  unfolding branch_holds runs
  next-runs i e = next-same (λ j u. leads t q z ws vs m i j u) (λ j u. leads t q z ws vs m (suc j) j u) i e (λ j l u. leads-same i (suc j) j u l (omega arith))

  -- the two ends
  pub runs-0 : (e : Assignment) → runs t q z ws vs m 0 e ≡ true
  unfolding runs leads
  runs-0 e = refl

  pub runs-1 : (e : Assignment) → runs t q z ws vs m 1 e ≡ false
  unfolding runs leads
  runs-1 e = refl

  -- a branch leads to an earlier one, or fails
  pub runs-step : (i : ℕ) (e : Assignment) → 2 ≤ i → next t q z ws vs m i e < i → runs t q z ws vs m i e ≡ runs t q z ws vs m (next t q z ws vs m i e) e
  unfolding runs leads
  runs-step i e h g = rw (le-ltb i 2 h, next-runs i e, lt-ltb (next t q z ws vs m i e) i g) (leads-same i (suc (next t q z ws vs m i e)) (next t q z ws vs m i e) e g (omega arith))

  pub runs-stuck : (i : ℕ) (e : Assignment) → 2 ≤ i → i ≤ next t q z ws vs m i e → runs t q z ws vs m i e ≡ false
  unfolding runs leads
  runs-stuck i e h g = rw (le-ltb i 2 h, next-runs i e, le-ltb (next t q z ws vs m i e) i g)

-- branches that were kept
module _ (k : ℕ) (t t' q z ws : List ℕ) (vs m : List ℤ) (h : Kept k t t') where
  field-kept : (i j : ℕ) → i < k → j < 8 → field t' i j ≡ field t i j
  field-kept i j a b = h.fields (8 * i + j) (omega arith)

  number-kept : (j : ℕ) → j < 2 * k → number t' j ≡ number t j
  number-kept j a =
      let i : 513 + 2 * j ≡ 512 + (2 * j + 1) = omega arith in
      ap₂ (λ (x y : ℕ). signed x 0 y 0) (h.numbers (2 * j) (omega arith)) (ap (λ (n : ℕ). get_or t' n 0) i ∙ h.numbers (2 * j + 1) (omega arith) ∙ ap (λ (n : ℕ). get_or t n 0) (sym i))

  in_kept : (f g : ℕ → Assignment → Bool) (i : ℕ) (e : Assignment) → i < k → ((j : ℕ) → j < i → (u : Assignment) → f j u ≡ g j u) → holds_in t' q z ws vs m f i e ≡ holds_in t q z ws vs m g i e
  unfolding holds_in
  in_kept f g i e a r = rw (field-kept i 0 a (omega arith), field-kept i 1 a (omega arith), field-kept i 2 a (omega arith), field-kept i 3 a (omega arith), field-kept i 4 a (omega arith), number-kept (2 * i) (omega arith), number-kept (2 * i + 1) (omega arith)) (holds_same t q z ws vs m f g i e r)

  next-kept : (f g : ℕ → Assignment → Bool) (i : ℕ) (e : Assignment) → i < k → ((j : ℕ) → j < i → (u : Assignment) → f j u ≡ g j u) → next_in t' q z ws vs m f i e ≡ next_in t q z ws vs m g i e
  next-kept f g i e a r = rw (in_kept f g i e a r, field-kept i 5 a (omega arith), field-kept i 6 a (omega arith))

  leads-kept : (n i : ℕ) (e : Assignment) → i < k → leads t' q z ws vs m n i e ≡ leads t q z ws vs m n i e
  unfolding leads
  leads-kept zero i e a = refl
  leads-kept (suc n) i e a =
      ap (λ (j : ℕ). cond (ltb i 2) (eqb i 0) (cond (ltb j i) (leads t' q z ws vs m n j e) false))
      (next-kept (λ j u. leads t' q z ws vs m n j u) (λ j u. leads t q z ws vs m n j u) i e a (λ j l u. leads-kept n j u (omega arith)))
      ∙ ap (λ b. cond (ltb i 2) (eqb i 0) b) (below i (next_in t q z ws vs m (λ j u. leads t q z ws vs m n j u) i e) _ _ (λ l. leads-kept n (next_in t q z ws vs m (λ j u. leads t q z ws vs m n j u) i e) e (omega arith)))

  pub runs-kept : (i : ℕ) (e : Assignment) → i < k → runs t' q z ws vs m i e ≡ runs t q z ws vs m i e
  unfolding runs
  runs-kept i e a = leads-kept (suc i) i e a

pub kept-both : (k n : ℕ) (t t' t'' : List ℕ) → k ≤ n → Kept k t t' → Kept n t' t'' → Kept k t t''
kept-both k n t t' t'' h a b =
    record {
      fields = λ i c. b.fields i (omega arith) ∙ a.fields i c;
      numbers = λ i c. b.numbers i (omega arith) ∙ a.numbers i c;
    }
