-- Numbers in digits, held up to a limit; two words of letters spell the same number only if they are the same.
use Prim.Native.Nat.{ℕ, ◌+◌, ◌*◌, ◌-◌, ◌≤◌, ◌<◌}
use mathlib.Core.Bool.{Bool, true, false, cond}
use mathlib.Core.List.{List, [], ◌∷◌, ◌++◌}
use mathlib.Core.Path.{◌≡◌, refl, sym, ◌∙◌, ap, ap₂}
use native.Mathlib.Nat.{le-mul_of_pos_right, mul_comm}
use native.Mathlib.Omega.{arith}
use lib.Dec.{leb}
use lib.ListN.{length, take, drop, take-append-drop, length-drop}
use borrow.Author.Tests.{leb-true, leb-false, le-leb}
use Rattle.model.specs.Lists.{all}
use Rattle.model.proofs.Tests.{and-inv, all_append}
use Rattle.quel.specs.Tokens.{is_letter, decimal}
use Rattle.tokens.specs.Spans.{positional, capped}
use Rattle.tokens.specs.Kinds.{code_of}
use Rattle.tokens.proofs.Places.{within-bounds}

abbrev limit : ℕ
limit = 288230376151711744

pub capped-top : (n : ℕ) → limit ≤ n → capped n ≡ limit
capped-top n h = go (leb n limit) refl
  where
    go : (x : Bool) → leb n limit ≡ x → cond x n limit ≡ limit
    go true e = omega (arith, leb-true n limit e)
    go false e = refl

pub capped-low : (n : ℕ) → n ≤ limit → capped n ≡ n
capped-low n h = rw (le-leb n limit h)

pub capped_le : (n : ℕ) → (capped n ≤ n) × (capped n ≤ limit)
capped_le n = go (leb n limit) refl
  where
    go : (x : Bool) → leb n limit ≡ x → (cond x n limit ≤ n) × (cond x n limit ≤ limit)
    go true e = (omega arith, leb-true n limit e)
    go false e = (omega (arith, leb-false n limit e), omega arith)

-- below the limit nothing is lost
pub capped-exact : (n v : ℕ) → capped n ≡ v → v < limit → n ≡ v
capped-exact n v e h = go (leb n limit) refl e
  where
    go : (x : Bool) → leb n limit ≡ x → cond x n limit ≡ v → n ≡ v
    go true f e = e
    go false f e = absurd (omega arith)

module _ (base low : ℕ) (h : 1 ≤ base) where
  reaches : (n : ℕ) (bs : List ℕ) → limit ≤ n → limit ≤ positional base low n bs
  unfolding positional
  reaches n [] g = g
  reaches n (b ∷ bs) g = reaches (base * n + (b - low)) bs (omega (arith, le-mul_of_pos_right n h, mul_comm n base))

  pub capped-first : (n : ℕ) (bs : List ℕ) → capped (positional base low (capped n) bs) ≡ capped (positional base low n bs)
  capped-first n bs = go (leb n limit) refl
    where
      go : (x : Bool) → leb n limit ≡ x → capped (positional base low (cond x n limit) bs) ≡ capped (positional base low n bs)
      go true e = refl
      go false e = capped-top (positional base low limit bs) (reaches limit bs (omega arith)) ∙ sym (capped-top (positional base low n bs) (reaches n bs (omega (arith, leb-false n limit e))))

  -- one digit more
  pub capped-digit : (n v b : ℕ) (bs : List ℕ) → v ≡ capped (base * n + (b - low)) → capped (positional base low v bs) ≡ capped (positional base low n (b ∷ bs))
  unfolding positional
  capped-digit n v b bs e = rw e (capped-first (base * n + (b - low)) bs)

pub decimals : (n : ℕ) (ds : List ℕ) → positional 10 48 n ds ≡ decimal n ds
unfolding positional decimal
decimals n [] = refl
decimals n (d ∷ ds) = decimals (10 * n + (d - 48)) ds

-- letters as digits
pub above : (n : ℕ) (w : List ℕ) → n ≤ positional 26 65 n w
unfolding positional
above n [] = omega arith
above n (b ∷ w) = omega (arith, above (26 * n + (b - 65)) w)

two-parts : (n : ℕ) (v w : List ℕ) → positional 26 65 n (v ++ w) ≡ positional 26 65 (positional 26 65 n v) w
unfolding positional
two-parts n [] w = refl
two-parts n (b ∷ v) w = two-parts (26 * n + (b - 65)) v w

equal-lengths : (n m : ℕ) (w v : List ℕ) → all is_letter w ≡ true → all is_letter v ≡ true → length w ≡ length v → positional 26 65 n w ≡ positional 26 65 m v → (n ≡ m) × (w ≡ v)
unfolding positional all
equal-lengths n m [] [] a b l e = (e, refl)
equal-lengths n m [] (c ∷ v) a b l e = absurd (omega arith)
equal-lengths n m (d ∷ w) [] a b l e = absurd (omega arith)
equal-lengths n m (d ∷ w) (c ∷ v) a b l e =
    let i = and-inv (is_letter d) (all is_letter w) a in
    let j = and-inv (is_letter c) (all is_letter v) b in
    let p = within-bounds 65 90 d i.0 in
    let q = within-bounds 65 90 c j.0 in
    let r = equal-lengths (26 * n + (d - 65)) (26 * m + (c - 65)) w v i.1 j.1 (omega arith) e in
    (omega (arith, p.0, p.1, q.0, q.1, r.0), ap₂ (λ (x : ℕ) (l : List ℕ). x ∷ l) (omega (arith, p.0, p.1, q.0, q.1, r.0)) r.1)

module _ (w v : List ℕ) (a : all is_letter w ≡ true) (b : all is_letter v ≡ true) (e : code_of w ≡ code_of v) where
  by_parts : (u t : List ℕ) → u ++ t ≡ v → length t ≡ length w → w ≡ v
  unfolding positional
  by_parts u t p l = go u refl
    where
      letters : (all is_letter u ≡ true) × (all is_letter t ≡ true)
      letters = all_append is_letter u t (rw p b)

      same : (1 ≡ positional 26 65 1 u) × (w ≡ t)
      same = equal-lengths 1 (positional 26 65 1 u) w t a letters.1 (sym l) (e ∙ (ap code_of (sym p) ∙ two-parts 1 u t))

      go : (x : List ℕ) → u ≡ x → w ≡ v
      go [] f = same.1 ∙ (ap (λ (l : List ℕ). l ++ t) (sym f) ∙ p)
      go (c ∷ x) f = absurd (omega (arith, above (26 * 1 + (c - 65)) x, same.0 ∙ ap (positional 26 65 1) f))

  longer : length w ≤ length v → w ≡ v
  longer l = let k = length v - length w in by_parts (take k v) (drop k v) (take-append-drop k v) (omega (arith, length-drop k v))

pub same_code : (w v : List ℕ) → all is_letter w ≡ true → all is_letter v ≡ true → code_of w ≡ code_of v → w ≡ v
same_code w v a b e = go (leb (length w) (length v)) refl
  where
    go : (x : Bool) → leb (length w) (length v) ≡ x → w ≡ v
    go true f = longer w v a b e (leb-true (length w) (length v) f)
    go false f = sym (longer v w b a (sym e) (omega (arith, leb-false (length w) (length v) f)))
