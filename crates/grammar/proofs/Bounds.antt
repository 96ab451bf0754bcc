-- What is read stays within the bytes, and takes at least one of them.
use Prim.Native.Nat.{ℕ, zero, suc, ◌+◌, ◌-◌, ◌≤◌}
use mathlib.Core.Bool.{Bool, true, false, cond}
use mathlib.Core.List.{List}
use mathlib.Core.Path.{◌≡◌, refl, sym, ◌∙◌, ap}
use native.Mathlib.Omega.{arith}
use lib.ListN.{length, get_or, drop, length-drop}
use Rattle.model.specs.Encoding.{Read, fail, ok, read_condition, read_term}
use Rattle.kinds.specs.Tables.{conditions_of, terms_of, record_length}
use Rattle.kinds.proofs.Entries.{length-small}
use Rattle.kinds.specs.Places.{condition_at, term_at, condition_of, is_condition, is_term}
use Rattle.grammar.specs.Sizes.{size_read, condition_size, term_size, after, followed, many, head_size}
use Rattle.grammar.proofs.Steps.{term-step}
use Rattle.grammar.proofs.Pending.{whole}
use Rattle.std.specs.Prelude.{Option, Some, None}

abbrev pub Within : (List ℕ → Option ℕ) → Type 0
Within f = (q : List ℕ) (n : ℕ) → f q ≡ Some n → n ≤ length q

abbrev pub Takes : (List ℕ → Option ℕ) → Type 0
Takes f = (q : List ℕ) (n : ℕ) → f q ≡ Some n → (1 ≤ n) × (n ≤ length q)

read-within : {A : Type 0} (q : List ℕ) (n : ℕ) (x : Read A) → size_read q x ≡ Some n → n ≤ length q
read-within q n fail h = absurd (let z : ◌≡◌ {A = ℕ} 0 1 = cc in omega arith)
read-within q n (ok a r) h = let e : length q - length r ≡ n = cc in omega arith

pub condition-within : Within condition_size
unfolding condition_size
condition-within q n h = read-within q n (read_condition (suc (length q)) q) h

pub term-within : Within term_size
unfolding term_size
term-within q n h = read-within q n (read_term (suc (length q)) q) h

after-inv : {X : Type 0} (a n : ℕ) (x : Option ℕ) → after a x ≡ Some n → ((m : ℕ) → x ≡ Some m → n ≡ a + m → X) → X
after-inv a n (Some m) h k = let e : n ≡ a + m = cc in k m refl e
after-inv a n None h k = absurd (let z : ◌≡◌ {A = ℕ} 0 1 = cc in omega arith)

cond-inv : {X : Type 0} (b : Bool) (x : Option ℕ) (n : ℕ) → cond b x None ≡ Some n → (b ≡ true → x ≡ Some n → X) → X
cond-inv true x n h k = k refl h
cond-inv false x n h k = absurd (let z : ◌≡◌ {A = ℕ} 0 1 = cc in omega arith)

pub many-within : (f : List ℕ → Option ℕ) → Within f → (c : ℕ) → Within (λ q. many f c q)
unfolding many
many-within f w zero q n h = let e : 0 ≡ n = cc in omega arith
many-within f w (suc c) q n h = go (f q) refl h (λ x m e. many-within f w c x m e)
  where
    go : (x : Option ℕ) → f q ≡ x → followed x (λ m. many f c (drop m q)) ≡ Some n → ((x : List ℕ) (m : ℕ) → many f c x ≡ Some m → m ≤ length x) → n ≤ length q
    go (Some m) e h k = after-inv m n (many f c (drop m q)) h λ i ei l. omega (arith, w q m e, k (drop m q) i ei, length-drop m q)
    go None e h k = absurd (let z : ◌≡◌ {A = ℕ} 0 1 = cc in omega arith)

pub head-takes : Takes head_size
unfolding head_size
head-takes q n h =
    cond-inv (is_condition (condition_at q)) _ n h λ t e.
    after-inv (record_length (get_or q 0 0)) n _ e λ m em l.
    let a = many-within term_size term-within (terms_of (get_or q 0 0)) (drop (record_length (get_or q 0 0)) q) m em in
    let b = whole (λ x. is_condition (condition_of x)) refl refl q t in
    let c = length-small (get_or q 0 0) in
    let d = length-drop (record_length (get_or q 0 0)) q in
    (omega arith, omega arith)

pub term-takes : Takes term_size
term-takes q n h =
    cond-inv (is_term (term_at q)) (after (record_length (get_or q 0 0)) (many condition_size (conditions_of (get_or q 0 0)) (drop (record_length (get_or q 0 0)) q))) n (sym (term-step q) ∙ h) λ t e.
    after-inv (record_length (get_or q 0 0)) n (many condition_size (conditions_of (get_or q 0 0)) (drop (record_length (get_or q 0 0)) q)) e λ m em l.
    let c = length-small (get_or q 0 0) in
    let d = term-within q n h in
    (omega arith, d)

-- the same of a part that the code has read
module _ (f : List ℕ → Option ℕ) (q x : List ℕ) (at n : ℕ) (s : Option ℕ) (ex : x ≡ drop at q) (e : s ≡ f x) (es : s ≡ Some n) where
  pub part-within : Within f → n ≤ length q - at
  part-within w = omega (arith, w x n (sym e ∙ es), ap length ex, length-drop at q)

  pub part-takes : Takes f → (1 ≤ n) × (n ≤ length q - at)
  part-takes w = let t = w x n (sym e ∙ es) in let l = ap length ex ∙ length-drop at q in (omega arith, omega arith)
