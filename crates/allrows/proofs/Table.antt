-- A walk that was written into the table stands there, and the others are as they were.
use mathlib.Core.Path.{◌≡◌, refl, ◌∙◌}
use mathlib.Core.Bool.{true, false, not}
use mathlib.Core.List.{List, [], ◌∷◌}
use Prim.Native.Nat.{ℕ, ◌+◌, ◌*◌, ◌/◌, ◌%◌, ◌≤◌, ◌<◌}
use native.Mathlib.Omega.{arith}
use lib.Dec.{eqb}
use lib.ListN.{length, get_or, set, length-set}
use lib.Seq.{get_or-set_same, get_or-set_other}
use borrow.Author.Tests.{eqb-false}
use Rattle.model.specs.Lists.{contains, any, unique, Every}
use Rattle.model.specs.Syntax.{Binding, variables}
use Rattle.model.proofs.Tests.{and-inv, or_no, not_yes}
use Rattle.model.proofs.Lists.{every_map}
use Rattle.walks.specs.declared.Walk.{Walk}
use Rattle.walks.specs.Walks.{walk_of}
use Rattle.allrows.specs.Filled.{written, whole_of, filled_by}

module _ (ws : List ℕ) (v : ℕ) (x : Walk) where
  -- the table after one number, two, three, four
  abbrev one : List ℕ
  one = set ws (8 * v) x.start

  abbrev two : List ℕ
  two = set one (8 * v + 1) x.count

  abbrev three : List ℕ
  three = set two (8 * v + 2) (x.base % 65536)

  abbrev four : List ℕ
  four = set three (8 * v + 3) (x.base / 65536)

  pub written-length : length (written ws v x) ≡ length ws
  unfolding written
  written-length = length-set four (8 * v + 4) x.width ∙ length-set three (8 * v + 3) (x.base / 65536) ∙ length-set two (8 * v + 2) (x.base % 65536) ∙ length-set one (8 * v + 1) x.count ∙ length-set ws (8 * v) x.start

  -- elsewhere
  pub written-outside : (i : ℕ) → ((k : ℕ) → k ≤ 4 → i ≡ 8 * v + k → ⊥) → get_or (written ws v x) i 0 ≡ get_or ws i 0
  unfolding written
  written-outside i d =
      get_or-set_other four (8 * v + 4) i x.width 0 (d 4 (omega arith))
      ∙ get_or-set_other three (8 * v + 3) i (x.base / 65536) 0 (d 3 (omega arith))
      ∙ get_or-set_other two (8 * v + 2) i (x.base % 65536) 0 (d 2 (omega arith))
      ∙ get_or-set_other one (8 * v + 1) i x.count 0 (d 1 (omega arith))
      ∙ get_or-set_other ws (8 * v) i x.start 0 (λ e. d 0 (omega arith) (omega arith))

  pub written-other : (u : ℕ) → (u ≡ v → ⊥) → walk_of (written ws v x) u ≡ walk_of ws u
  written-other u n =
      let o : (j : ℕ) → j ≤ 4 → get_or (written ws v x) (8 * u + j) 0 ≡ get_or ws (8 * u + j) 0 = λ j l. written-outside (8 * u + j) (λ k m e. n (omega arith)) in
      let s : get_or (written ws v x) (8 * u) 0 ≡ get_or ws (8 * u) 0 = written-outside (8 * u) (λ k m e. n (omega arith)) in
      rw (s, o 1 (omega arith), o 2 (omega arith), o 3 (omega arith), o 4 (omega arith))

  pub written-here : 8 * v + 4 < length ws → walk_of (written ws v x) v ≡ x
  unfolding written
  written-here h =
      let l₁ = length-set ws (8 * v) x.start in
      let l₂ = length-set one (8 * v + 1) x.count in
      let l₃ = length-set two (8 * v + 2) (x.base % 65536) in
      let l₄ = length-set three (8 * v + 3) (x.base / 65536) in
      let e₄ : get_or (written ws v x) (8 * v + 4) 0 ≡ x.width = get_or-set_same four (8 * v + 4) x.width 0 (omega (arith, h, l₁, l₂, l₃, l₄)) in
      let e₃ : get_or (written ws v x) (8 * v + 3) 0 ≡ x.base / 65536 = get_or-set_other four (8 * v + 4) (8 * v + 3) x.width 0 (λ e. omega arith) ∙ get_or-set_same three (8 * v + 3) (x.base / 65536) 0 (omega (arith, h, l₁, l₂, l₃)) in
      let e₂ : get_or (written ws v x) (8 * v + 2) 0 ≡ x.base % 65536 = get_or-set_other four (8 * v + 4) (8 * v + 2) x.width 0 (λ e. omega arith) ∙ get_or-set_other three (8 * v + 3) (8 * v + 2) (x.base / 65536) 0 (λ e. omega arith) ∙ get_or-set_same two (8 * v + 2) (x.base % 65536) 0 (omega (arith, h, l₁, l₂)) in
      let e₁ : get_or (written ws v x) (8 * v + 1) 0 ≡ x.count = get_or-set_other four (8 * v + 4) (8 * v + 1) x.width 0 (λ e. omega arith) ∙ get_or-set_other three (8 * v + 3) (8 * v + 1) (x.base / 65536) 0 (λ e. omega arith) ∙ get_or-set_other two (8 * v + 2) (8 * v + 1) (x.base % 65536) 0 (λ e. omega arith) ∙ get_or-set_same one (8 * v + 1) x.count 0 (omega (arith, h, l₁)) in
      let e₀ : get_or (written ws v x) (8 * v) 0 ≡ x.start = get_or-set_other four (8 * v + 4) (8 * v) x.width 0 (λ e. omega arith) ∙ get_or-set_other three (8 * v + 3) (8 * v) (x.base / 65536) 0 (λ e. omega arith) ∙ get_or-set_other two (8 * v + 2) (8 * v) (x.base % 65536) 0 (λ e. omega arith) ∙ get_or-set_other one (8 * v + 1) (8 * v) x.count 0 (λ e. omega arith) ∙ get_or-set_same ws (8 * v) x.start 0 (omega (arith, h)) in
      let b : x.base % 65536 + 65536 * (x.base / 65536) ≡ x.base = omega arith in
      rw (e₀, e₁, e₂, e₃, e₄, b)

-- a variable that is not bound again keeps its walk
kept-walk : (cb ws : List ℕ) (v : ℕ) (bs : List Binding) → contains v (variables bs) ≡ false → walk_of (filled_by cb bs ws) v ≡ walk_of ws v
unfolding filled_by contains any
kept-walk cb ws v [] h = refl
kept-walk cb ws v (b ∷ bs) h =
    let i = or_no (eqb v b.variable) (contains v (variables bs)) h in
    kept-walk cb (written ws b.variable (whole_of cb b.relation)) v bs i.1
    ∙ written-other ws b.variable (whole_of cb b.relation) v (eqb-false v b.variable i.0)

-- each bound variable has all rows of its relation
pub walks-of : (cb ws : List ℕ) (bs : List Binding) → unique (variables bs) ≡ true → Every (λ (b : Binding). 8 * b.variable + 4 < length ws) bs → Every (λ (b : Binding). walk_of (filled_by cb bs ws) b.variable ≡ whole_of cb b.relation) bs
unfolding filled_by unique Every
walks-of cb ws [] u f = tt
walks-of cb ws (b ∷ bs) u f =
    let v = b.variable in
    let x = whole_of cb b.relation in
    let i = and-inv (not (contains v (variables bs))) (unique (variables bs)) u in
    let g : Every (λ (b : Binding). 8 * b.variable + 4 < length (written ws v x)) bs = every_map (λ (b : Binding). 8 * b.variable + 4 < length ws) (λ (b : Binding). 8 * b.variable + 4 < length (written ws v x)) (λ y h. omega (arith, h, written-length ws v x)) bs f.1 in
    (kept-walk cb (written ws v x) v bs (not_yes (contains v (variables bs)) i.0) ∙ written-here ws v x f.0, walks-of cb (written ws v x) bs i.1 g)
