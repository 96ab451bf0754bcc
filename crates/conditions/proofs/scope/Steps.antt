-- Bindings as the code tests them, and the table left as it was.
use mathlib.Core.Path.{◌≡◌, sym, ap, ap₂, ◌∙◌}
use mathlib.Core.Bool.{Bool, true, false, not, ◌&&◌}
use mathlib.Core.List.{List}
use Prim.Native.Nat.{ℕ, ◌<◌, ◌≤◌}
use lib.Dec.{ltb}
use lib.ListN.{length, get_or, set}
use lib.Seq.{set-set, set-get_or}
use borrow.Author.Tests.{lt-ltb, le-ltb, ltb-true, not-true, not-false}
use Rattle.model.specs.Catalogue.{Shape}
use Rattle.model.specs.Scope.{known_binding}
use Rattle.model.proofs.Tests.{and-inv}

-- a test that fails, and one that leaves the outcome to what follows
pub and-stop : (x t y : Bool) → x ≡ t → not x ≡ true → false ≡ (t && y)
and-stop x t y e h = sym (ap (λ (b : Bool). b && y) (sym e ∙ not-true x h))

pub and-go : (x t b y : Bool) → x ≡ t → not x ≡ false → b ≡ y → b ≡ (t && y)
and-go x t b y e h eb = eb ∙ sym (ap (λ (a : Bool). a && y) (sym e ∙ not-false x h))

-- binding numbers
module _ (sh : Shape) (limit v r : ℕ) where
  pub known_past : limit ≤ v → false ≡ known_binding sh limit (record { variable = v; relation = r })
  unfolding known_binding
  known_past h = sym (ap (λ (b : Bool). b && ltb r (length sh)) (le-ltb v limit h))

  pub known-rest : v < limit → (x : Bool) (n : ℕ) → x ≡ ltb r n → n ≡ length sh → x ≡ known_binding sh limit (record { variable = v; relation = r })
  unfolding known_binding
  known-rest h x n ex en = ex ∙ ap (ltb r) en ∙ sym (ap (λ (b : Bool). b && ltb r (length sh)) (lt-ltb v limit h))

  pub known-below : (x : Bool) → x ≡ known_binding sh limit (record { variable = v; relation = r }) → not x ≡ false → v < limit
  unfolding known_binding
  known-below x e h = ltb-true v limit (and-inv (ltb v limit) (ltb r (length sh)) (sym e ∙ not-false x h)).0

-- the old entry put back
pub put_back : (s t u : List ℕ) (v x y : ℕ) → t ≡ set s v x → y ≡ get_or s v 0 → u ≡ set t v y → u ≡ s
put_back s t u v x y et ey eu = eu ∙ ap₂ (λ (l : List ℕ) (i : ℕ). set l v i) et ey ∙ set-set s v x (get_or s v 0) ∙ set-get_or s v 0
