use Prim.Native.Nat.{ℕ, ◌+◌, ◌-◌, ◌≤◌, ◌<◌}
use mathlib.Core.List.{List, [], ◌∷◌, ◌++◌, append_assoc}
use mathlib.Core.Path.{◌≡◌, sym, ◌∙◌, ap}
use native.Mathlib.Omega.{arith}
use native.Mathlib.Numerals.{add-one}
use lib.ListN.{length, get_or, set, take, drop, length-drop}
use lib.Seq.{paste, take-paste, take-suc, take-set-lt, set_at, length-take-le}
use Rattle.std.proofs.lemmas.List.{drop-take}
use Rattle.quick.proofs.conditions.insert.Goals as goal

moved : (m x : List ℕ) (from to b : ℕ) → from ≤ to → to < length m → x ≡ paste m (from + 1) (drop from m) (to - from) → take (to + 1) (set x from b) ≡ take from m ++ (b ∷ drop from (take to m))
moved m x from to b l h e =
    take-set-lt (to + 1) x from b (omega arith)
    ∙ ap (λ (y : List ℕ). set y from b) (ap (take (to + 1)) e ∙ front ∙ seam)
    ∙ set_at (take from m) (get_or m from 0) (take (to - from) (drop from m)) b from (length-take-le from m (omega arith))
    ∙ ap (λ (y : List ℕ). take from m ++ (b ∷ y)) (sym part)
  where
    front : take (to + 1) (paste m (from + 1) (drop from m) (to - from)) ≡ take (from + 1) m ++ take (to - from) (drop from m)
    front =
        ap (λ (j : ℕ). take j (paste m (from + 1) (drop from m) (to - from))) (let z : to + 1 ≡ from + 1 + (to - from) = omega arith in z)
        ∙ take-paste m (from + 1) (drop from m) (to - from) (omega arith) (omega (arith, length-drop from m))

    seam : take (from + 1) m ++ take (to - from) (drop from m) ≡ take from m ++ (get_or m from 0 ∷ take (to - from) (drop from m))
    seam = ap (λ (y : List ℕ). y ++ take (to - from) (drop from m)) (ap (λ (j : ℕ). take j m) (add-one from) ∙ take-suc m from 0 (omega arith)) ∙ append_assoc (take from m) (get_or m from 0 ∷ []) (take (to - from) (drop from m))

    part : drop from (take to m) ≡ take (to - from) (drop from m)
    part = ap (λ (j : ℕ). drop from (take j m)) (let z : to ≡ from + (to - from) = omega arith in z) ∙ drop-take from (to - from) m

pub returns-clause-made_after : goal.returns-clause-made_after
returns-clause-made_after c = moved c.args.made.now c.copy_within.new.self c.args.from c.args.to c.args.b c.requires.0 (omega (arith, c.requires)) c.copy_within.ensures.after
