-- A slot of the table of symbols, written whole.
use Prim.Native.Nat.{ℕ, ◌+◌, ◌*◌, ◌≤◌, ◌<◌}
use mathlib.Core.List.{List}
use mathlib.Core.Path.{◌≡◌, sym, ◌∙◌}
use native.Mathlib.Omega.{arith}
use lib.ListN.{length, get_or, set, length-set}
use lib.Seq.{get_or-set_same, get_or-set_other}
use Rattle.std.specs.Prelude.{Option, Some, None, Bool, false, is_some, MatchOption}
use Rattle.model.proofs.Tests.{clash}
use Rattle.parts.specs.Table.{Slotted, Finds}

module _ (S : List ℕ) (k v q n l : ℕ) (long : length S ≡ 160) (low : k < 30) where
  abbrev one : List ℕ
  one = set S (4 * k) v

  abbrev two : List ℕ
  two = set one (4 * k + 1) q

  abbrev three : List ℕ
  three = set two (4 * k + 2) n

  abbrev pub bound : List ℕ
  bound = set three (4 * k + 3) l

  pub one-long : length one ≡ 160
  one-long = length-set S (4 * k) v ∙ long

  pub two-long : length two ≡ 160
  two-long = length-set one (4 * k + 1) q ∙ one-long

  pub three-long : length three ≡ 160
  three-long = length-set two (4 * k + 2) n ∙ two-long

  -- any other word
  pub bound-other : (i : ℕ) → (i ≡ 4 * k → ⊥) → (i ≡ 4 * k + 1 → ⊥) → (i ≡ 4 * k + 2 → ⊥) → (i ≡ 4 * k + 3 → ⊥) → get_or bound i 0 ≡ get_or S i 0
  bound-other i a b c d = get_or-set_other three (4 * k + 3) i l 0 d ∙ get_or-set_other two (4 * k + 2) i n 0 c ∙ get_or-set_other one (4 * k + 1) i q 0 b ∙ get_or-set_other S (4 * k) i v 0 a

  pub bound-slot : Slotted S bound k v q n l
  bound-slot = record {
    long = length-set three (4 * k + 3) l ∙ three-long ∙ sym long;
    code = get_or-set_other three (4 * k + 3) (4 * k) l 0 (λ z. omega (arith, z)) ∙ get_or-set_other two (4 * k + 2) (4 * k) n 0 (λ z. omega (arith, z)) ∙ get_or-set_other one (4 * k + 1) (4 * k) q 0 (λ z. omega (arith, z)) ∙ get_or-set_same S (4 * k) v 0 (omega (arith, long));
    relation = get_or-set_other three (4 * k + 3) (4 * k + 1) l 0 (λ z. omega (arith, z)) ∙ get_or-set_other two (4 * k + 2) (4 * k + 1) n 0 (λ z. omega (arith, z)) ∙ get_or-set_same one (4 * k + 1) q 0 (omega (arith, one-long));
    number = get_or-set_other three (4 * k + 3) (4 * k + 2) l 0 (λ z. omega (arith, z)) ∙ get_or-set_same two (4 * k + 2) n 0 (omega (arith, two-long));
    level = get_or-set_same three (4 * k + 3) l 0 (omega (arith, three-long));
    below = λ i h. bound-other i (λ z. omega (arith, z)) (λ z. omega (arith, z)) (λ z. omega (arith, z)) (λ z. omega (arith, z));
    above = λ i h _. bound-other i (λ z. omega (arith, z)) (λ z. omega (arith, z)) (λ z. omega (arith, z)) (λ z. omega (arith, z));
  }

  pub bound-rest : (j : ℕ) → 155 ≤ j → get_or bound j 0 ≡ get_or S j 0
  bound-rest j h = bound-other j (λ z. omega (arith, z)) (λ z. omega (arith, z)) (λ z. omega (arith, z)) (λ z. omega (arith, z))

-- no symbol has the code
pub none-found : (S : List ℕ) (v : ℕ) (r : Option ℕ) (b : Bool) → b ≡ is_some r → b ≡ false → MatchOption r (Finds S v 30) (λ i. (i < 30) × Finds S v i) → Finds S v 30
none-found S v None b e z h = h
none-found S v (Some i) b e z h = clash (sym z ∙ e)
