-- Signs of the head by their bytes, and the numbers that are written behind the symbols.
use Prim.Native.Nat.{ℕ, ◌<◌}
use mathlib.Core.List.{List}
use mathlib.Core.Path.{◌≡◌, refl, ◌∙◌}
use native.Mathlib.Omega.{arith}
use Rattle.std.specs.Prelude.{Option, Some, None, IfSome}
use lib.ListN.{length, get_or, set, length-set}
use lib.Seq.{get_or-set_same, get_or-set_other}
use Rattle.quel.specs.Results.{ok}
use Rattle.quel.specs.Tokens.{key, left, right, comma, colon, sign_in, token}

pub left_is : (x : List ℕ) → token 40 x ≡ ok (key left) x
unfolding token sign_in
left_is x = refl

pub right_is : (x : List ℕ) → token 41 x ≡ ok (key right) x
unfolding token sign_in
right_is x = refl

pub comma-is : (x : List ℕ) → token 44 x ≡ ok (key comma) x
unfolding token sign_in
comma-is x = refl

pub colon-is : (x : List ℕ) → token 58 x ≡ ok (key colon) x
unfolding token sign_in
colon-is x = refl

-- how many there are, and the next number
module _ (S : List ℕ) (n : ℕ) where
  abbrev pub counted : List ℕ
  counted = set (set S 157 n) 156 n

  pub counted-long : length counted ≡ length S
  counted-long = length-set (set S 157 n) 156 n ∙ length-set S 157 n

  pub counted_same : (i : ℕ) → i < 156 → get_or counted i 0 ≡ get_or S i 0
  counted_same i l = get_or-set_other (set S 157 n) 156 i n 0 (λ z. omega (arith, z, l)) ∙ get_or-set_other S 157 i n 0 (λ z. omega (arith, z, l))

  pub counted_next : length S ≡ 160 → get_or counted 156 0 ≡ n
  counted_next e = get_or-set_same (set S 157 n) 156 n 0 (omega (arith, e, length-set S 157 n))

  pub counted-many : length S ≡ 160 → get_or counted 157 0 ≡ n
  counted-many e = get_or-set_other (set S 157 n) 156 157 n 0 (λ z. omega (arith, z)) ∙ get_or-set_same S 157 n 0 (omega (arith, e))

-- what follows from a place that was found
pub mapped : {P Q : ℕ → Type 0} (r : Option ℕ) → ((j : ℕ) → P j → Q j) → IfSome r P → IfSome r Q
mapped None f h = tt
mapped (Some j) f h = f j h
