-- A few numbers as text.
use mathlib.Core.Path.{◌≡◌, refl}
use mathlib.Core.List.{[], ◌∷◌}
use lib.IntN.{pos, negsuc}
use Rattle.program.specs.Text as T

zero-text : T.decimal 0 ≡ 48 ∷ []
unfolding T.digits
zero-text = refl

-- 12500
average-text : T.signed (pos 12500) ≡ 49 ∷ 50 ∷ 53 ∷ 48 ∷ 48 ∷ []
unfolding T.digits T.signed
average-text = refl

-- -10
negative-text : T.signed (negsuc 9) ≡ 45 ∷ 49 ∷ 48 ∷ []
unfolding T.digits T.signed
negative-text = refl

-- 18446744073709551615, the largest number of 64 bits, has all its 20 digits
largest-text : T.decimal 18446744073709551615 ≡ 49 ∷ 56 ∷ 52 ∷ 52 ∷ 54 ∷ 55 ∷ 52 ∷ 52 ∷ 48 ∷ 55 ∷ 51 ∷ 55 ∷ 48 ∷ 57 ∷ 53 ∷ 53 ∷ 49 ∷ 54 ∷ 49 ∷ 53 ∷ []
unfolding T.digits
largest-text = refl
