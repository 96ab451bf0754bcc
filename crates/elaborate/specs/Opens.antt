-- The bytes before a token's record: V's, ^'s and a comparison's sign.
use Rattle.std.specs.Prelude.{ℕ, cond, ◌&&◌, List, [], ◌∷◌, ◌++◌, eqb, leb}
use Rattle.quel.specs.Writing.{often}

-- in mode m before a token of kind k, with so many V's and ^'s ahead and the operator s
abbrev pub open_bytes : ℕ → ℕ → ℕ → ℕ → ℕ → List ℕ
open_bytes m k o a s = often (cond (eqb m 0) o 0) 20 [] ++ (often (cond (leb m 1) a 0) 19 [] ++ cond (leb m 2 && leb k 6) (21 ∷ s ∷ []) [])
