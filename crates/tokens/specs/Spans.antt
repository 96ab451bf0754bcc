-- A stretch of bytes of one class, and the number that it spells.
use Rattle.std.specs.Prelude.{ℕ, ◌+◌, ◌*◌, ◌-◌, Bool, cond, ◌&&◌, List, [], ◌∷◌, leb}

-- from low to high; `within 65 90` is `is_letter`, `within 48 57` is `is_digit`
abbrev pub within : ℕ → ℕ → ℕ → Bool
within low high b = leb low b && leb b high

-- digits are counted from low; after the value n
unfoldable pub positional : ℕ → ℕ → ℕ → List ℕ → ℕ
positional base low n [] = n
positional base low n (b ∷ bs) = positional base low (base * n + (b - low)) bs

-- at most 2^58: above the code of every word of up to twelve letters
abbrev pub capped : ℕ → ℕ
capped n = cond (leb n 288230376151711744) n 288230376151711744
