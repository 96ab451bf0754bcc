-- Numbers and lines as the program prints them (document 01, "Shelf examples"), in ASCII.
use Rattle.std.specs.Prelude.{ℕ, zero, suc, ◌+◌, ◌/◌, ◌%◌, cond, List, [], ◌∷◌, ◌++◌, eqb, ltb, ℤ, pos, negsuc, length, take, drop}

abbrev pub digit : ℕ → ℕ
digit n = 48 + n % 10

-- in decimal, with no zero in front; k: how many digits may stand before the last
unfoldable pub digits : ℕ → ℕ → List ℕ
digits zero n = digit n ∷ []
digits (suc k) n = cond (ltb n 10) (digit n ∷ []) (digits k (n / 10) ++ (digit n ∷ []))

-- a number of 64 bits has at most 20 digits
abbrev pub decimal : ℕ → List ℕ
decimal n = digits 19 n

abbrev pub below_zero : ℤ → ℕ
below_zero (pos n) = 0
below_zero (negsuc n) = suc n

abbrev pub above_zero : ℤ → ℕ
above_zero (pos n) = n
above_zero (negsuc n) = 0

unfoldable pub signed : ℤ → List ℕ
signed (pos n) = decimal n
signed (negsuc n) = 45 ∷ decimal (suc n)

-- what follows an item of a line: its end after the last, else one space
abbrev pub gap : ℕ → ℕ
gap left = cond (eqb left 0) 10 32

-- no line is empty, so one of no items is no line
unfoldable pub line : {A : Type 0} → (A → List ℕ) → List A → List ℕ
line f [] = []
line f (x ∷ xs) = f x ++ (gap (length xs) ∷ line f xs)

-- a line for each of n rows of w cells
unfoldable pub table : ℕ → ℕ → List ℤ → List ℕ
table zero w cells = []
table (suc n) w cells = line signed (take w cells) ++ table n w (drop w cells)

-- a word and a number on a line
abbrev pub labelled : List ℕ → ℕ → List ℕ
labelled word n = word ++ (decimal n ++ (10 ∷ []))
