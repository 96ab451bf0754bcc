-- Rows of the answer by the bucket of their cells, in one table: heads, then for each row the row before it in its bucket.
-- A link is 0, or one more than the number of a row. Any function of a row would do for its bucket.
use Rattle.std.specs.Prelude.{ℕ, ◌+◌, ◌-◌, ◌*◌, ◌/◌, ◌%◌, ◌≤◌, ◌<◌, min, ◌≡◌, cond, List, [], ◌∷◌, ltb, ℤ, length, get_or, take, drop}
use Rattle.std.specs.Int.Signed.{mag}

-- one cell more
abbrev pub mixed : ℕ → ℤ → ℕ
mixed h x = (h + mag x % 4294967296) * 1540483477 / 32768 % 4294967296

unfoldable pub hashed : ℕ → List ℤ → ℕ
hashed h [] = h
hashed h (x ∷ xs) = hashed (mixed h x) xs

-- how many heads a table of l numbers has, and how many rows it can link
abbrev pub heads_of : ℕ → ℕ
heads_of l = cond (ltb l 8192) 512 4096

abbrev pub nexts_of : ℕ → ℕ
nexts_of l = l - heads_of l

-- the bucket of a row
abbrev pub bucket_of : ℕ → List ℤ → ℕ
bucket_of l x = cond (ltb l 512) 0 (hashed 0 x / 1024 % heads_of l)

-- row j of the cells
abbrev pub row_at : ℕ → List ℤ → ℕ → List ℤ
row_at w cells j = take w (drop (j * w) cells)

abbrev pub bucket_at : ℕ → ℕ → List ℤ → ℕ → ℕ
bucket_at l w cells j = bucket_of l (row_at w cells j)

-- the row of the link has P, and no row from it on and below n has Q; a link of 0 has no row
pub record Last (P Q : ℕ → Type 0) (n link : ℕ) : Type 0 where
  pub low : link ≤ n
  pub here : (j : ℕ) → link ≡ j + 1 → P j
  pub above : (j : ℕ) → link ≤ j → j < n → Q j → ⊥

-- the link is to the last row below n for which P holds
abbrev pub LastOf : (ℕ → Type 0) → ℕ → ℕ → Type 0
LastOf P n link = Last P P n link

-- for each bucket its last row, and for each row the one before it in its bucket
pub record Chained (b : ℕ → ℕ) (heads n : ℕ) (table : List ℕ) : Type 0 where
  pub first : (h : ℕ) → h < heads → LastOf (λ (j : ℕ). b j ≡ h) n (get_or table h 0)
  pub next : (i : ℕ) → i < n → LastOf (λ (j : ℕ). b j ≡ b i) i (get_or table (heads + i) 0)

-- a table in which the first of n rows are linked, as many as it can link; no two of the n rows are equal, so the one that a chain finds is the first
pub record Linked (w n : ℕ) (cells : List ℤ) (table : List ℕ) : Type 0 where
  pub room : n * w ≤ length cells
  pub distinct : (i j : ℕ) → i < j → j < n → row_at w cells i ≡ row_at w cells j → ⊥
  pub short : length table ≤ 65535
  pub chained : Chained (bucket_at (length table) w cells) (heads_of (length table)) (min n (nexts_of (length table))) table
