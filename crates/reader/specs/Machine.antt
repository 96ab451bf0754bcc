-- The grammar as a machine with a stack: a mode says what may come next, and at each parenthesis that opens a condition, and at each function, the mode
-- to go on with after the ) is kept on the stack. Precedence does not matter here, so V and ^ are one sort.
use Rattle.std.specs.Prelude.{ℕ, ◌+◌, ◌%◌, ◌<◌, Option, Some, None, Bool, true, false, cond, ◌&&◌, ◌||◌, List, [], ◌∷◌, eqb, ltb, get_or}
use Rattle.quel.specs.Tokens.{Token, name, number, function, sign, key, key_code}
use Rattle.reader.specs.declared.syntax.Sort.{Sort}
use Rattle.reader.specs.declared.syntax.Sort.TheVariants as S
use Rattle.reader.specs.declared.syntax.Move.{Move}
use Rattle.reader.specs.declared.syntax.Move.TheVariants as M

-- a token's kind as in Table, with one number for all functions, one for all signs, and one for V and ^
abbrev pub key_sort : ℕ → ℕ
key_sort c = cond (eqb c 6) 18 (13 + c)

abbrev pub sort_of : Token → ℕ
sort_of (name w) = 0
sort_of (number n) = 1
sort_of (function f) = 2
sort_of (sign o) = 7
sort_of (key k) = key_sort (key_code k)

-- the number of the code's sort
abbrev pub sort_number : Sort → ℕ
sort_number S.Name = 0
sort_number S.Number = 1
sort_number S.Function = 2
sort_number S.Sign = 7
sort_number S.Range = 13
sort_number S.Retrieve = 14
sort_number S.Not = 15
sort_number S.Some = 16
sort_number S.In = 17
sort_number S.Join = 18
sort_number S.Left = 20
sort_number S.Right = 21
sort_number S.Comma = 22
sort_number S.Colon = 23
sort_number S.Semicolon = 24
sort_number S.Point = 25

-- the same of a kind, where every kind past 25 is a point
unfoldable pub sort : ℕ → ℕ
sort k = cond (ltb k 2) k (cond (ltb k 7) 2 (cond (ltb k 13) 7 (cond (eqb k 19) 18 (cond (ltb 25 k) 25 k))))

-- For each mode the sorts that may come, each with its move. A move below 32 is the next mode, 0 is none. 32 + m, at a function, keeps m and goes to
-- the aggregate (25); 64 + m, at (, keeps m and goes to a factor (13). 96 goes back to the mode kept last.
-- 0 name, 1 number, 2 function, 7 sign, 13 RANGE, 14 RETRIEVE, 15 NOT, 16 SOME, 17 IN, 18 V and ^, 20 (, 21 ), 22 comma, 23 :, 24 ;, 25 point
abbrev pub rules : List (List (ℕ × ℕ))
rules =
    []
    -- 1: RANGE, relation, (, symbol; then comma or )
    ∷ ((13, 2) ∷ [])
    ∷ ((0, 3) ∷ [])
    ∷ ((20, 4) ∷ [])
    ∷ ((0, 5) ∷ [])
    ∷ ((22, 4) ∷ (21, 6) ∷ [])
    -- 6: another range, or RETRIEVE, workspace, :
    ∷ ((23, 2) ∷ (14, 7) ∷ [])
    ∷ ((0, 8) ∷ [])
    ∷ ((23, 9) ∷ [])
    -- 9: a target: name, point, name, or an aggregate; 12: after it
    ∷ ((0, 10) ∷ (2, 44) ∷ [])
    ∷ ((25, 11) ∷ [])
    ∷ ((0, 12) ∷ [])
    ∷ ((22, 9) ∷ (23, 13) ∷ [])
    -- 13: a factor
    ∷ ((15, 13) ∷ (16, 14) ∷ (20, 88) ∷ (0, 18) ∷ (1, 20) ∷ (2, 52) ∷ [])
    -- 14: SOME's name, IN, name, (
    ∷ ((0, 15) ∷ [])
    ∷ ((17, 16) ∷ [])
    ∷ ((0, 17) ∷ [])
    ∷ ((20, 88) ∷ [])
    -- 18: after a name as left term: a point and a name, or the sign
    ∷ ((25, 19) ∷ (7, 21) ∷ [])
    ∷ ((0, 20) ∷ [])
    ∷ ((7, 21) ∷ [])
    -- 21: the right term; 22: after a name; 24: after a factor
    ∷ ((0, 22) ∷ (1, 24) ∷ (2, 56) ∷ [])
    ∷ ((25, 23) ∷ (18, 13) ∷ (21, 96) ∷ [])
    ∷ ((0, 24) ∷ [])
    ∷ ((18, 13) ∷ (21, 96) ∷ [])
    -- 25: an aggregate's (, name, point, name; then ) or ; and a condition
    ∷ ((20, 26) ∷ [])
    ∷ ((0, 27) ∷ [])
    ∷ ((25, 28) ∷ [])
    ∷ ((0, 29) ∷ [])
    ∷ ((21, 96) ∷ (24, 13) ∷ [])
    ∷ []

abbrev pub pick : List (ℕ × ℕ) → ℕ → ℕ
pick [] k = 0
pick (p ∷ ps) k = cond (eqb p.0 k) p.1 (pick ps k)

unfoldable pub move : ℕ → ℕ → ℕ
move m k = pick (get_or rules m []) k

-- the same of the code's move, and that it names modes
abbrev pub code_of : Option Move → ℕ
code_of None = 0
code_of (Some (M.To m)) = m
code_of (Some (M.Aggregate m)) = 32 + m
code_of (Some (M.Open m)) = 64 + m
code_of (Some M.Back) = 96

abbrev pub AreSmall : Option Move → Type 0
AreSmall None = Unit {0}
AreSmall (Some (M.To m)) = m < 32
AreSmall (Some (M.Aggregate m)) = m < 32
AreSmall (Some (M.Open m)) = m < 32
AreSmall (Some M.Back) = Unit {0}

-- the stack, the mode kept last first; below it there is none
abbrev pub top : List ℕ → ℕ
top [] = 0
top (m ∷ σ) = m

abbrev pub below : List ℕ → List ℕ
below [] = []
below (m ∷ σ) = σ

abbrev pub mode_after : ℕ → ℕ → ℕ
mode_after v t = cond (ltb v 32) v (cond (ltb v 64) 25 (cond (ltb v 96) 13 t))

abbrev pub stack_after : ℕ → List ℕ → List ℕ
stack_after v σ = cond (ltb v 32) σ (cond (ltb v 96) (v % 32 ∷ σ) (below σ))

-- a text may end after a target or a factor
abbrev pub may_end : ℕ → Bool
may_end m = eqb m 12 || (eqb m 22 || eqb m 24)

abbrev pub is_empty : List ℕ → Bool
is_empty [] = true
is_empty (m ∷ σ) = false

unfoldable pub accepts : List ℕ → ℕ → List Token → Bool
accepts σ m [] = may_end m && is_empty σ
accepts σ m (t ∷ ts) = accepts (stack_after (move m (sort_of t)) σ) (mode_after (move m (sort_of t)) (top σ)) ts
