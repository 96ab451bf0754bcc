-- The kind of a token, and kinds found by what is written: of a reserved word by the number it spells, of a sign by its byte.
use Rattle.std.specs.Prelude.{ℕ, zero, suc, ◌+◌, Option, Some, None, Bool, cond, not, ◌&&◌, List, [], ◌∷◌, eqb, leb, length, drop}
use Rattle.model.specs.Lists.{all}
use Rattle.quel.specs.Results.{Word}
use Rattle.quel.specs.Tokens.{Function, COUNT, SUM, AVE, MAX, MIN, Sign, equal, unequal, less, at_most, more, at_least, Token, name, number, function, sign, key, key_code, is_letter, run, is_reserved}
use Rattle.tokens.specs.Spans.{positional}
use Rattle.tokens.specs.declared.Kind.{Kind}
use Rattle.tokens.specs.declared.Kind.TheVariants as K

-- the number of a kind
abbrev pub number_of : Kind → ℕ
number_of K.Name = 0
number_of K.Number = 1
number_of K.Count = 2
number_of K.Sum = 3
number_of K.Ave = 4
number_of K.Max = 5
number_of K.Min = 6
number_of K.Equal = 7
number_of K.Unequal = 8
number_of K.Less = 9
number_of K.AtMost = 10
number_of K.More = 11
number_of K.AtLeast = 12
number_of K.Range = 13
number_of K.Retrieve = 14
number_of K.Not = 15
number_of K.Some = 16
number_of K.In = 17
number_of K.Or = 18
number_of K.And = 19
number_of K.Left = 20
number_of K.Right = 21
number_of K.Comma = 22
number_of K.Colon = 23
number_of K.Semicolon = 24
number_of K.Point = 25

abbrev pub function_code : Function → ℕ
function_code COUNT = 0
function_code SUM = 1
function_code AVE = 2
function_code MAX = 3
function_code MIN = 4

abbrev pub sign_code : Sign → ℕ
sign_code equal = 0
sign_code unequal = 1
sign_code less = 2
sign_code at_most = 3
sign_code more = 4
sign_code at_least = 5

-- as in Table: 0 a name, 1 a number, functions from 2, signs from 7, keys from 13
abbrev pub kind_of : Token → ℕ
kind_of (name w) = 0
kind_of (number n) = 1
kind_of (function f) = 2 + function_code f
kind_of (sign o) = 7 + sign_code o
kind_of (key k) = 13 + key_code k

-- 26 letters are the digits of a word; the 1 before them keeps AVE and VE apart
abbrev pub code_of : Word → ℕ
code_of w = positional 26 65 1 w

unfoldable pub kind_spelled : List (Word × Token) → ℕ → ℕ
kind_spelled [] v = 0
kind_spelled (p ∷ ps) v = cond (eqb (code_of p.0) v) (kind_of p.1) (kind_spelled ps v)

unfoldable pub sign_kind : List (ℕ × Token) → ℕ → ℕ
sign_kind [] b = 0
sign_kind (p ∷ ps) b = cond (eqb p.0 b) (kind_of p.1) (sign_kind ps b)

-- a number that is not 0
abbrev pub nonzero : ℕ → Option ℕ
nonzero zero = None
nonzero (suc k) = Some (suc k)

-- the letters in front are a name, with nothing but spaces after them
unfoldable pub is_name : List ℕ → Bool
is_name x = let w = run is_letter x in leb 1 (length w) && (all (λ b. eqb b 32) (drop (length w) x) && not (is_reserved w))
