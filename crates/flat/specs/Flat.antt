-- What a text means, as loops over its tokens (document 02, Change 1; open points 16 to 18): no tree is made.
use Rattle.std.specs.Prelude.{ℕ, zero, suc, Bool, true, false, cond, ◌&&◌, List, [], ◌∷◌, drop}
use Rattle.std.proofs.Math.Option.{Option, none, some}
use Rattle.model.specs.Encoding.{encode_ranges, encode_query}
use Rattle.model.specs.Syntax.{Query}
use Rattle.quel.specs.Results.{Read, fail, ok, then, need, found, Word, has_word, unique_words}
use Rattle.quel.specs.Tokens.{RANGE, RETRIEVE, NOT, SOME, IN, or, and, left, right, comma, colon, semicolon, point, Token, name, number, function, sign, key}
use Rattle.quel.specs.Reader.{starts}
use Rattle.quel.specs.Ahead.{word_at, at_rest}
use Rattle.quel.specs.Names.{Entry, relation_named}
use Rattle.quel.specs.Elaboration.{Symbol, as_byte, ranges_of}
use Rattle.quel.specs.Writing.{Written, before, loop}

-- how deep a place lies in aggregates: 0 outside, 1 between a function and its (, then one more for each open (
abbrev pub outside : ℕ → Bool
outside zero = true
outside (suc d) = false

abbrev pub enter : ℕ → ℕ
enter zero = 1
enter (suc d) = suc d

abbrev pub deeper : ℕ → ℕ
deeper zero = 0
deeper (suc d) = suc (suc d)

abbrev pub shallower : ℕ → ℕ
shallower zero = 0
shallower (suc zero) = 0
shallower (suc (suc zero)) = 0
shallower (suc (suc (suc d))) = suc (suc d)

-- the symbols that some X.A outside all aggregates uses
unfoldable pub uses : ℕ → List Token → List Word
uses d [] = []
uses d (name x ∷ s) = cond (outside d && starts point s) (x ∷ uses d s) (uses d s)
uses d (number n ∷ s) = uses d s
uses d (function f ∷ s) = uses (enter d) s
uses d (sign o ∷ s) = uses d s
uses d (key RANGE ∷ s) = uses d s
uses d (key RETRIEVE ∷ s) = uses d s
uses d (key NOT ∷ s) = uses d s
uses d (key SOME ∷ s) = uses d s
uses d (key IN ∷ s) = uses d s
uses d (key or ∷ s) = uses d s
uses d (key and ∷ s) = uses d s
uses d (key left ∷ s) = uses (deeper d) s
uses d (key right ∷ s) = uses (shallower d) s
uses d (key comma ∷ s) = uses d s
uses d (key colon ∷ s) = uses d s
uses d (key semicolon ∷ s) = uses d s
uses d (key point ∷ s) = uses d s

-- where a symbol may be bound: 0 between the RANGE relations, 1 in their parentheses, 2 after RETRIEVE
abbrev pub opened : ℕ → ℕ
opened zero = 1
opened (suc p) = suc p

abbrev pub closed : ℕ → ℕ
closed zero = 0
closed (suc zero) = 0
closed (suc (suc p)) = suc (suc p)

abbrev pub binding : ℕ → Bool
binding zero = false
binding (suc zero) = true
binding (suc (suc p)) = false

-- the symbols that the RANGE list and the SOMEs bind
unfoldable pub binders : ℕ → List Token → List Word
binders p [] = []
binders p (name x ∷ s) = cond (binding p) (x ∷ binders p s) (binders p s)
binders p (number n ∷ s) = binders p s
binders p (function f ∷ s) = binders p s
binders p (sign o ∷ s) = binders p s
binders p (key RANGE ∷ s) = binders p s
binders p (key RETRIEVE ∷ s) = binders 2 s
binders p (key NOT ∷ s) = binders p s
binders p (key SOME ∷ s) = word_at 0 s ∷ binders p s
binders p (key IN ∷ s) = binders p s
binders p (key or ∷ s) = binders p s
binders p (key and ∷ s) = binders p s
binders p (key left ∷ s) = binders (opened p) s
binders p (key right ∷ s) = binders (closed p) s
binders p (key comma ∷ s) = binders p s
binders p (key colon ∷ s) = binders p s
binders p (key semicolon ∷ s) = binders p s
binders p (key point ∷ s) = binders p s

-- what follows RETRIEVE, the workspace's name and a colon
unfoldable pub main_of : List Token → List Token
main_of [] = []
main_of (name x ∷ s) = main_of s
main_of (number n ∷ s) = main_of s
main_of (function f ∷ s) = main_of s
main_of (sign o ∷ s) = main_of s
main_of (key RANGE ∷ s) = main_of s
main_of (key RETRIEVE ∷ s) = drop 2 s
main_of (key NOT ∷ s) = main_of s
main_of (key SOME ∷ s) = main_of s
main_of (key IN ∷ s) = main_of s
main_of (key or ∷ s) = main_of s
main_of (key and ∷ s) = main_of s
main_of (key left ∷ s) = main_of s
main_of (key right ∷ s) = main_of s
main_of (key comma ∷ s) = main_of s
main_of (key colon ∷ s) = main_of s
main_of (key semicolon ∷ s) = main_of s
main_of (key point ∷ s) = main_of s

-- an empty word for each colon
unfoldable pub colons : List Token → List Word
colons [] = []
colons (name x ∷ s) = colons s
colons (number n ∷ s) = colons s
colons (function f ∷ s) = colons s
colons (sign o ∷ s) = colons s
colons (key RANGE ∷ s) = colons s
colons (key RETRIEVE ∷ s) = colons s
colons (key NOT ∷ s) = colons s
colons (key SOME ∷ s) = colons s
colons (key IN ∷ s) = colons s
colons (key or ∷ s) = colons s
colons (key and ∷ s) = colons s
colons (key left ∷ s) = colons s
colons (key right ∷ s) = colons s
colons (key comma ∷ s) = colons s
colons (key colon ∷ s) = [] ∷ colons s
colons (key semicolon ∷ s) = colons s
colons (key point ∷ s) = colons s

-- a question with no colon there has no qualification: its condition is the record TRUE
abbrev pub last_by : List Word → List ℕ
last_by [] = 16 ∷ []
last_by (w ∷ ws) = []

abbrev pub last_of : List Token → List ℕ
last_of s = last_by (colons s)

module _ (es : List Entry) where
  -- a symbol of the RANGE list, and the rest from the next number on: one that is not used takes no number
  abbrev pub symbol_of : Bool → Word → ℕ → ℕ → (ℕ → Read ℕ (List Symbol)) → Read ℕ (List Symbol)
  symbol_of true x q n k = then (k (suc n)) λ ss m. ok (record { word = x; relation = q; variable = some (as_byte n) } ∷ ss) m
  symbol_of false x q n k = then (k n) λ ss m. ok (record { word = x; relation = q; variable = none } ∷ ss) m

  abbrev pub range_name : Option ℕ → List Word → Word → ℕ → (Option ℕ → ℕ → Read ℕ (List Symbol)) → Read ℕ (List Symbol)
  range_name none us x n k = found (relation_named es x) λ q. k (some q) n
  range_name (some q) us x n k = symbol_of (has_word x us) x q n (k (some q))

  -- the RANGE list, up to RETRIEVE; in the parentheses of a relation its number is at hand
  unfoldable pub bound : List Word → Option ℕ → ℕ → List Token → Read ℕ (List Symbol)
  bound us o n [] = ok [] n
  bound us o n (name x ∷ s) = range_name o us x n λ o n. bound us o n s
  bound us o n (number v ∷ s) = bound us o n s
  bound us o n (function f ∷ s) = bound us o n s
  bound us o n (sign v ∷ s) = bound us o n s
  bound us o n (key RANGE ∷ s) = bound us o n s
  bound us o n (key RETRIEVE ∷ s) = ok [] n
  bound us o n (key NOT ∷ s) = bound us o n s
  bound us o n (key SOME ∷ s) = bound us o n s
  bound us o n (key IN ∷ s) = bound us o n s
  bound us o n (key or ∷ s) = bound us o n s
  bound us o n (key and ∷ s) = bound us o n s
  bound us o n (key left ∷ s) = bound us o n s
  bound us o n (key right ∷ s) = bound us none n s
  bound us o n (key comma ∷ s) = bound us o n s
  bound us o n (key colon ∷ s) = bound us o n s
  bound us o n (key semicolon ∷ s) = bound us o n s
  bound us o n (key point ∷ s) = bound us o n s

  -- the records of a text's tokens
  unfoldable pub flat_text : List Token → Written
  flat_text ts =
      let m = main_of ts in
      need (unique_words (binders 0 ts))
      (then (bound (uses 0 m) none 0 ts) λ ρ n. before (λ bs. encode_ranges (ranges_of es ρ) bs) (loop es (last_of m) m at_rest (ρ ∷ []) n))

-- a question's bytes
abbrev pub encoded : Read ℕ Query → Written
encoded fail = fail
encoded (ok q n) = ok (encode_query q) n
