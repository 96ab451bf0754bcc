-- The RANGE list's symbols: numbered by those that are used, and as if each were.
use Rattle.std.specs.Prelude.{ℕ, suc, true, false, List, [], ◌∷◌, map, ◌≡◌, get_or}
use Rattle.std.proofs.Math.Option.{none, some}
use Rattle.model.specs.Lists.{Every, concat_map}
use Rattle.quel.specs.Results.{ok, Word, each, has_word}
use Rattle.quel.specs.Tree.{Range}
use Rattle.quel.specs.Names.{Entry}
use Rattle.quel.specs.Elaboration.{Symbol, head_only, as_byte, bind_ranges}

abbrev pub with_number : Symbol → ℕ → Symbol
with_number s n = record { word = s.word; relation = s.relation; variable = some n }

-- from n on, those of us only
unfoldable pub numbered : List Word → ℕ → List Symbol → List Symbol
numbered us n [] = []
numbered us n (s ∷ ss) = elim (has_word s.word us) [ true ↦ with_number s (as_byte n) ∷ numbered us (suc n) ss | false ↦ head_only s ∷ numbered us n ss ]

-- the number after them
unfoldable pub after : List Word → ℕ → List Symbol → ℕ
after us n [] = n
after us n (s ∷ ss) = elim (has_word s.word us) [ true ↦ after us (suc n) ss | false ↦ after us n ss ]

-- from n on, each
unfoldable pub in_order : ℕ → List Symbol → List Symbol
in_order n [] = []
in_order n (s ∷ ss) = with_number s n ∷ in_order (suc n) ss

-- symbols of one relation
abbrev pub over : ℕ → List Word → List Symbol
over q xs = map (λ (x : Word). record { word = x; relation = q; variable = none }) xs

abbrev pub symbol_at : List Symbol → ℕ → Symbol
symbol_at ss i = get_or ss i (record { word = []; relation = 0; variable = none })

abbrev pub words_of : List Symbol → List Word
words_of ss = map (λ (s : Symbol). s.word) ss

abbrev pub AllUsed : List Word → List Symbol → Type 0
AllUsed us ss = Every (λ (s : Symbol). has_word s.word us ≡ true) ss

-- the symbols of a RANGE list, whatever is used
pub record Ranged (es : List Entry) (gs : List Range) (ss : List Symbol) : Type 0 where
  pub binds : (us : List Word) (n : ℕ) → bind_ranges es us gs n ≡ ok (numbered us n ss) (after us n ss)
  pub words : words_of ss ≡ concat_map (λ (g : Range). each g.symbols) gs
