-- A turn of quel's loop at a place of the arrays: what is opened, the token's record or a refusal, and the rest of the loop.
use Prim.Native.Nat.{ℕ, ◌+◌, ◌-◌, ◌≤◌, ◌<◌}
use mathlib.Core.Bool.{Bool, true, false}
use mathlib.Core.List.{List, ◌∷◌}
use mathlib.Core.Path.{◌≡◌, refl, sym, ap, ◌∙◌}
use native.Mathlib.Omega.{arith}
use lib.Dec.{eqb}
use lib.ListN.{length, get_or}
use borrow.Author.Tests.{eqb-true}
use Rattle.quel.specs.Results.{ok, Word}
use Rattle.quel.specs.Tokens.{Token, point}
use Rattle.quel.specs.Reader.{starts}
use Rattle.quel.specs.Names.{Entry}
use Rattle.quel.specs.Ahead.{Mode, next, word_at}
use Rattle.quel.specs.Writing.{Written, Reaches, inner, loop}
use Rattle.tokens.specs.Table.{Table, token_of, word_in, token_at}
use Rattle.elaborate.specs.Places.{tokens_from, point_in}
use Rattle.elaborate.proofs.marks.Walks.{from_cons, from_end, here, here-is, word-from, point-from}
use Rattle.elaborate.specs.Actions.{mode_number, action_of, item_of}
use Rattle.elaborate.specs.Puts.{putting, reach_after, number_after, written}
use Rattle.elaborate.proofs.items.Turns.{opening, bytes-act}
use Rattle.elaborate.proofs.items.Puts.{perform-put}

module _ (text : List ℕ) (t : Table) (i : ℕ) (h : i < length t.kinds) where
  abbrev pub kind_here : ℕ
  kind_here = get_or t.kinds i 0

  abbrev pub number_here : ℕ
  number_here = get_or t.numbers i 0

  abbrev pub token_here : Token
  token_here = token_of kind_here (here text t i) number_here

  abbrev pub rest : List Token
  rest = tokens_from text t (i + 1)

  token-here : token_at text t i ≡ token_here
  unfolding token_at token_of
  token-here = go (eqb kind_here 0) refl
    where
      go : (b : Bool) → eqb kind_here 0 ≡ b → token_of kind_here (word_in text t i) number_here ≡ token_of kind_here (here text t i) number_here
      go true e = ap (λ (w : Word). token_of kind_here w number_here) (sym (here-is text t i h (eqb-true kind_here 0 e)))
      go false e = rw e

  word_after : (j l : ℕ) → i + 1 + j ≡ l → word_at j rest ≡ here text t l
  word_after j l e = word-from text t j (i + 1) ∙ ap (here text t) e

  module _ (es : List Entry) (z : List ℕ) (m : Mode) (σ : Reaches) (n : ℕ) where
    abbrev go_on : Reaches → ℕ → Written
    go_on σ n = loop es z rest (next m token_here rest) σ n

    abbrev shape : Bool → Word → Word → Word → Word → Written
    shape b x₁ x₂ x₃ x₄ =
        opening (mode_number m) kind_here token_here rest
        (putting (item_of es (action_of (mode_number m) kind_here b) (kind_here - 1) number_here (here text t i) x₂ x₃ x₄ (inner σ) n)
        (λ it. written it (go_on (reach_after (action_of (mode_number m) kind_here b) x₁ x₂ it σ) (number_after (action_of (mode_number m) kind_here b) n))))

    by-words : loop es z (tokens_from text t i) m σ n ≡ shape (starts point rest) (word_at 0 rest) (word_at 1 rest) (word_at 2 rest) (word_at 3 rest)
    unfolding loop
    by-words =
        ap (λ (l : List Token). loop es z l m σ n) (from_cons text t i h ∙ ap (λ (x : Token). x ∷ rest) token-here)
        ∙ bytes-act es m kind_here (here text t i) number_here rest σ n go_on
        ∙ ap (λ (g : Written). opening (mode_number m) kind_here token_here rest g)
        (perform-put es (kind_here - 1) number_here (here text t i) (word_at 0 rest) (word_at 1 rest) (word_at 2 rest) (word_at 3 rest) σ n go_on (action_of (mode_number m) kind_here (starts point rest)))

    pub turn : loop es z (tokens_from text t i) m σ n ≡ shape (point_in t.kinds (i + 1)) (here text t (i + 1)) (here text t (i + 2)) (here text t (i + 3)) (here text t (i + 4))
    turn =
        by-words
        ∙ ap (λ (b : Bool). shape b (word_at 0 rest) (word_at 1 rest) (word_at 2 rest) (word_at 3 rest)) (point-from text t (i + 1))
        ∙ ap (λ (x : Word). shape (point_in t.kinds (i + 1)) x (word_at 1 rest) (word_at 2 rest) (word_at 3 rest)) (word_after 0 (i + 1) (omega arith))
        ∙ ap (λ (x : Word). shape (point_in t.kinds (i + 1)) (here text t (i + 1)) x (word_at 2 rest) (word_at 3 rest)) (word_after 1 (i + 2) (omega arith))
        ∙ ap (λ (x : Word). shape (point_in t.kinds (i + 1)) (here text t (i + 1)) (here text t (i + 2)) x (word_at 3 rest)) (word_after 2 (i + 3) (omega arith))
        ∙ ap (λ (x : Word). shape (point_in t.kinds (i + 1)) (here text t (i + 1)) (here text t (i + 2)) (here text t (i + 3)) x) (word_after 3 (i + 4) (omega arith))

-- past the last token
pub turn_end : (text : List ℕ) (t : Table) (i : ℕ) → length t.kinds ≤ i → (es : List Entry) (z : List ℕ) (m : Mode) (σ : Reaches) (n : ℕ) → loop es z (tokens_from text t i) m σ n ≡ ok z n
unfolding loop
turn_end text t i h es z m σ n = ap (λ (l : List Token). loop es z l m σ n) (from_end text t i h)
