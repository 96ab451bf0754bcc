-- What Change 1 asks of the reader: it accepts exactly the grammar, and 50, 51, 52 have exact grounds, in that order.
use Rattle.std.specs.Prelude.{ℕ, suc, ◌≤◌, ◌<◌, true, false, List, [], ◌∷◌, ◌++◌, ◌≡◌, length, drop}
use Rattle.model.specs.Lists.{Every}
use Rattle.model.specs.Syntax.{Query, Binding, Use, bindings_q, uses_q}
use Rattle.model.specs.Catalogue.{Shape, attributes_at}
use Rattle.model.specs.Scope.{bound_once}
use Rattle.model.specs.Limits.{Limits}
use Rattle.model.specs.Checks.{fails32}
use Rattle.model.specs.Encoding.{encode_query}
use Rattle.quel.specs.Results.{fail, ok}
use Rattle.quel.specs.Tokens.{Token}
use Rattle.quel.specs.Lexical.{Spelled}
use Rattle.quel.specs.Tree.{Text}
use Rattle.quel.specs.Grammar.{IsText}
use Rattle.quel.specs.Names.{names}
use Rattle.quel.specs.Elaboration.{as_byte}
use Rattle.quel.specs.ReadText.{Reading, refused, resolve}

-- the bytes are a text with the tree t
pub record IsTextOf (bs : List ℕ) (t : Text) : Type 0 where
  pub words : List Token
  pub short : length bs ≤ 2000
  pub spelled : Spelled bs words
  pub derived : IsText words t

-- the one outcome: each refusal leaves the buffer as it was, and stands only where those before it do not
pub data Outcome (ns bs buffer : List ℕ) : Reading → Type 0 where
  outside : ((t : Text) → IsTextOf bs t → ⊥) → Outcome ns bs buffer (refused 50 buffer)
  unnamed : {t : Text} → IsTextOf bs t → resolve (names ns) t ≡ fail → Outcome ns bs buffer (refused 51 buffer)
  too_long : {t : Text} {q : Query} {n : ℕ} → IsTextOf bs t → resolve (names ns) t ≡ ok q n → length buffer < length (encode_query q) → Outcome ns bs buffer (refused 52 buffer)
  read : {t : Text} {q : Query} {n : ℕ} → IsTextOf bs t → resolve (names ns) t ≡ ok q n → length (encode_query q) ≤ length buffer
      → Outcome ns bs buffer (record { number = 0; count = length (encode_query q); records = encode_query q ++ drop (length (encode_query q)) buffer })

-- the bytes of n, n + 1, .. below m
pub data Numbers : ℕ → ℕ → List ℕ → Type 0 where
  no_number : {n : ℕ} → Numbers n n []
  one_number : {n m : ℕ} {vs : List ℕ} → Numbers (suc n) m vs → Numbers n m (as_byte n ∷ vs)

-- the catalogue has a question's relations, and of each the attributes that are used of its variables
pub record Known (sh : Shape) (q : Query) : Type 0 where
  pub relations : Every (λ (b : Binding). b.relation < length sh) (bindings_q q)
  pub attributes : Every (λ (b : Binding). Every (λ (u : Use). u.variable ≡ b.variable → u.attribute < attributes_at sh b.relation) (uses_q q)) (bindings_q q)

-- a question of n variables that is read: each is bound once, and 32 comes from the catalogue or from numbers past the limit only
pub record InReach (q : Query) (n : ℕ) : Type 0 where
  pub once : n ≤ 256 → bound_once q ≡ true
  pub known : (sh : Shape) (l : Limits) → n ≤ l.bound → n ≤ 256 → Known sh q → fails32 l sh q ≡ false
