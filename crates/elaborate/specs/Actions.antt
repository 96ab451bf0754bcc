-- What the loop of quel's Writing does at a token, by numbers: its mode, the token's kind, and whether a point follows.
use Rattle.std.specs.Prelude.{ℕ, suc, ◌/◌, ◌%◌, Bool, cond, ◌&&◌, ◌||◌, List, ◌∷◌, eqb, leb, Some, None}
use Rattle.std.specs.Prelude as P
use Rattle.std.proofs.Math.Option.{Option, none, some}
use Rattle.model.specs.Encoding.{encode_t}
use Rattle.quel.specs.Results.{found, Word}
use Rattle.quel.specs.Ahead.{Mode, at-condition, at-conjunct, at-factor, at_rest, in_some, in-attribute, in-aggregate}
use Rattle.quel.specs.Names.{Entry, Bytes, relation_named, attribute_named, value_named}
use Rattle.quel.specs.Elaboration.{Symbol, symbol_in, inside, as_byte, constant}
use Rattle.quel.specs.Writing.{Written, before, Reaches, inner, around, use_of, value_of, some_of}
use Rattle.kinds.specs.declared.Record.{Record}
use Rattle.kinds.specs.declared.Record.TheVariants as R
use Rattle.names.specs.Answers.{Found}
use Rattle.elaborate.specs.declared.reach.Known.{Known}
use Rattle.elaborate.specs.Reach.{known_of}

abbrev pub mode_number : Mode → ℕ
mode_number at-condition = 0
mode_number at-conjunct = 1
mode_number at-factor = 2
mode_number at_rest = 3
mode_number in_some = 4
mode_number in-attribute = 5
mode_number in-aggregate = 6

-- 1 X.A, 2 a value's name, 3 a number, 4 an aggregate, 5 NOT, 6 SOME, 7 (, 8 ), 9 ) of an aggregate with no qualification; 0 nothing
unfoldable pub action_of : ℕ → ℕ → Bool → ℕ
action_of m k b =
    cond (leb 4 m) (cond (eqb m 6 && eqb k 21) 9 0)
    (cond (eqb k 0) (cond b 1 2)
    (cond (eqb k 1) 3
    (cond (leb 2 k && leb k 6) 4
    (cond (eqb m 3) (cond (eqb k 21) 8 0)
    (cond (eqb k 15) 5
    (cond (eqb k 16) 6
    (cond (eqb k 20) 7 0)))))))

-- the mode after an operand's first token, or what joins operands
unfoldable pub rest_of : ℕ → Bool → ℕ
rest_of k b = cond (eqb k 0) (cond b 5 3) (cond (leb 2 k && leb k 6) 6 (cond (eqb k 18) 1 (cond (eqb k 19) 2 (cond (eqb k 23) 0 3))))

-- the mode after a token
unfoldable pub next_of : ℕ → ℕ → Bool → ℕ
next_of m k b =
    cond (eqb m 6) (cond (eqb k 21) 3 (cond (eqb k 24) 0 6))
    (cond (eqb m 5) (cond (leb 13 k) 5 3)
    (cond (eqb m 4) (cond (eqb k 20) 0 (cond (eqb k 24) 0 4))
    (cond (leb 3 m || leb k 6) (rest_of k b)
    (cond (eqb k 15) 2 (cond (eqb k 16) 4 (cond (eqb k 20) 0 3))))))

module _ (es : List Entry) where
  abbrev pub head_at : ℕ → Word → Word → List Symbol → ℕ → (List Symbol → Written) → Written
  head_at g x a ρ n k = found (symbol_in x ρ) λ s. found (attribute_named es s.relation a) λ i. before (λ bs. 34 ∷ g ∷ as_byte n ∷ s.relation ∷ i ∷ bs) (k (inside s (as_byte n) ρ))

  -- an action at a token with function g, number v and the names x₀, and x₁ to x₄ after it
  abbrev pub perform : ℕ → ℕ → ℕ → Word → Word → Word → Word → Word → Reaches → ℕ → (Reaches → ℕ → Written) → Written
  perform a g v x₀ x₁ x₂ x₃ x₄ σ n k =
      cond (eqb a 1) (use_of es x₀ x₂ (inner σ) (k σ n))
      (cond (eqb a 2) (value_of es x₀ (k σ n))
      (cond (eqb a 3) (before (encode_t (constant v)) (k σ n))
      (cond (eqb a 4) (head_at g x₂ x₄ (inner σ) n λ ρ. k (ρ ∷ σ) (suc n))
      (cond (eqb a 5) (before (λ bs. 18 ∷ bs) (k σ n))
      (cond (eqb a 6) (some_of es x₁ x₃ σ n k)
      (cond (eqb a 7) (k (inner σ ∷ σ) n)
      (cond (eqb a 8) (k (around σ) n)
      (cond (eqb a 9) (before (λ bs. 16 ∷ bs) (k (around σ) n))
      (k σ n)))))))))

-- the first number that an answer of the name list says
abbrev pub number_of : Found → P.Option ℕ
number_of None = None
number_of (Some m) = Some m.0

-- the record of a token, or a name that says nothing
abbrev pub use_by : ℕ → Option ℕ → P.Option Record
use_by v none = None
use_by v (some a) = Some (R.Attribute v a)

abbrev pub head_by : ℕ → ℕ → ℕ → Option ℕ → P.Option Record
head_by g v r none = None
head_by g v r (some a) = Some (R.Aggregate g v r a)

abbrev pub some_by : ℕ → Option ℕ → P.Option Record
some_by v none = None
some_by v (some r) = Some (R.Some v r)

abbrev pub value_by : Option Bytes → P.Option Record
value_by none = None
value_by (some b) = Some (R.Constant b.b0 b.b1 b.b2 b.b3)

abbrev pub constant_by : ℕ → P.Option Record
constant_by k = Some (R.Constant (k % 256) (k / 256 % 256) (k / 65536 % 256) (k / 16777216 % 256))

module _ (es : List Entry) where
  -- X.A wants a variable, an aggregate's head only a relation
  abbrev pub use_variable : Word → ℕ → P.Option ℕ → P.Option Record
  use_variable a r None = None
  use_variable a r (Some v) = use_by v (attribute_named es r a)

  abbrev pub use_item : Word → P.Option Known → P.Option Record
  use_item a None = None
  use_item a (Some k) = use_variable a k.relation k.variable

  abbrev pub head_item : ℕ → ℕ → Word → P.Option Known → P.Option Record
  head_item g n a None = None
  head_item g n a (Some k) = head_by g (as_byte n) k.relation (attribute_named es k.relation a)

  abbrev pub item_of : ℕ → ℕ → ℕ → Word → Word → Word → Word → List Symbol → ℕ → P.Option Record
  item_of a g v x₀ x₂ x₃ x₄ ρ n =
      cond (eqb a 1) (use_item x₂ (known_of (symbol_in x₀ ρ)))
      (cond (eqb a 2) (value_by (value_named es x₀))
      (cond (eqb a 3) (constant_by v)
      (cond (eqb a 4) (head_item g n x₄ (known_of (symbol_in x₂ ρ)))
      (cond (eqb a 5) (Some R.Not)
      (cond (eqb a 6) (some_by (as_byte n) (relation_named es x₃))
      (cond (eqb a 9) (Some R.True) (Some R.Short)))))))
