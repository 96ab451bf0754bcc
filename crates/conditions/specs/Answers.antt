-- What the reader answers of a condition or a term: nothing where the model reads none of so many levels, else its bytes and whether it is in scope.
use Rattle.std.specs.Prelude.{ℕ, ◌+◌, ◌-◌, Bool, true, false, ◌&&◌, List, length, drop, Option, Some, None}
use Rattle.model.specs.Syntax.{Binding}
use Rattle.model.specs.Encoding.{Read, fail, ok, then, read_condition, read_term}
use Rattle.model.specs.Catalogue.{Shape}
use Rattle.model.specs.Scope.{Scope, in_scope, in_scope_t}
use Rattle.sizes.specs.Measured.{Measured, store, children, measured}
use Rattle.conditions.specs.Reach.{some_in_scope, aggregate_in_scope}
use Rattle.conditions.specs.declared.Reading.{Reading}
use Rattle.conditions.specs.declared.Part.{Part}
use Rattle.conditions.specs.declared.Part.TheVariants as P

-- so many bytes, in scope where s says so
abbrev pub reading : ℕ → Bool → Option Reading
reading n s = Some (record { length = n; inside = s })

-- what is handed up, as it is answered
abbrev pub told : Part → Option Reading
told (P.Inside n) = reading n true
told (P.Outside n) = reading n false
told P.Unread = None

-- of what was read of q, by a test of scope
abbrev pub answer : {A : Type 0} → List ℕ → (A → Bool) → Read A → Option Reading
answer q s fail = None
answer q s (ok a r) = reading (length q - length r) (s a)

module _ (sh : Shape) (limit l : ℕ) where
  unfoldable pub condition_reading : Scope → List ℕ → Option Reading
  condition_reading σ q = answer q (λ c. in_scope sh limit c σ) (read_condition l q)

  unfoldable pub term_reading : Scope → List ℕ → Option Reading
  term_reading σ q = answer q (λ t. in_scope_t sh limit t σ) (read_term l q)

  -- the condition under SOME, and under an aggregate of an attribute
  unfoldable pub some_reading : Binding → Scope → List ℕ → Option Reading
  some_reading b σ q = answer q (λ c. some_in_scope sh limit b c σ) (read_condition l q)

  unfoldable pub aggregate_reading : Binding → ℕ → List ℕ → Option Reading
  aggregate_reading b a q = answer q (λ c. aggregate_in_scope sh limit b a c) (read_condition l q)

-- two, one after the other
pub record Pair (A : Type 0) : Type 0 where
  pub left : A
  pub right : A

abbrev pub two : {A : Type 0} → (List ℕ → Read A) → List ℕ → Read (Pair A)
two g q = then (g q) λ c r. then (g r) λ d r. ok (record { left = c; right = d }) r

abbrev pub both : {A : Type 0} → (A → Bool) → Pair A → Bool
both s p = s p.left && s p.right

module _ (sh : Shape) (limit l : ℕ) (σ : Scope) where
  unfoldable pub conditions_reading : List ℕ → Option Reading
  conditions_reading q = answer q (both (λ c. in_scope sh limit c σ)) (two (λ x. read_condition l x) q)

  unfoldable pub terms_reading : List ℕ → Option Reading
  terms_reading q = answer q (both (λ t. in_scope_t sh limit t σ)) (two (λ x. read_term l x) q)

-- what two conditions (false) or terms (true) from place p on leave: their bytes, and the table
unfoldable pub two_measured : Bool → ℕ → List ℕ → ℕ → List ℕ → Measured
two_measured t l q p z = children 2 0 (λ x m y. measured l t x m y) (drop p q) p z

-- an answer by its parts
abbrev pub size_of : Option Reading → Option ℕ
size_of (Some r) = Some r.length
size_of None = None

abbrev pub bytes_of : Option Reading → ℕ
bytes_of (Some r) = r.length
bytes_of None = 0

-- in scope only where b holds too
abbrev pub held : Bool → Option Reading → Option Reading
held b (Some r) = reading r.length (b && r.inside)
held b None = None

-- what a record of a bytes makes of its children, and the table with its size at p
abbrev pub grown : ℕ → Option Reading → Option Reading
grown a (Some r) = reading (a + r.length) r.inside
grown a None = None

abbrev pub kept : ℕ → ℕ → Option Reading → List ℕ → List ℕ
kept p a (Some r) z = store z p (a + r.length)
kept p a None z = z
