-- What the byte of a kind fixes (document 01, the table of "Questions"), for every byte.
use Rattle.std.specs.Prelude.{ℕ, suc, ◌*◌, ◌/◌, ◌%◌, ◌^◌}
use Rattle.std.proofs.Math.Option.{Option, none, some}
use Rattle.model.specs.Kinds.{Kind, kind_of, body_length, child_conditions, child_terms}

-- what f says of the kind that a byte names, d where it names none
unfoldable pub of_kind : {A : Type 0} → A → (Kind → A) → ℕ → A
of_kind d f b = elim (kind_of b) [ none ↦ d | some x ↦ f x ]

unfoldable pub body_of : ℕ → ℕ
body_of b = of_kind 255 body_length b

unfoldable pub conditions_of : ℕ → ℕ
conditions_of b = of_kind 0 child_conditions b

unfoldable pub terms_of : ℕ → ℕ
terms_of b = of_kind 0 child_terms b

-- the byte of kind and the body
unfoldable pub record_length : ℕ → ℕ
record_length b = of_kind 1 (λ x. suc (body_length x)) b

-- the byte of a word at a place, the lowest first
abbrev pub byte_in : ℕ → ℕ → ℕ
byte_in w i = w / 2 ^ (8 * i) % 256
