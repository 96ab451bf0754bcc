-- What follows for two calls from C, by the contract of waldumre_ask: `Asked` is that contract's equation.
use Prim.Native.Nat.{ℕ, ◌≤◌, ◌/◌}
use mathlib.Core.Bool.{true, false}
use mathlib.Core.List.{List, ◌∷◌, ◌++◌}
use mathlib.Core.Path.{◌≡◌, sym, ap, ◌∙◌}
use lib.IntN.{ℤ}
use lib.ListN.{length}
use Rattle.model.specs.Lists.{Every}
use Rattle.model.specs.Syntax.{Permit, bindings_q}
use Rattle.model.specs.Encoding.{encode_query, query_of, permits_of}
use Rattle.model.specs.Catalogue.{catalogue_of, shape_of}
use Rattle.model.specs.Permits.{no_access}
use Rattle.model.specs.Checks.{permit_checks}
use Rattle.model.specs.Calls as M
use Rattle.model.specs.Calls.{ask}
use Rattle.model.specs.Demands.{Kept, Passes, permitted_cut, rows_of, rewritten_of, columns_of, positive_q, included, rows_given}
use Rattle.model.proofs.Demands.{demand-3}
use Rattle.model.proofs.Grants.{more-permits-outcomes}
use Rattle.waldumre.specs.Outcome.{outcome_of}
use Rattle.waldumre.specs.declared.Outcome.{Outcome}

-- a call and its end: r is returned, and the buffers then hold these cells and bytes
abbrev Asked : List ℕ → List ℤ → List ℕ → List ℕ → List ℕ → List ℤ → Outcome → List ℤ → List ℕ → Type 0
Asked catalogue values permits query rewritten answer r cells bytes = outcome_of r cells bytes ≡ ask catalogue values permits query rewritten answer

same_outcome : (r s : Outcome) (c d : List ℤ) (v w : List ℕ) → outcome_of r c v ≡ outcome_of s d w → (r ≡ s) × (c ≡ d) × (v ≡ w)
same_outcome r s c d v w e =
    let made : M.Outcome → Outcome = λ o. record { number = o.answer.number; rows = o.answer.rows; columns = o.answer.columns; length = o.count } in
    (ap made e, ap (λ (o : M.Outcome). o.answer.cells) e, ap (λ (o : M.Outcome). o.rewritten) e)

-- demand 3: over collections alike in the premises two calls return the same and leave the same in every cell and byte
pub same-calls : (catalogue catalogue' : List ℕ) (values values' : List ℤ) (permits query rewritten : List ℕ) (answer : List ℤ) (r r' : Outcome) (cells cells' : List ℤ) (bytes bytes' : List ℕ)
    → Asked catalogue values permits query rewritten answer r cells bytes → Asked catalogue' values' permits query rewritten answer r' cells' bytes'
    → Kept catalogue values → Kept catalogue' values' → shape_of (catalogue_of catalogue) ≡ shape_of (catalogue_of catalogue')
    → (((20 ≤ r.number) × (r.number ≤ 40) → ⊥) → Every (λ b. permitted_cut catalogue values permits (query_of query) b ≡ permitted_cut catalogue' values' permits (query_of query) b) (bindings_q (query_of query)))
    → (r ≡ r') × (cells ≡ cells') × (bytes ≡ bytes')
same-calls catalogue catalogue' values values' permits query rewritten answer r r' cells cells' bytes bytes' e e' k k' same premise =
    let n : r.number ≡ (ask catalogue values permits query rewritten answer).answer.number = ap (λ (o : M.Outcome). o.answer.number) e in
    same_outcome r r' cells cells' bytes bytes'
    (e ∙ demand-3 catalogue catalogue' values values' permits query rewritten answer k k' same (λ h. premise (λ i. h (rw (sym n) i))) ∙ sym e')

-- change 12: with one permit more that is not NO ACCESS, a call is accepted again and loses no row
pub more-permits-called : (catalogue : List ℕ) (values : List ℤ) (permits permits' query rewritten rewritten' : List ℕ) (answer answer' : List ℤ) (r r' : Outcome) (cells cells' : List ℤ) (bytes bytes' : List ℕ) (xs : List Permit) (p : Permit) (ys : List Permit)
    → Asked catalogue values permits query rewritten answer r cells bytes → Asked catalogue values permits' query rewritten' answer' r' cells' bytes'
    → permits_of permits ≡ xs ++ ys → permits_of permits' ≡ xs ++ (p ∷ ys) → no_access p ≡ false
    → r.number ≡ 0 → positive_q (query_of query) ≡ true → Passes (permit_checks (shape_of (catalogue_of catalogue)) permits')
    → length (encode_query (rewritten_of catalogue permits' query)) ≤ length rewritten'
    → length (rows_of catalogue values (rewritten_of catalogue permits' query)) ≤ length answer' / columns_of query
    → (r'.number ≡ 0) × (included (rows_given (outcome_of r cells bytes)) (rows_given (outcome_of r' cells' bytes')) ≡ true)
more-permits-called catalogue values permits permits' query rewritten rewritten' answer answer' r r' cells cells' bytes bytes' xs p ys e e' =
    more-permits-outcomes catalogue values permits permits' query rewritten rewritten' answer answer' xs p ys (outcome_of r cells bytes) (outcome_of r' cells' bytes') e e'
