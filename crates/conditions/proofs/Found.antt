-- What a reading says of the tree: one that was found, and that none is there.
use mathlib.Core.Path.{◌≡◌, refl, sym, ap, ◌∙◌}
use mathlib.Core.Bool.{Bool}
use mathlib.Core.List.{List, []}
use Prim.Native.Nat.{ℕ, ◌+◌, ◌-◌, ◌≤◌}
use native.Mathlib.Omega.{arith}
use lib.ListN.{length, drop}
use Rattle.model.specs.Syntax.{Condition, Term, WellFormed, WellFormedT, levels, levels_t}
use Rattle.model.specs.Encoding.{encode, encode_t, Read, fail, ok, read_condition, read_term}
use Rattle.model.specs.Catalogue.{Shape}
use Rattle.model.specs.Scope.{Scope, in_scope, in_scope_t}
use Rattle.model.proofs.Reading.{read-encode, read-encode_t, read-inverse, read-inverse_t}
use Rattle.model.proofs.Sizes.{size, size_t, size-encode, size-encode_t}
use Rattle.sizes.proofs.Decoding.{condition-rest, term-rest}
use Rattle.conditions.specs.declared.Reading.{Reading}
use Rattle.conditions.specs.Answers.{reading, answer, condition_reading, term_reading}
use Rattle.conditions.proofs.Parts.{never, bytes_same, scope-same}
use Rattle.std.specs.Prelude.{Option, None}

-- the condition, or the term, of n bytes at p, in scope where b says so
pub record Found (sh : Shape) (limit l : ℕ) (σ : Scope) (q : List ℕ) (p n : ℕ) (b : Bool) : Type 0 where
  pub condition : Condition
  pub rest : List ℕ
  pub read : read_condition l (drop p q) ≡ ok condition rest
  pub bytes : drop p q ≡ encode condition rest
  pub well : WellFormed condition
  pub deep : levels condition ≤ l
  pub scope : in_scope sh limit condition σ ≡ b
  pub sized : n ≡ size condition
  pub after : drop (p + n) q ≡ rest

pub record FoundT (sh : Shape) (limit l : ℕ) (σ : Scope) (q : List ℕ) (p n : ℕ) (b : Bool) : Type 0 where
  pub term : Term
  pub rest : List ℕ
  pub read : read_term l (drop p q) ≡ ok term rest
  pub bytes : drop p q ≡ encode_t term rest
  pub well : WellFormedT term
  pub deep : levels_t term ≤ l
  pub scope : in_scope_t sh limit term σ ≡ b
  pub sized : n ≡ size_t term
  pub after : drop (p + n) q ≡ rest

module _ (sh : Shape) (limit l : ℕ) (σ : Scope) (q : List ℕ) (p : ℕ) (r : Option Reading) where
  module _ (er : r ≡ condition_reading sh limit l σ (drop p q)) where
    pub found : (n : ℕ) (b : Bool) → r ≡ reading n b → Found sh limit l σ q p n b
    unfolding condition_reading
    found n b e = go (read_condition l (drop p q)) refl
      where
        go : (w : Read Condition) → read_condition l (drop p q) ≡ w → Found sh limit l σ q p n b
        go fail h = never n b (sym e ∙ er ∙ ap (answer (drop p q) (λ c. in_scope sh limit c σ)) h)
        go (ok c s) h =
            let f : reading n b ≡ reading (length (drop p q) - length s) (in_scope sh limit c σ) = sym e ∙ er ∙ ap (answer (drop p q) (λ c. in_scope sh limit c σ)) h in
            let i = read-inverse l (drop p q) c s h in
            let z : n ≡ size c = omega (arith, bytes_same _ _ _ _ f, ap length i.bytes, size-encode c s) in
            record { condition = c; rest = s; read = h; bytes = i.bytes; well = i.well; deep = i.deep; scope = sym (scope-same _ _ _ _ f); sized = z; after = ap (λ m. drop (p + m) q) z ∙ condition-rest l q p [] c s h }

    pub unread : r ≡ None → (c : Condition) (s : List ℕ) → drop p q ≡ encode c s → WellFormed c → levels c ≤ l → ⊥
    unfolding condition_reading
    unread e c s h w d = never _ _ (sym (ap (answer (drop p q) (λ c. in_scope sh limit c σ)) (ap (read_condition l) h ∙ read-encode c l s w d)) ∙ sym er ∙ e)

  module _ (er : r ≡ term_reading sh limit l σ (drop p q)) where
    pub found_t : (n : ℕ) (b : Bool) → r ≡ reading n b → FoundT sh limit l σ q p n b
    unfolding term_reading
    found_t n b e = go (read_term l (drop p q)) refl
      where
        go : (w : Read Term) → read_term l (drop p q) ≡ w → FoundT sh limit l σ q p n b
        go fail h = never n b (sym e ∙ er ∙ ap (answer (drop p q) (λ t. in_scope_t sh limit t σ)) h)
        go (ok t s) h =
            let f : reading n b ≡ reading (length (drop p q) - length s) (in_scope_t sh limit t σ) = sym e ∙ er ∙ ap (answer (drop p q) (λ t. in_scope_t sh limit t σ)) h in
            let i = read-inverse_t l (drop p q) t s h in
            let z : n ≡ size_t t = omega (arith, bytes_same _ _ _ _ f, ap length i.bytes, size-encode_t t s) in
            record { term = t; rest = s; read = h; bytes = i.bytes; well = i.well; deep = i.deep; scope = sym (scope-same _ _ _ _ f); sized = z; after = ap (λ m. drop (p + m) q) z ∙ term-rest l q p [] t s h }

    pub unread_t : r ≡ None → (t : Term) (s : List ℕ) → drop p q ≡ encode_t t s → WellFormedT t → levels_t t ≤ l → ⊥
    unfolding term_reading
    unread_t e t s h w d = never _ _ (sym (ap (answer (drop p q) (λ t. in_scope_t sh limit t σ)) (ap (read_term l) h ∙ read-encode_t t l s w d)) ∙ sym er ∙ e)

-- the tree at a place is the one that is found there
pub same_read : {A : Type 0} (a c : A) (r s : List ℕ) → ok a r ≡ ok c s → (a ≡ c) × (r ≡ s)
same_read a c r s h = (cc, cc)

module _ {sh : Shape} {limit l : ℕ} {σ : Scope} {q : List ℕ} {p n : ℕ} {b : Bool} where
  pub the-condition : (f : Found sh limit l σ q p n b) (c : Condition) (s : List ℕ) → drop p q ≡ encode c s → WellFormed c → levels c ≤ l → (f.condition ≡ c) × (f.rest ≡ s)
  the-condition f c s h w d = same_read _ _ _ _ (sym f.read ∙ ap (read_condition l) h ∙ read-encode c l s w d)

  pub the_term : (f : FoundT sh limit l σ q p n b) (t : Term) (s : List ℕ) → drop p q ≡ encode_t t s → WellFormedT t → levels_t t ≤ l → (f.term ≡ t) × (f.rest ≡ s)
  the_term f t s h w d = same_read _ _ _ _ (sym f.read ∙ ap (read_term l) h ∙ read-encode_t t l s w d)
