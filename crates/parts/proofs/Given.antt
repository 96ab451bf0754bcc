-- The records of parts put together: those of terms, comparisons, targets and conditions, as bytes.
use Prim.Native.Nat.{ℕ, suc, ◌/◌, ◌%◌, ◌<◌}
use mathlib.Core.List.{List, [], ◌∷◌, ◌++◌, append_assoc, append-nil}
use mathlib.Core.Option.{Option, none, some}
use mathlib.Core.Path.{◌≡◌, refl, sym, ◌∙◌, ap}
use native.Mathlib.Omega.{arith}
use Rattle.model.specs.Syntax.{Term, TRUE, NOT, AND, OR, COMPARE, SOME, CONSTANT, ATTRIBUTE, AGGREGATE}
use Rattle.model.specs.Encoding.{encode, encode_t, encode_targets}
use Rattle.quel.specs.Results.{ok, Word}
use Rattle.quel.specs.Tokens.{Function, Sign}
use Rattle.quel.specs.Tree.{Formula, Operand, Target, Not, And, Or, Compare, Some, Number, Value, Of, Attribute, Aggregate, AggregateIf}
use Rattle.quel.specs.Names.{Entry, Bytes, relation_named, attribute_named, value_named}
use Rattle.quel.specs.Elaboration.{operator_of, function_of, Symbol, symbol_in, inside, as_byte, constant, aggregate, elaborate, elaborate_o, elaborate_t, elaborate_ts, elaborate_q}
use Rattle.quel.proofs.Results.{ok-value, ok-left, then-inv}
use Rattle.parts.specs.Parts.{joined}
use Rattle.parts.specs.Gives.{GivesO, GivesTs, GivesC, GivesQ, Counted}

-- a number below 256 is its byte
pub as_byte_lem : (n : ℕ) → n < 256 → as_byte n ≡ n
as_byte_lem n l = omega arith

module _ (es : List Entry) (ρ : List Symbol) where
  -- terms
  pub gives-number : (n k : ℕ) → GivesO es ρ n (Number k) n (32 ∷ k % 256 ∷ k / 256 % 256 ∷ k / 65536 % 256 ∷ k / 16777216 % 256 ∷ [])
  unfolding elaborate_o encode_t
  gives-number n k = record { value = constant k; says = refl; bytes = λ r. refl }

  pub gives-value : (n : ℕ) (w : Word) (b : Bytes) → value_named es w ≡ some b → GivesO es ρ n (Value w) n (32 ∷ b.b0 ∷ b.b1 ∷ b.b2 ∷ b.b3 ∷ [])
  unfolding elaborate_o encode_t
  gives-value n w b e = record { value = CONSTANT b.b0 b.b1 b.b2 b.b3; says = rw e; bytes = λ r. refl }

  module _ (n : ℕ) (x a : Word) (s : Symbol) (i : ℕ) (e₀ : symbol_in x ρ ≡ some s) (e₂ : attribute_named es s.relation a ≡ some i) where
    pub gives-use : (v : ℕ) → s.variable ≡ some v → GivesO es ρ n (Of (Attribute x a)) n (33 ∷ v ∷ i ∷ [])
    unfolding elaborate_o elaborate_t encode_t
    gives-use v e₁ = record { value = ATTRIBUTE v i; says = rw (e₀, e₁, e₂); bytes = λ r. refl }

    pub gives-aggregate : (f : Function) → n < 256 → GivesO es ρ n (Of (Aggregate f x a)) (suc n) (34 ∷ function_of f ∷ n ∷ s.relation ∷ i ∷ 16 ∷ [])
    unfolding elaborate_o elaborate_t aggregate encode_t encode
    gives-aggregate f l = record { value = AGGREGATE (function_of f) n s.relation i TRUE; says = rw (e₀, e₂, as_byte_lem n l); bytes = λ r. refl }

    pub gives-aggregate_if : (f : Function) {c : Formula} {m : ℕ} {y : List ℕ} → n < 256 → GivesC es (inside s n ρ) (suc n) c m y
        → GivesO es ρ n (Of (AggregateIf f x a c)) m (34 ∷ function_of f ∷ n ∷ s.relation ∷ i ∷ y)
    unfolding elaborate_o elaborate_t aggregate encode_t
    gives-aggregate_if f l p = record {
      value = AGGREGATE (function_of f) n s.relation i p.value;
      says = rw (e₀, e₂, as_byte_lem n l, p.says);
      bytes = λ r. ap (λ (z : List ℕ). 34 ∷ function_of f ∷ n ∷ s.relation ∷ i ∷ z) (p.bytes r);
    }

  -- targets, one more at the end
  pub gives-no-targets : (n : ℕ) → GivesTs es ρ n [] n []
  unfolding elaborate_ts encode_targets
  gives-no-targets n = record { values = []; says = refl; bytes = λ r. refl }

  targets-last : (ts : List Target) (t : Target) (us : List Term) (u : Term) (n m k : ℕ) → elaborate_ts es ts ρ n ≡ ok us m → elaborate_t es t ρ m ≡ ok u k → elaborate_ts es (ts ++ (t ∷ [])) ρ n ≡ ok (us ++ (u ∷ [])) k
  unfolding elaborate_ts
  targets-last [] t us u n m k e f = rw (ok-left e, f, sym (ok-value e))
  targets-last (x ∷ ts) t us u n m k e f =
      then-inv us m (elaborate_t es x ρ n) _ e λ y l g e.
      then-inv us m (elaborate_ts es ts ρ l) _ e λ ys j h e.
      rw (g, targets-last ts t ys u l m k (h ∙ ap (λ (i : ℕ). ok ys i) (ok-left e)) f, sym (ok-value e))

  bytes-last : (us : List Term) (u : Term) (r : List ℕ) → encode_targets (us ++ (u ∷ [])) r ≡ encode_targets us (encode_t u r)
  unfolding encode_targets
  bytes-last [] u r = refl
  bytes-last (x ∷ us) u r = ap (encode_t x) (bytes-last us u r)

  pub gives-target : {n m k : ℕ} {ts : List Target} {t : Target} {x y : List ℕ} → GivesTs es ρ n ts m x → GivesO es ρ m (Of t) k y → GivesTs es ρ n (ts ++ (t ∷ [])) k (x ++ y)
  unfolding elaborate_o
  gives-target {n} {m} {k} {ts} {t} {x} {y} p q = record {
    values = p.values ++ (q.value ∷ []);
    says = targets-last ts t p.values q.value n m k p.says q.says;
    bytes = λ r. bytes-last p.values q.value r ∙ p.bytes (encode_t q.value r) ∙ ap (λ (l : List ℕ). x ++ l) (q.bytes r) ∙ sym (append_assoc x y r);
  }

  -- comparisons and what joins them
  pub gives-compare : {n m k : ℕ} {a b : Operand} {x y : List ℕ} (o : Sign) → GivesO es ρ n a m x → GivesO es ρ m b k y → GivesC es ρ n (Compare o a b) k (21 ∷ operator_of o ∷ (x ++ y))
  unfolding elaborate encode
  gives-compare {x} {y} o p q = record {
    value = COMPARE (operator_of o) p.value q.value;
    says = rw (p.says, q.says);
    bytes = λ r. ap (λ (l : List ℕ). 21 ∷ operator_of o ∷ l) (p.bytes (encode_t q.value r) ∙ ap (λ (l : List ℕ). x ++ l) (q.bytes r) ∙ sym (append_assoc x y r));
  }

  pub gives-not : {n m : ℕ} {c : Formula} {x : List ℕ} → GivesC es ρ n c m x → GivesC es ρ n (Not c) m (18 ∷ x)
  unfolding elaborate encode
  gives-not p = record { value = NOT p.value; says = rw p.says; bytes = λ r. ap (λ (l : List ℕ). 18 ∷ l) (p.bytes r) }

  pub gives-some : {n m : ℕ} {c : Formula} {y : List ℕ} (x q : Word) (k : ℕ) → relation_named es q ≡ some k → n < 256 → GivesC es (record { word = x; relation = k; variable = some n } ∷ ρ) (suc n) c m y
      → GivesC es ρ n (Some x q c) m (22 ∷ n ∷ k ∷ y)
  unfolding elaborate encode
  gives-some {n} x q k e l p = record { value = SOME n k p.value; says = rw (e, as_byte_lem n l, p.says); bytes = λ r. ap (λ (z : List ℕ). 22 ∷ n ∷ k ∷ z) (p.bytes r) }

  -- an AND or an OR stands before what it joins
  module _ {n m k : ℕ} {c d : Formula} {x y : List ℕ} (p : GivesC es ρ n c m x) (q : GivesC es ρ m d k y) where
    both : (r : List ℕ) → encode p.value (encode q.value r) ≡ (x ++ y) ++ r
    both r = p.bytes (encode q.value r) ∙ ap (λ (l : List ℕ). x ++ l) (q.bytes r) ∙ sym (append_assoc x y r)

    pub gives-and : GivesC es ρ n (And c d) k (19 ∷ (x ++ y))
    unfolding elaborate encode
    gives-and = record { value = AND p.value q.value; says = rw (p.says, q.says); bytes = λ r. ap (λ (l : List ℕ). 19 ∷ l) (both r) }

    gives-or : GivesC es ρ n (Or c d) k (20 ∷ (x ++ y))
    unfolding elaborate encode
    gives-or = record { value = OR p.value q.value; says = rw (p.says, q.says); bytes = λ r. ap (λ (l : List ℕ). 20 ∷ l) (both r) }

  pub counted_none : (n : ℕ) → Counted es ρ n none n []
  counted_none n = record { gives = λ a k x p. p }

  pub counted-or : {n m k : ℕ} {o : Option Formula} {a : Formula} {x y : List ℕ} → Counted es ρ n o m x → GivesC es ρ m a k y → Counted es ρ n (some (joined o a)) k (20 ∷ (x ++ y))
  counted-or {k} {a} {y} p q = record { gives = λ b j z s. gives-or (p.gives a k y q) s }

  -- the qualification
  pub gives-true : (n : ℕ) → GivesQ es ρ n none n (16 ∷ [])
  unfolding elaborate_q encode
  gives-true n = record { value = TRUE; says = refl; bytes = refl }

  pub gives-condition : {n m : ℕ} {c : Formula} {bs : List ℕ} → GivesC es ρ n c m bs → GivesQ es ρ n (some c) m bs
  unfolding elaborate_q
  gives-condition {bs} p = record { value = p.value; says = p.says; bytes = p.bytes [] ∙ append-nil bs }
