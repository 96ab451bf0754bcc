-- A walk that gathers words from the tokens of a condition gives those of its tree.
use Prim.Native.Nat.{ℕ, zero, suc}
use mathlib.Core.Bool.{false}
use mathlib.Core.List.{List, [], ◌∷◌, ◌++◌, append_assoc}
use mathlib.Core.Path.{◌≡◌, refl, sym, ◌∙◌, ap}
use Rattle.model.specs.Lists.{concat_map}
use Rattle.quel.specs.Results.{Word, Several, each}
use Rattle.quel.specs.Tokens.{NOT, SOME, IN, or, and, left, right, comma, semicolon, point, Function, Sign, Token, name, number, function, sign, key}
use Rattle.quel.specs.Tree.{Formula, Operand, Target, Not, And, Or, Compare, Some, Number, Value, Of, Attribute, Aggregate, AggregateIf}
use Rattle.quel.specs.Grammar.{IsCondition, Ors, IsConjunct, Ands, IsFactor, IsOperand, IsTarget, condition, no_or, one-or, conjunct, no-and, one-and, negated, exists, within, compared, a-number, a-value, a-target, attribute, aggregate, aggregate_if, Repeated, no_item, one-item, Listed, listed}
use Rattle.quel.specs.Reader.{starts}
use Rattle.quel.specs.Elaboration.{used, used_o, used_t, somes, somes_o, somes_t}
use Rattle.quel.proofs.Complete.{ors-free, ands-free}
use Rattle.flat.specs.Flat.{uses, binders, colons}

-- W gathers from tokens, F, O and T from trees, at a depth; inn is the depth in parentheses, agg that in an aggregate
pub record Walk : Type 1 where
  pub W : ℕ → List Token → List Word
  pub F : ℕ → Formula → List Word
  pub O : ℕ → Operand → List Word
  pub T : ℕ → Target → List Word
  pub S : ℕ → Word → List Word
  pub inn : ℕ → ℕ
  pub agg : ℕ → ℕ
  pub w_or : (d : ℕ) (s : List Token) → W d (key or ∷ s) ≡ W d s
  pub w-and : (d : ℕ) (s : List Token) → W d (key and ∷ s) ≡ W d s
  pub w-not : (d : ℕ) (s : List Token) → W d (key NOT ∷ s) ≡ W d s
  pub w-comma : (d : ℕ) (s : List Token) → W d (key comma ∷ s) ≡ W d s
  pub w-sign : (d : ℕ) (o : Sign) (s : List Token) → W d (sign o ∷ s) ≡ W d s
  pub w-number : (d n : ℕ) (s : List Token) → W d (number n ∷ s) ≡ W d s
  pub w-value : (d : ℕ) (x : Word) (s : List Token) → starts point s ≡ false → W d (name x ∷ s) ≡ W d s
  pub w-attribute : (d : ℕ) (x a : Word) (r : List Token) → starts point r ≡ false → W d (name x ∷ key point ∷ name a ∷ r) ≡ T d (Attribute x a) ++ W d r
  pub w-aggregate : (d : ℕ) (f : Function) (x a : Word) (r : List Token) → W d (function f ∷ key left ∷ name x ∷ key point ∷ name a ∷ key right ∷ r) ≡ W d r
  pub w-aggregate_if : (d : ℕ) (f : Function) (x a : Word) (s : List Token) → W d (function f ∷ key left ∷ name x ∷ key point ∷ name a ∷ key semicolon ∷ s) ≡ W (agg d) s
  pub w-some : (d : ℕ) (x q : Word) (s : List Token) → W d (key SOME ∷ name x ∷ key IN ∷ name q ∷ key left ∷ s) ≡ S d x ++ W (inn d) s
  pub w-left : (d : ℕ) (s : List Token) → W d (key left ∷ s) ≡ W (inn d) s
  pub w-right : (d : ℕ) (s : List Token) → W (inn d) (key right ∷ s) ≡ W d s
  pub w-end : (d : ℕ) (s : List Token) → W (agg d) (key right ∷ s) ≡ W d s
  pub f-not : (d : ℕ) (c : Formula) → F d (Not c) ≡ F d c
  pub f-and : (d : ℕ) (c e : Formula) → F d (And c e) ≡ F d c ++ F d e
  pub f-or : (d : ℕ) (c e : Formula) → F d (Or c e) ≡ F d c ++ F d e
  pub f-compare : (d : ℕ) (o : Sign) (a b : Operand) → F d (Compare o a b) ≡ O d a ++ O d b
  pub f-some : (d : ℕ) (x q : Word) (c : Formula) → F d (Some x q c) ≡ S d x ++ F (inn d) c
  pub f-inn : (d : ℕ) (c : Formula) → F (inn d) c ≡ F d c
  pub o-number : (d n : ℕ) → O d (Number n) ≡ []
  pub o-value : (d : ℕ) (w : Word) → O d (Value w) ≡ []
  pub o-target : (d : ℕ) (t : Target) → O d (Of t) ≡ T d t
  pub t-aggregate : (d : ℕ) (f : Function) (x a : Word) → T d (Aggregate f x a) ≡ []
  pub t-aggregate_if : (d : ℕ) (f : Function) (x a : Word) (c : Formula) → T d (AggregateIf f x a c) ≡ F (agg d) c

module _ (k : Walk) where
  -- before what was gathered
  onto : {x y : List Word} (z : List Word) → x ≡ y → z ++ x ≡ z ++ y
  onto z e = ap (λ (l : List Word). z ++ l) e

  under : {x y : List Word} (z : List Word) → x ≡ y → x ++ z ≡ y ++ z
  under z e = ap (λ (l : List Word). l ++ z) e

  mutual
    unfolding starts

    pub walk_c : {s r : List Token} {c : Formula} → IsCondition s c r → starts point r ≡ false → (d : ℕ) → k.W d s ≡ k.F d c ++ k.W d r
    walk_c (condition p q) h d = walk_j p (ors-free point q refl h) d ∙ walk_ors q h d

    walk_ors : {s r : List Token} {c e : Formula} → Ors c s e r → starts point r ≡ false → (d : ℕ) → k.F d c ++ k.W d s ≡ k.F d e ++ k.W d r
    walk_ors no_or h d = refl
    walk_ors (one-or {s} {m} {c} {d = i} p q) h d =
        onto (k.F d c) (k.w_or d s ∙ walk_j p (ors-free point q refl h) d) ∙ sym (append_assoc (k.F d c) (k.F d i) (k.W d m)) ∙ under (k.W d m) (sym (k.f-or d c i)) ∙ walk_ors q h d

    walk_j : {s r : List Token} {c : Formula} → IsConjunct s c r → starts point r ≡ false → (d : ℕ) → k.W d s ≡ k.F d c ++ k.W d r
    walk_j (conjunct p q) h d = walk_f p (ands-free point q refl h) d ∙ walk_ands q h d

    walk_ands : {s r : List Token} {c e : Formula} → Ands c s e r → starts point r ≡ false → (d : ℕ) → k.F d c ++ k.W d s ≡ k.F d e ++ k.W d r
    walk_ands no-and h d = refl
    walk_ands (one-and {s} {m} {c} {d = i} p q) h d =
        onto (k.F d c) (k.w-and d s ∙ walk_f p (ands-free point q refl h) d) ∙ sym (append_assoc (k.F d c) (k.F d i) (k.W d m)) ∙ under (k.W d m) (sym (k.f-and d c i)) ∙ walk_ands q h d

    walk_f : {s r : List Token} {c : Formula} → IsFactor s c r → starts point r ≡ false → (d : ℕ) → k.W d s ≡ k.F d c ++ k.W d r
    walk_f (negated {s} {r} {c} p) h d = k.w-not d s ∙ walk_f p h d ∙ under (k.W d r) (sym (k.f-not d c))
    walk_f (exists {s} {r} {c} {x} {q} p) h d =
        k.w-some d x q s ∙ onto (k.S d x) (walk_c p refl (k.inn d) ∙ onto (k.F (k.inn d) c) (k.w-right d r)) ∙ sym (append_assoc (k.S d x) (k.F (k.inn d) c) (k.W d r)) ∙ under (k.W d r) (sym (k.f-some d x q c))
    walk_f (within {s} {r} {c} p) h d = k.w-left d s ∙ walk_c p refl (k.inn d) ∙ onto (k.F (k.inn d) c) (k.w-right d r) ∙ under (k.W d r) (k.f-inn d c)
    walk_f (compared {s} {m} {r} {o} {a} {b} p q) h d =
        walk_o p refl d ∙ onto (k.O d a) (k.w-sign d o m ∙ walk_o q h d) ∙ sym (append_assoc (k.O d a) (k.O d b) (k.W d r)) ∙ under (k.W d r) (sym (k.f-compare d o a b))

    walk_o : {s r : List Token} {a : Operand} → IsOperand s a r → starts point r ≡ false → (d : ℕ) → k.W d s ≡ k.O d a ++ k.W d r
    walk_o (a-number {r} {n}) h d = k.w-number d n r ∙ under (k.W d r) (sym (k.o-number d n))
    walk_o (a-value {r} {w}) h d = k.w-value d w r h ∙ under (k.W d r) (sym (k.o-value d w))
    walk_o (a-target {s} {r} {t} p) h d = walk_t p h d ∙ under (k.W d r) (sym (k.o-target d t))

    pub walk_t : {s r : List Token} {t : Target} → IsTarget s t r → starts point r ≡ false → (d : ℕ) → k.W d s ≡ k.T d t ++ k.W d r
    walk_t (attribute {r} {x} {a}) h d = k.w-attribute d x a r h
    walk_t (aggregate {r} {f} {x} {a}) h d = k.w-aggregate d f x a r ∙ under (k.W d r) (sym (k.t-aggregate d f x a))
    walk_t (aggregate_if {s} {r} {f} {x} {a} {c} p) h d =
        k.w-aggregate_if d f x a s ∙ walk_c p refl (k.agg d) ∙ onto (k.F (k.agg d) c) (k.w-end d r) ∙ under (k.W d r) (sym (k.t-aggregate_if d f x a c))

  pub walk-repeated : {s r : List Token} {ts : List Target} → Repeated comma IsTarget s ts r → starts point r ≡ false → (d : ℕ) → (k.W d s ≡ concat_map (k.T d) ts ++ k.W d r) × (starts point s ≡ false)
  unfolding starts concat_map
  walk-repeated no_item h d = (refl, h)
  walk-repeated (one-item {s} {m} {r} {x} {xs} p q) h d =
      let e = walk-repeated q h d in
      (k.w-comma d s ∙ walk_t p e.1 d ∙ onto (k.T d x) e.0 ∙ sym (append_assoc (k.T d x) (concat_map (k.T d) xs) (k.W d r)), refl)

  pub walk-listed : {s r : List Token} {ts : Several Target} → Listed comma IsTarget s ts r → starts point r ≡ false → (d : ℕ) → k.W d s ≡ concat_map (k.T d) (each ts) ++ k.W d r
  unfolding concat_map
  walk-listed (listed {s} {m} {r} {x} {xs} p q) h d =
      let e = walk-repeated q h d in
      walk_t p e.1 d ∙ onto (k.T d x) e.0 ∙ sym (append_assoc (k.T d x) (concat_map (k.T d) xs) (k.W d r))

-- depth 0 is outside all aggregates; within them nothing is gathered
abbrev depth_of : ℕ → ℕ
depth_of zero = zero
depth_of (suc e) = suc (suc e)

abbrev at_outside : {A : Type 0} → (A → List Word) → ℕ → A → List Word
at_outside g zero a = g a
at_outside g (suc e) a = []

abbrev in_parens : ℕ → ℕ
in_parens zero = zero
in_parens (suc e) = suc (suc e)

abbrev in_aggregate : ℕ → ℕ
in_aggregate zero = suc zero
in_aggregate (suc e) = suc (suc e)

pub no-use : (x : Word) (s : List Token) → starts point s ≡ false → uses 0 (name x ∷ s) ≡ uses 0 s
unfolding uses
no-use x s h = rw h

pub one-use : (x a : Word) (r : List Token) → starts point r ≡ false → uses 0 (name x ∷ key point ∷ name a ∷ r) ≡ x ∷ uses 0 r
unfolding uses starts
one-use x a r h = ap (λ (l : List Word). x ∷ l) (no-use a r h)

unfoldable pub uses_walk : Walk
unfolding uses used starts
uses_walk = record {
  W = λ d s. uses (depth_of d) s;
  F = λ d c. at_outside used d c;
  O = λ d a. at_outside used_o d a;
  T = λ d t. at_outside used_t d t;
  S = λ d x. [];
  inn = in_parens;
  agg = in_aggregate;
  w_or = λ d s. refl;
  w-and = λ d s. refl;
  w-not = λ d s. refl;
  w-comma = λ d s. refl;
  w-sign = λ d o s. refl;
  w-number = λ d n s. refl;
  w-value = λ d x s h. value d x s h;
  w-attribute = λ d x a r h. attribute-use d x a r h;
  w-aggregate = λ d f x a r. agg d f x a r;
  w-aggregate_if = λ d f x a s. agg_if d f x a s;
  w-some = λ d x q s. some-use d x q s;
  w-left = λ d s. opens d s;
  w-right = λ d s. closes d s;
  w-end = λ d s. ends d s;
  f-not = λ d c. nots d c;
  f-and = λ d c e. ands d c e;
  f-or = λ d c e. ors d c e;
  f-compare = λ d o a b. compares d o a b;
  f-some = λ d x q c. somes-of d x q c;
  f-inn = λ d c. inns d c;
  o-number = λ d n. numbers d n;
  o-value = λ d w. values d w;
  o-target = λ d t. targets d t;
  t-aggregate = λ d f x a. aggregates d f x a;
  t-aggregate_if = λ d f x a c. aggregates_if d f x a c;
}
  where
    value : (d : ℕ) (x : Word) (s : List Token) → starts point s ≡ false → uses (depth_of d) (name x ∷ s) ≡ uses (depth_of d) s
    value zero x s h = no-use x s h
    value (suc e) x s h = refl

    attribute-use : (d : ℕ) (x a : Word) (r : List Token) → starts point r ≡ false → uses (depth_of d) (name x ∷ key point ∷ name a ∷ r) ≡ at_outside used_t d (Attribute x a) ++ uses (depth_of d) r
    attribute-use zero x a r h = one-use x a r h
    attribute-use (suc e) x a r h = refl

    agg : (d : ℕ) (f : Function) (x a : Word) (r : List Token) → uses (depth_of d) (function f ∷ key left ∷ name x ∷ key point ∷ name a ∷ key right ∷ r) ≡ uses (depth_of d) r
    agg zero f x a r = refl
    agg (suc e) f x a r = refl

    agg_if : (d : ℕ) (f : Function) (x a : Word) (s : List Token) → uses (depth_of d) (function f ∷ key left ∷ name x ∷ key point ∷ name a ∷ key semicolon ∷ s) ≡ uses (depth_of (in_aggregate d)) s
    agg_if zero f x a s = refl
    agg_if (suc e) f x a s = refl

    some-use : (d : ℕ) (x q : Word) (s : List Token) → uses (depth_of d) (key SOME ∷ name x ∷ key IN ∷ name q ∷ key left ∷ s) ≡ uses (depth_of (in_parens d)) s
    some-use zero x q s = refl
    some-use (suc e) x q s = refl

    opens : (d : ℕ) (s : List Token) → uses (depth_of d) (key left ∷ s) ≡ uses (depth_of (in_parens d)) s
    opens zero s = refl
    opens (suc e) s = refl

    closes : (d : ℕ) (s : List Token) → uses (depth_of (in_parens d)) (key right ∷ s) ≡ uses (depth_of d) s
    closes zero s = refl
    closes (suc e) s = refl

    ends : (d : ℕ) (s : List Token) → uses (depth_of (in_aggregate d)) (key right ∷ s) ≡ uses (depth_of d) s
    ends zero s = refl
    ends (suc e) s = refl

    nots : (d : ℕ) (c : Formula) → at_outside used d (Not c) ≡ at_outside used d c
    nots zero c = refl
    nots (suc e) c = refl

    ands : (d : ℕ) (c i : Formula) → at_outside used d (And c i) ≡ at_outside used d c ++ at_outside used d i
    ands zero c i = refl
    ands (suc e) c i = refl

    ors : (d : ℕ) (c i : Formula) → at_outside used d (Or c i) ≡ at_outside used d c ++ at_outside used d i
    ors zero c i = refl
    ors (suc e) c i = refl

    compares : (d : ℕ) (o : Sign) (a b : Operand) → at_outside used d (Compare o a b) ≡ at_outside used_o d a ++ at_outside used_o d b
    compares zero o a b = refl
    compares (suc e) o a b = refl

    somes-of : (d : ℕ) (x q : Word) (c : Formula) → at_outside used d (Some x q c) ≡ at_outside used (in_parens d) c
    somes-of zero x q c = refl
    somes-of (suc e) x q c = refl

    inns : (d : ℕ) (c : Formula) → at_outside used (in_parens d) c ≡ at_outside used d c
    inns zero c = refl
    inns (suc e) c = refl

    numbers : (d n : ℕ) → at_outside used_o d (Number n) ≡ []
    numbers zero n = refl
    numbers (suc e) n = refl

    values : (d : ℕ) (w : Word) → at_outside used_o d (Value w) ≡ []
    values zero w = refl
    values (suc e) w = refl

    targets : (d : ℕ) (t : Target) → at_outside used_o d (Of t) ≡ at_outside used_t d t
    targets zero t = refl
    targets (suc e) t = refl

    aggregates : (d : ℕ) (f : Function) (x a : Word) → at_outside used_t d (Aggregate f x a) ≡ []
    aggregates zero f x a = refl
    aggregates (suc e) f x a = refl

    aggregates_if : (d : ℕ) (f : Function) (x a : Word) (c : Formula) → at_outside used_t d (AggregateIf f x a c) ≡ at_outside used (in_aggregate d) c
    aggregates_if zero f x a c = refl
    aggregates_if (suc e) f x a c = refl

-- the symbols of SOMEs, at whatever depth
unfoldable pub somes_walk : Walk
unfolding binders somes starts
somes_walk = record {
  W = λ d s. binders 2 s;
  F = λ d c. somes c;
  O = λ d a. somes_o a;
  T = λ d t. somes_t t;
  S = λ d x. x ∷ [];
  inn = λ d. d;
  agg = λ d. d;
  w_or = λ d s. refl;
  w-and = λ d s. refl;
  w-not = λ d s. refl;
  w-comma = λ d s. refl;
  w-sign = λ d o s. refl;
  w-number = λ d n s. refl;
  w-value = λ d x s h. refl;
  w-attribute = λ d x a r h. refl;
  w-aggregate = λ d f x a r. refl;
  w-aggregate_if = λ d f x a s. refl;
  w-some = λ d x q s. refl;
  w-left = λ d s. refl;
  w-right = λ d s. refl;
  w-end = λ d s. refl;
  f-not = λ d c. refl;
  f-and = λ d c e. refl;
  f-or = λ d c e. refl;
  f-compare = λ d o a b. refl;
  f-some = λ d x q c. refl;
  f-inn = λ d c. refl;
  o-number = λ d n. refl;
  o-value = λ d w. refl;
  o-target = λ d t. refl;
  t-aggregate = λ d f x a. refl;
  t-aggregate_if = λ d f x a c. refl;
}

-- no colon stands in a condition
unfoldable pub colons_walk : Walk
unfolding colons
colons_walk = record {
  W = λ d s. colons s;
  F = λ d c. [];
  O = λ d a. [];
  T = λ d t. [];
  S = λ d x. [];
  inn = λ d. d;
  agg = λ d. d;
  w_or = λ d s. refl;
  w-and = λ d s. refl;
  w-not = λ d s. refl;
  w-comma = λ d s. refl;
  w-sign = λ d o s. refl;
  w-number = λ d n s. refl;
  w-value = λ d x s h. refl;
  w-attribute = λ d x a r h. refl;
  w-aggregate = λ d f x a r. refl;
  w-aggregate_if = λ d f x a s. refl;
  w-some = λ d x q s. refl;
  w-left = λ d s. refl;
  w-right = λ d s. refl;
  w-end = λ d s. refl;
  f-not = λ d c. refl;
  f-and = λ d c e. refl;
  f-or = λ d c e. refl;
  f-compare = λ d o a b. refl;
  f-some = λ d x q c. refl;
  f-inn = λ d c. refl;
  o-number = λ d n. refl;
  o-value = λ d w. refl;
  o-target = λ d t. refl;
  t-aggregate = λ d f x a. refl;
  t-aggregate_if = λ d f x a c. refl;
}
