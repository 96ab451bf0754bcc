-- Parts of a text put together: a list, a condition and a whole text grow at their ends.
use Prim.Native.Nat.{ℕ}
use mathlib.Core.List.{List, [], ◌∷◌, ◌++◌, append_assoc}
use mathlib.Core.Option.{Option, none, some}
use mathlib.Core.Path.{◌≡◌, refl, sym, ◌∙◌, ap, subst}
use Rattle.quel.specs.Results.{Word, Several, each}
use Rattle.quel.specs.Tokens.{Key, NOT, SOME, IN, or, and, left, right, comma, semicolon, point, Function, Sign, Token, name, number, function, sign, key}
use Rattle.quel.specs.Tree.{Formula, Operand, Target, Not, And, Or, Compare, Some, Number, Value, Of, Attribute, Aggregate, AggregateIf}
use Rattle.quel.specs.Grammar.{IsCondition, Ors, IsConjunct, Ands, IsFactor, IsOperand, IsTarget, condition, no_or, one-or, conjunct, no-and, one-and, negated, exists, within, compared, a-number, a-value, a-target, attribute, aggregate, aggregate_if, Repeated, no_item, one-item, Listed, listed, IsName, a-name, IsRange, range}
use Rattle.parts.specs.Parts.{Part, IsBracket, several, Listing, joined, Opened}

-- one item more
module _ {A : Type 0} (k : Key) (Is : List Token → A → List Token → Type 0) where
  repeated-last : {s m r : List Token} {xs : List A} {x : A} → Repeated k Is s xs (key k ∷ m) → Is m x r → Repeated k Is s (xs ++ (x ∷ [])) r
  repeated-last no_item q = one-item q no_item
  repeated-last (one-item p q) z = one-item p (repeated-last q z)

  abbrev pub and_last : Several A → A → Several A
  and_last xs x = record { first = xs.first; others = xs.others ++ (x ∷ []) }

  listed-last : {s m r : List Token} {xs : Several A} {x : A} → Listed k Is s xs (key k ∷ m) → Is m x r → Listed k Is s (and_last xs x) r
  listed-last (listed p q) z = listed p (repeated-last q z)

  pub part-first : {ts : List Token} {x : A} → Part Is ts x → Part (Listed k Is) ts (record { first = x; others = [] })
  part-first p = record { derived = λ r. listed (p.derived r) no_item }

  pub part-last : {ts us : List Token} {xs : Several A} {x : A} → Part (Listed k Is) ts xs → Part Is us x → Part (Listed k Is) (ts ++ (key k ∷ us)) (and_last xs x)
  part-last {ts} {us} {xs} {x} p q = record {
    derived = λ r. subst (λ (s : List Token). Listed k Is s (and_last xs x) r) (sym (append_assoc ts (key k ∷ us) r)) (listed-last (p.derived (key k ∷ (us ++ r))) (q.derived r));
  }

  pub listing_none : Listing k Is [] []
  listing_none = record { derived = λ us x p. part-first p }

  pub listing-more : {ts us : List Token} {xs : List A} {x : A} → Listing k Is ts xs → Part Is us x → Listing k Is (ts ++ (us ++ (key k ∷ []))) (xs ++ (x ∷ []))
  listing-more {ts} {us} {xs} {x} p q = record {
    derived = λ vs y z. subst (λ (s : List Token). Part (Listed k Is) s (several (xs ++ (x ∷ [])) y)) (tokens-of vs) (subst (Part (Listed k Is) ((ts ++ us) ++ (key k ∷ vs))) (one_more xs y) (part-last (p.derived us x q) z));
  }
    where
      tokens-of : (vs : List Token) → (ts ++ us) ++ (key k ∷ vs) ≡ (ts ++ (us ++ (key k ∷ []))) ++ vs
      tokens-of vs = append_assoc ts us (key k ∷ vs) ∙ ap (λ (l : List Token). ts ++ l) (sym (append_assoc us (key k ∷ []) vs)) ∙ sym (append_assoc ts (us ++ (key k ∷ [])) vs)

      one_more : (xs : List A) (y : A) → and_last (several xs x) y ≡ several (xs ++ (x ∷ [])) y
      one_more [] y = refl
      one_more (w ∷ xs) y = refl

pub each-several : {A : Type 0} (xs : List A) (x : A) → each (several xs x) ≡ xs ++ (x ∷ [])
each-several [] x = refl
each-several (y ∷ xs) x = refl

-- the RANGE list
pub part-name : (w : Word) → Part IsName (name w ∷ []) w
part-name w = record { derived = λ r. a-name }

pub part-range : {ts : List Token} {xs : Several Word} (q : Word) → Part (Listed comma IsName) ts xs → Part IsRange (name q ∷ key left ∷ (ts ++ (key right ∷ []))) (record { relation = q; symbols = xs })
part-range {ts} {xs} q p = record {
  derived = λ r. subst (λ (s : List Token). IsRange (name q ∷ key left ∷ s) (record { relation = q; symbols = xs }) r) (sym (append_assoc ts (key right ∷ []) r)) (range (p.derived (key right ∷ r)));
}

-- terms, comparisons
pub part-use : (x a : Word) → Part IsTarget (name x ∷ key point ∷ name a ∷ []) (Attribute x a)
part-use x a = record { derived = λ r. attribute }

pub part-target : {ts : List Token} {t : Target} → Part IsTarget ts t → Part IsOperand ts (Of t)
part-target p = record { derived = λ r. a-target (p.derived r) }

pub part-number : (n : ℕ) → Part IsOperand (number n ∷ []) (Number n)
part-number n = record { derived = λ r. a-number }

pub part-value : (w : Word) → Part IsOperand (name w ∷ []) (Value w)
part-value w = record { derived = λ r. a-value }

pub part-compare : {ts us : List Token} {a b : Operand} (o : Sign) → Part IsOperand ts a → Part IsOperand us b → Part IsFactor (ts ++ (sign o ∷ us)) (Compare o a b)
part-compare {ts} {us} {a} {b} o p q = record {
  derived = λ r. subst (λ (s : List Token). IsFactor s (Compare o a b) r) (sym (append_assoc ts (sign o ∷ us) r)) (compared (p.derived (sign o ∷ (us ++ r))) (q.derived r));
}

pub part-not : {ts : List Token} {c : Formula} → Part IsFactor ts c → Part IsFactor (key NOT ∷ ts) (Not c)
part-not p = record { derived = λ r. negated (p.derived r) }

-- a condition and the parenthesis that closes it
pub part-bracket : {ts : List Token} {c : Formula} → Part IsCondition ts c → Part IsBracket (ts ++ (key right ∷ [])) c
part-bracket {ts} {c} p = record { derived = λ r. subst (λ (s : List Token). IsCondition s c (key right ∷ r)) (sym (append_assoc ts (key right ∷ []) r)) (p.derived (key right ∷ r)) }

pub part-within : {ts : List Token} {c : Formula} → Part IsBracket ts c → Part IsFactor (key left ∷ ts) c
part-within p = record { derived = λ r. within (p.derived r) }

pub part-some : {ts : List Token} {c : Formula} (x q : Word) → Part IsBracket ts c → Part IsFactor (key SOME ∷ name x ∷ key IN ∷ name q ∷ key left ∷ ts) (Some x q c)
part-some x q p = record { derived = λ r. exists (p.derived r) }

pub part-aggregate : (f : Function) (x a : Word) → Part IsTarget (function f ∷ key left ∷ name x ∷ key point ∷ name a ∷ key right ∷ []) (Aggregate f x a)
part-aggregate f x a = record { derived = λ r. aggregate }

pub part-aggregate_if : {ts : List Token} {c : Formula} (f : Function) (x a : Word) → Part IsBracket ts c → Part IsTarget (function f ∷ key left ∷ name x ∷ key point ∷ name a ∷ key semicolon ∷ ts) (AggregateIf f x a c)
part-aggregate_if f x a p = record { derived = λ r. aggregate_if (p.derived r) }

-- one factor more, one conjunct more
ands-last : {s m r : List Token} {c d e : Formula} → Ands c s d (key and ∷ m) → IsFactor m e r → Ands c s (And d e) r
ands-last no-and z = one-and z no-and
ands-last (one-and p q) z = one-and p (ands-last q z)

ors-last : {s m r : List Token} {c d e : Formula} → Ors c s d (key or ∷ m) → IsConjunct m e r → Ors c s (Or d e) r
ors-last no_or z = one-or z no_or
ors-last (one-or p q) z = one-or p (ors-last q z)

and_last_lem : {s m r : List Token} {c d : Formula} → IsConjunct s c (key and ∷ m) → IsFactor m d r → IsConjunct s (And c d) r
and_last_lem (conjunct p q) z = conjunct p (ands-last q z)

or-last : {s m r : List Token} {c d : Formula} → IsCondition s c (key or ∷ m) → IsConjunct m d r → IsCondition s (Or c d) r
or-last (condition p q) z = condition p (ors-last q z)

pub part-factor : {ts : List Token} {c : Formula} → Part IsFactor ts c → Part IsConjunct ts c
part-factor p = record { derived = λ r. conjunct (p.derived r) no-and }

pub part-and : {ts us : List Token} {c d : Formula} → Part IsConjunct ts c → Part IsFactor us d → Part IsConjunct (ts ++ (key and ∷ us)) (And c d)
part-and {ts} {us} {c} {d} p q = record {
  derived = λ r. subst (λ (s : List Token). IsConjunct s (And c d) r) (sym (append_assoc ts (key and ∷ us) r)) (and_last_lem (p.derived (key and ∷ (us ++ r))) (q.derived r));
}

pub opened-none : Opened [] none
opened-none = record { derived = λ s r a p. condition p no_or }

pub opened-or : {ts us : List Token} {o : Option Formula} {a : Formula} → Opened ts o → Part IsConjunct us a → Opened (ts ++ (us ++ (key or ∷ []))) (some (joined o a))
opened-or {ts} {us} {o} {a} p q = record {
  derived = λ s r b z. subst (λ (l : List Token). IsCondition l (Or (joined o a) b) r)
      (ap (λ (l : List Token). ts ++ l) (sym (append_assoc us (key or ∷ []) s)) ∙ sym (append_assoc ts (us ++ (key or ∷ [])) s))
      (or-last (p.derived (us ++ (key or ∷ s)) (key or ∷ s) a (q.derived (key or ∷ s))) z);
}

pub part-condition : {ts us : List Token} {o : Option Formula} {a : Formula} → Opened ts o → Part IsConjunct us a → Part IsCondition (ts ++ us) (joined o a)
part-condition {ts} {us} {o} {a} p q = record { derived = λ r. subst (λ (l : List Token). IsCondition l (joined o a) r) (sym (append_assoc ts us r)) (p.derived (us ++ r) r a (q.derived r)) }
