-- The reader undoes the bytes of conditions and terms, and reads nothing else.
use Prim.Native.Nat.{ℕ, zero, suc, ◌≤◌}
use mathlib.Core.Bool.{Bool, true, false, cond}
use mathlib.Core.List.{List, [], ◌∷◌}
use mathlib.Core.Option.{Option, none, some}
use mathlib.Core.Path.{◌≡◌, refl, ◌∙◌, ap, subst₂}
use lib.Dec.{eqb}
use native.Mathlib.Omega.{arith}
use borrow.Author.Tests.{eqb-true}
use Rattle.model.specs.Kinds.{Kind, k-range, k-true, k-false, k-not, k-and, k-or, k-compare, k-some, k-constant, k-attribute, k-aggregate, k-permit, code, find, kind_of}
use Rattle.model.specs.Syntax.{Condition, Term, TRUE, FALSE, NOT, AND, OR, COMPARE, SOME, CONSTANT, ATTRIBUTE, AGGREGATE, is_operator, is_function, WellFormed, WellFormedT, levels, levels_t}
use Rattle.model.specs.Encoding.{encode, encode_t, Read, fail, ok, then, byte, need, condition_body, term_body, on_kind, read_condition, read_term}

mutual
  unfolding levels WellFormed encode read_condition on_kind condition_body term_body kind_of find

  pub read-encode : (c : Condition) (f : ℕ) (r : List ℕ) → WellFormed c → levels c ≤ f → read_condition f (encode c r) ≡ ok c r
  read-encode TRUE zero r w h = absurd (omega arith)
  read-encode TRUE (suc f) r w h = refl
  read-encode FALSE zero r w h = absurd (omega arith)
  read-encode FALSE (suc f) r w h = refl
  read-encode (NOT c) zero r w h = absurd (omega arith)
  read-encode (NOT c) (suc f) r w h = rw (read-encode c f r w (omega arith))
  read-encode (AND c d) zero r w h = absurd (omega arith)
  read-encode (AND c d) (suc f) r w h = rw (read-encode c f (encode d r) w.0 (omega arith), read-encode d f r w.1 (omega arith))
  read-encode (OR c d) zero r w h = absurd (omega arith)
  read-encode (OR c d) (suc f) r w h = rw (read-encode c f (encode d r) w.0 (omega arith), read-encode d f r w.1 (omega arith))
  read-encode (COMPARE o s t) zero r w h = absurd (omega arith)
  read-encode (COMPARE o s t) (suc f) r w h = rw (w.0, read-encode_t s f (encode_t t r) w.1 (omega arith), read-encode_t t f r w.2 (omega arith))
  read-encode (SOME v q c) zero r w h = absurd (omega arith)
  read-encode (SOME v q c) (suc f) r w h = rw (read-encode c f r w (omega arith))

  pub read-encode_t : (t : Term) (f : ℕ) (r : List ℕ) → WellFormedT t → levels_t t ≤ f → read_term f (encode_t t r) ≡ ok t r
  read-encode_t (CONSTANT a b c d) zero r w h = absurd (omega arith)
  read-encode_t (CONSTANT a b c d) (suc f) r w h = refl
  read-encode_t (ATTRIBUTE v a) zero r w h = absurd (omega arith)
  read-encode_t (ATTRIBUTE v a) (suc f) r w h = refl
  read-encode_t (AGGREGATE g v q a c) zero r w h = absurd (omega arith)
  read-encode_t (AGGREGATE g v q a c) (suc f) r w h = rw (w.0, read-encode c f r w.1 (omega arith))

-- the converse: what is read are the bytes of what was read
pub record IsC (bs : List ℕ) (c : Condition) (r : List ℕ) (n : ℕ) : Type 0 where
  pub bytes : bs ≡ encode c r
  pub well : WellFormed c
  pub deep : levels c ≤ n

pub record IsT (bs : List ℕ) (t : Term) (r : List ℕ) (n : ℕ) : Type 0 where
  pub bytes : bs ≡ encode_t t r
  pub well : WellFormedT t
  pub deep : levels_t t ≤ n

pub never : {A X : Type 0} (a : A) (r : List ℕ) → fail ≡ ok a r → X
never a r h = let z : ◌≡◌ {A = ℕ} 0 1 = cc in absurd (omega arith)

-- in continuation style: what is found are variables, not projections, so that terms stay small
module _ {A B X : Type 0} (b : B) (r : List ℕ) where
  pub then-inv : (g : Read A) (k : A → List ℕ → Read B) → then g k ≡ ok b r → ((a : A) (s : List ℕ) → g ≡ ok a s → k a s ≡ ok b r → X) → X
  then-inv fail k h z = never b r h
  then-inv (ok a s) k h z = z a s refl h

module _ {B X : Type 0} (b : B) (r : List ℕ) where
  pub byte-inv : (bs : List ℕ) (k : ℕ → List ℕ → Read B) → byte bs k ≡ ok b r → ((x : ℕ) (s : List ℕ) → bs ≡ x ∷ s → k x s ≡ ok b r → X) → X
  byte-inv [] k h z = never b r h
  byte-inv (x ∷ s) k h z = z x s refl h

  pub need-inv : (t : Bool) (g : Read B) → need t g ≡ ok b r → (t ≡ true → g ≡ ok b r → X) → X
  need-inv true g h z = z refl h
  need-inv false g h z = never b r h

pub find-inv : (k : ℕ) (xs : List Kind) (x : Kind) → find k xs ≡ some x → k ≡ code x
unfolding find
find-inv k [] x h = let z : ◌≡◌ {A = ℕ} 0 1 = cc in absurd (omega arith)
find-inv k (y ∷ ys) x h = go (eqb k (code y)) refl h (find-inv k ys x)
  where
    go : (b : Bool) → eqb k (code y) ≡ b → cond b (some y) (find k ys) ≡ some x → (find k ys ≡ some x → k ≡ code x) → k ≡ code x
    go true p h ih = let q : y ≡ x = cc in eqb-true k (code y) p ∙ ap code q
    go false p h ih = ih h

give_c : {bs : List ℕ} {c d : Condition} {r s : List ℕ} {n : ℕ} → IsC bs c r n → ok c r ≡ ok d s → IsC bs d s n
give_c {bs} {c} {d} {r} {s} {n} i h = let p : c ≡ d = cc in let q : r ≡ s = cc in subst₂ (λ (x : Condition) (y : List ℕ). IsC bs x y n) p q i

give_t : {bs : List ℕ} {c d : Term} {r s : List ℕ} {n : ℕ} → IsT bs c r n → ok c r ≡ ok d s → IsT bs d s n
give_t {bs} {c} {d} {r} {s} {n} i h = let p : c ≡ d = cc in let q : r ≡ s = cc in subst₂ (λ (x : Term) (y : List ℕ). IsT bs x y n) p q i

module _ (pc : List ℕ → Read Condition) (pt : List ℕ → Read Term) (n : ℕ)
    (hc : (bs : List ℕ) (c : Condition) (r : List ℕ) → pc bs ≡ ok c r → IsC bs c r n)
    (ht : (bs : List ℕ) (t : Term) (r : List ℕ) → pt bs ≡ ok t r → IsT bs t r n) where
  cond-inv : (x : Kind) (bs : List ℕ) (c : Condition) (r : List ℕ) → condition_body pc pt x bs ≡ ok c r → IsC (code x ∷ bs) c r (suc n)
  unfolding condition_body encode WellFormed levels
  cond-inv k-true bs c r h = give_c (record { bytes = refl; well = tt; deep = omega arith }) h
  cond-inv k-false bs c r h = give_c (record { bytes = refl; well = tt; deep = omega arith }) h
  cond-inv k-not bs c r h =
      then-inv c r (pc bs) _ h λ a s p k.
      let i = hc bs a s p in
      give_c (record { bytes = ap (λ l. 18 ∷ l) i.bytes; well = i.well; deep = omega arith }) k
  cond-inv k-and bs c r h =
      then-inv c r (pc bs) _ h λ a s p k.
      then-inv c r (pc s) _ k λ d u q l.
      let i = hc bs a s p in
      let j = hc s d u q in
      give_c (record { bytes = ap (λ l. 19 ∷ l) (i.bytes ∙ ap (encode a) j.bytes); well = (i.well, j.well); deep = omega arith }) l
  cond-inv k-or bs c r h =
      then-inv c r (pc bs) _ h λ a s p k.
      then-inv c r (pc s) _ k λ d u q l.
      let i = hc bs a s p in
      let j = hc s d u q in
      give_c (record { bytes = ap (λ l. 20 ∷ l) (i.bytes ∙ ap (encode a) j.bytes); well = (i.well, j.well); deep = omega arith }) l
  cond-inv k-compare bs c r h =
      byte-inv c r bs _ h λ o s p k.
      need-inv c r (is_operator o) _ k λ w l.
      then-inv c r (pt s) _ l λ a u q m.
      then-inv c r (pt u) _ m λ d v y z.
      let i = ht s a u q in
      let j = ht u d v y in
      give_c (record { bytes = ap (λ l. 21 ∷ l) (p ∙ ap (λ l. o ∷ l) (i.bytes ∙ ap (encode_t a) j.bytes)); well = (w, i.well, j.well); deep = omega arith }) z
  cond-inv k-some bs c r h =
      byte-inv c r bs _ h λ v s p k.
      byte-inv c r s _ k λ q u p' l.
      then-inv c r (pc u) _ l λ a t y z.
      let i = hc u a t y in
      give_c (record { bytes = ap (λ l. 22 ∷ l) (p ∙ ap (λ l. v ∷ l) (p' ∙ ap (λ l. q ∷ l) i.bytes)); well = i.well; deep = omega arith }) z
  cond-inv k-constant bs c r h = never c r h
  cond-inv k-range bs c r h = never c r h
  cond-inv k-permit bs c r h = never c r h
  cond-inv k-attribute bs c r h = never c r h
  cond-inv k-aggregate bs c r h = never c r h

  term-inv : (x : Kind) (bs : List ℕ) (t : Term) (r : List ℕ) → term_body pc pt x bs ≡ ok t r → IsT (code x ∷ bs) t r (suc n)
  unfolding term_body encode WellFormed levels
  term-inv k-range bs c r h = never c r h
  term-inv k-permit bs c r h = never c r h
  term-inv k-true bs c r h = never c r h
  term-inv k-false bs c r h = never c r h
  term-inv k-not bs c r h = never c r h
  term-inv k-and bs c r h = never c r h
  term-inv k-or bs c r h = never c r h
  term-inv k-compare bs c r h = never c r h
  term-inv k-some bs c r h = never c r h
  term-inv k-constant bs t r h =
      byte-inv t r bs _ h λ a s p k.
      byte-inv t r s _ k λ b s₁ p₁ k₁.
      byte-inv t r s₁ _ k₁ λ c s₂ p₂ k₂.
      byte-inv t r s₂ _ k₂ λ d s₃ p₃ k₃.
      give_t (record { bytes = ap (λ l. 32 ∷ l) (cc); well = tt; deep = omega arith }) k₃
  term-inv k-attribute bs t r h =
      byte-inv t r bs _ h λ a s p k.
      byte-inv t r s _ k λ b s₁ p₁ k₁.
      give_t (record { bytes = ap (λ l. 33 ∷ l) (cc); well = tt; deep = omega arith }) k₁
  term-inv k-aggregate bs t r h =
      byte-inv t r bs _ h λ f s p k.
      need-inv t r (is_function f) _ k λ w k₀.
      byte-inv t r s _ k₀ λ v s₁ p₁ k₁.
      byte-inv t r s₁ _ k₁ λ q s₂ p₂ k₂.
      byte-inv t r s₂ _ k₂ λ a s₃ p₃ k₃.
      then-inv t r (pc s₃) _ k₃ λ c s₄ p₄ k₄.
      let i = hc s₃ c s₄ p₄ in
      let e = i.bytes in
      give_t (record { bytes = ap (λ l. 34 ∷ l) (cc); well = (w, i.well); deep = omega arith }) k₄

module _ {A X : Type 0} (g : Kind → List ℕ → Read A) where
  kind-inv : (bs : List ℕ) (a : A) (r : List ℕ) → on_kind g bs ≡ ok a r → ((x : Kind) (s : List ℕ) → bs ≡ code x ∷ s → g x s ≡ ok a r → X) → X
  unfolding on_kind kind_of
  kind-inv [] a r h z = never a r h
  kind-inv (k ∷ s) a r h z = go (kind_of k) refl h
    where
      go : (o : Option Kind) → kind_of k ≡ o → elim o as (λ _. Read A) [ none ↦ fail | some x ↦ g x s ] ≡ ok a r → X
      go none p h = never a r h
      go (some x) p h = z x s (ap (λ b. b ∷ s) (find-inv k _ x p)) h

mutual
  unfolding read_condition

  pub read-inverse : (f : ℕ) (bs : List ℕ) (c : Condition) (r : List ℕ) → read_condition f bs ≡ ok c r → IsC bs c r f
  read-inverse zero bs c r h = never c r h
  read-inverse (suc f) bs c r h =
      kind-inv (condition_body (λ x. read_condition f x) (λ x. read_term f x)) bs c r h λ x s p k.
      rw p (cond-inv (λ x. read_condition f x) (λ x. read_term f x) f (λ bs c r h. read-inverse f bs c r h) (λ bs c r h. read-inverse_t f bs c r h) x s c r k)

  pub read-inverse_t : (f : ℕ) (bs : List ℕ) (t : Term) (r : List ℕ) → read_term f bs ≡ ok t r → IsT bs t r f
  read-inverse_t zero bs c r h = never c r h
  read-inverse_t (suc f) bs c r h =
      kind-inv (term_body (λ x. read_condition f x) (λ x. read_term f x)) bs c r h λ x s p k.
      rw p (term-inv (λ x. read_condition f x) (λ x. read_term f x) f (λ bs c r h. read-inverse f bs c r h) (λ bs c r h. read-inverse_t f bs c r h) x s c r k)
