-- The machine beside the grammar's readers, one at a time.
use Prim.Native.Nat.{ℕ, zero, suc, ◌+◌, ◌≤◌, ◌<◌}
use mathlib.Core.Bool.{Bool, true, false, cond}
use mathlib.Core.List.{List, [], ◌∷◌}
use mathlib.Core.Path.{◌≡◌, refl, sym, ◌∙◌, ap, subst}
use native.Mathlib.Omega.{arith}
use lib.Dec.{eqb, ltb}
use lib.ListN.{length}
use borrow.Author.Tests.{eqb-true, eqb-false, eq-eqb, ne_eqb}
use Rattle.quel.specs.Results.{fail, ok, then, Several, Word}
use Rattle.quel.specs.Tokens.{Key, or, and, Token, name, number, function, sign, key, key_code}
use Rattle.quel.specs.Reader.{Reads, same_key, starts, if_key, a_name, read_repeated, read_listed}
use Rattle.quel.proofs.Results.{never, ok-left, then-inv, key-inv, same_key_lem}
use Rattle.reader.specs.Verdict.{given}
use Rattle.reader.specs.Machine.{key_sort, sort_of, move, may_end, accepts}

-- what a reader gives: refused where the machine is, else the machine goes on with fewer than l tokens
abbrev Holds : {B : Type 0} → ℕ → Reads B → Bool → (List Token → Bool) → Type 0
Holds l fail x K = x ≡ false
Holds l (ok b r) x K = (x ≡ K r) × (length r < l)

pub record Agree {B : Type 0} (l : ℕ) (p : Reads B) (x : Bool) (K : List Token → Bool) : Type 0 where
  holds : Holds l p x K

-- what is read to the end
pub verdict : {B : Type 0} {l : ℕ} (p : Reads B) {x : Bool} → Agree l p x (λ _. true) → x ≡ given p
verdict fail a = a.holds
verdict (ok b r) a = a.holds.0

pub refused : {B : Type 0} {l : ℕ} {x : Bool} {K : List Token → Bool} → x ≡ false → Agree {B = B} l fail x K
refused e = record { holds = e }

pub reads : {B : Type 0} {l : ℕ} {b : B} {r : List Token} {K : List Token → Bool} → length r < l → Agree l (ok b r) (K r) K
reads h = record { holds = (refl, h) }

pub agree_at : {B : Type 0} {l : ℕ} {p : Reads B} {x y : Bool} {K : List Token → Bool} → x ≡ y → Agree l p y K → Agree l p x K
agree_at {B} {l} {p} {x} {y} {K} e a = subst (λ (z : Bool). Agree l p z K) (sym e) a

pub agree-more : {B : Type 0} {l m : ℕ} {p : Reads B} {x : Bool} {K : List Token → Bool} → l ≤ m → Agree l p x K → Agree m p x K
agree-more {B} {l} {m} {p} {x} {K} h a = go p a
  where
    go : (p : Reads B) → Agree l p x K → Agree m p x K
    go fail a = record { holds = a.holds }
    go (ok b r) a = record { holds = (a.holds.0, omega (arith, a.holds.1)) }

-- one after the other
pub bind : {B C : Type 0} {l m : ℕ} {p : Reads B} {f : B → List Token → Reads C} {x : Bool} {J K : List Token → Bool}
    → Agree l p x J → ((b : B) (r : List Token) → p ≡ ok b r → length r < l → Agree m (f b r) (J r) K) → Agree m (then p f) x K
bind {B} {l} {m} {p} {f} {x} {J} {K} a g = go p a g
  where
    go : (p : Reads B) → Agree l p x J → ((b : B) (r : List Token) → p ≡ ok b r → length r < l → Agree m (f b r) (J r) K) → Agree m (then p f) x K
    go fail a g = record { holds = a.holds }
    go (ok b r) a g = agree_at a.holds.0 (g b r refl a.holds.1)

-- a token of a key
abbrev pub is_key : Key → Token → Bool
is_key k (name w) = false
is_key k (number n) = false
is_key k (function f) = false
is_key k (sign o) = false
is_key k (key j) = same_key k j

abbrev pub is_name : Token → Bool
is_name (name w) = true
is_name (number n) = false
is_name (function f) = false
is_name (sign o) = false
is_name (key j) = false

codes : (c d : ℕ) → eqb (13 + c) (13 + d) ≡ eqb c d
codes c d = go (eqb c d) refl
  where
    go : (x : Bool) → eqb c d ≡ x → eqb (13 + c) (13 + d) ≡ x
    go true e = let h = eqb-true c d e in eq-eqb (13 + c) (13 + d) (omega arith)
    go false e = ne_eqb (13 + c) (13 + d) (λ f. eqb-false c d e (omega arith))

key-codes : (c d : ℕ) → (c ≡ 5 → ⊥) → (c ≡ 6 → ⊥) → eqb (13 + c) (key_sort d) ≡ eqb c d
key-codes c d h₅ h₆ = go (eqb d 6) refl
  where
    go : (x : Bool) → eqb d 6 ≡ x → eqb (13 + c) (cond x 18 (13 + d)) ≡ eqb c d
    go true e = let h = eqb-true d 6 e in ne_eqb (13 + c) 18 (λ f. h₅ (omega arith)) ∙ sym (ne_eqb c d (λ f. h₆ (omega arith)))
    go false e = codes c d

pub key-sort : (k : Key) → (key_code k ≡ 5 → ⊥) → (key_code k ≡ 6 → ⊥) → (t : Token) → eqb (13 + key_code k) (sort_of t) ≡ is_key k t
key-sort k h₅ h₆ (name w) = ne_eqb (13 + key_code k) 0 (λ e. omega arith)
key-sort k h₅ h₆ (number n) = ne_eqb (13 + key_code k) 1 (λ e. omega arith)
key-sort k h₅ h₆ (function f) = ne_eqb (13 + key_code k) 2 (λ e. omega arith)
key-sort k h₅ h₆ (sign o) = ne_eqb (13 + key_code k) 7 (λ e. omega arith)
key-sort k h₅ h₆ (key j) = key-codes (key_code k) (key_code j) h₅ h₆

-- no key is a name, a number or a function
pub low-sort : (a c : ℕ) → a ≤ 12 → eqb a (key_sort c) ≡ false
low-sort a c h = go (eqb c 6)
  where
    go : (x : Bool) → eqb a (cond x 18 (13 + c)) ≡ false
    go true = ne_eqb a 18 (λ e. omega arith)
    go false = ne_eqb a (13 + c) (λ e. omega arith)

pub name-sort : (t : Token) → eqb 0 (sort_of t) ≡ is_name t
name-sort (name w) = refl
name-sort (number n) = refl
name-sort (function f) = refl
name-sort (sign o) = refl
name-sort (key j) = low-sort 0 (key_code j) (omega arith)

starts-key : (k : Key) (t : Token) (r : List Token) → starts k (t ∷ r) ≡ is_key k t
unfolding starts
starts-key k (name w) r = refl
starts-key k (number n) r = refl
starts-key k (function f) r = refl
starts-key k (sign o) r = refl
starts-key k (key j) r = refl

pub no_key : (k : Key) → (key_code k ≡ 5 → ⊥) → (key_code k ≡ 6 → ⊥) → (t : Token) (r : List Token) → starts k (t ∷ r) ≡ false → eqb (13 + key_code k) (sort_of t) ≡ false
no_key k h₅ h₆ t r f = key-sort k h₅ h₆ t ∙ (sym (starts-key k t r) ∙ f)

-- neither V nor ^
pub no_join : (t : Token) (r : List Token) → starts or (t ∷ r) ≡ false → starts and (t ∷ r) ≡ false → eqb 18 (sort_of t) ≡ false
unfolding starts
no_join (name w) r i j = refl
no_join (number n) r i j = refl
no_join (function f) r i j = refl
no_join (sign o) r i j = refl
no_join (key k) r i j = go (eqb (key_code k) 6) refl
  where
    go : (x : Bool) → eqb (key_code k) 6 ≡ x → eqb 18 (cond x 18 (13 + key_code k)) ≡ false
    go true e = let h = eqb-true (key_code k) 6 e in absurd (eqb-false 6 (key_code k) j (sym h))
    go false e = ne_eqb 18 (13 + key_code k) (λ f. eqb-false 5 (key_code k) i (omega arith))

-- where no mode is left
pub dead : (σ : List ℕ) (ts : List Token) → accepts σ 0 ts ≡ false
unfolding accepts move
dead σ [] = refl
dead σ (t ∷ ts) = dead σ ts

goes : (σ : List ℕ) (m : ℕ) (t : Token) (ts : List Token) (x : ℕ) → move m (sort_of t) ≡ x → ltb x 32 ≡ true → accepts σ m (t ∷ ts) ≡ accepts σ x ts
unfolding accepts
goes σ m t ts x e h = rw (accepts, e, h)

pub stops : (σ : List ℕ) (m : ℕ) (t : Token) (ts : List Token) → move m (sort_of t) ≡ 0 → accepts σ m (t ∷ ts) ≡ false
stops σ m t ts e = goes σ m t ts 0 e refl ∙ dead σ ts

-- if_key by cases, and a mode in which one thing alone may come
module _ {B : Type 0} {l : ℕ} {K : List Token → Bool} where
  pub by_key : (k : Key) (s : List Token) {g : List Token → Reads B} {z : Reads B} {x : Bool}
      → ((r : List Token) → s ≡ key k ∷ r → Agree l (g r) x K) → (starts k s ≡ false → Agree l z x K) → Agree l (if_key k s g z) x K
  unfolding if_key starts
  by_key k [] y n = n refl
  by_key k (name w ∷ r) y n = n refl
  by_key k (number v ∷ r) y n = n refl
  by_key k (function f ∷ r) y n = n refl
  by_key k (sign o ∷ r) y n = n refl
  by_key k (key j ∷ r) {g} {z} {x} y n = go (same_key k j) refl
    where
      go : (b : Bool) → same_key k j ≡ b → Agree {B = B} l (elim b as (λ _. Reads B) [ true ↦ g r | false ↦ z ]) x K
      go true e = y r (ap (λ (i : Key). key i ∷ r) (sym (same_key_lem k j e)))
      go false e = n e

-- a mode that goes to x at one thing alone
pub record Only (m x : ℕ) (f : Token → Bool) : Type 0 where
  pub moves : (t : Token) → move m (sort_of t) ≡ cond (f t) x 0
  pub no_end : may_end m ≡ false
  pub on : ltb x 32 ≡ true

ended : (σ : List ℕ) (m : ℕ) → may_end m ≡ false → accepts σ m [] ≡ false
unfolding accepts
ended σ m e = rw e

module _ {B : Type 0} {l : ℕ} {K : List Token → Bool} (σ : List ℕ) {m x : ℕ} where
  pub wants : (k : Key) → Only m x (is_key k) → (s : List Token) {g : List Token → Reads B}
      → ((r : List Token) → length r < length s → Agree l (g r) (accepts σ x r) K) → Agree l (if_key k s g fail) (accepts σ m s) K
  unfolding if_key
  wants k h [] y = refused (ended σ m h.no_end)
  wants k h (name w ∷ r) y = refused (stops σ m (name w) r (h.moves (name w)))
  wants k h (number v ∷ r) y = refused (stops σ m (number v) r (h.moves (number v)))
  wants k h (function f ∷ r) y = refused (stops σ m (function f) r (h.moves (function f)))
  wants k h (sign o ∷ r) y = refused (stops σ m (sign o) r (h.moves (sign o)))
  wants k h (key j ∷ r) {g} y = go (same_key k j) refl
    where
      go : (b : Bool) → same_key k j ≡ b → Agree {B = B} l (elim b as (λ _. Reads B) [ true ↦ g r | false ↦ fail ]) (accepts σ m (key j ∷ r)) K
      go true e = agree_at (goes σ m (key j) r x (h.moves (key j) ∙ rw e) h.on) (y r (omega arith))
      go false e = refused (stops σ m (key j) r (h.moves (key j) ∙ rw e))

  pub wants-name : Only m x is_name → (s : List Token) {g : Word → List Token → Reads B}
      → ((w : Word) (r : List Token) → length r < length s → Agree l (g w r) (accepts σ x r) K) → Agree l (a_name s g) (accepts σ m s) K
  unfolding a_name
  wants-name h [] y = refused (ended σ m h.no_end)
  wants-name h (name w ∷ r) y = agree_at (goes σ m (name w) r x (h.moves (name w)) h.on) (y w r (omega arith))
  wants-name h (number v ∷ r) y = refused (stops σ m (number v) r (h.moves (number v)))
  wants-name h (function f ∷ r) y = refused (stops σ m (function f) r (h.moves (function f)))
  wants-name h (sign o ∷ r) y = refused (stops σ m (sign o) r (h.moves (sign o)))
  wants-name h (key j ∷ r) y = refused (stops σ m (key j) r (h.moves (key j)))

abbrev pub is_sign : Token → Bool
is_sign (name w) = false
is_sign (number n) = false
is_sign (function f) = false
is_sign (sign o) = true
is_sign (key j) = false

-- the modes of one key
pub only-key : (k : Key) (m x : ℕ) → (key_code k ≡ 5 → ⊥) → (key_code k ≡ 6 → ⊥) → ((s : ℕ) → move m s ≡ cond (eqb (13 + key_code k) s) x 0) → may_end m ≡ false → ltb x 32 ≡ true → Only m x (is_key k)
only-key k m x h₅ h₆ e n o = record { moves = λ t. e (sort_of t) ∙ ap (λ (b : Bool). cond b x 0) (key-sort k h₅ h₆ t); no_end = n; on = o }

pub only-name : (m x : ℕ) → ((s : ℕ) → move m s ≡ cond (eqb 0 s) x 0) → may_end m ≡ false → ltb x 32 ≡ true → Only m x is_name
only-name m x e n o = record { moves = λ t. e (sort_of t) ∙ ap (λ (b : Bool). cond b x 0) (name-sort t); no_end = n; on = o }

-- after items in a row, the next thing is no item's mark
module _ {A : Type 0} (k : Key) (item : List Token → Reads A) where
  pub repeated-stops : (n : ℕ) (s r : List Token) (xs : List A) → read_repeated k item n s ≡ ok xs r → starts k r ≡ false
  unfolding read_repeated
  repeated-stops zero s r xs h = never xs r h
  repeated-stops (suc n) s r xs h =
      key-inv xs r k s _ _ h
      (λ s₁ e h. then-inv xs r (item s₁) _ h λ x m e₁ h. then-inv xs r (read_repeated k item n m) _ h λ ys u e₂ h. rw (← ok-left h) (repeated-stops n m u ys e₂))
      (λ f h. rw (← ok-left h) f)

  pub listed-stops : (s r : List Token) (xs : Several A) → read_listed k item s ≡ ok xs r → starts k r ≡ false
  unfolding read_listed
  listed-stops s r xs h =
      then-inv xs r (item s) _ h λ x m e h. then-inv xs r (read_repeated k item (suc (length m)) m) _ h λ ys u e₂ h. rw (← ok-left h) (repeated-stops (suc (length m)) m u ys e₂)

  -- the machine goes from a to b over an item, and back to a at the mark
  module _ (σ : List ℕ) (a b N : ℕ) (over : (s : List Token) → length s ≤ N → Agree (length s) (item s) (accepts σ a s) (accepts σ b))
      (back : (r : List Token) → accepts σ b (key k ∷ r) ≡ accepts σ a r) where
    pub repeated-agree : (n : ℕ) (s : List Token) → length s ≤ N → length s < n → Agree (suc (length s)) (read_repeated k item n s) (accepts σ b s) (accepts σ b)
    unfolding read_repeated
    repeated-agree zero s h l = absurd (omega arith)
    repeated-agree (suc n) s h l =
        by_key k s
        (λ r e. let d = ap length e in
        agree_at (ap (accepts σ b) e ∙ back r)
        (bind (over r (omega arith)) λ x m _ g. bind (repeated-agree n m (omega arith) (omega arith)) λ xs u _ i. reads (omega arith)))
        (λ f. reads (omega arith))

    pub listed-agree : (s : List Token) → length s ≤ N → Agree (length s) (read_listed k item s) (accepts σ a s) (accepts σ b)
    unfolding read_listed
    listed-agree s h = bind (over s h) λ x m _ g. bind (repeated-agree (suc (length m)) m (omega arith) (omega arith)) λ xs u _ i. reads (omega arith)
