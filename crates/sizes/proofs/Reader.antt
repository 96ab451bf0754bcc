-- What is measured is what the model reads.
use mathlib.Core.Path.{◌≡◌, refl, sym, ap, ◌∙◌}
use mathlib.Core.Bool.{Bool, true, false}
use mathlib.Core.List.{List, [], ◌∷◌}
use mathlib.Core.Option.{none, some}
use mathlib.Core.Option as M
use Prim.Native.Nat.{ℕ, zero, suc, ◌+◌, ◌-◌, ◌<◌, ◌≤◌}
use native.Mathlib.Nat.{le_of_lt}
use native.Mathlib.Omega.{arith}
use lib.Dec.{leb}
use lib.ListN.{length, get_or, drop, length-drop, drop_of_length-le}
use lib.Seq.{drop-drop}
use borrow.Author.Tests.{leb-true, leb-false}
use Rattle.model.specs.Kinds.{Kind, k-range, k-true, k-false, k-not, k-and, k-or, k-compare, k-some, k-constant, k-attribute, k-aggregate, k-permit, code, find, kind_of, body_length}
use Rattle.model.specs.Syntax.{Condition, Term, NOT, AND, OR, COMPARE, SOME, AGGREGATE, is_operator, is_function}
use Rattle.model.specs.Encoding.{encode, encode_t, Read, fail, ok, then, byte, need, condition_body, term_body, on_kind, read_condition, read_term}
use Rattle.model.proofs.Reading.{find-inv, read-inverse, read-inverse_t}
use Rattle.model.proofs.Sizes.{size, size_t, size-encode, size-encode_t, drop-encode, drop-encode_t}
use Rattle.kinds.specs.Tables.{of_kind, conditions_of, terms_of, record_length}
use Rattle.kinds.specs.Record.{record_at, within, filled}
use Rattle.kinds.specs.declared.Record.{Record}
use Rattle.kinds.specs.declared.Record.TheVariants as R
use Rattle.kinds.proofs.Entries.{of_none}
use Rattle.kinds.proofs.Records.{whole-record, short-record}
use Rattle.sizes.proofs.Steps.{none-accepted}
use Rattle.sizes.specs.Measured.{size_read, condition_size, accepts, children_of, child_term, Measured, leaves, onward, children, stored, measured, condition_table}
use Rattle.std.specs.Prelude.{Option, Some, None}

-- a reader takes its bytes from the front
pub record Taken (q r : List ℕ) : Type 0 where
  pub fits : length r ≤ length q
  pub rest : r ≡ drop (length q - length r) q

taken : (q r x : List ℕ) (n : ℕ) → q ≡ x → length x ≡ n + length r → drop n x ≡ r → Taken q r
taken q r x n e l d =
    let k : length q - length r ≡ n = omega (arith, ap length e) in
    record { fits = omega (arith, ap length e); rest = sym d ∙ ap (drop n) (sym e) ∙ ap (λ m. drop m q) (sym k) }

pub condition-taken : (l : ℕ) (q : List ℕ) (c : Condition) (r : List ℕ) → read_condition l q ≡ ok c r → Taken q r
condition-taken l q c r h = taken q r (encode c r) (size c) (read-inverse l q c r h).bytes (size-encode c r) (drop-encode c r)

pub term-taken : (l : ℕ) (q : List ℕ) (t : Term) (r : List ℕ) → read_term l q ≡ ok t r → Taken q r
term-taken l q t r h = taken q r (encode_t t r) (size_t t) (read-inverse_t l q t r h).bytes (size-encode_t t r) (drop-encode_t t r)

-- children that are measured as they are read
module _ {A : Type 0} (f : List ℕ → ℕ → List ℕ → Measured) (g : List ℕ → Read A)
    (agrees : (q : List ℕ) (p : ℕ) (z : List ℕ) → (f q p z).size ≡ size_read q (g q))
    (takes : (q : List ℕ) (a : A) (r : List ℕ) → g q ≡ ok a r → Taken q r) where
  one-child : {B : Type 0} (k : A → B) (a : ℕ) (q : List ℕ) (p : ℕ) (z : List ℕ) → a ≤ length q → (children 1 a f q p z).size ≡ size_read q (then (g (drop a q)) λ c r. ok (k c) r)
  unfolding children
  one-child k a q p z h = go (f (drop a q) (p + a) z).size (g (drop a q)) (agrees (drop a q) (p + a) z) (takes (drop a q))
    where
      go : (s : Option ℕ) (w : Read A) → s ≡ size_read (drop a q) w → ((c : A) (r : List ℕ) → w ≡ ok c r → Taken (drop a q) r) → (onward s (f (drop a q) (p + a) z).table (λ n y. leaves (Some (a + n)) y)).size ≡ size_read q (then w λ c r. ok (k c) r)
      go s fail e t = rw e
      go s (ok c r) e t =
          let i = t c r refl in
          rw e (ap Some (omega (arith, length-drop a q)))

  two-children : {B : Type 0} (k : A → A → B) (a : ℕ) (q : List ℕ) (p : ℕ) (z : List ℕ) → a ≤ length q → (children 2 a f q p z).size ≡ size_read q (then (g (drop a q)) λ c r. then (g r) λ d r. ok (k c d) r)
  unfolding children
  two-children k a q p z h = go (f (drop a q) (p + a) z).size (g (drop a q)) (agrees (drop a q) (p + a) z) (takes (drop a q))
    where
      go : (s : Option ℕ) (w : Read A) → s ≡ size_read (drop a q) w → ((c : A) (r : List ℕ) → w ≡ ok c r → Taken (drop a q) r) → (onward s (f (drop a q) (p + a) z).table (λ n y. children 1 (a + n) f q p y)).size ≡ size_read q (then w λ c r. then (g r) λ d r. ok (k c d) r)
      go s fail e t = rw e
      go s (ok c r) e t =
          let i = t c r refl in
          let n : ℕ = length (drop a q) - length r in
          let m : a + n ≤ length q = omega (arith, length-drop a q) in
          let d : drop (a + n) q ≡ r = sym (drop-drop n a q) ∙ sym i.rest in
          rw e (one-child (k c) (a + n) q p (f (drop a q) (p + a) z).table m ∙ ap (λ x. size_read q (then (g x) λ d r. ok (k c d) r)) d)

stored-size : (p : ℕ) (s : Option ℕ) (z : List ℕ) → (stored p (leaves s z)).size ≡ s
stored-size p (Some n) z = refl
stored-size p None z = refl

-- one record
module _ (l : ℕ) (t : Bool) (k : ℕ) (r : List ℕ) (p : ℕ) (z : List ℕ) (x : Record) (e : record_at (k ∷ r) ≡ x) where
  yes : accepts t x ≡ true → (measured (suc l) t (k ∷ r) p z).size ≡ (children (children_of k) (record_length k) (λ x m y. measured l (child_term k) x m y) (k ∷ r) p z).size
  unfolding measured
  yes h = let w : accepts t (record_at (k ∷ r)) ≡ true = ap (accepts t) e ∙ h in
      rw w (stored-size p (children (children_of k) (record_length k) (λ x m y. measured l (child_term k) x m y) (k ∷ r) p z).size (children (children_of k) (record_length k) (λ x m y. measured l (child_term k) x m y) (k ∷ r) p z).table)

  no : accepts t x ≡ false → measured (suc l) t (k ∷ r) p z ≡ leaves None z
  unfolding measured
  no h = let w : accepts t (record_at (k ∷ r)) ≡ false = ap (accepts t) e ∙ h in rw w

  refused : accepts t x ≡ false → (measured (suc l) t (k ∷ r) p z).size ≡ None
  refused h = ap (λ (m : Measured). m.size) (no h)

-- a record that is cut short, or of another sort
module _ (l : ℕ) (t : Bool) (k : ℕ) (r : List ℕ) (p : ℕ) (z : List ℕ) (x : Kind) (e : kind_of k ≡ some x) where
  cut : length r < body_length x → (measured (suc l) t (k ∷ r) p z).size ≡ None
  cut h = refused l t k r p z R.Short (short-record k r x e h) (none-accepted t)

  other : ((a b c d : ℕ) → accepts t (filled a b c d x) ≡ false) → (measured (suc l) t (k ∷ r) p z).size ≡ None
  other h = go (leb (body_length x) (length r)) refl
    where
      go : (b : Bool) → leb (body_length x) (length r) ≡ b → (measured (suc l) t (k ∷ r) p z).size ≡ None
      go true w = refused l t k r p z _ (whole-record k r x e (leb-true (body_length x) (length r) w)) (h (get_or r 0 0) (get_or r 1 0) (get_or r 2 0) (get_or r 3 0))
      go false w = cut (leb-false (body_length x) (length r) w)

module _ (l : ℕ)
    (hc : (q : List ℕ) (p : ℕ) (z : List ℕ) → (measured l false q p z).size ≡ size_read q (read_condition l q))
    (ht : (q : List ℕ) (p : ℕ) (z : List ℕ) → (measured l true q p z).size ≡ size_read q (read_term l q)) where
  condition-kind : (x : Kind) (r : List ℕ) (p : ℕ) (z : List ℕ) → (measured (suc l) false (code x ∷ r) p z).size ≡ size_read (code x ∷ r) (condition_body (λ x. read_condition l x) (λ x. read_term l x) x r)
  unfolding condition_body children_of child_term conditions_of terms_of record_length of_kind kind_of find children
  condition-kind k-true r p z = yes l false 16 r p z R.True (whole-record 16 r k-true refl (omega arith)) refl ∙ ap Some (omega arith)
  condition-kind k-false r p z = yes l false 17 r p z R.False (whole-record 17 r k-false refl (omega arith)) refl ∙ ap Some (omega arith)
  condition-kind k-not r p z =
      yes l false 18 r p z R.Not (whole-record 18 r k-not refl (omega arith)) refl
      ∙ one-child (λ x m y. measured l false x m y) (λ x. read_condition l x) hc (condition-taken l) NOT 1 (18 ∷ r) p z (omega arith)
  condition-kind k-and r p z =
      yes l false 19 r p z R.And (whole-record 19 r k-and refl (omega arith)) refl
      ∙ two-children (λ x m y. measured l false x m y) (λ x. read_condition l x) hc (condition-taken l) AND 1 (19 ∷ r) p z (omega arith)
  condition-kind k-or r p z =
      yes l false 20 r p z R.Or (whole-record 20 r k-or refl (omega arith)) refl
      ∙ two-children (λ x m y. measured l false x m y) (λ x. read_condition l x) hc (condition-taken l) OR 1 (20 ∷ r) p z (omega arith)
  condition-kind k-compare [] p z = cut l false 21 [] p z k-compare refl (omega arith)
  condition-kind k-compare (o ∷ r) p z = go (is_operator o) refl
    where
      go : (b : Bool) → is_operator o ≡ b → (measured (suc l) false (21 ∷ o ∷ r) p z).size ≡ size_read (21 ∷ o ∷ r) (need b (then (read_term l r) λ s r. then (read_term l r) λ t r. ok (COMPARE o s t) r))
      go true e =
          yes l false 21 (o ∷ r) p z (R.Compare o) (whole-record 21 (o ∷ r) k-compare refl (omega arith)) e
          ∙ two-children (λ x m y. measured l true x m y) (λ x. read_term l x) ht (term-taken l) (COMPARE o) 2 (21 ∷ o ∷ r) p z (omega arith)
      go false e = refused l false 21 (o ∷ r) p z (R.Compare o) (whole-record 21 (o ∷ r) k-compare refl (omega arith)) e
  condition-kind k-some [] p z = cut l false 22 [] p z k-some refl (omega arith)
  condition-kind k-some (v ∷ []) p z = cut l false 22 (v ∷ []) p z k-some refl (omega arith)
  condition-kind k-some (v ∷ q ∷ r) p z =
      yes l false 22 (v ∷ q ∷ r) p z (R.Some v q) (whole-record 22 (v ∷ q ∷ r) k-some refl (omega arith)) refl
      ∙ one-child (λ x m y. measured l false x m y) (λ x. read_condition l x) hc (condition-taken l) (SOME v q) 3 (22 ∷ v ∷ q ∷ r) p z (omega arith)
  condition-kind k-constant r p z = other l false 32 r p z k-constant refl (λ a b c d. refl)
  condition-kind k-attribute r p z = other l false 33 r p z k-attribute refl (λ a b c d. refl)
  condition-kind k-aggregate r p z = other l false 34 r p z k-aggregate refl (λ a b c d. refl)
  condition-kind k-range r p z = other l false 1 r p z k-range refl (λ a b c d. refl)
  condition-kind k-permit r p z = other l false 64 r p z k-permit refl (λ a b c d. refl)

  term-kind : (x : Kind) (r : List ℕ) (p : ℕ) (z : List ℕ) → (measured (suc l) true (code x ∷ r) p z).size ≡ size_read (code x ∷ r) (term_body (λ x. read_condition l x) (λ x. read_term l x) x r)
  unfolding term_body children_of child_term conditions_of terms_of record_length of_kind kind_of find children
  term-kind k-constant [] p z = cut l true 32 [] p z k-constant refl (omega arith)
  term-kind k-constant (a ∷ []) p z = cut l true 32 (a ∷ []) p z k-constant refl (omega arith)
  term-kind k-constant (a ∷ b ∷ []) p z = cut l true 32 (a ∷ b ∷ []) p z k-constant refl (omega arith)
  term-kind k-constant (a ∷ b ∷ c ∷ []) p z = cut l true 32 (a ∷ b ∷ c ∷ []) p z k-constant refl (omega arith)
  term-kind k-constant (a ∷ b ∷ c ∷ d ∷ r) p z =
      yes l true 32 (a ∷ b ∷ c ∷ d ∷ r) p z (R.Constant a b c d) (whole-record 32 (a ∷ b ∷ c ∷ d ∷ r) k-constant refl (omega arith)) refl
      ∙ ap Some (omega arith)
  term-kind k-attribute [] p z = cut l true 33 [] p z k-attribute refl (omega arith)
  term-kind k-attribute (v ∷ []) p z = cut l true 33 (v ∷ []) p z k-attribute refl (omega arith)
  term-kind k-attribute (v ∷ a ∷ r) p z =
      yes l true 33 (v ∷ a ∷ r) p z (R.Attribute v a) (whole-record 33 (v ∷ a ∷ r) k-attribute refl (omega arith)) refl
      ∙ ap Some (omega arith)
  term-kind k-aggregate [] p z = cut l true 34 [] p z k-aggregate refl (omega arith)
  term-kind k-aggregate (f ∷ r) p z = go (is_function f) refl r
    where
      go : (b : Bool) → is_function f ≡ b → (r : List ℕ) → (measured (suc l) true (34 ∷ f ∷ r) p z).size ≡ size_read (34 ∷ f ∷ r) (need b (byte r λ v r. byte r λ q r. byte r λ a r. then (read_condition l r) λ c r. ok (AGGREGATE f v q a c) r))
      go true e [] = cut l true 34 (f ∷ []) p z k-aggregate refl (omega arith)
      go true e (v ∷ []) = cut l true 34 (f ∷ v ∷ []) p z k-aggregate refl (omega arith)
      go true e (v ∷ q ∷ []) = cut l true 34 (f ∷ v ∷ q ∷ []) p z k-aggregate refl (omega arith)
      go true e (v ∷ q ∷ a ∷ r) =
          yes l true 34 (f ∷ v ∷ q ∷ a ∷ r) p z (R.Aggregate f v q a) (whole-record 34 (f ∷ v ∷ q ∷ a ∷ r) k-aggregate refl (omega arith)) e
          ∙ one-child (λ x m y. measured l false x m y) (λ x. read_condition l x) hc (condition-taken l) (AGGREGATE f v q a) 5 (34 ∷ f ∷ v ∷ q ∷ a ∷ r) p z (omega arith)
      go false e r = unknown (leb 4 (suc (length r))) refl
        where
          unknown : (b : Bool) → leb 4 (suc (length r)) ≡ b → (measured (suc l) true (34 ∷ f ∷ r) p z).size ≡ None
          unknown true w = refused l true 34 (f ∷ r) p z (R.Aggregate f (get_or r 0 0) (get_or r 1 0) (get_or r 2 0)) (whole-record 34 (f ∷ r) k-aggregate refl (leb-true 4 (suc (length r)) w)) e
          unknown false w = cut l true 34 (f ∷ r) p z k-aggregate refl (leb-false 4 (suc (length r)) w)
  term-kind k-true r p z = other l true 16 r p z k-true refl (λ a b c d. refl)
  term-kind k-false r p z = other l true 17 r p z k-false refl (λ a b c d. refl)
  term-kind k-not r p z = other l true 18 r p z k-not refl (λ a b c d. refl)
  term-kind k-and r p z = other l true 19 r p z k-and refl (λ a b c d. refl)
  term-kind k-or r p z = other l true 20 r p z k-or refl (λ a b c d. refl)
  term-kind k-compare r p z = other l true 21 r p z k-compare refl (λ a b c d. refl)
  term-kind k-some r p z = other l true 22 r p z k-some refl (λ a b c d. refl)
  term-kind k-range r p z = other l true 1 r p z k-range refl (λ a b c d. refl)
  term-kind k-permit r p z = other l true 64 r p z k-permit refl (λ a b c d. refl)

-- any bytes, by the kind that they start with
module _ {A : Type 0} (l : ℕ) (t : Bool) (g : Kind → List ℕ → Read A)
    (h : (x : Kind) (r : List ℕ) (p : ℕ) (z : List ℕ) → (measured (suc l) t (code x ∷ r) p z).size ≡ size_read (code x ∷ r) (g x r)) where
  any-kind : (q : List ℕ) (p : ℕ) (z : List ℕ) → (measured (suc l) t q p z).size ≡ size_read q (on_kind g q)
  unfolding measured record_at on_kind kind_of
  any-kind [] p z = rw (none-accepted t)
  any-kind (k ∷ r) p z = go (kind_of k) refl
    where
      go : (o : M.Option Kind) → kind_of k ≡ o → (measured (suc l) t (k ∷ r) p z).size ≡ size_read {A = A} (k ∷ r) (elim o as (λ _. Read A) [ none ↦ fail | some x ↦ g x r ])
      go none e = refused l t k r p z R.Unknown (of_none R.Unknown (λ x. within x r) k e) (none-accepted t)
      go (some x) e = let c : k ≡ code x = find-inv k _ x e in rw c (h x r p z)

-- the size that is measured is that of what the model reads
pub agree : (l : ℕ) → ((q : List ℕ) (p : ℕ) (z : List ℕ) → (measured l false q p z).size ≡ size_read q (read_condition l q)) × ((q : List ℕ) (p : ℕ) (z : List ℕ) → (measured l true q p z).size ≡ size_read q (read_term l q))
unfolding read_condition measured
agree zero = (λ q p z. refl, λ q p z. refl)
agree (suc l) =
    let i = agree l in (
      any-kind l false (condition_body (λ x. read_condition l x) (λ x. read_term l x)) (condition-kind l i.0 i.1),
      any-kind l true (term_body (λ x. read_condition l x) (λ x. read_term l x)) (term-kind l i.0 i.1),
    )

-- what `condition` and `term` promise, from what `measure` does
pub is-condition : (l : ℕ) (q x : List ℕ) (p : ℕ) (z y : List ℕ) (r : Option ℕ) → x ≡ drop p q → leaves r y ≡ measured l false x p z → (r ≡ condition_size l (drop p q)) × (y ≡ condition_table l q p z)
unfolding condition_size condition_table
is-condition l q x p z y r ex e =
    let w : leaves r y ≡ measured l false (drop p q) p z = e ∙ ap (λ v. measured l false v p z) ex in
    (ap (λ (m : Measured). m.size) w ∙ (agree l).0 (drop p q) p z, ap (λ (m : Measured). m.table) w)

-- nothing stands past the end
empty : (l : ℕ) (t : Bool) (p : ℕ) (z : List ℕ) → measured l t [] p z ≡ leaves None z
unfolding measured record_at
empty zero t p z = refl
empty (suc l) true p z = refl
empty (suc l) false p z = refl

pub past-condition : (l : ℕ) (q : List ℕ) (p : ℕ) (z : List ℕ) → length q < p → (None ≡ condition_size l (drop p q)) × (z ≡ condition_table l q p z)
past-condition l q p z h = is-condition l q [] p z z None (sym (drop_of_length-le q (le_of_lt h))) (sym (empty l false p z))

-- a part and its place stay within the bytes
pub part_room : (q x : List ℕ) (p : ℕ) → x ≡ drop p q → p ≤ length q → length q < 9223372036854775808 → p + length x < 9223372036854775808
part_room q x p e h k = omega (arith, ap length e ∙ length-drop p q)
