-- The model's reader without its bound: bytes enough are levels enough, and what was read ends where its size says.
use Prim.Native.Nat.{ℕ, suc, ◌+◌, ◌≤◌}
use mathlib.Core.Bool.{Bool, true, false}
use mathlib.Core.List.{List}
use mathlib.Core.Path.{◌≡◌, refl, sym, ◌∙◌, ap}
use native.Mathlib.Omega.{arith}
use lib.ListN.{length, drop}
use Rattle.model.specs.Syntax.{Condition, Term, WellFormed, WellFormedT}
use Rattle.model.specs.Encoding.{encode, encode_t, Read, fail, ok, need, read_condition, read_term}
use Rattle.model.proofs.Reading.{read-encode, read-encode_t, read-inverse, read-inverse_t, never}
use Rattle.model.proofs.Sizes.{size, size_t, size-encode, size-encode_t, levels-size, levels-size_t, drop-encode, drop-encode_t}
use Rattle.grammar.specs.Sizes.{size_read, condition_size, term_size}
use Rattle.std.specs.Prelude.{Option, Some, None}

-- cut short after a test
pub cut_short : {A : Type 0} (b : Bool) → need {B = A} b fail ≡ fail
cut_short true = refl
cut_short false = refl

-- of what was read: its bytes, what is left, and that any bound from the number of bytes on reads the same
pub record Took {A : Type 0} (read : ℕ → List ℕ → Read A) (q : List ℕ) (a : A) (n : ℕ) (r : List ℕ) : Type 0 where
  pub bytes : length q ≡ n + length r
  pub rest : r ≡ drop n q
  pub again : (g : ℕ) → length q ≤ g → read g q ≡ ok a r

pub took-condition : (f : ℕ) (q : List ℕ) (c : Condition) (r : List ℕ) → read_condition f q ≡ ok c r → Took (λ g x. read_condition g x) q c (size c) r
took-condition f q c r h =
    let i = read-inverse f q c r h in
    let l : length q ≡ size c + length r = ap length i.bytes ∙ size-encode c r in
    record {
      bytes = l;
      rest = sym (drop-encode c r) ∙ ap (drop (size c)) (sym i.bytes);
      again = λ g e. ap (read_condition g) i.bytes ∙ read-encode c g r i.well (omega (arith, levels-size c));
    }

pub took-term : (f : ℕ) (q : List ℕ) (t : Term) (r : List ℕ) → read_term f q ≡ ok t r → Took (λ g x. read_term g x) q t (size_t t) r
took-term f q t r h =
    let i = read-inverse_t f q t r h in
    let l : length q ≡ size_t t + length r = ap length i.bytes ∙ size-encode_t t r in
    record {
      bytes = l;
      rest = sym (drop-encode_t t r) ∙ ap (drop (size_t t)) (sym i.bytes);
      again = λ g e. ap (read_term g) i.bytes ∙ read-encode_t t g r i.well (omega (arith, levels-size_t t));
    }

-- the size of what was read
abbrev pub sized : {A : Type 0} → (A → ℕ) → Read A → Option ℕ
sized s fail = None
sized s (ok a r) = Some (s a)

module _ {A : Type 0} (read : ℕ → List ℕ → Read A) (s : A → ℕ) (took : (f : ℕ) (q : List ℕ) (a : A) (r : List ℕ) → read f q ≡ ok a r → Took read q a (s a) r) where
  pub same : (f g : ℕ) (q : List ℕ) → length q ≤ f → length q ≤ g → read f q ≡ read g q
  same f g q hf hg = go (read f q) (read g q) refl refl
    where
      go : (x y : Read A) → read f q ≡ x → read g q ≡ y → read f q ≡ read g q
      go (ok a r) y p e = p ∙ sym ((took f q a r p).again g hg)
      go fail (ok a r) p e = let z = (took g q a r e).again f hf in never a r (sym p ∙ z)
      go fail fail p e = p ∙ sym e

  pub sized-is : (f : ℕ) (q : List ℕ) → length q ≤ f → size_read q (read (suc (length q)) q) ≡ sized s (read f q)
  sized-is f q h = go (read f q) refl
    where
      go : (x : Read A) → read f q ≡ x → size_read q (read (suc (length q)) q) ≡ sized s x
      go fail p = ap (size_read q) (same (suc (length q)) f q (omega arith) h ∙ p)
      go (ok a r) p =
          let t = took f q a r p in
          let e = t.bytes in
          ap (size_read q) (t.again (suc (length q)) (omega arith)) ∙ ap Some (omega arith)

-- a condition's or a term's size, by any bound that is enough
pub condition-sized : (f : ℕ) (q : List ℕ) → length q ≤ f → condition_size q ≡ sized size (read_condition f q)
unfolding condition_size
condition-sized f q h = sized-is (λ g x. read_condition g x) size took-condition f q h

pub term-sized : (f : ℕ) (q : List ℕ) → length q ≤ f → term_size q ≡ sized size_t (read_term f q)
unfolding term_size
term-sized f q h = sized-is (λ g x. read_term g x) size_t took-term f q h

-- the size of what is written, and what follows it
pub encoded-condition : (c : Condition) (r : List ℕ) → WellFormed c → (condition_size (encode c r) ≡ Some (size c)) × (drop (size c) (encode c r) ≡ r)
encoded-condition c r w =
    let f = length (encode c r) in
    (condition-sized f (encode c r) (omega arith) ∙ ap (sized size) (read-encode c f r w (omega (arith, levels-size c, size-encode c r))), drop-encode c r)

pub encoded-term : (t : Term) (r : List ℕ) → WellFormedT t → (term_size (encode_t t r) ≡ Some (size_t t)) × (drop (size_t t) (encode_t t r) ≡ r)
encoded-term t r w =
    let f = length (encode_t t r) in
    (term-sized f (encode_t t r) (omega arith) ∙ ap (sized size_t) (read-encode_t t f r w (omega (arith, levels-size_t t, size-encode_t t r))), drop-encode_t t r)
