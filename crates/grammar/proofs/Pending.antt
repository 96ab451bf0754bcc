-- Conditions one after the other: the head's record taken off, its children are pending in its place.
use Prim.Native.Nat.{ℕ, zero, suc, ◌+◌, ◌-◌, ◌<◌, ◌≤◌}
use mathlib.Core.Bool.{Bool, true, false, not}
use mathlib.Core.List.{List, [], ◌∷◌}
use mathlib.Core.Option.{none, some}
use mathlib.Core.Option as M
use Rattle.std.specs.Prelude.{Option, Some, None}
use mathlib.Core.Path.{◌≡◌, refl, sym, ◌∙◌, ap}
use native.Mathlib.Nat.{zero-add, suc-add, add_comm}
use native.Mathlib.Omega.{arith}
use lib.Dec.{leb}
use lib.ListN.{length, get_or, drop}
use lib.Seq.{drop-drop}
use borrow.Author.Tests.{leb-true, leb-false, not-true, not-false}
use Rattle.model.specs.Kinds.{Kind, kind_of, body_length}
use Rattle.model.proofs.Tests.{clash}
use Rattle.kinds.specs.Tables.{conditions_of, terms_of, record_length}
use Rattle.kinds.specs.Record.{record_at, within}
use Rattle.kinds.specs.declared.Record.{Record}
use Rattle.kinds.specs.declared.Record.TheVariants as R
use Rattle.kinds.proofs.Entries.{of_none, of_some, length-small}
use Rattle.kinds.proofs.Records.{short-record}
use Rattle.kinds.specs.Places.{condition_at, term_at, condition_of, term_of, is_condition, is_term}
use Rattle.grammar.specs.Sizes.{condition_size, term_size, after, followed, many, head_size}
use Rattle.grammar.proofs.Steps.{after-after, condition-step, term-step}

-- a part that starts n bytes on
shifted : (g : List ℕ → Option ℕ) (n : ℕ) (x : Option ℕ) (s : List ℕ) → followed (after n x) (λ m. g (drop m s)) ≡ after n (followed x (λ m. g (drop m (drop n s))))
shifted g n (Some m) s = sym (after-after n m (g (drop m (drop n s))) ∙ ap (λ l. after (n + m) (g l)) (drop-drop m n s))
shifted g n None s = refl

after-zero : (s : Option ℕ) → s ≡ after 0 s
after-zero (Some n) = ap Some (sym (zero-add n))
after-zero None = refl

-- a of them, then p more
pub many-append : (f : List ℕ → Option ℕ) (a p : ℕ) (s : List ℕ) → many f (a + p) s ≡ followed (many f a s) (λ m. many f p (drop m s))
unfolding many
many-append f zero p s = ap (λ n. many f n s) (zero-add p) ∙ after-zero (many f p s)
many-append f (suc a) p s = ap (λ n. many f n s) (suc-add a p) ∙ go (f s) (λ n. many-append f a p (drop n s))
  where
    go : (x : Option ℕ) → ((n : ℕ) → many f (a + p) (drop n s) ≡ followed (many f a (drop n s)) (λ m. many f p (drop m (drop n s))))
        → followed x (λ n. many f (a + p) (drop n s)) ≡ followed (followed x (λ m. many f a (drop m s))) (λ m. many f p (drop m s))
    go (Some n) h = ap (after n) (h n) ∙ sym (shifted (λ l. many f p l) n (many f a (drop n s)) s)
    go None h = refl

pub many-one : (f : List ℕ → Option ℕ) (q : List ℕ) → many f 1 q ≡ f q
unfolding many
many-one f q = go (f q)
  where
    go : (x : Option ℕ) → followed x (λ m. Some 0) ≡ x
    go (Some n) = ap Some (omega arith)
    go None = refl

-- the pending conditions
pub pending : (p : ℕ) (q : List ℕ) → many condition_size (suc p) q ≡ followed (head_size q) (λ n. many condition_size (conditions_of (get_or q 0 0) + p) (drop n q))
unfolding many
pending p q = ap (λ x. followed x (λ m. many condition_size p (drop m q))) (condition-step q) ∙ go (head_size q)
  where
    go : (x : Option ℕ) → followed (followed x (λ n. many condition_size (conditions_of (get_or q 0 0)) (drop n q))) (λ m. many condition_size p (drop m q))
        ≡ followed x (λ n. many condition_size (conditions_of (get_or q 0 0) + p) (drop n q))
    go (Some n) =
        shifted (λ l. many condition_size p l) n (many condition_size (conditions_of (get_or q 0 0)) (drop n q)) q
        ∙ ap (after n) (sym (many-append condition_size (conditions_of (get_or q 0 0)) p (drop n q)))
    go None = refl

-- the loops: what is left decides
module _ (q x : List ℕ) (at p n : ℕ) (s w : Option ℕ) (ex : x ≡ drop at q) (es : s ≡ Some n) where
  pub next : (f : List ℕ → Option ℕ) (r : ℕ) → suc r ≡ p → after at (many f p (drop at q)) ≡ w → s ≡ f x → after (at + n) (many f r (drop (at + n) q)) ≡ w
  unfolding many
  next f r l inv e =
      sym (after-after at n (many f r (drop (at + n) q)))
      ∙ ap (λ y. after at (after n (many f r y))) (sym (drop-drop n at q))
      ∙ ap (λ y. after at (followed y (λ m. many f r (drop m (drop at q))))) (sym es ∙ e ∙ ap f ex)
      ∙ ap (λ m. after at (many f m (drop at q))) l
      ∙ inv

  pub turn : (k c : ℕ) → after at (many condition_size p (drop at q)) ≡ w → 0 < p → s ≡ head_size x → k ≡ get_or x 0 0 → c ≡ conditions_of k → after (at + n) (many condition_size (p - 1 + c) (drop (at + n) q)) ≡ w
  turn k c inv h e ek ec =
      let l : suc (p - 1) ≡ p = omega arith in
      let y : c ≡ conditions_of (get_or (drop at q) 0 0) = ec ∙ ap conditions_of (ek ∙ ap (λ z. get_or z 0 0) ex) in
      sym (after-after at n (many condition_size (p - 1 + c) (drop (at + n) q)))
      ∙ ap (λ z. after at (after n (many condition_size (p - 1 + c) z))) (sym (drop-drop n at q))
      ∙ ap (λ m. after at (after n (many condition_size m (drop n (drop at q))))) (add_comm (p - 1) c ∙ ap (λ m. m + (p - 1)) y)
      ∙ ap (λ z. after at (followed z (λ m. many condition_size (conditions_of (get_or (drop at q) 0 0) + (p - 1)) (drop m (drop at q))))) (sym es ∙ e ∙ ap head_size ex)
      ∙ ap (after at) (sym (pending (p - 1) (drop at q)))
      ∙ ap (λ m. after at (many condition_size m (drop at q))) l
      ∙ inv

module _ (q x : List ℕ) (at p : ℕ) (s w : Option ℕ) (ex : x ≡ drop at q) (es : s ≡ None) where
  pub stop : (f : List ℕ → Option ℕ) → after at (many f p (drop at q)) ≡ w → 0 < p → s ≡ f x → None ≡ w
  unfolding many
  stop f inv h e =
      let l : suc (p - 1) ≡ p = omega arith in
      ap (λ y. after at (followed y (λ m. many f (p - 1) (drop m (drop at q))))) (sym es ∙ e ∙ ap f ex)
      ∙ ap (λ m. after at (many f m (drop at q))) l
      ∙ inv

  pub halt : after at (many condition_size p (drop at q)) ≡ w → 0 < p → s ≡ head_size x → None ≡ w
  halt inv h e =
      let l : suc (p - 1) ≡ p = omega arith in
      ap (λ z. after at (followed z (λ m. many condition_size (conditions_of (get_or (drop at q) 0 0) + (p - 1)) (drop m (drop at q))))) (sym es ∙ e ∙ ap head_size ex)
      ∙ ap (after at) (sym (pending (p - 1) (drop at q)))
      ∙ ap (λ m. after at (many condition_size m (drop at q))) l
      ∙ inv

pub end : (f : List ℕ → Option ℕ) (q : List ℕ) (at p : ℕ) (w : Option ℕ) → after at (many f p (drop at q)) ≡ w → p ≤ 0 → Some at ≡ w
unfolding many
end f q at p w inv h =
    let l : 0 ≡ p = omega arith in
    ap Some (omega arith) ∙ ap (λ m. after at (many f m (drop at q))) l ∙ inv

pub start : (f : List ℕ → Option ℕ) (q : List ℕ) (n p : ℕ) → p ≡ n → after 0 (many f p (drop 0 q)) ≡ many f n q
start f q n p e = sym (after-zero (many f p q)) ∙ ap (λ m. many f m q) e

-- a record that passes a test which Short and Unknown fail is whole
module _ (test : Record → Bool) (short : test R.Short ≡ false) (unknown : test R.Unknown ≡ false) where
  by_kind : (k : ℕ) (r : List ℕ) (o : M.Option Kind) → kind_of k ≡ o → test (record_at (k ∷ r)) ≡ true → record_length k ≤ suc (length r)
  unfolding record_at record_length
  by_kind k r none e h = clash (sym unknown ∙ ap test (sym (of_none R.Unknown (λ y. within y r) k e)) ∙ h)
  by_kind k r (some x) e h = go (leb (body_length x) (length r)) refl
    where
      go : (b : Bool) → leb (body_length x) (length r) ≡ b → record_length k ≤ suc (length r)
      go true l = omega (arith, leb-true (body_length x) (length r) l, of_some 1 (λ x. suc (body_length x)) k x e)
      go false l = clash (sym short ∙ ap test (sym (short-record k r x e (leb-false (body_length x) (length r) l))) ∙ h)

  pub whole : (q : List ℕ) → test (record_at q) ≡ true → record_length (get_or q 0 0) ≤ length q
  unfolding record_at
  whole [] h = clash (sym short ∙ h)
  whole (k ∷ r) h = by_kind k r (kind_of k) refl h

-- the head's own record, of what the code finds
module _ (q : List ℕ) (b : Bool) where
  pub no-head : b ≡ is_condition (condition_at q) → not b ≡ true → None ≡ head_size q
  unfolding head_size
  no-head eb h = rw (sym eb ∙ not-true b h)

  pub no-leaf : b ≡ is_term (term_at q) → not b ≡ true → None ≡ term_size q
  no-leaf eb h = sym (term-step q ∙ rw (sym eb ∙ not-true b h))

  module _ (k a : ℕ) (ek : k ≡ get_or q 0 0) (ea : a ≡ record_length k) (h : not b ≡ false) where
    pub head-whole : b ≡ is_condition (condition_at q) → (1 ≤ a) × (a ≤ length q)
    head-whole eb =
        let l = length-small k in
        let e : a ≡ record_length (get_or q 0 0) = ea ∙ ap record_length ek in
        (omega arith, omega (arith, whole (λ x. is_condition (condition_of x)) refl refl q (sym eb ∙ not-false b h)))

    pub head-is : b ≡ is_condition (condition_at q) → (l : ℕ) → l ≡ terms_of k → after a (many term_size l (drop a q)) ≡ head_size q
    unfolding head_size
    head-is eb l el = rw (sym eb ∙ not-false b h, el, ea, ek)

    pub leaf-whole : b ≡ is_term (term_at q) → (1 ≤ a) × (a ≤ length q)
    leaf-whole eb =
        let l = length-small k in
        let e : a ≡ record_length (get_or q 0 0) = ea ∙ ap record_length ek in
        (omega arith, omega (arith, whole (λ x. is_term (term_of x)) refl refl q (sym eb ∙ not-false b h)))

    pub leaf-is : b ≡ is_term (term_at q) → (c : ℕ) (x : List ℕ) (s : Option ℕ) → c ≡ conditions_of k → x ≡ drop a q → s ≡ many condition_size c x → after a s ≡ term_size q
    leaf-is eb c x s ec ex es = sym (term-step q ∙ rw (sym eb ∙ not-false b h, es, ec, ex, ea, ek))
