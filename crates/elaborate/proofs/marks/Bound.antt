-- Names bound once: what is left of the tokens, against those before that bind a name.
use Prim.Native.Nat.{ℕ, ◌+◌, ◌≤◌, ◌<◌}
use mathlib.Core.Bool.{Bool, true, false, not, cond, ◌&&◌, ◌||◌}
use mathlib.Core.List.{List, [], ◌∷◌}
use mathlib.Core.Path.{◌≡◌, refl, sym, ap, ◌∙◌}
use native.Mathlib.Omega.{arith}
use lib.Dec.{eqb}
use lib.ListN.{length, get_or, set}
use borrow.Author.Tests.{eqb-true, eq-eqb, ne_eqb}
use Rattle.model.specs.Lists.{any, all}
use Rattle.model.proofs.Tests.{and-true, clash}
use Rattle.quel.specs.Results.{Word, same_word, has_word, unique_words}
use Rattle.tokens.specs.Table.{Table}
use Rattle.flat.specs.Flat.{binding, binders}
use Rattle.buckets.proofs.Laws.{none-again}
use Rattle.elaborate.specs.Places.{table, tokens_from, part_kind, bound_place, binds_kind}
use Rattle.elaborate.specs.Numbers.{Numbered, marked, Seen, Told}
use Rattle.elaborate.proofs.marks.Walks.{from_end, here, bound-from}
use Rattle.elaborate.proofs.marks.Numbers.{mark-bound}

-- the small functions
module _ (ks : List ℕ) (i k : ℕ) (ek : k ≡ get_or ks i 0) where
  pub place-some : k ≡ 16 → i + 1 ≡ bound_place ks i
  unfolding bound_place
  place-some e = rw (sym ek ∙ e)

  pub place-own : (k ≡ 16 → ⊥) → i ≡ bound_place ks i
  unfolding bound_place
  place-own ne = rw (ne_eqb (get_or ks i 0) 16 (λ e. ne (ek ∙ e)))

module _ (k p : ℕ) where
  pub binds-none : (k ≡ 16 → ⊥) → (k ≡ 0 → ⊥) → false ≡ binds_kind k p
  unfolding binds_kind
  binds-none a b = rw (ne_eqb k 16 a, ne_eqb k 0 b)

-- a token that binds a name
module _ (text : List ℕ) (t : Table) (p i : ℕ) (h : i < length t.kinds) where
  abbrev kind : ℕ
  kind = get_or t.kinds i 0

  abbrev said : ℕ → Word
  said x = here text t (bound_place t.kinds x)

  abbrev later : List Word
  later = binders (part_kind kind p) (tokens_from text t (i + 1))

  binds-from : binders p (tokens_from text t i) ≡ cond (binds_kind kind p) (said i ∷ later) later
  unfolding binds_kind bound_place
  binds-from = bound-from text t i h p ∙ go (eqb kind 0) (eqb kind 16) refl refl
    where
      go : (a b : Bool) → eqb kind 0 ≡ a → eqb kind 16 ≡ b
          → cond a (cond (binding p) (here text t i ∷ later) later) (cond b (here text t (i + 1) ∷ later) later)
          ≡ cond (cond b true (a && binding p)) (here text t (cond b (i + 1) i) ∷ later) later
      go true true e f = absurd (omega (arith, eqb-true kind 0 e, eqb-true kind 16 f))
      go true false e f = refl
      go false true e f = refl
      go false false e f = refl

  -- what is left of the tokens decides
  abbrev once : List Word → List ℕ → Bool
  once ws xs = unique_words ws && all (λ (x : ℕ). not (has_word (said x) ws)) xs

  pub once-turn : (xs : List ℕ) → once (binders p (tokens_from text t i)) xs
      ≡ (cond (binds_kind kind p) (not (any (λ (x : ℕ). same_word (said x) (said i)) xs)) true && once later (cond (binds_kind kind p) (i ∷ xs) xs))
  unfolding unique_words has_word any all
  once-turn xs = ap (λ (ws : List Word). once ws xs) binds-from ∙ go (binds_kind kind p)
    where
      shuffle : (a u n d : Bool) → ((not a && u) && (not n && d)) ≡ (not n && (u && (not a && d)))
      shuffle true true true d = refl
      shuffle true true false d = refl
      shuffle true false true d = refl
      shuffle true false false d = refl
      shuffle false true n d = refl
      shuffle false false true d = refl
      shuffle false false false d = refl

      go : (b : Bool) → once (cond b (said i ∷ later) later) xs ≡ (cond b (not (any (λ (x : ℕ). same_word (said x) (said i)) xs)) true && once later (cond b (i ∷ xs) xs))
      go true =
          ap (λ (d : Bool). (not (has_word (said i) later) && unique_words later) && d)
          (none-again xs (λ x. same_word (said x) (said i)) (λ x. has_word (said x) later) (λ x. has_word (said x) (said i ∷ later)) (λ x. refl))
          ∙ shuffle (has_word (said i) later) (unique_words later) (any (λ (x : ℕ). same_word (said x) (said i)) xs) (all (λ (x : ℕ). not (has_word (said x) later)) xs)
      go false = refl

module _ (text ks ss ns ids : List ℕ) where
  abbrev t : Table
  t = table ks ss ns

  abbrev once_from : ℕ → ℕ → List ℕ → Bool
  once_from p i xs = let ws = binders p (tokens_from text t i) in unique_words ws && all (λ (x : ℕ). not (has_word (here text t (bound_place ks x)) ws)) xs

  -- the loop at token i: what some tokens before bind is marked
  pub record Left (p i : ℕ) (seen : List ℕ) : Type 0 where
    pub places : List ℕ
    pub marks : Seen (here text t) ks ids seen places
    pub same : unique_words (binders 0 (tokens_from text t 0)) ≡ once_from p i places

  pub left-start : (seen : List ℕ) → ((x : ℕ) → get_or seen x 0 ≡ 0) → Left 0 0 seen
  unfolding all any
  left-start seen z = record { places = []; marks = record { at = λ x. ap (λ (v : ℕ). not (eqb v 0)) (z (get_or ids x 0)) }; same = sym (and-true _) }

  module _ (p i : ℕ) (seen after : List ℕ) (r : Bool) (l : i < length ks) (f : Left p i seen) (g : Numbered (here text t) (length ks) ids) (room : get_or ids (bound_place ks i) 0 < length seen) (k : Told ks ids seen i (binds_kind (get_or ks i 0) p) after r) where
    abbrev held : List ℕ
    held = cond (binds_kind (get_or ks i 0) p) (i ∷ f.places) f.places

    turned : unique_words (binders 0 (tokens_from text t 0)) ≡ (r && once_from (part_kind (get_or ks i 0) p) (i + 1) held)
    turned =
        f.same ∙ once-turn text t p i l f.places
        ∙ ap (λ (b : Bool). cond (binds_kind (get_or ks i 0) p) (not b) true && once_from (part_kind (get_or ks i 0) p) (i + 1) held) (sym (f.marks.at (bound_place ks i)))
        ∙ ap (λ (b : Bool). b && once_from (part_kind (get_or ks i 0) p) (i + 1) held) (sym k.says)

    pub left-next : r ≡ true → (q : ℕ) → q ≡ part_kind (get_or ks i 0) p → Left q (i + 1) after
    unfolding any
    left-next e q eq = record {
      places = held;
      marks = record { at = λ x. ap (λ (m : List ℕ). marked ids m x) (k.is e) ∙ go x (binds_kind (get_or ks i 0) p) };
      same = turned ∙ ap (λ (b : Bool). b && once_from (part_kind (get_or ks i 0) p) (i + 1) held) e ∙ ap (λ (q : ℕ). once_from q (i + 1) held) (sym eq);
    }
      where
        go : (x : ℕ) (b : Bool) → marked ids (cond b (set seen (get_or ids (bound_place ks i) 0) 1) seen) x ≡ any (λ (y : ℕ). same_word (here text t (bound_place ks y)) (here text t x)) (cond b (i ∷ f.places) f.places)
        go x true = mark-bound (here text t) (length ks) ids g seen (bound_place ks i) 1 (omega arith) room x ∙ ap (λ (b : Bool). same_word (here text t (bound_place ks i)) (here text t x) || b) (f.marks.at x)
        go x false = f.marks.at x

    pub left-twice : r ≡ false → false ≡ unique_words (binders 0 (tokens_from text t 0))
    left-twice e = sym (turned ∙ ap (λ (b : Bool). b && once_from (part_kind (get_or ks i 0) p) (i + 1) held) e)

  pub left_end : (p i : ℕ) (seen : List ℕ) → length ks ≤ i → Left p i seen → true ≡ unique_words (binders 0 (tokens_from text t 0))
  unfolding unique_words binders has_word any all
  left_end p i seen l f = sym (f.same ∙ rw (from_end text t i l) (every f.places))
    where
      every : (xs : List ℕ) → all (λ (x : ℕ). true) xs ≡ true
      every [] = refl
      every (x ∷ xs) = every xs

-- the answers at a token
module _ (ks ids seen : List ℕ) (i : ℕ) (b : Bool) where
  pub told-other : b ≡ false → Told ks ids seen i b seen true
  told-other e = record { says = sym (ap (λ (b : Bool). cond b (not (marked ids seen (bound_place ks i))) true) e); is = λ _. sym (ap (λ (b : Bool). cond b (set seen (get_or ids (bound_place ks i) 0) 1) seen) e) }

  module _ (e : b ≡ true) (z x : ℕ) (ez : z ≡ bound_place ks i) (ex : x ≡ get_or ids z 0) where
    here-is : x ≡ get_or ids (bound_place ks i) 0
    here-is = ex ∙ ap (λ (j : ℕ). get_or ids j 0) ez

    mark-is : cond b (not (marked ids seen (bound_place ks i))) true ≡ not (not (eqb (get_or seen x 0) 0))
    mark-is = ap (λ (b : Bool). cond b (not (marked ids seen (bound_place ks i))) true) e ∙ ap (λ (j : ℕ). not (not (eqb (get_or seen j 0) 0))) (sym here-is)

    pub told-twice : (get_or seen x 0 ≡ 0 → ⊥) → Told ks ids seen i b seen false
    told-twice h = record { says = sym (mark-is ∙ ap (λ (t : Bool). not (not t)) (ne_eqb (get_or seen x 0) 0 h)); is = λ t. clash t }

    pub told-new : get_or seen x 0 ≡ 0 → Told ks ids seen i b (set seen x 1) true
    told-new h = record { says = sym (mark-is ∙ ap (λ (t : Bool). not (not t)) (eq-eqb (get_or seen x 0) 0 h)); is = λ _. ap (λ (j : ℕ). set seen j 1) here-is ∙ sym (ap (λ (b : Bool). cond b (set seen (get_or ids (bound_place ks i) 0) 1) seen) e) }
