-- The parts of flat_text, one after the other.
use Prim.Native.Nat.{ℕ, ◌+◌, ◌*◌, ◌≤◌, ◌<◌}
use mathlib.Core.Bool.{Bool, true, false, not, cond}
use mathlib.Core.List.{List, [], ◌∷◌, map}
use mathlib.Core.Option.{none}
use mathlib.Core.Path.{◌≡◌, refl, sym, ap, ap₂, ◌∙◌, subst}
use native.Mathlib.Nat.{add-zero}
use lib.Dec.{eqb}
use lib.ListN.{length, get_or}
use native.Mathlib.Omega.{arith}
use lib.Seq.{sets}
use Rattle.quel.specs.Results.{fail, ok, then, need, Word, same_word, unique_words}
use Rattle.quel.specs.Tokens.{Token}
use Rattle.quel.specs.Names.{Entry}
use Rattle.quel.specs.Elaboration.{Symbol, ranges_of}
use Rattle.quel.specs.Ahead.{at_rest}
use Rattle.quel.specs.Writing.{Written, before, loop}
use Rattle.model.specs.Encoding.{encode_ranges}
use Rattle.tokens.specs.Table.{Table}
use Rattle.flat.specs.Flat.{uses, binders, main_of, last_of, bound, flat_text}
use Rattle.elaborate.specs.Places.{tokens_from}
use Rattle.elaborate.specs.Reach.{Bound, range_symbol}
use Rattle.elaborate.specs.Tables.{Same, Holds}
use Rattle.model.proofs.Tests.{and-true}
use Rattle.elaborate.specs.After.{ended}
use Rattle.std.specs.Prelude.{Some, None}
use Rattle.std.specs.Prelude as P
use Rattle.elaborate.specs.declared.binds.Tally.{Tally}
use Rattle.elaborate.specs.Tallies.{listing, bound_from, symbols_in, after_all, Whole, Most, Stands}
use Rattle.elaborate.specs.Ends.{end_by, Ends, Last}

module _ (text : List ℕ) (t : Table) (es : List Entry) (d : List ℕ) (u : Bool) (eu : u ≡ unique_words (binders 0 (tokens_from text t 0))) where
  pub twice : not u ≡ true → ended d 0 (flat_text es (tokens_from text t 0)) ≡ fail
  unfolding flat_text
  twice h = ap (λ (b : Bool). ended d 0 (need b (then (bound es (uses 0 (main_of (tokens_from text t 0))) none 0 (tokens_from text t 0)) λ ρ n. before (λ bs. encode_ranges (ranges_of es ρ) bs) (loop es (last_of (main_of (tokens_from text t 0))) (main_of (tokens_from text t 0)) at_rest (ρ ∷ []) n)))) (sym eu ∙ off u h)
    where
      off : (u : Bool) → not u ≡ true → u ≡ false
      off true h = sym h
      off false h = refl

  module _ (h : not u ≡ false) (main : ℕ) (em : tokens_from text t main ≡ main_of (tokens_from text t 0)) where
    abbrev last : List ℕ
    last = last_of (tokens_from text t main)

    abbrev follow : List Symbol → ℕ → Written
    follow ρ n = loop es last (tokens_from text t main) at_rest (ρ ∷ []) n

    parts : flat_text es (tokens_from text t 0) ≡ listing es [] follow (bound_from text t es main none 0 0)
    unfolding flat_text
    parts =
        ap (λ (b : Bool). need b (then (bound es (uses 0 (main_of (tokens_from text t 0))) none 0 (tokens_from text t 0)) λ ρ n. before (λ bs. encode_ranges (ranges_of es ρ) bs) (loop es (last_of (main_of (tokens_from text t 0))) (main_of (tokens_from text t 0)) at_rest (ρ ∷ []) n))) (sym eu ∙ on u h)
        ∙ ap (λ (m : List Token). then (bound es (uses 0 m) none 0 (tokens_from text t 0)) λ ρ n. before (λ bs. encode_ranges (ranges_of es ρ) bs) (loop es (last_of m) m at_rest (ρ ∷ []) n)) (sym em)
      where
        on : (u : Bool) → not u ≡ false → u ≡ true
        on true h = refl
        on false h = sym h

    module _ (r : P.Option Tally) (cs : List Bound) (x : List ℕ) (w : Whole text t es main d r cs x) where
      pub no-relation : r ≡ None → ended d 0 (flat_text es (tokens_from text t 0)) ≡ fail
      no-relation e = ap (ended d 0) parts ∙ w.ends follow ∙ ap (λ (y : P.Option Tally). after_all text t es main follow y cs x) e

      module _ (s : Tally) (e : r ≡ Some s) (l : P.Option ℕ) (y : List ℕ) (f : Ends text t es (symbols_in text t es main cs) main s.at s.n x l y) where
        whole : ended d 0 (flat_text es (tokens_from text t 0)) ≡ end_by last f.number l y
        whole = ap (ended d 0) parts ∙ w.ends follow ∙ ap (λ (z : P.Option Tally). after_all text t es main follow z cs x) e ∙ f.ends last

        pub no_name : l ≡ None → ended d 0 (flat_text es (tokens_from text t 0)) ≡ fail
        no_name g = whole ∙ ap (λ (z : P.Option ℕ). end_by last f.number z y) g

        module _ (at : ℕ) (g : l ≡ Some at) (q : Bool) (eq : last ≡ cond q [] (16 ∷ [])) where
          placed : ended d 0 (flat_text es (tokens_from text t 0)) ≡ ok (sets y at (cond q [] (16 ∷ []))) (at + length {A = ℕ} (cond q [] (16 ∷ [])))
          placed = whole ∙ ap (λ (z : P.Option ℕ). end_by last f.number z y) g ∙ ap (λ (z : List ℕ). ok (sets y at z) (at + length z)) eq

          pub with-condition : q ≡ true → ended d 0 (flat_text es (tokens_from text t 0)) ≡ ok y at
          with-condition h = placed ∙ ap (λ (b : Bool). ok (sets y at (cond b [] (16 ∷ []))) (at + length {A = ℕ} (cond b [] (16 ∷ [])))) h ∙ ap (λ (n : ℕ). ok y n) (add-zero at)

          pub with-true : q ≡ false → (p : ℕ) (v : List ℕ) → p ≡ at + 1 → v ≡ sets y at (16 ∷ []) → ended d 0 (flat_text es (tokens_from text t 0)) ≡ ok v p
          with-true h p v ep ev = placed ∙ ap (λ (b : Bool). ok (sets y at (cond b [] (16 ∷ []))) (at + length {A = ℕ} (cond b [] (16 ∷ [])))) h ∙ ap₂ (λ (z : List ℕ) (n : ℕ). ok z n) (sym ev) (sym ep)

pub most : (k : ℕ) (r : P.Option Tally) (s : Tally) → Most k r → r ≡ Some s → (s.n ≤ k) × (s.at ≤ 3 * k)
most k r s m e = subst (Most k) e m

pub place-most : (at p : ℕ) (l : P.Option ℕ) → Last at l → l ≡ Some p → p ≤ at + 32812591
place-most at p l m e = subst (Last at) e m

-- what names stand for after the RANGE list
pub stand-after : (w : ℕ → Word) (ids : List ℕ) (cs : List Bound) (known : List ℕ) (r : P.Option Tally) (s : Tally) → Stands w ids r cs known → r ≡ Some s → Holds w ids known 0 0 (map (range_symbol w) cs)
stand-after w ids cs known r s h e = subst (λ (x : P.Option Tally). Stands w ids x cs known) e h

-- there are names for any numbers
abbrev pub named : List ℕ → ℕ → Word
named ids x = get_or ids x 0 ∷ []

pub some-names : (ids : List ℕ) → Same (named ids) ids
unfolding same_word
some-names ids x y = and-true (eqb (get_or ids x 0) (get_or ids y 0))

pub small : (w : ℕ → Word) (ids known : List ℕ) (ρ : List Symbol) → Holds w ids known 0 0 ρ → (y : ℕ) → get_or known y 0 < 68719476736
small w ids known ρ h y = omega (arith, h.low y)
