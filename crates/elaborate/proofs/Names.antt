-- Names by their numbers and codes.
use Prim.Native.Nat.{ℕ, ◌+◌, ◌≤◌}
use mathlib.Core.Bool.{Bool, true, false, cond}
use mathlib.Core.List.{List, [], ◌∷◌}
use mathlib.Core.Path.{◌≡◌, refl, sym, ap, ◌∙◌, subst}
use native.Mathlib.Omega.{arith}
use lib.Dec.{eqb}
use lib.ListN.{length, get_or, get_or-eq_default}
use Rattle.model.specs.Lists.{all}
use Rattle.quel.specs.Results.{Word, same_word}
use Rattle.tokens.specs.Codes.{Spelt, Coded}
use Rattle.tokens.specs.Spans.{positional}
use Rattle.tokens.specs.Table.{Table}
use Rattle.buckets.proofs.Laws.{same_word_lem}
use Rattle.elaborate.specs.Numbers.{Numbered}
use Rattle.elaborate.proofs.marks.Walks.{here, name-past}
use Rattle.elaborate.proofs.marks.Numbers.{spelt-at}
use Rattle.elaborate.specs.Tables.{Named}

no-letters : Spelt [] 1
unfolding all positional
no-letters = record { letters = refl; code = refl }

module _ (text : List ℕ) (t : Table) (ids : List ℕ) (f : Numbered (here text t) (length t.kinds) ids) (c : Coded text t (length t.kinds)) where
  -- a place past all has no name and the number 0
  abbrev past : ℕ
  past = length ids + length t.kinds

  no_name : here text t past ≡ []
  no_name = sym (name-past text t.kinds t.starts past (omega arith))

  blank : (x : ℕ) → same_word (here text t x) [] ≡ eqb (get_or ids x 0) 0
  blank x = ap (same_word (here text t x)) (sym no_name) ∙ f.same x past ∙ ap (eqb (get_or ids x 0)) (get_or-eq_default ids 0 {n = past} (omega arith))

  pub named : Named (here text t) ids t.numbers
  unfolding same_word
  named = record { same = f.same; spelt = λ x. go x (eqb (get_or ids x 0) 0) refl }
    where
      some : (x : ℕ) (w : Word) → here text t x ≡ w → same_word w [] ≡ false → 1 ≤ length (here text t x)
      some x [] e h = let z : ◌≡◌ {A = ℕ} 0 1 = cc in absurd (omega arith)
      some x (b ∷ w) e h = omega (arith, ap length e)

      go : (x : ℕ) (b : Bool) → eqb (get_or ids x 0) 0 ≡ b → Spelt (here text t x) (cond b 1 (get_or t.numbers x 0))
      go x true e = subst (λ (w : Word). Spelt w 1) (sym (same_word_lem (here text t x) [] (blank x ∙ e))) no-letters
      go x false e = (spelt-at text t c x (some x (here text t x) refl (blank x ∙ e))).1
