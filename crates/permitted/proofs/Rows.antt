-- The rows that a variable is given are its permitted rows.
use mathlib.Core.Path.{◌≡◌, refl, sym, ap, ap₂, ◌∙◌, fun_ext}
use mathlib.Core.Bool.{Bool, true, false, ◌||◌}
use mathlib.Core.List.{List, [], ◌∷◌, map}
use Prim.Native.Nat.{ℕ}
use native.Mathlib.Omega.{arith}
use lib.IntN.{ℤ}
use borrow.Author.Tests.{eq-eqb, ne_eqb}
use Rattle.model.specs.Lists.{any, filter, Every}
use Rattle.model.specs.Syntax.{Condition}
use Rattle.model.specs.Encoding.{encode}
use Rattle.model.specs.Meaning.{Tuple}
use Rattle.model.specs.Catalogue.{catalogue_of, shape_of, tuples_at}
use Rattle.model.specs.Checks.{fails10}
use Rattle.model.specs.Permits.{Guard, free, only, meets, allowed}
use Rattle.model.proofs.Permitted.{SaneGuard}
use Rattle.model.proofs.Renaming.{Sane}
use Rattle.model.proofs.Limits.{Fine, Good}
use Rattle.catalogue.proofs.Reading.{tuples-are}
use Rattle.rewriter.specs.Rewritten.{StandsFor}
use Rattle.permitted.specs.Meets.{meets_bytes}
use Rattle.permitted.specs.Given.{meets_any, rows_for}
use Rattle.permitted.proofs.Marks.{picked_same, Enough, enough-itself}
use Rattle.permitted.proofs.Meets.{meets-is}

filter-yes : (xs : List Tuple) → filter (λ x. true) xs ≡ xs
unfolding filter
filter-yes [] = refl
filter-yes (x ∷ xs) = ap (λ (l : List Tuple). x ∷ l) (filter-yes xs)

module _ (cb : List ℕ) (hc : fails10 cb ≡ false) (vs : List ℤ) (r : ℕ) where
  abbrev D : ℕ → List Tuple
  D = tuples_at (catalogue_of cb) vs

  any-meets : (cs : List Condition) → Every Fine cs → Every (Sane (shape_of (catalogue_of cb)) r) cs → (x : Tuple) → any (λ q. meets_bytes cb vs q x) (map (λ c. encode c []) cs) ≡ any (λ c. meets D c x) cs
  unfolding any Every
  any-meets [] f s x = refl
  any-meets (c ∷ cs) f s x = ap₂ ◌||◌ (meets-is cb hc vs r c f.0 s.0 x) (any-meets cs f.1 s.1 x)

  pub permitted-rows : (f : ℕ → List ℕ) (m : ℕ) (g : Guard) → Enough 8 m → StandsFor g m f → Good g → SaneGuard (shape_of (catalogue_of cb)) r g → rows_for cb vs f m r ≡ filter (allowed D g) (D r)
  unfolding StandsFor Good SaneGuard allowed rows_for meets_any
  permitted-rows f m free hm st good sane = rw (eq-eqb m 0 st) (sym (tuples-are cb hc vs r) ∙ sym (filter-yes (D r)))
  permitted-rows f m (only cs) hm st good sane =
      rw (ne_eqb m 0 st.0)
      (ap₂ (λ (p : Tuple → Bool) (l : List Tuple). filter p l) (fun_ext λ x. ap (any (λ q. meets_bytes cb vs q x)) (picked_same 8 m m 0 f hm (enough-itself m m (omega arith)) ∙ st.1) ∙ any-meets cs good.0 sane x) (sym (tuples-are cb hc vs r)))
