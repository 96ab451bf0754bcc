-- The memo after each aggregate of a query has been evaluated once, a nested one before the one around it.
use Rattle.std.specs.Prelude.{List, [], ◌∷◌, ℤ}
use Rattle.model.specs.Syntax.{Condition, Term, TRUE, FALSE, NOT, AND, OR, COMPARE, SOME, CONSTANT, ATTRIBUTE, AGGREGATE}
use Rattle.model.specs.Meaning.{Assignment, Rows}
use Rattle.numbers.specs.Memo.{remembered}
use Rattle.numbers.specs.Recalled.{value_by}

unfoldable mutual
  pub filled_c : Condition → Rows → Assignment → List ℤ → List ℤ
  filled_c TRUE R e m = m
  filled_c FALSE R e m = m
  filled_c (NOT c) R e m = filled_c c R e m
  filled_c (AND c d) R e m = filled_c d R e (filled_c c R e m)
  filled_c (OR c d) R e m = filled_c d R e (filled_c c R e m)
  filled_c (COMPARE o s t) R e m = filled_t t R e (filled_t s R e m)
  filled_c (SOME v r c) R e m = filled_c c R e m

  pub filled_t : Term → Rows → Assignment → List ℤ → List ℤ
  filled_t (CONSTANT a b c d) R e m = m
  filled_t (ATTRIBUTE v a) R e m = m
  filled_t (AGGREGATE f v r a c) R e m = remembered (filled_c c R e m) v (value_by (filled_c c R e m) (AGGREGATE f v r a c) R e)

unfoldable pub filled_ts : List Term → Rows → Assignment → List ℤ → List ℤ
filled_ts [] R e m = m
filled_ts (t ∷ ts) R e m = filled_ts ts R e (filled_t t R e m)
