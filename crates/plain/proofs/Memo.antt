-- Memos by which a query comes to what it means: one that knows nothing, and one that was filled for the query.
use mathlib.Core.Path.{◌≡◌, refl, sym, ap₂, ◌∙◌, subst}
use mathlib.Core.List.{List, [], ◌∷◌}
use Prim.Native.Nat.{ℕ, ◌+◌, ◌*◌}
use mathlib.Core.Bool.{false}
use native.Mathlib.Omega.{arith}
use lib.IntN.{ℤ, pos}
use lib.ListN.{get_or, drop, replicate, length-replicate}
use Rattle.model.specs.Lists.{Every}
use Rattle.model.specs.Syntax.{Condition, Term, TRUE, FALSE, NOT, AND, OR, COMPARE, SOME, CONSTANT, ATTRIBUTE, AGGREGATE, Query}
use Rattle.model.specs.Encoding.{query_of}
use Rattle.model.specs.Meaning.{Assignment, Rows, with_cell, target_row, target_row_with}
use Rattle.model.specs.Catalogue.{catalogue_of, shape_of}
use Rattle.model.proofs.Passed.{Scoped, scoped}
use Rattle.model.proofs.Tests.{clash}
use Rattle.numbers.specs.Memo.{knows}
use Rattle.grammar.specs.declared.Layout.{Layout}
use Rattle.sizes.specs.Decode.{decode}
use Rattle.sizes.specs.Parts.{targets_at}
use Rattle.walks.specs.Walks.{rows_by}
use Rattle.walks.specs.Assigned.{assigned}
use Rattle.odometer.specs.Plan.{cells_by}
use Rattle.aggregates.specs.Filled.{filled_c, filled_ts}
use Rattle.model.proofs.Lists.{get_or-same}
use Rattle.aggregates.proofs.Faithful.{Faithful, FaithfulT, FaithfulQ, faithful-value, faithful-holds, query-faithful}
use Rattle.queries.specs.Parts.{query_at}
use Rattle.plain.specs.Reply.{memo_of, Answerable, Trusted}

cells_are : (m : List ℤ) (R : Rows) (ts : List Term) → Every (FaithfulT m R) ts → (e : Assignment) → cells_by m ts R e ≡ target_row ts R e
unfolding target_row_with Every
cells_are m R [] h e = refl
cells_are m R (t ∷ ts) h e = ap₂ with_cell (faithful-value m R t h.0 e) (cells_are m R ts h.1 e)

trusted : (m : List ℤ) (R : Rows) (u : Query) → FaithfulQ m R u → Trusted m R u
trusted m R u h = record { targets = cells_are m R u.targets h.targets; condition = faithful-holds m R u.condition h.condition }

-- with nothing in it, a memo is faithful to all
module _ (m : List ℤ) (R : Rows) (blank : (i : ℕ) → get_or m i (pos 0) ≡ pos 0) where
  unknown : (v : ℕ) → knows m v ≡ false
  unfolding knows
  unknown v = rw (blank (2 * v), blank (2 * v + 1))

  mutual
    unfolding Faithful

    blank-faithful : (c : Condition) → Faithful m R c
    blank-faithful TRUE = tt
    blank-faithful FALSE = tt
    blank-faithful (NOT c) = blank-faithful c
    blank-faithful (AND c d) = (blank-faithful c, blank-faithful d)
    blank-faithful (OR c d) = (blank-faithful c, blank-faithful d)
    blank-faithful (COMPARE o s t) = (blank-faithful_t s, blank-faithful_t t)
    blank-faithful (SOME v r c) = blank-faithful c

    blank-faithful_t : (t : Term) → FaithfulT m R t
    blank-faithful_t (CONSTANT a b c d) = tt
    blank-faithful_t (ATTRIBUTE v a) = tt
    blank-faithful_t (AGGREGATE f v r a c) = (blank-faithful c, λ k. clash (sym (unknown v) ∙ k))

  blank-faithful_ts : (ts : List Term) → Every (FaithfulT m R) ts
  unfolding Every
  blank-faithful_ts [] = tt
  blank-faithful_ts (t ∷ ts) = (blank-faithful_t t, blank-faithful_ts ts)

  pub blank-trusted : (u : Query) → Trusted m R u
  blank-trusted u = trusted m R u (record { targets = blank-faithful_ts u.targets; condition = blank-faithful u.condition })

-- filled from such a one for a query that passed its checks
pub filled-trusted : (y : Layout) (l : ℕ) (q z cb ws : List ℕ) (vs m : List ℤ) (e : List ℕ) → Answerable y l q z cb → m ≡ memo_of (query_at y l q z) (rows_by ws vs) (assigned vs e) (replicate 512 (pos 0)) → Trusted m (rows_by ws vs) (query_at y l q z)
filled-trusted y l q z cb ws vs m e ok em =
    let sh = shape_of (catalogue_of cb) in
    let u = query_at y l q z in
    let R = rows_by ws vs in
    let n = ok.limits.bound in
    let s = subst (Scoped sh n) (sym ok.ready) (scoped ok.limits sh (query_of q) ok.known) in
    trusted m R u (subst (λ (m : List ℤ). FaithfulQ m R u) (sym em) (query-faithful sh n u R (assigned vs e) (replicate 512 (pos 0)) s (get_or-same 512 (pos 0)) (omega (arith, ok.bound, length-replicate 512 (pos 0)))))

-- the memo, targets first
pub remembered-is : (y : Layout) (l : ℕ) (q z ws : List ℕ) (vs : List ℤ) (e e₁ a b c d : List ℕ) (m n o : List ℤ) → a ≡ drop y.first q → b ≡ drop y.first z → n ≡ filled_ts (targets_at y.targets l a b) (rows_by ws vs) (assigned vs e) m
    → e₁ ≡ e → c ≡ drop y.condition q → d ≡ drop y.condition z → o ≡ filled_c (decode l c d) (rows_by ws vs) (assigned vs e₁) n → o ≡ memo_of (query_at y l q z) (rows_by ws vs) (assigned vs e) m
remembered-is y l q z ws vs e e₁ a b c d m n o ea eb en ee ec ed eo = eo ∙ rw (en, ee, ec, ed, ea, eb)
