use native.Mathlib.Omega.{arith}
use mathlib.Core.Path.{ap, ◌∙◌}
use Prim.Native.Nat.{ℕ}
use mathlib.Core.List.{[], ◌∷◌, ◌++◌}
use lib.ListN.{get_or, set}
use mathlib.Core.Bool.{cond}
use lib.Dec.{eqb}
use mathlib.Core.Option.{some, none}
use Rattle.quel.specs.Elaboration.{as_byte}
use Rattle.elaborate.specs.Places.{table}
use Rattle.elaborate.specs.Reach.{mode_in, used_in}
use Rattle.elaborate.specs.Lookup.{ids_in}
use Rattle.elaborate.proofs.binds.Laws.{unused, used-one, not-true, not-false, stands-more, tells_more}
use Rattle.elaborate.proofs.binds.symbol.Goals as goal

pub returns-then-not-used : goal.returns-then-not-used
returns-then-not-used c = let known = c.args.known.now in let i = c.args.i in let s = c.args.s in record { by_index = λ marks codes es cs. record { symbols = cs ++ (record { place = i; relation = c.args.r; variable = cond c.is_used-used.result (some (as_byte s.n)) none } ∷ []); binds = λ text ks ss ns main h e nm u tl. unused text (table ks ss ns) es main i h s cs c.args.out.now e c.args.r c.requires.3 c.is_used-used.result (c.is_used-used.ensures ∙ ap (λ (j : ℕ). used_in (get_or known j 0)) c.id_at-x.ensures.value ∙ tl (get_or (ids_in c.args.lookup.now.table.now) i 0) ∙ u.at i) (not-true c.is_used-used.result c.if-not-used.true-raw); stands = λ w f g. stands-more w (ids_in c.args.lookup.now.table.now) known cs f g c.pack.result i c.args.r (as_byte s.n) c.is_used-used.result (c.pack.ensures.result_value.0 ∙ c.entered.ensures.value) c.pack.ensures.result_value.1 c.pack.ensures.result_value.2 c.pack.ensures.result_value.3 c.requires.4 _ (c.settle.ensures ∙ ap (λ (x : ℕ). cond (eqb (mode_in (get_or known x 0)) 0) (set known x c.pack.result) known) c.id_at-x.ensures.value); tells = tells_more marks known (get_or (ids_in c.args.lookup.now.table.now) i 0) c.pack.result c.is_used-used.result (c.is_used-used.ensures ∙ ap (λ (j : ℕ). used_in (get_or known j 0)) c.id_at-x.ensures.value) (c.pack.ensures.result_value.0 ∙ c.entered.ensures.value) c.requires.4 _ (c.settle.ensures ∙ ap (λ (x : ℕ). cond (eqb (mode_in (get_or known x 0)) 0) (set known x c.pack.result) known) c.id_at-x.ensures.value) }; counts = (omega arith, omega arith) }

pub returns : goal.returns
returns c = let known = c.args.known.now in let i = c.args.i in let s = c.args.s in record { by_index = λ marks codes es cs. record { symbols = cs ++ (record { place = i; relation = c.args.r; variable = cond c.is_used-used.result (some (as_byte s.n)) none } ∷ []); binds = λ text ks ss ns main h e nm u tl. used-one text (table ks ss ns) es main i h s cs c.args.out.now e c.args.r c.requires.3 c.is_used-used.result (c.is_used-used.ensures ∙ ap (λ (j : ℕ). used_in (get_or known j 0)) c.id_at-x.ensures.value ∙ tl (get_or (ids_in c.args.lookup.now.table.now) i 0) ∙ u.at i) (not-false c.is_used-used.result c.if-not-used.false-raw) _ _ c.copy-at.ensures.value c.copy-at.ensures.out_after; stands = λ w f g. stands-more w (ids_in c.args.lookup.now.table.now) known cs f g c.pack.result i c.args.r (as_byte s.n) c.is_used-used.result (c.pack.ensures.result_value.0 ∙ c.entered.ensures.value) c.pack.ensures.result_value.1 c.pack.ensures.result_value.2 c.pack.ensures.result_value.3 c.requires.4 _ (c.settle.ensures ∙ ap (λ (x : ℕ). cond (eqb (mode_in (get_or known x 0)) 0) (set known x c.pack.result) known) c.id_at-x.ensures.value); tells = tells_more marks known (get_or (ids_in c.args.lookup.now.table.now) i 0) c.pack.result c.is_used-used.result (c.is_used-used.ensures ∙ ap (λ (j : ℕ). used_in (get_or known j 0)) c.id_at-x.ensures.value) (c.pack.ensures.result_value.0 ∙ c.entered.ensures.value) c.requires.4 _ (c.settle.ensures ∙ ap (λ (x : ℕ). cond (eqb (mode_in (get_or known x 0)) 0) (set known x c.pack.result) known) c.id_at-x.ensures.value) }; counts = (omega arith, omega (arith, c.copy-at.ensures.value)) }
