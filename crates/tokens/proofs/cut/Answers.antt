use Rattle.tokens.proofs.Cutting.{none-coded, held_start, too_long, held-end, held-blank, held-refused, held_more}
use Rattle.tokens.specs.Pieces.{Leads}
use Rattle.std.specs.Prelude.{Option}
use Rattle.tokens.specs.declared.Piece.{Piece}
use Rattle.std.proofs.lemmas.List.{take_rest}
use lib.ListN.{drop, length-set}
use mathlib.Core.Path.{refl, sym, ◌∙◌, subst}
use Rattle.std.proofs.Common.{rules}
use native.Mathlib.Omega.{arith}
use Rattle.tokens.proofs.cut.Goals as goal

pub returns-then-text-gt-LONGEST : goal.returns-then-text-gt-LONGEST
returns-then-text-gt-LONGEST c = record { numbers_after = sym (too_long c.args.text.now (omega arith)); coded = none-coded _ _; result_bound = (omega arith, omega arith) }

pub loop-at-init : goal.loop-at-init
loop-at-init c = (held_start c.args.text.now _ _ _, (omega arith), refl, refl, refl)

pub loop-at-preserved-then-is_blank : goal.loop-at-preserved-then-is_blank
loop-at-preserved-then-is_blank c = (held-blank c.args.text.now c.loop-at.kinds c.loop-at.starts c.loop-at.numbers c.loop-at.at c.loop-at.n c.loop-at.invariant.0 c.loop-at.invariant.1 c.loop-at-test.true (sym c.is_blank.ensures ∙ c.if-is_blank.true), c.loop-at.invariant.1, c.loop-at.invariant.2, c.loop-at.invariant.3, c.loop-at.invariant.4)

pub returns-in_err-piece-clause-numbers_after : goal.returns-in_err-piece-clause-numbers_after
returns-in_err-piece-clause-numbers_after c =
    let text = c.args.text.now in
    search (rules, held-refused text c.loop-at.kinds c.loop-at.starts c.loop-at.numbers c.loop-at.at c.loop-at.n c.loop-at.invariant.0 c.loop-at.invariant.1 c.loop-at-test.true (sym c.is_blank.ensures ∙ c.if-is_blank.false) (subst (λ (r : Option Piece). Leads r (drop c.loop-at.at text)) c.in_err-piece.was (subst (Leads c.first_piece.result) (take_rest text c.loop-at.at) c.first_piece.ensures)))

pub loop-at-preserved : goal.loop-at-preserved
loop-at-preserved c = let text = c.args.text.now in
    (rw c.from.ensures (held_more text c.loop-at.kinds c.loop-at.starts c.loop-at.numbers c.loop-at.at c.loop-at.n c.loop-at.invariant.0 c.loop-at.invariant.1 c.loop-at-test.true (sym c.is_blank.ensures ∙ c.if-is_blank.false) c.in_ok-piece.piece.kind c.in_ok-piece.piece.size c.in_ok-piece.piece.value (subst (λ (r : Option Piece). Leads r (drop c.loop-at.at text)) c.in_ok-piece.was (subst (Leads c.first_piece.result) (take_rest text c.loop-at.at) c.first_piece.ensures)) (omega (arith, c.loop-at.invariant.2, c.loop-at.invariant.0.behind, c.loop-at-test.true, (c.requires c.loop-at.invariant.1).0)) (omega (arith, c.loop-at.invariant.3, c.loop-at.invariant.0.behind, c.loop-at-test.true, (c.requires c.loop-at.invariant.1).1)) (omega (arith, c.loop-at.invariant.4, c.loop-at.invariant.0.behind, c.loop-at-test.true, (c.requires c.loop-at.invariant.1).2))), c.loop-at.invariant.1, length-set c.loop-at.kinds c.loop-at.n _ ∙ c.loop-at.invariant.2, length-set c.loop-at.starts c.loop-at.n c.loop-at.at ∙ c.loop-at.invariant.3, length-set c.loop-at.numbers c.loop-at.n c.in_ok-piece.piece.value ∙ c.loop-at.invariant.4)

pub returns : goal.returns
returns c = record { numbers_after = held-end c.args.text.now c.loop-at.kinds c.loop-at.starts c.loop-at.numbers c.loop-at.at c.loop-at.n c.loop-at.invariant.0 c.loop-at.invariant.1 c.loop-at-test.false; coded = c.loop-at.invariant.0.coded; result_bound = (omega (arith, c.loop-at.invariant.0.behind, c.loop-at.invariant.0.inside, c.loop-at.invariant.1), omega (arith, c.loop-at.invariant.0.behind, c.loop-at.invariant.0.inside)) }
