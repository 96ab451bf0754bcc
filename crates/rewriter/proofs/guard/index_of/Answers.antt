use Rattle.std.proofs.Common.{rules, inl, not, length, ap, ◌∙◌, arith}
use borrow.Author.Tests.{tests}
use lib.Dec.{eqb}
use Rattle.std.proofs.lemmas.Iterator.Consumers.{YieldsList-from_first, count_from_yields_List}
use Rattle.std.proofs.lemmas.Iterator.Search.{YieldsList-from_take_while}
use Rattle.std.proofs.lemmas.List.Folds.{length-prefix_len}
use Rattle.model.specs.Syntax.{Binding}
use Rattle.scans.specs.Flat.{flat_bindings, is_binding, bindings_left}
use Rattle.scans.proofs.Walk.{bindings-few}
use Rattle.rewriter.proofs.guard.Index.{prefix-index}
use Rattle.rewriter.proofs.guard.index_of.Goals as goal

pub count-requires-clause-fits : goal.count-requires-clause-fits
count-requires-clause-fits c = inl (omega (arith, ap length (ap bindings_left c.take_while.ensures.source ∙ c.of.ensures), bindings-few c.args.q.now))

pub returns : goal.returns
returns c =
    count_from_yields_List c.take_while.result c.count.result c.count.ensures.ran
    (YieldsList-from_take_while _ (λ (b : Binding). not (eqb b.variable c.args.w)) (YieldsList-from_first is_binding bindings_left (flat_bindings c.args.q.now) (ap bindings_left c.take_while.ensures.source ∙ c.of.ensures)) c.take_while.ensures.closure c.take_while.ensures.done
    (λ x b q k. search (rules, tests)))
    ∙ length-prefix_len (λ (b : Binding). not (eqb b.variable c.args.w)) (flat_bindings c.args.q.now)
    ∙ prefix-index c.args.w (flat_bindings c.args.q.now)
