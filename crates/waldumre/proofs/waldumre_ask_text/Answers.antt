use mathlib.Core.Path.{refl, sym, ap, ◌∙◌}
use native.Mathlib.Omega.{arith}
use lib.Seq.{length-take-le}
use Rattle.model.proofs.Refusals.{number-positive}
use Rattle.waldumre.specs.declared.Outcome.{Outcome}
use Rattle.waldumre.specs.Outcome.{text_outcome_of}
use Rattle.waldumre.proofs.Texts.{within, refused, asked}
use Rattle.waldumre.proofs.waldumre_ask_text.Goals as goal

pub slice_bounds-waldumre_ask-end : goal.slice_bounds-waldumre_ask-end
slice_bounds-waldumre_ask-end c = omega (arith, within c.args.names.now c.args.text.now c.args.records.now _ c.in-Ok.ensures, c.read.auto.out)

pub slice_bounds-waldumre_ask-end-in-Ok : goal.slice_bounds-waldumre_ask-end-in-Ok
slice_bounds-waldumre_ask-end-in-Ok c = sym (length-take-le c.in-Ok.n c.read.new.out (omega (arith, within c.args.names.now c.args.text.now c.args.records.now _ c.in-Ok.ensures, c.read.auto.out)))

pub returns-in-Ok : goal.returns-in-Ok
returns-in-Ok c = asked c.args.catalogue.now c.args.values.now c.args.permits.now c.args.text.now c.args.names.now c.args.records.now c.args.rewritten.now c.args.answer.now _ c.in-Ok.ensures refl c.waldumre_ask.result _ _ c.waldumre_ask.ensures

pub returns-in-Err : goal.returns-in-Err
returns-in-Err c =
    ap (λ (o : Outcome). text_outcome_of o c.args.answer.now c.args.rewritten.now c.read.new.out) c.refused.ensures
    ∙ refused c.args.catalogue.now c.args.values.now c.args.permits.now c.args.text.now c.args.names.now c.args.records.now c.args.rewritten.now c.args.answer.now _ c.in-Err.ensures (λ z. omega (arith, number-positive c.in-Err.unread, z)) _ refl
