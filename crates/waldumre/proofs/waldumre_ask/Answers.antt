use mathlib.Core.Path.{ap, ◌∙◌}
use Rattle.waldumre.specs.declared.Outcome.{Outcome}
use Rattle.waldumre.specs.Outcome.{outcome_of}
use Rattle.waldumre.proofs.Replies.{asked-told}
use Rattle.waldumre.proofs.waldumre_ask.Goals as goal

pub returns : goal.returns
returns c =
    let cells = c.ask-r.new.answer in
    let bytes = c.ask-r.new.rewritten in
    ap (λ (o : Outcome). outcome_of o cells bytes) c.from.ensures ∙ asked-told c.ask-r.result cells bytes ∙ c.ask-r.ensures
