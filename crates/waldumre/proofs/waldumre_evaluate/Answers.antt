use mathlib.Core.Path.{ap, ◌∙◌}
use Rattle.waldumre.specs.declared.Outcome.{Outcome}
use Rattle.waldumre.specs.Outcome.{answer_of}
use Rattle.waldumre.proofs.Replies.{answered-told, answered-length}
use Rattle.waldumre.proofs.waldumre_evaluate.Goals as goal

pub returns : goal.returns
returns c =
    let cells = c.evaluate.new.answer in
    record {
      answer_after = ap (λ (o : Outcome). answer_of o cells) c.from.ensures ∙ answered-told c.evaluate.result cells ∙ c.evaluate.ensures;
      length_value = ap (λ (o : Outcome). o.length) c.from.ensures ∙ answered-length c.evaluate.result;
    }
