use Rattle.program.specs.Output as O
use Rattle.program.proofs.output.Parts.{at-start}
use Rattle.program.proofs.output.respond.Goals as goal

pub returns : goal.returns
returns c = let pre = c.requires in let h = at-start c.args.out.now _ (O.output c.args.catalogue.now c.args.file.now c.args.permits.now c.args.question.now) _ (pre) c.respond_with.ensures.upper_bound c.respond_with.ensures.value c.respond_with.ensures.out_after in record { prefix_len = h.0; out_after = h.1; out_after_2 = c.respond_with.ensures.out_after }
