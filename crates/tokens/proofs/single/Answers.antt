use Rattle.tokens.proofs.Leading.{single-reads}
use Rattle.std.proofs.Common.{rules}
use Rattle.tokens.proofs.single.Goals as goal

pub returns : goal.returns
returns c = λ rest s. search (rules, single-reads c.args.b rest s _ c.sign_kind.ensures)
