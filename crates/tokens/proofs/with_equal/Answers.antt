use Rattle.std.proofs.Common.{rules}
use Rattle.tokens.proofs.Leading.{equal-reads, alone-reads}
use Rattle.tokens.proofs.with_equal.Goals as goal

pub returns-then-starts_with : goal.returns-then-starts_with
returns-then-starts_with c = λ b o. equal-reads c.args.alone c.args.with b o c.args.rest.now (search rules)

pub returns-else-starts_with : goal.returns-else-starts_with
returns-else-starts_with c = λ b o. alone-reads c.args.alone c.args.with b o c.args.rest.now (search rules)
