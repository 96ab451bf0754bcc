use Rattle.std.proofs.Common.{rules}
use borrow.Author.Tests.{tests}
use Rattle.scans.specs.Flat.{stored_in}
use Rattle.scans.proofs.Lists.{all_bound}
use Rattle.permits.proofs.all_stored.Goals as goal

pub returns : goal.returns
returns c = all_bound (stored_in c.args.catalogue.now) c.of.result _ c.of.ensures c.all.new.self _ _ c.all.ensures.ran (λ x b q k. search (rules, tests))
