use Rattle.names.specs.Search.{good_code}
use Rattle.tokens.specs.Kinds.{nonzero}
use Rattle.names.proofs.Once.{letters-other, letters-between}
use Rattle.std.proofs.Common.{ap, refl, ◌+◌, ◌∙◌, rules}
use Rattle.names.proofs.record_code.Goals as goal

pub returns-then-not-contains : goal.returns-then-not-contains
returns-then-not-contains c = ap nonzero (letters-other c.args.list.now c.args.at c.byte-kind.result c.byte-kind.ensures (search rules))

pub returns : goal.returns
returns c = c.good_code.ensures ∙ ap nonzero (letters-between c.args.list.now c.args.at c.byte-kind.result c.byte-kind.ensures (good_code c.args.list.now (c.args.at + c.place.result)) _ (search rules) (search rules) c.place.ensures.value refl)
