use Rattle.std.proofs.Common.{rules}
use Rattle.tokens.proofs.Leading.{word-reads}
use Rattle.tokens.proofs.word.Goals as goal

pub returns : goal.returns
returns c = search (rules, word-reads c.args.s.now _ _ _ c.requires c.front-letters.ensures.value c.reserved_kind.ensures c.front-letters.ensures.size)
