use Rattle.std.proofs.Common.{◌+◌, arith}
use Rattle.names.proofs.Walk as walk
use Rattle.names.proofs.Words as words
use Rattle.names.proofs.Sought.is_at.Goals as goal

pub returns-then-byte-self-clause-value : goal.returns-then-byte-self-clause-value
returns-then-byte-self-clause-value c = λ w s. walk.named-kind c.args.list.now c.args.at c.byte.result c.args.self.kind c.args.self.relation w c.byte.ensures c.if-byte-self.true

pub returns-then-not-belongs-clause-value : goal.returns-then-not-belongs-clause-value
returns-then-not-belongs-clause-value c = λ w s. walk.named-apart c.args.list.now c.args.at c.byte.result c.args.self.kind c.args.self.relation w c.byte.ensures c.if-byte-self.false c.belongs.result c.belongs.ensures c.if-not-belongs.true

pub returns : goal.returns
returns c = let list = c.args.list.now in
    record {
      value = λ w s. walk.named-is list c.args.at c.byte.result c.args.self.kind c.args.self.relation w c.byte.ensures c.if-byte-self.false c.belongs.result c.belongs.ensures c.place.result _ c.if-not-belongs.false c.place.ensures.value (words.same-code-as list (c.args.at + c.place.result) _ c.args.self.code w c.letters.ensures s);
      inside = λ t. walk.some-byte list c.args.at (omega (arith, c.args.self.some, c.byte.ensures, c.if-byte-self.false));
    }
