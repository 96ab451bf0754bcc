use Rattle.std.proofs.Common.{refl, sym, ◌∙◌, arith}
use Rattle.decide.proofs.seeks.Filling.{one_more}
use Rattle.decide.proofs.seeks.Source.add_key.Goals as goal

pub returns : goal.returns
returns c =
    let s = c.args.self.now in
    let key = c.in_ok-key.key in
    let room = c.pays.ensures c.if-not-pays.false in
    one_more c.args.free _ c.args.start c.args.free c.args.variable key.place key.number key.attribute key.other c.mark.result s.t.now s.walks.now s.values.now c.args.chains.now c.head.new.chains c.build.new.chains c.walk_of-walk.result c.requires.3 c.head.ensures (omega (arith, room.0)) c.walk_of-walk.ensures.value c.build.ensures.built c.build.ensures.outside refl room.1 c.requires.0 (omega (arith, room.0, c.head.auto.chains, c.build.auto.chains, c.requires.3.low, c.requires.0)) refl (c.mark.ensures.0 ∙ sym c.if-key-other.false) c.mark.ensures.1 c.in_ok-key.ensures.0 c.in_ok-key.ensures.1
