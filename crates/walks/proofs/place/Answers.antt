use Rattle.walks.proofs.Table.{place-plain, place_is}
use Rattle.walks.proofs.place.Goals as goal

pub returns-then-walk-eq0 : goal.returns-then-walk-eq0
returns-then-walk-eq0 c = let top = c in place-plain top.args.walks.now top.args.walk top.args.i c.if-walk-eq0.true

pub returns : goal.returns
returns c = let top = c in
    place_is top.args.walks.now top.args.walk top.args.i c.row_at.result c.if-walk-eq0.false c.row_at.ensures.value
