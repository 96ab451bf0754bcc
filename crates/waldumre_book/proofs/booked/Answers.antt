use Rattle.waldumre_book.proofs.Ways.{refused, written, failed}
use Rattle.waldumre_book.proofs.booked.Goals as goal

pub returns-then-r : goal.returns-then-r
returns-then-r c bytes = refused c.args.r c.args.answer.now bytes (record { offers = c.args.offers.now; display = c.args.display.now }) c.asked.ensures c.if-r.true

pub returns-then-write : goal.returns-then-write
returns-then-write c bytes = written c.args.r c.args.answer.now bytes (record { offers = c.args.offers.now; display = c.args.display.now }) c.asked-then-write.ensures c.if-r.false (c.write.ensures.value, c.write.ensures.display_after) c.if-write.true

pub returns : goal.returns
returns c bytes = failed c.args.r c.args.answer.now bytes (record { offers = c.args.offers.now; display = c.args.display.now }) c.if-r.false c.refused.ensures (c.write.ensures.value, c.write.ensures.display_after) c.if-write.false
