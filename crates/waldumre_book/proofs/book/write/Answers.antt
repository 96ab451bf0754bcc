use borrow.Author.Tests.{not-true, not-false}
use Rattle.waldumre_book.proofs.book.Size.{kept, in-range, blank, written}
use Rattle.waldumre_book.proofs.book.write.Goals as goal

pub returns-then-not-good : goal.returns-then-not-good
returns-then-not-good c = record { value = (kept c.args.columns c.args.cells.now (record { offers = c.args.offers.now; display = c.args.display.now }) c.suits-good.result c.suits-good.ensures (not-true _ c.if-not-good.true-raw)).0; display_after = (kept c.args.columns c.args.cells.now (record { offers = c.args.offers.now; display = c.args.display.now }) c.suits-good.result c.suits-good.ensures (not-true _ c.if-not-good.true-raw)).1 }

pub enter-requires : goal.enter-requires
enter-requires c = let cells = c.args.cells.now in let columns = c.args.columns in record { cells_value = in-range columns cells (record { offers = c.args.offers.now; display = c.args.display.now }) c.suits-good.result c.suits-good.ensures (not-false _ c.if-not-good.false-raw); display_value = blank columns cells (record { offers = c.args.offers.now; display = c.args.display.now }) c.suits-good.result c.suits-good.ensures (not-false _ c.if-not-good.false-raw) _ _ (c.fill.ensures.after (λ y e. e)) (c.fill-2.ensures.after (λ y e. e)) }

pub returns : goal.returns
returns c = record { value = (written c.args.columns c.args.cells.now (record { offers = c.args.offers.now; display = c.args.display.now }) c.suits-good.result c.suits-good.ensures (not-false _ c.if-not-good.false-raw) _ c.enter.ensures).0; display_after = (written c.args.columns c.args.cells.now (record { offers = c.args.offers.now; display = c.args.display.now }) c.suits-good.result c.suits-good.ensures (not-false _ c.if-not-good.false-raw) _ c.enter.ensures).1 }
