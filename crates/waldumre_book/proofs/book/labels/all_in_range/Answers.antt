use native.Mathlib.Omega.{arith}
use mathlib.Core.Path.{◌≡◌, sym, ap, ◌∙◌}
use Prim.Native.Nat.{ℕ, ◌+◌, ◌*◌}
use lib.ListN.{drop}
use borrow.Author.Tests.{not-true, not-false}
use Rattle.model.specs.Lists.{all}
use Rattle.model.specs.Book.{rows_in, in_range}
use Rattle.waldumre_book.proofs.book.labels.Rows.{all_end, all-less, all_more}
use Rattle.waldumre_book.proofs.book.labels.Range.{row-bits}
use Rattle.waldumre_book.proofs.book.labels.all_in_range.Goals as goal

pub returns-then-not-in_range : goal.returns-then-not-in_range
returns-then-not-in_range c = sym (c.loop-i.invariant ∙ all-less c.args.cells.now (3 * c.loop-i.i) (omega arith) (sym (row-bits _ _ _ (record { sfits = c.label-1.given }) (record { sfits = c.offer-1.given }) (record { sfits = c.price-1.given })) ∙ sym c.in_range.ensures ∙ not-true _ c.if-not-in_range.true-raw))

pub loop-i-preserved : goal.loop-i-preserved
loop-i-preserved c = let next : 3 * c.loop-i.i + 3 ≡ 3 * (c.loop-i.i + 1) = omega arith in
    c.loop-i.invariant ∙ all_more c.args.cells.now (3 * c.loop-i.i) (omega arith) (sym (row-bits _ _ _ (record { sfits = c.label-1.given }) (record { sfits = c.offer-1.given }) (record { sfits = c.price-1.given })) ∙ sym c.in_range.ensures ∙ not-false _ c.if-not-in_range.false-raw) ∙ ap (λ (k : ℕ). all in_range (rows_in (drop k c.args.cells.now))) next

pub returns : goal.returns
returns c = sym (c.loop-i.invariant ∙ all_end c.args.cells.now (3 * c.loop-i.i) (omega arith))
