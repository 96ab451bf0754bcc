use native.Mathlib.Omega.{arith}
use mathlib.Core.Path.{sym, ap, ◌∙◌}
use Prim.Native.Nat.{ℕ}
use lib.ListN.{take}
use borrow.Author.Tests.{not-false}
use Rattle.quel.specs.ReadText.{written}
use Rattle.names.specs.Entries.{entries}
use Rattle.parts.specs.Ranges.{in_order, words_of}
use Rattle.parts.specs.Renumber.{records_of}
use Rattle.parts.proofs.Heads.{head-ready}
use Rattle.parts.proofs.Whole.{whole-text}
use Rattle.quick.proofs.read_with.Goals as goal

pub listed-requires : goal.listed-requires
listed-requires c = c.requires.names_value

pub head-requires : goal.head-requires
head-requires c = (c.requires.ended.1, (c.listed.ensures (not-false c.listed.result c.if-not-listed.false-raw)).1)

pub rest-s-requires : goal.rest-s-requires
rest-s-requires c = record { lent = record { indexed = (c.listed.ensures (not-false c.listed.result c.if-not-listed.false-raw)).1; long = c.in_ok-at.ensures.1; wide = c.requires.ended.2 }; start_bound = c.in_ok-at.ensures.0 }

pub finish-requires : goal.finish-requires
finish-requires c = (c.rest-s.ensures.went.long, c.in_ok-at.ensures.2, c.rest-s.ensures.went.wide, omega (arith, c.rest-s.ensures.to_bound (omega (arith, c.if-end-length.false, c.requires.ended.0))))

pub returns : goal.returns
returns c =
    let list = c.args.list.now in
    let out = c.args.out.now in
    λ given k e.
    let head = c.in_ok-at.ensures.3 given k in
    c.finish.ensures ∙ ap (λ (m : ℕ). written (records_of c.rest-s.new.symbols m (take c.rest-s.result.to c.rest-s.new.made)) out) head.size
    ∙ sym (whole-text (entries list) list given out (c.listed.ensures (not-false c.listed.result c.if-not-listed.false-raw)).0 (omega (arith, k.room)) c.in_ok-at.at c.rest-s.result.at c.head.new.symbols c.rest-s.new.symbols c.args.made.now c.rest-s.new.made c.rest-s.result.to head
    (c.rest-s.ensures.by_index given (in_order 0 head.symbols) (words_of head.symbols) k (head-ready head) (omega (arith, c.if-end-length.false, c.requires.ended.0))) (omega (arith, e, c.if-end-length.false)))
