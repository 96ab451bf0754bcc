use native.Mathlib.Omega.{arith}
use mathlib.Core.Path.{sym}
use lib.Seq.{length-take-le}
use Rattle.elaborate.specs.Places.{table}
use Rattle.elaborate.specs.Answers.{records_of}
use Rattle.elaborate.proofs.Answers.{measures, no_name, too_long, copied, fits}
use Rattle.elaborate.proofs.write.Goals as goal

pub records-requires : goal.records-requires
records-requires c = (c.requires.0, c.requires.2, c.requires.3)

pub returns-in_default : goal.returns-in_default
returns-in_default c = let kinds = c.args.kinds.now in let list = c.args.lookup.now.list.now in let numbers = c.args.lookup.now.numbers.now in let draft = c.args.draft.now in λ text ss rd. no_name c.records.result (records_of text (table kinds ss numbers) list) c.args.out.now (measures draft c.records.new.out (records_of text (table kinds ss numbers) list) c.records.result (c.records.ensures text ss rd)) c.in_default.is

pub returns-then-out-length : goal.returns-then-out-length
returns-then-out-length c = let kinds = c.args.kinds.now in let list = c.args.lookup.now.list.now in let numbers = c.args.lookup.now.numbers.now in let draft = c.args.draft.now in λ text ss rd. too_long c.records.result (records_of text (table kinds ss numbers) list) c.args.out.now (measures draft c.records.new.out (records_of text (table kinds ss numbers) list) c.records.result (c.records.ensures text ss rd)) c.in-Some.length c.in-Some.is (omega arith)

pub slice_bounds-copy-end-then-length-draft : goal.slice_bounds-copy-end-then-length-draft
slice_bounds-copy-end-then-length-draft c = sym (length-take-le c.in-Some.length c.records.new.out c.if-length-draft.true)

pub copy-requires : goal.copy-requires
copy-requires c = omega (arith, length-take-le c.in-Some.length c.records.new.out c.if-length-draft.true, c.if-length-draft.true, c.records.auto.out, c.requires.1)

pub returns-then-length-draft : goal.returns-then-length-draft
returns-then-length-draft c = let kinds = c.args.kinds.now in let list = c.args.lookup.now.list.now in let numbers = c.args.lookup.now.numbers.now in let draft = c.args.draft.now in λ text ss rd. copied c.records.result (records_of text (table kinds ss numbers) list) c.args.out.now (measures draft c.records.new.out (records_of text (table kinds ss numbers) list) c.records.result (c.records.ensures text ss rd)) c.in-Some.length c.in-Some.is (omega arith) draft c.records.new.out (omega (arith, c.if-length-draft.true, c.records.auto.out)) (c.records.ensures text ss rd) _ c.copy.ensures.out_after

pub records-requires-2 : goal.records-requires-2
records-requires-2 c = (c.requires.0, c.requires.2, c.requires.3)

pub returns : goal.returns
returns c = let kinds = c.args.kinds.now in let list = c.args.lookup.now.list.now in let numbers = c.args.lookup.now.numbers.now in let draft = c.args.draft.now in λ text ss rd. fits c.records.result (records_of text (table kinds ss numbers) list) c.args.out.now (measures draft c.records.new.out (records_of text (table kinds ss numbers) list) c.records.result (c.records.ensures text ss rd)) c.in-Some.length c.in-Some.is (omega arith) c.records-2.result _ (c.records-2.ensures text ss rd)
