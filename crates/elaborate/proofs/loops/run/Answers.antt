use native.Mathlib.Omega.{arith}
use mathlib.Core.Path.{refl, ◌∙◌}
use mathlib.Core.List.{[], ◌∷◌}
use lib.ListN.{set}
use lib.ListN.{length-set}
use Rattle.elaborate.specs.Places.{table, name_in, tokens_from}
use Rattle.names.specs.Entries.{entries}
use Rattle.quel.specs.Ahead.{at_rest}
use Rattle.quel.specs.Writing.{loop}
use Rattle.elaborate.specs.After.{ended}
use Rattle.elaborate.specs.Lookup.{ids_in}
use Rattle.elaborate.proofs.loops.Laws.{Begun, first-stack, first, last, on, off, within, counted-first}
use Rattle.elaborate.proofs.loops.run.Goals as goal

pub bounds-counts-0 : goal.bounds-counts-0
bounds-counts-0 c = omega (arith, c.requires.end_bound.1)

pub loop-i-init : goal.loop-i-init
loop-i-init c = let counts = c.args.counts.now in (λ text kinds ss ρ bg nm hd. record { reaches = ρ ∷ []; stack = first-stack (name_in text kinds ss) (ids_in c.args.lookup.now.table.now) counts c.args.known.now ρ (omega (arith, c.requires.end_bound.1)) hd; ends = λ z. first text (table kinds ss c.args.lookup.now.numbers.now) (entries c.args.lookup.now.list.now) c.args.start.first c.args.start.at c.args.start.n c.args.out.now ρ z }, refl, refl, refl, λ h. c.requires.end_bound.2 (omega (arith, h)), omega arith, omega arith, omega (arith, c.requires.end_bound.3), omega arith, c.requires.by_index.2, λ ks bg h. bg.1 h)

pub turn-requires : goal.turn-requires
turn-requires c = let l = c.loop-i-test.true in record { i_bound = (omega (arith, l, c.requires.end_bound.0), omega (arith, l, c.loop-i.invariant.1 ∙ length-set c.args.counts.now 0 0, c.requires.end_bound.1), omega (arith, c.loop-i.invariant.5, c.requires.end_bound.4, c.requires.end_bound.0, l), omega (arith, c.loop-i.invariant.6, c.loop-i.invariant.7, c.requires.end_bound.5)); depth_le_i = (c.loop-i.invariant.4 l, c.loop-i.invariant.8, c.requires.by_index.0, λ x. omega (arith, c.requires.by_index.1 x, c.loop-i.invariant.3), c.loop-i.invariant.9, c.requires.by_index.3) }

pub returns-in_err-s : goal.returns-in_err-s
returns-in_err-s c = let list = c.args.lookup.now.list.now in let numbers = c.args.lookup.now.numbers.now in let l = c.loop-i-test.true in record { by_index_2 = λ text kinds ss ρ el ct nm hd. let bg : Begun kinds (set c.args.counts.now 0 0) c.args.start.first c.args.start.end = (el, λ h. counted-first kinds c.args.counts.now c.args.start.first (c.requires.end_bound.2 (omega (arith, h))) ct) in record { number = 0; ends = λ z. rw c.from_residual.ensures (off text (table kinds ss numbers) (entries list) (ids_in c.args.lookup.now.table.now) (λ z. ended c.args.out.now c.args.start.at (loop (entries list) z (tokens_from text (table kinds ss numbers) c.args.start.first) at_rest (ρ ∷ []) c.args.start.n)) c.loop-i.i c.loop-i.s c.loop-i.counts c.loop-i.known c.loop-i.out (c.loop-i.invariant.0 text kinds ss ρ bg nm hd) c.turn.result c.turn.new.counts c.turn.new.known c.turn.new.out (c.turn.ensures.by_index text kinds ss (c.loop-i.invariant.0 text kinds ss ρ bg nm hd).reaches (omega (arith, l, bg.0)) (c.loop-i.invariant.10 kinds bg l) nm (c.loop-i.invariant.0 text kinds ss ρ bg nm hd).stack) c.in_err-s.was z) }; last = rw c.from_residual.ensures tt }

pub loop-i-preserved : goal.loop-i-preserved
loop-i-preserved c = let list = c.args.lookup.now.list.now in let numbers = c.args.lookup.now.numbers.now in let l = c.loop-i-test.true in let b = within c.loop-i.s _ _ c.turn.ensures.within c.in_ok-s.was in (λ text kinds ss ρ bg nm hd. (on text (table kinds ss numbers) (entries list) (ids_in c.args.lookup.now.table.now) (λ z. ended c.args.out.now c.args.start.at (loop (entries list) z (tokens_from text (table kinds ss numbers) c.args.start.first) at_rest (ρ ∷ []) c.args.start.n)) c.loop-i.i c.loop-i.s c.loop-i.counts c.loop-i.known c.loop-i.out (c.loop-i.invariant.0 text kinds ss ρ bg nm hd) c.turn.result c.turn.new.counts c.turn.new.known c.turn.new.out (c.turn.ensures.by_index text kinds ss (c.loop-i.invariant.0 text kinds ss ρ bg nm hd).reaches (omega (arith, l, bg.0)) (c.loop-i.invariant.10 kinds bg l) nm (c.loop-i.invariant.0 text kinds ss ρ bg nm hd).stack) _ c.in_ok-s.was), c.turn.auto.counts ∙ c.loop-i.invariant.1, c.turn.auto.out ∙ c.loop-i.invariant.2, c.turn.auto.known ∙ c.loop-i.invariant.3, λ h. omega (arith, b.0, c.loop-i.invariant.4 l), omega (arith, b.1, c.loop-i.invariant.5), omega (arith, b.2, c.loop-i.invariant.6), omega (arith, c.requires.end_bound.0, l), b.3, c.turn.ensures.by_index_2.0, λ ks bg h. c.turn.ensures.by_index_2.1 ks (c.loop-i.invariant.10 ks bg l))

pub returns : goal.returns
returns c = let list = c.args.lookup.now.list.now in let numbers = c.args.lookup.now.numbers.now in record { by_index_2 = λ text kinds ss ρ el ct nm hd. let bg : Begun kinds (set c.args.counts.now 0 0) c.args.start.first c.args.start.end = (el, λ h. counted-first kinds c.args.counts.now c.args.start.first (c.requires.end_bound.2 (omega (arith, h))) ct) in record { number = c.loop-i.s.n; ends = λ z. (c.loop-i.invariant.0 text kinds ss ρ bg nm hd).ends z ∙ last text (table kinds ss numbers) (entries list) c.loop-i.i c.loop-i.s.at c.loop-i.s.n c.loop-i.out (omega (arith, c.loop-i-test.false, el)) z _ _ }; last = omega (arith, c.loop-i.invariant.6, c.loop-i.invariant.7) }
