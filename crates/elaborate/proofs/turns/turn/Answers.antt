use native.Mathlib.Omega.{arith}
use mathlib.Core.Path.{refl, sym, ap, ◌∙◌}
use Prim.Native.Nat.{ℕ, ◌+◌, ◌-◌}
use lib.ListN.{get_or}
use lib.Dec.{leb}
use Rattle.elaborate.specs.Places.{table, name_in}
use Rattle.names.specs.Entries.{entries}
use Rattle.kinds.specs.declared.Record.TheVariants as R
use Rattle.std.specs.Prelude.{Some}
use Rattle.elaborate.specs.Lookup.{ids_in}
use Rattle.elaborate.proofs.turns.Laws.{fits, ends-refused, ends-put, mode-low, quiet-parts, quiet_write, counted-on, kind-counted, point-counted}
use Rattle.elaborate.specs.Modes.{mode_no, action_no}
use Rattle.elaborate.specs.Actions.{item_of}
use Rattle.elaborate.specs.Puts.{reach_after, number_after}
use Rattle.quel.specs.Writing.{inner}
use Rattle.elaborate.specs.Counts.{ors_in, ands_in, sign_in}
use Rattle.elaborate.proofs.reaches.Laws.{stack_top}
use Rattle.elaborate.proofs.turns.turn.Goals as goal

pub returns-then-quiet : goal.returns-then-quiet
returns-then-quiet c = let counts = c.args.counts.now in let list = c.args.lookup.now.list.now in let numbers = c.args.lookup.now.numbers.now in let out = c.args.out.now in let s = c.args.s in let i = c.args.i in let ids = ids_in c.args.lookup.now.table.now in let known = c.args.known.now in record { by_index = λ text kinds ss σ l ct nm st. record { reaches = σ; stack = st; ends = λ z. ends-put text (table kinds ss numbers) counts i ct l (entries list) z (mode_no s.mode) (mode-low s.mode) σ s.n out out s.at s.at R.Short (Some R.Short) (action_no c.action-a.result) _ _ (c.kind-kind.ensures ∙ kind-counted kinds counts i ct l) (ap (leb 25) c.kind-point.ensures ∙ point-counted kinds counts i ct l) c.action-a.ensures (sym (ap (λ (y : ℕ). item_of (entries list) y (c.kind-kind.result - 1) (get_or numbers i 0) ((name_in text kinds ss) i) ((name_in text kinds ss) (i + 2)) ((name_in text kinds ss) (i + 3)) ((name_in text kinds ss) (i + 4)) (inner σ) s.n) ((quiet-parts (mode_no s.mode) (action_no c.action-a.result) (sym c.quiet.ensures ∙ c.if-quiet.true)).1))) refl _ c.next-mode.ensures _ (sym (ap (λ (y : ℕ). reach_after y ((name_in text kinds ss) (i + 1)) ((name_in text kinds ss) (i + 2)) R.Short σ) ((quiet-parts (mode_no s.mode) (action_no c.action-a.result) (sym c.quiet.ensures ∙ c.if-quiet.true)).1))) _ (sym (ap (λ (y : ℕ). number_after y s.n) ((quiet-parts (mode_no s.mode) (action_no c.action-a.result) (sym c.quiet.ensures ∙ c.if-quiet.true)).1))) (quiet_write out s.at (mode_no s.mode) c.kind-kind.result (ors_in (get_or counts i 0)) (ands_in (get_or counts i 0)) (1 + sign_in (get_or counts (i + 1) 0)) (quiet-parts (mode_no s.mode) (action_no c.action-a.result) (sym c.quiet.ensures ∙ c.if-quiet.true)).0).0 (quiet_write out s.at (mode_no s.mode) c.kind-kind.result (ors_in (get_or counts i 0)) (ands_in (get_or counts i 0)) (1 + sign_in (get_or counts (i + 1) 0)) (quiet-parts (mode_no s.mode) (action_no c.action-a.result) (sym c.quiet.ensures ∙ c.if-quiet.true)).0).1 }; within = (omega arith, omega arith, omega arith, c.requires.depth_le_i.1); by_index_2 = (c.requires.depth_le_i.4, λ ks ct. counted-on ks counts counts i i ct (omega arith) (λ j l. refl)) }

pub returns-in_err-r : goal.returns-in_err-r
returns-in_err-r c = let counts = c.args.counts.now in let list = c.args.lookup.now.list.now in let numbers = c.args.lookup.now.numbers.now in let out = c.args.out.now in let s = c.args.s in let i = c.args.i in let ids = ids_in c.args.lookup.now.table.now in let known = c.args.known.now in record { by_index = λ text kinds ss σ l ct nm st. rw c.from_residual.ensures (λ z. ends-refused text (table kinds ss numbers) counts i ct l (entries list) z (mode_no s.mode) (mode-low s.mode) σ s.n out out s.at 0 R.Short _ (action_no c.action-a.result) _ _ (c.kind-kind.ensures ∙ kind-counted kinds counts i ct l) (ap (leb 25) c.kind-point.ensures ∙ point-counted kinds counts i ct l) c.action-a.ensures (c.item_at.ensures (name_in text kinds ss) (inner σ) s.reach.depth nm (stack_top (name_in text kinds ss) ids counts s.reach.depth s.reach.crossing known σ st)) c.in_err-r.was); within = rw c.from_residual.ensures tt; by_index_2 = (c.requires.depth_le_i.4, λ ks ct. counted-on ks counts counts i i ct (omega arith) (λ j l. refl)) }

pub shift-reach-requires : goal.shift-reach-requires
shift-reach-requires c = (omega (arith, c.requires.depth_le_i.0, c.requires.i_bound.1), omega (arith, c.requires.depth_le_i.0, c.requires.i_bound.0), c.requires.depth_le_i.1, c.requires.i_bound.0, c.requires.depth_le_i.2, c.requires.depth_le_i.3, c.requires.depth_le_i.4)

pub number-n-requires : goal.number-n-requires
number-n-requires c = c.requires.i_bound.2

pub returns : goal.returns
returns c = let counts = c.args.counts.now in let list = c.args.lookup.now.list.now in let numbers = c.args.lookup.now.numbers.now in let out = c.args.out.now in let s = c.args.s in let i = c.args.i in let ids = ids_in c.args.lookup.now.table.now in let known = c.args.known.now in record { by_index = λ text kinds ss σ l ct nm st. record { reaches = reach_after (action_no c.action-a.result) ((name_in text kinds ss) (i + 1)) ((name_in text kinds ss) (i + 2)) c.in_ok-r.r σ; stack = c.shift-reach.ensures.stack (fits (entries list) (action_no c.action-a.result) (c.kind-kind.result - 1) (get_or numbers i 0) ((name_in text kinds ss) i) ((name_in text kinds ss) (i + 2)) ((name_in text kinds ss) (i + 3)) ((name_in text kinds ss) (i + 4)) (inner σ) s.n _ _ (c.item_at.ensures (name_in text kinds ss) (inner σ) s.reach.depth nm (stack_top (name_in text kinds ss) ids counts s.reach.depth s.reach.crossing known σ st)) c.in_ok-r.was) (name_in text kinds ss) σ nm.same st; ends = λ z. ends-put text (table kinds ss numbers) counts i ct l (entries list) z (mode_no s.mode) (mode-low s.mode) σ s.n out _ s.at _ _ _ (action_no c.action-a.result) _ _ (c.kind-kind.ensures ∙ kind-counted kinds counts i ct l) (ap (leb 25) c.kind-point.ensures ∙ point-counted kinds counts i ct l) c.action-a.ensures (c.item_at.ensures (name_in text kinds ss) (inner σ) s.reach.depth nm (stack_top (name_in text kinds ss) ids counts s.reach.depth s.reach.crossing known σ st)) c.in_ok-r.was _ c.next-mode.ensures _ refl _ c.number-n.ensures.value c.write-at.ensures.value c.write-at.ensures.out_after }; within = (c.shift-reach.ensures.depth_bound.0, c.number-n.ensures.upper_bound, c.write-at.ensures.upper_bound, c.shift-reach.ensures.depth_bound.1); by_index_2 = (c.shift-reach.ensures.depth_bound.2, λ ks ct. counted-on ks counts _ i s.reach.depth ct c.requires.depth_le_i.0 c.shift-reach.ensures.depth_bound.3) }
