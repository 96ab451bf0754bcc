use Rattle.buckets.proofs.Laws.{heads-clear, nexts-same}
use native.Mathlib.Omega.{arith}
use mathlib.Core.Path.{refl, ap, ◌∙◌}
use Prim.Native.Nat.{ℕ, ◌+◌}
use lib.ListN.{length}
use lib.ListN.{drop, take}
use Rattle.model.proofs.Tests.{clash}
use Rattle.names.specs.Entries.{place_of}
use Rattle.names.proofs.Once.{left-start, left-bad, left-twice, left-next, left_end, left-indexed, chained, code-there, code-gone, not-well, is-well, here-room}
use Rattle.names.proofs.listed.Goals as goal

pub loop-at-init : goal.loop-at-init
loop-at-init c = (left-start c.args.list.now (length (drop 512 c.args.index.now)) (take 512 c.args.index.now) (drop 512 c.args.index.now) (heads-clear c.args.index.now c.requires.2), refl)

pub returns-in_default : goal.returns-in_default
returns-in_default c = let list = c.args.list.now in
    let gone = code-gone _ c.in_default.ensures in
    record { value = left-bad list (length (drop 512 c.args.index.now)) c.loop-at.at _ _ c.loop-at-test.true c.loop-at.invariant.0 (not-well list c.loop-at.at 0 gone refl); indexed = λ z. clash z }

pub fresh-requires : goal.fresh-requires
fresh-requires c = let there = code-there c.in-Some.code _ c.in-Some.ensures in
    let list = c.args.list.now in
    (c.loop-at.invariant.0.inside, there.0, there.1, omega (arith, c.loop-at.invariant.1, c.requires.0), omega (arith, c.loop-at.invariant.1, c.requires.1), chained list _ c.loop-at.at _ _ c.loop-at.invariant.0)

pub returns-then-not-fresh : goal.returns-then-not-fresh
returns-then-not-fresh c = let list = c.args.list.now in record { value = left-twice list (length (drop 512 c.args.index.now)) c.loop-at.at _ _ c.loop-at-test.true c.loop-at.invariant.0 (is-well list c.loop-at.at _ (code-there c.in-Some.code _ c.in-Some.ensures).0 (code-there c.in-Some.code _ c.in-Some.ensures).1).0 _ _ c.fresh.result (c.fresh.ensures c.loop-at.invariant.0.places c.loop-at.invariant.0.held) c.if-not-fresh.true; indexed = λ z. clash z }

pub loop-at-preserved : goal.loop-at-preserved
loop-at-preserved c = let index = c.args.index.now in let list = c.args.list.now in
    (left-next list (length (drop 512 index)) c.loop-at.at _ _ c.loop-at-test.true c.loop-at.invariant.0 (is-well list c.loop-at.at _ (code-there c.in-Some.code _ c.in-Some.ensures).0 (code-there c.in-Some.code _ c.in-Some.ensures).1).0 _ _ c.fresh.result (c.fresh.ensures c.loop-at.invariant.0.places c.loop-at.invariant.0.held) c.if-not-fresh.false (nexts-same c.fresh.new.index index (c.fresh.auto.index ∙ c.loop-at.invariant.1)) (here-room list c.loop-at.at _ (code-there c.in-Some.code _ c.in-Some.ensures).0 (code-there c.in-Some.code _ c.in-Some.ensures).1) _ (ap (λ (i : ℕ). c.loop-at.at + (i + 12)) (c.place.ensures.value ∙ ap place_of c.byte.ensures)), c.fresh.auto.index ∙ c.loop-at.invariant.1)

pub returns : goal.returns
returns c = let index = c.args.index.now in let list = c.args.list.now in record { value = left_end list (length (drop 512 index)) c.loop-at.at _ _ c.loop-at-test.false c.loop-at.invariant.0; indexed = λ z. record { room = omega (arith, c.loop-at.invariant.1, c.requires.0); most = omega (arith, c.loop-at.invariant.1, c.requires.1); chains = left-indexed list (length (drop 512 index)) c.loop-at.at _ _ (nexts-same c.loop-at.index index c.loop-at.invariant.1) c.loop-at-test.false c.loop-at.invariant.0 } }
