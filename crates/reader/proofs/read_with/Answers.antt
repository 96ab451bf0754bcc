use native.Mathlib.Omega.{arith}
use mathlib.Core.Path.{refl, sym, ap, subst}
use Prim.Native.Nat.{◌≤◌}
use lib.ListN.{length, take}
use lib.Seq.{length-take-le}
use Rattle.std.proofs.Common.{ℕ, Option}
use Rattle.elaborate.specs.Lookup.{room_of}
use Rattle.elaborate.specs.Places.{table}
use Rattle.tokens.specs.Codes.{Coded}
use Rattle.tokens.specs.Pieces.{counted}
use Rattle.reader.proofs.Tables.{first-tokens, first-told, coded-first}
use Rattle.reader.proofs.Ways.{cut_most, no-tokens, no_text, bad-names, read_names}
use Rattle.reader.proofs.read_with.Goals.{In-Some}
use Rattle.reader.proofs.read_with.Goals as goal

-- how many tokens there are
most : (c : In-Some) → (c.in-Some.n ≤ 2000) × (c.in-Some.n ≤ length c.args.text.now) × (length c.args.text.now ≤ 2000)
most c = cut_most c.cut.result c.in-Some.n c.args.text.now (table c.cut.new.kinds c.cut.new.starts c.cut.new.numbers) c.cut.ensures.result_bound c.cut.ensures.numbers_after c.in-Some.is

inside : (c : In-Some) → c.in-Some.n ≤ length c.cut.new.kinds
inside c = let m = most c in omega (arith, m.1, c.cut.auto.kinds, (c.requires.text_in_bounds m.2).0)

pub cut-requires : goal.cut-requires
cut-requires c = λ l. let p = c.requires.text_in_bounds l in (p.0, p.1, p.2)

pub returns-in_default : goal.returns-in_default
returns-in_default c = no-tokens c.args.list.now c.args.text.now c.args.out.now (table c.cut.new.kinds c.cut.new.starts c.cut.new.numbers) c.cut.result c.cut.ensures.numbers_after c.in_default.is

pub slice_bounds-kinds-end : goal.slice_bounds-kinds-end
slice_bounds-kinds-end c = inside c

pub slice_bounds-kinds-end-2 : goal.slice_bounds-kinds-end-2
slice_bounds-kinds-end-2 c = sym (length-take-le c.in-Some.n c.cut.new.kinds (inside c))

pub accepted-requires : goal.accepted-requires
accepted-requires c = omega (arith, length-take-le c.in-Some.n c.cut.new.kinds (inside (goal.at.accepted-requires c).In-Some), (most (goal.at.accepted-requires c).In-Some).0)

pub returns-then-not-accepted : goal.returns-then-not-accepted
returns-then-not-accepted c = let text = c.args.text.now in
    let told = first-told text c.cut.new.kinds c.cut.new.starts c.cut.new.numbers c.in-Some.n (inside (goal.at.returns-then-not-accepted c).In-Some) c.accepted.result (c.accepted.ensures text (table (take c.in-Some.n c.cut.new.kinds) c.cut.new.starts c.cut.new.numbers) refl) in
    no_text c.args.list.now text c.args.out.now (table c.cut.new.kinds c.cut.new.starts c.cut.new.numbers) c.cut.result c.cut.ensures.numbers_after _ c.in-Some.is c.accepted.result told c.if-not-accepted.true

pub chained-requires : goal.chained-requires
chained-requires c = let m = most (goal.at.chained-requires c).In-Some in (omega (arith, (c.requires.text_in_bounds m.2).3), c.requires.by_index)

pub returns-then-not-chained : goal.returns-then-not-chained
returns-then-not-chained c = let text = c.args.text.now in
    let told = first-told text c.cut.new.kinds c.cut.new.starts c.cut.new.numbers c.in-Some.n (inside (goal.at.returns-then-not-chained c).In-Some) c.accepted.result (c.accepted.ensures text (table (take c.in-Some.n c.cut.new.kinds) c.cut.new.starts c.cut.new.numbers) refl) in
    bad-names c.args.list.now text c.args.out.now (table c.cut.new.kinds c.cut.new.starts c.cut.new.numbers) c.cut.result c.cut.ensures.numbers_after _ c.in-Some.is c.accepted.result told c.if-not-accepted.false c.chained.result c.chained.ensures.value c.if-not-chained.true

pub elaborate-requires : goal.elaborate-requires
elaborate-requires c = let text = c.args.text.now in
    let t = table c.cut.new.kinds c.cut.new.starts c.cut.new.numbers in
    let m = most (goal.at.elaborate-requires c).In-Some in
    let h = inside (goal.at.elaborate-requires c).In-Some in
    let l = length-take-le c.in-Some.n c.cut.new.kinds h in record { kinds_len_bound = (omega (arith, l, m.0), omega (arith, l, m.1, c.cut.auto.numbers, (c.requires.text_in_bounds m.2).2), coded-first text c.cut.new.kinds c.cut.new.starts c.cut.new.numbers c.in-Some.n h (subst (λ (o : Option ℕ). Coded text t (counted o)) c.in-Some.is c.cut.ensures.coded), c.chained.ensures.indexed.0 c.if-not-chained.false); kinds_in_bounds = (omega (arith, l, m.1, c.chained.auto.lookup, ap room_of c.chained.auto.lookup, (c.requires.text_in_bounds m.2).3), c.chained.ensures.indexed.1) }

pub returns : goal.returns
returns c = let text = c.args.text.now in
    let h = inside (goal.at.returns c).In-Some in
    let told = first-told text c.cut.new.kinds c.cut.new.starts c.cut.new.numbers c.in-Some.n h c.accepted.result (c.accepted.ensures text (table (take c.in-Some.n c.cut.new.kinds) c.cut.new.starts c.cut.new.numbers) refl) in
    read_names c.args.list.now text c.args.out.now (table c.cut.new.kinds c.cut.new.starts c.cut.new.numbers) c.cut.result c.cut.ensures.numbers_after _ c.in-Some.is c.accepted.result told c.if-not-accepted.false c.chained.result c.chained.ensures.value c.if-not-chained.false _ (first-tokens text c.cut.new.kinds c.cut.new.starts c.cut.new.numbers c.in-Some.n h) _ _ c.elaborate.ensures
