use native.Mathlib.Omega.{arith}
use Prim.Native.Nat.{ℕ, ◌+◌}
use mathlib.Core.List.{[]}
use mathlib.Core.Path.{refl, ◌∙◌, ap}
use lib.ListN.{get_or, set, take, length-set}
use Rattle.quick.specs.Mend.{new_number}
use Rattle.quick.proofs.mend.Laws.{halfway, one_byte, two_bytes, five-bytes, aggregate-bytes, variable-bytes, none-mended, all-mended}
use Rattle.quick.proofs.mend.mend_records.Goals as goal

pub returns-then-unused-eq0 : goal.returns-then-unused-eq0
returns-then-unused-eq0 c = record { made_len_2 = c.requires.made_len.0; by_index = λ S r e. none-mended S c.args.symbols.now c.args.n c.args.unused r e c.requires.n_bound.0 (take c.args.to c.args.made.now) c.if-unused-eq0.true }

pub loop-at-init : goal.loop-at-init
loop-at-init c = (c.requires.made_len.0, refl)

pub loop-at-preserved-then-k-lt21 : goal.loop-at-preserved-then-k-lt21
loop-at-preserved-then-k-lt21 c = (c.loop-at.invariant.0, one_byte (new_number c.args.symbols.now c.args.n c.args.unused) c.loop-at.made c.args.to c.loop-at.at (get_or c.loop-at.made c.loop-at.at 0) (omega (arith, c.loop-at.invariant.0, c.requires.made_len.1)) c.loop-at-test.true refl c.if-k-lt21.true ∙ c.loop-at.invariant.1)

pub loop-at-preserved-then-k-eq21 : goal.loop-at-preserved-then-k-eq21
loop-at-preserved-then-k-eq21 c = (c.loop-at.invariant.0, two_bytes (new_number c.args.symbols.now c.args.n c.args.unused) c.loop-at.made c.args.to c.loop-at.at (get_or c.loop-at.made c.loop-at.at 0) (omega (arith, c.loop-at.invariant.0, c.requires.made_len.1)) c.loop-at-test.true refl c.if-k-eq21.true ∙ c.loop-at.invariant.1)

pub loop-at-preserved-then-k-eq32 : goal.loop-at-preserved-then-k-eq32
loop-at-preserved-then-k-eq32 c = (c.loop-at.invariant.0, five-bytes (new_number c.args.symbols.now c.args.n c.args.unused) c.loop-at.made c.args.to c.loop-at.at (get_or c.loop-at.made c.loop-at.at 0) (omega (arith, c.loop-at.invariant.0, c.requires.made_len.1)) c.loop-at-test.true refl c.if-k-eq32.true ∙ c.loop-at.invariant.1)

pub loop-at-preserved-then-k-eq34 : goal.loop-at-preserved-then-k-eq34
loop-at-preserved-then-k-eq34 c = let symbols = c.args.symbols.now in let n = c.args.n in let to = c.args.to in let unused = c.args.unused in
    (length-set c.loop-at.made (c.loop-at.at + 2) c.number.result ∙ c.loop-at.invariant.0, ap (λ (x : ℕ). halfway (new_number symbols n unused) [] (c.loop-at.at + 5) (take to (set c.loop-at.made (c.loop-at.at + 2) x))) c.number.ensures ∙ aggregate-bytes (new_number symbols n unused) c.loop-at.made to c.loop-at.at (get_or c.loop-at.made c.loop-at.at 0) (omega (arith, c.loop-at.invariant.0, c.requires.made_len.1)) c.loop-at-test.true refl c.if-k-eq34.true ∙ c.loop-at.invariant.1)

pub loop-at-preserved : goal.loop-at-preserved
loop-at-preserved c = let symbols = c.args.symbols.now in let n = c.args.n in let to = c.args.to in let unused = c.args.unused in
    (length-set c.loop-at.made (c.loop-at.at + 1) c.number-in-loop-at.result ∙ c.loop-at.invariant.0, ap (λ (x : ℕ). halfway (new_number symbols n unused) [] (c.loop-at.at + 3) (take to (set c.loop-at.made (c.loop-at.at + 1) x))) c.number-in-loop-at.ensures ∙ variable-bytes (new_number symbols n unused) c.loop-at.made to c.loop-at.at (get_or c.loop-at.made c.loop-at.at 0) (omega (arith, c.loop-at.invariant.0, c.requires.made_len.1)) c.loop-at-test.true refl c.if-k-lt21.false c.if-k-eq21.false c.if-k-eq32.false c.if-k-eq34.false ∙ c.loop-at.invariant.1)

pub returns : goal.returns
returns c = record { made_len_2 = c.loop-at.invariant.0; by_index = λ S r e. all-mended S c.args.symbols.now c.args.n c.args.unused r e c.requires.n_bound.0 c.loop-at.made c.args.made.now c.args.to c.loop-at.at c.loop-at-test.false (omega (arith, c.loop-at.invariant.0, c.requires.made_len.1)) c.loop-at.invariant.1 }
