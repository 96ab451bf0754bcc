use native.Mathlib.Omega.{arith}
use mathlib.Core.Path.{refl, sym, ◌∙◌}
use Rattle.quel.specs.Tokens.{is_blank}
use Rattle.quick.proofs.lexis.Bytes.{before-end, blanks-none, blanks-more}
use Rattle.quick.proofs.lexis.Text.skip.Goals as goal

pub loop-i-init : goal.loop-i-init
loop-i-init c = (omega arith, c.requires, λ given h. blanks-none given c.args.at)

pub overflow_add-i : goal.overflow_add-i
overflow_add-i c = record { fits = omega (arith, before-end is_blank refl c.args.self.now.bytes c.loop-i.i c.args.self.now.ended (sym c.is_blank.ensures ∙ c.loop-i-test.true)) }

pub loop-i-smaller : goal.loop-i-smaller
loop-i-smaller c = omega (arith, before-end is_blank refl c.args.self.now.bytes c.loop-i.i c.args.self.now.ended (sym c.is_blank.ensures ∙ c.loop-i-test.true))

pub loop-i-preserved : goal.loop-i-preserved
loop-i-preserved c = let text = c.args.self.now.bytes in
    let h = sym c.is_blank.ensures ∙ c.loop-i-test.true in
    (omega (arith, c.loop-i.invariant.0), omega (arith, before-end is_blank refl text c.loop-i.i c.args.self.now.ended h), λ given k. blanks-more text given k c.args.at c.loop-i.i (c.loop-i.invariant.2 given k) h)

pub returns : goal.returns
returns c = record { lower_bound = (c.loop-i.invariant.0, c.loop-i.invariant.1); by_index = c.loop-i.invariant.2 }
