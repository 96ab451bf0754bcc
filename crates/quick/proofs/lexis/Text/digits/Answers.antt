use native.Mathlib.Omega.{arith}
use mathlib.Core.Path.{◌≡◌, refl, sym, ◌∙◌, ap, subst}
use Prim.Native.Nat.{ℕ, ◌+◌, ◌*◌, ◌-◌}
use lib.ListN.{get_or}
use Rattle.model.proofs.Tests.{not-no}
use Rattle.quel.specs.Tokens.{is_digit}
use Rattle.tokens.proofs.Places.{within-bounds}
use Rattle.quick.proofs.lexis.Bytes.{before-end, first-there}
use Rattle.quick.proofs.lexis.Stretches.{Sofar, sofar-none, sofar-more, sofar-ends, most, digits_more, digits-fit}
use Rattle.quick.proofs.lexis.Text.digits.Goals as goal

pub loop-n-init : goal.loop-n-init
unfolding most
loop-n-init c = (omega (arith, c.requires), omega arith, λ given k. sofar-none given 48 57 10 0 c.args.at)

pub returns-then-not-is_digit : goal.returns-then-not-is_digit
returns-then-not-is_digit c = record { at_le_end = (omega arith, omega (arith, c.loop-n.invariant.0), omega (arith, digits-fit c.loop-n.n c.loop-n.value c.loop-n.auto.n-end c.loop-n.invariant.1)); by_index = λ given k h. sofar-ends given 48 57 10 0 c.args.at c.loop-n.n c.loop-n.value (c.loop-n.invariant.2 given k) (first-there is_digit refl c.args.self.now.bytes given k (c.args.at + c.loop-n.n) ∙ h) (omega (arith, digits-fit c.loop-n.n c.loop-n.value c.loop-n.auto.n-end c.loop-n.invariant.1)) }

pub overflow_mul-value : goal.overflow_mul-value
overflow_mul-value c = record { fits = omega (arith, digits-fit c.loop-n.n c.loop-n.value c.loop-n.auto.n-end c.loop-n.invariant.1) }

pub overflow_sub-value : goal.overflow_sub-value
overflow_sub-value c = omega (arith, c.from-b.ensures, (within-bounds 48 57 (get_or c.args.self.now.bytes (c.args.at + c.loop-n.n) 0) (sym (c.is_digit.ensures ∙ ap is_digit c.from-b.ensures) ∙ not-no _ c.if-not-is_digit.false-raw)).0)

pub overflow_add-value : goal.overflow_add-value
overflow_add-value c = record { fits = omega (arith, digits-fit c.loop-n.n c.loop-n.value c.loop-n.auto.n-end c.loop-n.invariant.1, c.from-b.ensures, (within-bounds 48 57 (get_or c.args.self.now.bytes (c.args.at + c.loop-n.n) 0) (sym (c.is_digit.ensures ∙ ap is_digit c.from-b.ensures) ∙ not-no _ c.if-not-is_digit.false-raw)).1) }

pub loop-n-preserved : goal.loop-n-preserved
loop-n-preserved c = let text = c.args.self.now.bytes in
    let h = sym (c.is_digit.ensures ∙ ap is_digit c.from-b.ensures) ∙ not-no _ c.if-not-is_digit.false-raw in let b = within-bounds 48 57 (get_or text (c.args.at + c.loop-n.n) 0) h in (
      omega (arith, before-end is_digit refl text (c.args.at + c.loop-n.n) c.args.self.now.ended h),
      digits_more c.loop-n.n c.loop-n.value _ c.loop-n.invariant.1 (omega (arith, c.from-b.ensures, b.1)),
      λ given k. sofar-more given 48 57 10 0 c.args.at c.loop-n.n c.loop-n.value (c.loop-n.invariant.2 given k) (first-there is_digit refl text given k (c.args.at + c.loop-n.n) ∙ h) _ (ap (λ (x : ℕ). 10 * c.loop-n.value + (x - 48)) (c.from-b.ensures ∙ k.same (c.args.at + c.loop-n.n))),
    )

pub returns : goal.returns
returns c =
    let fits = digits-fit c.loop-n.n c.loop-n.value c.loop-n.auto.n-end c.loop-n.invariant.1 in
    let all : c.loop-n.n ≡ 10 = omega arith in
    record {
      at_le_end = (omega arith, omega (arith, c.loop-n.invariant.0), omega (arith, fits));
      by_index = λ given k h. sofar-ends given 48 57 10 0 c.args.at 10 c.loop-n.value (subst (λ (m : ℕ). Sofar given 48 57 10 0 c.args.at (c.args.at + m) c.loop-n.value) all (c.loop-n.invariant.2 given k)) (first-there is_digit refl c.args.self.now.bytes given k (c.args.at + 10) ∙ h) (omega (arith, fits));
    }
