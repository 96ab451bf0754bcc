use Rattle.std.proofs.Common.{◌≡◌, ◌+◌, ◌%◌, ◌≤◌, get_or, ℤ, nat_abs, refl, sym, ap, ◌∙◌, subst, arith, w64, to_z, of_z}
use mir.Facts.{to_z-of_z}
use Rattle.numbers.proofs.Signed.{fits64}
use Rattle.walks.specs.Assigned.{assigned}
use Rattle.branches.specs.Branches.{number, operand}
use Rattle.decide.specs.Chains.{same}
use Rattle.decide.proofs.seeks.Keys.{agrees}
use Rattle.decide.proofs.seeks.Seek.entered.Goals as goal

pub returns : goal.returns
returns c =
    let x = c.side-x.result in
    let small = c.side-x.ensures.small in
    let n : to_z w64 (of_z w64 x.numerator) ≡ x.numerator = to_z-of_z {w = w64} (fits64 x.numerator (omega (arith, small.numerator))) in
    let d : to_z w64 (of_z w64 x.denominator) ≡ x.denominator = to_z-of_z {w = w64} (fits64 x.denominator (omega (arith, small.denominator))) in
    let at = c.args.at in
    let s = c.args.self.now in
    let place = get_or s.chains.now (at + 1) 0 in
    let y = operand s.memo.now (get_or s.t.now place 0) (get_or s.t.now (place + 1) 0) (number s.t.now (get_or s.chains.now (at + 2) 0 % 256)) (assigned s.values.now s.env.now) in
    let e = rw (c.size_at-place.ensures.value, c.size_at-mark.ensures.value) at c.side-x.ensures.value in
    record {
      at = refl;
      attribute = c.size_at.ensures.value;
      small = subst (λ (y : ℤ). nat_abs y ≤ 140735340871680) (sym n) small.numerator;
      equals = λ row. agrees (row c.size_at.result) x y e (sym d ∙ ap (to_z w64) c.if-x-ne1.false) ∙ ap (same (row c.size_at.result)) (sym n);
    }
