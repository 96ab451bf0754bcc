use Rattle.std.proofs.Common.{◌≡◌, ℕ, ◌+◌, ◌%◌, get_or, sym, ap, ◌∙◌, subst}
use Rattle.decide.specs.Keys as K
use Rattle.decide.proofs.seeks.Keys.{enters, tells}
use Rattle.decide.proofs.seeks.Cursors.{one-chain, two-chains}
use Rattle.decide.proofs.seeks.Seek.chained.Goals as goal

pub returns-then-other-eq1 : goal.returns-then-other-eq1
returns-then-other-eq1 c =
    let s = c.args.self.now in let start = c.args.start in let at = c.in_ok-at.at in let x = c.in_ok-entry.entry in
    let o : K.onward (get_or s.chains.now (at + 2) 0) ≡ 1 = ap K.onward (sym c.size_at.ensures.value) ∙ sym c.onward-other.ensures ∙ c.if-other-eq1.true in
    λ ws f. one-chain s.t.now start s.variable ws s.values.now s.memo.now s.env.now s.chains.now x c.behind.result (get_or s.chains.now (at + 1) 0) (get_or s.chains.now (at + 2) 0 % 256) x.attribute c.behind.ensures.upper_bound
    (subst (λ (k : ℕ). K.Enters x s.t.now start k s.variable ws s.values.now s.memo.now s.env.now s.chains.now) o (enters s.t.now ws s.values.now s.chains.now f start s.variable at c.in_ok-at.ensures.0 x s.memo.now s.env.now c.in_ok-entry.ensures c.in_ok-at.ensures.1))
    (c.behind.ensures.follows s.variable (get_or s.chains.now (at + 2) 0 % 256) x.attribute (tells s.t.now ws s.values.now s.chains.now f start s.variable at c.in_ok-at.ensures.0 x s.memo.now s.env.now c.in_ok-entry.ensures))
    (λ row h. c.in_ok-entry.ensures.equals row ∙ h)

pub returns : goal.returns
returns c =
    let s = c.args.self.now in let start = c.args.start in let at = c.in_ok-at.at in let last = c.in_ok-last.last in let x = c.in_ok-entry.entry in let y = c.in_ok-second.second in
    let o : K.onward (get_or s.chains.now (at + 2) 0) ≡ c.onward-other.result = ap K.onward (sym c.size_at.ensures.value) ∙ sym c.onward-other.ensures in
    let p : K.onward (get_or s.chains.now (last + 2) 0) ≡ 1 = ap K.onward (sym c.size_at-2.ensures.value) ∙ sym c.onward.ensures ∙ c.if-onward-ne1.false in
    λ ws f. two-chains s.t.now start s.variable ws s.values.now s.memo.now s.env.now s.chains.now x y c.onward-other.result
    (subst (λ (k : ℕ). K.Enters x s.t.now start k s.variable ws s.values.now s.memo.now s.env.now s.chains.now) o (enters s.t.now ws s.values.now s.chains.now f start s.variable at c.in_ok-at.ensures.0 x s.memo.now s.env.now c.in_ok-entry.ensures c.in_ok-at.ensures.1))
    (subst (λ (k : ℕ). K.Enters y s.t.now c.onward-other.result k s.variable ws s.values.now s.memo.now s.env.now s.chains.now) p (enters s.t.now ws s.values.now s.chains.now f c.onward-other.result s.variable last c.in_ok-last.ensures.0 y s.memo.now s.env.now c.in_ok-second.ensures c.in_ok-last.ensures.1))
