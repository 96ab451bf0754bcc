use Rattle.model.specs.Checks.{fails10}
use borrow.Author.Rules.{rules}
use mathlib.Core.Path.{◌≡◌, sym, ◌∙◌}
use mathlib.Core.Bool.{Bool, true, false}
use Prim.Native.Nat.{ℕ, ◌*◌, ◌≤◌, ◌<◌}
use native.Mathlib.Omega.{arith}
use mathlib.Core.List.{List}
use lib.ListN.{length}
use borrow.Author.Count.{below_more}
use Rattle.catalogue.specs.Layout as L
use Rattle.catalogue.proofs.Reading.{valid-passes, refused}
use Rattle.catalogue.proofs.fails_10.Goals as goal

unknown : (c : List ℕ) (i : ℕ) (b : Bool) → i < L.count_of c → b ≡ L.known_of c i → b ≡ false → true ≡ fails10 c
unknown c i b l e f = sym (refused c (λ v. let z : ◌≡◌ {A = ℕ} 0 1 = let k : L.known_of c i ≡ true = v.known i l in cc in omega arith))

passes : (c : List ℕ) (n i : ℕ) → n ≡ L.count_of c → (n ≡ 0 → ⊥) → n ≤ 16 → 4 * n ≡ length c → n ≤ i → ((r : ℕ) → r < i → L.known_of c r ≡ true) → false ≡ fails10 c
passes c n i e z m s l k = sym (valid-passes c (record { size = omega arith; some = omega arith; few = omega arith; known = λ r h. k r (omega arith) }))

pub returns-then-n-eq0 : goal.returns-then-n-eq0
returns-then-n-eq0 c = sym (refused c.args.catalogue.now (λ v. omega (arith, v.some, c.count-n.ensures)))

pub returns-then-n-gt-RELATIONS : goal.returns-then-n-gt-RELATIONS
returns-then-n-gt-RELATIONS c = sym (refused c.args.catalogue.now (λ v. omega (arith, v.few, c.count-n.ensures)))

pub returns-then-n-catalogue : goal.returns-then-n-catalogue
returns-then-n-catalogue c = sym (refused c.args.catalogue.now (λ v. omega (arith, v.size, c.count-n.ensures)))

pub returns-then-not-known : goal.returns-then-not-known
returns-then-not-known c = unknown c.args.catalogue.now c.loop-i.i c.known.result (omega (arith, c.count-n.ensures)) c.known.ensures (search rules)

pub loop-i-preserved : goal.loop-i-preserved
loop-i-preserved c = below_more (λ (r : ℕ). L.known_of c.args.catalogue.now r ≡ true) c.loop-i.i c.loop-i.invariant (sym c.known.ensures ∙ search rules)

pub returns : goal.returns
returns c = passes c.args.catalogue.now c.count-n.result c.loop-i.i c.count-n.ensures (omega arith) (omega arith) (omega arith) (omega arith) c.loop-i.invariant
