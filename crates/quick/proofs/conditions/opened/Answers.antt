use native.Mathlib.Omega.{arith}
use Prim.Native.Nat.{◌+◌}
use lib.ListN.{get_or}
use Rattle.model.proofs.Tests.{clash}
use Rattle.quick.proofs.symbols.Writes.{none-found}
use Rattle.quick.proofs.conditions.opened.Goals as goal

pub returns-then-symbols-ge30 : goal.returns-then-symbols-ge30
returns-then-symbols-ge30 c = record { symbols_len = (c.requires.indexed.1, c.requires.to_bound.1); some_put = λ h. clash h }

pub returns-then-is_some : goal.returns-then-is_some
returns-then-is_some c = record { symbols_len = (c.requires.indexed.1, c.requires.to_bound.1); some_put = λ h. clash h }

pub returns-in_default : goal.returns-in_default
returns-in_default c = record { symbols_len = (c.requires.indexed.1, c.requires.to_bound.1); some_put = λ h. clash h }

pub returns-then-symbols-gt199 : goal.returns-then-symbols-gt199
returns-then-symbols-gt199 c = record { symbols_len = (c.requires.indexed.1, c.requires.to_bound.1); some_put = λ h. clash h }

pub bounds-source-q : goal.bounds-source-q
bounds-source-q c = omega (arith, c.in-Some.ensures.0)

pub returns : goal.returns
returns c = record {
  symbols_len = (c.enter.ensures.long, c.enter.ensures.wide);
  some_put = λ _. record {
    relation = get_or c.args.source.now.list.now (c.in-Some.q + 1) 0;
    slot = 30;
    few = c.if-symbols-ge30.false;
    less = omega (arith, c.if-symbols-gt199.false);
    free = none-found c.args.symbols.now c.args.x c.find.result c.is_some.result c.is_some.ensures c.if-is_some.false c.find.ensures;
    none-there = omega arith;
    named = λ w s. ((c.in-Some.ensures.1 w s).named (omega (arith, c.in-Some.ensures.0)), (c.in-Some.ensures.1 w s).found (omega (arith, c.in-Some.ensures.0)));
    entered = c.enter.ensures;
  };
}
