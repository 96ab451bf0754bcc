use native.Mathlib.Omega.{arith}
use Prim.Native.Nat.{◌+◌}
use mathlib.Core.Path.{refl, ◌∙◌}
use lib.ListN.{get_or}
use Rattle.quick.proofs.terms.Reading.{lost, three-long, use-reads, marked-long}
use Rattle.quick.proofs.terms.used.Goals as goal

pub returns-then-at-eq0 : goal.returns-then-at-eq0
returns-then-at-eq0 c = record { went = lost c.args.s.at c.args.s.to _ _ c.requires.lent.long c.requires.lent.wide; use_after = record { reads = λ given ρ ws h p k t w d z. absurd (omega (arith, z)) } }

pub returns-in_default : goal.returns-in_default
returns-in_default c = record { went = lost c.args.s.at c.args.s.to _ _ c.requires.lent.long c.requires.lent.wide; use_after = record { reads = λ given ρ ws h p k t w d z. absurd (omega (arith, z)) } }

pub returns-then-symbols-i : goal.returns-then-symbols-i
returns-then-symbols-i c = record { went = lost c.args.s.at c.args.s.to _ _ c.requires.lent.long c.requires.lent.wide; use_after = record { reads = λ given ρ ws h p k t w d z. absurd (omega (arith, z)) } }

pub returns-in_default-attribute_at : goal.returns-in_default-attribute_at
returns-in_default-attribute_at c = record { went = lost c.args.s.at c.args.s.to _ _ c.requires.lent.long c.requires.lent.wide; use_after = record { reads = λ given ρ ws h p k t w d z. absurd (omega (arith, z)) } }

pub bounds-source-p : goal.bounds-source-p
bounds-source-p c = omega (arith, c.in-Some-attribute_at.ensures.0)

pub returns : goal.returns
returns c = let list = c.args.source.now.list.now in let made = c.args.made.now in let symbols = c.args.symbols.now in record {
  went = record {
    inside = c.word-a.ensures.end_bound.0;
    on = c.word-a.ensures.end_bound.1;
    more = λ h. omega arith;
    long = marked-long symbols _ c.in-Some.i c.in-Some.ensures.0 c.mark.ensures.symbols_after c.mark.ensures.symbols_unchanged ∙ c.requires.lent.long;
    wide = three-long made c.args.s.to 33 c.low.result (get_or list (c.in-Some-attribute_at.p + 2) 0) ∙ c.requires.lent.wide;
  };
  use_after = use-reads c.args.source.now.text.bytes list symbols _ made _ c.args.s.at c.args.s.to c.word-a.result.end c.args.code c.word-a.result.value c.in-Some.i c.in-Some-attribute_at.p c.low-relation.result c.low.result
      c.requires.lent.wide c.requires.at_bound.1 c.in-Some.ensures.0 c.in-Some.ensures.1 c.if-symbols-i.false (omega (arith, c.in-Some-attribute_at.ensures.0)) c.word-a.ensures.by_index c.low-relation.ensures c.low.ensures c.in-Some-attribute_at.ensures.1 c.mark.ensures.symbols_after c.mark.ensures.symbols_unchanged refl;
}
