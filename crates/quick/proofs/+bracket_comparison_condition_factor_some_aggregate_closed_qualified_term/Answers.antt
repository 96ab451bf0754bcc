use Prim.Native.Nat.{◌+◌, ◌*◌, ◌-◌}
use native.Mathlib.Omega.{arith}
use mathlib.Core.Path.{refl, ◌∙◌, ap}
use lib.ListN.{length, get_or, length-set}
use lib.Seq.{get_or-set_same}
use Rattle.model.proofs.Tests.{not-no}
use Rattle.parts.specs.Table.{number_at, level_at, level_now, next_number}
use Rattle.quick.proofs.lexis.Standing.{some}
use Rattle.quick.proofs.terms.Reading.{lost, five-wide, placed-long, closed-reads, after-reads, qualified-reads, aggregate-reads, term-number, term-use, term-aggregate, term-value}
use Rattle.quick.proofs.conditions.Joining.{bracket-reads, compared-reads, some-reads, negs-none, negs-more, negs-some, negs-compared, negs-within, not_there, some_word, pended-first, pended-end, pended-and, pended-or, two-long}
use Rattle.quick.proofs.+bracket_comparison_condition_factor_some_aggregate_closed_qualified_term.Goals as goal

pub conditions::bracket-returns-then-c-eq0 : goal.conditions::bracket-returns-then-c-eq0
conditions::bracket-returns-then-c-eq0 t c = record { went = lost c.args.s.at c.args.s.to _ _ c.condition-c.ensures.went.long c.condition-c.ensures.went.wide; formed = record { reads = λ given ρ ws k t h. absurd (omega (arith, h)) } }

pub conditions::bracket-returns-in_default : goal.conditions::bracket-returns-in_default
conditions::bracket-returns-in_default t c = record { went = lost c.args.s.at c.args.s.to _ _ c.condition-c.ensures.went.long c.condition-c.ensures.went.wide; formed = record { reads = λ given ρ ws k t h. absurd (omega (arith, h)) } }

pub conditions::bracket-returns : goal.conditions::bracket-returns
conditions::bracket-returns t c = let one = some _ c.if-c-eq0.false in record {
  went = record {
    inside = c.in-Some.ensures.1;
    on = λ h. omega (arith, c.in-Some.ensures.0, c.condition-c.ensures.went.on one);
    more = λ h. c.condition-c.ensures.went.more one;
    long = c.condition-c.ensures.went.long;
    wide = c.condition-c.ensures.went.wide;
  };
  formed = bracket-reads c.args.source.now.text.bytes c.args.source.now.list.now c.args.symbols.now _ c.args.made.now _ c.args.s.at c.args.s.to c.condition-c.result.at c.in-Some.at c.condition-c.result.to c.condition-c.ensures.formed one c.in-Some.ensures.2;
}

pub conditions::comparison-term-a-requires : goal.conditions::comparison-term-a-requires
conditions::comparison-term-a-requires t c = (omega (arith, c.decreases), (c.requires.lent, (c.requires.at_bound.0, omega (arith, c.requires.at_bound.1), c.requires.at_bound.2, c.requires.at_bound.3)))

pub conditions::comparison-returns-then-a-eq0 : goal.conditions::comparison-returns-then-a-eq0
conditions::comparison-returns-then-a-eq0 t c = record { went = lost c.args.s.at c.args.s.to _ _ c.term-a.ensures.went.long c.term-a.ensures.went.wide; formed_from = record { reads = λ given ρ ws k t w h. absurd (omega (arith, h)) } }

pub conditions::comparison-returns-in_default : goal.conditions::comparison-returns-in_default
conditions::comparison-returns-in_default t c = record { went = lost c.args.s.at c.args.s.to _ _ c.term-a.ensures.went.long c.term-a.ensures.went.wide; formed_from = record { reads = λ given ρ ws k t w h. absurd (omega (arith, h)) } }

pub conditions::comparison-returns-then-to-gt980 : goal.conditions::comparison-returns-then-to-gt980
conditions::comparison-returns-then-to-gt980 t c = record { went = lost c.args.s.at c.args.s.to _ _ c.term-a.ensures.went.long c.term-a.ensures.went.wide; formed_from = record { reads = λ given ρ ws k t w h. absurd (omega (arith, h)) } }

pub conditions::comparison-term-requires : goal.conditions::comparison-term-requires
conditions::comparison-term-requires t c = (omega (arith, c.decreases, c.in-Some.ensures.1, c.in-Some.ensures.0, c.term-a.ensures.went.on (some _ c.if-a-eq0.false)), (record { indexed = c.requires.lent.indexed; long = c.term-a.ensures.went.long; wide = two-long c.term-a.new.made c.args.s.to 21 (c.args.s.to + 1) c.in-Some.o.number c.term-a.ensures.went.wide }, (c.in-Some.ensures.1, omega (arith, c.if-to-gt980.false), c.word-v.ensures.end_bound.0, c.word-v.ensures.end_bound.1)))

pub conditions::comparison-returns : goal.conditions::comparison-returns
conditions::comparison-returns t c = let one = some _ c.if-a-eq0.false in record {
  went = record {
    inside = c.term.ensures.went.inside;
    on = λ h. omega (arith, c.term.ensures.went.on h, c.in-Some.ensures.0, c.term-a.ensures.went.on one);
    more = λ h. omega (arith, c.term.ensures.went.more h, c.term-a.ensures.went.more one);
    long = c.term.ensures.went.long;
    wide = c.term.ensures.went.wide;
  };
  formed_from = compared-reads c.args.source.now.text.bytes c.args.source.now.list.now c.args.symbols.now _ _ c.args.made.now _ _ c.args.s.at c.args.s.to c.term-a.result.at c.term-a.result.to c.in-Some.o.end c.term.result.at c.term.result.to c.args.w.end c.args.w.value c.word-v.result.end c.word-v.result.value c.in-Some.o.number
      c.term-a.ensures.termed_from one c.in-Some.ensures.2 c.term.ensures.termed_from c.word-v.ensures.by_index c.requires.lent.wide c.requires.at_bound.1;
}

pub conditions::condition-loop-c-init : goal.conditions::condition-loop-c-init
conditions::condition-loop-c-init t c = (c.requires.at_bound, omega arith, c.requires.lent.long, c.requires.lent.wide, omega arith, omega arith, pended-first c.args.source.now.text.bytes c.args.source.now.list.now c.args.symbols.now c.args.made.now c.args.s.at c.args.s.to)

pub conditions::condition-returns-then-end-eq0 : goal.conditions::condition-returns-then-end-eq0
conditions::condition-returns-then-end-eq0 t c = record { went = lost c.args.s.at c.args.s.to _ _ c.factor-c.ensures.went.long c.factor-c.ensures.went.wide; to_bound = λ h. absurd (omega (arith, h)); formed = record { reads = λ given ρ ws k t h. absurd (omega (arith, h)) } }

pub conditions::condition-returns-then-to-gt980 : goal.conditions::condition-returns-then-to-gt980
conditions::condition-returns-then-to-gt980 t c = record { went = lost c.args.s.at c.args.s.to _ _ c.factor-c.ensures.went.long c.factor-c.ensures.went.wide; to_bound = λ h. absurd (omega (arith, h)); formed = record { reads = λ given ρ ws k t h. absurd (omega (arith, h)) } }

pub conditions::condition-insert-requires : goal.conditions::condition-insert-requires
conditions::condition-insert-requires t c = (omega (arith, c.loop-c.invariant.5, c.factor-c.ensures.went.more (some _ c.if-end-eq0.false)), omega (arith, c.if-to-gt980.false), c.factor-c.ensures.went.wide)

pub conditions::condition-loop-c-smaller-in-Some : goal.conditions::condition-loop-c-smaller-in-Some
conditions::condition-loop-c-smaller-in-Some t c = omega (arith, c.in-Some.ensures.1, c.in-Some.ensures.0, c.factor-c.ensures.went.on (some _ c.if-end-eq0.false))

pub conditions::condition-loop-c-preserved-in-Some : goal.conditions::condition-loop-c-preserved-in-Some
conditions::condition-loop-c-preserved-in-Some t c = let one = some _ c.if-end-eq0.false in (
  c.in-Some.ensures.1,
  omega (arith, c.loop-c.invariant.1, c.factor-c.ensures.went.on one, c.in-Some.ensures.0),
  c.factor-c.ensures.went.long,
  c.insert.ensures.made_len,
  c.loop-c.invariant.4,
  omega (arith, c.loop-c.invariant.5, c.factor-c.ensures.went.more one),
  pended-and c.args.source.now.text.bytes c.args.source.now.list.now c.args.symbols.now c.loop-c.symbols _ c.args.made.now c.loop-c.made _ c.args.s.at c.loop-c.c.at c.args.s.to c.loop-c.from c.loop-c.c.to c.factor-c.result.at c.factor-c.result.to c.loop-c.invariant.6 c.factor-c.ensures.formed one
      (omega (arith, c.requires.lent.wide, c.loop-c.invariant.4, c.loop-c.invariant.5, c.factor-c.ensures.went.more one, c.if-to-gt980.false)) c.in-Some.at _ c.in-Some.ensures.2 c.insert.ensures.made_after,
)

pub conditions::condition-returns-in_default-past_or : goal.conditions::condition-returns-in_default-past_or
conditions::condition-returns-in_default-past_or t c = let one = some _ c.if-end-eq0.false in record {
  went = record {
    inside = c.factor-c.ensures.went.inside;
    on = λ h. omega (arith, c.loop-c.invariant.1, c.factor-c.ensures.went.on one);
    more = λ h. omega (arith, c.loop-c.invariant.4, c.loop-c.invariant.5, c.factor-c.ensures.went.more one);
    long = c.factor-c.ensures.went.long;
    wide = c.factor-c.ensures.went.wide;
  };
  to_bound = (λ h. c.if-to-gt980.false);
  formed = pended-end c.args.source.now.text.bytes c.args.source.now.list.now c.args.symbols.now c.loop-c.symbols _ c.args.made.now c.loop-c.made _ c.args.s.at c.loop-c.c.at c.args.s.to c.loop-c.from c.loop-c.c.to c.factor-c.result.at c.factor-c.result.to c.loop-c.invariant.6 c.factor-c.ensures.formed one;
}

pub conditions::condition-insert-requires-in-loop-c : goal.conditions::condition-insert-requires-in-loop-c
conditions::condition-insert-requires-in-loop-c t c = (omega (arith, c.loop-c.invariant.4, c.loop-c.invariant.5, c.factor-c.ensures.went.more (some _ c.if-end-eq0.false)), omega (arith, c.if-to-gt980.false), c.factor-c.ensures.went.wide)

pub conditions::condition-loop-c-smaller : goal.conditions::condition-loop-c-smaller
conditions::condition-loop-c-smaller t c = omega (arith, c.in-Some-past_or.ensures.1, c.in-Some-past_or.ensures.0, c.factor-c.ensures.went.on (some _ c.if-end-eq0.false))

pub conditions::condition-loop-c-preserved : goal.conditions::condition-loop-c-preserved
conditions::condition-loop-c-preserved t c = let one = some _ c.if-end-eq0.false in (
  c.in-Some-past_or.ensures.1,
  omega (arith, c.loop-c.invariant.1, c.factor-c.ensures.went.on one, c.in-Some-past_or.ensures.0),
  c.factor-c.ensures.went.long,
  c.insert-in-loop-c.ensures.made_len,
  omega (arith, c.loop-c.invariant.4, c.loop-c.invariant.5, c.factor-c.ensures.went.more one),
  omega arith,
  pended-or c.args.source.now.text.bytes c.args.source.now.list.now c.args.symbols.now c.loop-c.symbols _ c.args.made.now c.loop-c.made _ c.args.s.at c.loop-c.c.at c.args.s.to c.loop-c.from c.loop-c.c.to c.factor-c.result.at c.factor-c.result.to c.loop-c.invariant.6 c.factor-c.ensures.formed one
      (omega (arith, c.requires.lent.wide, c.loop-c.invariant.4, c.loop-c.invariant.5, c.factor-c.ensures.went.more one, c.if-to-gt980.false)) c.in-Some-past_or.at _ c.in-Some-past_or.ensures.2 c.insert-in-loop-c.ensures.made_after,
)

pub conditions::factor-loop-to-init : goal.conditions::factor-loop-to-init
conditions::factor-loop-to-init t c = (c.requires.at_bound, omega arith, omega arith, refl, c.requires.lent.wide, negs-none c.args.source.now.text.bytes c.args.source.now.list.now c.args.symbols.now c.args.made.now c.args.s.at c.args.s.to)

pub conditions::factor-returns-then-to-gt980 : goal.conditions::factor-returns-then-to-gt980
conditions::factor-returns-then-to-gt980 t c = record { went = lost c.args.s.at c.args.s.to _ _ (ap length c.loop-to.invariant.3 ∙ c.requires.lent.long) c.loop-to.invariant.4; formed = record { reads = λ given ρ ws k t h. absurd (omega (arith, h)) } }

pub conditions::factor-bracket-requires : goal.conditions::factor-bracket-requires
conditions::factor-bracket-requires t c = (omega (arith, c.decreases, c.loop-to.invariant.1, c.in-Some.ensures.1, c.in-Some.ensures.0), (record { indexed = c.requires.lent.indexed; long = ap length c.loop-to.invariant.3 ∙ c.requires.lent.long; wide = c.loop-to.invariant.4 }, c.in-Some.ensures.1))

pub conditions::factor-returns-in-Some : goal.conditions::factor-returns-in-Some
conditions::factor-returns-in-Some t c = record {
  went = record {
    inside = c.bracket.ensures.went.inside;
    on = λ h. omega (arith, c.loop-to.invariant.1, c.bracket.ensures.went.on h, c.in-Some.ensures.0);
    more = λ h. omega (arith, c.loop-to.invariant.2, c.bracket.ensures.went.more h);
    long = c.bracket.ensures.went.long;
    wide = c.bracket.ensures.went.wide;
  };
  formed = negs-within c.args.source.now.text.bytes c.args.source.now.list.now c.args.symbols.now c.args.made.now c.loop-to.made c.args.s.at c.loop-to.at c.args.s.to c.loop-to.to c.loop-to.invariant.5 c.loop-to.symbols _ _ c.in-Some.at c.bracket.result.at c.bracket.result.to c.loop-to.invariant.3 c.in-Some.ensures.2 c.bracket.ensures.formed;
}

pub conditions::factor-some-requires : goal.conditions::factor-some-requires
conditions::factor-some-requires t c = (let one = some_word c.args.source.now.text.bytes c.args.source.now.list.now c.args.symbols.now c.args.made.now c.loop-to.made c.args.s.at c.loop-to.at c.args.s.to c.loop-to.to c.loop-to.invariant.5 c.word-w.result.end c.word-w.result.value c.word-w.ensures.by_index c.word-w.ensures.end_bound.2 c.if-w-eq783124.true in omega (arith, c.decreases, c.loop-to.invariant.1, c.word-w.ensures.end_bound.0, c.word-w.ensures.end_bound.1 one), (record { indexed = c.requires.lent.indexed; long = ap length c.loop-to.invariant.3 ∙ c.requires.lent.long; wide = c.loop-to.invariant.4 }, (c.word-w.ensures.end_bound.0, c.if-to-gt980.false)))

pub conditions::factor-returns-then-w-eq783124 : goal.conditions::factor-returns-then-w-eq783124
conditions::factor-returns-then-w-eq783124 t c = let list = c.args.source.now.list.now in let made = c.args.made.now in let symbols = c.args.symbols.now in let text = c.args.source.now.text.bytes in record {
  went = record {
    inside = c.some.ensures.went.inside;
    on = λ h. omega (arith, c.loop-to.invariant.1, c.some.ensures.went.on h, c.word-w.ensures.end_bound.1 (some_word text list symbols made c.loop-to.made c.args.s.at c.loop-to.at c.args.s.to c.loop-to.to c.loop-to.invariant.5 c.word-w.result.end c.word-w.result.value c.word-w.ensures.by_index c.word-w.ensures.end_bound.2 c.if-w-eq783124.true));
    more = λ h. omega (arith, c.loop-to.invariant.2, c.some.ensures.went.more h);
    long = c.some.ensures.went.long;
    wide = c.some.ensures.went.wide;
  };
  formed = negs-some text list symbols made c.loop-to.made c.args.s.at c.loop-to.at c.args.s.to c.loop-to.to c.loop-to.invariant.5 c.word-w.result.end c.word-w.result.value c.word-w.ensures.by_index c.word-w.ensures.end_bound.2 c.loop-to.symbols _ _ c.some.result.at c.some.result.to c.loop-to.invariant.3 c.if-w-eq783124.true c.some.ensures.some_after;
}

pub conditions::factor-comparison-requires : goal.conditions::factor-comparison-requires
conditions::factor-comparison-requires t c = (omega (arith, c.decreases, c.loop-to.invariant.0, c.loop-to.invariant.1), (record { indexed = c.requires.lent.indexed; long = ap length c.loop-to.invariant.3 ∙ c.requires.lent.long; wide = c.loop-to.invariant.4 }, (c.loop-to.invariant.0, c.if-to-gt980.false, c.word-w.ensures.end_bound.0, c.word-w.ensures.end_bound.1)))

pub conditions::factor-returns-then-w-ne26747 : goal.conditions::factor-returns-then-w-ne26747
conditions::factor-returns-then-w-ne26747 t c = record {
  went = record {
    inside = c.comparison.ensures.went.inside;
    on = λ h. omega (arith, c.loop-to.invariant.1, c.comparison.ensures.went.on h, c.loop-to.invariant.0);
    more = λ h. omega (arith, c.loop-to.invariant.2, c.comparison.ensures.went.more h);
    long = c.comparison.ensures.went.long;
    wide = c.comparison.ensures.went.wide;
  };
  formed = negs-compared c.args.source.now.text.bytes c.args.source.now.list.now c.args.symbols.now c.args.made.now c.loop-to.made c.args.s.at c.loop-to.at c.args.s.to c.loop-to.to c.loop-to.invariant.5 c.word-w.result.end c.word-w.result.value c.word-w.ensures.by_index c.word-w.ensures.end_bound.2 c.loop-to.symbols _ _ c.comparison.result.at c.comparison.result.to c.loop-to.invariant.3 c.comparison.ensures.formed_from;
}

pub conditions::factor-loop-to-smaller : goal.conditions::factor-loop-to-smaller
conditions::factor-loop-to-smaller t c = omega (arith, c.word-w.ensures.end_bound.0, c.word-w.ensures.end_bound.1 (not_there c.args.source.now.text.bytes c.args.source.now.list.now c.args.symbols.now c.args.made.now c.loop-to.made c.args.s.at c.loop-to.at c.args.s.to c.loop-to.to c.loop-to.invariant.5 c.word-w.result.end c.word-w.result.value c.word-w.ensures.by_index c.word-w.ensures.end_bound.2 c.if-w-ne26747.false))

pub conditions::factor-loop-to-preserved : goal.conditions::factor-loop-to-preserved
conditions::factor-loop-to-preserved t c = let list = c.args.source.now.list.now in let made = c.args.made.now in let symbols = c.args.symbols.now in let text = c.args.source.now.text.bytes in
    let one = not_there text list symbols made c.loop-to.made c.args.s.at c.loop-to.at c.args.s.to c.loop-to.to c.loop-to.invariant.5 c.word-w.result.end c.word-w.result.value c.word-w.ensures.by_index c.word-w.ensures.end_bound.2 c.if-w-ne26747.false in (
      c.word-w.ensures.end_bound.0,
      omega (arith, c.loop-to.invariant.1, c.word-w.ensures.end_bound.1 one),
      omega (arith, c.loop-to.invariant.2),
      c.loop-to.invariant.3,
      length-set c.loop-to.made c.loop-to.to 18 ∙ c.loop-to.invariant.4,
      negs-more text list symbols made c.loop-to.made c.args.s.at c.loop-to.at c.args.s.to c.loop-to.to c.loop-to.invariant.5 c.word-w.result.end c.word-w.result.value c.word-w.ensures.by_index c.word-w.ensures.end_bound.2 c.if-w-ne26747.false (omega (arith, c.loop-to.invariant.4, c.if-to-gt980.false)),
    )

pub conditions::some-returns-in_default : goal.conditions::some-returns-in_default
conditions::some-returns-in_default t c = record { went = lost c.args.s.at c.args.s.to _ _ c.requires.lent.long c.requires.lent.wide; some_after = record { reads = λ given ρ ws n k t s z. absurd (omega (arith, z)) } }

pub conditions::some-returns-in_default-relation : goal.conditions::some-returns-in_default-relation
conditions::some-returns-in_default-relation t c = record { went = lost c.args.s.at c.args.s.to _ _ c.requires.lent.long c.requires.lent.wide; some_after = record { reads = λ given ρ ws n k t s z. absurd (omega (arith, z)) } }

pub conditions::some-returns-then-not-opened : goal.conditions::some-returns-then-not-opened
conditions::some-returns-then-not-opened t c = record { went = lost c.args.s.at c.args.s.to _ _ c.opened.ensures.symbols_len.0 c.opened.ensures.symbols_len.1; some_after = record { reads = λ given ρ ws n k t s z. absurd (omega (arith, z)) } }

pub conditions::some-bracket-c-requires : goal.conditions::some-bracket-c-requires
conditions::some-bracket-c-requires t c = (omega (arith, c.decreases, c.in-Some-relation.ensures.1, c.in-Some-relation.ensures.0, c.in-Some.ensures.0), (record { indexed = c.requires.lent.indexed; long = c.opened.ensures.symbols_len.0; wide = c.opened.ensures.symbols_len.1 }, c.in-Some-relation.ensures.1))

pub conditions::some-overflow_mul-symbols : goal.conditions::some-overflow_mul-symbols
conditions::some-overflow_mul-symbols t c = omega (arith, (c.opened.ensures.some_put (not-no _ c.if-not-opened.false-raw)).few)

pub conditions::some-overflow_add-symbols : goal.conditions::some-overflow_add-symbols
conditions::some-overflow_add-symbols t c = omega (arith, (c.opened.ensures.some_put (not-no _ c.if-not-opened.false-raw)).few)

pub conditions::some-offset_bounds-symbols-k : goal.conditions::some-offset_bounds-symbols-k
conditions::some-offset_bounds-symbols-k t c = omega (arith, (c.opened.ensures.some_put (not-no _ c.if-not-opened.false-raw)).few)

pub conditions::some-bounds-symbols-k : goal.conditions::some-bounds-symbols-k
conditions::some-bounds-symbols-k t c = omega (arith, (c.opened.ensures.some_put (not-no _ c.if-not-opened.false-raw)).few)

pub conditions::some-returns : goal.conditions::some-returns
conditions::some-returns t c = let symbols = c.args.symbols.now in
    record {
      went = record {
        inside = c.bracket-c.ensures.went.inside;
        on = λ h. omega (arith, c.bracket-c.ensures.went.on h, c.in-Some-relation.ensures.0, c.in-Some.ensures.0);
        more = λ h. omega (arith, c.bracket-c.ensures.went.more h);
        long = length-set c.bracket-c.new.symbols (4 * get_or symbols 157 0 + 3) 255 ∙ c.bracket-c.ensures.went.long;
        wide = c.bracket-c.ensures.went.wide;
      };
      some_after = some-reads c.args.source.now.text.bytes c.args.source.now.list.now symbols _ _ c.args.made.now _ _ c.args.s.at c.args.s.to c.in-Some.x.end c.in-Some-relation.r.end c.bracket-c.result.at c.bracket-c.result.to c.in-Some.x.value c.in-Some-relation.r.value
          c.requires.lent.wide c.requires.at_bound.1 c.in-Some.ensures.2 c.in-Some-relation.ensures.2 (c.opened.ensures.some_put (not-no _ c.if-not-opened.false-raw)) c.bracket-c.ensures.formed;
    }

pub terms::aggregate-returns-in_default : goal.terms::aggregate-returns-in_default
terms::aggregate-returns-in_default t c = record { went = lost c.args.s.at c.args.s.to _ _ c.requires.lent.long c.requires.lent.wide; aggregate_after = record { reads = λ given ρ ws x p k t f l z. absurd (omega (arith, z)) } }

pub terms::aggregate-returns-in_default-bound : goal.terms::aggregate-returns-in_default-bound
terms::aggregate-returns-in_default-bound t c = record { went = lost c.args.s.at c.args.s.to _ _ c.requires.lent.long c.requires.lent.wide; aggregate_after = record { reads = λ given ρ ws x p k t f l z. absurd (omega (arith, z)) } }

pub terms::aggregate-returns-in_default-attribute_at : goal.terms::aggregate-returns-in_default-attribute_at
terms::aggregate-returns-in_default-attribute_at t c = record { went = lost c.args.s.at c.args.s.to _ _ c.requires.lent.long c.requires.lent.wide; aggregate_after = record { reads = λ given ρ ws x p k t f l z. absurd (omega (arith, z)) } }

pub terms::aggregate-returns-then-next-gt199 : goal.terms::aggregate-returns-then-next-gt199
terms::aggregate-returns-then-next-gt199 t c = record { went = lost c.args.s.at c.args.s.to _ _ c.requires.lent.long c.requires.lent.wide; aggregate_after = record { reads = λ given ρ ws x p k t f l z. absurd (omega (arith, z)) } }

pub terms::aggregate-bounds-source-q : goal.terms::aggregate-bounds-source-q
terms::aggregate-bounds-source-q t c = omega (arith, c.in-Some-attribute_at.ensures.0)

pub terms::aggregate-closed-requires : goal.terms::aggregate-closed-requires
terms::aggregate-closed-requires t c = let symbols = c.args.symbols.now in
    (omega (arith, c.decreases, c.in-Some.ensures.1, c.in-Some.ensures.0), (record { indexed = c.requires.lent.indexed; long = length-set symbols 156 (next_number symbols + 1) ∙ c.requires.lent.long; wide = five-wide c.args.made.now _ c.args.s.to 34 c.args.f c.low.result c.low-relation.result (get_or c.args.source.now.list.now (c.in-Some-attribute_at.q + 2) 0) c.put.ensures c.requires.lent.wide }, (c.in-Some.ensures.1, omega (arith, c.requires.at_bound.1), c.in-Some-bound.ensures.0, omega (arith, get_or-set_same symbols 156 (next_number symbols + 1) 0 (omega (arith, c.requires.lent.long))))))

pub terms::aggregate-returns : goal.terms::aggregate-returns
terms::aggregate-returns t c = record {
  went = record {
    inside = c.closed.ensures.went.inside;
    on = λ h. omega (arith, c.closed.ensures.went.on h, c.in-Some.ensures.0);
    more = λ h. omega (arith, c.closed.ensures.went.more h);
    long = c.closed.ensures.went.long;
    wide = c.closed.ensures.went.wide;
  };
  aggregate_after = aggregate-reads c.args.source.now.text.bytes c.args.source.now.list.now c.args.symbols.now _ c.args.made.now _ _ c.args.s.at c.args.s.to c.in-Some.x.end c.closed.result.at c.closed.result.to c.args.f c.in-Some.x.owner c.in-Some.x.value c.in-Some-bound.i c.in-Some-attribute_at.q c.low-relation.result c.low.result
      c.requires.lent.long c.requires.lent.wide c.requires.at_bound.1 c.in-Some-bound.ensures.0 c.in-Some-bound.ensures.1 c.in-Some-bound.ensures.2 (omega (arith, c.in-Some-attribute_at.ensures.0)) c.in-Some.ensures.2 c.low-relation.ensures c.in-Some-attribute_at.ensures.1 c.if-next-gt199.false c.low.ensures c.put.ensures c.closed.ensures.closed;
}

pub terms::closed-returns-in-Some : goal.terms::closed-returns-in-Some
terms::closed-returns-in-Some t c = let made = c.args.made.now in record { went = record { inside = c.in-Some.ensures.1; on = λ _. c.in-Some.ensures.0; more = λ h. omega arith; long = c.requires.lent.long; wide = length-set made c.args.s.to 16 ∙ c.requires.lent.wide }; closed = closed-reads c.args.source.now.text.bytes c.args.source.now.list.now c.args.symbols.now made c.args.s.at c.args.s.to c.in-Some.at c.args.i c.requires.lent.wide c.requires.at_bound.1 c.in-Some.ensures.2 }

pub terms::closed-returns-in_default-past : goal.terms::closed-returns-in_default-past
terms::closed-returns-in_default-past t c = record { went = lost c.args.s.at c.args.s.to _ _ c.requires.lent.long c.requires.lent.wide; closed = record { reads = λ given ρ ws n k t l o next z. absurd (omega (arith, z)) } }

pub terms::closed-qualified-requires : goal.terms::closed-qualified-requires
terms::closed-qualified-requires t c = (omega (arith, c.decreases, c.in-Some-past.ensures.1, c.in-Some-past.ensures.0), (c.requires.lent, (c.in-Some-past.ensures.1, c.requires.at_bound.2, c.requires.at_bound.3)))

pub terms::closed-returns : goal.terms::closed-returns
terms::closed-returns t c = record {
  went = record {
    inside = c.qualified.ensures.went.inside;
    on = λ h. omega (arith, c.qualified.ensures.went.on h, c.in-Some-past.ensures.0);
    more = c.qualified.ensures.went.more;
    long = c.qualified.ensures.went.long;
    wide = c.qualified.ensures.went.wide;
  };
  closed = after-reads c.args.source.now.text.bytes c.args.source.now.list.now c.args.symbols.now _ c.args.made.now _ c.args.s.at c.args.s.to c.in-Some-past.at c.qualified.result.at c.qualified.result.to c.args.i c.in-Some-past.ensures.2 c.qualified.ensures.closed_after;
}

pub terms::qualified-returns-then-outer-gt99 : goal.terms::qualified-returns-then-outer-gt99
terms::qualified-returns-then-outer-gt99 t c = record { went = lost c.args.s.at c.args.s.to _ _ c.requires.lent.long c.requires.lent.wide; closed_after = record { reads = λ given ρ ws n x k t l o next s z. absurd (omega (arith, z)) } }

pub terms::qualified-bracket-c-requires : goal.terms::qualified-bracket-c-requires
terms::qualified-bracket-c-requires t c = let symbols = c.args.symbols.now in
    (omega (arith, c.decreases, c.requires.at_bound.0), (record { indexed = c.requires.lent.indexed; long = placed-long symbols c.args.i (next_number symbols - 1) (level_now symbols + 1) (level_now symbols + 1) c.requires.lent.long c.requires.at_bound.1; wide = c.requires.lent.wide }, c.requires.at_bound.0))

pub terms::qualified-returns : goal.terms::qualified-returns
terms::qualified-returns t c = let symbols = c.args.symbols.now in let i = c.args.i in record {
  went = record {
    inside = c.bracket-c.ensures.went.inside;
    on = c.bracket-c.ensures.went.on;
    more = c.bracket-c.ensures.went.more;
    long = placed-long c.bracket-c.new.symbols i (number_at symbols i) (level_at symbols i) (level_now symbols) c.bracket-c.ensures.went.long c.requires.at_bound.1;
    wide = c.bracket-c.ensures.went.wide;
  };
  closed_after = qualified-reads c.args.source.now.text.bytes c.args.source.now.list.now symbols _ c.args.made.now _ c.args.s.at c.args.s.to c.bracket-c.result.at c.bracket-c.result.to i c.requires.lent.long c.bracket-c.ensures.went.long c.requires.at_bound.1 c.if-outer-gt99.false c.bracket-c.ensures.formed;
}

pub terms::term-returns-then-end-eq0 : goal.terms::term-returns-then-end-eq0
terms::term-returns-then-end-eq0 t c = let list = c.args.source.now.list.now in let symbols = c.args.symbols.now in record { went = record { inside = c.number.ensures.at_bound.0; on = λ h. (c.number.ensures.at_bound.1 h).0; more = λ h. (c.number.ensures.at_bound.1 h).1; long = c.requires.lent.long; wide = c.number.ensures.at_bound.2 }; termed_from = term-number c.args.source.now.text.bytes list symbols symbols c.args.made.now _ c.args.s.at c.args.s.to c.number.result.at c.number.result.to c.args.w.end c.args.w.value c.if-end-eq0.true (c.number.ensures.by_index list) }

pub terms::term-returns-in-Some : goal.terms::term-returns-in-Some
terms::term-returns-in-Some t c = let one = some _ c.if-end-eq0.false in record { went = record { inside = c.used.ensures.went.inside; on = λ h. omega (arith, c.used.ensures.went.on h, c.in-Some.ensures.0, c.requires.at_bound.3 one); more = c.used.ensures.went.more; long = c.used.ensures.went.long; wide = c.used.ensures.went.wide }; termed_from = term-use c.args.source.now.text.bytes c.args.source.now.list.now c.args.symbols.now _ c.args.made.now _ c.args.s.at c.args.s.to c.used.result.at c.used.result.to c.args.w.end c.args.w.value c.in-Some.at one c.in-Some.ensures.2 c.used.ensures.use_after }

pub terms::term-returns-in_default-function : goal.terms::term-returns-in_default-function
terms::term-returns-in_default-function t c = record { went = lost c.args.s.at c.args.s.to _ _ c.requires.lent.long c.requires.lent.wide; termed_from = record { reads = λ given ρ ws k t w h. absurd (omega (arith, h)) } }

pub terms::term-aggregate-requires : goal.terms::term-aggregate-requires
terms::term-aggregate-requires t c = (omega (arith, c.decreases, c.in-Some-past.ensures.1, c.in-Some-past.ensures.0, c.requires.at_bound.3 (some _ c.if-end-eq0.false)), (c.requires.lent, (c.in-Some-past.ensures.1, c.requires.at_bound.1)))

pub terms::term-returns-in-Some-past : goal.terms::term-returns-in-Some-past
terms::term-returns-in-Some-past t c = let one = some _ c.if-end-eq0.false in record { went = record { inside = c.aggregate.ensures.went.inside; on = λ h. omega (arith, c.aggregate.ensures.went.on h, c.in-Some-past.ensures.0, c.requires.at_bound.3 one); more = c.aggregate.ensures.went.more; long = c.aggregate.ensures.went.long; wide = c.aggregate.ensures.went.wide }; termed_from = term-aggregate c.args.source.now.text.bytes c.args.source.now.list.now c.args.symbols.now _ c.args.made.now _ c.args.s.at c.args.s.to c.aggregate.result.at c.aggregate.result.to c.args.w.end c.args.w.value c.in-Some-past.at c.in-Some-function.f one c.in-Some-past.ensures.2 c.in-Some-function.ensures c.aggregate.ensures.aggregate_after }

pub terms::term-returns : goal.terms::term-returns
terms::term-returns t c = let symbols = c.args.symbols.now in
    let one = some _ c.if-end-eq0.false in record { went = record { inside = omega (arith, c.value.ensures.at_le_end.0, c.requires.at_bound.2); on = λ h. omega (arith, (c.value.ensures.at_le_end.1 h).0, c.requires.at_bound.3 one); more = λ h. (c.value.ensures.at_le_end.1 h).1; long = c.requires.lent.long; wide = c.value.ensures.at_le_end.2 }; termed_from = term-value c.args.source.now.text.bytes c.args.source.now.list.now symbols symbols c.args.made.now _ c.args.s.at c.args.s.to c.value.result.at c.value.result.to c.args.w.end c.args.w.value one (λ h. (c.value.ensures.at_le_end.1 h).0) c.value.ensures.value_at }
