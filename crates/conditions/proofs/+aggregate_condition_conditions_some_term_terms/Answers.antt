use native.Mathlib.Omega.{arith}
use mathlib.Core.Path.{refl, sym, ap, ◌∙◌}
use lib.ListN.{length}
use Rattle.conditions.specs.Reach.{shape_in, scope_of}
use Rattle.conditions.proofs.scope.Steps.{put_back}
use Rattle.std.specs.Prelude.{Some, None}
use Rattle.conditions.specs.Answers.{bytes_of, held}
use Rattle.conditions.proofs.Parts.{same-sized}
use Rattle.conditions.proofs.Records.{not-room, both-room, compare-room, some-room, aggregate-room}
use Rattle.conditions.proofs.Steps.{no-level, no-level_t, no-operator, no-function, no-condition, no-term, condition-ends, term-ends, some-ends, aggregate-ends, conditions-ends, terms-ends, conditions-fit, terms-fit, conditions-stop, conditions-go, terms-stop, terms-go, truth-is, not_is, both_is, compare-is, some_is, constant-is, attribute-is, aggregate-is, under-is, aggregated-is}
use borrow.Author.Rules.{rules}
use Rattle.conditions.proofs.+aggregate_condition_conditions_some_term_terms.Goals as goal

pub aggregate-returns : goal.aggregate-returns
aggregate-returns t c = record { value = c.of.ensures ∙ aggregated-is (shape_in c.args.catalogue.now) c.args.limit c.args.under.level c.args.under.variable c.args.relation c.known-known.result c.known-known.ensures _ _ _ c.args.attribute _ c.has-has.result _ c.from.ensures c.has-has.ensures c.requires.1 c.bind.new.reach c.bind.ensures c.condition_at-read.ensures.value (ap (held c.has-has.result) (sym c.in-Some.is ∙ c.reading.ensures)) refl; z_after = c.condition_at-read.ensures.z_after }

pub condition_at-returns-then-level-eq0 : goal.condition_at-returns-then-level-eq0
condition_at-returns-then-level-eq0 t c = let h = no-level (shape_in c.args.catalogue.now) c.args.limit c.args.level (scope_of c.args.reach.now) c.args.q.now c.args.at c.args.z.now c.if-level-eq0.true in record { value = h.0; z_after = h.1; reach_unchanged = refl }

pub condition_at-condition_at-inner-requires : goal.condition_at-condition_at-inner-requires
condition_at-condition_at-inner-requires t c = (omega arith, (not-room c.args.q.now c.tail.result.now c.args.at c.tail.ensures c.condition_record.result c.condition_record.ensures c.record_length-a.result c.record_length-a.ensures.value c.in-Not.is, c.requires.1))

pub condition_at-parent-requires : goal.condition_at-parent-requires
condition_at-parent-requires t c = let good = c.well_formed in let q = c.args.q.now in
    omega (arith, condition-ends q _ (not-room q c.tail.result.now c.args.at c.tail.ensures c.condition_record.result c.condition_record.ensures c.record_length-a.result c.record_length-a.ensures.value c.in-Not.is) _ _ _ _ _ c.condition_at-inner.ensures.value, good)

pub condition_at-conditions-inner-requires : goal.condition_at-conditions-inner-requires
condition_at-conditions-inner-requires t c = (omega arith, (both-room c.args.q.now c.tail.result.now c.args.at c.tail.ensures c.condition_record.result c.condition_record.ensures c.record_length-a-in-And.result c.record_length-a-in-And.ensures.value c.in-And.in-And-own.keys3, c.requires.1))

pub condition_at-parent-requires-in-And : goal.condition_at-parent-requires-in-And
condition_at-parent-requires-in-And t c = let good = c.well_formed in let q = c.args.q.now in
    omega (arith, conditions-ends q _ (both-room q c.tail.result.now c.args.at c.tail.ensures c.condition_record.result c.condition_record.ensures c.record_length-a-in-And.result c.record_length-a-in-And.ensures.value c.in-And.in-And-own.keys3) _ _ _ _ _ c.conditions-inner.ensures.value, good)

pub condition_at-returns-then-not-is_code : goal.condition_at-returns-then-not-is_code
condition_at-returns-then-not-is_code t c = let h = no-operator (shape_in c.args.catalogue.now) c.args.limit c.args.level (scope_of c.args.reach.now) c.args.q.now c.args.at c.args.z.now c.if-level-eq0.false c.tail.result.now c.tail.ensures c.condition_record.result c.condition_record.ensures _ _ c.in-Compare.is c.is_code.ensures c.if-not-is_code.true-raw in record { value = h.0; z_after = h.1; reach_unchanged = refl }

pub condition_at-terms-inner-requires : goal.condition_at-terms-inner-requires
condition_at-terms-inner-requires t c = (omega arith, compare-room c.args.q.now c.tail.result.now c.args.at c.tail.ensures c.condition_record.result c.condition_record.ensures c.record_length-a-in-Compare.result _ c.record_length-a-in-Compare.ensures.value c.in-Compare.is)

pub condition_at-parent-requires-in-Compare : goal.condition_at-parent-requires-in-Compare
condition_at-parent-requires-in-Compare t c = let good = c.well_formed in let q = c.args.q.now in
    omega (arith, terms-ends q _ (compare-room q c.tail.result.now c.args.at c.tail.ensures c.condition_record.result c.condition_record.ensures c.record_length-a-in-Compare.result _ c.record_length-a-in-Compare.ensures.value c.in-Compare.is) _ _ _ _ _ c.terms-inner.ensures.value, good)

pub condition_at-some-inner-requires : goal.condition_at-some-inner-requires
condition_at-some-inner-requires t c = (omega arith, (some-room c.args.q.now c.tail.result.now c.args.at c.tail.ensures c.condition_record.result c.condition_record.ensures c.record_length-a-in-Some.result _ _ c.record_length-a-in-Some.ensures.value c.in-Some.is, c.requires.1))

pub condition_at-parent-requires-in-Some : goal.condition_at-parent-requires-in-Some
condition_at-parent-requires-in-Some t c = let good = c.well_formed in let q = c.args.q.now in
    omega (arith, some-ends q _ (some-room q c.tail.result.now c.args.at c.tail.ensures c.condition_record.result c.condition_record.ensures c.record_length-a-in-Some.result _ _ c.record_length-a-in-Some.ensures.value c.in-Some.is) _ _ _ _ _ _ c.some-inner.ensures.value, good)

pub condition_at-returns-in-True : goal.condition_at-returns-in-True
condition_at-returns-in-True t c = let h = truth-is (shape_in c.args.catalogue.now) c.args.limit c.args.level c.if-level-eq0.false (scope_of c.args.reach.now) c.args.q.now c.args.at c.args.z.now c.tail.result.now c.tail.ensures c.condition_record.result c.condition_record.ensures c.record_length.result _ _ c.record_length.ensures.value c.in-True.in-True-own.keys1 c.leaf.ensures.value c.leaf.ensures.z_after in record { value = h.0; z_after = h.1; reach_unchanged = refl }

pub condition_at-returns-in-Not : goal.condition_at-returns-in-Not
condition_at-returns-in-Not t c = let h = not_is (shape_in c.args.catalogue.now) c.args.limit c.args.level c.if-level-eq0.false (scope_of c.args.reach.now) c.args.q.now c.args.at c.args.z.now c.tail.result.now c.tail.ensures c.condition_record.result c.condition_record.ensures c.record_length-a.result _ _ _ _ c.parent.ensures.value c.parent.ensures.z_after c.record_length-a.ensures.value c.in-Not.is c.condition_at-inner.ensures.value c.condition_at-inner.ensures.z_after in record { value = h.0; z_after = h.1; reach_unchanged = c.condition_at-inner.ensures.reach_unchanged }

pub condition_at-returns-in-And : goal.condition_at-returns-in-And
condition_at-returns-in-And t c = let h = both_is (shape_in c.args.catalogue.now) c.args.limit c.args.level c.if-level-eq0.false (scope_of c.args.reach.now) c.args.q.now c.args.at c.args.z.now c.tail.result.now c.tail.ensures c.condition_record.result c.condition_record.ensures c.record_length-a-in-And.result _ _ _ _ c.parent-in-And.ensures.value c.parent-in-And.ensures.z_after c.record_length-a-in-And.ensures.value c.in-And.in-And-own.keys3 c.conditions-inner.ensures.value c.conditions-inner.ensures.z_after in record { value = h.0; z_after = h.1; reach_unchanged = c.conditions-inner.ensures.reach_unchanged }

pub condition_at-returns-else-not-is_code : goal.condition_at-returns-else-not-is_code
condition_at-returns-else-not-is_code t c = let h = compare-is (shape_in c.args.catalogue.now) c.args.limit c.args.level c.if-level-eq0.false (scope_of c.args.reach.now) c.args.q.now c.args.at c.args.z.now c.tail.result.now c.tail.ensures c.condition_record.result c.condition_record.ensures c.record_length-a-in-Compare.result _ _ _ _ c.parent-in-Compare.ensures.value c.parent-in-Compare.ensures.z_after _ _ c.record_length-a-in-Compare.ensures.value c.in-Compare.is c.is_code.ensures c.if-not-is_code.false-raw c.terms-inner.ensures.value c.terms-inner.ensures.z_after in record { value = h.0; z_after = h.1; reach_unchanged = refl }

pub condition_at-returns-in-Some : goal.condition_at-returns-in-Some
condition_at-returns-in-Some t c = let h = some_is (shape_in c.args.catalogue.now) c.args.limit c.args.level c.if-level-eq0.false (scope_of c.args.reach.now) c.args.q.now c.args.at c.args.z.now c.tail.result.now c.tail.ensures c.condition_record.result c.condition_record.ensures c.record_length-a-in-Some.result _ _ _ _ c.parent-in-Some.ensures.value c.parent-in-Some.ensures.z_after _ _ c.record_length-a-in-Some.ensures.value c.in-Some.is c.some-inner.ensures.value c.some-inner.ensures.z_after in record { value = h.0; z_after = h.1; reach_unchanged = c.some-inner.ensures.reach_unchanged }

pub condition_at-returns-in-Other : goal.condition_at-returns-in-Other
condition_at-returns-in-Other t c = let h = no-condition (shape_in c.args.catalogue.now) c.args.limit c.args.level (scope_of c.args.reach.now) c.args.q.now c.args.at c.args.z.now c.if-level-eq0.false c.tail.result.now c.tail.ensures c.condition_record.result c.condition_record.ensures c.in-Other.is in record { value = h.0; z_after = h.1; reach_unchanged = refl }

pub conditions-overflow_add-at : goal.conditions-overflow_add-at
conditions-overflow_add-at t c = let good = c.well_formed in omega (arith, ap bytes_of c.in-Some.is, condition-ends c.args.q.now _ c.requires.0 _ _ _ _ c.reading.result (c.reading.ensures ∙ c.condition_at.ensures.value), good)

pub conditions-condition_at-requires-2 : goal.conditions-condition_at-requires-2
conditions-condition_at-requires-2 t c = (omega arith, (omega (arith, ap bytes_of c.in-Some.is, condition-ends c.args.q.now _ c.requires.0 _ _ _ _ c.reading.result (c.reading.ensures ∙ c.condition_at.ensures.value)), omega (arith, ap length c.condition_at.ensures.reach_unchanged, c.requires.1)))

pub conditions-returns : goal.conditions-returns
conditions-returns t c = let h = conditions-go (shape_in c.args.catalogue.now) c.args.limit c.args.level c.args.q.now c.args.at c.args.z.now c.reading.result _ c.args.reach.now (c.reading.ensures ∙ c.condition_at.ensures.value) c.condition_at.ensures.z_after c.in-Some.first.length c.in-Some.first.inside c.in-Some.is c.condition_at.new.reach c.condition_at.ensures.reach_unchanged (Some c.in-Some-reading.second) _ (sym c.in-Some-reading.is ∙ (c.reading-2.ensures ∙ c.condition_at-2.ensures.value)) c.condition_at-2.ensures.z_after in record { value = c.of.ensures ∙ h.0; z_after = same-sized _ _ _ _ c.of.ensures h.1; reach_unchanged = c.condition_at-2.ensures.reach_unchanged ∙ c.condition_at.ensures.reach_unchanged }

pub some-returns : goal.some-returns
some-returns t c = let reach = c.args.reach.now in let variable = c.args.under.variable in record { value = c.of.ensures ∙ under-is (shape_in c.args.catalogue.now) c.args.limit c.args.under.level variable c.args.relation c.known-known.result c.known-known.ensures _ _ _ reach c.bind.new.reach c.requires.1 c.bind.ensures c.condition_at-inner.ensures.value (ap (held c.known-known.result) (sym c.in-Some.is ∙ c.reading.ensures)); z_after = c.condition_at-inner.ensures.z_after; reach_unchanged = put_back reach _ c.put.new.reach variable _ _ (c.condition_at-inner.ensures.reach_unchanged ∙ c.bind.ensures) c.entry-old.ensures c.put.ensures }

pub term_at-returns-then-level-eq0 : goal.term_at-returns-then-level-eq0
term_at-returns-then-level-eq0 t c = let h = no-level_t (shape_in c.args.catalogue.now) c.args.limit c.args.level (scope_of c.args.reach.now) c.args.q.now c.args.at c.args.z.now c.if-level-eq0.true in record { value = h.0; z_after = h.1 }

pub term_at-returns-then-not-is_code : goal.term_at-returns-then-not-is_code
term_at-returns-then-not-is_code t c = let h = no-function (shape_in c.args.catalogue.now) c.args.limit c.args.level (scope_of c.args.reach.now) c.args.q.now c.args.at c.args.z.now c.if-level-eq0.false c.tail.result.now c.tail.ensures c.term_record.result c.term_record.ensures _ _ _ _ _ c.in-Aggregate.is c.is_code.ensures c.if-not-is_code.true-raw in record { value = h.0; z_after = h.1 }

pub term_at-aggregate-inner-requires : goal.term_at-aggregate-inner-requires
term_at-aggregate-inner-requires t c = (omega arith, (aggregate-room c.args.q.now c.tail.result.now c.args.at c.tail.ensures c.term_record.result c.term_record.ensures c.record_length-k.result _ _ _ _ c.record_length-k.ensures.value c.in-Aggregate.is, search rules))

pub term_at-parent-requires : goal.term_at-parent-requires
term_at-parent-requires t c = let good = c.well_formed in let q = c.args.q.now in
    omega (arith, aggregate-ends q _ (aggregate-room q c.tail.result.now c.args.at c.tail.ensures c.term_record.result c.term_record.ensures c.record_length-k.result _ _ _ _ c.record_length-k.ensures.value c.in-Aggregate.is) _ _ _ (scope_of c.args.reach.now) _ _ _ c.aggregate-inner.ensures.value, good)

pub term_at-returns-in-Constant : goal.term_at-returns-in-Constant
term_at-returns-in-Constant t c = let h = constant-is (shape_in c.args.catalogue.now) c.args.limit c.args.level c.if-level-eq0.false (scope_of c.args.reach.now) c.args.q.now c.args.at c.args.z.now c.tail.result.now c.tail.ensures c.term_record.result c.term_record.ensures c.record_length.result _ _ _ _ _ _ c.record_length.ensures.value c.in-Constant.is c.leaf.ensures.value c.leaf.ensures.z_after in record { value = h.0; z_after = h.1 }

pub term_at-returns-in-Attribute : goal.term_at-returns-in-Attribute
term_at-returns-in-Attribute t c = let h = attribute-is (shape_in c.args.catalogue.now) c.args.limit c.args.level c.if-level-eq0.false (scope_of c.args.reach.now) c.args.q.now c.args.at c.args.z.now c.tail.result.now c.tail.ensures c.term_record.result c.term_record.ensures c.record_length-in-Attribute.result _ _ _ _ _ c.record_length-in-Attribute.ensures.value c.in-Attribute.is c.attribute-inside.ensures c.leaf-in-Attribute.ensures.value c.leaf-in-Attribute.ensures.z_after in record { value = h.0; z_after = h.1 }

pub term_at-returns-else-not-is_code : goal.term_at-returns-else-not-is_code
term_at-returns-else-not-is_code t c = let h = aggregate-is (shape_in c.args.catalogue.now) c.args.limit c.args.level c.if-level-eq0.false (scope_of c.args.reach.now) c.args.q.now c.args.at c.args.z.now c.tail.result.now c.tail.ensures c.term_record.result c.term_record.ensures c.record_length-k.result _ _ _ _ c.parent.ensures.value c.parent.ensures.z_after _ _ _ _ _ c.record_length-k.ensures.value c.in-Aggregate.is c.is_code.ensures c.if-not-is_code.false-raw c.aggregate-inner.ensures.value c.aggregate-inner.ensures.z_after in record { value = h.0; z_after = h.1 }

pub term_at-returns-in-Other : goal.term_at-returns-in-Other
term_at-returns-in-Other t c = let h = no-term (shape_in c.args.catalogue.now) c.args.limit c.args.level (scope_of c.args.reach.now) c.args.q.now c.args.at c.args.z.now c.if-level-eq0.false c.tail.result.now c.tail.ensures c.term_record.result c.term_record.ensures c.in-Other.is in record { value = h.0; z_after = h.1 }

pub terms-overflow_add-at : goal.terms-overflow_add-at
terms-overflow_add-at t c = let good = c.well_formed in omega (arith, ap bytes_of c.in-Some.is, term-ends c.args.q.now _ c.requires _ _ _ _ c.reading.result (c.reading.ensures ∙ c.term_at.ensures.value), good)

pub terms-term_at-requires-2 : goal.terms-term_at-requires-2
terms-term_at-requires-2 t c = (omega arith, omega (arith, ap bytes_of c.in-Some.is, term-ends c.args.q.now _ c.requires _ _ _ _ c.reading.result (c.reading.ensures ∙ c.term_at.ensures.value)))

pub terms-returns : goal.terms-returns
terms-returns t c = let h = terms-go (shape_in c.args.catalogue.now) c.args.limit c.args.level c.args.q.now c.args.at c.args.z.now c.reading.result _ (scope_of c.args.reach.now) (c.reading.ensures ∙ c.term_at.ensures.value) c.term_at.ensures.z_after c.in-Some.first.length c.in-Some.first.inside c.in-Some.is (Some c.in-Some-reading.second) _ (sym c.in-Some-reading.is ∙ (c.reading-2.ensures ∙ c.term_at-2.ensures.value)) c.term_at-2.ensures.z_after in record { value = c.of.ensures ∙ h.0; z_after = same-sized _ _ _ _ c.of.ensures h.1 }

pub conditions-returns-in_default : goal.conditions-returns-in_default
conditions-returns-in_default t c = let h = conditions-stop (shape_in c.args.catalogue.now) c.args.limit c.args.level c.args.q.now c.args.at c.args.z.now c.reading.result _ c.args.reach.now (c.reading.ensures ∙ c.condition_at.ensures.value) c.condition_at.ensures.z_after c.in_default.is in record { value = h.0; z_after = h.1; reach_unchanged = c.condition_at.ensures.reach_unchanged }

pub conditions-returns-in_default-reading : goal.conditions-returns-in_default-reading
conditions-returns-in_default-reading t c = let h = conditions-go (shape_in c.args.catalogue.now) c.args.limit c.args.level c.args.q.now c.args.at c.args.z.now c.reading.result _ c.args.reach.now (c.reading.ensures ∙ c.condition_at.ensures.value) c.condition_at.ensures.z_after c.in-Some.first.length c.in-Some.first.inside c.in-Some.is c.condition_at.new.reach c.condition_at.ensures.reach_unchanged None _ (sym c.in_default-reading.is ∙ (c.reading-2.ensures ∙ c.condition_at-2.ensures.value)) c.condition_at-2.ensures.z_after in record { value = h.0; z_after = h.1; reach_unchanged = c.condition_at-2.ensures.reach_unchanged ∙ c.condition_at.ensures.reach_unchanged }

pub conditions-overflow_add-n : goal.conditions-overflow_add-n
conditions-overflow_add-n t c = let good = c.well_formed in omega (arith, conditions-fit c.args.q.now _ c.requires.0 _ _ _ _ _ _ _ _ _ _ _ c.in-Some.is c.in-Some-reading.is (c.reading.ensures ∙ c.condition_at.ensures.value) (c.reading-2.ensures ∙ c.condition_at-2.ensures.value), good)

pub terms-returns-in_default : goal.terms-returns-in_default
terms-returns-in_default t c = let h = terms-stop (shape_in c.args.catalogue.now) c.args.limit c.args.level c.args.q.now c.args.at c.args.z.now c.reading.result _ (scope_of c.args.reach.now) (c.reading.ensures ∙ c.term_at.ensures.value) c.term_at.ensures.z_after c.in_default.is in record { value = h.0; z_after = h.1 }

pub terms-returns-in_default-reading : goal.terms-returns-in_default-reading
terms-returns-in_default-reading t c = let h = terms-go (shape_in c.args.catalogue.now) c.args.limit c.args.level c.args.q.now c.args.at c.args.z.now c.reading.result _ (scope_of c.args.reach.now) (c.reading.ensures ∙ c.term_at.ensures.value) c.term_at.ensures.z_after c.in-Some.first.length c.in-Some.first.inside c.in-Some.is None _ (sym c.in_default-reading.is ∙ (c.reading-2.ensures ∙ c.term_at-2.ensures.value)) c.term_at-2.ensures.z_after in record { value = h.0; z_after = h.1 }

pub terms-overflow_add-n : goal.terms-overflow_add-n
terms-overflow_add-n t c = let good = c.well_formed in omega (arith, terms-fit c.args.q.now _ c.requires _ _ _ _ _ _ _ _ _ _ _ c.in-Some.is c.in-Some-reading.is (c.reading.ensures ∙ c.term_at.ensures.value) (c.reading-2.ensures ∙ c.term_at-2.ensures.value), good)

pub some-returns-in_default : goal.some-returns-in_default
some-returns-in_default t c = let reach = c.args.reach.now in let variable = c.args.under.variable in record { value = under-is (shape_in c.args.catalogue.now) c.args.limit c.args.under.level variable c.args.relation c.known-known.result c.known-known.ensures _ _ _ reach c.bind.new.reach c.requires.1 c.bind.ensures c.condition_at-inner.ensures.value (ap (held c.known-known.result) (sym c.in_default.is ∙ c.reading.ensures)); z_after = c.condition_at-inner.ensures.z_after; reach_unchanged = put_back reach _ c.put.new.reach variable _ _ (c.condition_at-inner.ensures.reach_unchanged ∙ c.bind.ensures) c.entry-old.ensures c.put.ensures }

pub aggregate-returns-in_default : goal.aggregate-returns-in_default
aggregate-returns-in_default t c = record { value = aggregated-is (shape_in c.args.catalogue.now) c.args.limit c.args.under.level c.args.under.variable c.args.relation _ refl _ _ _ c.args.attribute c.args.relation _ None refl refl c.requires.1 c.bind.new.reach c.bind.ensures c.condition_at-read.ensures.value (ap (held _) (sym c.in_default.is ∙ c.reading.ensures)) refl; z_after = c.condition_at-read.ensures.z_after }
