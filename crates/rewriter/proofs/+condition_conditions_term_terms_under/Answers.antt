use mathlib.Core.Path.{refl, sym, ◌∙◌}
use Rattle.rewriter.specs.Applying.{masks_by, conditions_by}
use Rattle.rewriter.specs.Rewritten.{condition_bytes, condition_new, term_bytes, term_new}
use Rattle.rewriter.proofs.Runs.{head-room, body-room, body-did, leaf_room, leaf-did, child-room, child-did, both_first, both-second, both-did, under-open, under-room, under_guard, under-did}
use Rattle.rewriter.proofs.Steps.{zero-leaf, zero-leaf_t, true-leaf, not-shape, and-shape, or_shape, compare-shape, some-shape, constant-leaf, attribute-leaf, aggregate-shape, rest-leaf, rest-leaf_t}
use Prim.Native.Nat.{◌-◌}
use native.Mathlib.Omega.{arith}
use Rattle.rewriter.proofs.+condition_conditions_term_terms_under.Goals as goal

pub condition-leaf-requires : goal.condition-leaf-requires
condition-leaf-requires t c = leaf_room _ _ _ (zero-leaf (masks_by c.args.applying.now) (conditions_by c.args.applying.now) c.args.level c.args.part.now.q.now c.args.part.now.z.now c.if-level-eq0.true) c.args.to.at c.args.to.next c.requires

pub condition-returns-then-level-eq0 : goal.condition-returns-then-level-eq0
condition-returns-then-level-eq0 t c = let h = leaf-did _ _ _ (zero-leaf (masks_by c.args.applying.now) (conditions_by c.args.applying.now) c.args.level c.args.part.now.q.now c.args.part.now.z.now c.if-level-eq0.true) c.args.to.at c.args.to.next c.args.out.now _ _ _ (c.leaf.ensures.at_value, c.leaf.ensures.out_after) in record { after = h.0; out_after = h.1 }

pub condition-leaf-requires-in-True : goal.condition-leaf-requires-in-True
condition-leaf-requires-in-True t c = leaf_room _ _ _ (true-leaf (masks_by c.args.applying.now) (conditions_by c.args.applying.now) c.args.level c.args.part.now.q.now c.args.part.now.z.now c.if-level-eq0.false (sym c.condition_record.ensures ∙ c.in-True.is)) c.args.to.at c.args.to.next c.requires

pub condition-put-at-requires : goal.condition-put-at-requires
condition-put-at-requires t c = head-room _ _ _ _ _ (not-shape (masks_by c.args.applying.now) (conditions_by c.args.applying.now) c.args.level c.args.part.now.q.now c.args.part.now.z.now c.if-level-eq0.false (sym c.condition_record.ensures ∙ c.in-Not.is)) c.args.to.at c.args.to.next c.requires

pub condition-condition-requires : goal.condition-condition-requires
condition-condition-requires t c = let masks = masks_by c.args.applying.now in let conditions = conditions_by c.args.applying.now in let q = c.args.part.now.q.now in let z = c.args.part.now.z.now in let level = c.args.level in let next = c.args.to.next in
    (omega (arith, c.decreases, c.if-level-eq0.false), child-room (λ x y i. condition_bytes masks conditions (level - 1) x y i) (λ x y. condition_new masks conditions (level - 1) x y) q z 0 next _ refl _ _ c.first_child-child.ensures.bytes c.first_child-child.ensures.sizes _ (body-room _ _ _ _ _ (not-shape masks conditions level q z c.if-level-eq0.false (sym c.condition_record.ensures ∙ c.in-Not.is)) c.args.to.at next c.args.out.now _ _ (c.put-at.ensures.value, c.put-at.ensures.out_after) c.requires))

pub condition-put-at-requires-in-And : goal.condition-put-at-requires-in-And
condition-put-at-requires-in-And t c = head-room _ _ _ _ _ (and-shape (masks_by c.args.applying.now) (conditions_by c.args.applying.now) c.args.level c.args.part.now.q.now c.args.part.now.z.now c.if-level-eq0.false (sym c.condition_record.ensures ∙ c.in-And.is)) c.args.to.at c.args.to.next c.requires

pub condition-conditions-requires : goal.condition-conditions-requires
condition-conditions-requires t c = (omega (arith, c.decreases, c.if-level-eq0.false), body-room _ _ _ _ _ (and-shape (masks_by c.args.applying.now) (conditions_by c.args.applying.now) c.args.level c.args.part.now.q.now c.args.part.now.z.now c.if-level-eq0.false (sym c.condition_record.ensures ∙ c.in-And.is)) c.args.to.at c.args.to.next c.args.out.now _ _ (c.put-at-in-And.ensures.value, c.put-at-in-And.ensures.out_after) c.requires)

pub condition-put-at-requires-in-Or : goal.condition-put-at-requires-in-Or
condition-put-at-requires-in-Or t c = head-room _ _ _ _ _ (or_shape (masks_by c.args.applying.now) (conditions_by c.args.applying.now) c.args.level c.args.part.now.q.now c.args.part.now.z.now c.if-level-eq0.false (sym c.condition_record.ensures ∙ c.in-Or.is)) c.args.to.at c.args.to.next c.requires

pub condition-conditions-requires-in-Or : goal.condition-conditions-requires-in-Or
condition-conditions-requires-in-Or t c = (omega (arith, c.decreases, c.if-level-eq0.false), body-room _ _ _ _ _ (or_shape (masks_by c.args.applying.now) (conditions_by c.args.applying.now) c.args.level c.args.part.now.q.now c.args.part.now.z.now c.if-level-eq0.false (sym c.condition_record.ensures ∙ c.in-Or.is)) c.args.to.at c.args.to.next c.args.out.now _ _ (c.put-at-in-Or.ensures.value, c.put-at-in-Or.ensures.out_after) c.requires)

pub condition-put_record-at-requires : goal.condition-put_record-at-requires
condition-put_record-at-requires t c = head-room _ _ _ _ _ (compare-shape (masks_by c.args.applying.now) (conditions_by c.args.applying.now) c.args.level c.args.part.now.q.now c.args.part.now.z.now c.if-level-eq0.false _ (sym c.condition_record.ensures ∙ c.in-Compare.is)) c.args.to.at c.args.to.next c.requires

pub condition-terms-requires : goal.condition-terms-requires
condition-terms-requires t c = (omega (arith, c.decreases, c.if-level-eq0.false), body-room _ _ _ _ _ (compare-shape (masks_by c.args.applying.now) (conditions_by c.args.applying.now) c.args.level c.args.part.now.q.now c.args.part.now.z.now c.if-level-eq0.false _ (sym c.condition_record.ensures ∙ c.in-Compare.is)) c.args.to.at c.args.to.next c.args.out.now _ _ (c.put_record-at.ensures.value, c.put_record-at.ensures.out_after) c.requires)

pub condition-put_record-at-requires-in-Some : goal.condition-put_record-at-requires-in-Some
condition-put_record-at-requires-in-Some t c = head-room _ _ _ _ _ (some-shape (masks_by c.args.applying.now) (conditions_by c.args.applying.now) c.args.level c.args.part.now.q.now c.args.part.now.z.now c.if-level-eq0.false _ _ (sym c.condition_record.ensures ∙ c.in-Some.is)) c.args.to.at c.args.to.next c.requires

pub condition-under-requires : goal.condition-under-requires
condition-under-requires t c = (omega (arith, c.decreases, c.if-level-eq0.false), body-room _ _ _ _ _ (some-shape (masks_by c.args.applying.now) (conditions_by c.args.applying.now) c.args.level c.args.part.now.q.now c.args.part.now.z.now c.if-level-eq0.false _ _ (sym c.condition_record.ensures ∙ c.in-Some.is)) c.args.to.at c.args.to.next c.args.out.now _ _ (c.put_record-at-in-Some.ensures.value, c.put_record-at-in-Some.ensures.out_after) c.requires)

pub condition-leaf-requires-in-False : goal.condition-leaf-requires-in-False
condition-leaf-requires-in-False t c = leaf_room _ _ _ (rest-leaf (masks_by c.args.applying.now) (conditions_by c.args.applying.now) c.args.level c.args.part.now.q.now c.args.part.now.z.now c.if-level-eq0.false c.condition_record.result c.condition_record.ensures c.in-False.in-False-own.keys7) c.args.to.at c.args.to.next c.requires

pub condition-returns-in-True : goal.condition-returns-in-True
condition-returns-in-True t c = let h = leaf-did _ _ _ (true-leaf (masks_by c.args.applying.now) (conditions_by c.args.applying.now) c.args.level c.args.part.now.q.now c.args.part.now.z.now c.if-level-eq0.false (sym c.condition_record.ensures ∙ c.in-True.is)) c.args.to.at c.args.to.next c.args.out.now _ _ _ (c.leaf-in-True.ensures.at_value, c.leaf-in-True.ensures.out_after) in record { after = h.0; out_after = h.1 }

pub condition-returns-in-Not : goal.condition-returns-in-Not
condition-returns-in-Not t c = let masks = masks_by c.args.applying.now in let conditions = conditions_by c.args.applying.now in let q = c.args.part.now.q.now in let z = c.args.part.now.z.now in let level = c.args.level in let next = c.args.to.next in let h = body-did _ _ _ _ _ (not-shape masks conditions level q z c.if-level-eq0.false (sym c.condition_record.ensures ∙ c.in-Not.is)) c.args.to.at next c.args.out.now _ _ (c.put-at.ensures.value, c.put-at.ensures.out_after) _ _ _ (child-did (λ x y i. condition_bytes masks conditions (level - 1) x y i) (λ x y. condition_new masks conditions (level - 1) x y) q z _ next _ refl _ _ c.first_child-child.ensures.bytes c.first_child-child.ensures.sizes _ _ _ _ (c.condition.ensures.after, c.condition.ensures.out_after)) in record { after = h.0; out_after = h.1 }

pub condition-returns-in-And : goal.condition-returns-in-And
condition-returns-in-And t c = let h = body-did _ _ _ _ _ (and-shape (masks_by c.args.applying.now) (conditions_by c.args.applying.now) c.args.level c.args.part.now.q.now c.args.part.now.z.now c.if-level-eq0.false (sym c.condition_record.ensures ∙ c.in-And.is)) c.args.to.at c.args.to.next c.args.out.now _ _ (c.put-at-in-And.ensures.value, c.put-at-in-And.ensures.out_after) _ _ _ (c.conditions.ensures.after, c.conditions.ensures.out_after) in record { after = h.0; out_after = h.1 }

pub condition-returns-in-Or : goal.condition-returns-in-Or
condition-returns-in-Or t c = let h = body-did _ _ _ _ _ (or_shape (masks_by c.args.applying.now) (conditions_by c.args.applying.now) c.args.level c.args.part.now.q.now c.args.part.now.z.now c.if-level-eq0.false (sym c.condition_record.ensures ∙ c.in-Or.is)) c.args.to.at c.args.to.next c.args.out.now _ _ (c.put-at-in-Or.ensures.value, c.put-at-in-Or.ensures.out_after) _ _ _ (c.conditions-in-Or.ensures.after, c.conditions-in-Or.ensures.out_after) in record { after = h.0; out_after = h.1 }

pub condition-returns-in-Compare : goal.condition-returns-in-Compare
condition-returns-in-Compare t c = let h = body-did _ _ _ _ _ (compare-shape (masks_by c.args.applying.now) (conditions_by c.args.applying.now) c.args.level c.args.part.now.q.now c.args.part.now.z.now c.if-level-eq0.false _ (sym c.condition_record.ensures ∙ c.in-Compare.is)) c.args.to.at c.args.to.next c.args.out.now _ _ (c.put_record-at.ensures.value, c.put_record-at.ensures.out_after) _ _ _ (c.terms.ensures.after, c.terms.ensures.out_after) in record { after = h.0; out_after = h.1 }

pub condition-returns-in-Some : goal.condition-returns-in-Some
condition-returns-in-Some t c = let h = body-did _ _ _ _ _ (some-shape (masks_by c.args.applying.now) (conditions_by c.args.applying.now) c.args.level c.args.part.now.q.now c.args.part.now.z.now c.if-level-eq0.false _ _ (sym c.condition_record.ensures ∙ c.in-Some.is)) c.args.to.at c.args.to.next c.args.out.now _ _ (c.put_record-at-in-Some.ensures.value, c.put_record-at-in-Some.ensures.out_after) _ _ _ (c.under.ensures.after, c.under.ensures.out_after) in record { after = h.0; out_after = h.1 }

pub condition-returns-in-False : goal.condition-returns-in-False
condition-returns-in-False t c = let h = leaf-did _ _ _ (rest-leaf (masks_by c.args.applying.now) (conditions_by c.args.applying.now) c.args.level c.args.part.now.q.now c.args.part.now.z.now c.if-level-eq0.false c.condition_record.result c.condition_record.ensures c.in-False.in-False-own.keys7) c.args.to.at c.args.to.next c.args.out.now _ _ _ (c.leaf-in-False.ensures.at_value, c.leaf-in-False.ensures.out_after) in record { after = h.0; out_after = h.1 }

pub conditions-condition-w-requires : goal.conditions-condition-w-requires
conditions-condition-w-requires t c = let masks = masks_by c.args.applying.now in let conditions = conditions_by c.args.applying.now in let level = c.args.level in
    (omega (arith, c.decreases), both_first (λ x y i. condition_bytes masks conditions level x y i) (λ x y. condition_new masks conditions level x y) c.args.part.now.q.now c.args.part.now.z.now c.args.to.at c.args.to.next _ refl _ _ c.first_child-x.ensures.bytes c.first_child-x.ensures.sizes c.requires)

pub conditions-condition-requires : goal.conditions-condition-requires
conditions-condition-requires t c = let masks = masks_by c.args.applying.now in let conditions = conditions_by c.args.applying.now in let level = c.args.level in
    (omega (arith, c.decreases), both-second (λ x y i. condition_bytes masks conditions level x y i) (λ x y. condition_new masks conditions level x y) c.args.part.now.q.now c.args.part.now.z.now c.args.to.at c.args.to.next _ refl _ _ c.first_child-x.ensures.bytes c.first_child-x.ensures.sizes c.args.out.now _ _ _ (c.condition-w.ensures.after, c.condition-w.ensures.out_after) _ refl _ _ c.second_child-y.ensures.bytes c.second_child-y.ensures.sizes c.requires)

pub conditions-returns : goal.conditions-returns
conditions-returns t c = let masks = masks_by c.args.applying.now in let conditions = conditions_by c.args.applying.now in let level = c.args.level in let h = both-did (λ x y i. condition_bytes masks conditions level x y i) (λ x y. condition_new masks conditions level x y) c.args.part.now.q.now c.args.part.now.z.now c.args.to.at c.args.to.next _ refl _ _ c.first_child-x.ensures.bytes c.first_child-x.ensures.sizes c.args.out.now _ _ _ (c.condition-w.ensures.after, c.condition-w.ensures.out_after) _ refl _ _ c.second_child-y.ensures.bytes c.second_child-y.ensures.sizes _ _ _ (c.condition.ensures.after, c.condition.ensures.out_after) in record { after = h.0; out_after = h.1 }

pub term-leaf-requires : goal.term-leaf-requires
term-leaf-requires t c = leaf_room _ _ _ (zero-leaf_t (masks_by c.args.applying.now) (conditions_by c.args.applying.now) c.args.level c.args.part.now.q.now c.args.part.now.z.now c.if-level-eq0.true) c.args.to.at c.args.to.next c.requires

pub term-returns-then-level-eq0 : goal.term-returns-then-level-eq0
term-returns-then-level-eq0 t c = let h = leaf-did _ _ _ (zero-leaf_t (masks_by c.args.applying.now) (conditions_by c.args.applying.now) c.args.level c.args.part.now.q.now c.args.part.now.z.now c.if-level-eq0.true) c.args.to.at c.args.to.next c.args.out.now _ _ _ (c.leaf.ensures.at_value, c.leaf.ensures.out_after) in record { after = h.0; out_after = h.1 }

pub term-leaf-requires-in-Constant : goal.term-leaf-requires-in-Constant
term-leaf-requires-in-Constant t c = leaf_room _ _ _ (constant-leaf (masks_by c.args.applying.now) (conditions_by c.args.applying.now) c.args.level c.args.part.now.q.now c.args.part.now.z.now c.if-level-eq0.false _ _ _ _ (sym c.term_record.ensures ∙ c.in-Constant.is)) c.args.to.at c.args.to.next c.requires

pub term-leaf-requires-in-Attribute : goal.term-leaf-requires-in-Attribute
term-leaf-requires-in-Attribute t c = leaf_room _ _ _ (attribute-leaf (masks_by c.args.applying.now) (conditions_by c.args.applying.now) c.args.level c.args.part.now.q.now c.args.part.now.z.now c.if-level-eq0.false _ _ (sym c.term_record.ensures ∙ c.in-Attribute.is)) c.args.to.at c.args.to.next c.requires

pub term-put_record-at-requires : goal.term-put_record-at-requires
term-put_record-at-requires t c = head-room _ _ _ _ _ (aggregate-shape (masks_by c.args.applying.now) (conditions_by c.args.applying.now) c.args.level c.args.part.now.q.now c.args.part.now.z.now c.if-level-eq0.false _ _ _ _ (sym c.term_record.ensures ∙ c.in-Aggregate.is)) c.args.to.at c.args.to.next c.requires

pub term-under-requires : goal.term-under-requires
term-under-requires t c = (omega (arith, c.decreases, c.if-level-eq0.false), body-room _ _ _ _ _ (aggregate-shape (masks_by c.args.applying.now) (conditions_by c.args.applying.now) c.args.level c.args.part.now.q.now c.args.part.now.z.now c.if-level-eq0.false _ _ _ _ (sym c.term_record.ensures ∙ c.in-Aggregate.is)) c.args.to.at c.args.to.next c.args.out.now _ _ (c.put_record-at.ensures.value, c.put_record-at.ensures.out_after) c.requires)

pub term-leaf-requires-in-Other : goal.term-leaf-requires-in-Other
term-leaf-requires-in-Other t c = leaf_room _ _ _ (rest-leaf_t (masks_by c.args.applying.now) (conditions_by c.args.applying.now) c.args.level c.args.part.now.q.now c.args.part.now.z.now c.if-level-eq0.false c.term_record.result c.term_record.ensures c.in-Other.is) c.args.to.at c.args.to.next c.requires

pub term-returns-in-Constant : goal.term-returns-in-Constant
term-returns-in-Constant t c = let h = leaf-did _ _ _ (constant-leaf (masks_by c.args.applying.now) (conditions_by c.args.applying.now) c.args.level c.args.part.now.q.now c.args.part.now.z.now c.if-level-eq0.false _ _ _ _ (sym c.term_record.ensures ∙ c.in-Constant.is)) c.args.to.at c.args.to.next c.args.out.now _ _ _ (c.leaf-in-Constant.ensures.at_value, c.leaf-in-Constant.ensures.out_after) in record { after = h.0; out_after = h.1 }

pub term-returns-in-Attribute : goal.term-returns-in-Attribute
term-returns-in-Attribute t c = let h = leaf-did _ _ _ (attribute-leaf (masks_by c.args.applying.now) (conditions_by c.args.applying.now) c.args.level c.args.part.now.q.now c.args.part.now.z.now c.if-level-eq0.false _ _ (sym c.term_record.ensures ∙ c.in-Attribute.is)) c.args.to.at c.args.to.next c.args.out.now _ _ _ (c.leaf-in-Attribute.ensures.at_value, c.leaf-in-Attribute.ensures.out_after) in record { after = h.0; out_after = h.1 }

pub term-returns-in-Aggregate : goal.term-returns-in-Aggregate
term-returns-in-Aggregate t c = let h = body-did _ _ _ _ _ (aggregate-shape (masks_by c.args.applying.now) (conditions_by c.args.applying.now) c.args.level c.args.part.now.q.now c.args.part.now.z.now c.if-level-eq0.false _ _ _ _ (sym c.term_record.ensures ∙ c.in-Aggregate.is)) c.args.to.at c.args.to.next c.args.out.now _ _ (c.put_record-at.ensures.value, c.put_record-at.ensures.out_after) _ _ _ (c.under.ensures.after, c.under.ensures.out_after) in record { after = h.0; out_after = h.1 }

pub term-returns-in-Other : goal.term-returns-in-Other
term-returns-in-Other t c = let h = leaf-did _ _ _ (rest-leaf_t (masks_by c.args.applying.now) (conditions_by c.args.applying.now) c.args.level c.args.part.now.q.now c.args.part.now.z.now c.if-level-eq0.false c.term_record.result c.term_record.ensures c.in-Other.is) c.args.to.at c.args.to.next c.args.out.now _ _ _ (c.leaf-in-Other.ensures.at_value, c.leaf-in-Other.ensures.out_after) in record { after = h.0; out_after = h.1 }

pub terms-term-w-requires : goal.terms-term-w-requires
terms-term-w-requires t c = let masks = masks_by c.args.applying.now in let conditions = conditions_by c.args.applying.now in let level = c.args.level in
    (omega (arith, c.decreases), both_first (λ x y i. term_bytes masks conditions level x y i) (λ x y. term_new masks conditions level x y) c.args.part.now.q.now c.args.part.now.z.now c.args.to.at c.args.to.next _ refl _ _ c.first_child-x.ensures.bytes c.first_child-x.ensures.sizes c.requires)

pub terms-term-requires : goal.terms-term-requires
terms-term-requires t c = let masks = masks_by c.args.applying.now in let conditions = conditions_by c.args.applying.now in let level = c.args.level in
    (omega (arith, c.decreases), both-second (λ x y i. term_bytes masks conditions level x y i) (λ x y. term_new masks conditions level x y) c.args.part.now.q.now c.args.part.now.z.now c.args.to.at c.args.to.next _ refl _ _ c.first_child-x.ensures.bytes c.first_child-x.ensures.sizes c.args.out.now _ _ _ (c.term-w.ensures.after, c.term-w.ensures.out_after) _ refl _ _ c.second_child-y.ensures.bytes c.second_child-y.ensures.sizes c.requires)

pub terms-returns : goal.terms-returns
terms-returns t c = let masks = masks_by c.args.applying.now in let conditions = conditions_by c.args.applying.now in let level = c.args.level in let h = both-did (λ x y i. term_bytes masks conditions level x y i) (λ x y. term_new masks conditions level x y) c.args.part.now.q.now c.args.part.now.z.now c.args.to.at c.args.to.next _ refl _ _ c.first_child-x.ensures.bytes c.first_child-x.ensures.sizes c.args.out.now _ _ _ (c.term-w.ensures.after, c.term-w.ensures.out_after) _ refl _ _ c.second_child-y.ensures.bytes c.second_child-y.ensures.sizes _ _ _ (c.term.ensures.after, c.term.ensures.out_after) in record { after = h.0; out_after = h.1 }

pub under-open_guard-at-requires : goal.under-open_guard-at-requires
under-open_guard-at-requires t c = under-open (masks_by c.args.applying.now) (conditions_by c.args.applying.now) c.args.level c.args.part.now.q.now c.args.part.now.z.now c.args.to.at c.args.to.next c.args.variable _ c.mask-m.ensures.value c.requires

pub under-condition-w-requires : goal.under-condition-w-requires
under-condition-w-requires t c = (omega (arith, c.decreases), under-room (masks_by c.args.applying.now) (conditions_by c.args.applying.now) c.args.level c.args.part.now.q.now c.args.part.now.z.now c.args.to.at c.args.to.next c.args.variable _ c.mask-m.ensures.value c.args.out.now _ _ (c.open_guard-at.ensures.value, c.open_guard-at.ensures.out_after) _ refl _ _ c.first_child-child.ensures.bytes c.first_child-child.ensures.sizes c.requires)

pub under-write_guard-requires : goal.under-write_guard-requires
under-write_guard-requires t c = let g = under_guard (masks_by c.args.applying.now) (conditions_by c.args.applying.now) c.args.level c.args.part.now.q.now c.args.part.now.z.now c.args.to.at c.args.to.next c.args.variable _ c.mask-m.ensures.value c.args.out.now _ _ (c.open_guard-at.ensures.value, c.open_guard-at.ensures.out_after) _ refl _ _ c.first_child-child.ensures.bytes c.first_child-child.ensures.sizes _ _ _ (c.condition-w.ensures.after, c.condition-w.ensures.out_after) c.requires in (g.0, g.1, c.mask-m.ensures.upper_bound)

pub under-returns : goal.under-returns
under-returns t c = let h = under-did (masks_by c.args.applying.now) (conditions_by c.args.applying.now) c.args.level c.args.part.now.q.now c.args.part.now.z.now c.args.to.at c.args.to.next c.args.variable _ c.mask-m.ensures.value c.args.out.now _ _ (c.open_guard-at.ensures.value, c.open_guard-at.ensures.out_after) _ refl _ _ c.first_child-child.ensures.bytes c.first_child-child.ensures.sizes _ _ _ (c.condition-w.ensures.after, c.condition-w.ensures.out_after) _ _ _ (c.write_guard.ensures.at_value, c.write_guard.ensures.out_after) in record { after = h.0; out_after = h.1 }
