use native.Mathlib.Omega.{arith}
use mathlib.Core.Bool.{true}
use mathlib.Core.Path.{refl, ap, ◌∙◌}
use lib.ListN.{length, drop}
use Rattle.conditions.specs.Reach.{shape_in, scope_of}
use Rattle.conditions.specs.Answers.{bytes_of}
use Rattle.conditions.proofs.Steps.{term-ends}
use Rattle.conditions.proofs.Past.{term-past}
use Rattle.queries.proofs.Targeting.{leads-end, leads-full, leads-unread, leads-refused, leads-more, targets-end, targets-more}
use Rattle.queries.proofs.+targets.Goals as goal

pub returns-then-byte-lt33 : goal.returns-then-byte-lt33
returns-then-byte-lt33 t c = let q = c.args.q.now in let left = c.args.left in let level = c.args.next.level in record { targets_found = targets-end (shape_in c.args.catalogue.now) c.args.limit level (scope_of c.args.reach.now) q c.args.next.at left c.args.z.now c.byte.result c.byte.ensures c.requires c.if-byte-lt33.true; leads = leads-end level q c.args.next.at left c.byte.result c.byte.ensures c.if-byte-lt33.true; z_unchanged = refl }

pub returns-then-left-eq0 : goal.returns-then-left-eq0
returns-then-left-eq0 t c = record { targets_found = tt; leads = leads-full c.args.next.level c.args.q.now c.args.next.at c.args.left c.byte.result c.byte.ensures c.if-byte-lt33.false c.if-left-eq0.true; z_unchanged = refl }

pub returns-in_err-first : goal.returns-in_err-first
returns-in_err-first t c = let q = c.args.q.now in let level = c.args.next.level in record { targets_found = rw c.from_residual.ensures tt; leads = rw c.from_residual.ensures (leads-unread level q c.args.next.at c.args.left c.byte.result c.byte.ensures c.if-byte-lt33.false (shape_in c.args.catalogue.now) c.args.limit (scope_of c.args.reach.now) c.term.result c.term.ensures.value c.in_err-first.was); z_unchanged = ap (drop (length q)) c.term.ensures.z_after ∙ term-past level q c.args.next.at c.args.z.now }

pub overflow_add-behind : goal.overflow_add-behind
overflow_add-behind t c = let good = c.well_formed in omega (arith, ap bytes_of c.in_ok-first.was, term-ends c.args.q.now c.args.next.at c.requires _ _ _ _ c.term.result c.term.ensures.value, good)

pub targets-requires : goal.targets-requires
targets-requires t c = (omega (arith, c.decreases, c.if-left-eq0.false), omega (arith, ap bytes_of c.in_ok-first.was, term-ends c.args.q.now c.args.next.at c.requires _ _ _ _ c.term.result c.term.ensures.value))

pub returns-in_err-others : goal.returns-in_err-others
returns-in_err-others t c = let q = c.args.q.now in let level = c.args.next.level in record { targets_found = rw c.from_residual-in_err-others.ensures tt; leads = rw c.from_residual-in_err-others.ensures (leads-refused level q c.args.next.at c.args.left c.byte.result c.byte.ensures c.if-byte-lt33.false (shape_in c.args.catalogue.now) c.args.limit (scope_of c.args.reach.now) c.term.result c.term.ensures.value _ _ c.in_ok-first.was c.targets.result c.in_err-others.was c.targets.ensures.leads); z_unchanged = c.targets.ensures.z_unchanged ∙ ap (drop (length q)) c.term.ensures.z_after ∙ term-past level q c.args.next.at c.args.z.now }

pub returns : goal.returns
returns t c = let catalogue = c.args.catalogue.now in let q = c.args.q.now in let reach = c.args.reach.now in let z = c.args.z.now in let left = c.args.left in let level = c.args.next.level in let limit = c.args.limit in record { targets_found = targets-more (shape_in catalogue) limit level (scope_of reach) q c.args.next.at left z c.byte.result c.byte.ensures c.if-byte-lt33.false c.if-left-eq0.false _ _ _ _ _ c.term.ensures.value c.in_ok-first.was c.term.ensures.z_after _ _ _ _ c.in_ok-others.was c.targets.ensures.targets_found; leads = leads-more level q c.args.next.at left c.byte.result c.byte.ensures c.if-byte-lt33.false (shape_in catalogue) limit (scope_of reach) c.term.result c.term.ensures.value _ _ c.in_ok-first.was c.targets.result _ _ _ c.in_ok-others.was c.targets.ensures.leads 0 true; z_unchanged = c.targets.ensures.z_unchanged ∙ ap (drop (length q)) c.term.ensures.z_after ∙ term-past level q c.args.next.at z }
