use mathlib.Core.Path.{ap}
use Rattle.catalogue.specs.declared.Relation.{Relation}
use Rattle.guards.proofs.Steps.{mask-free, mask-barred, mask_is}
use Rattle.guards.proofs.mask_for.Goals as goal

pub returns-then-not-known : goal.returns-then-not-known
returns-then-not-known c = mask-free c.args.query.now c.args.permits.now c.args.catalogue.now c.args.variable c.args.relation c.entry-known.result.stored (ap (λ (x : Relation). x.stored) c.entry-known.ensures.value) c.if-not-known.true

pub returns-then-found : goal.returns-then-found
returns-then-found c = mask-barred c.args.query.now c.args.permits.now c.args.catalogue.now c.args.variable c.args.relation c.entry-known.result.stored (ap (λ (x : Relation). x.stored) c.entry-known.ensures.value) c.used_mask.result c.standing-found.result c.if-not-known.false c.used_mask.ensures c.standing-found.ensures.value c.if-found.true

pub returns : goal.returns
returns c = mask_is c.args.query.now c.args.permits.now c.args.catalogue.now c.args.variable c.args.relation c.entry-known.result.stored (ap (λ (x : Relation). x.stored) c.entry-known.ensures.value) c.used_mask.result c.standing-found.result c.if-not-known.false c.used_mask.ensures c.standing-found.ensures.value c.if-found.false
