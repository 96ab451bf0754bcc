use Prim.Native.Nat.{ℕ}
use Rattle.model.specs.Permits.{bit}
use Rattle.guards.proofs.applying.Finds as finds
use Rattle.guards.proofs.applying.applies.Goals as goal

pub returns-then-no_access : goal.returns-then-no_access
returns-then-no_access c = finds.applies-never (λ (a : ℕ). bit c.args.used a) c.args.relation c.args.permits.now c.no_access.result c.no_access.ensures c.if-no_access.true

pub returns-in_default : goal.returns-in_default
returns-in_default c = finds.applies-other (λ (a : ℕ). bit c.args.used a) c.args.relation c.args.permits.now c.no_access.result c.no_access.ensures c.permit_record.result c.permit_record.ensures c.in_default.is

pub returns-then-own-relation : goal.returns-then-own-relation
returns-then-own-relation c = finds.applies-not (λ (a : ℕ). bit c.args.used a) c.args.relation c.args.permits.now c.no_access.result c.no_access.ensures c.permit_record.result c.permit_record.ensures _ _ c.in-Permit.is c.if-no_access.false c.if-own-relation.true

pub returns : goal.returns
returns c = finds.applies-is (λ (a : ℕ). bit c.args.used a) c.args.relation c.args.permits.now c.no_access.result c.no_access.ensures c.permit_record.result c.permit_record.ensures _ _ c.in-Permit.is c.all_used.result c.if-own-relation.false c.if-no_access.false c.all_used.ensures
