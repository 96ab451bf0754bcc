use Prim.Native.Nat.{ℕ}
use Rattle.model.specs.Permits.{bit}
use Rattle.guards.proofs.applying.Finds as finds
use Rattle.guards.proofs.applying.bars.Goals as goal

pub returns-then-not-no_access : goal.returns-then-not-no_access
returns-then-not-no_access c = finds.bars-never (λ (a : ℕ). bit c.args.used a) c.args.relation c.args.permits.now c.no_access.result c.no_access.ensures c.if-not-no_access.true-raw

pub returns-in_default : goal.returns-in_default
returns-in_default c = finds.bars-other (λ (a : ℕ). bit c.args.used a) c.args.relation c.args.permits.now c.no_access.result c.no_access.ensures c.permit_record.result c.permit_record.ensures c.in_default.is

pub returns-then-own-relation : goal.returns-then-own-relation
returns-then-own-relation c = finds.bars-not (λ (a : ℕ). bit c.args.used a) c.args.relation c.args.permits.now c.no_access.result c.no_access.ensures c.permit_record.result c.permit_record.ensures _ _ c.in-Permit.is c.if-not-no_access.false-raw c.if-own-relation.true

pub returns : goal.returns
returns c = finds.bars-is (λ (a : ℕ). bit c.args.used a) c.args.relation c.args.permits.now c.no_access.result c.no_access.ensures c.permit_record.result c.permit_record.ensures _ _ c.in-Permit.is c.all_used.result c.if-own-relation.false c.if-not-no_access.false-raw c.all_used.ensures
