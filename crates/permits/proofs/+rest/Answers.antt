use mathlib.Core.Path.{refl}
use Rattle.model.specs.Catalogue.{catalogue_of, shape_of}
use Rattle.permits.proofs.Grants.{list-end, list_full, list-unread, list-refused, list-more}
use Rattle.permits.proofs.+rest.Goals as goal

pub returns-then-permits-at : goal.returns-then-permits-at
returns-then-permits-at t c = list-end _ c.args.permits.now c.args.at c.args.left c.if-permits-at.true

pub returns-then-left-eq0 : goal.returns-then-left-eq0
returns-then-left-eq0 t c = list_full (shape_of (catalogue_of c.args.catalogue.now)) c.args.permits.now c.args.at c.args.left c.if-permits-at.false c.if-left-eq0.true

pub returns-in_err-first : goal.returns-in_err-first
returns-in_err-first t c = rw c.from_residual.ensures (list-unread _ c.args.permits.now c.args.at c.args.left c.if-permits-at.false c.permit.result c.permit.ensures c.in_err-first.was)

pub returns-in_err-others : goal.returns-in_err-others
returns-in_err-others t c = rw c.from_residual-in_err-others.ensures (list-refused _ c.args.permits.now c.args.at c.args.left c.if-permits-at.false c.permit.result c.permit.ensures _ _ _ c.in_ok-first.was c.rest.result c.rest.ensures c.in_err-others.was)

pub returns : goal.returns
returns t c = list-more _ c.args.permits.now c.args.at c.args.left c.if-permits-at.false c.permit.result c.permit.ensures _ _ _ c.in_ok-first.was c.rest.result c.rest.ensures c.if-left-eq0.false _ _ c.in_ok-others.was _ _ refl refl
