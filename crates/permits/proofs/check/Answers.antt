use Rattle.model.specs.Catalogue.{catalogue_of, shape_of}
use Rattle.permits.proofs.Grants.{number-long, number-unread, number-22, number-23, number-none}
use Rattle.permits.proofs.check.Goals as goal

pub returns-then-permits-gt-LIST_BYTES : goal.returns-then-permits-gt-LIST_BYTES
returns-then-permits-gt-LIST_BYTES c = number-long (shape_of (catalogue_of c.args.catalogue.now)) c.args.permits.now c.if-permits-gt-LIST_BYTES.true

pub returns-in_default : goal.returns-in_default
returns-in_default c = number-unread (shape_of (catalogue_of c.args.catalogue.now)) c.args.permits.now c.rest.result c.in_default.is c.rest.ensures _ c.unread.ensures

pub returns-then-not-list : goal.returns-then-not-list
returns-then-not-list c = number-22 (shape_of (catalogue_of c.args.catalogue.now)) c.args.permits.now c.if-permits-gt-LIST_BYTES.false c.rest.result _ _ c.in-Some.is c.rest.ensures c.if-not-list.true

pub returns-then-not-list-2 : goal.returns-then-not-list-2
returns-then-not-list-2 c = number-23 (shape_of (catalogue_of c.args.catalogue.now)) c.args.permits.now c.if-permits-gt-LIST_BYTES.false c.rest.result _ _ c.in-Some.is c.rest.ensures c.if-not-list.false c.if-not-list-2.true

pub returns : goal.returns
returns c = number-none (shape_of (catalogue_of c.args.catalogue.now)) c.args.permits.now c.if-permits-gt-LIST_BYTES.false c.rest.result _ _ c.in-Some.is c.rest.ensures c.if-not-list.false c.if-not-list-2.false
