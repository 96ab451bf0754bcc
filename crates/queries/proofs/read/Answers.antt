use native.Mathlib.Omega.{arith}
use mathlib.Core.Path.{refl, ap}
use Rattle.queries.proofs.Telling.{over-bytes, over-bound, over-rest, read_all}
use Rattle.scans.specs.declared.Bindings.{Bindings}
use Rattle.queries.proofs.read.Goals as goal

pub returns-then-bytes-q : goal.returns-then-bytes-q
returns-then-bytes-q c = record { told = over-bytes c.args.limits c.args.q.now c.if-bytes-q.true; z_unchanged = refl }

pub returns-then-from-bound : goal.returns-then-from-bound
returns-then-from-bound c = record { told = over-bound c.args.limits c.args.q.now c.tally-bound.result.count (ap (λ (x : Bindings). x.count) c.tally-bound.ensures) (omega (arith, c.from.ensures, c.if-from-bound.true)); z_unchanged = refl }

pub returns-in_err-found : goal.returns-in_err-found
returns-in_err-found c = record { told = rw c.from_residual.ensures (over-rest c.args.limits c.args.q.now _ _ _ _ _ c.bind_ranges-heads.result.count c.bind_ranges-heads.ensures.count_value.0 c.rest.result c.in_err-found.was c.rest.ensures.rest); z_unchanged = c.rest.ensures.z_unchanged }

pub returns : goal.returns
returns c = record { told = read_all c.args.limits c.args.catalogue.now c.args.q.now c.requires.0 c.if-bytes-q.false c.bind_ranges-heads.result.count c.bind_ranges-heads.ensures.count_value.0 c.bind_ranges-heads.ensures.count_le_left c.tally-bound.result.count (ap (λ (x : Bindings). x.count) c.tally-bound.ensures) (omega (arith, c.from.ensures, c.if-from-bound.false)) c.bind_ranges-heads.new.reach c.bind_ranges-heads.ensures.reach_after c.args.z.now (record { room = c.requires.1 c.if-bytes-q.false; short = omega (arith, c.requires.2, c.if-bytes-q.false) }) _ _ _ c.rest.result c.in_ok-found.was c.rest.ensures.rest c.bind_ranges-heads.result.known c.bind_ranges-heads.ensures.count_value.1 c.tally-bound.result.once (ap (λ (x : Bindings). x.once) c.tally-bound.ensures); z_unchanged = c.rest.ensures.z_unchanged }
