use Rattle.std.proofs.Common.{ℕ, ap, ◌∙◌, drop}
use Rattle.std.proofs.lemmas.List.{take_rest, drop_min}
use Rattle.scans.proofs.Walk.{left-none, left-some, fewer}
use Rattle.scans.proofs.RecordsIterator.next.Goals as goal

pub returns-in_err-kind-clause-steps : goal.returns-in_err-kind-clause-steps
returns-in_err-kind-clause-steps c = let e = left-none c.args.self.now.rest.now c.in_err-kind.ensures.value in rw c.from_residual.ensures (e, e)

pub returns-clause-steps : goal.returns-clause-steps
returns-clause-steps c = let rest = c.args.self.now.rest.now in
    left-some rest _ _ _ c.in_ok-kind.ensures.value c.record_length.ensures.value (take_rest rest c.min.result ∙ ap (λ (n : ℕ). drop n rest) c.min.ensures ∙ drop_min c.record_length.result rest)

pub returns-clause-goes : goal.returns-clause-goes
returns-clause-goes c = let rest = c.args.self.now.rest.now in record {
  on = λ h. (tt, tt, fewer rest _ _ _ c.in_ok-kind.ensures.value c.record_length.ensures.value (take_rest rest c.min.result ∙ ap (λ (n : ℕ). drop n rest) c.min.ensures ∙ drop_min c.record_length.result rest));
  keeps = tt;
  rests = λ h. tt;
}
