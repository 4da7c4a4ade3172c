use Rattle.std.proofs.Common.{ℕ, is_ok, ap, ◌∙◌}
use Rattle.lvm_run.specs.Sessions.{status_if}
use Rattle.lvm_run.proofs.session.end_before.Goals as goal

pub returns-clause-ends : goal.returns-clause-ends
returns-clause-ends g c = (
  is_ok c.print-printed.result,
  c.status_if.ensures ∙ ap (λ (n : ℕ). status_if (is_ok c.print-printed.result) n) c.status-status.ensures,
  c.print-printed.ensures,
)
