use Rattle.std.proofs.Common.{ℕ, sym, ap, ◌∙◌}
use Rattle.session_run.specs.Status.{status_of_lines}
use Rattle.lvm_run.specs.Sessions.{first_status}
use Rattle.lvm_run.proofs.Statuses.{status_of_two}
use Rattle.lvm_run.proofs.session.status_of_both.Goals as goal

pub returns : goal.returns
returns c =
    c.first_status.ensures
    ∙ ap (λ (n : ℕ). first_status n c.status_of_lines-2.result) c.status_of_lines.ensures
    ∙ ap (λ (n : ℕ). first_status (status_of_lines c.args.answers.now.items) n) c.status_of_lines-2.ensures
    ∙ sym (status_of_two c.args.answers.now.items c.args.more.now.items)
