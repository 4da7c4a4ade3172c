use Rattle.std.proofs.Common.{◌∙◌, ◌==◌, List, ℕ, Some, None, ap, sym, if◌then◌else◌}
use Rattle.std.specs.List.{before_first}
use Rattle.session_run.specs.SessionScript.{is_unrun}
use Rattle.session_run.proofs.Cuts.{rest_after}
use Rattle.session_run.proofs.FirstWords.{first_asked}
use Rattle.session_run.proofs.script.unrun_in.Goals as goal

pub returns : goal.returns
returns c =
    let line = c.args.line.now in
    let place = c.spaces_before-place.result in
    c.unrun_at.ensures
    ∙ ap (λ (bytes : List ℕ). if is_unrun (before_first (λ byte. byte == 32) bytes) then Some place else None) (rest_after line place)
    ∙ sym (first_asked line place c.spaces_before-place.ensures.place)
