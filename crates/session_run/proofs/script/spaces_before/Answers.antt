use Rattle.std.proofs.Common.{◌≤◌, ◌∙◌, ◌==◌, ℕ, Option, ap, length, not, subst, sym, unwrap_or}
use Rattle.session_run.proofs.Cuts.{position_most, position_or_all}
use Rattle.session_run.proofs.script.spaces_before.Goals as goal

pub returns-clause-place : goal.returns-clause-place
returns-clause-place c =
    let line = c.args.line.now in
    c.unwrap_or.ensures ∙ ap (λ (o : Option ℕ). unwrap_or o (length line)) c.first_other.ensures
    ∙ position_or_all (λ (byte : ℕ). not (byte == 32)) line

pub returns-clause-within : goal.returns-clause-within
returns-clause-within c =
    let line = c.args.line.now in
    let place = returns-clause-place c in
    subst (λ (n : ℕ). n ≤ length line) (sym place) (position_most (λ (byte : ℕ). not (byte == 32)) line)
