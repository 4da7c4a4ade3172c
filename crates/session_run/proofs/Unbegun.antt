-- How many lines weren't begun.
use Rattle.std.proofs.Common.{◌≡◌, ◌≤◌, ◌+◌, List, ◌∷◌, ◌++◌, length, length-append, Option, None, Some, ap, arith}
use Rattle.lvm_script.specs.declared.line.Line.{Line}
use Rattle.io_session.specs.Desks.{unbegun}
use Rattle.session_run.specs.Running.{refused_answers}

-- they are at most as many as all lines
pub unbegun_fit : (begun : List Line) (refused : Option Line) (rest script : List Line) → begun ++ unbegun refused rest ≡ script
    → length (refused_answers refused) + length rest ≤ length script
unbegun_fit begun None rest script is = omega (arith, ap (λ (l : List Line). length l) is, length-append begun rest)
unbegun_fit begun (Some line) rest script is =
    omega (arith, ap (λ (l : List Line). length l) is, length-append begun (line ∷ rest))
