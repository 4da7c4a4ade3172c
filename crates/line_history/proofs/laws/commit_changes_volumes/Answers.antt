use Rattle.line_history.proofs.ChangedVolumes.{commit_changes_volumes}
use Rattle.line_history.proofs.laws.commit_changes_volumes.Goals as goal

pub returns : goal.returns
returns c =
    λ base sizes found names backup line now given group p is. commit_changes_volumes base sizes found names backup line now given p group
    is
