use Rattle.volume_history.specs.Chronicles.{pending}
use Rattle.pending_versions.proofs.Showing.{pending_next, tracked_consistent}
use Rattle.pending_versions.proofs.laws.pending_commands_show.Goals as goal

pub returns-clause-next : goal.returns-clause-next
returns-clause-next c = λ o es machine primaries part. pending_next o es machine primaries (pending es) part

pub returns-clause-now : goal.returns-clause-now
returns-clause-now c = λ g scans live machine tracked part.
    tracked_consistent c.parts_make_consistent.ensures c.places_hold.ensures.volumes g scans live machine tracked part
