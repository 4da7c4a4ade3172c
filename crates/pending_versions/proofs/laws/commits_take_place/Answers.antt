use Rattle.pending_versions.proofs.Taking.{taking_shows, taking_tracks}
use Rattle.pending_versions.proofs.laws.commits_take_place.Goals as goal

pub returns-clause-tracked : goal.returns-clause-tracked
returns-clause-tracked c = λ g m n version takes within tracked.
    taking_tracks g m n version takes c.places_begin.ensures.birth c.entries_keep.ensures.changed within tracked

pub returns-clause-shown : goal.returns-clause-shown
returns-clause-shown c = λ g m n version takes shown. taking_shows g m n version takes shown
