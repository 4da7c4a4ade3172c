use Rattle.volume_history.proofs.Consistent.{parts_make_consistent}
use Rattle.volume_history.proofs.laws.parts_make_consistent.Goals as goal

pub returns : goal.returns
returns c = λ d scans primaries named next. parts_make_consistent d scans primaries named next
