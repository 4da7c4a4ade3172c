-- What is sought on the way down.
use Rattle.std.specs.Prelude.{Bool}
use Rattle.meta_model.specs.declared.group.Group.{Group}
use Rattle.volume_rules.specs.Moving.{has_pvmove}
use Rattle.volume_view.specs.InSegments.{Met, is_mirror}
use Rattle.seg_place.specs.declared.deciding.Sought.{Sought}
use Rattle.seg_place.specs.declared.deciding.Sought.TheVariants.{Move, Mirror}

-- whether a segment is one of the volume of a move, or a mirror
abbrev pub is_sought : Group → Sought → Met → Bool
is_sought group Move met = has_pvmove group met.lv
is_sought group Mirror met = is_mirror met.segment.kind
