use Rattle.std.proofs.Common.{◌≡◌, drop}
use Rattle.std.specs.List.{list_any}
use Rattle.group_edits.specs.ShortenedVolume.{has_layer, is_on_lv}
use Rattle.group_edits.proofs.shorten_volume.has_layer.Given as goal

abbrev pub invariant-loop-leg : goal.invariant-loop-leg
invariant-loop-leg l = has_layer l.segment ≡ list_any is_on_lv (drop l.leg-index l.leg-items)
