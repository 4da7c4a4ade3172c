use Rattle.std.proofs.Common.{◌≡◌, drop}
use Rattle.std.specs.List.{list_any}
use Rattle.group_edits.specs.ShortenedVolume.{has_layer, is_layered}
use Rattle.group_edits.proofs.shorten_volume.is_layered.Given as goal

abbrev pub invariant-loop-segment : goal.invariant-loop-segment
invariant-loop-segment l = is_layered l.lv ≡ list_any has_layer (drop l.segment-index l.segment-items)
