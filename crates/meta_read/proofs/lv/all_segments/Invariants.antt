-- The segments so far, and then those of the sections that are left.
use Rattle.std.proofs.Common.{◌≡◌, drop, filter_map}
use Rattle.conf_text.specs.Items.{items}
use Rattle.meta_model.specs.Keys.{each}
use Rattle.meta_model.specs.Standing.{segment_of}
use Rattle.meta_read.specs.Reading.{as_sections, segment_body}
use Rattle.meta_read.proofs.Each.{each_then}
use Rattle.meta_read.proofs.lv.all_segments.Given as goal

abbrev pub invariant-loop-name : goal.invariant-loop-name
invariant-loop-name l =
    each (λ body. segment_of l.places (items body)) (filter_map segment_body (as_sections l.sections))
    ≡ each_then (λ body. segment_of l.places (items body)) l.segments.items
    (filter_map segment_body (as_sections (drop l.name-index l.sections)))
