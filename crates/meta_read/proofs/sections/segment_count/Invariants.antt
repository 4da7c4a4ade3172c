-- So many among those so far.
use Rattle.std.proofs.Common.{◌≡◌, ◌+◌, ◌≤◌, length, drop, filter_map}
use Rattle.meta_read.specs.Reading.{as_sections, segment_body}
use Rattle.meta_read.proofs.sections.segment_count.Given as goal

abbrev pub invariant-loop-name : goal.invariant-loop-name
invariant-loop-name l = record {
  counted : length (filter_map segment_body (as_sections l.sections))
      ≡ l.count + length (filter_map segment_body (as_sections (drop l.name-index l.sections)));
  within : l.count ≤ l.name-index;
}
