-- The rows so far, and then those of the sections that are left.
use Rattle.std.proofs.Common.{◌≡◌, [], drop}
use Rattle.meta_model.specs.Standing.{named, lv_of}
use Rattle.meta_read.specs.Reading.{as_sections}
use Rattle.meta_read.proofs.NamedRows.{named_then}
use Rattle.meta_read.proofs.rows.read_lvs.Given as goal

abbrev pub invariant-loop-name : goal.invariant-loop-name
invariant-loop-name l =
    named (lv_of l.places) [] (as_sections l.sections) ≡ named_then (lv_of l.places) l.table (as_sections (drop l.name-index l.sections))
