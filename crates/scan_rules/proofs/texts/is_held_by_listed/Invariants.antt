use Rattle.std.proofs.Common.{◌≡◌, drop}
use Rattle.scan_rules.specs.Decision.{is_held}
use Rattle.scan_rules.specs.Readings.{readings_of}
use Rattle.scan_rules.proofs.texts.is_held_by_listed.Given as goal

abbrev pub invariant-loop-disk : goal.invariant-loop-disk
invariant-loop-disk l =
    is_held l.members l.copy.text (readings_of l.copies (drop l.disk-index l.disks))
    ≡ is_held l.members l.copy.text (readings_of l.copies l.disks)
