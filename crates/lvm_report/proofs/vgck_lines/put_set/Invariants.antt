-- The lines so far, and those that are left.
use Rattle.std.proofs.Common.{◌≡◌, [], ◌++◌, drop}
use Rattle.std.specs.Prelude.{codes, if◌then◌else◌}
use Rattle.std.specs.FinSet as set
use Rattle.std.specs.List.{flat_map, range_with_len}
use Rattle.lvm_report.specs.Reports.{disk_lines, name_in}
use Rattle.lvm_report.proofs.vgck_lines.put_set.Given as goal

abbrev pub invariant-loop-number : goal.invariant-loop-number
invariant-loop-number l =
    l.text.items ++ flat_map (λ pv. if set.contains l.pvs pv then l.word ++ name_in l.names pv ++ codes "\n" else [])
    (drop l.number (range_with_len 0 l.disks))
    ≡ l.fn.text.items ++ disk_lines l.word l.names l.disks (set.contains l.pvs)
