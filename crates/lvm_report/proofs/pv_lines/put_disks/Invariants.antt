-- The lines so far, and those that are left.
use Rattle.std.proofs.Common.{◌≡◌, ℕ, ◌++◌, drop}
use Rattle.std.specs.List.{enumerate_from, flat_map}
use Rattle.vg_found.specs.declared.disk.Disk.{Disk}
use Rattle.lvm_report.specs.Reports.{disk_line, name_in, pvs_text}
use Rattle.lvm_report.proofs.pv_lines.put_disks.Given as goal

abbrev pub invariant-loop-number : goal.invariant-loop-number
invariant-loop-number l =
    l.text.items ++ flat_map (λ (disk : ℕ × Disk). disk_line l.found.group (name_in l.names disk.0) disk.1.contents)
    (drop l.number (enumerate_from 0 l.found.disks))
    ≡ l.fn.text.items ++ pvs_text l.found l.names
