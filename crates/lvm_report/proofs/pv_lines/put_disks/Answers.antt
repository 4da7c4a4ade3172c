-- One disk more.
use Rattle.std.proofs.Common.{ℕ, List, ◌++◌, refl, ap, ◌∙◌, arith, length}
use Rattle.std.specs.List.{enumerate_from, flat_map}
use Rattle.std.proofs.lemmas.Option.{slice_get_read}
use Rattle.vg_found.specs.declared.disk.Disk.{Disk}
use Rattle.lvm_report.specs.Reports.{disk_line, name_in, pvs_text}
use Rattle.lvm_report.proofs.Rows.{line_more, numbered_at, rows_walked}
use Rattle.lvm_report.proofs.pv_lines.put_disks.Goals as goal

pub overflow_cast-number : goal.overflow_cast-number
overflow_cast-number c = omega (arith, c.requires.few)

pub loop-number-preserved : goal.loop-number-preserved
loop-number-preserved c =
    let number = c.loop-number.number in
    let before : List ℕ = c.loop-number.text.items in
    let disks : List Disk = c.args.found.now.disks in
    line_more (λ (disk : ℕ × Disk). disk_line c.args.found.now.group (name_in c.args.names.now disk.0) disk.1.contents)
    (enumerate_from 0 disks) number (number, c.get-disk.result.now) before c.put_disk.new.text.items
    (c.args.text.now.items ++ pvs_text c.args.found.now c.args.names.now)
    (numbered_at disks number c.get-disk.result.now
    (slice_get_read disks (length disks) number c.get-disk.result.now refl (omega arith) c.get-disk.ensures))
    (c.in_ok-put_disk.ensures ∙ ap (λ (name : List ℕ). before ++ disk_line c.args.found.now.group name c.get-disk.result.now.contents)
    c.bytes_of-name.ensures) c.loop-number.invariant

pub returns : goal.returns
returns c =
    rows_walked (flat_map (λ (disk : ℕ × Disk). disk_line c.args.found.now.group (name_in c.args.names.now disk.0) disk.1.contents))
    c.args.found.now.disks c.loop-number.number c.loop-number.text.items
    (c.args.text.now.items ++ pvs_text c.args.found.now c.args.names.now) refl (omega arith) c.loop-number.invariant
