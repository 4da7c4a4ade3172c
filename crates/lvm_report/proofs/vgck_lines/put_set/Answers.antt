-- One disk more.
use Rattle.std.proofs.Common.{[], ◌++◌, ap, ◌∙◌, arith, refl}
use Rattle.std.specs.FinSet as set
use Rattle.std.specs.Prelude.{Bool, List, ℕ, codes, if◌then◌else◌}
use Rattle.std.specs.List.{flat_map, range_with_len}
use Rattle.lvm_report.specs.Reports.{disk_lines, name_in}
use Rattle.lvm_report.proofs.Rows.{line_more, range_at, range_walked}
use Rattle.lvm_report.proofs.vgck_lines.put_set.Goals as goal

pub loop-number-preserved : goal.loop-number-preserved
loop-number-preserved c =
    let number = c.loop-number.number in
    let before : List ℕ = c.loop-number.text.items in
    let line : List ℕ = c.args.word.now ++ name_in c.args.names.now number ++ codes "\n" in
    line_more (λ pv. if set.contains c.args.pvs.now pv then c.args.word.now ++ name_in c.args.names.now pv ++ codes "\n" else [])
    (range_with_len 0 c.args.disks) number number
    before c.put_disk_if.new.text.items (c.args.text.now.items
    ++ disk_lines c.args.word.now c.args.names.now c.args.disks (set.contains c.args.pvs.now))
    (range_at c.args.disks number (omega arith))
    (c.in_ok-put_disk_if.ensures ∙ ap (λ (is : Bool). before ++ (if is then line else [])) c.contains.ensures) c.loop-number.invariant

pub returns : goal.returns
returns c =
    range_walked (flat_map (λ pv. if set.contains c.args.pvs.now pv then c.args.word.now ++ name_in c.args.names.now pv
    ++ codes "\n" else [])) c.args.disks c.loop-number.number c.loop-number.text.items
    (c.args.text.now.items ++ disk_lines c.args.word.now c.args.names.now c.args.disks (set.contains c.args.pvs.now)) refl (omega arith)
    c.loop-number.invariant
