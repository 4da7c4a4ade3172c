-- The lines of the ids so far.
use Rattle.std.proofs.Common.{◌≡◌, ◌++◌, flat_map, take}
use Rattle.std.specs.Prelude.{codes}
use Rattle.lvm_id.specs.LvmId.{hyphen_form}
use Rattle.lvm_report.proofs.vgck_lines.put_missing.Given as goal

abbrev pub invariant-loop-id : goal.invariant-loop-id
invariant-loop-id l =
    l.text.items ≡ l.fn.text.items ++ flat_map (λ id. codes "missing " ++ hyphen_form id ++ codes "\n") (take l.id-index l.ids)
