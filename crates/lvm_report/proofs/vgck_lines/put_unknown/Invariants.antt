-- The lines so far, and those that are left.
use Rattle.std.proofs.Common.{◌≡◌, ◌++◌, drop}
use Rattle.std.specs.Prelude.{codes}
use Rattle.std.specs.List.{flat_map}
use Rattle.lvm_report.proofs.vgck_lines.put_unknown.Given as goal

abbrev pub invariant-loop-number : goal.invariant-loop-number
invariant-loop-number l =
    l.text.items ++ flat_map (λ path. codes "unknown key " ++ path ++ codes "\n") (drop l.number l.paths)
    ≡ l.fn.text.items ++ flat_map (λ path. codes "unknown key " ++ path ++ codes "\n") l.paths
