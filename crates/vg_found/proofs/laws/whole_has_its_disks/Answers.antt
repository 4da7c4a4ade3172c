use Rattle.std.proofs.Common.{◌≡◌, ℕ, List, sym, ap, subst, ◌∙◌}
use Rattle.std.specs.Prelude.{Option, IfSome, slice_get}
use Rattle.meta_model.specs.declared.group.Group.{Group}
use Rattle.scan_rules.specs.Found.{missing_of}
use Rattle.vg_found.specs.Disks.{disks_of, shapes}
use Rattle.vg_found.proofs.HeaderDisks.{there}
use Rattle.vg_found.proofs.laws.whole_has_its_disks.Goals as goal

pub returns : goal.returns
returns c = λ found group shape whole some i pv is.
    let missing = subst (λ (o : Option Group). IfSome o (λ g. found.missing ≡ missing_of (shapes found.disks) g.pvs)) some shape.missing in
    let disk_of = subst (λ (o : Option Group). IfSome o (λ g. found.disk_of ≡ disks_of g found.disks)) some shape.disk_of in
    let found_there = there found.disks group (sym missing ∙ whole.there) i pv is in
    (found_there.0, found_there.1, ap (λ (l : List ℕ). slice_get l i) disk_of ∙ found_there.2, found_there.3, found_there.4, found_there.5)
