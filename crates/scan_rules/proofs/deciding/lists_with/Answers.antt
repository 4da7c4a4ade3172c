-- What was found with the copy.
use Rattle.std.proofs.Common.{◌≡◌, List, [], refl, ap, ◌∙◌}
use Rattle.std.specs.FinSet as set
use Rattle.meta_model.specs.declared.group.Group.{Group}
use Rattle.scan_rules.specs.declared.readings.DiskRead.{DiskRead}
use Rattle.scan_rules.specs.declared.readings.GroupCopy.{GroupCopy}
use Rattle.scan_rules.specs.Flat.{strays_on}
use Rattle.scan_rules.specs.Found.{missing_by, missing_of, stale_on}
use Rattle.scan_rules.specs.Readings.{readings_of}
use Rattle.scan_rules.proofs.Answering.{decided_for}
use Rattle.scan_rules.proofs.FoundIds.{missing_by_disks}
use Rattle.scan_rules.proofs.deciding.lists_with.Goals as goal

pub returns : goal.returns
returns c =
    let copies : List GroupCopy = c.args.copies.now in
    let disks : List DiskRead = c.args.disks.now in
    let copy : GroupCopy = c.args.copy.now in
    let group : c.in_ok-members.members ≡ copy.group = c.in_ok-members.ensures in
    let stale : c.from_vec.result ≡ stale_on copy.group copy.text 0 (readings_of copies disks) =
    c.from_vec.ensures ∙ c.in_ok-stale.ensures ∙ ap (λ (g : Group). stale_on g copy.text 0 (readings_of copies disks)) group in
    let strays : c.stray_disks-strays.result ≡ set.from_list (strays_on copy.group 0 disks) =
    c.stray_disks-strays.ensures ∙ ap (λ (g : Group). set.from_list (strays_on g 0 disks)) group in
    let missing : c.from_vec-2.result ≡ missing_of (readings_of [] disks) copy.group.pvs =
    c.from_vec-2.ensures
    ∙ c.in_ok-missing.ensures
    ∙ (λ i. missing_by (c.requires.found i) ((c.group.ensures.group ∙ group) i).pvs)
    ∙ missing_by_disks (readings_of [] disks) copy.group.pvs in
    decided_for copies disks c.args.held.now c.args.best copy _ c.requires.copy c.in_default.ensures c.requires.read refl stale strays
    missing
