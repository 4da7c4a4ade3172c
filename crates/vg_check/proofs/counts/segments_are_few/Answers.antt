use Rattle.std.proofs.Common.{◌↔◌, Bool, IsTrue, subst}
use Rattle.meta_model.specs.declared.group.Group.{Group}
use Rattle.volume_rules.specs.Rules.{SegmentsAreFew}
use Rattle.vg_check.specs.Counts.{HasFewSegments}
use Rattle.vg_check.proofs.counts.segments_are_few.Goals as goal

decided : (group : Group) (result : Bool) → IsTrue result ↔ HasFewSegments group.lvs → IsTrue result ↔ SegmentsAreFew group
decided group result few = (λ yes. record { few = (few.0 yes).0; some = (few.0 yes).1 }, λ all. few.1 (all.few, all.some))

pub returns : goal.returns
returns c =
    let result = c.lvs_have_few_segments.result in
    decided c.args.group.now result (subst (λ (group : Group). IsTrue result ↔ HasFewSegments group.lvs) c.group.view_is
    c.lvs_have_few_segments.ensures)
