use Rattle.std.proofs.Common.{ℕ, List, ap, ◌∙◌}
use Rattle.std.specs.Cmp.Lexicographic.{slice_cmp}
use Rattle.std.specs.Ordering.{is_le, nat_cmp}
use Rattle.vg_plans.proofs.SoundBackup.{at_most}
use Rattle.vg_plans.proofs.same_group.is_at_most.Goals as goal

pub returns : goal.returns
returns c =
    at_most c.plain.result c.plain-2.result c.le.result c.le.ensures
    ∙ ap (λ (l : List ℕ). is_le (slice_cmp nat_cmp l c.plain-2.result)) c.plain.ensures.value
    ∙ ap (λ (l : List ℕ). is_le (slice_cmp nat_cmp c.args.one.now l)) c.plain-2.ensures.value
