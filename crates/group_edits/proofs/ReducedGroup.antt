-- A group without a physical volume on which no leg lies keeps all rules, and a tree stands for it, where it has another one.
use Rattle.std.proofs.Common.{◌≡◌, ◌≢◌, ◌<◌, ℕ, false, List, length, map, sym, ap, subst, ◌∙◌, arith}
use Rattle.std.specs.List.{remove}
use Rattle.meta_model.specs.Standing.{HasTree}
use Rattle.meta_model.specs.declared.group.Group.{Group}
use Rattle.meta_model.specs.declared.lv.Lv.{Lv}
use Rattle.meta_model.specs.declared.pv.Pv.{Pv}
use Rattle.meta_print.proofs.GroupFrom.{printable}
use Rattle.meta_print.proofs.ReadAgain.{has_tree}
use Rattle.volume_rules.specs.Rules.{IsAccepted}
use Rattle.group_edits.proofs.ReducedRules.{reduced_accepted, reduced_printable}
use Rattle.group_edits.proofs.Whole.{IsWhole, seqno_below}
use Rattle.group_edits.specs.NextVersion.{next_version}
use Rattle.group_edits.specs.ReducedGroup.{has_leg_on_pv, on_without_pv, reduced_group}
use Rattle.group_edits.specs.Renumbered.{renumbered_row}

pub reduced_whole : (group : Group) (number : ℕ) → number < length group.pvs → has_leg_on_pv group number ≡ false → length group.pvs ≢ 1
    → group.seqno ≢ 4294967295 → IsAccepted group → HasTree group → IsWhole (reduced_group group number)
reduced_whole group number within unused more other accepted tree =
    let below : group.seqno < 4294967295 = seqno_below group accepted other in
    record {
      accepted = reduced_accepted group number unused within more below accepted;
      tree = has_tree (reduced_group group number) (reduced_printable group number unused (omega (arith, below)) accepted
          (printable group tree));
    }

-- as it is made
pub reduced_made : (group next : Group) (number : ℕ) (pvs : List (List ℕ × Pv)) (lvs : List (List ℕ × Lv)) → next ≡ next_version group
    → pvs ≡ remove group.pvs number → lvs ≡ map (renumbered_row (on_without_pv number)) group.lvs
    → record next { pvs = pvs; lvs = lvs } ≡ reduced_group group number
reduced_made group next number pvs lvs is are lie = λ i. record (is i) { pvs = are i; lvs = lie i }

pub made_whole : (group found next : Group) (number : ℕ) → found ≡ group → next ≡ reduced_group found number → number < length group.pvs
    → has_leg_on_pv group number ≡ false → length group.pvs ≢ 1 → group.seqno ≢ 4294967295
    → IsAccepted found → HasTree found → IsWhole next
made_whole group found next number same is within unused more other accepted tree =
    subst IsWhole (sym (is ∙ ap (λ (g : Group). reduced_group g number) same))
    (reduced_whole group number within unused more other (subst IsAccepted same accepted) (subst HasTree same tree))
