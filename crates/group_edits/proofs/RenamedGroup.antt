-- A group with another name keeps all rules, and a tree stands for it.
use Rattle.std.proofs.Common.{◌≡◌, ◌≢◌, ◌≤◌, ℕ, ◌+◌, List, None, sym, ap, subst, ◌∙◌, arith}
use Rattle.std.specs.Prelude.{is_none}
use Rattle.lvm_name.specs.Names.{group_name_refusal}
use Rattle.meta_model.specs.Standing.{HasTree}
use Rattle.meta_model.specs.declared.group.Group.{Group}
use Rattle.meta_print.proofs.GroupFrom.{printable}
use Rattle.meta_print.proofs.ReadAgain.{has_tree}
use Rattle.volume_rules.specs.Rules.{IsAccepted}
use Rattle.volume_rules.specs.declared.rule.Rule.TheVariants.{Numbers, Volumes}
use Rattle.group_edits.proofs.PushedPrintable.{printable_renamed}
use Rattle.group_edits.proofs.PushedRules.{accepted_base, base_accepted, base_renamed}
use Rattle.group_edits.proofs.Whole.{IsWhole}
use Rattle.group_edits.specs.NextVersion.{next_version}
use Rattle.group_edits.specs.RenamedGroup.{renamed_group}

pub renamed_whole : (group : Group) (new : List ℕ) → group_name_refusal new ≡ None → group.seqno ≢ 4294967295 → IsAccepted group
    → HasTree group → IsWhole (renamed_group group new)
renamed_whole group new named below accepted tree =
    let numbers = accepted Numbers in
    let volumes = accepted Volumes in
    let most : group.seqno ≤ 4294967295 = numbers.seqno.1 in
    record {
      accepted =
          base_accepted (renamed_group group new) (base_renamed group new (group.seqno + 1) (omega arith) (omega (arith, most, below))
          (accepted_base group accepted))
          (record { pvs = volumes.pvs; lvs = volumes.lvs; max_pv = volumes.max_pv; max_lv = volumes.max_lv });
      tree =
          has_tree (renamed_group group new) (printable_renamed group new (group.seqno + 1) (ap is_none named) (omega (arith, most))
          (printable group tree));
    }

-- as it is made
pub group_made : (group found next : Group) (name : List ℕ) → found ≡ group → next ≡ next_version found
    → record next { name = name } ≡ renamed_group group name
group_made group found next name same is = (λ i. record (is i) { name = name }) ∙ ap (λ (g : Group). renamed_group g name) same

pub made_whole : (group found made : Group) (name : List ℕ) → found ≡ group → made ≡ renamed_group group name
    → group_name_refusal name ≡ None → group.seqno ≢ 4294967295 → IsAccepted found → HasTree found → IsWhole made
made_whole group found made name same is named below accepted tree =
    subst IsWhole (sym is) (renamed_whole group name named below (subst IsAccepted same accepted) (subst HasTree same tree))
