-- What a text does by its tree, and stored bytes by their text.
use Rattle.std.proofs.Common.{◌≡◌, ℕ, List, Ok, sym, ap, subst, ◌∙◌}
use Rattle.mda_header.specs.declared.header.Locn.{Locn}
use Rattle.mda_ring.specs.Texts.{IsTextOf as IsTextOfEntry}
use Rattle.conf_text.specs.Entries.{Conf}
use Rattle.conf_text.specs.Grammar.{IsTextOf}
use Rattle.meta_model.specs.PassedOver.{passed_over}
use Rattle.meta_model.specs.Standing.{HasTree, group_of}
use Rattle.meta_model.specs.declared.group.Group.{Group}
use Rattle.volume_rules.specs.Rules.{IsAccepted}
use Rattle.scan_rules.specs.Readings.{copied}
use Rattle.scan_rules.specs.declared.copy_refusal.CopyRefusal.{CopyRefusal}
use Rattle.scan_rules.specs.declared.copy_refusal.CopyRefusal.TheVariants.{HeaderRefused, SumDiffers, TextRefused, GroupRefused, RuleBroken}
use Rattle.scan_rules.specs.declared.readings.GroupCopy.{GroupCopy}
use Rattle.vg_scan.specs.Judged.{IsGroupOf, IsRuleRefusal, IsTree, IsTreeRefusal}
use Rattle.vg_scan.specs.Texts.{IsCopyOf, IsRefusalOf, IsStored, IsTextRefusal}

-- the tree that stands for a group is that of some text
pub has_tree : (tree : Conf) (group : Group) → IsTree tree → group_of tree ≡ Ok group → HasTree group
has_tree tree group is stands = record { text = is.text; tree = tree; is_text = is.is_text; stands = stands }

-- ---- of the group of a tree

pub group_in_tree : (tree : Conf) (group found : Group) (passed paths : List (List ℕ)) → group_of tree ≡ Ok group
    → passed ≡ passed_over tree → (found ≡ group) × IsAccepted group × (paths ≡ passed) → IsGroupOf tree found paths
group_in_tree tree group found passed paths stands over is = record {
  stands = stands ∙ ap Ok (sym is.0);
  accepted = subst IsAccepted (sym is.0) is.1;
  passed_is = is.2 ∙ over;
}

pub tree_refused : (tree : Conf) (group : Group) (refusal : CopyRefusal) → group_of tree ≡ Ok group → IsRuleRefusal group refusal
    → IsTreeRefusal tree refusal
tree_refused tree group (HeaderRefused why) stands is = is
tree_refused tree group (SumDiffers said found) stands is = is
tree_refused tree group (TextRefused why) stands is = is
tree_refused tree group (GroupRefused why) stands is = absurd is
tree_refused tree group (RuleBroken rule) stands is = (group, stands, is)

-- ---- of the tree of a text

pub copy_in_text : (text : List ℕ) (tree : Conf) (group : Group) (passed : List (List ℕ)) → IsTextOf text tree → IsGroupOf tree group passed
    → IsCopyOf text group passed
copy_in_text text tree group passed is_text is =
    record { tree = tree; is_text = is_text; stands = is.stands; accepted = is.accepted; passed_is = is.passed_is }

pub text_refused : (text : List ℕ) (tree : Conf) (refusal : CopyRefusal) → IsTextOf text tree → IsTreeRefusal tree refusal
    → IsTextRefusal text refusal
text_refused text tree (HeaderRefused why) is_text is = is
text_refused text tree (SumDiffers said found) is_text is = is
text_refused text tree (TextRefused why) is_text is = absurd is
text_refused text tree (GroupRefused why) is_text is = (tree, is_text, is)
text_refused text tree (RuleBroken rule) is_text is = (tree, is.0, is_text, is.1, is.2)

-- ---- of the text of stored bytes

pub bytes_refused : (locn : Locn) (bytes text : List ℕ) (refusal : CopyRefusal) → IsTextOfEntry locn bytes text → IsTextRefusal text refusal
    → IsRefusalOf locn bytes refusal
bytes_refused locn bytes text (HeaderRefused why) is_text is = is
bytes_refused locn bytes text (SumDiffers said found) is_text is = absurd is
bytes_refused locn bytes text (TextRefused why) is_text is = (text, is_text, is)
bytes_refused locn bytes text (GroupRefused why) is_text is = (text, is_text, is)
bytes_refused locn bytes text (RuleBroken rule) is_text is = (text, is_text, is)

pub stored_copy : (locn : Locn) (bytes text : List ℕ) (copy : GroupCopy) → IsTextOfEntry locn bytes text
    → (copy.text ≡ text) × IsCopyOf text copy.group copy.passed → IsStored locn bytes (copied copy)
stored_copy locn bytes text copy is_text is =
    (subst (IsTextOfEntry locn bytes) (sym is.0) is_text, subst (λ (t : List ℕ). IsCopyOf t copy.group copy.passed) (sym is.0) is.1)
