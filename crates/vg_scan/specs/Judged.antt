-- What the tree of a text stands for, on the way to what its text does.
use Rattle.std.specs.Prelude.{◌≡◌, ℕ, List, Ok, Err}
use Rattle.conf_text.specs.Entries.{Conf}
use Rattle.conf_text.specs.Grammar.{IsTextOf}
use Rattle.meta_model.specs.PassedOver.{passed_over}
use Rattle.meta_model.specs.Standing.{group_of}
use Rattle.meta_model.specs.declared.group.Group.{Group}
use Rattle.volume_rules.specs.Rules.{IsAccepted, IsFirstBroken}
use Rattle.scan_rules.specs.declared.copy_refusal.CopyRefusal.{CopyRefusal}
use Rattle.scan_rules.specs.declared.copy_refusal.CopyRefusal.TheVariants.{HeaderRefused, SumDiffers, TextRefused, GroupRefused, RuleBroken}

-- the tree is that of some text
pub record IsTree (tree : Conf) : Type 0 where
  pub text : List ℕ
  pub is_text : IsTextOf text tree

-- the tree stands for the group, which keeps all rules, and these are the paths of its keys that are passed over
pub record IsGroupOf (tree : Conf) (group : Group) (passed : List (List ℕ)) : Type 0 where
  pub stands : group_of tree ≡ Ok group
  pub accepted : IsAccepted group
  pub passed_is : passed ≡ passed_over tree

-- the refusal is the first rule that the group breaks
abbrev pub IsRuleRefusal : Group → CopyRefusal → Type 0
IsRuleRefusal group (HeaderRefused refusal) = ⊥
IsRuleRefusal group (SumDiffers said found) = ⊥
IsRuleRefusal group (TextRefused refusal) = ⊥
IsRuleRefusal group (GroupRefused refusal) = ⊥
IsRuleRefusal group (RuleBroken rule) = IsFirstBroken group rule

-- the first refusal of a tree: of its keys, or of the rules of its group
abbrev pub IsTreeRefusal : Conf → CopyRefusal → Type 0
IsTreeRefusal tree (HeaderRefused refusal) = ⊥
IsTreeRefusal tree (SumDiffers said found) = ⊥
IsTreeRefusal tree (TextRefused refusal) = ⊥
IsTreeRefusal tree (GroupRefused refusal) = group_of tree ≡ Err refusal
IsTreeRefusal tree (RuleBroken rule) = (group : Group) × (group_of tree ≡ Ok group) × IsFirstBroken group rule
