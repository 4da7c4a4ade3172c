-- What a text gives that a group is restored from.
use Rattle.std.specs.Prelude.{◌≡◌, ◌≢◌, ◌⊎◌, ℕ, List, Ok, Err}
use Rattle.conf_text.specs.Entries.{Conf}
use Rattle.conf_text.specs.Grammar.{IsTextOf}
use Rattle.conf_text.specs.Refusals.{IsCause}
use Rattle.conf_text.specs.ShownConf.{shown_conf}
use Rattle.conf_text.specs.declared.refusal.ConfRefusal.{ConfRefusal}
use Rattle.conf_text.specs.declared.refusal.ConfRefusal.TheVariants.{NoMemory}
use Rattle.meta_model.specs.ShownGroup.{shown_group}
use Rattle.meta_model.specs.Standing.{group_of}
use Rattle.meta_model.specs.declared.group.Group.{Group}
use Rattle.meta_model.specs.declared.refusal.GroupRefusal.{GroupRefusal}
use Rattle.volume_rules.specs.Rules.{IsAccepted, IsFirstBroken}
use Rattle.group_plan.specs.declared.backup.Backup.{Backup}
use Rattle.group_plan.specs.declared.backup.Backup.TheVariants.{Broken, Sound, Unread}

-- the tree is that of some text
pub record IsTree (tree : Conf) : Type 0 where
  pub text : List ℕ
  pub is_text : IsTextOf text tree

-- a group gives itself, with the first rule that it breaks, if it breaks one
abbrev pub GroupGives : Group → Backup → Type 0
GroupGives group (Unread kind) = ⊥
GroupGives group (Broken said rule) = (said ≡ group) × IsFirstBroken group rule
GroupGives group (Sound said) = (said ≡ group) × IsAccepted group

-- a tree gives the group that it stands for; or the kind of the first refusal of its keys, as it prints
abbrev pub TreeGives : Conf → Backup → Type 0
TreeGives tree (Unread kind) = (refusal : GroupRefusal) × (group_of tree ≡ Err refusal) × (kind ≡ (shown_group refusal).0)
TreeGives tree (Broken group rule) = (group_of tree ≡ Ok group) × IsFirstBroken group rule
TreeGives tree (Sound group) = (group_of tree ≡ Ok group) × IsAccepted group

-- a text without a tree gives the kind of the refusal of its grammar
abbrev pub HasNoTree : List ℕ → Backup → Type 0
HasNoTree text (Unread kind) = (refusal : ConfRefusal) × IsCause text refusal × (refusal ≢ NoMemory) × (kind ≡ (shown_conf refusal).0)
HasNoTree text backup = ⊥

-- another one gives what its tree gives
abbrev pub IsBackup : List ℕ → Backup → Type 0
IsBackup text backup = HasNoTree text backup ⊎ ((tree : Conf) × IsTextOf text tree × TreeGives tree backup)
