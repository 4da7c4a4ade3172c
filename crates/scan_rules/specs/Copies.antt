-- Why a metadata area has no copy of a group, as it prints.
use Rattle.std.specs.Prelude.{ℕ, List, codes}
use Rattle.mda_header.specs.ShownMda.{shown_mda}
use Rattle.conf_text.specs.ShownConf.{shown_conf}
use Rattle.meta_model.specs.ShownGroup.{shown_group}
use Rattle.scan_rules.specs.declared.copy_refusal.CopyRefusal.{CopyRefusal}
use Rattle.scan_rules.specs.declared.copy_refusal.CopyRefusal.TheVariants.{HeaderRefused, SumDiffers, TextRefused, GroupRefused, RuleBroken}

-- the kind of a refusal, as it prints
abbrev pub kind_of : CopyRefusal → List ℕ
kind_of (HeaderRefused refusal) = (shown_mda refusal).0
kind_of (SumDiffers said found) = codes "SumDiffers"
kind_of (TextRefused refusal) = (shown_conf refusal).0
kind_of (GroupRefused refusal) = (shown_group refusal).0
kind_of (RuleBroken rule) = codes "BadRule"
