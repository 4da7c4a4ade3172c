-- Which refusal comes first.
use Rattle.pv_label.specs.declared.refusal.LabelRefusal.{LabelRefusal}
use Rattle.pv_label.specs.declared.refusal.LabelRefusal.TheVariants.{NoLabel}

-- the refusal of the sectors before, or else this one
abbrev pub first_refusal : LabelRefusal → LabelRefusal → LabelRefusal
first_refusal NoLabel cause = cause
first_refusal before cause = before
