-- How each CommitRefusal is printed.
use Rattle.std.specs.Prelude.{ℕ, List, [], ◌∷◌, codes}
use Rattle.sector_base.specs.Shown.{Value}
use Rattle.sector_base.specs.Shown.Value.{number}
use Rattle.vg_commit.specs.declared.refusal.CommitRefusal.{CommitRefusal}
use Rattle.vg_commit.specs.declared.refusal.CommitRefusal.TheVariants.{NoMemory, TooLarge}

-- its kind, and its values in the order of its fields
abbrev pub shown_refusal : CommitRefusal → List ℕ × List Value
shown_refusal NoMemory = (codes "NoMemory", [])
shown_refusal (TooLarge need room) = (codes "TooLarge", number need ∷ number room ∷ [])
