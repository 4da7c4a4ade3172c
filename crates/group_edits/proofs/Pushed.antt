-- A group with one more physical volume.
use Rattle.std.proofs.Common.{ℕ, List, [], ◌∷◌, ◌++◌}
use Rattle.meta_model.specs.declared.group.Group.{Group}
use Rattle.meta_model.specs.declared.pv.Pv.{Pv}

-- it stands last
abbrev pub pushed : Group → List ℕ × Pv → Group
pushed group row = record group { pvs = group.pvs ++ row ∷ [] }
