-- A group as a text has it, as the next version of the one in force (vgcfgrestore(8)).
use Rattle.std.specs.Prelude.{ℕ, ◌+◌, false, List, map, max}
use Rattle.meta_model.specs.declared.group.Group.{Group}
use Rattle.meta_model.specs.declared.pv.Pv.{Pv}

-- a physical volume that is there
abbrev pub found_pv : List ℕ × Pv → List ℕ × Pv
found_pv pv = (pv.0, record pv.1 { missing = false })

-- the text's group with the number behind the greater one of both, and no physical volume that is MISSING
abbrev pub restored_group : Group → Group → Group
restored_group found said = record said { seqno = max found.seqno said.seqno + 1; pvs = map found_pv said.pvs }
