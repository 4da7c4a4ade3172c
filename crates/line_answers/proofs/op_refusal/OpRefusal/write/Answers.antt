use Rattle.line_answers.proofs.op_refusal.OpRefusal.write.Goals as goal

pub returns-in-UnknownGroup : goal.returns-in-UnknownGroup
returns-in-UnknownGroup g c = rw c.in-UnknownGroup.is c.write_name.ensures

pub returns-in-GroupStands : goal.returns-in-GroupStands
returns-in-GroupStands g c = rw c.in-GroupStands.is c.write_name-in-GroupStands.ensures

pub returns-in-NotResizeable : goal.returns-in-NotResizeable
returns-in-NotResizeable g c = rw c.in-NotResizeable.is c.write_kind-in-NotResizeable.ensures

pub returns-in-UnknownVolume : goal.returns-in-UnknownVolume
returns-in-UnknownVolume g c = rw c.in-UnknownVolume.is c.write_name-in-UnknownVolume.ensures

pub returns-in-NotInGroup : goal.returns-in-NotInGroup
returns-in-NotInGroup g c = rw c.in-NotInGroup.is c.write_name-in-NotInGroup.ensures

pub returns-in-MoveStands : goal.returns-in-MoveStands
returns-in-MoveStands g c = rw c.in-MoveStands.is c.write_kind-in-MoveStands.ensures

pub returns-in-NothingThere : goal.returns-in-NothingThere
returns-in-NothingThere g c = rw c.in-NothingThere.is c.write_disk.ensures

pub returns-in-NotShorter : goal.returns-in-NotShorter
returns-in-NotShorter g c = rw c.in-NotShorter.is c.write_numbers-in-NotShorter.ensures

pub returns-in-OtherGroup : goal.returns-in-OtherGroup
returns-in-OtherGroup g c =
    rw (c.in-OtherGroup.is, ← c.as_bytes.ensures, ← c.as_bytes-in-OtherGroup.ensures) c.write_kind-in-OtherGroup.ensures
