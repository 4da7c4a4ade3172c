-- The disks that a request takes. Of a command they are one to make a physical volume of (pvcreate(8)), some to make a group of
-- (vgcreate(8)), or some to add to one (vgextend(8)).
use Rattle.std.specs.Prelude.{ℕ, Bool, true, false, List, [], ◌∷◌, filter_map}
use Rattle.command_table.specs.declared.command.Command.{Command}
use Rattle.command_table.specs.declared.command.Command.TheVariants.{Pvcreate, Vgcreate, Vgextend}
use Rattle.command_table.specs.declared.request.Request.{Request}
use Rattle.command_table.specs.declared.request.Request.TheVariants.{One, Session, Demo}
use Rattle.command_table.specs.Options.{Word, number_named}

-- the words of the command that name disks which it takes
abbrev pub words_taken : Command → List Word
words_taken (Pvcreate pv metadata_copies) = pv ∷ []
words_taken (Vgcreate vg extent_size pvs) = pvs
words_taken (Vgextend vg pvs) = pvs
words_taken _ = []

-- the numbers of the disks that the request would take: of a command those of its words that are names of disks, in their order
abbrev pub taken_by : List Word → Request → List ℕ
taken_by names (One command) = filter_map (number_named names) (words_taken command)
taken_by names (Session session) = []
taken_by names (Demo seed lines workers) = []

-- it makes a physical volume of a disk, whatever stands there
abbrev pub is_new : Request → Bool
is_new (One (Pvcreate pv metadata_copies)) = true
is_new _ = false
