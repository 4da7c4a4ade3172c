-- How the answers of lines are printed, and their refusals.
use Rattle.std.specs.Prelude.{ℕ, ◌+◌, ◌/◌, ◌%◌, Bool, nat_lt, if◌then◌else◌, List, [], ◌∷◌, ◌++◌, codes, decimal, flat_map, take, drop}
use Rattle.std.specs.Prelude.{reverse, slice_index_or}
use Rattle.std.specs.Str.{bytes_eq}
use Rattle.sector_base.specs.Shown.{Value, number, shown_text, text}
use Rattle.lvm_id.specs.LvmId.{hyphen_form}
use Rattle.command_table.specs.Options.{Word}
use Rattle.line_answers.specs.declared.answer.Answer.{Answer}
use Rattle.line_answers.specs.declared.answer.Answer.TheVariants.{Fine, Read, Listed, Refused, ReadFailed, PvFailed, Fenced, Stopped}
use Rattle.line_answers.specs.declared.answer.Answer.TheVariants.{Aborted, NoMemory}
use Rattle.line_answers.specs.declared.op_refusal.OpRefusal.{OpRefusal}
use Rattle.line_answers.specs.declared.op_refusal.OpRefusal.TheVariants as refusal
use Rattle.line_answers.specs.declared.shown.Shown.{Shown}
use Rattle.line_answers.specs.declared.shown.Shown.TheVariants.{Text, Number}

-- the value that the code writes
abbrev pub value_of : Shown → Value
value_of (Text bytes) = text bytes.now
value_of (Number n) = number n

-- the name of the disk with this number
abbrev pub disk : List Word → ℕ → Value
disk names pv = text (slice_index_or names pv [])

-- the kind of a refusal of a line, and its values
abbrev pub shown_op : List Word → OpRefusal → List ℕ × List Value
shown_op names (refusal.UnknownGroup a) = (codes "UnknownGroup", text a ∷ [])
shown_op names (refusal.GroupStands a) = (codes "GroupStands", text a ∷ [])
shown_op names refusal.ReadOnly = (codes "ReadOnly", [])
shown_op names refusal.NotResizeable = (codes "NotResizeable", [])
shown_op names (refusal.UnknownVolume a) = (codes "UnknownVolume", text a ∷ [])
shown_op names (refusal.NameTaken a) = (codes "NameTaken", text a ∷ [])
shown_op names (refusal.UnknownPv a) = (codes "UnknownPv", text a ∷ [])
shown_op names (refusal.PvUsed a) = (codes "PvUsed", text a ∷ [])
shown_op names (refusal.NotInGroup a) = (codes "NotInGroup", text a ∷ [])
shown_op names refusal.MoveStands = (codes "MoveStands", [])
shown_op names refusal.NoMove = (codes "NoMove", [])
shown_op names (refusal.NothingThere a) = (codes "NothingThere", disk names a ∷ [])
shown_op names (refusal.Locked a) = (codes "Locked", text a ∷ [])
shown_op names (refusal.Layered a) = (codes "Layered", text a ∷ [])
shown_op names (refusal.NotMirror a) = (codes "NotMirror", text a ∷ [])
shown_op names (refusal.InUse a) = (codes "InUse", text a ∷ [])
shown_op names (refusal.LastPv a) = (codes "LastPv", text a ∷ [])
shown_op names refusal.NoArea = (codes "NoArea", [])
shown_op names (refusal.TooSmall a b) = (codes "TooSmall", number a ∷ number b ∷ [])
shown_op names (refusal.BadStripe a b) = (codes "BadStripe", number a ∷ number b ∷ [])
shown_op names (refusal.NotLonger a b) = (codes "NotLonger", number a ∷ number b ∷ [])
shown_op names (refusal.NotShorter a b) = (codes "NotShorter", number a ∷ number b ∷ [])
shown_op names (refusal.PastEnd a b) = (codes "PastEnd", number a ∷ number b ∷ [])
shown_op names (refusal.TooMany a b) = (codes "TooMany", number a ∷ number b ∷ [])
shown_op names refusal.SeqnoEnd = (codes "SeqnoEnd", [])
shown_op names (refusal.IdTaken a) = (codes "IdTaken", text (hyphen_form a) ∷ [])
shown_op names (refusal.NotAllocatable a) = (codes "NotAllocatable", disk names a ∷ [])
shown_op names (refusal.NoSpace a b) = (codes "NoSpace", number a ∷ number b ∷ [])
shown_op names (refusal.NoRun a b) = (codes "NoRun", number a ∷ number b ∷ [])
shown_op names (refusal.TooFewPvs a b) = (codes "TooFewPvs", number a ∷ number b ∷ [])
shown_op names (refusal.BadText a) = (codes "BadText", text a ∷ [])
shown_op names (refusal.BadRule a) = (codes "BadRule", number a ∷ [])
shown_op names (refusal.OtherGroup a b) = (codes "OtherGroup", text a ∷ text b ∷ [])
shown_op names (refusal.TooLarge a b) = (codes "TooLarge", number a ∷ number b ∷ [])

-- a number below 16 as a hex digit
abbrev pub hex_digit : ℕ → ℕ
hex_digit n = if nat_lt n 10 then 48 + n else 87 + n

-- a byte as two hex digits
abbrev pub hex_byte : ℕ → List ℕ
hex_byte byte = hex_digit (byte / 16) ∷ hex_digit (byte % 16) ∷ []

-- a sector is 64 times its first eight bytes: each byte from the ninth on is the one eight before it
abbrev pub is_one_number : List ℕ → Bool
is_one_number sector = bytes_eq (drop 8 sector) (take 504 sector)

-- a sector as a token: behind `=` the number that it is 64 times, whose lowest byte stands first in the sector, and else each byte
abbrev pub token : List ℕ → List ℕ
token sector = if is_one_number sector then codes "=" ++ flat_map hex_byte (reverse (take 8 sector)) else flat_map hex_byte sector

-- the text of an answer; a disk prints as its name
abbrev pub answer_text : List Word → Answer → List ℕ
answer_text names Fine = codes "ok"
answer_text names (Read sectors) = codes "data" ++ flat_map (λ sector. codes " " ++ token sector) sectors
answer_text names (Listed lengths) = codes "list" ++ flat_map (λ pair. codes " " ++ pair.0 ++ codes "=" ++ decimal pair.1) lengths
answer_text names (Refused refusal) = codes "refused " ++ shown_text (shown_op names refusal)
answer_text names (ReadFailed pv) = codes "read failed " ++ slice_index_or names pv []
answer_text names (PvFailed pv) = codes "pv failed " ++ slice_index_or names pv []
answer_text names (Fenced pv) = codes "fenced " ++ slice_index_or names pv []
answer_text names (Stopped pv) = codes "stopped " ++ slice_index_or names pv []
answer_text names Aborted = codes "aborted"
answer_text names NoMemory = codes "no memory"
