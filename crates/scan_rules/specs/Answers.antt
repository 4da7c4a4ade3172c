-- What a decision says of the answer that the readings give.
use Rattle.std.specs.Prelude.{◌≡◌, ◌≢◌, ℕ, Bool, true, false, ◌&&◌, ◌==◌, not, Option, None, Some, List, [], find, option_map, unwrap_or}
use Rattle.std.specs.Prelude.{slice_get}
use Rattle.std.specs.FinSet as set
use Rattle.std.specs.Str.{bytes_eq}
use Rattle.scan_rules.specs.Decision.{Held, ScanAnswer, DuplicatePv, NoCopy, Unsupported, TwoGroups, Conflict, PvShape, NoGroup}
use Rattle.scan_rules.specs.Decision.{FoundGroup, first_misplaced, found_with, is_held, no_copy, sum_agrees, two_groups}
use Rattle.scan_rules.specs.declared.held.HeldCopy.{HeldCopy}
use Rattle.scan_rules.specs.declared.readings.DiskRead.{DiskRead}
use Rattle.scan_rules.specs.Flat.{all_held, held_copy, refused_on}
use Rattle.scan_rules.specs.Readings.{readings_of}
use Rattle.scan_rules.specs.declared.copy_refusal.CopyRefusal.{CopyRefusal}
use Rattle.scan_rules.specs.declared.readings.GroupCopy.{GroupCopy}
use Rattle.scan_rules.specs.declared.decision.Decided.{Decided}
use Rattle.scan_rules.specs.declared.decision.ScanRefusal.{ScanRefusal}
use Rattle.scan_rules.specs.declared.decision.ScanRefusal.TheVariants as refusal

-- the copy, wherever it is held
abbrev pub copy_of : Held → GroupCopy
copy_of held = record { group = held.group; text = held.text; passed = held.passed }

-- the answer is what was decided: a group with its lists, or that there is none
abbrev pub IsDecided : ScanAnswer → Decided → Type 0
IsDecided (FoundGroup held stale strays missing) decided =
    (decided.copy ≡ Some (copy_of held)) × (decided.stale ≡ stale) × (decided.strays ≡ set.from_list strays) × (decided.missing ≡ missing)
IsDecided NoGroup decided = (decided.copy ≡ None) × (decided.stale ≡ []) × (decided.strays ≡ set.empty) × (decided.missing ≡ [])
IsDecided _ decided = ⊥

-- the answer is this refusal; want of memory says nothing of it
abbrev pub IsRefusedBy : ScanAnswer → ScanRefusal → Type 0
IsRefusedBy answer refusal.NoMemory = Unit {0}
IsRefusedBy answer (refusal.DuplicatePv first second) = answer ≡ DuplicatePv first second
IsRefusedBy answer (refusal.NoCopy refused) = answer ≡ NoCopy refused
IsRefusedBy answer (refusal.Unsupported disk) = answer ≡ Unsupported disk
IsRefusedBy answer (refusal.TwoGroups first second) = answer ≡ TwoGroups first second
IsRefusedBy answer (refusal.Conflict first second seqno) = answer ≡ Conflict first second seqno
IsRefusedBy answer (refusal.PvShape disk) = answer ≡ PvShape disk

-- the refusal is this answer, and not want of memory, or there is neither
abbrev pub Denies : Option ScanAnswer → Option ScanRefusal → Type 0
Denies None None = Unit {0}
Denies (Some answer) (Some why) = IsRefusedBy answer why × (why ≢ refusal.NoMemory)
Denies _ _ = ⊥

-- the first answer that there is
abbrev pub first_answer : Option ScanAnswer → Option ScanAnswer → Option ScanAnswer
first_answer None later = later
first_answer (Some answer) later = Some answer

-- the first disk with an unsupported text, the first with a copy that denies this one, and why volumes don't lie well
abbrev pub unsupported_among : List (ℕ × CopyRefusal) → Option ℕ
unsupported_among refused = option_map (λ (r : ℕ × CopyRefusal). r.0) (find (λ (r : ℕ × CopyRefusal). sum_agrees r.1) refused)

-- the same of what was read
abbrev pub unsupported_disk : List DiskRead → Option ℕ
unsupported_disk disks = unsupported_among (refused_on 0 disks)

-- whether a copy has the same sequence number and another text
abbrev pub denies_copy : GroupCopy → Held → Bool
denies_copy copy other = other.group.seqno == copy.group.seqno && not (bytes_eq other.text copy.text)

-- the first disk with one that does
abbrev pub denying_disk : GroupCopy → List Held → Option ℕ
denying_disk copy cs = option_map (λ (other : Held). other.disk) (find (denies_copy copy) cs)

-- a copy that is held denies nothing; else its disk is named
abbrev pub unless_held : ℕ → Bool → Option ScanAnswer
unless_held disk true = None
unless_held disk false = Some (PvShape disk)

-- a volume that doesn't lie well comes before a copy that isn't held
abbrev pub shape_denial : ℕ → Option ℕ → Bool → Option ScanAnswer
shape_denial disk None held = unless_held disk held
shape_denial disk (Some misplaced) held = Some (PvShape misplaced)

-- why the copy isn't taken
abbrev pub denial : List GroupCopy → List DiskRead → List HeldCopy → ℕ → GroupCopy → Option ScanAnswer
denial copies disks held disk copy =
    first_answer (option_map Unsupported (unsupported_disk disks))
    (first_answer (two_groups (all_held copies held))
    (first_answer (option_map (λ (other : ℕ). Conflict disk other copy.group.seqno) (denying_disk copy (all_held copies held)))
    (shape_denial disk (first_misplaced copy.group (readings_of [] disks)) (is_held copy.group copy.text (readings_of copies disks)))))

-- the answer where there is no copy, and where this one is best
abbrev pub answer_without : List DiskRead → ScanAnswer
answer_without disks = unwrap_or (no_copy [] (refused_on 0 disks)) NoGroup

-- where this copy is best: why it isn't taken, or what is found
abbrev pub answer_with : List GroupCopy → List DiskRead → List HeldCopy → ℕ → GroupCopy → ScanAnswer
answer_with copies disks held disk copy =
    unwrap_or (denial copies disks held disk copy) (found_with (readings_of copies disks) (held_copy disk copy))

-- the copy that is held
abbrev pub answer_for : List GroupCopy → List DiskRead → List HeldCopy → HeldCopy → ScanAnswer
answer_for copies disks held best = unwrap_or (option_map (answer_with copies disks held best.disk) (slice_get copies best.number)) NoGroup
