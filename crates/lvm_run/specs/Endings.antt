-- What ends a run before its lines, and the single line that it prints then.
use Rattle.std.specs.Prelude.{ℕ, true, false, List, [], ◌∷◌, ◌++◌, codes, decimal, slice_index_or, flat_map}
use Rattle.sector_base.specs.Shown.{Value, number, shown_text, text}
use Rattle.lvm_id.specs.LvmId.{hyphen_form}
use Rattle.command_table.specs.declared.line_fault.LineFault.{LineFault}
use Rattle.command_table.specs.Options.{Word}
use Rattle.command_table.specs.Words.{line_fault_word}
use Rattle.scan_rules.specs.Copies.{kind_of}
use Rattle.scan_rules.specs.declared.copy_refusal.CopyRefusal.{CopyRefusal}
use Rattle.scan_rules.specs.declared.decision.ScanRefusal.{ScanRefusal as RefusalOfScan}
use Rattle.scan_rules.specs.declared.decision.ScanRefusal.TheVariants as scan
use Rattle.lvm_run.specs.declared.ending.Ending.{Ending}
use Rattle.lvm_run.specs.declared.ending.Ending.TheVariants.{WordsRefused, NoMemory, SourceFailed, ScriptTooLong, ScriptRefused}
use Rattle.lvm_run.specs.declared.ending.Ending.TheVariants.{OpenFailed, ScanReadFailed, ScanRefused, DiskInUse, RepairFailed}
use Rattle.lvm_run.specs.declared.ending.Ending.TheVariants.{RepairRefused}
use Rattle.lvm_run.specs.declared.disks_refusal.DisksRefusal.{DisksRefusal}
use Rattle.lvm_run.specs.declared.disks_refusal.DisksRefusal.TheVariants.{Disks, Partial}

-- the name of a disk
abbrev pub named : List Word → ℕ → Value
named names pv = text (slice_index_or names pv [])

-- of a refused area, the name of its disk and the kind of the refusal
abbrev pub refused_values : List Word → ℕ × CopyRefusal → List Value
refused_values names refused = named names refused.0 ∷ text (kind_of refused.1) ∷ []

-- of an id, its text with hyphens
abbrev pub id_values : List ℕ → List Value
id_values id = text (hyphen_form id) ∷ []

-- the kind of a refusal of the scan and its values, where the disks have these names; want of memory is none
abbrev pub shown_refusal : List Word → RefusalOfScan → List ℕ × List Value
shown_refusal names scan.NoMemory = ([], [])
shown_refusal names (scan.DuplicatePv first second) = (codes "DuplicatePv", named names first ∷ named names second ∷ [])
shown_refusal names (scan.NoCopy refused) = (codes "NoCopy", flat_map (refused_values names) refused)
shown_refusal names (scan.Unsupported pv) = (codes "Unsupported", named names pv ∷ [])
shown_refusal names (scan.TwoGroups first second) = (codes "TwoGroups", text (hyphen_form first) ∷ text (hyphen_form second) ∷ [])
shown_refusal names (scan.Conflict first second seqno) = (codes "Conflict", named names first ∷ named names second ∷ number seqno ∷ [])
shown_refusal names (scan.PvShape pv) = (codes "PvShape", named names pv ∷ [])

-- a refusal of a run whose disks aren't taken as a scan finds them
abbrev pub shown_scan : List Word → DisksRefusal → List ℕ × List Value
shown_scan names (Disks refusal) = shown_refusal names refusal
shown_scan names (Partial ids) = (codes "Partial", flat_map id_values ids)

-- of a repair for which there is no room: the disk, how many sectors it needs, and how many there are
abbrev pub repair_values : List Word → ℕ → ℕ → ℕ → List Value
repair_values names pv need room = named names pv ∷ number need ∷ number room ∷ []

-- of a refused line of a script: the fault's word, and its place in the line
abbrev pub script_values : LineFault → ℕ → List Value
script_values fault place = text (line_fault_word fault) ∷ number place ∷ []

-- what the run prints
abbrev pub ending_text : List Word → Ending → List ℕ
ending_text names WordsRefused = codes "words refused\n"
ending_text names NoMemory = []
ending_text names SourceFailed = codes "source failed\n"
ending_text names ScriptTooLong = codes "script too long\n"
ending_text names (ScriptRefused line fault place) =
    codes "script line " ++ (decimal line ++ shown_text (codes ":", script_values fault place)) ++ codes "\n"
ending_text names (OpenFailed pv) = codes "open failed " ++ slice_index_or names pv [] ++ codes "\n"
ending_text names (ScanReadFailed pv) = codes "scan refused ReadFailed " ++ slice_index_or names pv [] ++ codes "\n"
ending_text names (ScanRefused refusal whole) = codes "scan refused " ++ shown_text (shown_scan names refusal) ++ codes "\n"
ending_text names (DiskInUse pv) = codes "disk in use " ++ slice_index_or names pv [] ++ codes "\n"
ending_text names (RepairFailed pv) = codes "repair failed " ++ slice_index_or names pv [] ++ codes "\n"
ending_text names (RepairRefused pv need room) =
    codes "repair refused" ++ shown_text ([], repair_values names pv need room) ++ codes "\n"

-- its exit status; 6 for a refusal of the scan where a read failed too
abbrev pub status_of_ending : Ending → ℕ
status_of_ending WordsRefused = 3
status_of_ending NoMemory = 2
status_of_ending SourceFailed = 4
status_of_ending ScriptTooLong = 5
status_of_ending (ScriptRefused line fault place) = 5
status_of_ending (OpenFailed pv) = 6
status_of_ending (ScanReadFailed pv) = 6
status_of_ending (ScanRefused refusal true) = 5
status_of_ending (ScanRefused refusal false) = 6
status_of_ending (DiskInUse pv) = 5
status_of_ending (RepairFailed pv) = 6
status_of_ending (RepairRefused pv need room) = 5
