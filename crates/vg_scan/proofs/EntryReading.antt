-- What the sectors of an entry's text give.
use Rattle.std.proofs.Common.{◌≡◌, ℕ, ◌+◌, ◌/◌, List, [], length, Result, Ok, Err, IfOk, MatchResult, refl, sym, subst}
use Rattle.std.proofs.lemmas.List.{append-nil}
use Rattle.sector_base.specs.declared.spans.Span.{Span}
use Rattle.disk_model.specs.Since.{HoldsOfDisk}
use Rattle.disk_model.specs.State.{State}
use Rattle.disk_model.proofs.ReadingAlone.{holds_weaker}
use Rattle.mda_header.specs.declared.header.Locn.{Locn}
use Rattle.mda_header.specs.Header.{IsInside}
use Rattle.mda_ring.specs.declared.area.Area.{Area}
use Rattle.mda_ring.specs.Areas.{IsArea}
use Rattle.mda_ring.specs.Ring.{touched_count}
use Rattle.mda_ring.specs.Texts.{taken_bytes}
use Rattle.mda_ring.proofs.EntryBytes.{taken-text_at}
use Rattle.disk_contents.specs.declared.read_refusal.ReadRefusal.{ReadRefusal}
use Rattle.disk_contents.specs.declared.read_refusal.ReadRefusal.TheVariants.{NoMemory}
use Rattle.disk_contents.specs.Parts.{ReadsUntil, ReadsWell}
use Rattle.disk_contents.proofs.ReadingParts.{until_wanting}
use Rattle.scan_rules.specs.Readings.{gives_of}
use Rattle.scan_rules.specs.declared.readings.AreaGives.{AreaGives}
use Rattle.scan_rules.specs.declared.readings.GroupCopy.{GroupCopy}
use Rattle.vg_scan.specs.Texts.{AreTextSectors, IsStored, stored_bytes}

-- all spans were read, and then memory was wanting
pub wanting_after : (pv : ℕ) (before after : State) (spans : List Span) (refusal : ReadRefusal) → refusal ≡ NoMemory
    → ReadsWell before spans after → ReadsUntil pv before spans after refusal
wanting_after pv before after spans refusal wanting went =
    subst (λ (r : ReadRefusal). ReadsUntil pv before spans after r) (sym wanting)
    (until_wanting pv before after spans [] spans (append-nil spans) went)

-- what the sectors give that were read is what the bytes of the disk give
pub given_by_sectors : (area : Area) (locn : Locn) (before : State) (sectors : List (List ℕ)) (copies : List GroupCopy) → IsArea area
    → IsInside area.size locn → length sectors ≡ touched_count area.size locn.offset locn.size
    → HoldsOfDisk before.told area.pv (λ sector_at. AreTextSectors sector_at area locn sectors)
    → (result : Result AreaGives ReadRefusal)
    → MatchResult result (λ gives. IsStored locn (taken_bytes locn sectors) (gives_of copies gives)) (λ refusal. refusal ≡ NoMemory)
    → IfOk result (λ gives. HoldsOfDisk before.told area.pv
    (λ sector_at. IsStored locn (stored_bytes sector_at area locn) (gives_of copies gives)))
given_by_sectors area locn before sectors copies good inside count read (Ok gives) is =
    holds_weaker before.told area.pv (λ sector_at. AreTextSectors sector_at area locn sectors)
    (λ sector_at. IsStored locn (stored_bytes sector_at area locn) (gives_of copies gives))
    (λ sector_at are. subst (λ (l : List ℕ). IsStored locn l (gives_of copies gives))
    (taken-text_at area locn sectors (taken_bytes locn sectors) (λ k. sector_at (area.start / 512 + k)) good inside count
    (record { taken = refl }) are.read) is) read
given_by_sectors area locn before sectors copies good inside count read (Err refusal) is = tt
