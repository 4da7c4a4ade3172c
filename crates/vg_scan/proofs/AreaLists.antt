-- Readings of areas, one area after another, and the spans of their texts.
use Rattle.std.proofs.Common.{◌≡◌, ◌<◌, ℕ, ◌+◌, ◌++◌, List, [], ◌∷◌, get_or, length, drop, take, flat_map, map, Option, sym, ap, subst, ◌∙◌}
use Rattle.std.proofs.lemmas.Grind.{flat_map-append}
use Rattle.std.proofs.lemmas.List.{append-nil, map-append, take-append-drop, take_more}
use Rattle.sector_base.specs.declared.spans.Span.{Span}
use Rattle.disk_model.specs.Since.{HoldsOfDisk, ReadsTold}
use Rattle.disk_model.specs.Steps.{Record}
use Rattle.disk_model.proofs.ReadingAlone.{holds_before, holds_both}
use Rattle.disk_contents.specs.declared.contents.AreaFound.{AreaFound}
use Rattle.scan_rules.specs.Decision.{Area as AreaOf}
use Rattle.scan_rules.specs.Readings.{GivesAtMost, area_of}
use Rattle.scan_rules.specs.declared.readings.AreaRead.{AreaRead}
use Rattle.scan_rules.specs.declared.readings.GroupCopy.{GroupCopy}
use Rattle.vg_scan.specs.Collected.{Continues}
use Rattle.vg_scan.specs.Readings.{AreAreaReadings, IsAreaReading}
use Rattle.vg_scan.specs.Shapes.{AreasGiveAtMost, HasPlace, HavePlaces}
use Rattle.vg_scan.specs.TextReads.{spans_in, text_spans_in}
use Rattle.vg_scan.proofs.Continued.{continues_count, more_areas, numbers_push, older_areas}

-- ---- one area more

readings_push : (pv : ℕ) (sector_at : ℕ → List ℕ) (areas : List AreaFound) (readings : List AreaOf) (found : AreaFound) (reading : AreaOf)
    → AreAreaReadings pv sector_at areas readings → IsAreaReading pv sector_at found reading
    → AreAreaReadings pv sector_at (areas ++ found ∷ []) (readings ++ reading ∷ [])
readings_push pv sector_at [] [] found reading are is = (is, tt)
readings_push pv sector_at [] (r ∷ readings) found reading are is = absurd are
readings_push pv sector_at (a ∷ areas) [] found reading are is = absurd are
readings_push pv sector_at (a ∷ areas) (r ∷ readings) found reading are is =
    (are.0, readings_push pv sector_at areas readings found reading are.1 is)

places_push : (areas : List AreaFound) (readings : List AreaOf) (found : AreaFound) (reading : AreaOf) → HavePlaces areas readings
    → HasPlace found reading → HavePlaces (areas ++ found ∷ []) (readings ++ reading ∷ [])
places_push [] [] found reading are is = (is, tt)
places_push [] (r ∷ readings) found reading are is = absurd are
places_push (a ∷ areas) [] found reading are is = absurd are
places_push (a ∷ areas) (r ∷ readings) found reading are is = (are.0, places_push areas readings found reading are.1 is)

module _ (old new : List GroupCopy) (goes_on : Continues old new) (read all : List AreaRead) (area : AreaRead)
    (pushed : all ≡ read ++ area ∷ []) (numbers : AreasGiveAtMost (length old) read) where
  -- what the areas give by the copies that there are now
  mapped_more : map (area_of new) all ≡ map (area_of old) read ++ area_of new area ∷ []
  mapped_more =
      ap (map (area_of new)) pushed
      ∙ map-append (area_of new) read (area ∷ [])
      ∙ ap (λ (l : List AreaOf). l ++ area_of new area ∷ []) (older_areas old new read goes_on numbers)

  readings_more : (areas : List AreaFound) (i : ℕ) (d : AreaFound) → i < length areas → (pv : ℕ) (sector_at : ℕ → List ℕ)
      → AreAreaReadings pv sector_at (take i areas) (map (area_of old) read)
      → IsAreaReading pv sector_at (get_or areas i d) (area_of new area)
      → AreAreaReadings pv sector_at (take (i + 1) areas) (map (area_of new) all)
  readings_more areas i d within pv sector_at are is =
      subst (λ (l : List AreaFound). AreAreaReadings pv sector_at l (map (area_of new) all)) (sym (take_more areas i d within))
      (subst (AreAreaReadings pv sector_at (take i areas ++ get_or areas i d ∷ [])) (sym mapped_more)
      (readings_push pv sector_at (take i areas) (map (area_of old) read) (get_or areas i d) (area_of new area) are is))

  -- the readings of a disk
  pub readings_grown : (areas : List AreaFound) (i : ℕ) (d : AreaFound) → i < length areas
      → (before there : Option Record) (pv : ℕ) (so_far : List Span) → ReadsTold before so_far there
      → HoldsOfDisk before pv (λ sector_at. AreAreaReadings pv sector_at (take i areas) (map (area_of old) read))
      → HoldsOfDisk there pv (λ sector_at. IsAreaReading pv sector_at (get_or areas i d) (area_of new area))
      → HoldsOfDisk before pv (λ sector_at. AreAreaReadings pv sector_at (take (i + 1) areas) (map (area_of new) all))
  readings_grown areas i d within before there pv so_far reads are is =
      holds_both before pv (λ sector_at. AreAreaReadings pv sector_at (take i areas) (map (area_of old) read))
      (λ sector_at. IsAreaReading pv sector_at (get_or areas i d) (area_of new area))
      (λ sector_at. AreAreaReadings pv sector_at (take (i + 1) areas) (map (area_of new) all))
      (λ sector_at a b. readings_more areas i d within pv sector_at a b)
      are
      (holds_before before there so_far pv (λ sector_at. IsAreaReading pv sector_at (get_or areas i d) (area_of new area)) reads is)

  -- their places
  pub places_grown : (areas : List AreaFound) (i : ℕ) (d : AreaFound) → i < length areas
      → HavePlaces (take i areas) (map (area_of old) read) → HasPlace (get_or areas i d) (area_of new area)
      → HavePlaces (take (i + 1) areas) (map (area_of new) all)
  places_grown areas i d within are is =
      subst (λ (l : List AreaFound). HavePlaces l (map (area_of new) all)) (sym (take_more areas i d within))
      (subst (HavePlaces (take i areas ++ get_or areas i d ∷ [])) (sym mapped_more)
      (places_push (take i areas) (map (area_of old) read) (get_or areas i d) (area_of new area) are is))

  -- their numbers
  pub numbers_grown : GivesAtMost (length new) area.gives → AreasGiveAtMost (length new) all
  numbers_grown is =
      subst (AreasGiveAtMost (length new)) (sym pushed)
      (numbers_push (length new) read area (more_areas (length old) (length new) (continues_count old new goes_on) read numbers) is)

-- ---- their texts

-- the spans of one area more
pub text_spans_more : (pv : ℕ) (areas : List AreaFound) (i : ℕ) (d : AreaFound) → i < length areas
    → text_spans_in pv (take (i + 1) areas) ≡ text_spans_in pv (take i areas) ++ spans_in pv (get_or areas i d)
text_spans_more pv areas i d lt =
    ap (flat_map (spans_in pv)) (take_more areas i d lt)
    ∙ flat_map-append (spans_in pv) (take i areas) (get_or areas i d ∷ [])
    ∙ ap (λ (l : List Span). text_spans_in pv (take i areas) ++ l) (append-nil (spans_in pv (get_or areas i d)))

-- the spans of the areas before one, of that one and of those after it
pub text_spans_all : (pv : ℕ) (areas : List AreaFound) (i : ℕ) (d : AreaFound) → i < length areas
    → (text_spans_in pv (take i areas) ++ spans_in pv (get_or areas i d)) ++ text_spans_in pv (drop (i + 1) areas) ≡ text_spans_in pv areas
text_spans_all pv areas i d lt =
    ap (λ (l : List Span). l ++ text_spans_in pv (drop (i + 1) areas)) (sym (text_spans_more pv areas i d lt))
    ∙ sym (flat_map-append (spans_in pv) (take (i + 1) areas) (drop (i + 1) areas))
    ∙ ap (flat_map (spans_in pv)) (take-append-drop (i + 1) areas)
