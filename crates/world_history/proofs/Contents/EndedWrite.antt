-- A write has ended: its piece took place, and the machine is what the disks show then; or it failed, and left each of its sectors old or
-- brought.
use Rattle.std.proofs.Common.{◌≡◌, ◌⊎◌, ◌<◌, ℕ, ◌+◌, Bool, true, List, [], ◌∷◌, length, map, get_or, slice_get, Option, Some, inl, inr}
use Rattle.std.proofs.Common.{refl, ap, ◌∙◌}
use Rattle.std.specs.List.{range_with_len}
use Rattle.std.proofs.lemmas.List.FromFn.{get_or-map-range_with_len, length-map-range_with_len}
use Rattle.sector_base.specs.declared.places.Piece.{Piece}
use Rattle.sector_base.specs.declared.spans.Span.{Span}
use Rattle.lvm_script.specs.declared.line.Line.{Line}
use Rattle.data_lines.specs.DataLines.{value_for, writes}
use Rattle.disk_model.specs.Steps.{Completed, Step, Writing}
use Rattle.volume_history.specs.Chronicles.{ChronicleEntry, Failed, Origin, Took, begun_in, origin_on}
use Rattle.volume_history.specs.Laws.{HistoriesGrow}
use Rattle.volume_history.specs.Legal.{IsOrdered}
use Rattle.volume_history.specs.Placed.{Place, volumes_of}
use Rattle.volume_history.specs.Replay.{places_named}
use Rattle.line_table.specs.Machine.{name_of}
use Rattle.world_history.specs.Shown.{Shows, StandsIn, now_of, places_keyed, shown_state}
use Rattle.world_history.proofs.Contents.Entered.{machine_step, so_far_step}
use Rattle.world_history.proofs.Contents.Landing.{shows_failed, shows_wrote}
use Rattle.world_history.proofs.Contents.Spans.{old_or_new, written_others, written_well}

-- different sectors of the volumes stand at different places
abbrev pub PlacesDiffer : Origin → Type 0
PlacesDiffer o =
    (key x other y : ℕ) (p : Place) → slice_get (places_keyed (volumes_of o.version) key) x ≡ Some p
    → slice_get (places_keyed (volumes_of o.version) other) y ≡ Some p
    → (key ≡ other) × (x ≡ y)

module _ (grow : HistoriesGrow) (o : Origin) (es : List ChronicleEntry) (tag m n : ℕ) (span : Span) (sectors : List (List ℕ)) (well : Bool)
    (fresh : List Bool) (piece : Piece) (line : Line) (key : Option ℕ) (s : Shows o es) (stands : StandsIn o.version piece span)
    (differ : PlacesDiffer o) (begun : begun_in es n ≡ Some (line, key)) (writing : writes line.command ≡ true)
    (brings : sectors ≡ map (value_for line.command) (range_with_len piece.first piece.count))
    (now : m ≡ length (Completed tag (Writing span sectors) well fresh ∷ o.told.steps)) where
  abbrev step : Step
  step = Completed tag (Writing span sectors) well fresh

  many : length sectors ≡ piece.count
  many =
      ap (λ (l : List (List ℕ)). length l) brings
      ∙ length-map-range_with_len (value_for line.command) piece.first piece.count

  pub write_took : well ≡ true → IsOrdered o.start es (Took m n piece) → Shows (origin_on step o) (Took m n piece ∷ es)
  write_took good ordered =
      shows_wrote grow (origin_on step o) es m n line key piece (so_far_step grow o es step s.so_far) begun now (now_of o.told)
      (machine_step o es step s) writing
      (written_others (volumes_of o.version) piece stands.inside span stands.there stands.many differ o.told.opened o.told.steps tag sectors
      well fresh)
      stands.inside ordered
      (written_well (volumes_of o.version) piece stands.inside span stands.there stands.many differ o.told.opened o.told.steps tag sectors
      well fresh good many ∙ brings)

  pub write_failed : places_named (volumes_of o.version) (name_of (shown_state o.version (now_of o.told)).volumes piece.volume)
      ≡ places_keyed (volumes_of o.version) piece.volume
      → IsOrdered o.start es (Failed m n piece)
      → Shows (origin_on step o) (Failed m n piece ∷ es)
  write_failed named ordered =
      shows_failed grow (origin_on step o) es m n line key piece (so_far_step grow o es step s.so_far) begun now (now_of o.told)
      (machine_step o es step s) writing
      (written_others (volumes_of o.version) piece stands.inside span stands.there stands.many differ o.told.opened o.told.steps tag sectors
      well fresh)
      stands.inside named ordered
      (λ i lt. brought i lt (old_or_new (volumes_of o.version) piece stands.inside span stands.there stands.many differ o.told.opened
      o.told.steps tag sectors well fresh many i lt))
    where
      brought : (i : ℕ) → i < piece.count → {value old : List ℕ} → (value ≡ old) ⊎ (value ≡ get_or sectors i [])
          → (value ≡ old) ⊎ (value ≡ value_for line.command (piece.first + i))
      brought i lt (inl is) = inl is
      brought i lt (inr is) =
          inr (is ∙ ap (λ (l : List (List ℕ)). get_or l i []) brings
          ∙ get_or-map-range_with_len (value_for line.command) piece.first piece.count i (piece.first + i) [] lt refl)
