-- What a piece that writes comes to: it took place, where the disks show what its line brings, or failed, where each of its sectors is
-- old or brought.
use Rattle.std.proofs.Common.{◌≡◌, ◌≤◌, ◌<◌, ◌⊎◌, ℕ, ◌+◌, Bool, true, false, cond, take, drop, List, [], ◌∷◌, length, map, Option, Some}
use Rattle.std.proofs.Common.{refl, sym, ap, ◌∙◌, ◌-◌, subst, slice_get, get_or, inl, inr, arith, true≢false}
use Rattle.std.specs.List.{range_with_len}
use Rattle.sector_base.specs.declared.places.Piece.{Piece}
use Rattle.lvm_script.specs.declared.line.Line.{Line}
use Rattle.data_lines.specs.DataLines.{value_for, writes}
use Rattle.disk_model.specs.Steps.{Image, now_after}
use Rattle.line_table.specs.Machine.{Nothing, PlainState, PlainStep, Wrote, name_of, plain_after, sector_of}
use Rattle.vg_scan.specs.Versions.{Version}
use Rattle.volume_history.specs.Chronicles.{ChronicleEntry, Failed, Origin, Took, begun_in, in_force, now_at}
use Rattle.volume_history.specs.Legal.{IsOrdered, LeavesOldOrNew}
use Rattle.volume_history.specs.Laws.{HistoriesGrow}
use Rattle.volume_history.specs.Placed.{Place, values_on, volumes_of}
use Rattle.volume_history.specs.Replay.{failed_step, places_named, plain_state, shown_at, took_step}
use Rattle.world_history.specs.Shown.{IsSoFar, Shows, now_of, places_keyed, shown_state}
use Rattle.world_history.proofs.Contents.Entered.{so_far_entry}
use Rattle.world_history.proofs.Contents.Landed.{landed_state}

module _ (grow : HistoriesGrow) (o : Origin) (es : List ChronicleEntry) (m n : ℕ) (line : Line) (key : Option ℕ) (piece : Piece)
    (so : IsSoFar o es) (begun : begun_in es n ≡ Some (line, key)) (now : m ≡ length o.told.steps) where
  -- ---- a line that writes, where the disks showed the machine before its piece ended

  module _ (old : Image) (machine : plain_state o es ≡ shown_state o.version old) (writing : writes line.command ≡ true)
      (others : (key x : ℕ) (p : Place) → slice_get (places_keyed (volumes_of o.version) key) x ≡ Some p
      → (key ≡ piece.volume → piece.first ≤ x → x < piece.first + piece.count → ⊥)
      → now_of o.told p.disk p.sector ≡ old p.disk p.sector)
      (inside : piece.first + piece.count ≤ length (places_keyed (volumes_of o.version) piece.volume)) where
    -- what a read gives in the piece
    abbrev shown : List (List ℕ)
    shown = take piece.count (drop piece.first (values_on (now_of o.told) (places_keyed (volumes_of o.version) piece.volume)))

    abbrev wrote : List (List ℕ) → PlainStep
    wrote values = Wrote piece.volume piece.first values

    after_shown : plain_after (plain_state o es) (wrote shown) ≡ shown_state o.version (now_of o.told)
    after_shown =
        ap (λ (s : PlainState). plain_after s (wrote shown)) machine
        ∙ sym (landed_state o.version piece old (now_of o.told) others inside)

    pub shows_wrote : IsOrdered o.start es (Took m n piece)
        → take piece.count (drop piece.first (values_on (now_of o.told) (places_keyed (volumes_of o.version) piece.volume)))
        ≡ map (value_for line.command) (range_with_len piece.first piece.count)
        → Shows o (Took m n piece ∷ es)
    shows_wrote ordered is =
        let step : took_step (begun_in es n) piece ≡ wrote shown =
        ap (λ (b : Option (Line × Option ℕ)). took_step b piece) begun
        ∙ ap (λ (b : Bool). cond b (wrote (map (value_for line.command) (range_with_len piece.first piece.count))) Nothing) writing
        ∙ ap wrote (sym is) in
        record {
          so_far = so_far_entry grow o es (Took m n piece) so ordered now tt refl;
          machine = ap (plain_after (plain_state o es)) step ∙ after_shown;
        }

    image_now : now_at o m ≡ now_of o.told
    image_now =
        let none : length o.told.steps - m ≡ 0 = omega (arith, now) in
        ap (λ (k : ℕ). now_after o.told.opened (drop k o.told.steps)) none

    module _ (named : places_named (volumes_of o.version) (name_of (shown_state o.version old).volumes piece.volume)
        ≡ places_keyed (volumes_of o.version) piece.volume) where
      shown_is : shown_at (in_force o es) (plain_state o es) (now_at o m) piece ≡ shown
      shown_is =
          ap (λ (v : Option Version). shown_at v (plain_state o es) (now_at o m) piece) so.force
          ∙ ap (λ (s : PlainState). shown_at o.version s (now_at o m) piece) machine
          ∙ ap (λ (i : Image). shown_at o.version (shown_state o.version old) i piece) image_now
          ∙ ap (λ (ps : List Place). take piece.count (drop piece.first (values_on (now_of o.told) ps))) named

      -- each of its sectors is old, or what its line brings
      abbrev IsOldOrNew : ℕ → List ℕ → Type 0
      IsOldOrNew i value =
          (value ≡ sector_of (shown_state o.version old) piece.volume (piece.first + i))
          ⊎ (value ≡ value_for line.command (piece.first + i))

      left_so : (i : ℕ) → IsOldOrNew i (get_or shown i [])
          → (get_or (shown_at (in_force o es) (plain_state o es) (now_at o m) piece) i []
          ≡ sector_of (plain_state o es) piece.volume (piece.first + i))
          ⊎ (get_or (shown_at (in_force o es) (plain_state o es) (now_at o m) piece) i [] ≡ value_for line.command (piece.first + i))
      left_so i (inl is) =
          inl (ap (λ (l : List (List ℕ)). get_or l i []) shown_is ∙ is
          ∙ ap (λ (s : PlainState). sector_of s piece.volume (piece.first + i)) (sym machine))
      left_so i (inr is) = inr (ap (λ (l : List (List ℕ)). get_or l i []) shown_is ∙ is)

      pub shows_failed : IsOrdered o.start es (Failed m n piece)
          → ((i : ℕ) → i < piece.count
          → IsOldOrNew i
          (get_or (take piece.count (drop piece.first (values_on (now_of o.told) (places_keyed (volumes_of o.version) piece.volume)))) i
          []))
          → Shows o (Failed m n piece ∷ es)
      shows_failed ordered each =
          let step : failed_step (begun_in es n) (in_force o es) (plain_state o es) (now_at o m) piece ≡ wrote shown =
          ap (λ (b : Option (Line × Option ℕ)). failed_step b (in_force o es) (plain_state o es) (now_at o m) piece) begun
          ∙ ap (λ (b : Bool). cond b (wrote (shown_at (in_force o es) (plain_state o es) (now_at o m) piece)) Nothing) writing
          ∙ ap wrote shown_is in
          record {
            so_far =
                so_far_entry grow o es (Failed m n piece) so ordered now
                (subst (λ (b : Option (Line × Option ℕ)). LeavesOldOrNew o es b m piece) (sym begun) (λ i lt writes. left_so i (each i lt)))
                refl;
            machine = ap (plain_after (plain_state o es)) step ∙ after_shown;
          }

  -- ---- a line that reads

  module _ (machine : plain_state o es ≡ shown_state o.version (now_of o.told)) (reading : writes line.command ≡ false) where
    pub shows_read : IsOrdered o.start es (Took m n piece) → Shows o (Took m n piece ∷ es)
    shows_read ordered =
        let step : took_step (begun_in es n) piece ≡ Nothing =
        ap (λ (b : Option (Line × Option ℕ)). took_step b piece) begun
        ∙ ap (λ (b : Bool). cond b (Wrote piece.volume piece.first (map (value_for line.command) (range_with_len piece.first piece.count)))
        Nothing) reading in
        record {
          so_far = so_far_entry grow o es (Took m n piece) so ordered now tt refl;
          machine = ap (plain_after (plain_state o es)) step ∙ machine;
        }

    pub shows_unread : IsOrdered o.start es (Failed m n piece) → Shows o (Failed m n piece ∷ es)
    shows_unread ordered =
        let step : failed_step (begun_in es n) (in_force o es) (plain_state o es) (now_at o m) piece ≡ Nothing =
        ap (λ (b : Option (Line × Option ℕ)). failed_step b (in_force o es) (plain_state o es) (now_at o m) piece) begun
        ∙ ap
        (λ (b : Bool). cond b (Wrote piece.volume piece.first (shown_at (in_force o es) (plain_state o es) (now_at o m) piece)) Nothing)
        reading in
        record {
          so_far =
              so_far_entry grow o es (Failed m n piece) so ordered now
              (subst (λ (b : Option (Line × Option ℕ)). LeavesOldOrNew o es b m piece) (sym begun)
              (λ i lt writes. absurd (true≢false (sym writes ∙ reading)))) refl;
          machine = ap (plain_after (plain_state o es)) step ∙ machine;
        }
