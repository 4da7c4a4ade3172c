-- What every image shows while disks are cleared behind a line's batches.
use Rattle.std.proofs.Common.{◌≡◌, ◌≤◌, ℕ, ◌-◌, Bool, true, false, List, [], ◌∷◌, ◌++◌, length, map, take, Some, refl, sym, ap, subst, ◌∙◌}
use Rattle.std.proofs.Common.{append-nil}
use Rattle.std.specs.FinSet as set
use Rattle.std.specs.Ordering.{nat_cmp}
use Rattle.std.proofs.lemmas.Bool.{true≢false}
use Rattle.sector_base.specs.declared.places.At.{At}
use Rattle.disk_model.proofs.StepsSince.{steps_joined}
use Rattle.disk_model.proofs.SectorImages.{leaves_by_images}
use Rattle.disk_model.specs.Durability.{IsBase}
use Rattle.disk_model.specs.Moments.{EveryImageSince, at_moment}
use Rattle.disk_model.specs.Record.{IsRecord}
use Rattle.disk_model.specs.Steps.{Image, Step, Record}
use Rattle.meta_model.specs.declared.group.Group.{Group}
use Rattle.volume_view.specs.Places.{primary}
use Rattle.volume_view.specs.View.{at_place}
use Rattle.disk_batch.proofs.FrontBatches.{none_front}
use Rattle.disk_batch.proofs.InTurn.{of_submitted, turns_both}
use Rattle.disk_batch.specs.InTurn.{HasFirstBatches, Put, WritesInTurn, with_batches}
use Rattle.group_ops.proofs.NoClears.{clears, none_cleared}
use Rattle.group_ops.specs.Laws.{state_in}
use Rattle.change_batches.specs.Batches.{batch_if, clear_batches, label_put}
use Rattle.vg_repair.proofs.Nothing.{leaves_all}
use Rattle.vg_repair.specs.Batches.{old_labels, stale_batches}
use Rattle.vg_repair.specs.Repaired.{repaired_of}
use Rattle.vg_repair.specs.Stale.{stale_areas, text_of}
use Rattle.image_scans.proofs.ClearPlaces.{clears_keep_places}
use Rattle.image_scans.proofs.CommitLine.{all_written}
use Rattle.vg_scan.specs.Versions.{version_in}
use Rattle.repair_scans.specs.Laws.{RepairedScans}
use Rattle.volume_history.specs.Chronicles.{Origin, now_at}
use Rattle.volume_history.specs.Placed.{volumes_of}
use Rattle.volume_history.specs.Quiet.{AllUntouched}
use Rattle.line_history.proofs.Finding.{can_carry_out, kept_after, repaired_base, zeroed_base}
use Rattle.line_history.proofs.Lines.{done_base, is_later, is_start, later, origin_repaired, starts_at}
use Rattle.line_history.proofs.LongerLaws.{longer}
use Rattle.line_history.proofs.Origins.{now_first}
use Rattle.line_history.proofs.Seen.{record_drop, steps_more}
use Rattle.line_history.proofs.Untouched.{places_kept, places_untouched}
use Rattle.line_history.specs.LineRun.{ClearsLine, Given, RunsLine, Writing, Done, batches_in, clears_in}

-- of batches that were all written less may be said
less_said : (old new : Record) (batches : List (List Put)) (well : Bool) → WritesInTurn old batches well new
    → WritesInTurn old batches false new
less_said old new batches well w = record {
  since = w.since;
  steps = w.steps;
  submitted = w.submitted;
  among = w.among;
  writes = w.writes;
  unread = w.unread;
  whole = λ went. absurd (true≢false (sym went));
  every_image = w.every_image;
  lasting = λ went. absurd (true≢false (sym went));
  now = λ went. absurd (true≢false (sym went));
}

none_behind : (first more : List (List Put)) → first ++ more ≡ [] → more ≡ []
none_behind [] more is = is
none_behind (batch ∷ first) more is = cc

module _ (scans : RepairedScans) (g : Given) (well : Bool) (start ended : Record) (c : ClearsLine g well start ended) where
  -- the image with all batches of the line
  abbrev pub made_image : Image
  made_image = with_batches (batches_in g) (zeroed_base g)

  pub made_base : IsBase c.made made_image
  made_base = done_base scans g Done start c.made c.line refl refl refl

  pub more : length c.made.steps ≤ length ended.steps
  more = steps_more c.made ended c.clears.since c.clears.steps

  -- one from then on is on the way of what clears disks, as far as it was submitted
  pub submitted_clears : EveryImageSince (length c.made.steps) ended (HasFirstBatches (take c.clears.submitted (clears_in g)) made_image)
  submitted_clears = c.clears.every_image made_image made_base

  pub clearing : EveryImageSince (length c.made.steps) ended (HasFirstBatches (clears_in g) made_image)
  clearing m ge le image is = of_submitted c.clears.submitted (clears_in g) made_image image (submitted_clears m ge le image is)

  record_at : (m : ℕ) → IsRecord (at_moment m ended).steps
  record_at m = record_drop (length ended.steps - m) ended.steps c.record_is

  -- ---- the places of the volumes that were found

  module _ (image : Image) (way : HasFirstBatches (clears_in g) made_image image) (group : Group) (there : g.found.group ≡ Some group)
      (lv sector : ℕ) (at : At) (is : primary group lv sector ≡ Some at) where
    kept_clearing : at_place image g.found.disk_of at ≡ at_place made_image g.found.disk_of at
    kept_clearing =
        clears_keep_places (zeroed_base g) made_image image g.sizes (repaired_of g.found) g.names g.backup g.line g.clock g.given group
        (can_carry_out scans g Done start c.made c.line refl refl) there way lv sector at is

    kept_all : at_place image g.found.disk_of at ≡ at_place g.base g.found.disk_of at
    kept_all =
        kept_clearing ∙ kept_after scans g Done start c.made c.line refl refl made_image (all_written (batches_in g) (zeroed_base g)) group
        there lv sector at is

  module _ (m : ℕ) (ge : length c.made.steps ≤ m) (le : m ≤ length ended.steps) where
    -- each keeps what it had once the batches were written
    pub untouched_since : AllUntouched made_image (volumes_of (version_in g.found)) (at_moment m ended)
    untouched_since =
        places_kept g.base made_image g.sizes g.found (at_moment m ended) c.line.given.scan c.line.given.shape (record_at m)
        (λ image is group there lv sector at place. kept_clearing image (clearing m ge le image is) group there lv sector at place)

    -- and so what it had at the hand-in
    untouched_base : AllUntouched g.base (volumes_of (version_in g.found)) (at_moment m ended)
    untouched_base =
        places_untouched g.base g.sizes g.found (at_moment m ended) c.line.given.scan c.line.given.shape (record_at m)
        (λ image is group there lv sector at place. kept_all image (clearing m ge le image is) group there lv sector at place)

  -- ---- the origin of the whole run

  abbrev pub made_origin : Origin
  made_origin = origin_repaired scans g Done start c.made c.line refl

  abbrev pub whole_origin : Origin
  whole_origin = longer made_origin ended c.clears.since c.clears.steps

  first_now : now_at whole_origin (length g.handed.steps) ≡ g.base
  first_now =
      let until_made : List Step = later scans g Done start c.made c.line refl in
      now_first g.handed start ended (c.line.repair.since ++ c.line.since) (c.clears.since ++ until_made)
      (is_start scans g Done start c.made c.line refl)
      (steps_joined start c.made ended until_made c.clears.since (is_later scans g Done start c.made c.line refl) c.clears.steps)
      c.record_is g.base (repaired_base g) c.line.given.base
      (starts_at scans g Done start c.made c.line refl) g.sizes g.names g.clock (version_in g.found)

  pub untouched : (m : ℕ) → length c.made.steps ≤ m → m ≤ length ended.steps
      → AllUntouched (now_at whole_origin (length g.handed.steps)) (volumes_of (version_in g.found)) (at_moment m ended)
  untouched m ge le =
      subst (λ (i : Image). AllUntouched i (volumes_of (version_in g.found)) (at_moment m ended)) (sym first_now) (untouched_base m ge le)

  -- ---- a line that clears no disk
  module _ (other : clears g.line.command ≡ false) where
    pub none_to_clear : clears_in g ≡ []
    none_to_clear =
        let found = repaired_of g.found in
        ap (λ (s : set.FinSet nat_cmp). clear_batches s found.disks found.areas)
        (none_cleared (state_in found g.names g.backup) g.line.number g.line.id g.line.command g.clock g.given c.line.given.planned other)
        ∙ none_behind (stale_batches (text_of found) (stale_areas found) ++ batch_if (map label_put (old_labels found)))
        (clear_batches set.empty found.disks found.areas) (leaves_all found (c.line.repaired_shape refl) refl refl refl).0

    -- each sector has one possible value, that once its batches were written
    pub base_stays : (m : ℕ) → length c.made.steps ≤ m → m ≤ length ended.steps → IsBase (at_moment m ended) made_image
    base_stays m ge le pv sector =
        leaves_by_images (at_moment m ended) pv sector (λ value. value ≡ made_image pv sector) (record_at m)
        (λ image is. none_front made_image image
        (subst (λ (l : List (List Put)). HasFirstBatches l made_image image) none_to_clear (clearing m ge le image is)) pv sector)

    pub ended_base : well ≡ true → IsBase ended made_image
    ended_base all =
        subst (λ (l : List (List Put)). IsBase ended (with_batches l made_image)) none_to_clear (c.clears.lasting all made_image made_base)

    pub written : WritesInTurn c.line.zeroed (batches_in g) false ended
    written =
        less_said c.line.zeroed ended (batches_in g) well
        (subst (λ (l : List (List Put)). WritesInTurn c.line.zeroed l well ended)
        (ap (λ (l : List (List Put)). batches_in g ++ l) none_to_clear ∙ append-nil (batches_in g))
        (turns_both c.line.zeroed c.made ended (batches_in g) (clears_in g) well (c.line.written refl) c.clears))

    -- so it ran as a line whose batches were begun, and may have failed
    abbrev pub as_written : RunsLine g Writing start ended
    as_written = record {
      given = c.line.given;
      opened = c.line.opened;
      since = c.line.since;
      opening = c.line.opening;
      nothing = c.line.nothing;
      repair = c.line.repair;
      fits = c.line.fits;
      repair_keeps = c.line.repair_keeps;
      repaired_shape = c.line.repaired_shape;
      repaired_whole = c.line.repaired_whole;
      zeroed = c.line.zeroed;
      zeros = c.line.zeros;
      unrepaired = λ none. absurd (true≢false none);
      written = λ begun. written;
      unzeroed = λ none. absurd (true≢false none);
      given_back = c.line.given_back;
      takes = c.line.takes;
      passes = c.line.passes;
      keeps = c.line.keeps;
      record_is = c.record_is;
    }
