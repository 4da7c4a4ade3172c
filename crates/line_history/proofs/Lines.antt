-- What the parts of a run of one line give for its history, by how far it came.
use Rattle.std.proofs.Common.{◌≡◌, ◌≤◌, ◌<◌, ℕ, ◌-◌, ◌&&◌, Bool, true, false, if◌then◌else◌, List, [], ◌∷◌, ◌++◌, length, Option, Some}
use Rattle.std.proofs.Common.{None, inl, inr, ⊎_elim, refl, sym, ap, subst, ◌∙◌, arith}
use Rattle.command_table.specs.declared.command.Command.{Command}
use Rattle.command_table.specs.declared.command.Command.TheVariants.{Lvcreate}
use Rattle.data_lines.specs.DataLines.{zero_sector}
use Rattle.disk_model.proofs.EveryMoment.{since_weaken}
use Rattle.disk_model.proofs.NowStands.{now_base}
use Rattle.disk_model.proofs.SectorImages.{leaves_by_images}
use Rattle.disk_model.proofs.StepsSince.{steps_joined}
use Rattle.disk_model.specs.CrashValues.{IsImage}
use Rattle.disk_model.specs.Durability.{IsBase}
use Rattle.disk_model.specs.Moments.{EveryImageSince, at_moment}
use Rattle.disk_model.specs.Steps.{Image, Step, Record, now_after, steps_on}
use Rattle.meta_model.specs.declared.group.Group.{Group}
use Rattle.disk_batch.specs.InTurn.{WritesInTurn, with_batches}
use Rattle.vg_scan.specs.Scans.{IsScanOf}
use Rattle.group_plan.specs.declared.state.Change.{Change}
use Rattle.group_ops.specs.Laws.{state_in}
use Rattle.group_ops.specs.Planning.{change_of}
use Rattle.vg_repair.specs.Repaired.{repaired_of}
use Rattle.image_scans.proofs.CommitScans.{none_unread}
use Rattle.image_scans.proofs.LineScans.{images_scan, last_scans, unpublished_scans}
use Rattle.image_scans.proofs.Zeroes.{zeroes_kept}
use Rattle.image_scans.specs.Laws.{CanCarryOut, FindsAtEnd, FindsOnTheWay, in_spans, none_out, version_of}
use Rattle.vg_scan.specs.Versions.{FindsVersion, Version, version_in}
use Rattle.image_scans.proofs.CommitLine.{is_state}
use Rattle.repair_scans.specs.Laws.{RepairedScans}
use Rattle.repair_scans.proofs.FoundGroup.{found_accepted}
use Rattle.volume_history.proofs.CommandKinds.{commit_kind}
use Rattle.volume_history.proofs.MadeVersions.{changes_commit, changes_make}
use Rattle.volume_history.proofs.Reshaped.{zeroes_stand}
use Rattle.volume_history.proofs.ZeroedVolume.{new_zeroes_stand}
use Rattle.volume_history.specs.Candidates.{place_at}
use Rattle.volume_history.proofs.EarlierMoments.{now_before}
use Rattle.volume_history.proofs.Phases.{finds_with}
use Rattle.volume_history.specs.Chronicles.{Origin, is_number, left_out, now_at, origin_at, wrote_disk}
use Rattle.volume_history.specs.Changing.{ChangesVolumes}
use Rattle.volume_history.specs.Commands.{commits, created_disk}
use Rattle.volume_history.specs.Legal.{Makes, version_made}
use Rattle.volume_history.specs.Parts.{IsZeroAt}
use Rattle.volume_history.specs.Placed.{Place, volumes_of}
use Rattle.volume_history.specs.Quiet.{AllUntouched}
use Rattle.volume_history.specs.Reshaping.{MakesVersion}
use Rattle.volume_history.specs.Single.{CommitLaw, DoneLaw, IsStill, StaysLaw, begun_entries, end_of, ZeroesStand}
use Rattle.line_history.proofs.NewZeroes.{line_zeroed, zero_cases}
use Rattle.line_history.proofs.Stays.{all_stay}
use Rattle.line_history.proofs.Finding.{KeepsPlaces, can_carry_out, can_start, finds_before, finds_start, finds_zeroing, found_before}
use Rattle.line_history.proofs.Finding.{image_of_base, kept_after, kept_before, kept_zeroing, one_image, repaired_base, same_version}
use Rattle.line_history.proofs.Finding.{scan_zeroed, zeroed_base}
use Rattle.line_history.proofs.Images.{IsAfter, IsBefore, after_zeros, before_start, begun_zeros, during, from_start, joined}
use Rattle.line_history.proofs.Images.{line as line_of, none_zeroed, since_start, start_base, submitted_after, until_end, zeroed_base_is}
use Rattle.line_history.proofs.Images.{zeroed_last, zeros_last}
use Rattle.line_history.proofs.ChangedVolumes.{commit_changes_volumes}
use Rattle.line_history.proofs.Untouched.{places_untouched}
use Rattle.line_history.proofs.Origins.{origin, origin_of, still}
use Rattle.line_history.proofs.Seen.{moment_seen, now_seen, record_before, record_drop, steps_more}
use Rattle.line_history.specs.LineRun.{Given, RunsLine, Stage, batches_in, is_done, is_repaired, is_zeroed, zeros_begun}

-- the version that a change makes
made_version : (change : Change) (group : Group) → change.group ≡ Some group → version_made change ≡ Some (version_of group change)
made_version change group is = ap (λ (o : Option Group). version_made (record change { group = o })) is

module _ (scans : RepairedScans) (g : Given) (stage : Stage) (start ended : Record) (r : RunsLine g stage start ended) where
  abbrev version : Option Version
  version = version_in g.found

  -- where every image keeps the places, no volume is touched
  untouched_by : (m : ℕ) → ((image : Image) → IsImage (at_moment m ended) image → KeepsPlaces g image)
      → AllUntouched g.base (volumes_of version) (at_moment m ended)
  untouched_by m keeps =
      places_untouched g.base g.sizes g.found (at_moment m ended) r.given.scan r.given.shape
      (record_drop (length ended.steps - m) ended.steps r.record_is) keeps

  until_start : (m : ℕ) → length g.handed.steps ≤ m → m ≤ length start.steps → (image : Image) → IsImage (at_moment m start) image
      → IsBefore g stage start ended r image
  until_start m ge le image is = before_start g stage start ended r m ge le image is

  -- ---- the run ended before all was repaired
  module _ (unrepaired : is_repaired stage ≡ false) where
    at_once : ended ≡ start
    at_once = r.unzeroed (none_zeroed stage unrepaired) ∙ r.unrepaired unrepaired

    at_end : (m : ℕ) → length g.handed.steps ≤ m → m ≤ length ended.steps → (image : Image) → IsImage (at_moment m ended) image
        → IsBefore g stage start ended r image
    at_end m ge le image is =
        let same : ended ≡ start = at_once in
        until_start m ge (subst (λ (t : Record). m ≤ length t.steps) same le) image
        (subst (λ (t : Record). IsImage (at_moment m t) image) same is)

    pub is_end : ended ≡ steps_on (r.repair.since ++ r.since) g.handed
    is_end = at_once ∙ steps_joined g.handed r.opened start r.since r.repair.since r.opening r.repair.steps

    abbrev pub origin_handed : Origin
    origin_handed =
        origin g.handed g.handed ended [] (r.repair.since ++ r.since) refl is_end r.record_is g.base g.base r.given.base r.given.base
        g.sizes g.names g.clock version

    -- the start is the hand-in
    pub stays_handed : StaysLaw origin_handed
    stays_handed = record {
      still =
          still g.handed g.handed ended [] (r.repair.since ++ r.since) refl is_end r.record_is g.base g.base r.given.base r.given.base
          g.sizes g.names g.clock version
          (λ m ge le image is. finds_before scans g stage start ended r image
          (at_end m ge (omega (arith, le, steps_more g.handed ended (r.repair.since ++ r.since) is_end)) image is))
          (λ m ge le. untouched_by m (λ image is. kept_before scans g stage start ended r image (at_end m ge le image is)))
          (found_before scans g stage start ended r);
      after = λ m ge le image is. finds_before scans g stage start ended r image (at_end m ge le image is);
    }

  -- ---- all was repaired
  module _ (repaired : is_repaired stage ≡ true) where
    abbrev pub later : List Step
    later = (since_start g stage start ended r repaired).0

    pub is_later : ended ≡ steps_on later start
    is_later = (since_start g stage start ended r repaired).1

    pub is_start : start ≡ steps_on (r.repair.since ++ r.since) g.handed
    is_start = steps_joined g.handed r.opened start r.since r.repair.since r.opening r.repair.steps

    pub starts_at : IsBase start (repaired_base g)
    starts_at = start_base g stage start ended r repaired

    abbrev pub origin_repaired : Origin
    origin_repaired =
        origin g.handed start ended (r.repair.since ++ r.since) later is_start is_later r.record_is g.base (repaired_base g) r.given.base
        starts_at g.sizes g.names g.clock version

    -- every image keeps the places
    kept_since : EveryImageSince (length start.steps) ended (KeepsPlaces g)
    kept_since = by (is_zeroed stage) refl
      where
        by : (z : Bool) → is_zeroed stage ≡ z → EveryImageSince (length start.steps) ended (KeepsPlaces g)
        by true zeroed =
            from_start g stage start ended r repaired zeroed (KeepsPlaces g)
            (λ image is. kept_zeroing scans g stage start ended r repaired image is)
            (since_weaken ended (length r.zeroed.steps) (length r.zeroed.steps) (IsAfter g stage start ended r) (KeepsPlaces g)
            (omega arith)
            (λ image is. kept_after scans g stage start ended r repaired (begun_zeros stage zeroed) image is)
            (after_zeros g stage start ended r repaired zeroed))
        by false unzeroed =
            until_end g stage start ended r repaired (KeepsPlaces g) unzeroed
            (λ image is. kept_zeroing scans g stage start ended r repaired image is)

    all_kept : EveryImageSince (length g.handed.steps) ended (KeepsPlaces g)
    all_kept =
        joined start ended later is_later (length g.handed.steps) (KeepsPlaces g)
        (steps_more g.handed start (r.repair.since ++ r.since) is_start)
        (since_weaken start (length g.handed.steps) (length g.handed.steps) (IsBefore g stage start ended r) (KeepsPlaces g) (omega arith)
        (λ image is. kept_before scans g stage start ended r image is) (before_start g stage start ended r))
        kept_since

    pub is_still : IsStill origin_repaired
    is_still =
        still g.handed start ended (r.repair.since ++ r.since) later is_start is_later r.record_is g.base (repaired_base g) r.given.base
        starts_at g.sizes g.names g.clock version
        (λ m ge le image is. finds_before scans g stage start ended r image
        (until_start m ge le image (subst (λ (t : Record). IsImage t image) (moment_seen start ended later is_later m le) is)))
        (λ m ge le. untouched_by m (λ image is. all_kept m ge le image is))
        (finds_start scans g stage start ended r repaired)

    -- the run ended before all zeros were written
    pub stays_repaired : is_zeroed stage ≡ false → StaysLaw origin_repaired
    stays_repaired unzeroed = record {
      still = is_still;
      after =
          until_end g stage start ended r repaired (λ image. FindsVersion g.sizes image none_out version) unzeroed
          (λ image is. finds_zeroing scans g stage start ended r repaired image is);
    }

    abbrev pub change : Change
    change = change_of (state_in (repaired_of g.found) g.names g.backup) g.line g.clock g.given

    -- ---- its zeros were begun
    module _ (zeros : zeros_begun stage ≡ true) where
      module _ (group : Group) (made : change.group ≡ Some group) where
        pub changes : ChangesVolumes g.line.command version (Some (version_of group change))
        changes =
            subst (λ (v : Option Version). ChangesVolumes g.line.command v (Some (version_of group change)))
            (same_version scans g stage start ended r repaired)
            (commit_changes_volumes (repaired_base g) g.sizes (repaired_of g.found) g.names g.backup g.line g.clock g.given
            (can_start scans g stage start ended r repaired zeros) group made)

        commits_it : commits g.line.command ≡ true
        commits_it = changes_commit g.line.command version (Some (version_of group change)) changes

        pub none_created : created_disk g.names g.line.command ≡ None
        none_created = (commit_kind g.names g.line.command commits_it).1

      -- the line makes this version at a moment of a run that goes on so, if a read gave the base with all zeros then
      module _ (told : Record) (m : ℕ) (next : Option Version) (creates_none : created_disk g.names g.line.command ≡ None) where
        abbrev at : Origin
        at = origin_at m (origin_of g.handed (length start.steps) g.sizes g.names g.clock version told)

        -- no disk is left out once it was begun
        none_left : (pv : ℕ) → left_out at (begun_entries at g.line) m pv ≡ false
        none_left pv =
            ap (λ (d : Option ℕ). if is_number d pv && wrote_disk at (begun_entries at g.line) m (length start.steps) 0 g.line pv then true
            else false) creates_none

        pub makes_then : now_at at m ≡ zeroed_base g → next ≡ version_made change → Makes at (begun_entries at g.line) m g.line next
        makes_then now_there makes = record {
          planned = r.given.planned;
          before = record {
            found = repaired_of g.found;
            scan =
                subst (λ (i : Image). IsScanOf i g.sizes (repaired_of g.found)) (sym now_there)
                (scan_zeroed scans g stage start ended r repaired zeros);
            left = λ pv within. none_unread (repaired_of g.found) (r.repaired_whole repaired) pv ∙ sym (none_left pv);
            whole = (r.repaired_whole repaired).there;
            version_is = same_version scans g stage start ended r repaired;
          };
          given = g.given;
          backup = g.backup;
          given_back = r.given_back zeros;
          takes = r.takes zeros;
          accepted = r.passes zeros;
          change = makes;
        }

    -- ---- its zeros were written, and its batches begun
    module _ (zeroed : is_zeroed stage ≡ true) where
      zeros : zeros_begun stage ≡ true
      zeros = begun_zeros stage zeroed

      abbrev pub line : WritesInTurn r.zeroed (batches_in g) (is_done stage) ended
      line = line_of g stage start ended r repaired zeroed

      begins : length start.steps ≤ length r.zeroed.steps
      begins = zeros_last g stage start ended r repaired

      ends : length r.zeroed.steps ≤ length ended.steps
      ends = zeroed_last g stage start ended r repaired zeroed

      can : CanCarryOut (zeroed_base g) g.sizes (repaired_of g.found) g.names g.backup g.line g.clock g.given
      can = can_carry_out scans g stage start ended r repaired zeros

      -- until the zeros are written an image shows the version that stood
      pub before_commit : (m : ℕ) → length start.steps ≤ m → m ≤ length r.zeroed.steps → (image : Image) → IsImage (at_moment m ended) image
          → FindsVersion g.sizes image none_out version
      before_commit m ge le image is =
          finds_zeroing scans g stage start ended r repaired image
          (during g stage start ended r repaired m ge le image
          (subst (λ (t : Record). IsImage t image) (moment_seen r.zeroed ended line.since line.steps m le) is))

      -- one from then on is on the way of the commit
      pub way_at : (m : ℕ) → length r.zeroed.steps ≤ m → m ≤ length ended.steps → (image : Image) → IsImage (at_moment m ended) image
          → FindsOnTheWay g.sizes image (repaired_of g.found) change change.group
      way_at m ge le image is =
          images_scan (zeroed_base g) g.sizes (repaired_of g.found) g.names g.backup g.line g.clock g.given can image
          (after_zeros g stage start ended r repaired zeroed m ge le image is)

      -- and each sector of the zeros has them
      pub zeros_stand : (m : ℕ) → length r.zeroed.steps ≤ m → m ≤ length ended.steps → (image : Image) → IsImage (at_moment m ended) image
          → (disk sector : ℕ) → in_spans change.zero disk sector ≡ true → image disk sector ≡ zero_sector
      zeros_stand m ge le image is disk sector among =
          zeroes_kept (repaired_base g) g.sizes (repaired_of g.found) g.names g.backup g.line g.clock g.given
          (can_start scans g stage start ended r repaired zeros) image
          (after_zeros g stage start ended r repaired zeroed m ge le image is) disk sector among

      -- so that nothing else may be left there
      pub zeros_left : (m : ℕ) → length r.zeroed.steps ≤ m → m ≤ length ended.steps → (place : Place)
          → in_spans change.zero place.disk place.sector ≡ true → IsZeroAt (origin_at m origin_repaired) place
      zeros_left m ge le place among = record {
        each =
            (leaves_by_images (at_moment m ended) place.disk place.sector (λ value. value ≡ zero_sector)
            (record_drop (length ended.steps - m) ended.steps r.record_is)
            (λ image is. zeros_stand m ge le image is place.disk place.sector among)).each;
      }

      -- and once all is done it is that with all batches
      abbrev pub done_image : Image
      done_image = with_batches (batches_in g) (zeroed_base g)

      pub done_finds : FindsAtEnd g.sizes done_image (repaired_of g.found) change change.group
      done_finds = last_scans (zeroed_base g) g.sizes (repaired_of g.found) g.names g.backup g.line g.clock g.given can

      pub done_base : is_done stage ≡ true → IsBase ended done_image
      done_base done = line.lasting done (zeroed_base g) (zeroed_base_is g stage start ended r repaired zeroed)

      pub last_image : is_done stage ≡ true → (image : Image) → IsImage ended image → image ≡ done_image
      last_image done image is = image_of_base ended done_image image (done_base done) is

      pub last_now : is_done stage ≡ true → now_at origin_repaired (end_of origin_repaired) ≡ done_image
      last_now done =
          now_seen ended ended [] refl ∙ one_image (now_after ended.opened ended.steps) done_image
          (now_base ended done_image r.record_is (done_base done))

      -- ---- a commit
      module _ (group : Group) (made : change.group ≡ Some group) where
        abbrev pub next : Option Version
        next = Some (version_of group change)

        abbrev opened : ℕ
        opened = length r.zeroed.steps

        now_there : now_at (origin_at opened origin_repaired) opened ≡ zeroed_base g
        now_there =
            now_before origin_repaired opened opened (omega arith) ends
            ∙ now_seen r.zeroed ended line.since line.steps
            ∙ one_image (now_after r.zeroed.opened r.zeroed.steps) (zeroed_base g)
            (now_base r.zeroed (zeroed_base g) (record_before r.zeroed ended line.since line.steps r.record_is)
            (zeroed_base_is g stage start ended r repaired zeroed))

        makes_version : MakesVersion g.line.command version next
        makes_version = changes_make g.line.command version next (changes zeros group made)

        -- only zeros may be left where a volume begins that the line makes
        begins_zeroed : (m : ℕ) → opened ≤ m → m ≤ length ended.steps → ZeroesStand (origin_at m origin_repaired) g.line.command next
        begins_zeroed m ge le =
            let starts : CanCarryOut (repaired_base g) g.sizes (repaired_of g.found) g.names g.backup g.line g.clock g.given =
            can_start scans g stage start ended r repaired zeros in
            ⊎_elim
            (λ none. zeroes_stand (origin_at m origin_repaired) g.line.command next none makes_version)
            (λ created.
            let own : ChangesVolumes (Lvcreate created.0) version next =
            subst (λ (c : Command). ChangesVolumes c version next) (sym created.1) (changes zeros group made) in
            subst (λ (c : Command). ZeroesStand (origin_at m origin_repaired) c next) created.1
            (new_zeroes_stand (origin_at m origin_repaired) created.0 next own
            (λ x within low.
            zeros_left m ge le (place_at own.0.places x)
            (line_zeroed (repaired_of g.found) g.names g.backup g.clock g.given (r.repaired_shape repaired)
            (is_state (repaired_base g) g.sizes (repaired_of g.found) g.names g.backup g.line g.clock g.given starts)
            (found_accepted (repaired_base g) g.sizes (repaired_of g.found) starts.scan) r.given.time g.line created.0 created.1
            r.given.planned (r.takes zeros) (r.passes zeros) group made own.0
            (own.2 ∙ ap (λ (v : Option Version). volumes_of v ++ own.0 ∷ []) (sym (same_version scans g stage start ended r repaired))) x
            within low))))
            (zero_cases g.line.command)

        pub commit_law : CommitLaw origin_repaired g.line opened next
        commit_law = record {
          still = is_still;
          from = begins;
          until = ends;
          commits_is = commits_it zeros group made;
          keeps = makes_version;
          zeroed = begins_zeroed;
          before = λ m ge lt image is. before_commit m ge (omega (arith, lt)) image is;
          makes = makes_then zeros ended opened next (none_created zeros group made) now_there (sym (made_version change group made));
          between = λ m ge le image is.
              ⊎_elim
              (λ old. inl (subst (λ (v : Option Version). FindsVersion g.sizes image none_out v)
              (same_version scans g stage start ended r repaired) old))
              (λ new. inr new)
              (subst (λ (o : Option Group). FindsOnTheWay g.sizes image (repaired_of g.found) change o) made (way_at m ge le image is));
        }

        -- where its last batch wasn't begun the version that stood is in force
        pub stays_unpublished : line.submitted < length (batches_in g) → StaysLaw origin_repaired
        stays_unpublished less = record {
          still = is_still;
          after =
              from_start g stage start ended r repaired zeroed (λ image. FindsVersion g.sizes image none_out version)
              (λ image is. finds_zeroing scans g stage start ended r repaired image is)
              (λ m ge le image is.
              subst (λ (v : Option Version). FindsVersion g.sizes image none_out v) (same_version scans g stage start ended r repaired)
              (unpublished_scans (zeroed_base g) g.sizes (repaired_of g.found) g.names g.backup g.line g.clock g.given can image
              line.submitted less
              (submitted_after g stage start ended r repaired zeroed m ge le image is) group made));
        }

        pub finds_next : FindsVersion g.sizes done_image none_out next
        finds_next = subst (λ (o : Option Group). FindsAtEnd g.sizes done_image (repaired_of g.found) change o) made done_finds

        pub done_law : is_done stage ≡ true → DoneLaw origin_repaired next
        done_law done = record {
          after = λ image is. subst (λ (i : Image). FindsVersion g.sizes i none_out next) (sym (last_image done image is)) finds_next;
          untouched =
              subst (λ (i : Image). AllUntouched i (volumes_of next) ended) (sym (last_now done))
              (all_stay done_image ended (done_base done) (volumes_of next));
          found =
              subst (λ (i : Image). FindsVersion g.sizes i none_out next) (sym (last_now done))
              (finds_with g.sizes done_image none_out none_out next (λ pv. refl) finds_next);
        }
