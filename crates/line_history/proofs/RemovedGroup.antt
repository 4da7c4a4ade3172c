-- A vgremove: it commits no group, and what clears the disks of the group is its commit.
use Rattle.std.proofs.Common.{◌≡◌, ◌≤◌, ◌⊎◌, ℕ, ◌-◌, Bool, true, List, [], ◌∷◌, ◌++◌, length, map, take, Option, Some, None, inl, inr}
use Rattle.std.proofs.Common.{⊎_elim, refl, sym, ap, subst, ◌∙◌, arith}
use Rattle.std.specs.Prelude.{flat_map, option_map, slice_get}
use Rattle.sector_base.specs.declared.spans.Span.{Span}
use Rattle.command_table.specs.Options.{Word}
use Rattle.command_table.specs.declared.command.Command.{Command}
use Rattle.command_table.specs.declared.command.Command.TheVariants.{Vgremove}
use Rattle.line_answers.specs.declared.op_refusal.OpRefusal.TheVariants.{InUse}
use Rattle.disk_model.proofs.NowStands.{now_base}
use Rattle.disk_model.proofs.Ordered.{writes_nothing_append}
use Rattle.disk_model.proofs.StepsSince.{steps_joined}
use Rattle.disk_model.specs.CrashValues.{IsImage}
use Rattle.disk_model.specs.Durability.{IsBase}
use Rattle.disk_model.specs.Moments.{at_moment}
use Rattle.disk_model.specs.Order.{WritesNothing}
use Rattle.disk_model.specs.Steps.{Image, Step, Record, now_after, steps_on}
use Rattle.meta_model.specs.declared.group.Group.{Group}
use Rattle.meta_model.specs.declared.lv.Lv.{Lv}
use Rattle.disk_batch.proofs.FrontBatches.{none_front}
use Rattle.disk_batch.specs.InTurn.{HasFirstBatches, Put, WritesInTurn, with_batches}
use Rattle.vg_found.specs.Disks.{disks_of}
use Rattle.vg_found.specs.declared.disk.Disk.{Disk}
use Rattle.group_plan.proofs.Chained.{front_passes}
use Rattle.group_plan.specs.Committing.{named_rows, rows_where_found}
use Rattle.group_plan.specs.Judging.{first_refusal}
use Rattle.vg_plans.specs.Vgremove.{remove_rows, volume_row}
use Rattle.group_ops.specs.Planning.{change_of, refusal_of, zeroes}
use Rattle.group_ops.specs.Laws.{state_in}
use Rattle.change_batches.specs.Batches.{batch_if, zero_put}
use Rattle.vg_change.specs.LineBatches.{batches_of}
use Rattle.vg_repair.specs.Repaired.{repaired_of}
use Rattle.image_scans.proofs.RemovalScans.{removal_ends, removal_scans}
use Rattle.image_scans.specs.Laws.{CanCarryOut, none_out}
use Rattle.vg_scan.specs.Versions.{FindsVersion, Version, version_in}
use Rattle.repair_scans.specs.Laws.{RepairedScans}
use Rattle.volume_history.proofs.MadeVersions.{changes_make}
use Rattle.volume_history.proofs.EarlierMoments.{now_before}
use Rattle.volume_history.proofs.Phases.{finds_with}
use Rattle.volume_history.proofs.Reshaped.{zeroes_stand}
use Rattle.volume_history.specs.Changing.{ChangesVolumes}
use Rattle.volume_history.specs.Chronicles.{now_at, origin_at}
use Rattle.volume_history.specs.Commands.{commits, created_disk}
use Rattle.volume_history.specs.Legal.{version_made}
use Rattle.volume_history.specs.Placed.{placed_from, volumes_of}
use Rattle.volume_history.specs.Quiet.{AllUntouched}
use Rattle.volume_history.specs.Reshaping.{MakesVersion}
use Rattle.volume_history.specs.Single.{CommitLaw, DoneLaw, StaysLaw}
use Rattle.line_history.proofs.Clearing.{clearing, made_base, made_image, made_origin, more, submitted_clears, untouched, whole_origin}
use Rattle.line_history.proofs.Finding.{can_carry_out, finds_zeroed, finds_zeroing, image_of_base, one_image, same_version, zeroed_base}
use Rattle.line_history.proofs.Images.{after_zeros, all_zeros, begun_zeros, from_start, line}
use Rattle.line_history.proofs.Lines.{change, is_still, makes_then, origin_repaired}
use Rattle.line_history.proofs.LongerLaws.{stays_longer, still_longer}
use Rattle.line_history.proofs.Seen.{moment_seen, now_seen}
use Rattle.line_history.proofs.Unwritten.{newest, none_submitted, nothing_of}
use Rattle.line_history.proofs.Stays.{all_stay}
use Rattle.line_history.specs.LineRun.{ClearsLine, Given, RunsLine, Stage, Done, batches_in, clears_in, is_done, is_repaired, is_zeroed}
use Rattle.line_history.specs.LineRun.{zeros_in}

-- ---- its group has no volume

no_rows : (lvs : List (List ℕ × Lv)) → first_refusal (option_map (λ (lv : List ℕ × Lv). InUse lv.0) (slice_get lvs 0) ∷ []) ≡ None
    → lvs ≡ []
no_rows [] passes = refl
no_rows (lv ∷ lvs) passes = absurd cc

no_volumes : (vg : Word) (disks : List Disk) (o : Option Group) → first_refusal (rows_where_found o vg (remove_rows vg)) ≡ None
    → volumes_of (option_map (λ (group : Group). record { group = group; disk_of = disks_of group disks }) o) ≡ []
unfolding volumes_of
no_volumes vg disks None passes = refl
no_volumes vg disks (Some group) passes =
    ap (λ (lvs : List (List ℕ × Lv)). placed_from (record { group = group; disk_of = disks_of group disks }) 0 lvs)
    (no_rows group.lvs (front_passes (named_rows group vg) (volume_row group ∷ []) passes))

-- it creates no physical volume
pub creates_none : (names : List Word) (command : Command) (vg : Word) → command ≡ Vgremove vg → created_disk names command ≡ None
creates_none names command vg is = ap (created_disk names) is

-- ---- until its disks are cleared nothing is written

module _ (scans : RepairedScans) (g : Given) (stage : Stage) (start ended : Record) (r : RunsLine g stage start ended)
    (repaired : is_repaired stage ≡ true) (zeroed : is_zeroed stage ≡ true) (vg : Word) (command_is : g.line.command ≡ Vgremove vg) where
  pub no_batches : batches_in g ≡ []
  no_batches =
      ap (λ (command : Command). batches_of (state_in (repaired_of g.found) g.names g.backup)
      (record { number = g.line.number; id = g.line.id; command = command }) g.clock g.given) command_is

  finds_still : (image : Image) → HasFirstBatches (batches_in g) (zeroed_base g) image
      → FindsVersion g.sizes image none_out (version_in g.found)
  finds_still image way =
      subst (λ (i : Image). FindsVersion g.sizes i none_out (version_in g.found))
      (sym (one_image image (zeroed_base g) (none_front (zeroed_base g) image
      (subst (λ (l : List (List Put)). HasFirstBatches l (zeroed_base g) image) no_batches way))))
      (finds_zeroed scans g stage start ended r repaired (begun_zeros stage zeroed))

  pub stays_unwritten : StaysLaw (origin_repaired scans g stage start ended r repaired)
  stays_unwritten = record {
    still = is_still scans g stage start ended r repaired;
    after =
        from_start g stage start ended r repaired zeroed (λ image. FindsVersion g.sizes image none_out (version_in g.found))
        (λ image is. finds_zeroing scans g stage start ended r repaired image is)
        (λ m ge le image is. finds_still image (after_zeros g stage start ended r repaired zeroed m ge le image is));
  }

  -- and nothing is, where it has no zeros either
  abbrev zeros : WritesInTurn start (zeros_in g) true r.zeroed
  zeros = all_zeros g stage start ended r repaired zeroed

  abbrev own : WritesInTurn r.zeroed (batches_in g) (is_done stage) ended
  own = line g stage start ended r repaired zeroed

  pub since_steps : ended ≡ steps_on (own.since ++ zeros.since) start
  since_steps = steps_joined start r.zeroed ended zeros.since own.since zeros.steps own.steps

  pub since_nothing : (change scans g stage start ended r repaired).zero ≡ [] → WritesNothing (own.since ++ zeros.since)
  since_nothing no_zeros =
      writes_nothing_append own.since zeros.since
      (none_submitted own.since (own.writes ∙ ap (λ (l : List (List Put)). flat_map (λ (batch : List Put). batch) (take own.submitted l))
      no_batches ∙ nothing_of own.submitted))
      (none_submitted zeros.since
      (zeros.writes ∙ ap (λ (spans : List Span). flat_map (λ (batch : List Put). batch)
      (take zeros.submitted (batch_if (map zero_put spans)))) no_zeros ∙ nothing_of zeros.submitted))

  pub removal_unwritten : (change scans g stage start ended r repaired).zero ≡ []
      → WritesNothing (take (length ended.steps - length start.steps) ended.steps)
  removal_unwritten no_zeros =
      subst WritesNothing (sym (newest start ended (own.since ++ zeros.since) since_steps)) (since_nothing no_zeros)

-- ---- while they are cleared

module _ (scans : RepairedScans) (g : Given) (well : Bool) (start ended : Record) (c : ClearsLine g well start ended) (vg : Word)
    (command_is : g.line.command ≡ Vgremove vg) where
  abbrev opened : ℕ
  opened = length c.made.steps

  can : CanCarryOut (zeroed_base g) g.sizes (repaired_of g.found) g.names g.backup g.line g.clock g.given
  can = can_carry_out scans g Done start c.made c.line refl refl

  stays : StaysLaw (made_origin scans g well start ended c)
  stays = stays_unwritten scans g Done start c.made c.line refl refl vg command_is

  -- they are cleared over the base with the repair
  nothing_made : made_image scans g well start ended c ≡ zeroed_base g
  nothing_made =
      ap (λ (l : List (List Put)). with_batches l (zeroed_base g)) (no_batches scans g Done start c.made c.line refl refl vg command_is)

  of_found : (image : Image) → FindsVersion g.sizes image none_out (version_in (repaired_of g.found))
      → FindsVersion g.sizes image none_out (version_in g.found)
  of_found image =
      subst (λ (v : Option Version). FindsVersion g.sizes image none_out v) (same_version scans g Done start c.made c.line refl)

  way : (m : ℕ) → opened ≤ m → m ≤ length ended.steps → (image : Image) → IsImage (at_moment m ended) image
      → FindsVersion g.sizes image none_out (version_in g.found) ⊎ FindsVersion g.sizes image none_out None
  way m ge le image is =
      ⊎_elim (λ old. inl (of_found image old)) (λ none. inr none)
      (removal_scans (zeroed_base g) image g.sizes (repaired_of g.found) g.names g.backup g.line g.clock g.given vg can command_is
      (subst (λ (i : Image). HasFirstBatches (clears_in g) i image) nothing_made (clearing scans g well start ended c m ge le image is)))

  state_passes : first_refusal (rows_where_found g.found.group vg (remove_rows vg)) ≡ None
  state_passes =
      subst (λ (command : Command). refusal_of (state_in (repaired_of g.found) g.names g.backup)
      (record { number = g.line.number; id = g.line.id; command = command }) g.clock g.given ≡ None) command_is (c.line.passes refl)

  makes_version : MakesVersion g.line.command (version_in g.found) None
  makes_version =
      changes_make g.line.command (version_in g.found) None
      (subst (λ (command : Command). ChangesVolumes command (version_in g.found) None) (sym command_is)
      (no_volumes vg g.found.disks g.found.group state_passes, refl))

  now_there : now_at (origin_at opened (whole_origin scans g well start ended c)) opened ≡ zeroed_base g
  now_there =
      now_before (whole_origin scans g well start ended c) opened opened (omega arith) (more scans g well start ended c)
      ∙ now_seen c.made ended c.clears.since c.clears.steps
      ∙ one_image (now_after c.made.opened c.made.steps) (made_image scans g well start ended c)
      (now_base c.made (made_image scans g well start ended c) c.line.record_is (made_base scans g well start ended c))
      ∙ nothing_made

  none_made : None ≡ version_made (change scans g Done start c.made c.line refl)
  none_made =
      sym (ap (λ (command : Command). version_made
      (change_of (state_in (repaired_of g.found) g.names g.backup)
      (record { number = g.line.number; id = g.line.id; command = command }) g.clock g.given)) command_is)

  pub removal_law : CommitLaw (whole_origin scans g well start ended c) g.line opened None
  removal_law = record {
    still =
        still_longer (made_origin scans g well start ended c) ended c.clears.since c.clears.steps stays.still
        (untouched scans g well start ended c);
    from = stays.still.until;
    until = more scans g well start ended c;
    commits_is = ap commits command_is;
    keeps = makes_version;
    zeroed =
        λ m ge le. zeroes_stand (origin_at m (whole_origin scans g well start ended c)) g.line.command None (ap zeroes command_is)
        makes_version;
    before = λ m ge lt image is.
        stays.after m ge (omega (arith, lt)) image
        (subst (λ (told : Record). IsImage told image) (moment_seen c.made ended c.clears.since c.clears.steps m (omega (arith, lt)))
        is);
    makes =
        makes_then scans g Done start c.made c.line refl refl ended opened None (creates_none g.names g.line.command vg command_is)
        now_there none_made;
    between = way;
  }

  -- all were cleared
  pub removed_law : well ≡ true → DoneLaw (whole_origin scans g well start ended c) None
  removed_law all =
      let last : Image = with_batches (clears_in g) (zeroed_base g) in
      let base : IsBase ended last =
      subst (λ (i : Image). IsBase ended (with_batches (clears_in g) i)) nothing_made
      (c.clears.lasting all (made_image scans g well start ended c) (made_base scans g well start ended c)) in
      let now : now_at (whole_origin scans g well start ended c) (length ended.steps) ≡ last =
      now_seen ended ended [] refl ∙ one_image (now_after ended.opened ended.steps) last (now_base ended last c.record_is base) in
      let finds : FindsVersion g.sizes last none_out None =
      removal_ends (zeroed_base g) last g.sizes (repaired_of g.found) g.names g.backup g.line g.clock g.given vg can command_is in
      record {
        after =
            λ image is. subst (λ (i : Image). FindsVersion g.sizes i none_out None) (sym (image_of_base ended last image base is)) finds;
        found =
            subst (λ (i : Image). FindsVersion g.sizes i none_out None) (sym now)
            (finds_with g.sizes last none_out none_out None (λ pv. refl) finds);
        untouched = subst (λ (i : Image). AllUntouched i (volumes_of None) ended) (sym now) (all_stay last ended base (volumes_of None));
      }

  -- where none of these was begun the version that stood is in force, and nothing was written
  module _ (unbegun : c.clears.submitted ≡ 0) where
    as_it_was : (m : ℕ) → opened ≤ m → m ≤ length ended.steps → (image : Image) → IsImage (at_moment m ended) image → image ≡ zeroed_base g
    as_it_was m ge le image is =
        one_image image (zeroed_base g)
        (none_front (zeroed_base g) image
        (subst (λ (i : Image). HasFirstBatches [] i image) nothing_made
        (subst (λ (n : ℕ). HasFirstBatches (take n (clears_in g)) (made_image scans g well start ended c) image) unbegun
        (submitted_clears scans g well start ended c m ge le image is))))

    pub stays_unremoved : StaysLaw (whole_origin scans g well start ended c)
    stays_unremoved =
        stays_longer (made_origin scans g well start ended c) ended c.clears.since c.clears.steps stays.still
        (untouched scans g well start ended c) stays.after
        (λ m ge le image is.
        subst (λ (i : Image). FindsVersion g.sizes i none_out (version_in g.found)) (sym (as_it_was m ge le image is))
        (finds_zeroed scans g Done start c.made c.line refl (begun_zeros Done refl)))

    pub removal_unbegun : (change scans g Done start c.made c.line refl).zero ≡ []
        → WritesNothing (take (length ended.steps - length start.steps) ended.steps)
    removal_unbegun no_zeros =
        let before : List Step =
        (line g Done start c.made c.line refl refl).since ++ (all_zeros g Done start c.made c.line refl refl).since in
        subst WritesNothing
        (sym (newest start ended (c.clears.since ++ before)
        (steps_joined start c.made ended before c.clears.since (since_steps scans g Done start c.made c.line refl refl vg command_is)
        c.clears.steps)))
        (writes_nothing_append c.clears.since before
        (none_submitted c.clears.since (c.clears.writes
        ∙ ap (λ (n : ℕ). flat_map (λ (batch : List Put). batch) (take n (clears_in g))) unbegun))
        (since_nothing scans g Done start c.made c.line refl refl vg command_is no_zeros))
