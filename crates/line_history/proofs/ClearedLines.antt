-- A line that commits a group, and then clears the disks that the group lets go: its commit was made once its batches were written.
use Rattle.std.proofs.Common.{◌≡◌, ◌≤◌, ◌⊎◌, ℕ, Bool, false, List, length, Option, Some, None, inl, inr, ⊎_elim, refl, sym, subst, ◌∙◌}
use Rattle.std.proofs.Common.{arith}
use Rattle.command_table.specs.declared.command.Command.{Command}
use Rattle.command_table.specs.declared.command.Command.TheVariants.{Vgreduce, Vgremove}
use Rattle.disk_model.specs.CrashValues.{IsImage}
use Rattle.disk_model.specs.Moments.{at_moment}
use Rattle.disk_model.specs.Steps.{Image, Record}
use Rattle.meta_model.specs.declared.group.Group.{Group}
use Rattle.group_ops.specs.Planning.{zeroes}
use Rattle.group_ops.proofs.NoClears.{clears}
use Rattle.vg_repair.specs.Repaired.{repaired_of}
use Rattle.image_scans.proofs.ClearScans.{clears_scan}
use Rattle.image_scans.specs.Laws.{none_out, version_of}
use Rattle.vg_scan.specs.Versions.{FindsVersion, Version, version_in}
use Rattle.repair_scans.specs.Laws.{RepairedScans}
use Rattle.volume_history.proofs.Reshaped.{zeroes_stand}
use Rattle.volume_history.specs.Changing.{ChangesVolumes}
use Rattle.volume_history.specs.Chronicles.{now_at, origin_at}
use Rattle.volume_history.specs.Placed.{PlacedVolume, volumes_of}
use Rattle.volume_history.specs.Quiet.{AllUntouched}
use Rattle.volume_history.specs.Single.{CommitLaw, MadeLaw, ZeroesStand}
use Rattle.line_history.proofs.Clearing.{as_written, base_stays, clearing, made_image, made_origin, untouched, untouched_since}
use Rattle.line_history.proofs.Clearing.{whole_origin}
use Rattle.line_history.proofs.Finding.{can_carry_out, zeroed_base}
use Rattle.line_history.proofs.Lines.{change, changes, commit_law, done_law, last_now, next}
use Rattle.line_history.proofs.LongerLaws.{commit_longer, made_longer, same_now}
use Rattle.line_history.proofs.Stays.{all_stay}
use Rattle.line_history.specs.LineRun.{ClearsLine, Given, Writing, Done}

-- one clears no disk, or is a vgreduce: then the volumes are those that were found
clear_cases : (command : Command) (before : Option Version) (after : Version) → ChangesVolumes command before (Some after)
    → (clears command ≡ false) ⊎ ((volumes_of (Some after) ≡ volumes_of before) × (zeroes command ≡ false))
clear_cases (Vgreduce vg pv) before after changes = inr (changes.0, refl)
clear_cases (Vgremove vg) before after changes = absurd (let e : ◌≡◌ {A = Option Version} (Some after) None = changes.1 in cc)
clear_cases command before after changes = inl refl

module _ (scans : RepairedScans) (g : Given) (well : Bool) (start ended : Record) (c : ClearsLine g well start ended) (group : Group)
    (made : (change scans g Done start c.made c.line refl).group ≡ Some group) where
  abbrev version : Option Version
  version = next scans g Done start c.made c.line refl refl group made

  abbrev opened : ℕ
  opened = length c.line.zeroed.steps

  law : CommitLaw (made_origin scans g well start ended c) g.line opened version
  law = commit_law scans g Done start c.made c.line refl refl group made

  cases : (clears g.line.command ≡ false) ⊎ ((volumes_of version ≡ volumes_of (version_in g.found)) × (zeroes g.line.command ≡ false))
  cases =
      clear_cases g.line.command (version_in g.found) (version_of group (change scans g Done start c.made c.line refl))
      (changes scans g Done start c.made c.line refl refl group made)

  module _ (m : ℕ) (ge : length c.made.steps ≤ m) (le : m ≤ length ended.steps) where
    -- each image has the new version
    finds : (image : Image) → IsImage (at_moment m ended) image → FindsVersion g.sizes image none_out version
    finds image is =
        clears_scan (zeroed_base g) image g.sizes (repaired_of g.found) g.names g.backup g.line g.clock g.given group
        (can_carry_out scans g Done start c.made c.line refl refl) made (clearing scans g well start ended c m ge le image is)

    begun : opened ≤ m
    begun = let from = law.until in omega (arith, from, ge)

    zeroed : ZeroesStand (origin_at m (whole_origin scans g well start ended c)) g.line.command version
    zeroed =
        ⊎_elim
        (λ other. (commit_law scans g Writing start ended (as_written scans g well start ended c other) refl refl group made).zeroed m begun
        le)
        (λ kept. zeroes_stand (origin_at m (whole_origin scans g well start ended c)) g.line.command version kept.1 law.keeps)
        cases

    -- the places of its volumes keep what they had once it was made
    stay : AllUntouched (made_image scans g well start ended c) (volumes_of version) (at_moment m ended)
    stay =
        ⊎_elim
        (λ other. all_stay (made_image scans g well start ended c) (at_moment m ended) (base_stays scans g well start ended c other m ge le)
        (volumes_of version))
        (λ kept. subst (λ (l : List PlacedVolume). AllUntouched (made_image scans g well start ended c) l (at_moment m ended)) (sym kept.0)
        (untouched_since scans g well start ended c m ge le))
        cases

  made_now : now_at (whole_origin scans g well start ended c) (length c.made.steps) ≡ made_image scans g well start ended c
  made_now =
      sym (same_now (made_origin scans g well start ended c) ended c.clears.since c.clears.steps (length c.made.steps) (omega arith))
      ∙ last_now scans g Done start c.made c.line refl refl refl

  pub committed_law : CommitLaw (whole_origin scans g well start ended c) g.line opened version
  committed_law =
      commit_longer (made_origin scans g well start ended c) ended c.clears.since c.clears.steps g.line opened version law
      (untouched scans g well start ended c) (λ m ge le image is. inr (finds m ge le image is)) zeroed

  pub made_law : MadeLaw (whole_origin scans g well start ended c) opened (length c.made.steps) version
  made_law =
      made_longer (made_origin scans g well start ended c) ended c.clears.since c.clears.steps opened version law.until
      (done_law scans g Done start c.made c.line refl refl group made refl) finds
      (λ m ge le. subst (λ (i : Image). AllUntouched i (volumes_of version) (at_moment m ended)) (sym made_now) (stay m ge le))
