-- What holds of a commit where more steps are told behind it: it holds as well once what they show does.
use Rattle.std.proofs.Common.{◌≡◌, ◌≤◌, ◌<◌, ℕ, List, [], Option, refl, ⊎_elim, sym, ap, subst, arith}
use Rattle.std.proofs.lemmas.Bool.{cases_lt}
use Rattle.disk_model.specs.Moments.{at_moment}
use Rattle.disk_model.specs.Steps.{Image, Step, Record, now_after, steps_on}
use Rattle.vg_scan.specs.Versions.{FindsVersion, Version}
use Rattle.lvm_script.specs.declared.line.Line.{Line}
use Rattle.volume_history.proofs.Phases.{finds_with}
use Rattle.volume_history.specs.Chronicles.{Origin, left_out, now_at, origin_at}
use Rattle.volume_history.specs.Legal.{FindsNow, Makes}
use Rattle.volume_history.specs.Placed.{volumes_of}
use Rattle.volume_history.specs.Quiet.{AllUntouched}
use Rattle.volume_history.specs.Single.{AllFind, AllFindEither, CommitLaw, DoneLaw, IsStill, MadeLaw, StaysLaw, ZeroesStand, begun_entries}
use Rattle.volume_history.specs.Single.{end_of, none_out}
use Rattle.line_history.proofs.Seen.{moment_seen, steps_more}

module _ (o : Origin) (ended : Record) (newer : List Step) (is : ended ≡ steps_on newer o.told) where
  -- the same run, as more of it was told
  abbrev pub longer : Origin
  longer = record o { told = ended }

  ends_later : end_of o ≤ end_of longer
  ends_later = steps_more o.told ended newer is

  seen : (m : ℕ) → m ≤ end_of o → at_moment m ended ≡ at_moment m o.told
  seen m le = moment_seen o.told ended newer is m le

  same_origin : (m : ℕ) → m ≤ end_of o → origin_at m o ≡ origin_at m longer
  same_origin m le = ap (λ (told : Record). record o { told = told }) (sym (seen m le))

  pub same_now : (m : ℕ) → m ≤ end_of o → now_at o m ≡ now_at longer m
  same_now m le = ap (λ (told : Record). now_after told.opened told.steps) (sym (seen m le))

  -- what holds of each moment until then, and of each one behind it, holds of all
  until_end : (P : Record → Type 0) (from : ℕ) → ((m : ℕ) → from ≤ m → m ≤ end_of o → P (at_moment m o.told))
      → ((m : ℕ) → end_of o ≤ m → m ≤ end_of longer → P (at_moment m ended)) → (m : ℕ) → from ≤ m → m ≤ end_of longer
      → P (at_moment m ended)
  until_end P from before behind m ge le =
      ⊎_elim
      (λ (after : end_of o < m). behind m (omega (arith, after)) le)
      (λ (within : m ≤ end_of o). subst P (sym (seen m within)) (before m ge within))
      (cases_lt (end_of o) m)

  module _ (still : IsStill o) (untouched : (m : ℕ) → end_of o ≤ m → m ≤ end_of longer
      → AllUntouched (now_at longer o.first) (volumes_of o.version) (at_moment m ended)) where
    begins : o.first ≤ end_of o
    begins = let a = still.from in let b = still.until in omega (arith, a, b)

    pub still_longer : IsStill longer
    still_longer = record {
      from = still.from;
      until = let a = still.until in let b = ends_later in omega (arith, a, b);
      before =
          λ m ge le. subst (AllFind o.sizes none_out o.version) (sym (seen m (let a = still.until in omega (arith, a, le))))
          (still.before m ge le);
      untouched =
          until_end (λ (told : Record). AllUntouched (now_at longer o.first) (volumes_of o.version) told) o.first
          (λ m ge le. subst (λ (i : Image). AllUntouched i (volumes_of o.version) (at_moment m o.told)) (same_now o.first begins)
          (still.untouched m ge le)) untouched;
      found = subst (λ (at : Origin). FindsNow at [] o.start o.version) (same_origin o.start still.until) still.found;
    }

    -- one that stays as it was
    pub stays_longer : ((m : ℕ) → o.start ≤ m → m ≤ end_of o → AllFind o.sizes none_out o.version (at_moment m o.told))
        → ((m : ℕ) → end_of o ≤ m → m ≤ end_of longer → AllFind o.sizes none_out o.version (at_moment m ended)) → StaysLaw longer
    stays_longer after finds = record { still = still_longer; after = until_end (AllFind o.sizes none_out o.version) o.start after finds }

  module _ (line : Line) (opened : ℕ) (version : Option Version) (law : CommitLaw o line opened version)
      (untouched : (m : ℕ) → end_of o ≤ m → m ≤ end_of longer
      → AllUntouched (now_at longer o.first) (volumes_of o.version) (at_moment m ended))
      (finds : (m : ℕ) → end_of o ≤ m → m ≤ end_of longer → AllFindEither o.sizes o.version version (at_moment m ended))
      (zeroed : (m : ℕ) → end_of o ≤ m → m ≤ end_of longer → ZeroesStand (origin_at m longer) line.command version) where
    -- a commit
    pub commit_longer : CommitLaw longer line opened version
    commit_longer = record {
      still = still_longer law.still untouched;
      from = law.from;
      until = let a = law.until in let b = ends_later in omega (arith, a, b);
      commits_is = law.commits_is;
      keeps = law.keeps;
      zeroed = until_end (λ (told : Record). ZeroesStand (record o { told = told }) line.command version) opened law.zeroed zeroed;
      before =
          λ m ge lt. subst (AllFind o.sizes none_out o.version) (sym (seen m (let a = law.until in omega (arith, a, lt))))
          (law.before m ge lt);
      makes = subst (λ (at : Origin). Makes at (begun_entries o line) opened line version) (same_origin opened law.until) law.makes;
      between = until_end (AllFindEither o.sizes o.version version) opened law.between finds;
    }

  -- one that was done when the record was shorter was made then
  pub made_longer : (opened : ℕ) (version : Option Version) → opened ≤ end_of o → DoneLaw o version
      → ((m : ℕ) → end_of o ≤ m → m ≤ end_of longer → AllFind o.sizes none_out version (at_moment m ended))
      → ((m : ℕ) → end_of o ≤ m → m ≤ end_of longer → AllUntouched (now_at longer (end_of o)) (volumes_of version) (at_moment m ended))
      → MadeLaw longer opened (end_of o) version
  made_longer opened version from done finds untouched = record {
    from = from;
    until = ends_later;
    after = finds;
    found =
        subst (λ (i : Image). FindsVersion o.sizes i (left_out longer [] (end_of o)) version) (same_now (end_of o) (omega arith))
        (finds_with o.sizes (now_at o (end_of o)) (left_out o [] (end_of o)) (left_out longer [] (end_of o)) version (λ pv. refl)
        done.found);
    untouched = untouched;
  }
