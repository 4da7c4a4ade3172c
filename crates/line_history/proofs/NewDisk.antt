-- A line that makes a new physical volume: its disk is left out once it was written, until the line is done.
use Rattle.std.proofs.Common.{◌≡◌, ◌≤◌, ℕ, ◌+◌, ◌-◌, ◌==◌, ◌&&◌, ◌||◌, Bool, true, false, List, [], ◌∷◌, ◌++◌, length, map, take, Option}
use Rattle.std.proofs.Common.{Some, None, refl, sym, ap, subst, ◌∙◌, arith}
use Rattle.sector_base.specs.declared.spans.Span.{Span}
use Rattle.disk_model.specs.CrashValues.{IsImage}
use Rattle.disk_model.specs.Durability.{IsBase}
use Rattle.disk_model.specs.Moments.{at_moment}
use Rattle.disk_model.specs.Order.{WritesNothing}
use Rattle.disk_model.specs.Since.{writes_submitted}
use Rattle.disk_model.specs.Steps.{Image, Step, Record, steps_on}
use Rattle.meta_model.specs.declared.group.Group.{Group}
use Rattle.disk_batch.proofs.InTurn.{of_submitted, turns_both}
use Rattle.disk_batch.specs.InTurn.{Put, WritesInTurn}
use Rattle.group_plan.specs.declared.state.NewLabel.{NewLabel}
use Rattle.change_batches.specs.Batches.{areas_of, batch_if, commit_batches, label_put, new_area_puts, zero_put}
use Rattle.vg_repair.specs.Repaired.{repaired_of}
use Rattle.image_scans.proofs.LineScans.{images_scan}
use Rattle.image_scans.specs.Laws.{FindsAtEnd, FindsOnTheWay, is_labelled, none_out}
use Rattle.vg_scan.specs.Versions.{FindsVersion, Version, version_in}
use Rattle.repair_scans.specs.Laws.{RepairedScans}
use Rattle.list_laws.proofs.Bools.{eq_of}
use Rattle.volume_history.proofs.Phases.{finds_with}
use Rattle.volume_history.specs.Chronicles.{has_written, steps_upto}
use Rattle.volume_history.specs.Commands.{created_disk, is_created_at}
use Rattle.volume_history.specs.Single.{CreateLaw, CreatedLaw, is_half_made}
use Rattle.line_history.proofs.Finding.{can_start, finds_start, image_of_base, repaired_base, same_version}
use Rattle.line_history.proofs.LineKinds.{IsCreated}
use Rattle.line_history.proofs.Images.{all_zeros, begun_zeros, line as line_of, quiet_base, start_base}
use Rattle.line_history.proofs.Lines.{change, done_finds, done_image, is_still, origin_repaired}
use Rattle.line_history.proofs.OneDisk.{AreOn, BatchesAreOn, first_on, label_on, older_on, unwritten}
use Rattle.line_history.proofs.Seen.{part, part_then, told_then}
use Rattle.line_history.specs.LineRun.{Given, RunsLine, Stage, batches_in, is_done, is_repaired, is_zeroed, zeros_in}

-- a test of one disk, which gives there what it gives
at_disk : (disk pv : ℕ) (test : ℕ → Bool) (w : Bool) → test disk ≡ w → ((disk == pv) && test pv) ≡ ((disk == pv) && w)
at_disk disk pv test w is = by (disk == pv) refl
  where
    by : (b : Bool) → (disk == pv) ≡ b → (b && test pv) ≡ (b && w)
    by true e = subst (λ (k : ℕ). test k ≡ w) (eq_of disk pv e) is
    by false e = refl

and_true : (b : Bool) → (b && true) ≡ b
and_true true = refl
and_true false = refl

and_false : (b : Bool) → (b && false) ≡ false
and_false true = refl
and_false false = refl

or_false : (b : Bool) → (b || false) ≡ b
or_false true = refl
or_false false = refl

module _ (scans : RepairedScans) (g : Given) (stage : Stage) (start ended : Record) (r : RunsLine g stage start ended)
    (repaired : is_repaired stage ≡ true) (zeroed : is_zeroed stage ≡ true)
    (disk : ℕ) (label : NewLabel) (none : (change scans g stage start ended r repaired).group ≡ None)
    (created : created_disk g.names g.line.command ≡ Some disk)
    (labels : (change scans g stage start ended r repaired).labels ≡ label ∷ []) (on : label.disk ≡ disk)
    (no_zeros : (change scans g stage start ended r repaired).zero ≡ []) (places : IsCreated g.sizes g.line.command disk label) where
  -- what it may write there
  abbrev own : Span → Bool
  own = is_created_at g.sizes g.line.command disk

  -- it writes no zeros, so that its batches are all that it writes
  all_batches : zeros_in g ++ batches_in g ≡ batches_in g
  all_batches = ap (λ (spans : List Span). batch_if (map zero_put spans) ++ batches_in g) no_zeros

  line : WritesInTurn start (batches_in g) (is_done stage) ended
  line =
      subst (λ (l : List (List Put)). WritesInTurn start l (is_done stage) ended) all_batches
      (turns_both start r.zeroed ended (zeros_in g) (batches_in g) (is_done stage) (all_zeros g stage start ended r repaired zeroed)
      (line_of g stage start ended r repaired zeroed))

  abbrev version : Option Version
  version = version_in g.found

  -- ---- all its writes are such
  abbrev batches_with : Option Group → List NewLabel → List (List Put)
  batches_with group all =
      batch_if (new_area_puts group all) ++ batch_if (map label_put all)
      ++ commit_batches group g.clock (areas_of (change scans g stage start ended r repaired) (repaired_of g.found).areas)

  batches_on : BatchesAreOn own (batches_in g)
  batches_on =
      subst (λ (o : Option Group). BatchesAreOn own (batches_with o (change scans g stage start ended r repaired).labels)) (sym none)
      (subst (λ (all : List NewLabel). BatchesAreOn own (batches_with None all)) (sym labels) (label_on own label places.0 places.1))

  since_on : AreOn own (writes_submitted line.since)
  since_on = subst (AreOn own) (sym line.writes) (first_on own line.submitted (batches_in g) batches_on)

  -- an image from the start on is one on their way
  new_way : (m : ℕ) → length start.steps ≤ m → m ≤ length ended.steps → (image : Image) → IsImage (at_moment m ended) image
      → FindsOnTheWay g.sizes image (repaired_of g.found) (change scans g stage start ended r repaired)
      (change scans g stage start ended r repaired).group
  new_way m ge le image is =
      images_scan (repaired_base g) g.sizes (repaired_of g.found) g.names g.backup g.line g.clock g.given
      (can_start scans g stage start ended r repaired (begun_zeros stage zeroed)) image
      (of_submitted line.submitted (batches_in g) (repaired_base g) image
      (line.every_image (repaired_base g) (start_base g stage start ended r repaired) m ge le image is))

  -- ---- at a moment from the start on
  module _ (m : ℕ) (ge : length start.steps ≤ m) (le : m ≤ length ended.steps) where
    -- its steps since the start
    abbrev steps : List Step
    steps = part start ended line.since line.steps m ge le

    part_is : take (m - length start.steps) (steps_upto (origin_repaired scans g stage start ended r repaired) m) ≡ steps
    part_is = part_then start ended line.since line.steps m ge le

    half_made : (w : Bool) → has_written own steps ≡ w → (pv : ℕ)
        → is_half_made (origin_repaired scans g stage start ended r repaired) g.line disk m pv ≡ ((disk == pv) && w)
    half_made w is pv =
        ap (λ (l : List Step). (disk == pv) && has_written (is_created_at g.sizes g.line.command pv) l) part_is
        ∙ at_disk disk pv (λ k. has_written (is_created_at g.sizes g.line.command k) steps) w is

    labelled : (pv : ℕ) → is_labelled (change scans g stage start ended r repaired).labels pv ≡ (disk == pv)
    labelled pv = ap (λ (all : List NewLabel). is_labelled all pv) labels ∙ or_false (label.disk == pv) ∙ ap (λ (k : ℕ). k == pv) on

    finds_then : (w : Bool) → has_written own steps ≡ w → (image : Image) → IsImage (at_moment m ended) image
        → FindsVersion g.sizes image (is_half_made (origin_repaired scans g stage start ended r repaired) g.line disk m) version
    finds_then true is image im =
        finds_with g.sizes image (is_labelled (change scans g stage start ended r repaired).labels)
        (is_half_made (origin_repaired scans g stage start ended r repaired) g.line disk m) version
        (λ pv. labelled pv ∙ sym (half_made true is pv ∙ and_true (disk == pv)))
        (subst (λ (v : Option Version). FindsVersion g.sizes image (is_labelled (change scans g stage start ended r repaired).labels) v)
        (same_version scans g stage start ended r repaired)
        (subst (λ (o : Option Group). FindsOnTheWay g.sizes image (repaired_of g.found) (change scans g stage start ended r repaired) o)
        none (new_way m ge le image im)))
    finds_then false is image im =
        let nothing : WritesNothing steps = unwritten own steps (older_on own (length ended.steps - m) line.since since_on) is in
        let stays : IsBase (steps_on steps start) (repaired_base g) =
        quiet_base start (steps_on steps start) steps refl nothing (repaired_base g) (start_base g stage start ended r repaired) in
        let same : image ≡ repaired_base g =
        image_of_base (steps_on steps start) (repaired_base g) image stays
        (subst (λ (t : Record). IsImage t image) (told_then start ended line.since line.steps m ge le) im) in
        finds_with g.sizes image none_out (is_half_made (origin_repaired scans g stage start ended r repaired) g.line disk m) version
        (λ pv. sym (half_made false is pv ∙ and_false (disk == pv)))
        (subst (λ (i : Image). FindsVersion g.sizes i none_out version) (sym same) (finds_start scans g stage start ended r repaired))

  -- ---- the laws

  pub create_law : (before : ℕ) → before ≤ length ended.steps + 1
      → CreateLaw (origin_repaired scans g stage start ended r repaired) g.line disk before
  create_law before by = record {
    still = is_still scans g stage start ended r repaired;
    names = created;
    between =
        λ m ge lt image im. finds_then m ge (omega (arith, lt, by)) (has_written own (steps m ge (omega (arith, lt, by)))) refl image im;
  }

  pub created_law : IsBase ended (done_image scans g stage start ended r repaired zeroed)
      → CreatedLaw (origin_repaired scans g stage start ended r repaired)
  created_law base_is = record {
    after = λ image im.
        subst (λ (i : Image). FindsVersion g.sizes i none_out version)
        (sym (image_of_base ended (done_image scans g stage start ended r repaired zeroed) image base_is im))
        (subst (λ (v : Option Version). FindsVersion g.sizes (done_image scans g stage start ended r repaired zeroed) none_out v)
        (same_version scans g stage start ended r repaired)
        (subst (λ (o : Option Group). FindsAtEnd g.sizes (done_image scans g stage start ended r repaired zeroed) (repaired_of g.found)
        (change scans g stage start ended r repaired) o) none (done_finds scans g stage start ended r repaired zeroed)));
  }
