use Rattle.std.proofs.Common.{length, refl, sym, ap, subst, ◌∙◌}
use Rattle.std.specs.Prelude.{Ok, Err}
use Rattle.vg_found.specs.Shape.{HasShape}
use Rattle.vg_found.specs.Whole.{IsWhole}
use Rattle.vg_found.specs.declared.found.Found.{Found}
use Rattle.change_batches.specs.Sound.{sizes_of}
use Rattle.vg_repair.proofs.RepairedSizes.{repaired_count, repaired_sizes}
use Rattle.lvm_run.specs.Changing.{IsCarriedOut}
use Rattle.lvm_run.specs.declared.ending.Ending.{Ending}
use Rattle.lvm_run.specs.declared.outcome.Outcome.TheVariants.{Ended}
use Rattle.lvm_run.proofs.Promised.{told_of}
use Rattle.lvm_run.proofs.changing.change_whole.Goals as goal

pub returns-in-Err : goal.returns-in-Err
returns-in-Err g c =
    let e = c.in-Err.ensures in
    let s1 = g.S.Shelf.state c.repair.new.shelf in
    record {
      result = Err c.in-Err.fault;
      mid = s1;
      again = e.again;
      follows = (told_of s1 (g.met.S.Shelf.lawful c.repair.new.shelf)).record_is;
      steps = (told_of s1 (g.met.S.Shelf.lawful c.repair.new.shelf)).steps;
      begun_is = c.steps.ensures;
      whole = tt;
      cause = e.cause;
      told = e.told;
      images = e.images;
      goes = (ap (λ (e : Ending). Ended e) c.ending_of.ensures, refl, refl);
    }

pub returns-in-Ok : goal.returns-in-Ok
returns-in-Ok g c =
    let e = c.in-Ok.ensures in
    let s1 = g.S.Shelf.state c.repair.new.shelf in
    record {
      result = Ok c.in-Ok.repaired;
      mid = s1;
      again = e.again;
      follows = (told_of s1 (g.met.S.Shelf.lawful c.repair.new.shelf)).record_is;
      steps = (told_of s1 (g.met.S.Shelf.lawful c.repair.new.shelf)).steps;
      begun_is = c.steps-begun.ensures;
      whole = (
        subst HasShape c.into_found-found.ensures.found c.into_found-found.ensures.shape,
        subst IsWhole c.into_found-found.ensures.found c.into_found-found.ensures.whole,
      );
      cause = e.cause;
      told = e.told;
      images = e.images;
      goes =
          subst (λ (f : Found). IsCarriedOut f c.args.names.now c.args.line.now c.args.now s1 c.change_found-outcome.result.0
          c.change_found-outcome.result.1 (g.S.Shelf.state c.change_found-outcome.new.shelf)) c.into_found-found.ensures.found
          c.change_found-outcome.ensures;
    }

pub change_found-outcome-requires-clause-count : goal.change_found-outcome-requires-clause-count
change_found-outcome-requires-clause-count g c =
    c.requires.count ∙ sym (repaired_count c.args.whole)
    ∙ ap (λ (f : Found). length f.disks) (sym (c.into_found-found.ensures.found ∙ c.in-Ok.ensures.cause.now))

pub change_found-outcome-requires-clause-sizes : goal.change_found-outcome-requires-clause-sizes
change_found-outcome-requires-clause-sizes g c =
    c.in-Ok.ensures.again.sizes ∙ c.requires.sizes ∙ sym (repaired_sizes c.args.whole)
    ∙ ap (λ (f : Found). sizes_of f.disks) (sym (c.into_found-found.ensures.found ∙ c.in-Ok.ensures.cause.now))
