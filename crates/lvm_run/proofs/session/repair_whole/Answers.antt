use Rattle.std.proofs.Common.{sym, ap, subst, ◌∙◌}
use Rattle.vg_found.specs.declared.found.Found.{Found}
use Rattle.change_batches.specs.Sound.{sizes_of}
use Rattle.vg_repair.proofs.RepairedSizes.{repaired_sizes}
use Rattle.io_core.specs.Rest.{LiesOn}
use Rattle.lvm_run.proofs.LiesOnDisks.{lies_on_disks}
use Rattle.lvm_run.proofs.session.repair_whole.Goals as goal

pub returns-in-Ok-clause-repairs : goal.returns-in-Ok-clause-repairs
returns-in-Ok-clause-repairs g c =
    let e = c.in-Ok.ensures in
    record { again = e.again; cause = e.cause; told = e.told; images = e.images }

pub returns-in-Ok-clause-lies : goal.returns-in-Ok-clause-lies
returns-in-Ok-clause-lies g c =
    let sizes = (g.S.Shelf.state c.repair.new.shelf).sizes in
    let found = c.found-found in
    subst (λ (f : Found). LiesOn sizes f) found.ensures.found
    (lies_on_disks found.result.now found.ensures.shape found.ensures.whole c.see_accepted.ensures sizes
    (c.in-Ok.ensures.again.sizes ∙ c.requires.sizes ∙ sym (repaired_sizes c.args.whole)
    ∙ ap (λ (f : Found). sizes_of f.disks) (sym (found.ensures.found ∙ c.in-Ok.ensures.cause.now))))

pub returns-in-Err-clause-repairs : goal.returns-in-Err-clause-repairs
returns-in-Err-clause-repairs g c =
    let e = c.in-Err.ensures in
    (c.in-Err.fault, c.ending_of.ensures, record { again = e.again; cause = e.cause; told = e.told; images = e.images })
