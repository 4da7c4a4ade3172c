use Rattle.std.proofs.Common.{Bool, [], true, false, is_ok, ap, refl, subst, sym}
use Rattle.disk_model.specs.Puts.{one_sector}
use Rattle.disk_model.specs.Since.{KeepsSectors, KeepsSectorsTold}
use Rattle.disk_model.specs.Steps.{Reading}
use Rattle.cow_store.specs.Layout.{lengths_of}
use Rattle.cow_store.specs.Views.{CowView, view_of}
use Rattle.cow_store.specs.VolStates.{Operates}
use Rattle.cow_store.specs.Writing.{Always}
use Rattle.cow_store.proofs.Goes.{told_by}
use Rattle.cow_store.proofs.Keeping.{keeps_operation}
use Rattle.cow_store.proofs.SectorWrites.{read_keeps, reads_one}
use Rattle.cow_store.proofs.cow_store.CowStore.read.Goals as goal

pub returns-in-Ok-clause-unwritten : goal.returns-in-Ok-clause-unwritten
returns-in-Ok-clause-unwritten g c =
    told_by _ _ _ _ (λ t t'. KeepsSectors t [] t') c.read_sector.ensures.operates
    (λ t e tag fresh. read_keeps t tag c.args.volume c.args.at (is_ok c.read_sector.result) fresh)

pub returns-in-Err-clause-unwritten : goal.returns-in-Err-clause-unwritten
returns-in-Err-clause-unwritten g c =
    let vols = g.V.Vols.state c.args.self.now.vols in
    subst (λ (v : CowView). KeepsSectorsTold vols.told [] v.vols.told) (sym c.spend.ensures.spent)
    (told_by _ _ _ _ (λ t t'. KeepsSectors t [] t') c.read_sector.ensures.operates
    (λ t e tag fresh. read_keeps t tag c.args.volume c.args.at (is_ok c.read_sector.result) fresh))

pub returns-in-Ok-clause-keeps : goal.returns-in-Ok-clause-keeps
returns-in-Ok-clause-keeps g c =
    let old = view_of g.V.Vols.state c.args.self.now in
    let vols = g.V.Vols.state c.read_sector.new.vols in
    let work = Reading (one_sector c.args.volume c.args.at) in
    keeps_operation Always old _ vols work true c.requires.ops.store c.requires.ops.going
    (subst (λ (b : Bool). Operates old.vols work b vols) (ap is_ok c.in-Ok.is) c.read_sector.ensures.operates) refl (λ past. tt)
    (λ t tag fresh. reads_one (lengths_of old.vols.sizes) t tag true fresh c.args.volume c.args.at Always)

pub returns-in-Err-clause-keeps : goal.returns-in-Err-clause-keeps
returns-in-Err-clause-keeps g c =
    let old = view_of g.V.Vols.state c.args.self.now in
    let vols = g.V.Vols.state c.read_sector.new.vols in
    let work = Reading (one_sector c.args.volume c.args.at) in
    keeps_operation Always old _ vols work false c.requires.ops.store c.requires.ops.going
    (subst (λ (b : Bool). Operates old.vols work b vols) (ap is_ok c.in-Err.is) c.read_sector.ensures.operates) c.spend.ensures.spent
    (λ past. tt) (λ t tag fresh. reads_one (lengths_of old.vols.sizes) t tag false fresh c.args.volume c.args.at Always)
