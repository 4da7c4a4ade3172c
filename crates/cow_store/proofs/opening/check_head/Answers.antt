use Rattle.std.proofs.Common.{[], true, false}
use Rattle.disk_model.specs.Puts.{one_sector}
use Rattle.disk_model.specs.Since.{KeepsSectors}
use Rattle.disk_model.specs.Steps.{Reading}
use Rattle.cow_store.proofs.Goes.{told_by}
use Rattle.cow_store.proofs.SectorWrites.{read_keeps}
use Rattle.cow_store.proofs.opening.check_head.Goals as goal

pub returns-in_err-head-clause-keeps : goal.returns-in_err-head-clause-keeps
returns-in_err-head-clause-keeps g c =
    told_by (g.V.Vols.state c.args.vols.now) (Reading (one_sector 1 0)) false (g.V.Vols.state c.read_sector.new.vols)
    (λ t t'. KeepsSectors t [] t')
    c.in_err-head.ensures.operates (λ t e tag fresh. read_keeps t tag 1 0 false fresh)

pub returns-then-not-begins_like_head-clause-keeps : goal.returns-then-not-begins_like_head-clause-keeps
returns-then-not-begins_like_head-clause-keeps g c =
    told_by (g.V.Vols.state c.args.vols.now) (Reading (one_sector 1 0)) true (g.V.Vols.state c.read_sector.new.vols)
    (λ t t'. KeepsSectors t [] t')
    c.in_ok-head.ensures.operates (λ t e tag fresh. read_keeps t tag 1 0 true fresh)

pub returns-then-said-found-clause-keeps : goal.returns-then-said-found-clause-keeps
returns-then-said-found-clause-keeps g c =
    told_by (g.V.Vols.state c.args.vols.now) (Reading (one_sector 1 0)) true (g.V.Vols.state c.read_sector.new.vols)
    (λ t t'. KeepsSectors t [] t')
    c.in_ok-head.ensures.operates (λ t e tag fresh. read_keeps t tag 1 0 true fresh)

pub returns-clause-keeps : goal.returns-clause-keeps
returns-clause-keeps g c =
    told_by (g.V.Vols.state c.args.vols.now) (Reading (one_sector 1 0)) true (g.V.Vols.state c.read_sector.new.vols)
    (λ t t'. KeepsSectors t [] t')
    c.in_ok-head.ensures.operates (λ t e tag fresh. read_keeps t tag 1 0 true fresh)
