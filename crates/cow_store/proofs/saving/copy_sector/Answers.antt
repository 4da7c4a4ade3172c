use Rattle.std.proofs.Common.{◌≡◌, Bool, [], ◌∷◌, true, false, is_ok, ap, subst}
use Rattle.std.proofs.lemmas.Result.{err_from_is_err_and}
use Rattle.disk_model.specs.Puts.{one_sector}
use Rattle.disk_model.specs.Steps.{Reading, Writing, now_after}
use Rattle.disk_model.proofs.WhereTold.{told_at}
use Rattle.cow_store.specs.Layout.{lengths_of}
use Rattle.cow_store.specs.VolStates.{Operates}
use Rattle.cow_store.specs.Writing.{CopiesSectors}
use Rattle.cow_store.proofs.Copies.{copy_unread, copy_written}
use Rattle.cow_store.proofs.Goes.{operation_told, told_by}
use Rattle.cow_store.proofs.saving.copy_sector.Goals as goal

pub returns-in_err-sector-clause-told : goal.returns-in_err-sector-clause-told
returns-in_err-sector-clause-told g c =
    let s0 = g.V.Vols.state c.args.vols.now in
    let s1 = g.V.Vols.state c.read_sector.new.vols in
    let p = err_from_is_err_and c.from_residual.result c.from_residual.ensures.1 in
    rw p.1
    (told_by s0 (Reading (one_sector 0 c.args.from)) false s1
    (λ t t'. CopiesSectors (lengths_of s0.sizes) c.args.from c.args.to 1 false t t')
    (subst (λ (b : Bool). Operates s0 (Reading (one_sector 0 c.args.from)) b s1) (ap is_ok c.in_err-sector.was)
    c.read_sector.ensures.operates)
    (λ t e tag fresh. copy_unread (lengths_of s0.sizes) c.args.from c.args.to tag fresh t))

pub returns-clause-told : goal.returns-clause-told
returns-clause-told g c old e =
    let s0 = g.V.Vols.state c.args.vols.now in
    let s1 = g.V.Vols.state c.read_sector.new.vols in
    let s2 = g.V.Vols.state c.write_sector.new.vols in
    let value = c.in_ok-sector.sector in
    let well = is_ok c.write_sector.result in
    let read = c.in_ok-sector.ensures.operates in
    let written = c.write_sector.ensures.operates in
    let e1 = operation_told s0 (Reading (one_sector 0 c.args.from)) true s1 old read e in (
      _,
      operation_told s1 (Writing (one_sector 1 c.args.to) (value ∷ [])) well s2 _ written e1,
      copy_written (lengths_of s0.sizes) c.args.from c.args.to read.told.0 written.told.0 read.told.1 written.told.1 well value old
          (told_at (λ t. value ≡ now_after t.opened t.steps 0 c.args.from) s0.told old c.in_ok-sector.ensures.value e),
    )
