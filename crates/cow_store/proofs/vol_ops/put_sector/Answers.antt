use Rattle.std.proofs.Common.{[], ◌∷◌, true, false, is_ok}
use Rattle.std.proofs.lemmas.Result.{err_from_is_err_and}
use Rattle.disk_model.specs.Puts.{one_sector}
use Rattle.disk_model.specs.Steps.{Flushing, Writing}
use Rattle.disk_model.proofs.WhereTold.{told_at}
use Rattle.cow_store.specs.VolStates.{AreOneByOne}
use Rattle.cow_store.specs.Writing.{PutsSector}
use Rattle.cow_store.proofs.Clearing.{put_flushed, put_unwritten}
use Rattle.cow_store.proofs.Goes.{operation_told, told_by}
use Rattle.cow_store.proofs.vol_ops.put_sector.Goals as goal

pub returns-in_err-write_sector-clause-told : goal.returns-in_err-write_sector-clause-told
returns-in_err-write_sector-clause-told g c =
    let s0 = g.V.Vols.state c.args.vols.now in
    let s1 = g.V.Vols.state c.write_sector.new.vols in
    let p = err_from_is_err_and c.from_residual.result c.from_residual.ensures.1 in
    rw p.1
    (told_by s0 (Writing (one_sector 1 c.args.at) (c.args.sector.now ∷ [])) false s1
    (λ t t'. PutsSector c.args.at c.args.sector.now false t t')
    c.in_err-write_sector.ensures.operates
    (λ t e tag fresh. put_unwritten t tag c.args.at c.args.sector.now fresh))

pub returns-clause-told : goal.returns-clause-told
returns-clause-told g c =
    let s0 = g.V.Vols.state c.args.vols.now in
    let s1 = g.V.Vols.state c.write_sector.new.vols in
    let s2 = g.V.Vols.state c.flush_volume.new.vols in
    let well = is_ok c.flush_volume.result in
    let work = Writing (one_sector 1 c.args.at) (c.args.sector.now ∷ []) in
    let written = c.in_ok-write_sector.ensures.operates in
    let flushed = c.flush_volume.ensures.operates in
    λ old e.
    let e1 = operation_told s0 work true s1 old written e in (
      _,
      operation_told s1 (Flushing 1) well s2 _ flushed e1,
      put_flushed old written.told.0 flushed.told.0 c.args.at c.args.sector.now written.told.1 flushed.told.1 well
          (told_at (λ t. AreOneByOne t.steps) s0.told old (g.met.V.Vols.lawful c.args.vols.now).one_by_one e),
    )
