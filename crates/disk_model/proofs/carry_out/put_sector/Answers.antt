-- The write failed; or it went well, and then the flush or not.
use Rattle.std.proofs.Common.{Bool, [], ◌∷◌, slice_index_or, subst}
use Rattle.disk_model.specs.Puts.{PutsAllTold}
use Rattle.disk_model.proofs.OnePut.{failed_if_not, puts_failed_write, puts_flushed, well_if_not_not}
use Rattle.disk_model.proofs.carry_out.put_sector.Goals as goal

pub returns-then-not-run_one-clause-puts : goal.returns-then-not-run_one-clause-puts
returns-then-not-run_one-clause-puts g c =
    puts_failed_write c.args.disk c.args.sector c.args.contents c.requires.one _ _ c.run_one.result c.run_one.ensures
    (failed_if_not _ c.if-not-run_one.true)

pub returns-clause-puts : goal.returns-clause-puts
returns-clause-puts g c =
    let flushed = c.flush.ensures.carried_out in
    let before = g.S.Shelf.state c.args.shelf.now in
    let after = g.S.Shelf.state c.flush.new.shelf in
    subst (λ (b : Bool). PutsAllTold before.told
    (record { pv = c.args.disk; sector = c.args.sector; value = slice_index_or c.args.contents 0 [] } ∷ []) b after.told) flushed.2
    (puts_flushed c.args.disk c.args.sector c.args.contents c.requires.one _ _ c.run_one.result c.run_one.ensures _ flushed.0 flushed.1
    (g.met.S.Shelf.lawful c.args.shelf.now) c.requires.idle (well_if_not_not _ c.if-not-run_one.false))
