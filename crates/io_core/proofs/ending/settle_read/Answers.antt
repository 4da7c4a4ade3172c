use Rattle.std.proofs.Common.{Bool, List, false, true, sym, subst}
use Rattle.line_answers.specs.declared.answer.Answer.TheVariants.{ReadFailed}
use Rattle.world_acts.specs.declared.state.Core.{Core}
use Rattle.world_acts.specs.Acts.{Act, World, read_acts, world}
use Rattle.io_core.specs.Rest.{Settles}
use Rattle.io_core.proofs.Settled.{settles_failed, settles_read}
use Rattle.io_core.proofs.ending.settle_read.Goals as goal

pub returns-then-well : goal.returns-then-well
returns-then-well g c =
    let w : World = world (g.S.Shelf.state c.args.shelf.now) c.args.core.now in
    let acts : Bool → List Act = read_acts c.args.number c.args.pv c.args.sectors.now in
    subst (λ (b : Bool). Settles w c.args.number (acts b) (world (g.S.Shelf.state c.args.shelf.now) c.read.new.core))
    (sym c.if-well.true)
    (subst (λ (x : Core). Settles w c.args.number (acts true) (world (g.S.Shelf.state c.args.shelf.now) x)) (sym c.read.ensures)
    (settles_read w c.args.number c.args.sectors.now c.requires.orderly
    (c.requires.started, c.requires.landed, c.requires.read, c.requires.many)))

pub returns : goal.returns
returns g c =
    let w : World = world (g.S.Shelf.state c.args.shelf.now) c.args.core.now in
    let acts : Bool → List Act = read_acts c.args.number c.args.pv c.args.sectors.now in
    subst (λ (b : Bool). Settles w c.args.number (acts b) (world (g.S.Shelf.state c.args.shelf.now) c.fail.new.core))
    (sym c.if-well.false)
    (subst (λ (x : Core). Settles w c.args.number (acts false) (world (g.S.Shelf.state c.args.shelf.now) x)) (sym c.fail.ensures)
    (settles_failed w c.args.number (ReadFailed c.args.pv) c.requires.orderly c.requires.started c.requires.landed
    (c.requires.place, c.requires.read)))
