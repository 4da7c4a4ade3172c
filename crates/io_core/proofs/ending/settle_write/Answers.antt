use Rattle.std.proofs.Common.{◌≡◌, ◌≤◌, ◌<◌, Bool, List, [], ◌∷◌, false, true, length, sym, ap, subst, ◌∙◌, arith}
use Rattle.line_answers.specs.declared.answer.Answer.TheVariants.{PvFailed}
use Rattle.world_acts.specs.declared.state.Core.{Core}
use Rattle.world_acts.specs.Acts.{Act, Fails, Marks, World, after, world, written_acts}
use Rattle.world_acts.specs.Orderly.{IsOrderly}
use Rattle.world_acts.specs.Steps.{after_fails, after_marks}
use Rattle.world_acts.proofs.ShortActs.{after_mark}
use Rattle.io_core.specs.Rest.{Settles}
use Rattle.io_core.proofs.Settled.{insert_has, settles_failed, settles_marked, settles_wrote}
use Rattle.io_core.proofs.ending.settle_write.Goals as goal

pub returns-then-well : goal.returns-then-well
returns-then-well g c =
    let w : World = world (g.S.Shelf.state c.args.shelf.now) c.args.core.now in
    let many : length c.args.core.now.waits.disks ≡ length (g.S.Shelf.state c.args.shelf.now).sizes =
    c.requires.orderly.backed.places.many in
    let disk : c.args.pv < length (g.S.Shelf.state c.args.shelf.now).sizes = omega (arith, c.requires.disk, many) in
    let acts : Bool → List Act = written_acts c.args.number c.args.pv in
    subst (λ (b : Bool). Settles w c.args.number (acts b) (world (g.S.Shelf.state c.args.shelf.now) c.wrote.new.core))
    (sym c.if-well.true)
    (subst (λ (x : Core). Settles w c.args.number (acts true) (world (g.S.Shelf.state c.args.shelf.now) x)) (sym c.wrote.ensures)
    (settles_wrote w c.args.number c.args.pv c.requires.orderly (c.requires.started, c.requires.landed, disk, c.requires.write)))

pub insert-requires : goal.insert-requires
insert-requires g c =
    let many : length c.args.core.now.waits.disks ≡ length (g.S.Shelf.state c.args.shelf.now).sizes =
    c.requires.orderly.backed.places.many in
    let few : length (g.S.Shelf.state c.args.shelf.now).sizes ≤ 64 = c.requires.orderly.backed.places.few in
    omega (arith, c.requires.disk, many, few)

pub fail-requires-clause-orderly : goal.fail-requires-clause-orderly
fail-requires-clause-orderly g c =
    let w : World = world (g.S.Shelf.state c.args.shelf.now) c.args.core.now in
    let is : record c.args.core.now { failed = c.insert.new.self } ≡ after_marks c.args.core.now c.args.pv =
    λ i. record c.args.core.now { failed = c.insert.ensures i } in
    subst (λ (x : Core). IsOrderly (world (g.S.Shelf.state c.args.shelf.now) x)) (sym is) (after_mark w c.args.pv c.requires.orderly)

pub returns : goal.returns
returns g c =
    let w : World = world (g.S.Shelf.state c.args.shelf.now) c.args.core.now in
    let u : World = after w (Marks c.args.pv) in
    let is : record c.args.core.now { failed = c.insert.new.self } ≡ after_marks c.args.core.now c.args.pv =
    λ i. record c.args.core.now { failed = c.insert.ensures i } in
    let many : length c.args.core.now.waits.disks ≡ length (g.S.Shelf.state c.args.shelf.now).sizes =
    c.requires.orderly.backed.places.many in
    let disk : c.args.pv < length (g.S.Shelf.state c.args.shelf.now).sizes = omega (arith, c.requires.disk, many) in
    let made : c.fail.new.core
    ≡ after_fails (after_marks c.args.core.now c.args.pv) c.args.number (PvFailed c.args.pv) (g.S.Shelf.state c.args.shelf.now).steps =
    c.fail.ensures
    ∙ ap (λ (x : Core). after_fails x c.args.number (PvFailed c.args.pv) (g.S.Shelf.state c.args.shelf.now).steps) is in
    let acts : Bool → List Act = written_acts c.args.number c.args.pv in
    subst (λ (b : Bool). Settles w c.args.number (acts b) (world (g.S.Shelf.state c.args.shelf.now) c.fail.new.core))
    (sym c.if-well.false)
    (subst (λ (x : Core). Settles w c.args.number (acts false) (world (g.S.Shelf.state c.args.shelf.now) x)) (sym made)
    (settles_marked w c.args.pv c.args.number (Fails c.args.number (PvFailed c.args.pv) ∷ [])
    (world (g.S.Shelf.state c.args.shelf.now)
    (after_fails (after_marks c.args.core.now c.args.pv) c.args.number (PvFailed c.args.pv) (g.S.Shelf.state c.args.shelf.now).steps))
    disk
    (settles_failed u c.args.number (PvFailed c.args.pv) (after_mark w c.args.pv c.requires.orderly) c.requires.started
    c.requires.landed (c.requires.place, insert_has w.core.failed c.args.pv))))
