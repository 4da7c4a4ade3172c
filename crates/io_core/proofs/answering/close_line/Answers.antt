use Rattle.std.proofs.Common.{◌≡◌, arith}
use Rattle.world_acts.specs.OpenLines.{left_of}
use Rattle.io_core.proofs.AnsweredLines.{closed_calm, closed_orderly, closed_reaches, open_left}
use Rattle.io_core.proofs.answering.close_line.Goals as goal

pub pass_barrier-requires : goal.pass_barrier-requires
pass_barrier-requires g c =
    let left = open_left c.args.core.now.opens c.args.line c.get.result.now c.get.ensures in
    let over : left_of c.args.core.now.opens c.args.line ≡ 0 = omega (arith, left, c.if-get-gt0.false) in
    record {
      orderly =
          closed_orderly (g.S.Shelf.state c.args.shelf.now) c.args.core.now c.answer_line.new.core c.args.line c.requires.orderly
          c.requires.opened over c.requires.other c.answer_line.ensures;
    }

pub returns-clause-reaches : goal.returns-clause-reaches
returns-clause-reaches g c =
    let left = open_left c.args.core.now.opens c.args.line c.get.result.now c.get.ensures in
    let over : left_of c.args.core.now.opens c.args.line ≡ 0 = omega (arith, left, c.if-get-gt0.false) in
    closed_reaches (g.S.Shelf.state c.args.shelf.now) c.args.core.now c.answer_line.new.core c.pass_barrier.new.core c.args.line
    c.requires.opened over c.requires.other c.answer_line.ensures c.pass_barrier.ensures.reaches

pub returns-clause-calm : goal.returns-clause-calm
returns-clause-calm g c =
    closed_calm c.args.core.now c.answer_line.new.core c.pass_barrier.new.core c.args.line (g.S.Shelf.state c.args.shelf.now).steps
    c.requires.opened c.answer_line.ensures c.pass_barrier.ensures.calm
