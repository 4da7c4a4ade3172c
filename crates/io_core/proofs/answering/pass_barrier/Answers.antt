use Rattle.std.proofs.Common.{sym, subst, arith}
use Rattle.world_acts.specs.declared.state.Core.{Core}
use Rattle.io_core.specs.Rest.{IsCalm, no_one}
use Rattle.io_core.proofs.AnsweredLines.{barrier_over, barrier_some, free_orderly, passed_calm, passed_reaches}
use Rattle.io_core.proofs.answering.pass_barrier.Goals as goal

pub answer_line-requires : goal.answer_line-requires
answer_line-requires g c = record {
  orderly = free_orderly _ c.requires.orderly;
  opened = barrier_some _ c.in-Some.line c.requires.orderly c.in-Some.is;
  over = barrier_over _ c.in-Some.line c.requires.orderly c.in-Some.is;
}

pub returns-clause-reaches : goal.returns-clause-reaches
returns-clause-reaches g c =
    passed_reaches (g.S.Shelf.state c.args.shelf.now) c.args.core.now c.answer_line.new.core c.in-Some.line c.in-Some.is
    (omega (arith, c.open_count.ensures, c.if-open_count-gt1.false)) c.answer_line.ensures

pub returns-clause-calm : goal.returns-clause-calm
returns-clause-calm g c =
    λ quiet. subst (λ (d : Core). IsCalm no_one no_one d) (sym c.answer_line.ensures)
    (passed_calm c.args.core.now c.in-Some.line (g.S.Shelf.state c.args.shelf.now).steps c.in-Some.is
    (barrier_some _ c.in-Some.line c.requires.orderly c.in-Some.is) quiet)
