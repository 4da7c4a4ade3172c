use Rattle.io_session.proofs.TimelyTraces.{continues_back, continues_begun, next_line, refused, started}
use Rattle.io_session.proofs.desk.Desk.begin_next.Goals.{in-Some-1, in-None-1}
use Rattle.io_session.proofs.desk.Desk.begin_next.Goals as goal

pub begin-requires : goal.begin-requires
begin-requires g c = next_line _ _ _ _ _ c.self.view_is c.requires c.in-Some.ensures.items

pub invariant_of-self : goal.invariant_of-self
invariant_of-self g c = refused _ _ _ _ _ _ c.in-Some.line _ _ c.self.view_is c.requires.wanted_not c.self.invariant
    c.in-Some.ensures.items c.in-Err.ensures.kept.same_begun c.in-Err.ensures.refused.0 c.in-Err.ensures.refused.1

pub invariant_of-self-in-Err-2 : goal.invariant_of-self-in-Err-2
invariant_of-self-in-Err-2 g c = refused _ _ _ _ _ _ c.in-Some.line _ _ c.self.view_is c.requires.wanted_not c.self.invariant
    c.in-Some.ensures.items c.in-Err.ensures.kept.same_begun c.in-Err.ensures.refused.0 c.in-Err.ensures.refused.1

pub invariant_of-self-in_default-begin : goal.invariant_of-self-in_default-begin
invariant_of-self-in_default-begin g c =
    started _ _ _ _ _ _ c.in-Some.line _ c.self.view_is c.requires.wanted_not c.self.invariant
    c.in-Some.ensures.items c.in_default-begin.ensures.begun c.in_default-begin.ensures.made

pub returns-in-Err-clause-on : goal.returns-in-Err-clause-on
returns-in-Err-clause-on g c = elim c.match-self.branch [
  | in-Some-1 w ↦ continues_back _ _ _ _ _ _ _ _ c.in-Some.line _ _ c.self.view_is c.requires.wanted_not c.self.invariant
      c.in-Some.ensures.items c.in-Err.ensures.kept.same_begun c.in-Err.ensures.refused.0 c.in-Err.ensures.longer w.self-is
  | in-None-1 w ↦ continues_back _ _ _ _ _ _ _ _ c.in-Some.line _ _ c.self.view_is c.requires.wanted_not c.self.invariant
      c.in-Some.ensures.items c.in-Err.ensures.kept.same_begun c.in-Err.ensures.refused.0 c.in-Err.ensures.longer w.self-is
]

pub returns-in_default-begin-clause-on : goal.returns-in_default-begin-clause-on
returns-in_default-begin-clause-on g c =
    continues_begun _ _ _ _ _ _ _ c.in-Some.line _ c.self.view_is c.requires.wanted_not c.self.invariant
    c.in-Some.ensures.items c.in_default-begin.ensures.begun c.in_default-begin.ensures.longer
