use Rattle.std.proofs.Common.{subst}
use Rattle.piece_table.specs.Pieces.{AreClaimed, AreNumbered, Pieces}
use Rattle.piece_table.proofs.table.PieceTable.agree.Goals as goal

pub returns-clause-claimed : goal.returns-clause-claimed
returns-clause-claimed c = subst (λ (p : Pieces). AreClaimed p.claims p.lives) c.self.view_is c.self.invariant.0

pub returns-clause-numbered : goal.returns-clause-numbered
returns-clause-numbered c = subst (λ (p : Pieces). AreNumbered p.next p.lives) c.self.view_is c.self.invariant.1
