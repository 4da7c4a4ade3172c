use Rattle.std.proofs.Common.{is_ok, Some}
use Rattle.std.proofs.lemmas.List.Elements.{All-pop}
use Rattle.disk_batch.specs.InTurn.{CanRun}
use Rattle.disk_batch.proofs.TurningBatches.{turn_told}
use Rattle.disk_batch.proofs.in_turn.write_last.Goals as goal

pub returns-clause-last : goal.returns-clause-last
returns-clause-last g c =
    let sizes = (g.S.Shelf.state c.args.shelf.now).sizes in
    record {
      batch = c.in-Some.batch;
      last = c.in-Some.ensures.items;
      spends = c.write_all.ensures.spends;
      told = turn_told _ _ sizes c.in-Some.batch (is_ok c.write_all.result)
          (All-pop (CanRun sizes) c.args.list.now.items c.pop.new.self.items (Some c.in-Some.batch) c.in-Some.ensures.items
          c.requires.can_run).1 c.write_all.ensures.told;
    }
