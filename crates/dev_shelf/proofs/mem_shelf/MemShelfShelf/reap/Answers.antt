use Rattle.disk_model.proofs.Reaping.{reaps_ready}
use Rattle.dev_shelf.specs.MemShelf.{state_of_shelf}
use Rattle.dev_shelf.proofs.mem_shelf.MemShelfShelf.reap.Goals as goal

pub returns-clause-reaps : goal.returns-clause-reaps
returns-clause-reaps c =
    reaps_ready (state_of_shelf c.args.self.now) (state_of_shelf c.reap_ready.new.self) c.reap_ready.result c.reap_ready.ensures.none
    c.reap_ready.ensures.cases c.reap_ready.ensures.ready
