use Rattle.dev_shelf.proofs.LettingGo.{some_recorded, tag_fits}
use Rattle.dev_shelf.proofs.mem_shelf.MemShelf.let_oldest_go.Goals as goal

pub let_go-requires-clause-tag : goal.let_go-requires-clause-tag
let_go-requires-clause-tag c =
    let row = c.args.self.now.row in
    tag_fits row c.args.self.now.good c.index.result.now (some_recorded row c.args.self.now.good c.requires.in_flight) c.index.ensures
