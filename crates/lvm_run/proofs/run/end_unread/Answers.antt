use Rattle.lvm_run.proofs.Promised.{told_of}
use Rattle.lvm_run.proofs.Unread.{unread}
use Rattle.lvm_run.proofs.run.end_unread.Goals as goal

pub returns-clause-unread : goal.returns-clause-unread
returns-clause-unread g c = λ forced words now from ids written faults disks.
    unread forced g.S.Shelf.state words now from ids written faults c.args.shelf
    (told_of (g.S.Shelf.state c.args.shelf) (g.met.S.Shelf.lawful c.args.shelf)) disks
    c.none.result.journal.items c.none.result.answers.items c.none.ensures.0 c.none.ensures.1
