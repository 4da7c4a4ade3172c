use Rattle.std.proofs.Common.{sym, ◌∙◌, arith}
use Rattle.region_log.proofs.FirstUnsynced.{first_set, first_set_synced}
use Rattle.region_log.proofs.log.RegionLog.set.Goals as goal
use Rattle.region_log.proofs.log.RegionLog.set.Goals.{then-is_unsynced, else-is_unsynced}

pub first_unsynced-self-inside-requires : goal.first_unsynced-self-inside-requires
first_unsynced-self-inside-requires c =
    let is_kept = c.self.invariant in
    rw c.deref.ensures.value (elim c.if-is_unsynced.branch [
      | then-is_unsynced w ↦ omega (arith, first_set c.self.inside.states.items c.args.region c.args.state)
      | else-is_unsynced w ↦ omega (
        arith,
        first_set_synced c.self.inside.states.items c.args.region c.args.state
            (sym c.is_unsynced.ensures ∙ w.if-is_unsynced.false),
      )
    ])
