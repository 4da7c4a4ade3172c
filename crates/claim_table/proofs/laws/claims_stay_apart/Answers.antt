use Rattle.claim_table.proofs.Reached.{clashes_share, free_without, none_starts_suspended, started_apart, starts_in_order}
use Rattle.claim_table.proofs.laws.claims_stay_apart.Goals as goal

pub returns : goal.returns
returns c =
    record {
      clashes = clashes_share;
      free = free_without;
      apart = started_apart;
      suspended = none_starts_suspended;
      in_order = starts_in_order;
    }
