use Rattle.std.proofs.Common.{ℕ, ◌==◌}
use Rattle.list_laws.proofs.Positions.{placed}
use Rattle.claim_table.proofs.table.place_of_volume.Goals as goal

pub returns-clause-place : goal.returns-clause-place
returns-clause-place c =
    (placed (λ (v : ℕ). v == c.args.volume) c.args.volumes.now c.find_volume.result c.unwrap_or.result c.find_volume.ensures
    c.unwrap_or.ensures c.requires).0

pub returns-clause-within : goal.returns-clause-within
returns-clause-within c =
    (placed (λ (v : ℕ). v == c.args.volume) c.args.volumes.now c.find_volume.result c.unwrap_or.result c.find_volume.ensures
    c.unwrap_or.ensures c.requires).1
