use Rattle.std.proofs.lemmas.List.Sorted.{IsPermutation-insert}
use Rattle.claim_table.proofs.sorted.put_in.Goals as goal

pub returns-clause-items : goal.returns-clause-items
returns-clause-items g c = rw c.in-Ok.ensures.items (IsPermutation-insert c.args.kept.now.items c.place_for-at.result c.args.value)
