use Rattle.std.proofs.Common.{◌≡◌, ◌<◌, false, length, sym, ap, arith}
use Rattle.std.specs.Ordering.{is_eq, is_lt}
use Rattle.std.proofs.lemmas.List.Quantifiers.{all_pairs_remove}
use Rattle.std.proofs.lemmas.List.Sorted.{IsPermutation-remove}
use Rattle.claim_table.proofs.sorted.take_out.Goals as goal

pub returns-clause-items : goal.returns-clause-items
returns-clause-items g c =
    let within : c.in-Ok.at < length c.args.kept.now.items = omega (arith, c.requires.counted, c.in-Ok.ensures.bound) in
    let found = c.requires.exact _ (ap is_eq (c.in-Ok.ensures.ok c.args.value.now)) in
    rw c.take_at.ensures.items (IsPermutation-remove c.args.kept.now.items c.in-Ok.at c.args.value.now within (sym found))

pub returns-clause-ascending : goal.returns-clause-ascending
returns-clause-ascending g c =
    let within : c.in-Ok.at < length c.args.kept.now.items = omega (arith, c.requires.counted, c.in-Ok.ensures.bound) in
    rw c.take_at.ensures.items (all_pairs_remove (λ x y. is_lt (g.T.Ord.cmp y x) ≡ false) c.args.kept.now.items c.in-Ok.at within
    c.requires.ascending)
