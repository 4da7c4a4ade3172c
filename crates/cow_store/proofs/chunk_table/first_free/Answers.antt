use Rattle.std.proofs.Common.{◌≡◌, ℕ, not, true, get_or, sym, arith}
use Rattle.std.proofs.lemmas.Bool.Decides.{nat_tests}
use Rattle.std.proofs.lemmas.List.Sums.{fails_before_first, position_or_len_is, prefix_len-le-length}
use Rattle.cow_store.specs.Entries.{is_free}
use Rattle.cow_store.proofs.chunk_table.first_free.Goals as goal

pub loop-at-init : goal.loop-at-init
loop-at-init c = record {
  within = omega (arith, c.requires, prefix_len-le-length (λ (e : ℕ). not (is_free e)) c.args.entries.now);
  none = λ k lt. fails_before_first is_free c.args.entries.now k 0 (omega (arith, lt, c.requires));
}

pub returns-else-entries-at-ne0 : goal.returns-else-entries-at-ne0
returns-else-entries-at-ne0 c =
    let kept = c.loop-at.invariant in
    let here : is_free (get_or c.args.entries.now c.loop-at.at 0) ≡ true = grind (arith, nat_tests) in
    sym (position_or_len_is is_free c.args.entries.now c.loop-at.at 0 kept.within kept.none (λ lt. here))

pub returns-after-loop-at : goal.returns-after-loop-at
returns-after-loop-at c =
    let kept = c.loop-at.invariant in
    sym (position_or_len_is is_free c.args.entries.now c.loop-at.at 0 kept.within kept.none (λ lt. absurd (omega arith)))
