-- Each disk so far is listed, where it is marked.
use Rattle.std.proofs.Common.{◌≡◌, ◌<◌, ℕ, true, length, subst, arith, ⊎_elim}
use Rattle.std.specs.Bool.{MatchBool}
use Rattle.disk_use.proofs.Marks.{at_false, below_or_at, marked_below}
use Rattle.disk_use.specs.Unlisted.{IsUnlisted, is_marked_at}
use Rattle.disk_use.specs.Uses.{IsAmong}
use Rattle.disk_use.proofs.unlisted.first_unlisted.Goals as goal

pub loop-number-preserved : goal.loop-number-preserved
loop-number-preserved c = λ pv lt marked.
    let found = c.args.found.now in
    let at = c.loop-number.number in
    ⊎_elim
    (λ (before : pv < at). c.loop-number.invariant pv before marked)
    (λ (here : at ≡ pv).
    at_false (IsUnlisted found pv) (is_marked_at found pv ≡ true → IsAmong found pv) c.is_unlisted.result c.if-is_unlisted.false
    (subst (λ (n : ℕ). MatchBool c.is_unlisted.result (IsUnlisted found n) (is_marked_at found n ≡ true → IsAmong found n)) here
    c.is_unlisted.ensures) marked)
    (below_or_at pv at lt)

pub returns : goal.returns
returns c = λ pv marked.
    let below : pv < length c.args.found.now.disks = marked_below c.args.found.now.disks pv marked in
    c.loop-number.invariant pv (omega (arith, below, c.loop-number-test.false, c.len-number-end.ensures)) marked
