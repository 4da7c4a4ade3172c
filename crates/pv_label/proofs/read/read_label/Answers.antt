-- Each sector is no label where it is refused, and its refusal is the first where none was before.
use Rattle.std.proofs.Common.{◌≡◌, ◌<◌, ℕ, List, [], length, subst, arith, below_more}
use Rattle.std.proofs.lemmas.List.{get_or_default}
use Rattle.pv_label.specs.Label.{IsFirstRefusal, IsRefused, sector_at}
use Rattle.pv_label.proofs.Refusals.{IsFirstRefusal-more, IsRefused-no_label}
use Rattle.pv_label.proofs.read.read_label.Goals as goal

pub loop-number-preserved : goal.loop-number-preserved
loop-number-preserved c =
    let sectors = c.args.sectors.now in
    let n = c.loop-number.number in
    let among : n < length sectors = omega arith in
    let refused : IsRefused (sector_at sectors n) n c.in-Err.cause =
    let P : List ℕ → Type 0 = λ s. IsRefused s n c.in-Err.cause in
    subst P (get_or_default sectors n c.index-sectors-number.result [] among) c.in-Err.ensures in
    record {
      none = below_more _ _ c.loop-number.invariant.none (IsRefused-no_label (sector_at sectors n) n c.in-Err.cause refused);
      cause =
          rw c.first_of-refusal.ensures (IsFirstRefusal-more sectors n c.loop-number.refusal c.in-Err.cause c.loop-number.invariant.cause
          refused);
    }

pub returns : goal.returns
returns c =
    let all : c.loop-number.number ≡ 4 = omega arith in
    let P : ℕ → Type 0 = λ n. IsFirstRefusal c.args.sectors.now n c.loop-number.refusal in
    record {
      none = λ k h. c.loop-number.invariant.none k (omega arith);
      cause = subst P all c.loop-number.invariant.cause;
    }
