use Rattle.std.proofs.Common.{◌≡◌, ℕ, ◌*◌, length, sym, ap, ◌∙◌, arith}
use Rattle.std.proofs.lemmas.Grind.{div_ceil_times}
use Rattle.meta_model.specs.Runs.{legs_of}
use Rattle.meta_model.specs.declared.segment.SegKind.{SegKind}
use Rattle.group_edits.specs.ShortenedVolume.{HasFewLegs, parts_of}
use Rattle.group_edits.proofs.shorten_volume.whole_stripes.Goals as goal

pub returns-in-Striped-clause-few : goal.returns-in-Striped-clause-few
returns-in-Striped-clause-few c =
    let n : ℕ = c.len-stripes.result in
    let legs : HasFewLegs c.args.kind.now = c.requires.legs in
    let count : length (legs_of c.args.kind.now) ≡ n =
    ap (λ (k : SegKind). length (legs_of k)) c.in-Striped.is ∙ sym c.len-stripes.ensures in
    let bounds = div_ceil_times c.args.count n (omega (arith, count, legs.0)) in
    let same : c.div_ceil.result * n ≡ parts_of c.args.count n * n = ap (λ (q : ℕ). q * n) c.div_ceil.ensures in
    omega (arith, same, bounds.1, count, legs.1)
