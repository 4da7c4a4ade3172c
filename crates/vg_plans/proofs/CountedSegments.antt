-- Counting the segments of volumes, one after another.
use Rattle.std.proofs.Common.{◌≡◌, ◌≤◌, ℕ, ◌+◌, List, drop, length, Some, sym, ap, ◌∙◌, arith}
use Rattle.std.specs.Prelude.{min, slice_get, sum_by}
use Rattle.std.proofs.lemmas.List.{drop_all}
use Rattle.std.proofs.lemmas.List.Sums.{sum_by-cons}
use Rattle.meta_model.specs.declared.lv.Lv.{Lv}
use Rattle.list_laws.proofs.Walks.{next_got}

abbrev pub segments : List ℕ × Lv → ℕ
segments lv = length lv.1.segments

capped : (count a rest most new : ℕ) → new ≡ min (count + a) most → min (new + rest) most ≡ min (count + (a + rest)) most
capped count a rest most new is = omega (arith, is)

pub counted_next : (lvs : List (List ℕ × Lv)) (count place new many most whole : ℕ) (row : List ℕ × Lv) → slice_get lvs place ≡ Some row
    → many ≡ length row.1.segments → new ≡ min (count + many) most
    → min (count + sum_by segments (drop place lvs)) most ≡ whole → min (new + sum_by segments (drop (place + 1) lvs)) most ≡ whole
counted_next lvs count place new many most whole row is same made counted =
    let rest : ℕ = sum_by segments (drop (place + 1) lvs) in
    let all : sum_by segments (drop place lvs) ≡ many + rest =
    ap (sum_by segments) (next_got lvs place row is) ∙ sum_by-cons segments row (drop (place + 1) lvs)
    ∙ ap (λ (n : ℕ). n + rest) (sym same) in
    capped count many rest most new made ∙ ap (λ (n : ℕ). min (count + n) most) (sym all) ∙ counted

pub counted_all : (lvs : List (List ℕ × Lv)) (count place most whole : ℕ) → length lvs ≤ place → count ≤ most
    → min (count + sum_by segments (drop place lvs)) most ≡ whole → count ≡ whole
counted_all lvs count place most whole past fits counted =
    let none : min (count + 0) most ≡ min (count + sum_by segments (drop place lvs)) most =
    ap (λ (l : List (List ℕ × Lv)). min (count + sum_by segments l) most) (sym (drop_all place lvs past)) in
    let own : count ≡ min (count + 0) most = omega (arith, fits) in
    own ∙ none ∙ counted
