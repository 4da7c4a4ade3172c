-- Parts that are laid on runs that end below 2^64 end there too.
use Rattle.std.proofs.Common.{ℕ, ◌+◌, ◌-◌, ◌<◌, ◌≤◌, ◌^◌, List, [], ◌∷◌, nat_eq, nat_lt, arith}
use Rattle.std.specs.Prelude.{All}
use Rattle.std.specs.List.{AllByRecursion}
use Rattle.std.proofs.lemmas.Bool.{cond_both, ltb-false, ltb-true}
use Rattle.std.proofs.lemmas.List.Elements.{All-from_recursion, All-nil, recursion_from_All}
use Rattle.extent_alloc.specs.Laying.{PartEnds, RunEnds, all_later, laid_on, left_of, piece, pieces, whole_part}
use Rattle.extent_alloc.specs.declared.part.Part.{Part}
use Rattle.extent_alloc.specs.declared.part.PartRun.{PartRun}
use Rattle.extent_alloc.specs.declared.part.PvRun.{PvRun}
use Rattle.list_laws.proofs.Pairs.{all_append}

-- so many extents from where a leg begins
abbrev BeginEnds : ℕ → PartRun → Type 0
BeginEnds extents begin = begin.first + extents < 2 ^ 64

later_end : (extents from count : ℕ) (begins : List PartRun) → from + count ≤ extents → AllByRecursion (BeginEnds extents) begins
    → AllByRecursion (BeginEnds count) (all_later from begins)
later_end extents from count [] within end = tt
later_end extents from count (begin ∷ begins) within end = (omega (arith, within, end.0), later_end extents from count begins within end.1)

piece_ends : (part : Part) (from count : ℕ) (run : PvRun) → from + count ≤ part.extents → count ≤ run.count → PartEnds part → RunEnds run
    → PartEnds (piece part from count run)
piece_ends part from count run within fits end ends =
    All-from_recursion (BeginEnds count) (piece part from count run).runs
    (all_append (BeginEnds count) (all_later from part.runs) (record { pv = run.pv; first = run.first } ∷ [])
    (later_end part.extents from count part.runs within (recursion_from_All (BeginEnds part.extents) part.runs end))
    (omega (arith, fits, ends), tt))

pieces_end : (part : Part) (from left : ℕ) (runs : List PvRun) → from + left ≤ part.extents → PartEnds part → AllByRecursion RunEnds runs
    → AllByRecursion PartEnds (pieces part from left runs)
pieces_end part from left [] within end ends = tt
pieces_end part from left (run ∷ runs) within end ends =
    cond_both (nat_eq left 0) _ _ (AllByRecursion PartEnds) (λ none. tt)
    (λ some.
    cond_both (nat_lt left run.count) _ _ (AllByRecursion PartEnds)
    (λ is. let less : left < run.count = ltb-true left run.count
    is in (piece_ends part from left run within (omega (arith, less)) end ends.0, tt))
    (λ is. let more : run.count ≤ left = ltb-false left run.count is in (
      piece_ends part from run.count run (omega (arith, within, more)) (omega arith) end ends.0,
      pieces_end part (from + run.count) (left - run.count) runs (omega (arith, within, more)) end ends.1,
    )))

left_end : (left : ℕ) (runs : List PvRun) → AllByRecursion RunEnds runs → AllByRecursion RunEnds (left_of left runs)
left_end left [] ends = tt
left_end left (run ∷ runs) ends =
    cond_both (nat_eq left 0) _ _ (AllByRecursion RunEnds) (λ none. ends)
    (λ some.
    cond_both (nat_lt left run.count) _ _ (AllByRecursion RunEnds)
    (λ is. let less : left < run.count = ltb-true left run.count is in (omega (arith, less, ends.0), ends.1))
    (λ is. left_end (left - run.count) runs ends.1))

all_end : (parts : List Part) (runs : List PvRun) → AllByRecursion PartEnds parts → AllByRecursion RunEnds runs
    → AllByRecursion PartEnds (laid_on parts runs)
all_end [] runs end ends = tt
all_end (part ∷ parts) runs end ends =
    all_append PartEnds (pieces part 0 part.extents runs) (laid_on parts (left_of part.extents runs))
    (pieces_end part 0 part.extents runs (omega arith) end.0 ends)
    (all_end parts (left_of part.extents runs) end.1 (left_end part.extents runs ends))

pub laid_end_small : (parts : List Part) (runs : List PvRun) → All PartEnds parts → All RunEnds runs → All PartEnds (laid_on parts runs)
laid_end_small parts runs end ends =
    All-from_recursion PartEnds (laid_on parts runs)
    (all_end parts runs (recursion_from_All PartEnds parts end) (recursion_from_All RunEnds runs ends))

-- a part without a leg
pub whole_ends : (extents : ℕ) → All PartEnds (whole_part extents)
whole_ends extents = All-from_recursion PartEnds (whole_part extents) (All-nil (BeginEnds extents), tt)
