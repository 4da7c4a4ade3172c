-- Several legs, each on one of the first volumes that have room.
use Rattle.std.proofs.Common.{◌≡◌, ℕ, suc, ◌+◌, ◌<◌, ◌≤◌, ◌≢◌, ◌⊎◌, List, [], ◌∷◌, ◌++◌, length, map, inl, inr, refl, sym, ap, subst, ◌∙◌}
use Rattle.std.proofs.Common.{arith, append_assoc, append-nil, IsTrue, IsPermutation, ⊎_elim}
use Rattle.std.specs.Prelude.{All}
use Rattle.std.specs.List.{AllByRecursion}
use Rattle.std.proofs.lemmas.Bool.{cases_lt}
use Rattle.std.proofs.lemmas.List.Elements.{All-from_recursion, recursion_from_All}
use Rattle.std.proofs.lemmas.List.Sorted.{All-permutation, IsPermutation-sym, sum_by-IsPermutation}
use Rattle.meta_model.specs.declared.group.Group.{Group}
use Rattle.volume_rules.specs.Rules.{IsAccepted}
use Rattle.extent_alloc.specs.Few.{AreFew, ends_from, first_fit, leg_ends, longest_first, parts_on as parts_count}
use Rattle.extent_alloc.specs.Free.{counts_of, free_at, longest, total}
use Rattle.extent_alloc.specs.Giving.{IsGiven, IsRequest, extents_in}
use Rattle.extent_alloc.specs.Laying.{laid_on, whole_part}
use Rattle.extent_alloc.specs.Taking.{AreTaken, IsLongestFirst, IsRoomy, laid_all}
use Rattle.extent_alloc.specs.Usable.{usable_pvs}
use Rattle.extent_alloc.specs.declared.part.Part.{Part}
use Rattle.extent_alloc.specs.declared.part.PartRun.{PartRun}
use Rattle.extent_alloc.specs.declared.part.PvRun.{PvRun}
use Rattle.extent_alloc.specs.declared.request.Request.{Request}
use Rattle.extent_alloc.proofs.CountedEnds.{counted, ends_within, in_left, in_right, last_end, stop_end}
use Rattle.extent_alloc.proofs.Fewest.{Descending}
use Rattle.extent_alloc.proofs.FreeOn.{IsFreeRun, free_at_free, stands}
use Rattle.extent_alloc.proofs.GivenParts.{LieOn, given_parts, never_meet, parts_on}
use Rattle.extent_alloc.proofs.LaidParts.{AgreeFrom, In, ends_of, extents_cons, laid_agrees, laid_end, laid_sum, pieces_count, spot, stops}
use Rattle.extent_alloc.proofs.LongestFirst.{descends, sorted_counts}
use Rattle.extent_alloc.proofs.OneLegGiven.{long_enough, shorter_all, whole_sum}
use Rattle.list_laws.proofs.Pairs.{Pairs, all_weaker, pairs_to}
use Rattle.extent_alloc.proofs.Spots.{IsLeg, each_spot}
use Rattle.extent_alloc.proofs.Taken.{AreFine, fine_leg, fine_small, fine_some, moved_fine, volume_fine}

-- a leg more
pub laid_more : (parts : List Part) (legs : List (List PvRun)) (leg : List PvRun)
    → laid_all parts (legs ++ leg ∷ []) ≡ laid_on (laid_all parts legs) leg
laid_more parts [] leg = refl
laid_more parts (l ∷ legs) leg = laid_more (laid_on parts l) legs leg

-- what a leg on a volume that has room takes
pub taken_is_fine : (group : Group) (want : Request) (pv : ℕ) (leg : List PvRun) → IsAccepted group → IsRoomy group want pv
    → IsLongestFirst (free_at group pv) leg → AreFine group want leg
taken_is_fine group want pv leg accepted roomy is =
    moved_fine group want (free_at group pv) leg is.0 (volume_fine group want pv accepted roomy.stands roomy.usable)

taken_has_room : (group : Group) (want : Request) (pv : ℕ) (leg : List PvRun) → IsRoomy group want pv
    → IsLongestFirst (free_at group pv) leg → want.extents ≤ total leg
taken_has_room group want pv leg roomy is =
    omega (arith, roomy.room, sum_by-IsPermutation (λ (r : PvRun). r.count) (free_at group pv) leg is.0)

taken_lies_on : (group : Group) (want : Request) (pv : ℕ) (leg : List PvRun) → IsAccepted group → IsRoomy group want pv
    → IsLongestFirst (free_at group pv) leg → (n : ℕ) → n < want.extents → (spot leg n).0 ≡ pv
taken_lies_on group want pv leg accepted roomy is n lt =
    let here = stands group pv roomy.stands in
    let all : AllByRecursion (λ (run : PvRun). run.pv ≡ pv) (free_at group pv) =
    all_weaker (λ run. (run.pv ≡ pv) × IsFreeRun group run) (λ (run : PvRun). run.pv ≡ pv) (λ run h. h.0) (free_at group pv)
    (free_at_free group pv here.0 accepted here.1) in
    let moved : AllByRecursion (λ (run : PvRun). run.pv ≡ pv) leg =
    recursion_from_All (λ (run : PvRun). run.pv ≡ pv) leg
    (All-permutation (λ (run : PvRun). run.pv ≡ pv) (free_at group pv) leg is.0
    (All-from_recursion (λ (run : PvRun). run.pv ≡ pv) (free_at group pv) all)) in
    each_spot (λ p extent. p ≡ pv) leg n (let enough = taken_has_room group want pv leg roomy is in omega (arith, lt, enough))
    (all_weaker (λ (run : PvRun). run.pv ≡ pv)
    (λ (run : PvRun). (extent : ℕ) → run.first ≤ extent → extent < run.first + run.count → run.pv ≡ pv)
    (λ run same extent low high. same) leg moved)

-- runs in order that have enough extents
abbrev IsRoomyLeg : Group → Request → List PvRun → Type 0
IsRoomyLeg group want leg = AreFine group want leg × (want.extents ≤ total leg)

legs_roomy : (group : Group) (want : Request) (pvs : List ℕ) (legs : List (List PvRun)) → IsAccepted group
    → AllByRecursion (IsRoomy group want) pvs → AreTaken group pvs legs → AllByRecursion (IsRoomyLeg group want) legs
legs_roomy group want [] [] accepted roomy taken = tt
legs_roomy group want [] (leg ∷ legs) accepted roomy taken = absurd taken
legs_roomy group want (pv ∷ pvs) [] accepted roomy taken = absurd taken
legs_roomy group want (pv ∷ pvs) (leg ∷ legs) accepted roomy taken = (
  (taken_is_fine group want pv leg accepted roomy.0 taken.0, taken_has_room group want pv leg roomy.0 taken.0),
  legs_roomy group want pvs legs accepted roomy.1 taken.1,
)

legs_lie : (group : Group) (want : Request) (pvs : List ℕ) (legs : List (List PvRun)) → IsAccepted group
    → AllByRecursion (IsRoomy group want) pvs → AreTaken group pvs legs → LieOn want.extents pvs legs
legs_lie group want [] [] accepted roomy taken = tt
legs_lie group want [] (leg ∷ legs) accepted roomy taken = absurd taken
legs_lie group want (pv ∷ pvs) [] accepted roomy taken = absurd taken
legs_lie group want (pv ∷ pvs) (leg ∷ legs) accepted roomy taken =
    (taken_lies_on group want pv leg accepted roomy.0 taken.0, legs_lie group want pvs legs accepted roomy.1 taken.1)

as_many_legs : (group : Group) (pvs : List ℕ) (legs : List (List PvRun)) → AreTaken group pvs legs → length legs ≡ length pvs
as_many_legs group [] [] taken = refl
as_many_legs group [] (leg ∷ legs) taken = absurd taken
as_many_legs group (pv ∷ pvs) [] taken = absurd taken
as_many_legs group (pv ∷ pvs) (leg ∷ legs) taken = ap suc (as_many_legs group pvs legs taken.1)

-- the parts agree with all legs
record AgreeAll (extents : ℕ) (legs : List (List PvRun)) (parts : List Part) : Type 0 where
  agree : AgreeFrom legs 0 parts
  enough : extents_in parts ≡ extents

one_more : (group : Group) (want : Request) (done : List (List PvRun)) (leg : List PvRun) (parts : List Part) → IsRoomyLeg group want leg
    → AgreeAll want.extents done parts → AgreeAll want.extents (done ++ leg ∷ []) (laid_on parts leg)
one_more group want done leg parts roomy agree =
    let fits : extents_in parts ≤ total leg = omega (arith, agree.enough, roomy.1) in
    record {
      agree =
          laid_agrees done leg 0 parts leg agree.agree fits (fine_some group want leg roomy.0)
          (λ n lt. ap (spot leg) (let e : 0 + n ≡ n = omega arith in e));
      enough = laid_sum parts leg fits ∙ agree.enough;
    }

all_more : (group : Group) (want : Request) (done legs : List (List PvRun)) (parts : List Part)
    → AllByRecursion (IsRoomyLeg group want) legs → AgreeAll want.extents done parts
    → AgreeAll want.extents (done ++ legs) (laid_all parts legs)
all_more group want done [] parts roomy agree = subst (λ some. AgreeAll want.extents some parts) (sym (append-nil done)) agree
all_more group want done (leg ∷ legs) parts roomy agree =
    subst (λ some. AgreeAll want.extents some (laid_all (laid_on parts leg) legs)) (append_assoc done (leg ∷ []) legs)
    (all_more group want (done ++ leg ∷ []) legs (laid_on parts leg) roomy.1 (one_more group want done leg parts roomy.0 agree))

all_agree : (group : Group) (want : Request) (legs : List (List PvRun)) → 1 ≤ want.extents → AllByRecursion (IsRoomyLeg group want) legs
    → AgreeAll want.extents legs (laid_all (whole_part want.extents) legs)
all_agree group want legs one roomy =
    all_more group want [] legs (whole_part want.extents) roomy
    (record { agree = (one, (λ n lt. refl), tt); enough = whole_sum want.extents })

are_legs : (group : Group) (want : Request) (legs : List (List PvRun)) → AllByRecursion (IsRoomyLeg group want) legs
    → AllByRecursion (IsLeg group want want.extents) legs
are_legs group want legs roomy =
    all_weaker (IsRoomyLeg group want) (IsLeg group want want.extents) (λ leg h. fine_leg group want want.extents leg h.0 h.1) legs roomy

-- so what was laid ends below 2^64, and so do the runs of the next leg
-- where the first run of each leg is long enough, there is one part
abbrev StartsLong : ℕ → List PvRun → Type 0
StartsLong extents [] = ⊥
StartsLong extents (run ∷ runs) = extents ≤ run.count

no_longer_than : (extents : ℕ) (run : PvRun) (runs : List PvRun) → run.count < extents
    → AllByRecursion (λ (r : PvRun). r.count ≤ run.count) runs → AllByRecursion (λ (r : PvRun). r.count < extents) (run ∷ runs)
no_longer_than extents run runs short longest = (
  short,
  all_weaker (λ (r : PvRun). r.count ≤ run.count) (λ (r : PvRun). r.count < extents) (λ r le. omega (arith, le, short)) runs
      longest,
)

starts_long : (extents : ℕ) (before leg : List PvRun) → 1 ≤ extents → extents ≤ longest before → IsPermutation before leg → Descending leg
    → StartsLong extents leg
starts_long extents before [] one long moved order =
    absurd (let short = shorter_all extents before one
    (All-permutation (λ (r : PvRun). r.count < extents) [] before (IsPermutation-sym before [] moved)
    (λ k d lt. absurd (omega (arith, lt)))) in omega (arith, short, long))
starts_long extents before (run ∷ runs) one long moved order =
    elim (cases_lt run.count extents) [
      | inl short ↦
          let all : All (λ (r : PvRun). r.count < extents) (run ∷ runs) =
          All-from_recursion (λ (r : PvRun). r.count < extents) (run ∷ runs) (no_longer_than extents run runs short order.0) in
          absurd (let less = shorter_all extents before one
          (All-permutation (λ (r : PvRun). r.count < extents) (run ∷ runs) before (IsPermutation-sym before (run ∷ runs) moved)
          all) in omega (arith, less, long))
      | inr enough ↦ enough
    ]

one_stays : (extents : ℕ) (parts : List Part) (leg : List PvRun) → 1 ≤ extents → length parts ≡ 1 → extents_in parts ≡ extents
    → extents ≤ total leg → StartsLong extents leg → length (laid_on parts leg) ≡ 1
one_stays extents [] leg one count enough room long = absurd (omega (arith, count))
one_stays extents (part ∷ []) [] one count enough room long = absurd long
one_stays extents (part ∷ []) (run ∷ runs) one count enough room long =
    let all : part.extents ≡ extents = omega (arith, enough, extents_cons part []) in
    ap length (append-nil _)
    ∙ pieces_count part 0 part.extents (run ∷ runs) (omega (arith, room, all))
    ∙ long_enough part.extents run runs (omega (arith, one, all)) (omega (arith, long, all))
one_stays extents (part ∷ next ∷ parts) leg one count enough room long = absurd (omega (arith, count))

all_stay : (group : Group) (want : Request) (legs : List (List PvRun)) (parts : List Part) → 1 ≤ want.extents
    → AllByRecursion (IsRoomyLeg group want) legs → AllByRecursion (StartsLong want.extents) legs → length parts ≡ 1
    → extents_in parts ≡ want.extents
    → length (laid_all parts legs) ≡ 1
all_stay group want [] parts one roomy long count enough = count
all_stay group want (leg ∷ legs) parts one roomy long count enough =
    all_stay group want legs (laid_on parts leg) one roomy.1 long.1 (one_stays want.extents parts leg one count enough roomy.0.1 long.0)
    (laid_sum parts leg (omega (arith, enough, roomy.0.1)) ∙ enough)

all_start_long : (group : Group) (want : Request) (pvs : List ℕ) (legs : List (List PvRun)) → IsAccepted group → 1 ≤ want.extents
    → AllByRecursion (IsRoomy group want) pvs → AllByRecursion (λ pv. want.extents ≤ longest (free_at group pv)) pvs
    → AreTaken group pvs legs
    → AllByRecursion (StartsLong want.extents) legs
all_start_long group want [] [] accepted one roomy long taken = tt
all_start_long group want [] (leg ∷ legs) accepted one roomy long taken = absurd taken
all_start_long group want (pv ∷ pvs) [] accepted one roomy long taken = absurd taken
all_start_long group want (pv ∷ pvs) (leg ∷ legs) accepted one roomy long taken = (
  starts_long want.extents (free_at group pv) leg one long.0 taken.0.0
      (descends leg (fine_small group want leg (taken_is_fine group want pv leg accepted roomy.0 taken.0)) taken.0.1),
  all_start_long group want pvs legs accepted one roomy.1 long.1 taken.1,
)

-- a part ends where a leg goes on, or where all end
abbrev StopsOne : ℕ → List (List PvRun) → Type 0
StopsOne n [] = ⊥
StopsOne n (leg ∷ legs) = In n (stops 0 leg) ⊎ StopsOne n legs

all_end : (group : Group) (want : Request) (n : ℕ) (legs : List (List PvRun)) (parts : List Part)
    → AllByRecursion (IsRoomyLeg group want) legs → extents_in parts ≡ want.extents → In n (ends_of 0 (laid_all parts legs))
    → In n (ends_of 0 parts) ⊎ StopsOne n legs
all_end group want n [] parts roomy enough is = inl is
all_end group want n (leg ∷ legs) parts roomy enough is =
    let fits : extents_in parts ≤ total leg = omega (arith, enough, roomy.0.1) in
    ⊎_elim
    (λ (laid : In n (ends_of 0 (laid_on parts leg))). ⊎_elim (λ (old : In n (ends_of 0 parts)). inl old)
    (λ (stop : In n (stops 0 leg)). inr (inl stop)) (laid_end 0 n parts leg fits laid))
    (λ (stop : StopsOne n legs). inr (inr stop))
    (all_end group want n legs (laid_on parts leg) roomy.1 (laid_sum parts leg fits ∙ enough) is)

counts_are : (group : Group) (want : Request) (pv : ℕ) (leg : List PvRun) → IsAccepted group → IsRoomy group want pv
    → IsLongestFirst (free_at group pv) leg → counts_of leg ≡ longest_first (counts_of (free_at group pv))
counts_are group want pv leg accepted roomy is =
    sorted_counts (free_at group pv) leg (fine_small group want (free_at group pv)
    (volume_fine group want pv accepted roomy.stands roomy.usable)) is.0 is.1

stop_among : (group : Group) (want : Request) (n : ℕ) (pvs : List ℕ) (legs : List (List PvRun)) → IsAccepted group
    → AllByRecursion (IsRoomy group want) pvs → AreTaken group pvs legs → n < want.extents → StopsOne n legs
    → In n (leg_ends group want pvs)
stop_among group want n [] [] accepted roomy taken lt is = absurd is
stop_among group want n [] (leg ∷ legs) accepted roomy taken lt is = absurd taken
stop_among group want n (pv ∷ pvs) [] accepted roomy taken lt is = absurd taken
stop_among group want n (pv ∷ pvs) (leg ∷ legs) accepted roomy taken lt (inl here) =
    in_left n (ends_from 0 want.extents (longest_first (counts_of (free_at group pv)))) (leg_ends group want pvs)
    (subst (λ counts. In n (ends_from 0 want.extents counts)) (counts_are group want pv leg accepted roomy.0 taken.0)
    (stop_end 0 want.extents n leg here lt))
stop_among group want n (pv ∷ pvs) (leg ∷ legs) accepted roomy taken lt (inr later) =
    in_right n (ends_from 0 want.extents (longest_first (counts_of (free_at group pv)))) (leg_ends group want pvs)
    (stop_among group want n pvs legs accepted roomy.1 taken.1 lt later)

last_among : (group : Group) (want : Request) (pvs : List ℕ) (legs : List (List PvRun)) → IsAccepted group → 1 ≤ want.extents
    → 1 ≤ length pvs → AllByRecursion (IsRoomy group want) pvs → AreTaken group pvs legs → In want.extents (leg_ends group want pvs)
last_among group want [] legs accepted one some roomy taken = absurd (omega (arith, some))
last_among group want (pv ∷ pvs) [] accepted one some roomy taken = absurd taken
last_among group want (pv ∷ pvs) (leg ∷ legs) accepted one some roomy taken =
    in_left want.extents (ends_from 0 want.extents (longest_first (counts_of (free_at group pv)))) (leg_ends group want pvs)
    (subst (λ counts. In want.extents (ends_from 0 want.extents counts)) (counts_are group want pv leg accepted roomy.0 taken.0)
    (last_end 0 want.extents leg (omega (arith, one)) (let room = taken_has_room group want pv leg roomy.0 taken.0 in omega (arith, room))))

few_parts : (group : Group) (want : Request) (pvs : List ℕ) (legs : List (List PvRun)) → IsAccepted group → 1 ≤ want.extents
    → 1 ≤ length pvs → AllByRecursion (IsRoomy group want) pvs → AreTaken group pvs legs
    → length (laid_all (whole_part want.extents) legs) ≤ parts_count group want pvs
few_parts group want pvs legs accepted one some roomy taken =
    let are = legs_roomy group want pvs legs accepted roomy taken in
    let all = all_agree group want legs one are in
    let parts : List Part = laid_all (whole_part want.extents) legs in
    counted legs parts (leg_ends group want pvs) all.agree
    (λ n is.
    let last = last_among group want pvs legs accepted one some roomy taken in
    let within = ends_within 0 n parts is in
    elim (cases_lt n want.extents) [
      | inl before ↦
          ⊎_elim
          (λ (whole : In n (ends_of 0 (whole_part want.extents))). absurd (not_whole n before whole))
          (λ (stop : StopsOne n legs). stop_among group want n pvs legs accepted roomy taken before stop)
          (all_end group want n legs (whole_part want.extents) are (whole_sum want.extents) is)
      | inr behind ↦ subst (λ k. In k (leg_ends group want pvs)) (let e : want.extents ≡ n = omega (arith, behind, within, all.enough) in e)
          last
    ])
  where
    not_whole : (n : ℕ) → n < want.extents → In n (ends_of 0 (whole_part want.extents)) → ⊥
    not_whole n lt (inl same) = omega (arith, lt, same)
    not_whole n lt (inr none) = none

-- the parts are given, and few
pub legs_given : (group : Group) (want : Request) (pvs : List ℕ) (legs : List (List PvRun)) → IsAccepted group → IsRequest want
    → 1 < want.legs → pvs ≡ first_fit group want (usable_pvs group want) → length pvs ≡ want.legs
    → AllByRecursion (IsRoomy group want) pvs
    → (IsTrue want.contiguous → AllByRecursion (λ pv. want.extents ≤ longest (free_at group pv)) pvs) → Pairs (λ (a b : ℕ). a ≢ b) pvs
    → AreTaken group pvs legs
    → IsGiven group want (laid_all (whole_part want.extents) legs) × AreFew group want (laid_all (whole_part want.extents) legs)
legs_given group want pvs legs accepted request more are_first many roomy long differ taken =
    let are = legs_roomy group want pvs legs accepted roomy taken in
    let all = all_agree group want legs request.extents are in
    let parts : List Part = laid_all (whole_part want.extents) legs in
    let lie = legs_lie group want pvs legs accepted roomy taken in
    let few = few_parts group want pvs legs accepted request.extents (omega (arith, many, more)) roomy taken in (
      given_parts group want legs parts (are_legs group want legs are) (never_meet want.extents pvs legs differ lie)
          (as_many_legs group pvs legs taken ∙ many) all.agree all.enough
          (λ contiguous. all_stay group want legs (whole_part want.extents) request.extents are
          (all_start_long group want pvs legs accepted request.extents roomy (long contiguous) taken) refl (whole_sum want.extents))
          (λ several. (
            pvs,
            pairs_to (λ (a b : ℕ). a ≢ b) pvs differ,
            All-from_recursion (λ (part : Part). map (λ (run : PartRun). run.pv) part.runs ≡ pvs) parts
                (parts_on want.extents 0 legs pvs parts lie all.agree (omega (arith, all.enough))),
          )),
      record {
        one_leg = λ one. absurd (omega (arith, one, more));
        more_legs = λ several. subst (λ some. length parts ≤ parts_count group want some) are_first few;
      },
    )
