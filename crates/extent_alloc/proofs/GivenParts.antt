-- Parts that agree with legs are given, where the legs lie where the request may have them.
use Rattle.std.proofs.Common.{◌≡◌, ℕ, suc, ◌+◌, ◌-◌, ◌<◌, ◌≤◌, ◌≢◌, ◌⊎◌, List, [], ◌∷◌, length, map, inl, inr, refl, sym, ap, ap₂, subst}
use Rattle.std.proofs.Common.{◌∙◌, arith, IsTrue}
use Rattle.std.specs.Prelude.{All, AllPairs}
use Rattle.std.specs.List.{AllByRecursion}
use Rattle.std.proofs.lemmas.List.{length-map}
use Rattle.std.proofs.lemmas.List.Elements.{All-from_recursion}
use Rattle.meta_model.specs.declared.group.Group.{Group}
use Rattle.extent_map.specs.FreeRuns.{IsFree}
use Rattle.extent_alloc.specs.Giving.{IsGiven, LieApart, LiesAt, MayBeGiven, covered, covered_by, extents_in}
use Rattle.extent_alloc.specs.Usable.{is_usable}
use Rattle.extent_alloc.specs.declared.part.Part.{Part}
use Rattle.extent_alloc.specs.declared.part.PartRun.{PartRun}
use Rattle.extent_alloc.specs.declared.part.PvRun.{PvRun}
use Rattle.extent_alloc.specs.declared.request.Request.{Request}
use Rattle.extent_alloc.proofs.LaidParts.{AgreeFrom, Agrees, begin_at, extents_cons, spot}
use Rattle.list_laws.proofs.Pairs.{Pairs, all_append, all_weaker, pairs_append, pairs_to}
use Rattle.extent_alloc.proofs.Spots.{IsLeg, NeverMeet}

-- the leg is one of these
abbrev OneOf : List (List PvRun) → List PvRun → Type 0
OneOf [] leg = ⊥
OneOf (l ∷ legs) leg = (leg ≡ l) ⊎ OneOf legs leg

one_is : (P : List PvRun → Type 0) (legs : List (List PvRun)) (leg : List PvRun) → AllByRecursion P legs → OneOf legs leg → P leg
one_is P [] leg all one = absurd one
one_is P (l ∷ legs) leg all (inl same) = subst P (sym same) all.0
one_is P (l ∷ legs) leg all (inr later) = one_is P legs leg all.1 later

-- two extents at different places of legs have different spots, whichever the legs
differ_across : (group : Group) (want : Request) (extents : ℕ) (legs : List (List PvRun)) (a b : List PvRun) (m n : ℕ)
    → AllByRecursion (IsLeg group want extents) legs → Pairs (NeverMeet extents) legs
    → OneOf legs a → OneOf legs b → m < extents → n < extents → m ≢ n → spot a m ≢ spot b n
differ_across group want extents [] a b m n are apart one other low high differ = absurd one
differ_across group want extents (l ∷ legs) a b m n are apart (inl here) (inl there) low high differ =
    subst (λ k. spot k m ≢ spot b n) (sym here) (subst (λ k. spot l m ≢ spot k n) (sym there) (are.0.apart m n low high differ))
differ_across group want extents (l ∷ legs) a b m n are apart (inl here) (inr there) low high differ =
    subst (λ k. spot k m ≢ spot b n) (sym here) (one_is (NeverMeet extents l) legs b apart.0 there m n low high)
differ_across group want extents (l ∷ legs) a b m n are apart (inr here) (inl there) low high differ =
    subst (λ k. spot a m ≢ spot k n) (sym there) (λ same. one_is (NeverMeet extents l) legs a apart.0 here n m high low (sym same))
differ_across group want extents (l ∷ legs) a b m n are apart (inr here) (inr there) low high differ =
    differ_across group want extents legs a b m n are.1 apart.1 here there low high differ

-- the run's extents are those of the leg from this one on
abbrev Along : List PvRun → ℕ → PvRun → Type 0
Along leg from run = (n : ℕ) → n < run.count → spot leg (from + n) ≡ (run.pv, run.first + n)

-- each of them along its leg
abbrev AllAlong : ℕ → List PvRun → List (List PvRun) → Type 0
AllAlong from [] [] = Unit {0}
AllAlong from [] (leg ∷ legs) = ⊥
AllAlong from (run ∷ runs) [] = ⊥
AllAlong from (run ∷ runs) (leg ∷ legs) = Along leg from run × AllAlong from runs legs

heads : (x y : ℕ × ℕ) (xs ys : List (ℕ × ℕ)) → x ∷ xs ≡ y ∷ ys → x ≡ y
heads x y xs ys same = ap (λ (l : List (ℕ × ℕ)). first_of l) same
  where
    first_of : List (ℕ × ℕ) → ℕ × ℕ
    first_of [] = x
    first_of (z ∷ zs) = z

tails : (x y : ℕ × ℕ) (xs ys : List (ℕ × ℕ)) → x ∷ xs ≡ y ∷ ys → xs ≡ ys
tails x y xs ys same = ap (λ (l : List (ℕ × ℕ)). rest_of l) same
  where
    rest_of : List (ℕ × ℕ) → List (ℕ × ℕ)
    rest_of [] = xs
    rest_of (z ∷ zs) = zs

some_none : (x : ℕ × ℕ) (xs : List (ℕ × ℕ)) → x ∷ xs ≡ [] → ⊥
some_none x xs same = omega (arith, ap (λ (l : List (ℕ × ℕ)). length l) same)

all_along : (from extents : ℕ) (runs : List PartRun) (legs : List (List PvRun)) → 1 ≤ extents
    → ((n : ℕ) → n < extents → map (begin_at n) runs ≡ map (λ leg. spot leg (from + n)) legs)
    → AllAlong from (map (λ (run : PartRun). record { pv = run.pv; first = run.first; count = extents }) runs) legs
all_along from extents [] [] some agree = tt
all_along from extents [] (leg ∷ legs) some agree = absurd (some_none _ _ (sym (agree 0 (omega (arith, some)))))
all_along from extents (run ∷ runs) [] some agree = absurd (some_none _ _ (agree 0 (omega (arith, some))))
all_along from extents (run ∷ runs) (leg ∷ legs) some agree =
    (λ n lt. sym (heads _ _ _ _ (agree n lt)), all_along from extents runs legs some (λ n lt. tails _ _ _ _ (agree n lt)))

-- a run along a leg may be given
along_given : (group : Group) (want : Request) (extents from : ℕ) (leg : List PvRun) (run : PvRun) → IsLeg group want extents leg
    → 1 ≤ run.count → from + run.count ≤ extents → Along leg from run → MayBeGiven group want run
along_given group want extents from leg run is some within along = (
  subst (λ (s : ℕ × ℕ). IsTrue (is_usable group want s.0)) (along 0 (omega (arith, some)))
      (is.fine (from + 0) (omega (arith, some, within))).0,
  λ extent low high.
      let n : ℕ = extent - run.first in
      subst (λ k. IsFree group run.pv k) (let e : run.first + n ≡ extent = omega (arith, low) in e)
      (subst (λ (s : ℕ × ℕ). IsFree group s.0 s.1) (along n (omega (arith, low, high)))
      (is.fine (from + n) (omega (arith, low, high, within))).1),
)

all_given : (group : Group) (want : Request) (extents from count : ℕ) (runs : List PvRun) (legs : List (List PvRun))
    → AllByRecursion (IsLeg group want extents) legs → AllByRecursion (λ (run : PvRun). run.count ≡ count) runs
    → 1 ≤ count → from + count ≤ extents → AllAlong from runs legs → AllByRecursion (MayBeGiven group want) runs
all_given group want extents from count [] legs are same some within along = tt
all_given group want extents from count (run ∷ runs) [] are same some within along = absurd along
all_given group want extents from count (run ∷ runs) (leg ∷ legs) are same some within along = (
  along_given group want extents from leg run are.0 (omega (arith, some, same.0)) (omega (arith, within, same.0)) along.0,
  all_given group want extents from count runs legs are.1 same.1 some within along.1,
)

-- the run lies along one of the legs, from this extent on or later, and ends before that one
record LiesPast (until : ℕ) (legs : List (List PvRun)) (at : ℕ) (run : PvRun) : Type 0 where
  leg : List PvRun
  one : OneOf legs leg
  from : ℕ
  later : at ≤ from
  within : from + run.count ≤ until
  along : Along leg from run

past_more : (extents : ℕ) (l : List PvRun) (legs : List (List PvRun)) (at : ℕ) (run : PvRun) → LiesPast extents legs at run
    → LiesPast extents (l ∷ legs) at run
past_more extents l legs at run past =
    record { leg = past.leg; one = inr past.one; from = past.from; later = past.later; within = past.within; along = past.along }

past_earlier : (extents : ℕ) (legs : List (List PvRun)) (at later : ℕ) (run : PvRun) → at ≤ later → LiesPast extents legs later run
    → LiesPast extents legs at run
past_earlier extents legs at later run le past =
    record {
      leg = past.leg;
      one = past.one;
      from = past.from;
      later = omega (arith, le, past.later);
      within = past.within;
      along = past.along;
    }

along_past : (extents from count : ℕ) (runs : List PvRun) (legs : List (List PvRun))
    → AllByRecursion (λ (run : PvRun). run.count ≡ count) runs → from + count ≤ extents → AllAlong from runs legs
    → AllByRecursion (LiesPast extents legs from) runs
along_past extents from count [] legs same within along = tt
along_past extents from count (run ∷ runs) [] same within along = absurd along
along_past extents from count (run ∷ runs) (leg ∷ legs) same within along = (
  record { leg = leg; one = inl refl; from = from; later = omega arith; within = omega (arith, within, same.0); along = along.0 },
  all_weaker (LiesPast extents legs from) (LiesPast extents (leg ∷ legs) from) (λ r past. past_more extents leg legs from r past) runs
      (along_past extents from count runs legs same.1 within along.1),
)

-- within a part
spot_in : (leg : List PvRun) (from : ℕ) (run : PvRun) (pv extent : ℕ) → Along leg from run → LiesAt pv extent run
    → spot leg (from + (extent - run.first)) ≡ (pv, extent)
spot_in leg from run pv extent along at =
    along (extent - run.first) (omega (arith, at.1, at.2)) ∙ ap (λ (p : ℕ). (p, run.first + (extent - run.first))) at.0
    ∙ ap (λ (e : ℕ). (pv, e)) (let e : run.first + (extent - run.first) ≡ extent = omega (arith, at.1) in e)

legs_apart : (extents from count : ℕ) (runs : List PvRun) (legs : List (List PvRun)) → Pairs (NeverMeet extents) legs
    → AllByRecursion (λ (run : PvRun). run.count ≡ count) runs → from + count ≤ extents → AllAlong from runs legs → Pairs LieApart runs
legs_apart extents from count [] legs meet same within along = tt
legs_apart extents from count (run ∷ runs) [] meet same within along = absurd along
legs_apart extents from count (run ∷ runs) (leg ∷ legs) meet same within along =
    (others runs legs meet.0 same.1 along.1, legs_apart extents from count runs legs meet.1 same.1 within along.1)
  where
    others : (some : List PvRun) (more : List (List PvRun)) → AllByRecursion (NeverMeet extents leg) more
        → AllByRecursion (λ (r : PvRun). r.count ≡ count) some → AllAlong from some more → AllByRecursion (LieApart run) some
    others [] more never counts go = tt
    others (r ∷ some) [] never counts go = absurd go
    others (r ∷ some) (l ∷ more) never counts go = (
      λ pv extent a b. never.0 (from + (extent - run.first)) (from + (extent - r.first)) (omega (arith, a.1, a.2, same.0, within))
          (omega (arith, b.1, b.2, counts.0, within)) (spot_in leg from run pv extent along.0 a ∙ sym (spot_in l from r pv extent go.0 b)),
      others some more never.1 counts.1 go.1,
    )

-- runs of a part and of later parts
past_apart : (group : Group) (want : Request) (extents : ℕ) (legs : List (List PvRun)) (from next : ℕ) (a b : PvRun)
    → AllByRecursion (IsLeg group want extents) legs → Pairs (NeverMeet extents) legs
    → next ≤ extents → LiesPast next legs from a → LiesPast extents legs next b → LieApart a b
past_apart group want extents legs from next a b are meet before here there pv extent in_a in_b =
    let m : ℕ = here.from + (extent - a.first) in
    let n : ℕ = there.from + (extent - b.first) in
    differ_across group want extents legs here.leg there.leg m n are meet here.one there.one
    (omega (arith, in_a.1, in_a.2, here.within, before)) (omega (arith, in_b.1, in_b.2, there.within))
    (λ same. omega (arith, same, in_a.1, in_a.2, in_b.1, here.within, there.later))
    (spot_in here.leg here.from a pv extent here.along in_a ∙ sym (spot_in there.leg there.from b pv extent there.along in_b))

counts_same : (extents : ℕ) (runs : List PartRun)
    → AllByRecursion (λ (run : PvRun). run.count ≡ extents)
    (map (λ (run : PartRun). record { pv = run.pv; first = run.first; count = extents }) runs)
counts_same extents [] = tt
counts_same extents (run ∷ runs) = (refl, counts_same extents runs)

part_along : (legs : List (List PvRun)) (from : ℕ) (part : Part) → 1 ≤ part.extents → Agrees legs from part
    → AllAlong from (covered_by part) legs
part_along legs from part some agrees = all_along from part.extents part.runs legs some agrees

module _ (group : Group) (want : Request) (extents : ℕ) (legs : List (List PvRun)) (are : AllByRecursion (IsLeg group want extents) legs)
  where
    parts_given : (from : ℕ) (parts : List Part) → AgreeFrom legs from parts → from + extents_in parts ≤ extents
        → AllByRecursion (MayBeGiven group want) (covered parts)
    parts_given from [] agree within = tt
    parts_given from (part ∷ parts) agree within =
        all_append (MayBeGiven group want) (covered_by part) (covered parts)
        (all_given group want extents from part.extents (covered_by part) legs are (counts_same part.extents part.runs) agree.0
        (omega (arith, within, extents_cons part parts)) (part_along legs from part agree.0 agree.1))
        (parts_given (from + part.extents) parts agree.2 (omega (arith, within, extents_cons part parts)))

    parts_past : (from : ℕ) (parts : List Part) → AgreeFrom legs from parts → from + extents_in parts ≤ extents
        → AllByRecursion (LiesPast extents legs from) (covered parts)
    parts_past from [] agree within = tt
    parts_past from (part ∷ parts) agree within =
        all_append (LiesPast extents legs from) (covered_by part) (covered parts)
        (along_past extents from part.extents (covered_by part) legs (counts_same part.extents part.runs)
        (omega (arith, within, extents_cons part parts)) (part_along legs from part agree.0 agree.1))
        (all_weaker (LiesPast extents legs (from + part.extents)) (LiesPast extents legs from)
        (λ run past. past_earlier extents legs from (from + part.extents) run (omega arith) past) (covered parts)
        (parts_past (from + part.extents) parts agree.2 (omega (arith, within, extents_cons part parts))))

    module _ (meet : Pairs (NeverMeet extents) legs) where
      parts_apart : (from : ℕ) (parts : List Part) → AgreeFrom legs from parts → from + extents_in parts ≤ extents
          → Pairs LieApart (covered parts)
      parts_apart from [] agree within = tt
      parts_apart from (part ∷ parts) agree within =
          let next : ℕ = from + part.extents in
          let before : next ≤ extents = omega (arith, within, extents_cons part parts) in
          let along = part_along legs from part agree.0 agree.1 in
          let same = counts_same part.extents part.runs in
          pairs_append LieApart (covered_by part) (covered parts)
          (legs_apart extents from part.extents (covered_by part) legs meet same before along)
          (parts_apart next parts agree.2 (omega (arith, within, extents_cons part parts)))
          (all_weaker (LiesPast next legs from) (λ a. AllByRecursion (LieApart a) (covered parts))
          (λ a here. all_weaker (LiesPast extents legs next) (LieApart a)
          (λ b there. past_apart group want extents legs from next a b are meet before here there) (covered parts)
          (parts_past next parts agree.2 (omega (arith, within, extents_cons part parts))))
          (covered_by part) (along_past next from part.extents (covered_by part) legs same (omega arith) along))

-- a part has a run for each leg
as_many : (from : ℕ) (runs : List PvRun) (legs : List (List PvRun)) → AllAlong from runs legs → length runs ≡ length legs
as_many from [] [] along = refl
as_many from [] (leg ∷ legs) along = absurd along
as_many from (run ∷ runs) [] along = absurd along
as_many from (run ∷ runs) (leg ∷ legs) along = ap suc (as_many from runs legs along.1)

runs_for_legs : (from : ℕ) (legs : List (List PvRun)) (parts : List Part) → AgreeFrom legs from parts
    → AllByRecursion (λ (part : Part). (1 ≤ part.extents) × (length part.runs ≡ length legs)) parts
runs_for_legs from legs [] agree = tt
runs_for_legs from legs (part ∷ parts) agree = (
  (
    agree.0,
    sym (length-map part.runs (λ (run : PartRun). let r : PvRun =
        record { pv = run.pv; first = run.first; count = part.extents } in r))
        ∙ as_many from (covered_by part) legs (part_along legs from part agree.0 agree.1),
  ),
  runs_for_legs (from + part.extents) legs parts agree.2,
)

-- each leg lies on one volume
abbrev pub LieOn : ℕ → List ℕ → List (List PvRun) → Type 0
LieOn extents [] [] = Unit {0}
LieOn extents [] (leg ∷ legs) = ⊥
LieOn extents (pv ∷ pvs) [] = ⊥
LieOn extents (pv ∷ pvs) (leg ∷ legs) = ((n : ℕ) → n < extents → (spot leg n).0 ≡ pv) × LieOn extents pvs legs

volumes_differ : (extents : ℕ) (leg : List PvRun) (pv : ℕ) (pvs : List ℕ) (legs : List (List PvRun))
    → ((n : ℕ) → n < extents → (spot leg n).0 ≡ pv) → AllByRecursion (λ other. pv ≢ other) pvs → LieOn extents pvs legs
    → AllByRecursion (NeverMeet extents leg) legs
volumes_differ extents leg pv [] [] on differ lie = tt
volumes_differ extents leg pv [] (l ∷ legs) on differ lie = absurd lie
volumes_differ extents leg pv (other ∷ pvs) [] on differ lie = absurd lie
volumes_differ extents leg pv (other ∷ pvs) (l ∷ legs) on differ lie = (
  λ m n low high same. differ.0 (sym (on m low) ∙ ap (λ (s : ℕ × ℕ). s.0) same ∙ lie.0 n high),
  volumes_differ extents leg pv pvs legs on differ.1 lie.1,
)

pub never_meet : (extents : ℕ) (pvs : List ℕ) (legs : List (List PvRun)) → Pairs (λ (a b : ℕ). a ≢ b) pvs → LieOn extents pvs legs
    → Pairs (NeverMeet extents) legs
never_meet extents [] [] differ lie = tt
never_meet extents [] (leg ∷ legs) differ lie = absurd lie
never_meet extents (pv ∷ pvs) [] differ lie = absurd lie
never_meet extents (pv ∷ pvs) (leg ∷ legs) differ lie =
    (volumes_differ extents leg pv pvs legs lie.0 differ.0 lie.1, never_meet extents pvs legs differ.1 lie.1)

volumes_of : (extents from count : ℕ) (runs : List PartRun) (legs : List (List PvRun)) (pvs : List ℕ) → 1 ≤ count → from + count ≤ extents
    → LieOn extents pvs legs
    → AllAlong from (map (λ (run : PartRun). record { pv = run.pv; first = run.first; count = count }) runs) legs
    → map (λ (run : PartRun). run.pv) runs ≡ pvs
volumes_of extents from count [] [] [] some within lie along = refl
volumes_of extents from count [] [] (pv ∷ pvs) some within lie along = absurd lie
volumes_of extents from count [] (leg ∷ legs) pvs some within lie along = absurd along
volumes_of extents from count (run ∷ runs) [] pvs some within lie along = absurd along
volumes_of extents from count (run ∷ runs) (leg ∷ legs) [] some within lie along = absurd lie
volumes_of extents from count (run ∷ runs) (leg ∷ legs) (pv ∷ pvs) some within lie along =
    ap₂ (λ (p : ℕ) (ps : List ℕ). p ∷ ps) (ap (λ (s : ℕ × ℕ). s.0) (sym (along.0 0 (omega (arith, some))))
    ∙ lie.0 (from + 0) (omega (arith, some, within)))
    (volumes_of extents from count runs legs pvs some within lie.1 along.1)

pub parts_on : (extents from : ℕ) (legs : List (List PvRun)) (pvs : List ℕ) (parts : List Part) → LieOn extents pvs legs
    → AgreeFrom legs from parts → from + extents_in parts ≤ extents
    → AllByRecursion (λ (part : Part). map (λ (run : PartRun). run.pv) part.runs ≡ pvs) parts
parts_on extents from legs pvs [] lie agree within = tt
parts_on extents from legs pvs (part ∷ parts) lie agree within = (
  volumes_of extents from part.extents part.runs legs pvs agree.0 (omega (arith, within, extents_cons part parts)) lie
      (part_along legs from part agree.0 agree.1),
  parts_on extents (from + part.extents) legs pvs parts lie agree.2 (omega (arith, within, extents_cons part parts)),
)

-- the parts are given
pub given_parts : (group : Group) (want : Request) (legs : List (List PvRun)) (parts : List Part)
    → AllByRecursion (IsLeg group want want.extents) legs → Pairs (NeverMeet want.extents) legs → length legs ≡ want.legs
    → AgreeFrom legs 0 parts → extents_in parts ≡ want.extents → (IsTrue want.contiguous → length parts ≡ 1)
    → (1 < want.legs → (pvs : List ℕ) × AllPairs (λ (a b : ℕ). a ≢ b) pvs
    × All (λ (part : Part). map (λ (run : PartRun). run.pv) part.runs ≡ pvs) parts) → IsGiven group want parts
given_parts group want legs parts are meet many agree enough one volumes =
    let within : 0 + extents_in parts ≤ want.extents = omega (arith, enough) in
    record {
      legs = All-from_recursion (λ (part : Part). (1 ≤ part.extents) × (length part.runs ≡ want.legs)) parts
          (all_weaker (λ (part : Part). (1 ≤ part.extents) × (length part.runs ≡ length legs))
          (λ (part : Part). (1 ≤ part.extents) × (length part.runs ≡ want.legs)) (λ part both. (both.0, both.1 ∙ many)) parts
          (runs_for_legs 0 legs parts agree));
      free = All-from_recursion (MayBeGiven group want) (covered parts) (parts_given group want want.extents legs are 0 parts agree within);
      apart = pairs_to LieApart (covered parts) (parts_apart group want want.extents legs are meet 0 parts agree within);
      enough = enough;
      contiguous = one;
      volumes = volumes;
    }
