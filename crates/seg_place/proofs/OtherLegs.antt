-- The other legs of a mirror, one after another.
use Rattle.std.proofs.Common.{◌≡◌, ℕ, zero, suc, ◌+◌, ◌*◌, ◌/◌, ◌≤◌, Bool, true, false, cond, List, [], ◌∷◌, ◌++◌, length, drop, Option}
use Rattle.std.proofs.Common.{Some, None, refl, sym, ap, ◌∙◌, arith, append_assoc, append-nil, drop-cons}
use Rattle.std.specs.Prelude.{◌==◌, if◌then◌else◌, IsSome, filter_map, option_map, slice_get}
use Rattle.std.specs.List.{cons_option, enumerate_from}
use Rattle.std.proofs.lemmas.Bool.{ne_eqb}
use Rattle.std.proofs.lemmas.Option.{get_or_from_slice_get, slice_get_within}
use Rattle.sector_base.specs.declared.places.At.{At}
use Rattle.meta_model.specs.declared.group.Group.{Group}
use Rattle.meta_model.specs.declared.segment.Leg.{Leg}
use Rattle.meta_model.specs.declared.segment.SegKind.{SegKind}
use Rattle.meta_model.specs.declared.segment.SegKind.TheVariants.{Striped, Mirror}
use Rattle.meta_model.specs.Runs.{legs_of}
use Rattle.meta_model.specs.declared.segment.On.{On}
use Rattle.volume_rules.specs.Rules.{IsAccepted, IsWholeMirror, IsWholeStriped}
use Rattle.volume_view.specs.InSegments.{Met, Spot, is_finished, leg_spot, offset_in, primary_leg, region_of}
use Rattle.volume_view.specs.Places.{down, mirror_of, others_of}
use Rattle.volume_view.proofs.MetSegments.{ByLeg, by_leg, meets_is}
use Rattle.volume_view.proofs.PrimariesStand.{Whole, leg_stands, whole_is}
use Rattle.seg_place.specs.CodeValues.{IsMet}
use Rattle.seg_place.proofs.Descending.{some_is}

-- where a leg that isn't read leads
abbrev pub other_at : Group → Met → ℕ × Leg → Option At
other_at group m leg =
    if leg.0 == primary_leg m.segment.count m.segment.kind m.at
    then None
    else down group leg.1.on 5 (leg.1.first * group.extent_size + offset_in m.segment.kind m.at)

-- those of the legs from this number on
abbrev pub others_from : Group → Met → ℕ → List At
others_from group m number = filter_map (other_at group m) (enumerate_from number (drop number (legs_of m.segment.kind)))

abbrev no_region : Option ℕ
no_region = None

first_of : (count : ℕ) (kind : SegKind) (l : ℕ) → IsSome (region_of count kind l) → primary_leg count kind l ≡ 0
first_of count (Striped stripe legs) l is = absurd (grind arith)
first_of count (Mirror region moved legs) l is = unless (is_finished count moved) is where
  unless : (b : Bool) → IsSome (if b then no_region else Some (l / region)) → ◌≡◌ {A = ℕ} (cond b 1 0) 0
  unless true none = absurd (grind arith)
  unless false some = refl

some_of : {X Y : Type 0} (f : X → Y) (o : Option X) → IsSome (option_map f o) → IsSome o
some_of f None is = absurd (grind arith)
some_of f (Some x) is = grind arith

-- where a sector has a region, the first leg is read
pub first_is_read : (m : Met) → IsSome (mirror_of m) → primary_leg m.segment.count m.segment.kind m.at ≡ 0
first_is_read m is = first_of m.segment.count m.segment.kind m.at (some_of _ (region_of m.segment.count m.segment.kind m.at) is)

suc_one : (n : ℕ) → suc n ≡ n + 1
suc_one n = omega arith

-- so the others are those from the second on
pub others_first : (group : Group) (m : Met) → IsSome (mirror_of m) → others_from group m 1 ≡ others_of group m
others_first group m is = from_second (legs_of m.segment.kind) where
  from_second : (legs : List Leg) → filter_map (other_at group m) (enumerate_from 1 (drop 1 legs))
      ≡ filter_map (other_at group m) (enumerate_from 0 legs)
  from_second [] = refl
  from_second (leg ∷ legs) =
      let place : Option At = down group leg.on 5 (leg.first * group.extent_size + offset_in m.segment.kind m.at) in
      ap (λ (p : ℕ). cons_option (if 0 == p then None else place) (filter_map (other_at group m) (enumerate_from 1 legs)))
      (sym (first_is_read m is))

-- a leg, and then those behind it
pub others_next : (group : Group) (m : Met) (number : ℕ) (leg : Leg) (at : At) → IsSome (mirror_of m) → 1 ≤ number
    → slice_get (legs_of m.segment.kind) number ≡ Some leg
    → down group leg.on 5 (leg.first * group.extent_size + offset_in m.segment.kind m.at) ≡ Some at
    → others_from group m number ≡ at ∷ others_from group m (number + 1)
others_next group m number leg at is later there leads =
    let legs = legs_of m.segment.kind in
    let here : drop number legs ≡ leg ∷ drop (number + 1) legs =
    drop-cons legs number leg (slice_get_within legs number leg there)
    ∙ ap (λ (l : Leg). l ∷ drop (suc number) legs) (get_or_from_slice_get legs number leg leg there)
    ∙ ap (λ (n : ℕ). leg ∷ drop n legs) (suc_one number) in
    let test : (number == primary_leg m.segment.count m.segment.kind m.at) ≡ false =
    ne_eqb number (primary_leg m.segment.count m.segment.kind m.at) (λ same. omega (arith, same, first_is_read m is)) in
    ap (λ (l : List Leg). filter_map (other_at group m) (enumerate_from number l)) here
    ∙ ap (λ (b : Bool). cons_option (cond b None (down group leg.on 5 (leg.first * group.extent_size + offset_in m.segment.kind m.at)))
    (others_from group m (number + 1))) test
    ∙ ap (λ (o : Option At). cons_option o (others_from group m (number + 1))) leads

-- each leg of a segment that is met leads down
pub other_leads : (group : Group) (m : Met) (number : ℕ) (spot : Spot) → IsAccepted group → IsMet group m
    → leg_spot group.extent_size m number ≡ Some spot → IsSome (down group spot.on 5 spot.sector)
other_leads group m number spot accepted met there =
    let leg : ByLeg group m number spot = by_leg group m number spot there in
    let one = leg_stands group m.lv met.0 m number leg.it accepted met.1 leg.is_leg in
    some_is (down group spot.on 5 spot.sector) one.0
    (ap (λ (o : On). down group o 5 spot.sector) (sym leg.on) ∙ ap (down group leg.it.on 5) (sym leg.at) ∙ one.1)

-- the places so far, one more, and those behind it
pub others_more : (group : Group) (m : Met) (number : ℕ) (spot : Spot) (at : At) (others whole : List At) → IsSome (mirror_of m)
    → 1 ≤ number → leg_spot group.extent_size m number ≡ Some spot → down group spot.on 5 spot.sector ≡ Some at
    → others ++ others_from group m number ≡ whole → (others ++ at ∷ []) ++ others_from group m (number + 1) ≡ whole
others_more group m number spot at others whole is later there leads so_far =
    let leg : ByLeg group m number spot = by_leg group m number spot there in
    let goes : down group leg.it.on 5 (leg.it.first * group.extent_size + offset_in m.segment.kind m.at) ≡ Some at =
    ap (λ (o : On). down group o 5 (leg.it.first * group.extent_size + offset_in m.segment.kind m.at)) leg.on
    ∙ ap (down group spot.on 5) leg.at ∙ leads in
    append_assoc others (at ∷ []) (others_from group m (number + 1))
    ∙ ap (λ (l : List At). others ++ l) (sym (others_next group m number leg.it at is later leg.is_leg goes)) ∙ so_far

-- behind the last leg there are none
drop_past : (legs : List Leg) (n : ℕ) → length legs ≤ n → drop n legs ≡ []
drop_past [] zero past = refl
drop_past [] (suc n) past = refl
drop_past (leg ∷ legs) zero past = absurd (omega arith)
drop_past (leg ∷ legs) (suc n) past = drop_past legs n (omega arith)

pub others_all : (group : Group) (m : Met) (number : ℕ) (others whole : List At) → length (legs_of m.segment.kind) ≤ number
    → others ++ others_from group m number ≡ whole → others ≡ whole
others_all group m number others whole past so_far =
    let none : others_from group m number ≡ [] =
    ap (λ (l : List Leg). filter_map (other_at group m) (enumerate_from number l)) (drop_past (legs_of m.segment.kind) number past) in
    sym (append-nil others) ∙ ap (λ (l : List At). others ++ l) (sym none) ∙ so_far

-- a segment has eight legs at most
few_legs : (extent count : ℕ) (kind : SegKind) → IsWholeStriped extent count kind → IsWholeMirror kind → length (legs_of kind) ≤ 8
few_legs extent count (Striped stripe legs) striped mirror = striped.1
few_legs extent count (Mirror region moved legs) striped mirror = mirror.1

pub legs_are_few : (group : Group) (m : Met) → IsAccepted group → IsMet group m → length (legs_of m.segment.kind) ≤ 8
legs_are_few group m accepted met =
    let whole : Whole group m = whole_is group m.lv met.0 m accepted (meets_is group m.lv met.0 m met.1) in
    few_legs group.extent_size m.segment.count m.segment.kind whole.striped whole.mirror
