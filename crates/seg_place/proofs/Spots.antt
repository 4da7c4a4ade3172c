-- Where legs have sectors.
use Rattle.std.proofs.Common.{◌≡◌, ℕ, ◌+◌, ◌*◌, ◌/◌, ◌^◌, ◌<◌, ◌≤◌, Bool, true, false, cond, List, length, get_or, Option, Some, inl, inr}
use Rattle.std.proofs.Common.{sym, ap, subst, arith}
use Rattle.std.specs.Prelude.{slice_get, option_map}
use Rattle.std.proofs.lemmas.Bool.{cases_eq}
use Rattle.std.proofs.lemmas.Nat.{mod_below}
use Rattle.std.proofs.lemmas.Option.{slice_get-get_or}
use Rattle.meta_model.specs.declared.group.Group.{Group}
use Rattle.meta_model.specs.declared.segment.Leg.{Leg}
use Rattle.meta_model.specs.declared.segment.SegKind.{SegKind}
use Rattle.meta_model.specs.declared.segment.SegKind.TheVariants.{Striped, Mirror}
use Rattle.meta_model.specs.Runs.{legs_of}
use Rattle.volume_rules.specs.Rules.{IsAccepted, IsWholeMirror, IsWholeStriped}
use Rattle.volume_view.specs.InSegments.{Met, Spot, is_finished, leg_spot, offset_in, primary_leg, spot_in, stripe_leg}
use Rattle.volume_view.proofs.MetSegments.{meets_is}
use Rattle.volume_view.proofs.PrimariesStand.{LeadsOn, ToLv, ToPv, Whole, leads_on, whole_is}
use Rattle.volume_view.proofs.Stripes.{more_leg}
use Rattle.seg_place.specs.Legs.{HasLegs}
use Rattle.seg_place.specs.CodeValues.{IsMet}
use Rattle.seg_place.proofs.Volumes.{lv_is_well, pv_fits}

whole_has : (extent count : ℕ) (kind : SegKind) → IsWholeStriped extent count kind → IsWholeMirror kind → HasLegs kind
whole_has extent count (Striped stripe legs) striped mirror = (striped.0, λ more. let size : 8 ≤ stripe = (striped.3 more).1 in omega arith)
whole_has extent count (Mirror region moved legs) striped mirror = let size : 8 ≤ region = mirror.3 in (mirror.0, omega arith)

-- a segment that is met has its legs
pub has_legs : (group : Group) (m : Met) → IsAccepted group → IsMet group m → HasLegs m.segment.kind
has_legs group m accepted is =
    let whole : Whole group m = whole_is group m.lv is.0 m accepted (meets_is group m.lv is.0 m is.1) in
    whole_has group.extent_size m.segment.count m.segment.kind whole.striped whole.mirror

-- the one that is read is among them
pub primary_within : (count : ℕ) (kind : SegKind) (l : ℕ) → HasLegs kind → primary_leg count kind l < length (legs_of kind)
primary_within count (Striped stripe legs) l has =
    elim (cases_eq (length legs) 1) [
      | inl one ↦ subst (λ (k : ℕ). k < length legs) (sym (ap (λ (n : ℕ). stripe_leg stripe n l) one)) (omega arith)
      | inr more ↦ subst (λ (k : ℕ). k < length legs) (sym (more_leg stripe (length legs) l more))
          (mod_below (l / stripe) (length legs) (omega (arith, has.0)))
    ]
primary_within count (Mirror region moved legs) l has = first_or_second (is_finished count moved) (length legs) has.0 where
  first_or_second : (b : Bool) (n : ℕ) → 2 ≤ n → cond b 1 0 < n
  first_or_second true n two = omega arith
  first_or_second false n two = omega arith

small_spot : (group : Group) (lv : ℕ) (spot : Spot) → IsAccepted group → LeadsOn group lv spot → spot.sector < 2 ^ 48
small_spot group lv spot accepted (ToPv number pv on is lt) = omega (arith, lt, pv_fits group number pv accepted is)
small_spot group lv spot accepted (ToLv number volume on is lt lies) =
    omega (arith, lt, (lv_is_well group number volume accepted is).sectors)

-- the sector of a leg where it has one of the segment is small
pub leg_small : (group : Group) (m : Met) (j : ℕ) (leg : Leg) → IsAccepted group → IsMet group m
    → slice_get (legs_of m.segment.kind) j ≡ Some leg → leg.first * group.extent_size + offset_in m.segment.kind m.at < 2 ^ 48
leg_small group m j leg accepted is there =
    small_spot group m.lv (spot_in group.extent_size (offset_in m.segment.kind m.at) leg) accepted
    (leads_on group m.lv is.0 m j leg accepted (meets_is group m.lv is.0 m is.1) there)

-- and the leg has it there
pub leg_there : (extent : ℕ) (m : Met) (j : ℕ) (leg : Leg) → slice_get (legs_of m.segment.kind) j ≡ Some leg
    → leg_spot extent m j ≡ Some (spot_in extent (offset_in m.segment.kind m.at) leg)
unfolding leg_spot
leg_there extent m j leg is = ap (λ (o : Option Leg). option_map (spot_in extent (offset_in m.segment.kind m.at)) o) is

-- the leg with this number, as it is read
pub leg_read : (found legs : List Leg) (k : ℕ) (d : Leg) → found ≡ legs → k < length legs → slice_get legs k ≡ Some (get_or found k d)
leg_read found legs k d same lt =
    subst (λ (l : List Leg). slice_get l k ≡ Some (get_or found k d)) same
    (slice_get-get_or found k d (subst (λ (l : List Leg). k < length l) (sym same) lt))
