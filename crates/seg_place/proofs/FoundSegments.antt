-- The segment that has a sector's extent is the one that has the sector.
use Rattle.std.proofs.Common.{◌≡◌, ℕ, zero, suc, ◌+◌, ◌-◌, ◌*◌, ◌/◌, ◌%◌, ◌<◌, ◌≤◌, Bool, true, false, cond, nat_le, nat_lt, List, [], ◌∷◌}
use Rattle.std.proofs.Common.{length, get_or, Option, Some, refl, sym, ap, subst, ◌∙◌, arith, mul-le-mul_right}
use Rattle.std.specs.Prelude.{IsSome, slice_get, sum_by, option_map}
use Rattle.std.specs.Option.{option_and_then}
use Rattle.std.proofs.lemmas.Bool.{and_from, and_parts, le-leb, lt-ltb, ltb-true}
use Rattle.std.proofs.lemmas.Nat.{div-add-mod', div_below, mod_below}
use Rattle.std.proofs.lemmas.List.Sums.{sum_by-cons}
use Rattle.std.proofs.lemmas.Option.{get_or_from_slice_get, same_Some, slice_get_within}
use Rattle.meta_model.specs.declared.group.Group.{Group}
use Rattle.meta_model.specs.declared.lv.Lv.{Lv}
use Rattle.meta_model.specs.declared.segment.Segment.{Segment}
use Rattle.volume_rules.specs.Extents.{extents_of}
use Rattle.volume_rules.specs.Rules.{Follow, IsAccepted}
use Rattle.volume_view.specs.InSegments.{Met, has_sector, met, segment_from}
use Rattle.volume_view.proofs.MetSegments.{Meets, make, meets_is}
use Rattle.seg_place.specs.Search.{HasExtent}
use Rattle.seg_place.proofs.Descending.{the_some}
use Rattle.seg_place.proofs.Volumes.{extent_is_some, lv_is_well}

-- each segment begins where they all do, or later
follow_from : (at : ℕ) (segments : List Segment) (k : ℕ) (s : Segment) → Follow at segments → slice_get segments k ≡ Some s → at ≤ s.start
follow_from at [] k s follow is = cc
follow_from at (x ∷ xs) zero s follow is = subst (λ (y : Segment). at ≤ y.start) (same_Some x s is) (omega (arith, follow.0))
follow_from at (x ∷ xs) (suc k) s follow is =
    let rest : at + x.count ≤ s.start = follow_from (at + x.count) xs k s follow.2 is in omega arith

-- and ends where they all do, or before
follow_to : (at : ℕ) (segments : List Segment) (k : ℕ) (s : Segment) → Follow at segments → slice_get segments k ≡ Some s
    → s.start + s.count ≤ at + sum_by (λ (x : Segment). x.count) segments
follow_to at [] k s follow is = cc
follow_to at (x ∷ xs) zero s follow is =
    subst (λ (y : Segment). y.start + y.count ≤ at + sum_by (λ (z : Segment). z.count) (x ∷ xs)) (same_Some x s is)
    (omega (arith, follow.0, sum_by-cons (λ (z : Segment). z.count) x xs))
follow_to at (x ∷ xs) (suc k) s follow is =
    let rest : s.start + s.count ≤ at + x.count + sum_by (λ (z : Segment). z.count) xs = follow_to (at + x.count) xs k s follow.2 is in
    omega (arith, rest, sum_by-cons (λ (z : Segment). z.count) x xs)

inside : (start count q extent r sector : ℕ) → start ≤ q → q < start + count → q * extent + r ≡ sector → r < extent
    → (start * extent ≤ sector) × (sector < (start + count) * extent)
inside start count q extent r sector from to whole rest =
    let low : start * extent ≤ q * extent = mul-le-mul_right extent from in
    let high : (q + 1) * extent ≤ (start + count) * extent = mul-le-mul_right extent (omega arith) in
    (omega arith, omega arith)

-- the sector stands in the segment that has its extent
has_it : (extent sector : ℕ) (s : Segment) → 1 ≤ extent → s.start ≤ sector / extent → sector / extent < s.start + s.count
    → has_sector extent sector s ≡ true
has_it extent sector s some from to =
    let both =
    inside s.start s.count (sector / extent) extent (sector % extent) sector from to (div-add-mod' sector extent)
    (mod_below sector extent some) in
    and_from (nat_le (s.start * extent) sector) (nat_lt sector ((s.start + s.count) * extent)) (le-leb (s.start * extent) sector both.0)
    (lt-ltb sector ((s.start + s.count) * extent) both.1)

-- and in none that ends before
not_yet : (extent sector : ℕ) (s : Segment) → 1 ≤ extent → s.start + s.count ≤ sector / extent → has_sector extent sector s ≡ false
not_yet extent sector s some past = unless (has_sector extent sector s) refl where
  unless : (b : Bool) → has_sector extent sector s ≡ b → has_sector extent sector s ≡ false
  unless false is = is
  unless true is =
      let parts = and_parts (nat_le (s.start * extent) sector) (nat_lt sector ((s.start + s.count) * extent)) is in
      let high : sector < (s.start + s.count) * extent = ltb-true sector ((s.start + s.count) * extent) parts.1 in
      let low : (s.start + s.count) * extent ≤ sector / extent * extent = mul-le-mul_right extent past in
      absurd (omega (arith, div-add-mod' sector extent))

-- the first segment that has a sector is the one in which it stands
pub found_at : (extent sector number at : ℕ) (segments : List Segment) (k : ℕ) (s : Segment) → 1 ≤ extent → Follow at segments
    → slice_get segments k ≡ Some s → s.start ≤ sector / extent → sector / extent < s.start + s.count
    → segment_from extent sector number segments ≡ Some (number + k, s)
found_at extent sector number at [] k s some follow is from to = cc
found_at extent sector number at (x ∷ xs) zero s some follow is from to =
    let test : has_sector extent sector x ≡ true =
    subst (λ (y : Segment). has_sector extent sector y ≡ true) (sym (same_Some x s is)) (has_it extent sector s some from to) in
    let place : ℕ → Segment → Option (ℕ × Segment) = λ n y. Some (n, y) in
    let number' : number ≡ number + 0 = omega arith in
    ap (λ (b : Bool). cond b (place number x) (segment_from extent sector (number + 1) xs)) test ∙ ap (place number) (same_Some x s is)
    ∙ ap (λ (n : ℕ). place n s) number'
found_at extent sector number at (x ∷ xs) (suc k) s some follow is from to =
    let later : at + x.count ≤ s.start = follow_from (at + x.count) xs k s follow.2 is in
    let start : x.start ≡ at = follow.0 in
    let test : has_sector extent sector x ≡ false = not_yet extent sector x some (omega arith) in
    let place : ℕ → Segment → Option (ℕ × Segment) = λ n y. Some (n, y) in
    let number' : number + 1 + k ≡ number + suc k = omega arith in
    ap (λ (b : Bool). cond b (place number x) (segment_from extent sector (number + 1) xs)) test
    ∙ found_at extent sector (number + 1) (at + x.count) xs k s some follow.2 is from to ∙ ap (λ (n : ℕ). place n s) number'

-- so it is met
pub met_at : (group : Group) (lv sector : ℕ) (volume : List ℕ × Lv) (number : ℕ) (s : Segment) → IsAccepted group
    → slice_get group.lvs lv ≡ Some volume → slice_get volume.1.segments number ≡ Some s → s.start ≤ sector / group.extent_size
    → sector / group.extent_size < s.start + s.count
    → met group lv sector ≡ Some (record { lv = lv; number = number; segment = s; at = sector - s.start * group.extent_size })
unfolding met
met_at group lv sector volume number s accepted is there from to =
    let found =
    found_at group.extent_size sector 0 0 volume.1.segments number s (omega (arith, extent_is_some group accepted))
    (lv_is_well group lv volume accepted is).follow there from to in
    let number' : 0 + number ≡ number = omega arith in
    ap (λ (o : Option (List ℕ × Lv)). option_and_then
    (λ (v : List ℕ × Lv). option_map (make group lv sector) (segment_from group.extent_size sector 0 v.1.segments)) o) is
    ∙ ap (λ (o : Option (ℕ × Segment)). option_map (make group lv sector) o) found
    ∙ ap (λ (n : ℕ). Some (make group lv sector (n, s))) number'

-- a sector that meets a segment of its volume lies before its end
pub meets_within : (group : Group) (lv sector : ℕ) (m : Met) → IsAccepted group → met group lv sector ≡ Some m
    → (volume : List ℕ × Lv) × (slice_get group.lvs lv ≡ Some volume) × (sector / group.extent_size < extents_of volume.1)
meets_within group lv sector m accepted is =
    let meets : Meets group lv sector m = meets_is group lv sector m is in
    let ends : m.segment.start + m.segment.count ≤ 0 + extents_of meets.volume.1 =
    follow_to 0 meets.volume.1.segments m.number m.segment (lv_is_well group lv meets.volume accepted meets.is_volume).follow
    meets.is_segment in
    let high : (m.segment.start + m.segment.count) * group.extent_size ≤ extents_of meets.volume.1 * group.extent_size =
    mul-le-mul_right group.extent_size (omega (arith, ends)) in (
      meets.volume,
      meets.is_volume,
      div_below sector group.extent_size (extents_of meets.volume.1)
          (omega (arith, extent_is_some group accepted)) (omega (arith, meets.at, meets.within)),
    )

-- so does one that meets a segment of this volume
pub volume_within : (group : Group) (lv sector : ℕ) (volume : List ℕ × Lv) → IsAccepted group → IsSome (met group lv sector)
    → slice_get group.lvs lv ≡ Some volume → sector / group.extent_size < extents_of volume.1
volume_within group lv sector volume accepted stands is =
    let one = the_some (met group lv sector) stands in
    let within = meets_within group lv sector one.0 accepted one.1 in
    subst (λ (v : List ℕ × Lv). sector / group.extent_size < extents_of v.1) (same_Some within.0 volume (sym within.1 ∙ is)) within.2

-- and its volume is there
pub volume_there : (group : Group) (lv sector : ℕ) → IsAccepted group → IsSome (met group lv sector) → lv < length group.lvs
volume_there group lv sector accepted stands =
    let one = the_some (met group lv sector) stands in
    let within = meets_within group lv sector one.0 accepted one.1 in
    slice_get_within group.lvs lv within.0 within.1

-- what is known of the segment that was found
pub record IsFoundAt (group : Group) (lv sector number : ℕ) (s : Segment) : Type 0 where
  pub few : number < 16384
  pub begins : s.start * group.extent_size ≤ sector
  pub meets : met group lv sector ≡ Some (record { lv = lv; number = number; segment = s; at = sector - s.start * group.extent_size })

pub is_found_at : (group : Group) (lv sector : ℕ) (volume : List ℕ × Lv) (segments : List Segment) (number : ℕ) (s : Segment)
    → IsAccepted group → slice_get group.lvs lv ≡ Some volume → segments ≡ volume.1.segments
    → HasExtent segments (sector / group.extent_size) number
    → (number < length segments → s ≡ get_or segments number s) → IsFoundAt group lv sector number s
is_found_at group lv sector volume segments number s accepted is same has read =
    let within : number < length segments = slice_get_within segments number has.0 has.1 in
    let here : s ≡ has.0 = read within ∙ get_or_from_slice_get segments number has.0 s has.1 in
    let there : slice_get volume.1.segments number ≡ Some s =
    ap (λ (l : List Segment). slice_get l number) (sym same) ∙ has.1 ∙ ap (λ (x : Segment). Some x) (sym here) in
    let from : s.start ≤ sector / group.extent_size = subst (λ (x : Segment). x.start ≤ sector / group.extent_size) (sym here) has.2 in
    let to : sector / group.extent_size < s.start + s.count =
    subst (λ (x : Segment). sector / group.extent_size < x.start + x.count) (sym here) has.3 in
    let some : 1 ≤ group.extent_size = omega (arith, extent_is_some group accepted) in
    record {
      few = omega (arith, slice_get_within volume.1.segments number s there, (lv_is_well group lv volume accepted is).few);
      begins =
          (inside s.start s.count (sector / group.extent_size) group.extent_size (sector % group.extent_size) sector from to
          (div-add-mod' sector group.extent_size) (mod_below sector group.extent_size some)).0;
      meets = met_at group lv sector volume number s accepted is there from to;
    }
