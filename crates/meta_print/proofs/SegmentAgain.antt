-- What is printed of a segment is read again.
use Rattle.std.proofs.Common.{◌≡◌, ℕ, Bool, true, false, not, List, [], ◌∷◌, ◌++◌, length, map, Option, Some, None, Ok, refl, ap}
use Rattle.std.specs.Prelude.{◌||◌, ◌==◌, nat_lt, codes, flat_map, if◌then◌else◌, option_map}
use Rattle.std.proofs.lemmas.Bool.{eq-eqb, eqb-true}
use Rattle.std.proofs.lemmas.List.{length-map}
use Rattle.std.specs.List.{AllByRecursion as Each}
use Rattle.conf_text.specs.Entries.{ConfEntry, Scalar, Assign, Many}
use Rattle.conf_text.specs.Items.{items}
use Rattle.meta_model.specs.Keys.{pairs_of, counted, each}
use Rattle.meta_model.specs.PassedOver.{in_segment}
use Rattle.meta_model.specs.Standing.{Names, leg_of, segment_of}
use Rattle.meta_model.specs.declared.group.Group.{Group}
use Rattle.meta_model.specs.declared.segment.Leg.{Leg}
use Rattle.meta_model.specs.declared.segment.SegKind.{SegKind}
use Rattle.meta_model.specs.declared.segment.SegKind.TheVariants.{Striped, Mirror}
use Rattle.meta_model.specs.declared.segment.Segment.{Segment}
use Rattle.meta_print.specs.Layout.{text, number, name_of, pair_of, kind_entries}
use Rattle.meta_print.proofs.Sections.{IsWhole}
use Rattle.meta_print.proofs.Printable.{names_of, IsLeg, IsKind, IsSegment}

-- what stands in the section
abbrev pub segment_body : Group → Segment → List ConfEntry
segment_body group segment =
    number (codes "start_extent") segment.start ∷ number (codes "extent_count") segment.count ∷ kind_entries group segment.kind

-- of a striped segment, whether its stripes' size is shown or not
abbrev pub striped_body : ℕ → ℕ → ℕ → ℕ → List Scalar → Bool → List ConfEntry
striped_body start count said stripe legs shown =
    number (codes "start_extent") start
    ∷ number (codes "extent_count") count
    ∷ text (codes "type") (codes "striped")
    ∷ number (codes "stripe_count") said
    ∷ (if shown then number (codes "stripe_size") stripe ∷ [] else [])
    ++ Assign (codes "stripes") (Many legs)
    ∷ []

abbrev pub is_shown : ℕ → ℕ → Bool
is_shown said stripe = nat_lt 1 said || not (stripe == 0)

-- as many as were said
pub counted_same : {A : Type 0} (said : ℕ) (found : List A) → length found ≡ said → counted said found ≡ Ok found
counted_same said found same = rw (eq-eqb (length found) said same) refl

-- ---- legs

abbrev pub named_legs : Group → List Leg → List (List ℕ × ℕ)
named_legs group legs = map (λ leg. (name_of group leg.on, leg.first)) legs

pairs_again : (group : Group) (legs : List Leg) → pairs_of (flat_map (pair_of group) legs) ≡ Some (named_legs group legs)
pairs_again group [] = refl
pairs_again group (leg ∷ legs) = ap (option_map (λ pairs. (name_of group leg.on, leg.first) ∷ pairs)) (pairs_again group legs)

counted_again : (group : Group) (legs : List Leg) → counted (length legs) (named_legs group legs) ≡ Ok (named_legs group legs)
counted_again group legs = counted_same (length legs) (named_legs group legs) (length-map legs (λ leg. (name_of group leg.on, leg.first)))

each_again : (group : Group) (legs : List Leg) → Each (IsLeg group) legs → each (leg_of (names_of group)) (named_legs group legs) ≡ Ok legs
each_again group [] h = refl
each_again group (leg ∷ legs) h = rw (h.0.found, each_again group legs h.1) refl

-- ---- kinds

striped_by : (names : Names) (start count said stripe : ℕ) (scalars : List Scalar) (found : List (List ℕ × ℕ)) (legs : List Leg)
    (many none : Bool)
    → nat_lt 1 said ≡ many → (none ≡ true → stripe ≡ 0) → pairs_of scalars ≡ Some found → counted said found ≡ Ok found
    → each (leg_of names) found ≡ Ok legs
    → segment_of names (items (striped_body start count said stripe scalars (many || not none)))
    ≡ Ok (record { start = start; count = count; kind = Striped stripe legs })
striped_by names start count said stripe scalars found legs true none many zero pairs counts reads = rw (pairs, counts, reads, many) refl
striped_by names start count said stripe scalars found legs false true many zero pairs counts reads =
    rw (pairs, counts, reads, many, zero refl) refl
striped_by names start count said stripe scalars found legs false false many zero pairs counts reads = rw (pairs, counts, reads, many) refl

mirror_by : (group : Group) (start count region : ℕ) (moved : Option ℕ) (legs : List Leg) → Each (IsLeg group) legs
    → segment_of (names_of group) (items (segment_body group (record { start = start; count = count; kind = Mirror region moved legs })))
    ≡ Ok (record { start = start; count = count; kind = Mirror region moved legs })
mirror_by group start count region None legs h = rw (pairs_again group legs, counted_again group legs, each_again group legs h) refl
mirror_by group start count region (Some extents) legs h =
    rw (pairs_again group legs, counted_again group legs, each_again group legs h) refl

again_by : (group : Group) (start count : ℕ) (kind : SegKind) → IsKind group kind
    → segment_of (names_of group) (items (segment_body group (record { start = start; count = count; kind = kind })))
    ≡ Ok (record { start = start; count = count; kind = kind })
again_by group start count (Striped stripe legs) h =
    striped_by (names_of group) start count (length legs) stripe (flat_map (pair_of group) legs) (named_legs group legs) legs
    (nat_lt 1 (length legs)) (stripe == 0)
    refl (eqb-true stripe 0) (pairs_again group legs) (counted_again group legs) (each_again group legs h.1.each)
again_by group start count (Mirror region moved legs) h = mirror_by group start count region moved legs h.2.each

pub segment_again : (group : Group) (segment : Segment) → IsSegment group segment
    → segment_of (names_of group) (items (segment_body group segment)) ≡ Ok segment
segment_again group segment h = again_by group segment.start segment.count segment.kind h.kind_is

-- ---- keys that are known, and the section as a whole

striped_known : (path : List ℕ) (start count said stripe : ℕ) (scalars : List Scalar) (shown : Bool)
    → in_segment path (items (striped_body start count said stripe scalars shown)) ≡ []
striped_known path start count said stripe scalars true = refl
striped_known path start count said stripe scalars false = refl

known_by : (group : Group) (path : List ℕ) (start count : ℕ) (kind : SegKind)
    → in_segment path (items (segment_body group (record { start = start; count = count; kind = kind }))) ≡ []
known_by group path start count (Striped stripe legs) =
    striped_known path start count (length legs) stripe (flat_map (pair_of group) legs) (is_shown (length legs) stripe)
known_by group path start count (Mirror region None legs) = refl
known_by group path start count (Mirror region (Some moved) legs) = refl

pub segment_known : (group : Group) (path : List ℕ) (segment : Segment) → in_segment path (items (segment_body group segment)) ≡ []
segment_known group path segment = known_by group path segment.start segment.count segment.kind

striped_whole : (start count said stripe : ℕ) (scalars : List Scalar) (shown : Bool)
    → IsWhole (striped_body start count said stripe scalars shown)
striped_whole start count said stripe scalars true = record { stays = λ deep more. refl; passes = λ deep more. refl; lists = λ more. refl }
striped_whole start count said stripe scalars false = record { stays = λ deep more. refl; passes = λ deep more. refl; lists = λ more. refl }

whole_by : (group : Group) (start count : ℕ) (kind : SegKind)
    → IsWhole (segment_body group (record { start = start; count = count; kind = kind }))
whole_by group start count (Striped stripe legs) =
    striped_whole start count (length legs) stripe (flat_map (pair_of group) legs) (is_shown (length legs) stripe)
whole_by group start count (Mirror region None legs) =
    record { stays = λ deep more. refl; passes = λ deep more. refl; lists = λ more. refl }
whole_by group start count (Mirror region (Some moved) legs) =
    record { stays = λ deep more. refl; passes = λ deep more. refl; lists = λ more. refl }

pub segment_whole : (group : Group) (segment : Segment) → IsWhole (segment_body group segment)
segment_whole group segment = whole_by group segment.start segment.count segment.kind
