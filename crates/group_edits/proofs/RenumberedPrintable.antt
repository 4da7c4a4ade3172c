-- Volumes whose legs lie on volumes by their new numbers can be printed, where what they lie on is found by its name again.
use Rattle.std.proofs.Common.{◌≡◌, ◌<◌, ℕ, zero, suc, ◌^◌, List, [], ◌∷◌, map, Some, refl, sym, subst}
use Rattle.std.specs.Prelude.{slice_get}
use Rattle.std.specs.List.{AllByRecursion as Each}
use Rattle.conf_text.specs.Grammar.{IsContent}
use Rattle.meta_model.specs.Runs.{legs_of}
use Rattle.meta_model.specs.declared.group.Group.{Group}
use Rattle.meta_model.specs.declared.lv.Lv.{Lv}
use Rattle.meta_model.specs.declared.segment.Leg.{Leg}
use Rattle.meta_model.specs.declared.segment.On.{On}
use Rattle.meta_model.specs.declared.segment.SegKind.{SegKind}
use Rattle.meta_model.specs.declared.segment.SegKind.TheVariants.{Striped, Mirror}
use Rattle.meta_model.specs.declared.segment.Segment.{Segment}
use Rattle.meta_print.proofs.Printable.{IsKind, IsLeg, IsLegs, IsLv, IsSegment}
use Rattle.group_edits.proofs.PrintedNames.{IsFound, IsFoundBy}
use Rattle.group_edits.proofs.Renumbered.{legs_count, row_is_same, same_on, segments_count}
use Rattle.group_edits.specs.Renumbered.{renumbered_kind, renumbered_leg, renumbered_legs, renumbered_lv, renumbered_segment}

module _ (group other : Group) (number : On → On) (Good : On → Type 0)
    (again : (is : On) → Good is → IsFound group is → IsFoundBy group other is (number is)) where
  -- each leg of these lies on what is found again
  abbrev AreGood : List Leg → Type 0
  AreGood legs = (j : ℕ) (leg : Leg) → slice_get legs j ≡ Some leg → Good leg.on

  -- so does each of these segments
  abbrev AllGood : List Segment → Type 0
  AllGood segments = (s : ℕ) (segment : Segment) → slice_get segments s ≡ Some segment → AreGood (legs_of segment.kind)

  leg_kept : (leg : Leg) → Good leg.on → IsLeg group leg → IsLeg other (renumbered_leg number leg)
  leg_kept leg good is =
      let found = again leg.on good is.found in record {
        found = found.0;
        content = subst IsContent (sym found.1) is.content;
        first_fits = is.first_fits;
      }

  each_leg : (legs : List Leg) → AreGood legs → Each (IsLeg group) legs → Each (IsLeg other) (renumbered_legs number legs)
  each_leg [] good are = tt
  each_leg (leg ∷ legs) good are = (leg_kept leg (good zero leg refl) are.0, each_leg legs (λ j l at. good (suc j) l at) are.1)

  legs_kept : (legs : List Leg) → AreGood legs → IsLegs group legs → IsLegs other (renumbered_legs number legs)
  legs_kept legs good are = record {
    count_fits = subst (λ (n : ℕ). n < 2 ^ 64) (sym (legs_count number legs)) are.count_fits;
    each = each_leg legs good are.each;
  }

  kind_kept : (kind : SegKind) → AreGood (legs_of kind) → IsKind group kind → IsKind other (renumbered_kind number kind)
  kind_kept (Striped stripe legs) good is = (is.0, legs_kept legs good is.1)
  kind_kept (Mirror region moved legs) good is = (is.0, is.1, legs_kept legs good is.2)

  each_segment : (segments : List Segment) → AllGood segments → Each (IsSegment group) segments
      → Each (IsSegment other) (map (renumbered_segment number) segments)
  each_segment [] good are = tt
  each_segment (segment ∷ segments) good are = (
    record {
      start_fits = are.0.start_fits;
      count_fits = are.0.count_fits;
      kind_is = kind_kept segment.kind (good zero segment refl) are.0.kind_is;
    },
    each_segment segments (λ s seg is. good (suc s) seg is) are.1,
  )

  pub lv_kept : (lv : Lv) → AllGood lv.segments → IsLv group lv → IsLv other (renumbered_lv number lv)
  lv_kept lv good is = record {
    id_again = is.id_again;
    created_fits = is.created_fits;
    host_content = is.host_content;
    count_fits = subst (λ (n : ℕ). n < 2 ^ 64) (sym (segments_count number lv)) is.count_fits;
    each = each_segment lv.segments good is.each;
  }

-- volumes whose legs have the same numbers
pub each_same : (group other : Group) → ((is : On) → IsFound group is → IsFoundBy group other is is) → (rows : List (List ℕ × Lv))
    → Each (λ (row : List ℕ × Lv). IsLv group row.1) rows → Each (λ (row : List ℕ × Lv). IsLv other row.1) rows
each_same group other again [] are = tt
each_same group other again (row ∷ rows) are = (
  subst (λ (r : List ℕ × Lv). IsLv other r.1) (row_is_same row)
      (lv_kept group other same_on (λ o. Unit {0}) (λ is good found. again is found) row.1 (λ s segment at j leg is. tt) are.0),
  each_same group other again rows are.1,
)
