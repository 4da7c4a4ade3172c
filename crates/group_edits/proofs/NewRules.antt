-- A group with one more volume on free extents keeps all rules.
use Rattle.std.proofs.Common.{◌≡◌, ◌≢◌, ◌≤◌, ◌<◌, ◌⊎◌, ℕ, zero, suc, ◌+◌, ◌^◌, false, List, [], ◌∷◌, ◌++◌, length}
use Rattle.std.proofs.Common.{map, Some, inl, inr, refl, sym, ap, subst, ◌∙◌, append-nil, append_assoc, arith}
use Rattle.std.specs.Prelude.{slice_get, sum_by, AllPairs}
use Rattle.std.proofs.lemmas.List.{length_push, map-append}
use Rattle.std.proofs.lemmas.List.Quantifiers.{all_pairs_push}
use Rattle.std.proofs.lemmas.List.Sums.{sum_by_push}
use Rattle.std.proofs.lemmas.Option.{same_Some}
use Rattle.meta_model.specs.declared.group.Group.{Group}
use Rattle.meta_model.specs.declared.lv.Lv.{Lv}
use Rattle.meta_model.specs.declared.pv.Pv.{Pv}
use Rattle.meta_model.specs.declared.segment.SegKind.{SegKind}
use Rattle.extent_alloc.specs.declared.part.Part.{Part}
use Rattle.volume_rules.specs.Legs.{runs_of, runs_of_segments, runs_of_volumes}
use Rattle.volume_rules.specs.Rules.{IsAccepted, Keeps, ids_of}
use Rattle.volume_rules.specs.declared.rule.Rule.TheVariants.{Numbers, Ids, Volumes}
use Rattle.group_edits.proofs.EditedLegs.{legs_allowed}
use Rattle.group_edits.proofs.EditedRows.{KeepsOwn, keep_own, next_accepted}
use Rattle.group_edits.proofs.Edits.{IsPlain}
use Rattle.group_edits.proofs.GivenRules.{legs_some, parts_follow, parts_keep, segments_count}
use Rattle.group_edits.proofs.GivenRuns.{runs_apart, runs_new}
use Rattle.group_edits.proofs.GrownRules.{IsGrown, grown_legs, stays_same}
use Rattle.list_laws.proofs.Inserted.{all_pushed, slice_get-pushed}
use Rattle.group_edits.proofs.LongerRules.{below_sectors, volumes_both}
use Rattle.group_edits.specs.GivenSegments.{extents_in, segments_in, segments_of}
use Rattle.group_edits.specs.NewVolume.{MayHave, new_lv, with_volume}

abbrev Row : Type 0
Row = List ℕ × Lv

-- ---- lists

pushed_at : {X : Type 0} (xs : List X) (y : X) (n : ℕ) (z : X) → slice_get (xs ++ y ∷ []) n ≡ Some z → (slice_get xs n ≡ Some z) ⊎ (z ≡ y)
pushed_at [] y zero z is = inr (sym (same_Some y z is))
pushed_at [] y (suc n) z is = absurd cc
pushed_at (x ∷ xs) y zero z is = inl is
pushed_at (x ∷ xs) y (suc n) z is = pushed_at xs y n z is

-- ---- the group

module _ (group : Group) (name id : List ℕ) (kind : SegKind) (given : List Part) (now : ℕ) (may : MayHave group id kind given now)
    (accepted : IsAccepted group) where
  abbrev row : Row
  row = (name, new_lv id kind given now)

  abbrev next : Group
  next = with_volume row group

  abbrev lvs : List Row
  lvs = group.lvs ++ row ∷ []

  pub ends : 0 + extents_in (segments_of kind 0 given) < 2 ^ 48
  ends = let few = below_sectors group accepted (extents_in (segments_of kind 0 given)) may.sectors in omega (arith, few)

  abbrev Differ : List ℕ → List ℕ → Type 0
  Differ a b = a ≢ b

  ids_more : ids_of next ≡ ids_of group ++ id ∷ []
  ids_more =
      let pvs : List (List ℕ) = map (λ (pv : List ℕ × Pv). pv.1.id) group.pvs in
      ap (λ (ids : List (List ℕ)). group.id ∷ (pvs ++ ids)) (map-append (λ (lv : Row). lv.1.id) group.lvs (row ∷ []))
      ∙ ap (λ (ids : List (List ℕ)). group.id ∷ ids) (sym (append_assoc pvs (map (λ (lv : Row). lv.1.id) group.lvs) (id ∷ [])))

  ids_kept : Keeps next Ids
  ids_kept = subst (AllPairs Differ) (sym ids_more) (all_pairs_push Differ (ids_of group) id (accepted Ids) (λ k d lt. may.fresh k d lt))

  count_more : length lvs ≡ length group.lvs + 1
  count_more = length_push group.lvs row

  volumes_kept : Keeps next Volumes
  volumes_kept = record {
    pvs = (accepted Volumes).pvs;
    lvs = let few = may.lvs in omega (arith, count_more, few);
    max_pv = (accepted Volumes).max_pv;
    max_lv = λ limit. let most = may.max_lv limit in omega (arith, count_more, most);
  }

  made : length (segments_of kind 0 given) ≡ length given
  made = segments_count kind 0 given

  new_own : KeepsOwn group.extent_size row.1
  new_own = record {
    created = may.created;
    some = (let some = may.some in omega (arith, some, made));
    follow = parts_follow kind group may.count given may.legs may.laid 0;
    ends = may.sectors;
    segments = parts_keep kind group may.count given may.legs may.laid false (accepted Numbers).pvs 0 ends;
  }

  segments_few : sum_by (λ (r : Row). length r.1.segments) lvs ≤ 16384
  segments_few =
      let whole : sum_by (λ (r : Row). length r.1.segments) lvs ≡ segments_in group + length (segments_of kind 0 given) =
      sum_by_push (λ (r : Row). length r.1.segments) group.lvs row in
      let most = may.segments in
      omega (arith, whole, made, most)

  -- ---- the rules on legs

  abbrev number : ℕ
  number = 0 + length group.lvs

  pub is_grown : IsGrown group lvs
  unfolding runs_of
  is_grown = record {
    front = runs_of_volumes 0 group.lvs;
    more = runs_of_segments number 0 (segments_of kind 0 given);
    back = [];
    was = sym (append-nil (runs_of_volumes 0 group.lvs));
    is = volumes_both 0 group.lvs (row ∷ []);
    new = runs_new group may.count given may.laid (legs_some kind group.extent_size may.count may.legs) kind number 0 0;
    apart = runs_apart group may.count given may.laid (legs_some kind group.extent_size may.count may.legs) kind number 0 0;
    stays =
        λ n r there. (
          r,
          slice_get-pushed group.lvs (row ∷ []) n r there,
          stays_same r,
        );
    came = λ n later there.
        elim (pushed_at group.lvs row n later there) [
          | inl old ↦ inl (later, old, stays_same later)
          | inr new ↦ inr (subst IsPlain (sym new) (record { pvmove = refl; locked = refl }))
        ];
  }

  pub new_accepted : group.seqno < 4294967295 → IsAccepted next
  new_accepted below =
      next_accepted group lvs accepted below ids_kept volumes_kept segments_few
      (all_pushed (λ (r : Row). KeepsOwn group.extent_size r.1) group.lvs row (keep_own group accepted) new_own)
      (grown_legs group lvs is_grown (legs_allowed group accepted))
