-- Each leg of a group has its run in the list of runs.
use Rattle.std.proofs.Common.{◌≡◌, ℕ, zero, suc, ◌+◌, ◌<◌, ◌⊎◌, List, [], ◌∷◌, ◌++◌, length, get_or, Some, inl, inr, refl, sym, ap, subst}
use Rattle.std.proofs.Common.{◌∙◌, arith}
use Rattle.std.specs.Prelude.{AllPairs, Contains, slice_get}
use Rattle.std.specs.List.{AllByRecursion}
use Rattle.std.proofs.lemmas.Bool.{cases_order}
use Rattle.std.proofs.lemmas.Option.{same_Some, slice_get-get_or}
use Rattle.std.proofs.lemmas.List.Elements.{Contains-append_left, Contains-append_right, All-contains, All-from_recursion}
use Rattle.meta_model.specs.declared.group.Group.{Group}
use Rattle.meta_model.specs.declared.lv.Lv.{Lv}
use Rattle.meta_model.specs.declared.segment.Segment.{Segment}
use Rattle.meta_model.specs.declared.segment.Leg.{Leg}
use Rattle.meta_model.specs.Runs.{legs_of}
use Rattle.volume_rules.specs.Extents.{leg_share}
use Rattle.volume_rules.specs.Legs.{LegRun, runs_of, runs_of_legs, runs_of_segments, runs_of_volumes}

-- what stands first or later in a list
pub contains_later : {X : Type 0} (x y : X) (xs : List X) → Contains xs y → Contains (x ∷ xs) y
contains_later x y xs at = (suc at.0, omega (arith, at.1), at.2)

pub contains_first : {X : Type 0} (x : X) (xs : List X) → Contains (x ∷ xs) x
contains_first x xs = (zero, omega arith, refl)

-- of a leg by its number
run_of_leg : (lv segment count number : ℕ) (legs : List Leg) (k : ℕ) (leg : Leg) → slice_get legs k ≡ Some leg
    → Contains (runs_of_legs lv segment count number legs)
    (record { lv = lv; segment = segment; leg = number + k; on = leg.on; first = leg.first; count = count })
run_of_leg lv segment count number [] k leg is = cc
run_of_leg lv segment count number (x ∷ legs) zero leg is =
    let same : x ≡ leg = same_Some x leg is in
    let here : number ≡ number + 0 = omega arith in
    let run : ℕ → Leg → LegRun = λ n l. record { lv = lv; segment = segment; leg = n; on = l.on; first = l.first; count = count } in
    let there : run number x ≡ run (number + 0) leg = ap (λ (n : ℕ). run n x) here ∙ ap (run (number + 0)) same in
    subst (λ (r : LegRun). Contains (run number x ∷ runs_of_legs lv segment count (number + 1) legs) r) there
    (contains_first (run number x) _)
run_of_leg lv segment count number (x ∷ legs) (suc k) leg is =
    contains_later _ _ _
    (subst (λ (n : ℕ). Contains (runs_of_legs lv segment count (number + 1) legs)
    (record { lv = lv; segment = segment; leg = n; on = leg.on; first = leg.first; count = count }))
    (omega arith) (run_of_leg lv segment count (number + 1) legs k leg is))

-- of a leg of a segment by its number
run_of_segment : (lv number : ℕ) (segments : List Segment) (k : ℕ) (segment : Segment) (j : ℕ) (leg : Leg)
    → slice_get segments k ≡ Some segment → slice_get (legs_of segment.kind) j ≡ Some leg
    → Contains (runs_of_segments lv number segments)
    (record { lv = lv; segment = number + k; leg = 0 + j; on = leg.on; first = leg.first; count = leg_share segment.count segment.kind })
run_of_segment lv number [] k segment j leg is at = cc
run_of_segment lv number (x ∷ segments) zero segment j leg is at =
    let same : segment ≡ x = sym (same_Some x segment is) in
    let at' : slice_get (legs_of x.kind) j ≡ Some leg = ap (λ (s : Segment). slice_get (legs_of s.kind) j) (sym same) ∙ at in
    let run : ℕ → Segment → LegRun =
    λ n s. record { lv = lv; segment = n; leg = 0 + j; on = leg.on; first = leg.first; count = leg_share s.count s.kind } in
    let there : run number x ≡ run (number + 0) segment = ap (λ (n : ℕ). run n x) (omega arith) ∙ ap (run (number + 0)) (sym same) in
    subst (λ (r : LegRun). Contains (runs_of_segments lv number (x ∷ segments)) r) there
    (Contains-append_left (runs_of_legs lv number (leg_share x.count x.kind) 0 (legs_of x.kind)) (runs_of_segments lv (number + 1) segments)
    (run number x)
    (run_of_leg lv number (leg_share x.count x.kind) 0 (legs_of x.kind) j leg at'))
run_of_segment lv number (x ∷ segments) (suc k) segment j leg is at =
    let run : ℕ → LegRun =
    λ n. record { lv = lv; segment = n; leg = 0 + j; on = leg.on; first = leg.first; count = leg_share segment.count segment.kind } in
    Contains-append_right (runs_of_legs lv number (leg_share x.count x.kind) 0 (legs_of x.kind)) (runs_of_segments lv (number + 1) segments)
    (run (number + suc k))
    (subst (λ (n : ℕ). Contains (runs_of_segments lv (number + 1) segments) (run n)) (omega arith)
    (run_of_segment lv (number + 1) segments k segment j leg is at))

-- of a leg of a volume
run_of_volume : (number : ℕ) (lvs : List (List ℕ × Lv)) (n : ℕ) (lv : List ℕ × Lv) (k : ℕ) (segment : Segment) (j : ℕ) (leg : Leg)
    → slice_get lvs n ≡ Some lv → slice_get lv.1.segments k ≡ Some segment → slice_get (legs_of segment.kind) j ≡ Some leg
    → Contains (runs_of_volumes number lvs) (record {
      lv = number + n;
      segment = 0 + k;
      leg = 0 + j;
      on = leg.on;
      first = leg.first;
      count = leg_share segment.count segment.kind;
    })
run_of_volume number [] n lv k segment j leg is at on = cc
run_of_volume number (x ∷ lvs) zero lv k segment j leg is at on =
    let same : x ≡ lv = same_Some x lv is in
    let at' : slice_get x.1.segments k ≡ Some segment = ap (λ (v : List ℕ × Lv). slice_get v.1.segments k) same ∙ at in
    let run : ℕ → LegRun =
    λ v. record {
      lv = v;
      segment = 0 + k;
      leg = 0 + j;
      on = leg.on;
      first = leg.first;
      count = leg_share segment.count segment.kind;
    } in
    let here : number ≡ number + 0 = omega arith in
    subst (λ (v : ℕ). Contains (runs_of_volumes number (x ∷ lvs)) (run v)) here
    (Contains-append_left (runs_of_segments number 0 x.1.segments) (runs_of_volumes (number + 1) lvs) (run number)
    (run_of_segment number 0 x.1.segments k segment j leg at' on))
run_of_volume number (x ∷ lvs) (suc n) lv k segment j leg is at on =
    let run : ℕ → LegRun =
    λ v. record {
      lv = v;
      segment = 0 + k;
      leg = 0 + j;
      on = leg.on;
      first = leg.first;
      count = leg_share segment.count segment.kind;
    } in
    Contains-append_right (runs_of_segments number 0 x.1.segments) (runs_of_volumes (number + 1) lvs) (run (number + suc n))
    (subst (λ (v : ℕ). Contains (runs_of_volumes (number + 1) lvs) (run v)) (omega arith)
    (run_of_volume (number + 1) lvs n lv k segment j leg is at on))

-- the run of a leg of the group
pub run_of : (group : Group) (n : ℕ) (lv : List ℕ × Lv) (k : ℕ) (segment : Segment) (j : ℕ) (leg : Leg)
    → slice_get group.lvs n ≡ Some lv → slice_get lv.1.segments k ≡ Some segment → slice_get (legs_of segment.kind) j ≡ Some leg
    → (run : LegRun) × Contains (runs_of group) run × (run.lv ≡ n) × (run.segment ≡ k) × (run.leg ≡ j) × (run.on ≡ leg.on)
    × (run.first ≡ leg.first) × (run.count ≡ leg_share segment.count segment.kind)
unfolding runs_of
run_of group n lv k segment j leg is at on =
    let run : LegRun =
    record { lv = 0 + n; segment = 0 + k; leg = 0 + j; on = leg.on; first = leg.first; count = leg_share segment.count segment.kind } in
    (run, run_of_volume 0 group.lvs n lv k segment j leg is at on, omega arith, omega arith, omega arith, refl, refl, refl)

-- two elements of a list whose pairs are related are the same, or related one way or the other
same_at : {X : Type 0} (xs : List X) (k : ℕ) (d e : X) → k < length xs → get_or xs k d ≡ get_or xs k e
same_at xs k d e lt = same_Some (get_or xs k d) (get_or xs k e) (sym (slice_get-get_or xs k d lt) ∙ slice_get-get_or xs k e lt)

pub related_or_same : {X : Type 0} (R : X → X → Type 0) (xs : List X) (x y : X) → AllPairs R xs → Contains xs x → Contains xs y
    → (x ≡ y) ⊎ (R x y ⊎ R y x)
related_or_same R xs x y pairs a b =
    elim (cases_order a.0 b.0) [
      | inl same ↦ inl (sym a.2 ∙ ap (λ (k : ℕ). get_or xs k x) same ∙ same_at xs b.0 x y b.1 ∙ b.2)
      | inr rest ↦ inr (elim rest [
        | inl less ↦ inl (subst (λ z. R z y) a.2 (subst (R (get_or xs a.0 x)) (same_at xs b.0 x y b.1 ∙ b.2) (pairs a.0 b.0 x less b.1)))
        | inr more ↦ inr (subst (λ z. R z x) b.2 (subst (R (get_or xs b.0 y)) (same_at xs a.0 y x a.1 ∙ a.2) (pairs b.0 a.0 y more a.1)))
      ])
    ]

-- and each run is that of a leg
pub record IsRunOf (lvs : List (List ℕ × Lv)) (number : ℕ) (run : LegRun) : Type 0 where
  pub nth : ℕ
  pub volume : List ℕ × Lv
  pub segment : Segment
  pub leg : Leg
  pub lv_is : run.lv ≡ number + nth
  pub is_volume : slice_get lvs nth ≡ Some volume
  pub is_segment : slice_get volume.1.segments run.segment ≡ Some segment
  pub is_leg : slice_get (legs_of segment.kind) run.leg ≡ Some leg
  pub on_is : run.on ≡ leg.on
  pub first_is : run.first ≡ leg.first
  pub count_is : run.count ≡ leg_share segment.count segment.kind

pub join_all : {X : Type 0} (P : X → Type 0) (xs ys : List X) → AllByRecursion P xs → AllByRecursion P ys → AllByRecursion P (xs ++ ys)
join_all P [] ys a b = b
join_all P (x ∷ xs) ys a b = (a.0, join_all P xs ys a.1 b)

weaker_all : {X : Type 0} (P Q : X → Type 0) (xs : List X) → ((x : X) → P x → Q x) → AllByRecursion P xs → AllByRecursion Q xs
weaker_all P Q [] weaker all = tt
weaker_all P Q (x ∷ xs) weaker all = (weaker x all.0, weaker_all P Q xs weaker all.1)

legs_are : (lvs : List (List ℕ × Lv)) (base nth : ℕ) (volume : List ℕ × Lv) (k : ℕ) (segment : Segment) (n : ℕ) (legs : List Leg)
    → slice_get lvs nth ≡ Some volume → slice_get volume.1.segments k ≡ Some segment
    → ((i : ℕ) (leg : Leg) → slice_get legs i ≡ Some leg → slice_get (legs_of segment.kind) (n + i) ≡ Some leg)
    → AllByRecursion (IsRunOf lvs base) (runs_of_legs (base + nth) k (leg_share segment.count segment.kind) n legs)
legs_are lvs base nth volume k segment n [] is at here = tt
legs_are lvs base nth volume k segment n (leg ∷ legs) is at here = (
  record {
    nth = nth;
    volume = volume;
    segment = segment;
    leg = leg;
    lv_is = refl;
    is_volume = is;
    is_segment = at;
    is_leg = subst (λ (i : ℕ). slice_get (legs_of segment.kind) i ≡ Some leg) (omega arith) (here zero leg refl);
    on_is = refl;
    first_is = refl;
    count_is = refl;
  },
  legs_are lvs base nth volume k segment (n + 1) legs is at
      (λ i l there. subst (λ (x : ℕ). slice_get (legs_of segment.kind) x ≡ Some l) (omega arith) (here (suc i) l there)),
)

segments_are : (lvs : List (List ℕ × Lv)) (base nth : ℕ) (volume : List ℕ × Lv) (n : ℕ) (segments : List Segment)
    → slice_get lvs nth ≡ Some volume
    → ((i : ℕ) (segment : Segment) → slice_get segments i ≡ Some segment → slice_get volume.1.segments (n + i) ≡ Some segment)
    → AllByRecursion (IsRunOf lvs base) (runs_of_segments (base + nth) n segments)
segments_are lvs base nth volume n [] is here = tt
segments_are lvs base nth volume n (s ∷ segments) is here =
    join_all (IsRunOf lvs base) (runs_of_legs (base + nth) n (leg_share s.count s.kind) 0 (legs_of s.kind))
    (runs_of_segments (base + nth) (n + 1) segments)
    (legs_are lvs base nth volume n s 0 (legs_of s.kind) is
    (subst (λ (i : ℕ). slice_get volume.1.segments i ≡ Some s) (omega arith) (here zero s refl))
    (λ i leg there. subst (λ (x : ℕ). slice_get (legs_of s.kind) x ≡ Some leg) (omega arith) there))
    (segments_are lvs base nth volume (n + 1) segments is
    (λ i l there. subst (λ (x : ℕ). slice_get volume.1.segments x ≡ Some l) (omega arith) (here (suc i) l there)))

volumes_are : (lvs : List (List ℕ × Lv)) (base : ℕ) → AllByRecursion (IsRunOf lvs base) (runs_of_volumes base lvs)
volumes_are [] base = tt
volumes_are (v ∷ lvs) base =
    join_all (IsRunOf (v ∷ lvs) base) (runs_of_segments base 0 v.1.segments) (runs_of_volumes (base + 1) lvs)
    (subst (λ (b : ℕ). AllByRecursion (IsRunOf (v ∷ lvs) base) (runs_of_segments b 0 v.1.segments)) (omega arith)
    (segments_are (v ∷ lvs) base 0 v 0 v.1.segments refl
    (λ i s there. subst (λ (x : ℕ). slice_get v.1.segments x ≡ Some s) (omega arith) there)))
    (weaker_all (IsRunOf lvs (base + 1)) (IsRunOf (v ∷ lvs) base) (runs_of_volumes (base + 1) lvs)
    (λ run is. record {
      nth = suc is.nth;
      volume = is.volume;
      segment = is.segment;
      leg = is.leg;
      lv_is = omega (arith, is.lv_is);
      is_volume = is.is_volume;
      is_segment = is.is_segment;
      is_leg = is.is_leg;
      on_is = is.on_is;
      first_is = is.first_is;
      count_is = is.count_is;
    })
    (volumes_are lvs (base + 1)))

pub run_is : (group : Group) (run : LegRun) → Contains (runs_of group) run → IsRunOf group.lvs 0 run
unfolding runs_of
run_is group run within =
    All-contains (IsRunOf group.lvs 0) (runs_of_volumes 0 group.lvs) run
    (All-from_recursion (IsRunOf group.lvs 0) (runs_of_volumes 0 group.lvs) (volumes_are group.lvs 0)) within
