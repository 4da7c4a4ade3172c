-- An edited group keeps the rules on legs, on depth and on moves.
use Rattle.std.proofs.Common.{◌≡◌, ◌≤◌, ◌<◌, ◌⊎◌, ℕ, zero, suc, ◌+◌, Bool, true, false, true≢false, cond, List, [], ◌∷◌, length, get_or}
use Rattle.std.proofs.Common.{map, Some, inl, inr, ⊎_elim, add-one, refl, sym, ap, subst, ◌∙◌, arith}
use Rattle.std.specs.Prelude.{nat_eq, slice_get, Contains}
use Rattle.std.specs.List.{AllByRecursion as Each}
use Rattle.std.proofs.lemmas.Bool.{eq-eqb}
use Rattle.std.proofs.lemmas.Bool.Decides.{nat_tests}
use Rattle.std.proofs.lemmas.List.{length-map}
use Rattle.std.proofs.lemmas.List.Elements.{All-contains, All-contains_itself, All-from_recursion, All-map}
use Rattle.std.proofs.lemmas.Option.{same_Some, slice_get-get_or}
use Rattle.meta_model.specs.Runs.{legs_of}
use Rattle.meta_model.specs.declared.group.Group.{Group}
use Rattle.meta_model.specs.declared.segment.Leg.{Leg}
use Rattle.meta_model.specs.declared.segment.On.{On}
use Rattle.meta_model.specs.declared.segment.On.TheVariants as on
use Rattle.meta_model.specs.declared.segment.SegKind.{SegKind}
use Rattle.meta_model.specs.declared.segment.SegKind.TheVariants.{Striped, Mirror}
use Rattle.meta_model.specs.declared.segment.Segment.{Segment}
use Rattle.meta_model.specs.Status.{LvStatus}
use Rattle.volume_rules.proofs.LegRuns.{contains_first, contains_later, related_or_same, run_of}
use Rattle.volume_rules.specs.Depths.{load}
use Rattle.volume_rules.specs.Extents.{extents_of}
use Rattle.volume_rules.specs.Legs.{IsInRun, IsUsed, IsWayDown, LegRun, LieApart, LiesOn, runs_of}
use Rattle.volume_rules.specs.Rules.{IsAccepted, IsMove, IsMoveFrom, IsMoving, IsPvmove, Keeps, LiesWithin, counts, pvmove_number}
use Rattle.volume_rules.specs.declared.rule.Rule.TheVariants.{Within, Apart, Depth, Pvmove, Locked}
use Rattle.group_edits.proofs.Edits.{IsEdit, IsNewLeg, IsThere, OnStays, Row, WasLeg, WasRow}
use Rattle.group_edits.proofs.LegPlaces.{run_same, runs_differ}
use Rattle.group_edits.proofs.Renumbered.{extents_same}
use Rattle.group_edits.specs.Renumbered.{renumbered_kind, renumbered_lv, renumbered_row, renumbered_segment}

-- the rules on legs, on depth and on moves
pub record LegsAreAllowed (group : Group) : Type 0 where
  pub within : Keeps group Within
  pub apart : Keeps group Apart
  pub depth : Keeps group Depth
  pub pvmove : Keeps group Pvmove
  pub locked : Keeps group Locked

pub legs_allowed : (group : Group) → IsAccepted group → LegsAreAllowed group
legs_allowed group accepted = record {
  within = accepted Within;
  apart = accepted Apart;
  depth = accepted Depth;
  pvmove = accepted Pvmove;
  locked = accepted Locked;
}

-- ---- the PVMOVE volume

number_there : (rows : List Row) (m : ℕ) (row : Row) → slice_get rows m ≡ Some row → m ≡ pvmove_number rows
    → row.1.status.pvmove ≡ true
number_there [] m row there is = absurd cc
number_there (x ∷ rows) zero row there is = by x.1.status.pvmove refl is where
  by : (b : Bool) → x.1.status.pvmove ≡ b → 0 ≡ cond b 0 (pvmove_number rows + 1) → row.1.status.pvmove ≡ true
  by true has same = ap (λ (r : Row). r.1.status.pvmove) (sym (same_Some x row there)) ∙ has
  by false has same = absurd (omega (arith, same))
number_there (x ∷ rows) (suc m) row there is = by x.1.status.pvmove is (number_there rows m row there) where
  by : (b : Bool) → suc m ≡ cond b 0 (pvmove_number rows + 1) → (m ≡ pvmove_number rows → row.1.status.pvmove ≡ true)
      → row.1.status.pvmove ≡ true
  by true same later = absurd (omega (arith, same))
  by false same later = later (omega (arith, same))

there_numbered : (rows : List Row) (m : ℕ) (row : Row) → slice_get rows m ≡ Some row → row.1.status.pvmove ≡ true
    → (found : Row) × (slice_get rows (pvmove_number rows) ≡ Some found) × (found.1.status.pvmove ≡ true)
there_numbered [] m row there has = absurd cc
there_numbered (x ∷ rows) zero row there has = (
  x,
  ap (λ (b : Bool). slice_get (x ∷ rows) (cond b 0 (pvmove_number rows + 1)))
      (ap (λ (r : Row). r.1.status.pvmove) (same_Some x row there) ∙ has),
  ap (λ (r : Row). r.1.status.pvmove) (same_Some x row there) ∙ has,
)
there_numbered (x ∷ rows) (suc m) row there has = by x.1.status.pvmove refl (there_numbered rows m row there has) where
  by : (b : Bool) → x.1.status.pvmove ≡ b
      → (found : Row) × (slice_get rows (pvmove_number rows) ≡ Some found) × (found.1.status.pvmove ≡ true)
      → (found : Row) × (slice_get (x ∷ rows) (cond b 0 (pvmove_number rows + 1)) ≡ Some found) × (found.1.status.pvmove ≡ true)
  by true is later = (x, refl, is)
  by false is later = (later.0, ap (slice_get (x ∷ rows)) (add-one (pvmove_number rows)) ∙ later.1, later.2)

-- where there is one at most, it alone isn't counted
counts_is : (group : Group) → ((a b : ℕ) → IsPvmove group a → IsPvmove group b → a ≡ b) → (m : ℕ) (row : Row)
    → slice_get group.lvs m ≡ Some row → counts group m ≡ cond row.1.status.pvmove 0 1
counts_is group one m row there = by row.1.status.pvmove refl where
  by : (b : Bool) → row.1.status.pvmove ≡ b → counts group m ≡ cond b 0 1
  by true has =
      let found = there_numbered group.lvs m row there has in
      let same : m ≡ pvmove_number group.lvs =
      one m (pvmove_number group.lvs) (row.1, (row.0, there), has) (found.0.1, (found.0.0, found.1), found.2) in
      ap (λ (b : Bool). cond b 0 1) (eq-eqb m (pvmove_number group.lvs) same)
  by false has = test (nat_eq m (pvmove_number group.lvs)) refl where
    test : (b : Bool) → nat_eq m (pvmove_number group.lvs) ≡ b → ◌≡◌ {A = ℕ} (cond b 0 1) 1
    test true same =
        let e : m ≡ pvmove_number group.lvs = grind (arith, nat_tests) in
        absurd (true≢false (sym (number_there group.lvs m row there e) ∙ has))
    test false same = refl

-- ---- lists

contains_map : (g : ℕ → ℕ) (xs : List ℕ) (x k : ℕ) → k < length xs → get_or xs k x ≡ x → Contains (map g xs) (g x)
contains_map g [] x k within is = absurd (omega (arith, within))
contains_map g (y ∷ xs) x zero within is = subst (λ (z : ℕ). Contains (g y ∷ map g xs) (g z)) is (contains_first (g y) (map g xs))
contains_map g (y ∷ xs) x (suc k) within is = contains_later (g y) (g x) (map g xs) (contains_map g xs x k (omega (arith, within)) is)

-- ---- what a leg lies on

pv_same : (a b : ℕ) → on.Pv a ≡ on.Pv b → a ≡ b
pv_same a b same = cc

lv_same : (a b : ℕ) → on.Lv a ≡ on.Lv b → a ≡ b
lv_same a b same = cc

pv_is_no_lv : (a b : ℕ) → on.Pv a ≡ on.Lv b → ⊥
pv_is_no_lv a b same = cc

-- a leg on a logical volume lies on one that is hidden
pub hidden_below : (group : Group) → LegsAreAllowed group → (run : LegRun) (m : ℕ) → Contains (runs_of group) run → run.on ≡ on.Lv m
    → (row : Row) × (slice_get group.lvs m ≡ Some row) × (row.1.status.visible ≡ false)
hidden_below group legs run m within lies =
    let inside : LiesWithin group (on.Lv m) (run.first + run.count) =
    subst (λ (o : On). LiesWithin group o (run.first + run.count)) lies
    (All-contains (λ (r : LegRun). LiesWithin group r.on (r.first + r.count)) (runs_of group) run legs.within within)
    in
    ((inside.1.0, inside.0), inside.1.1, legs.depth.hidden run.lv m inside.0 (run, within, refl, lies) inside.1)

-- ---- the edited group

module _ (group other : Group) (number : On → On) (pv_at lv_at : ℕ → ℕ) (PvStays Stays : ℕ → Type 0)
    (Segments : List Segment → List Segment → Type 0)
    (edit : IsEdit group other number pv_at lv_at PvStays Stays Segments) (legs : LegsAreAllowed group) where
  abbrev Was : LegRun → Type 0
  Was run = WasLeg group number lv_at Stays run

  abbrev New : LegRun → Type 0
  New run = IsNewLeg group other number run

  new_is : (run : LegRun) → Contains edit.more run → New run
  new_is run within = All-contains New edit.more run edit.new within

  on_stays : (run : LegRun) (was : Was run) → OnStays PvStays Stays was.was.on
  on_stays run was = edit.volumes.below was.was was.within was.stays

  -- a hidden volume is as it was
  hidden_there : (m : ℕ) (row : Row) → Stays m → slice_get group.lvs m ≡ Some row → row.1.status.visible ≡ false
      → slice_get other.lvs (lv_at m) ≡ Some (renumbered_row number row)
  hidden_there m row stays there hidden =
      let now = edit.volumes.lv_there m row stays there in now.1 ∙ ap (λ (r : Row). Some r) (now.2.hidden hidden)

  -- ---- Within

  lies_within : (o : On) (end most : ℕ) → end ≤ most → OnStays PvStays Stays o
      → ((m : ℕ) → o ≡ on.Lv m → (row : Row) × (slice_get group.lvs m ≡ Some row) × (row.1.status.visible ≡ false))
      → LiesWithin group o most → LiesWithin other (number o) end
  lies_within (on.Pv n) end most less stays hidden lies =
      let now = edit.volumes.pv_there n (lies.0, lies.1) stays lies.2 in
      let same = now.3 in
      let inside = lies.3 in
      subst (λ (o : On). LiesWithin other o end) (sym (edit.volumes.pv_is n))
      (now.0.0, now.0.1, now.1, omega (arith, less, same, inside))
  lies_within (on.Lv m) end most less stays hidden lies =
      let row = hidden m refl in
      let own : row.0 ≡ (lies.1.0, lies.0) = same_Some row.0 (lies.1.0, lies.0) (sym row.1 ∙ lies.1.1) in
      let extents : extents_of (renumbered_lv number row.0.1) ≡ extents_of lies.0 =
      extents_same number row.0.1 ∙ ap (λ (r : Row). extents_of r.1) own in
      let inside = lies.2 in
      subst (λ (o : On). LiesWithin other o end) (sym (edit.volumes.lv_is m)) (
        renumbered_lv number row.0.1,
        (row.0.0, hidden_there m row.0 stays row.1 row.2),
        omega (arith, less, inside, extents),
      )

  within_kept : Keeps other Within
  within_kept k d inside = one (get_or (runs_of other) k d) (All-contains_itself (runs_of other) k d inside) where
    one : (run : LegRun) → Contains (runs_of other) run → LiesWithin other run.on (run.first + run.count)
    one run within =
        ⊎_elim
        (λ (was : Was run). subst (λ (o : On). LiesWithin other o (run.first + run.count)) was.lies
        (lies_within was.was.on (run.first + run.count) (was.was.first + was.was.count)
        (let first = was.first in let count = was.count in omega (arith, first, count)) (on_stays run was)
        (λ m lies. hidden_below group legs was.was m was.within lies)
        (All-contains (λ (r : LegRun). LiesWithin group r.on (r.first + r.count)) (runs_of group) was.was legs.within was.within)))
        (λ new. (new_is run new).within)
        (edit.leg_from run within)

  -- ---- Apart

  on_apart : (a b : On) → OnStays PvStays Stays a → OnStays PvStays Stays b → number a ≡ number b → a ≡ b
  on_apart (on.Pv a) (on.Pv b) first second same =
      ap on.Pv (edit.volumes.pv_apart a b first second
      (pv_same (pv_at a) (pv_at b) (sym (edit.volumes.pv_is a) ∙ same ∙ edit.volumes.pv_is b)))
  on_apart (on.Pv a) (on.Lv b) first second same =
      absurd (pv_is_no_lv (pv_at a) (lv_at b) (sym (edit.volumes.pv_is a) ∙ same ∙ edit.volumes.lv_is b))
  on_apart (on.Lv a) (on.Pv b) first second same =
      absurd (pv_is_no_lv (pv_at b) (lv_at a) (sym (edit.volumes.pv_is b) ∙ sym same ∙ edit.volumes.lv_is a))
  on_apart (on.Lv a) (on.Lv b) first second same =
      ap on.Lv (edit.volumes.lv_apart a b first second
      (lv_same (lv_at a) (lv_at b) (sym (edit.volumes.lv_is a) ∙ same ∙ edit.volumes.lv_is b)))

  -- an extent of a leg that stays was one of it
  in_was : (run : LegRun) (was : Was run) (o : On) (extent : ℕ) → IsInRun o extent run → IsInRun was.was.on extent was.was
  in_was run was o extent inside =
      let first = was.first in
      let count = was.count in
      let from = inside.1 in
      let to = inside.2 in
      (refl, omega (arith, first, from), omega (arith, first, count, to))

  both_stay : (a b : LegRun) → Was a → Was b → (a ≡ b → ⊥) → Contains (runs_of other) a → Contains (runs_of other) b → LieApart a b
  both_stay a b x y differ in_a in_b o extent inside_a inside_b =
      let same : x.was.on ≡ y.was.on =
      on_apart x.was.on y.was.on (on_stays a x) (on_stays b y) (x.lies ∙ inside_a.0 ∙ sym inside_b.0 ∙ sym y.lies) in
      let first : IsInRun x.was.on extent x.was = in_was a x o extent inside_a in
      let there : IsInRun y.was.on extent y.was = in_was b y o extent inside_b in
      ⊎_elim
      (λ (equal : x.was ≡ y.was). differ (run_same other a b in_a in_b
      (sym x.lv ∙ ap (λ (r : LegRun). lv_at r.lv) equal ∙ y.lv) (sym x.segment ∙ ap (λ (r : LegRun). r.segment) equal ∙ y.segment)
      (sym x.leg ∙ ap (λ (r : LegRun). r.leg) equal ∙ y.leg)))
      (λ apart. ⊎_elim (λ one. one x.was.on extent first (sym same, there.1, there.2))
      (λ one. one y.was.on extent there (same, first.1, first.2)) apart)
      (related_or_same LieApart (runs_of group) x.was y.was legs.apart x.within y.within)

  one_new : (a b : LegRun) → Was a → New b → LieApart a b
  one_new a b was new o extent inside_a inside_b =
      new.unused was.was.on extent (inside_b.0 ∙ sym inside_a.0 ∙ sym was.lies, inside_b.1, inside_b.2)
      (was.was, was.within, in_was a was o extent inside_a)

  apart_kept : Keeps other Apart
  apart_kept i j d before inside =
      two (get_or (runs_of other) i d) (get_or (runs_of other) j d)
      (All-contains_itself (runs_of other) i d (omega (arith, before, inside))) (All-contains_itself (runs_of other) j d inside)
      (runs_differ other i j d before inside)
    where
      two : (a b : LegRun) → Contains (runs_of other) a → Contains (runs_of other) b → (a ≡ b → ⊥) → LieApart a b
      two a b in_a in_b differ = by (edit.leg_from a in_a) (edit.leg_from b in_b) where
        by : Was a ⊎ Contains edit.more a → Was b ⊎ Contains edit.more b → LieApart a b
        by (inl x) (inl y) = both_stay a b x y differ in_a in_b
        by (inl x) (inr y) = one_new a b x (new_is b y)
        by (inr x) (inl y) = λ o extent inside_a inside_b. one_new b a y (new_is a x) o extent inside_b inside_a
        by (inr x) (inr y) =
            ⊎_elim (λ (equal : a ≡ b). absurd (differ equal))
            (λ apart. ⊎_elim (λ one. one) (λ one o extent inside_a inside_b. one o extent inside_b inside_a) apart)
            (related_or_same LieApart edit.more a b edit.apart x y)

  -- ---- ways

  record LaidOn (a b : ℕ) : Type 0 where
    n : ℕ
    m : ℕ
    lies : LiesOn group n m
    stays : Stays n
    upper : lv_at n ≡ a
    lower : lv_at m ≡ b

  lies_from : (a b : ℕ) → LiesOn other a b → LaidOn a b
  lies_from a b lies = ⊎_elim (λ was. by was was.was.on refl) (λ new. none (new_is lies.0 new)) (edit.leg_from lies.0 lies.1) where
    none : New lies.0 → LaidOn a b
    none new = absurd (pv_is_no_lv new.pv b (sym new.on_pv ∙ lies.3))

    by : (was : Was lies.0) (o : On) → was.was.on ≡ o → LaidOn a b
    by was (on.Pv pv) is =
        absurd (pv_is_no_lv (pv_at pv) b (sym (edit.volumes.pv_is pv) ∙ ap number (sym is) ∙ was.lies ∙ lies.3))
    by was (on.Lv m) is = record {
      n = was.was.lv;
      m = m;
      lies = (was.was, was.within, refl, is);
      stays = was.stays;
      upper = was.lv ∙ lies.2;
      lower = lv_same (lv_at m) b (sym (edit.volumes.lv_is m) ∙ ap number (sym is) ∙ was.lies ∙ lies.3);
    }

  lies_there : (n m : ℕ) → LiesOn group n m → Stays n → LiesOn other (lv_at n) (lv_at m)
  lies_there n m lies stays =
      let now : IsThere other number lv_at lies.0 = edit.leg_there lies.0 m lies.1 (subst Stays (sym lies.2) stays) lies.3 in
      (now.now, now.within, sym now.lv ∙ ap lv_at lies.2, sym now.lies ∙ ap number lies.3 ∙ edit.volumes.lv_is m)

  below_stays : (n m : ℕ) → LiesOn group n m → Stays n → Stays m
  below_stays n m lies stays =
      subst (OnStays PvStays Stays) lies.3 (edit.volumes.below lies.0 lies.1 (subst Stays (sym lies.2) stays))

  below_there : (n m : ℕ) → LiesOn group n m → (row : Row) × (slice_get group.lvs m ≡ Some row) × (row.1.status.visible ≡ false)
  below_there n m lies = hidden_below group legs lies.0 m lies.1 lies.3

  -- a way down from one that stays was one before
  record WasWay (n : ℕ) (way : List ℕ) : Type 0 where
    was : List ℕ
    is_way : IsWayDown group (n ∷ was)
    same : map lv_at was ≡ way

  way_from : (n : ℕ) → Stays n → (way : List ℕ) → IsWayDown other (lv_at n ∷ way) → WasWay n way
  way_from n stays [] down = record { was = []; is_way = tt; same = refl }
  way_from n stays (b ∷ more) down =
      let laid : LaidOn (lv_at n) b = lies_from (lv_at n) b down.0 in
      let upper : laid.n ≡ n = edit.volumes.lv_apart laid.n n laid.stays stays laid.upper in
      let lies : LiesOn group n laid.m = subst (λ (x : ℕ). LiesOn group x laid.m) upper laid.lies in
      let later : WasWay laid.m more =
      way_from laid.m (below_stays n laid.m lies stays) more (subst (λ (x : ℕ). IsWayDown other (x ∷ more)) (sym laid.lower) down.1) in
      record {
        was = laid.m ∷ later.was;
        is_way = (lies, later.is_way);
        same = (λ i. laid.lower i ∷ later.same i);
      }

  way_there : (n : ℕ) → Stays n → (way : List ℕ) → IsWayDown group (n ∷ way)
      → IsWayDown other (lv_at n ∷ map lv_at way) × Each Stays (n ∷ way)
  way_there n stays [] down = (tt, (stays, tt))
  way_there n stays (m ∷ more) down =
      let later = way_there m (below_stays n m down.0 stays) more down.1 in ((lies_there n m down.0 stays, later.0), (stays, later.1))

  -- ---- the PVMOVE volume

  pvmove_from : (m : ℕ) → IsPvmove other m → (n : ℕ) × IsPvmove group n × Stays n × (lv_at n ≡ m)
  pvmove_from m is =
      ⊎_elim
      (λ (was : WasRow group number lv_at Stays Segments m (is.1.0, is.0)). (
        was.n,
        (was.was.1, (was.was.0, was.there), ap (λ (s : LvStatus). s.pvmove) (sym was.kept.status) ∙ is.2),
        was.stays,
        was.at,
      ))
      (λ plain. absurd (true≢false (sym is.2 ∙ plain.pvmove)))
      (edit.volumes.lv_from m (is.1.0, is.0) is.1.1)

  pvmove_there : (n : ℕ) → Stays n → IsPvmove group n → IsPvmove other (lv_at n)
  pvmove_there n stays is =
      let now = edit.volumes.lv_there n (is.1.0, is.0) stays is.1.1 in
      (now.0.1, (now.0.0, now.1), ap (λ (s : LvStatus). s.pvmove) now.2.status ∙ is.2)

  one_kept : (a b : ℕ) → IsPvmove other a → IsPvmove other b → a ≡ b
  one_kept a b is_a is_b =
      let first = pvmove_from a is_a in
      let second = pvmove_from b is_b in
      sym first.3 ∙ ap lv_at (legs.pvmove.one first.0 second.0 first.1 second.1) ∙ second.3

  -- ---- Depth

  load_same : (n : ℕ) (way : List ℕ) → Stays n → IsWayDown group (n ∷ way) → load (counts other) (map lv_at way) ≡ load (counts group) way
  load_same n [] stays down = refl
  load_same n (m ∷ way) stays down =
      let row = below_there n m down.0 in
      let lower : Stays m = below_stays n m down.0 stays in
      let here : counts other (lv_at m) ≡ counts group m =
      counts_is other one_kept (lv_at m) (renumbered_row number row.0) (hidden_there m row.0 lower row.1 row.2)
      ∙ sym (counts_is group legs.pvmove.one m row.0 row.1) in
      (λ i. here i + load_same m way lower down.1 i)

  depth_kept : Keeps other Depth
  depth_kept = record {
    hidden = λ a b volume lies is.
        let laid : LaidOn a b = lies_from a b lies in
        let row = below_there laid.n laid.m laid.lies in
        let now = hidden_there laid.m row.0 (below_stays laid.n laid.m laid.lies laid.stays) row.1 row.2 in
        let same : renumbered_row number row.0 ≡ (is.0, volume) =
        same_Some (renumbered_row number row.0) (is.0, volume) (sym now ∙ ap (slice_get other.lvs) laid.lower ∙ is.1) in
        ap (λ (r : Row). r.1.status.visible) (sym same) ∙ row.2;
    ends = λ a way down. ends_by a way down;
    few = λ a way down. few_by a way down;
  } where
    from_laid : (a b : ℕ) (more : List ℕ) (down : IsWayDown other (a ∷ b ∷ more)) → (n : ℕ) × Stays n × WasWay n (b ∷ more)
    from_laid a b more down =
        let laid : LaidOn a b = lies_from a b down.0 in (
          laid.n,
          laid.stays,
          way_from laid.n laid.stays (b ∷ more) (subst (λ (x : ℕ). IsWayDown other (x ∷ b ∷ more)) (sym laid.upper) down),
        )

    ends_by : (a : ℕ) (way : List ℕ) → IsWayDown other (a ∷ way) → length way ≤ 4
    ends_by a [] down = omega arith
    ends_by a (b ∷ more) down =
        let was = from_laid a b more down in
        let most : length was.2.was ≤ 4 = legs.depth.ends was.0 was.2.was was.2.is_way in
        let e : length (map lv_at was.2.was) ≡ length (b ∷ more) = ap (λ (l : List ℕ). length l) was.2.same in
        omega (arith, most, e, length-map was.2.was lv_at)

    few_by : (a : ℕ) (way : List ℕ) → IsWayDown other (a ∷ way) → load (counts other) way ≤ 3
    few_by a [] down = omega arith
    few_by a (b ∷ more) down =
        let was = from_laid a b more down in
        let most : load (counts group) was.2.was ≤ 3 = legs.depth.few was.0 was.2.was was.2.is_way in
        let e : load (counts other) (map lv_at was.2.was) ≡ load (counts other) (b ∷ more) = ap (load (counts other)) was.2.same in
        omega (arith, most, e, load_same was.0 was.2.was was.1 was.2.is_way)

  -- ---- the move

  move_from : (source : ℕ) (kind : SegKind) → ((j : ℕ) (leg : Leg) → slice_get (legs_of kind) j ≡ Some leg
      → OnStays PvStays Stays leg.on) → IsMoveFrom source kind → IsMoveFrom (pv_at source) (renumbered_kind number kind)
  move_from source (Striped stripe legs) stay is = absurd is
  move_from source (Mirror region moved []) stay is = absurd is
  move_from source (Mirror region moved (a ∷ [])) stay is = absurd is
  move_from source (Mirror region moved (a ∷ b ∷ [])) stay is = (
    ap number is.0 ∙ edit.volumes.pv_is source,
    (
      pv_at is.1.0,
      ap number is.1.1 ∙ edit.volumes.pv_is is.1.0,
      λ same. is.1.2 (edit.volumes.pv_apart is.1.0 source (subst (OnStays PvStays Stays) is.1.1 (stay 1 b refl))
          (subst (OnStays PvStays Stays) is.0 (stay 0 a refl)) same),
    ),
  )
  move_from source (Mirror region moved (a ∷ b ∷ c ∷ legs)) stay is = absurd is

  move_kept : (n : ℕ) (row : Row) → Stays n → slice_get group.lvs n ≡ Some row → row.1.status.pvmove ≡ true
      → IsMove group n row.0 row.1 → IsMove other (lv_at n) row.0 (renumbered_lv number row.1)
  move_kept n row stays there has move = record {
    hidden = move.hidden;
    locked = move.locked;
    named = move.named;
    from_one = (
      pv_at move.from_one.0,
      All-map (λ segment. IsMoveFrom (pv_at move.from_one.0) segment.kind) (renumbered_segment number) row.1.segments
          (λ s d within. move_from move.from_one.0 (get_or row.1.segments s d).kind
          (λ j leg is. leg_stays s (get_or row.1.segments s d) j leg (slice_get-get_or row.1.segments s d within) is)
          (move.from_one.1 s d within)),
    );
    stands_in_legs = λ extent less.
        let used : IsUsed group (on.Lv n) extent =
        move.stands_in_legs extent (let same = extents_same number row.1 in omega (arith, less, same)) in
        let now : IsThere other number lv_at used.0 =
        edit.leg_there used.0 n used.1 (edit.volumes.above used.0 n used.1 used.2.0 (row.1, (row.0, there), has)) used.2.0 in
        let first = now.first in
        let count = now.count in
        let from = used.2.1 in
        let to = used.2.2 in (
          now.now,
          now.within,
          (
            sym now.lies ∙ ap number used.2.0 ∙ edit.volumes.lv_is n,
            omega (arith, first, from),
            omega (arith, first, count, to),
          ),
        );
  } where
    leg_stays : (s : ℕ) (segment : Segment) (j : ℕ) (leg : Leg) → slice_get row.1.segments s ≡ Some segment
        → slice_get (legs_of segment.kind) j ≡ Some leg → OnStays PvStays Stays leg.on
    leg_stays s segment j leg at is =
        let r = run_of group n row s segment j leg there at is in
        subst (OnStays PvStays Stays) r.5 (edit.volumes.below r.0 r.1 (subst Stays (sym r.2) stays))

  pvmove_kept : Keeps other Pvmove
  pvmove_kept = record {
    one = one_kept;
    whole = λ m name lv is has.
        ⊎_elim
        (λ (was : WasRow group number lv_at Stays Segments m (name, lv)).
        let pvmove = ap (λ (s : LvStatus). s.pvmove) (sym was.kept.status) ∙ has in
        let move : IsMove group was.n was.was.0 was.was.1 = legs.pvmove.whole was.n was.was.0 was.was.1 was.there pvmove in
        subst (λ (r : Row). IsMove other m r.0 r.1) (sym (was.kept.hidden move.hidden))
        (subst (λ (k : ℕ). IsMove other k was.was.0 (renumbered_lv number was.was.1)) was.at
        (move_kept was.n was.was was.stays was.there pvmove move)))
        (λ plain. absurd (true≢false (sym has ∙ plain.pvmove)))
        (edit.volumes.lv_from m (name, lv) is);
  }

  locked_kept : Keeps other Locked
  locked_kept m lv is has =
      ⊎_elim
      (λ (was : WasRow group number lv_at Stays Segments m (is.0, lv)).
      let moving : IsMoving group was.n =
      legs.locked was.n was.was.1 (was.was.0, was.there) (ap (λ (s : LvStatus). s.locked) (sym was.kept.status) ∙ has) in
      let there = way_there was.n was.stays moving.0 moving.1 in
      let last : Stays moving.2.0 =
      All-contains Stays (was.n ∷ moving.0) moving.2.0 (All-from_recursion Stays (was.n ∷ moving.0) there.1) moving.2.1 in
      subst (IsMoving other) was.at (
        map lv_at moving.0,
        there.0,
        (
          lv_at moving.2.0,
          contains_map lv_at (was.n ∷ moving.0) moving.2.0 moving.2.1.0 moving.2.1.1 moving.2.1.2,
          pvmove_there moving.2.0 last moving.2.2,
        ),
      ))
      (λ plain. absurd (true≢false (sym has ∙ plain.locked)))
      (edit.volumes.lv_from m (is.0, lv) is.1)

  pub legs_kept : LegsAreAllowed other
  legs_kept = record { within = within_kept; apart = apart_kept; depth = depth_kept; pvmove = pvmove_kept; locked = locked_kept }
