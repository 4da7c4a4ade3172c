-- The depth of ways is what the numbers say after five rounds.
use Rattle.std.proofs.Common.{◌≡◌, ◌↔◌, ℕ, zero, suc, ◌+◌, ◌≤◌, IsTrue, Bool, true, false, cond, List, [], ◌∷◌, length, map, drop, refl}
use Rattle.std.proofs.Common.{sym, ap, subst, ◌∙◌, arith}
use Rattle.std.proofs.lemmas.Bool.{false≢true}
use Rattle.std.proofs.lemmas.List.{at_drop_more}
use Rattle.std.proofs.lemmas.List.Sums.{sum_by-cons}
use Rattle.std.proofs.lemmas.Option.{slice_get_within, get_or_from_slice_get}
use Rattle.meta_model.specs.declared.group.Group.{Group}
use Rattle.meta_model.specs.declared.lv.Lv.{Lv}
use Rattle.meta_model.specs.Runs.{room_of, run_room}
use Rattle.volume_rules.specs.Depths.{greatest, height}
use Rattle.volume_rules.specs.Moving.{named_by}
use Rattle.volume_rules.specs.Rules.{IsLv, counts, pvmove_number, DepthIsAtMostThree}
use Rattle.volume_rules.proofs.NamedVolumes.{depth_by_rounds}
use Rattle.vg_check.specs.declared.climb.Climb.TheVariants.{Length, Load}
use Rattle.vg_check.specs.Climbing.{climbed, ClimbsAtMost, WaysAreShort}
use Rattle.vg_check.specs.Hidden.{VolumesBelowAreHidden}

pvmove_step : (group : Group) (n : ℕ) (lv : Lv) → IsLv group n lv
    → pvmove_number (drop n group.lvs) ≡ cond lv.status.pvmove 0 (pvmove_number (drop (n + 1) group.lvs) + 1)
pvmove_step group n lv is =
    at_drop_more pvmove_number group.lvs n (is.0, lv) (slice_get_within group.lvs n (is.0, lv) is.1)
    ∙ ap (λ (row : List ℕ × Lv). cond row.1.status.pvmove 0 (pvmove_number (drop (n + 1) group.lvs) + 1))
    (get_or_from_slice_get group.lvs n (is.0, lv) (is.0, lv) is.1)

-- the first volume with PVMOVE
pub pvmove_here : (group : Group) (n : ℕ) (lv : Lv) → IsLv group n lv → lv.status.pvmove ≡ true
    → pvmove_number group.lvs ≡ n + pvmove_number (drop n group.lvs) → n ≡ pvmove_number group.lvs
pvmove_here group n lv is moves so_far =
    let step = pvmove_step group n lv is in
    let none : pvmove_number (drop n group.lvs) ≡ 0 = step ∙ ap (λ b. cond b 0 (pvmove_number (drop (n + 1) group.lvs) + 1)) moves in
    omega arith

pub pvmove_later : (group : Group) (n : ℕ) (lv : Lv) → IsLv group n lv → lv.status.pvmove ≡ false
    → pvmove_number group.lvs ≡ n + pvmove_number (drop n group.lvs)
    → pvmove_number group.lvs ≡ n + 1 + pvmove_number (drop (n + 1) group.lvs)
pvmove_later group n lv is moves so_far =
    let step = pvmove_step group n lv is in
    let more : pvmove_number (drop n group.lvs) ≡ pvmove_number (drop (n + 1) group.lvs) + 1 =
    step ∙ ap (λ b. cond b 0 (pvmove_number (drop (n + 1) group.lvs) + 1)) moves in
    omega arith

-- a run for each volume
pub room_for_volumes : (lvs : List (List ℕ × Lv)) → length lvs ≤ run_room lvs
room_for_volumes [] = omega arith
room_for_volumes (v ∷ lvs) = omega (arith, room_for_volumes lvs, sum_by-cons (λ (row : List ℕ × Lv). room_of row.1) v lvs)

map_each : (f g : ℕ → ℕ) (xs : List ℕ) → ((x : ℕ) → f x ≡ g x) → map f xs ≡ map g xs
map_each f g [] same = refl
map_each f g (x ∷ xs) same = ap (λ y. y ∷ map f xs) (same x) ∙ ap (λ ys. g x ∷ ys) (map_each f g xs same)

-- the numbers are the heights
pub lengths : (group : Group) (rounds lv : ℕ) → climbed group Length rounds lv ≡ height (λ v. 1) (named_by group) rounds lv
lengths group zero lv = refl
lengths group (suc rounds) lv =
    ap (λ xs. 1 + greatest xs) (map_each (climbed group Length rounds) (height (λ v. 1) (named_by group) rounds) (named_by group lv)
    (lengths group rounds))

pub loads : (group : Group) (rounds lv : ℕ)
    → climbed group (Load (pvmove_number group.lvs)) rounds lv ≡ height (counts group) (named_by group) rounds lv
loads group zero lv = refl
loads group (suc rounds) lv =
    ap (λ xs. counts group lv + greatest xs)
    (map_each (climbed group (Load (pvmove_number group.lvs)) rounds) (height (counts group) (named_by group) rounds)
    (named_by group lv) (loads group rounds))

ways_tell : (group : Group) → ClimbsAtMost group Length 4 → ClimbsAtMost group (Load (pvmove_number group.lvs)) 3 → WaysAreShort group
ways_tell group long heavy =
    (depth_by_rounds group).1 (λ lv below named.
    (omega (arith, long lv below named, lengths group 5 below), omega (arith, heavy lv below named, loads group 5 below)))

ways_show : (group : Group) → WaysAreShort group → ClimbsAtMost group Length 4 × ClimbsAtMost group (Load (pvmove_number group.lvs)) 3
ways_show group ways =
    let heights = (depth_by_rounds group).0 ways in (
      λ lv below named. omega (arith, (heights lv below named).0, lengths group 5 below),
      λ lv below named. omega (arith, (heights lv below named).1, loads group 5 below),
    )

-- what the two tests say
pub first_fails : (group : Group) (answer : Bool) → answer ≡ false → IsTrue answer ↔ ClimbsAtMost group Length 4
    → IsTrue answer ↔ WaysAreShort group
first_fails group answer fails tells = (λ is. absurd (false≢true (sym fails ∙ is)), λ ways. tells.1 (ways_show group ways).0)

pub second_tells : (group : Group) (light : ℕ) (answer : Bool) → light ≡ pvmove_number group.lvs → ClimbsAtMost group Length 4
    → IsTrue answer ↔ ClimbsAtMost group (Load light) 3 → IsTrue answer ↔ WaysAreShort group
second_tells group light answer same long tells = (
  λ is. ways_tell group long (subst (λ n. ClimbsAtMost group (Load n) 3) same (tells.0 is)),
  λ ways. tells.1 (subst (λ n. ClimbsAtMost group (Load n) 3) (sym same) (ways_show group ways).1),
)

pub depth_tells : (group : Group) (answer : Bool) → VolumesBelowAreHidden group → IsTrue answer ↔ WaysAreShort group
    → IsTrue answer ↔ DepthIsAtMostThree group
depth_tells group answer hidden tells = (
  λ is. let ways : WaysAreShort group = tells.0
      is in record { hidden = hidden; ends = λ lv way down. (ways lv way down).0; few = λ lv way down. (ways lv way down).1 },
  λ depth. tells.1 (λ lv way down. (depth.ends lv way down, depth.few lv way down)),
)
