-- The disks that were looked at, one after another.
use Rattle.std.proofs.Common.{◌≡◌, ◌≤◌, ◌<◌, ◌+◌, ℕ, Bool, List, [], ◌∷◌, ◌++◌, length, take, get_or, All, Contains, Option, Some, None}
use Rattle.std.proofs.Common.{refl, sym, ap, subst, ◌∙◌}
use Rattle.std.specs.Prelude.{IfSome, MatchOption, option_map}
use Rattle.std.proofs.lemmas.Grind.{get_or_default_zero}
use Rattle.std.proofs.lemmas.List.{take_all, take_more}
use Rattle.std.proofs.lemmas.List.Elements.{All-nil, All-push}
use Rattle.disk_model.specs.Faults.{HasSameFaults}
use Rattle.disk_model.specs.State.{State}
use Rattle.disk_model.specs.Steps.{Image}
use Rattle.vg_scan.specs.Scans.{HoldsNow}
use Rattle.disk_use.specs.declared.in_use.InUse.{InUse}
use Rattle.disk_use.specs.declared.in_use.Use.{Use}
use Rattle.disk_use.specs.declared.in_use.Use.TheVariants.{Group}
use Rattle.disk_use.specs.LookedAt.{AreFreeBut, IsFirstUse, IsMarked, LooksOnly}
use Rattle.disk_use.specs.Uses.{IsFree, IsOfGroup, IsOfNone, IsUsedBy}
use Rattle.disk_use.proofs.Freed.{free_more, marked_more, used}
use Rattle.disk_use.proofs.Looking.{held_before, looks_both, looks_nothing, now_always, now_both, now_weaker}

-- the disks before this one were looked at, and these are marked
pub record AreLookedAt (new : Bool) (s0 : State) (all : List ℕ) (count : ℕ) (marked : List ℕ) (s : State) : Type 0 where
  pub now : HoldsNow s0.told (λ image. AreFreeBut new image s0.sizes marked (take count all))
  pub faults : HasSameFaults s0 s
  pub looks : LooksOnly s0 s
  pub among : All (Contains all) marked

-- before the first disk
pub none_looked_at : (new : Bool) (s0 : State) (all marked : List ℕ) → marked ≡ [] → s0.in_flight ≡ [] → AreLookedAt new s0 all 0 marked s0
none_looked_at new s0 all marked none idle =
    subst (λ (l : List ℕ). AreLookedAt new s0 all 0 l s0) (sym none) (record {
      now =
          now_always s0.told (λ image. AreFreeBut new image s0.sizes [] [])
          (λ image. (All-nil (IsMarked image s0.sizes), λ of. All-nil (IsFree new image s0.sizes)));
      faults = λ pv. refl;
      looks = looks_nothing s0 s0 refl idle;
      among = All-nil (Contains all);
    })

module _ (new : Bool) (s0 s1 s2 : State) (all : List ℕ) (i : ℕ) (marked : List ℕ) (pv : ℕ) (so_far : AreLookedAt new s0 all i marked s1)
    (within : i < length all) (here : pv ≡ get_or all i 0)
    (same : HasSameFaults s1 s2) (looks : LooksOnly s1 s2) where
  faults_both : HasSameFaults s0 s2
  faults_both p = same p ∙ so_far.faults p

  one_more : take (i + 1) all ≡ take i all ++ pv ∷ []
  one_more = take_more all i 0 within ∙ ap (λ (n : ℕ). take i all ++ n ∷ []) (sym here)

  pub contains_it : Contains all pv
  contains_it = (i, within, get_or_default_zero all i pv within ∙ sym here)

  -- one free disk more
  pub free_next : HoldsNow s1.told (λ image. IsFree new image s1.sizes pv) → AreLookedAt new s0 all (i + 1) marked s2
  free_next free = record {
    now =
        subst (λ (l : List ℕ). HoldsNow s0.told (λ image. AreFreeBut new image s0.sizes marked l)) (sym one_more)
        (now_both s0.told (λ image. AreFreeBut new image s0.sizes marked (take i all)) (λ image. IsFree new image s0.sizes pv) (λ image.
        AreFreeBut new image s0.sizes marked (take i all ++ pv ∷ []))
        (λ image are is. free_more new image s0.sizes marked (take i all) pv are is) so_far.now
        (held_before s0 s1 (λ sizes image. IsFree new image sizes pv) so_far.looks free));
    faults = faults_both;
    looks = looks_both s0 s1 s2 so_far.looks looks;
    among = so_far.among;
  }

  -- one marked disk more
  pub marked_next : (pushed : List ℕ) → pushed ≡ marked ++ pv ∷ [] → HoldsNow s1.told (λ image. IsMarked image s1.sizes pv)
      → AreLookedAt new s0 all (i + 1) pushed s2
  marked_next pushed is m =
      subst (λ (l : List ℕ). AreLookedAt new s0 all (i + 1) l s2) (sym is) (record {
        now =
            subst (λ (l : List ℕ). HoldsNow s0.told (λ image. AreFreeBut new image s0.sizes (marked ++ pv ∷ []) l)) (sym one_more)
            (now_both s0.told (λ image. AreFreeBut new image s0.sizes marked (take i all)) (λ image. IsMarked image s0.sizes pv)
            (λ image. AreFreeBut new image s0.sizes (marked ++ pv ∷ []) (take i all ++ pv ∷ []))
            (λ image are at. marked_more new image s0.sizes marked (take i all) pv are at) so_far.now
            (held_before s0 s1 (λ sizes image. IsMarked image sizes pv) so_far.looks m));
        faults = faults_both;
        looks = looks_both s0 s1 s2 so_far.looks looks;
        among = All-push (Contains all) marked pv so_far.among contains_it;
      })

  -- a disk in use
  pub used_there : (by : Use) → HoldsNow s1.told (λ image. IsUsedBy new image s1.sizes pv by)
      → HasSameFaults s0 s2 × HoldsNow s0.told (λ image. IsFirstUse new image s0.sizes all (record { pv = pv; by = by }))
  used_there by is = (
    faults_both,
    now_weaker s0.told (λ image. IsUsedBy new image s0.sizes pv by)
        (λ image. IsFirstUse new image s0.sizes all (record { pv = pv; by = by })) (λ image so. (contains_it, so))
        (held_before s0 s1 (λ sizes image. IsUsedBy new image sizes pv by) so_far.looks is),
  )

-- ---- after the last disk

-- a marked disk is one of them
pub one_of_them : (all marked : List ℕ) (pv : ℕ) → All (Contains all) marked → Contains marked pv → Contains all pv
one_of_them all marked pv among there = subst (Contains all) there.2 (among there.0 pv there.1)

abbrev pub by_group : ℕ → InUse
by_group pv = record { pv = pv; by = Group }

abbrev pub LeftOf : List ℕ → List ℕ → Image → Option ℕ → Type 0
LeftOf marked sizes image left = MatchOption left (All (IsOfGroup image sizes) marked) (λ pv. Contains marked pv × IsOfNone image sizes pv)

pub all_looked_at : (new : Bool) (s0 s1 s2 : State) (all : List ℕ) (i : ℕ) (marked : List ℕ) (left : Option ℕ) (found : Option InUse)
    → AreLookedAt new s0 all i marked s1 → length all ≤ i → HasSameFaults s1 s2
    → HoldsNow s1.told (λ image. LeftOf marked s1.sizes image left) → found ≡ option_map by_group left
    → HasSameFaults s0 s2 × HoldsNow s0.told
    (λ image. MatchOption found (All (IsFree new image s0.sizes) all) (IsFirstUse new image s0.sizes all))
all_looked_at new s0 s1 s2 all i marked left found so_far none_left same is found_is = (
  λ p. same p ∙ so_far.faults p,
  subst (λ (f : Option InUse). HoldsNow s0.told (λ image. MatchOption f (All (IsFree new image s0.sizes) all) (IsFirstUse new image
      s0.sizes all))) (sym found_is)
      (now_both s0.told (λ image. AreFreeBut new image s0.sizes marked all) (λ image. LeftOf marked s0.sizes image left)
      (λ image. MatchOption (option_map by_group left) (All (IsFree new image s0.sizes) all) (IsFirstUse new image s0.sizes all)) (at left)
      (subst (λ (l : List ℕ). HoldsNow s0.told (λ image. AreFreeBut new image s0.sizes marked l)) (take_all i all none_left) so_far.now)
      (held_before s0 s1 (λ sizes image. LeftOf marked sizes image left) so_far.looks is)),
)
  where
    at : (l : Option ℕ) (image : Image) → AreFreeBut new image s0.sizes marked all → LeftOf marked s0.sizes image l
        → MatchOption (option_map by_group l) (All (IsFree new image s0.sizes) all) (IsFirstUse new image s0.sizes all)
    at None image are of = are.1 of
    at (Some pv) image are one = (
      one_of_them all marked pv so_far.among one.0,
      used new image s0.sizes pv (subst (IsMarked image s0.sizes) one.0.2 (are.0 one.0.0
          pv one.0.1)) one.1,
    )

-- the disk that was found is one of them
pub found_among : (all marked : List ℕ) (left : Option ℕ) (found : Option InUse) → All (Contains all) marked
    → IfSome left (Contains marked) → found ≡ option_map by_group left
    → IfSome found (λ use_is. Contains all use_is.pv)
found_among all marked left found among of is = subst (λ (f : Option InUse). IfSome f (λ use_is. Contains all use_is.pv)) (sym is)
    (at left of) where
      at : (l : Option ℕ) → IfSome l (Contains marked) → IfSome (option_map by_group l) (λ use_is. Contains all use_is.pv)
      at None there = tt
      at (Some pv) there = one_of_them all marked pv among there
