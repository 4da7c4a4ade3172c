-- The legs of the segments that are made of given extents: what they cover is free, and lies apart.
use Rattle.std.proofs.Common.{◌≡◌, ◌≤◌, ◌<◌, ℕ, ◌+◌, ◌-◌, ◌*◌, ◌/◌, List, [], ◌∷◌, ◌++◌, length, map, Some, refl, sym, ap, subst, ◌∙◌}
use Rattle.std.proofs.Common.{arith}
use Rattle.std.specs.Prelude.{slice_get, All, AllPairs}
use Rattle.std.proofs.lemmas.List.{length-map}
use Rattle.std.proofs.lemmas.List.Elements.{All-append, All-cons, All-head, All-nil, All-tail}
use Rattle.std.proofs.lemmas.List.Kept.{AllPairs-cons}
use Rattle.std.proofs.lemmas.Nat.{div-mul-add}
use Rattle.meta_model.specs.Runs.{legs_of}
use Rattle.meta_model.specs.declared.group.Group.{Group}
use Rattle.meta_model.specs.declared.pv.Pv.{Pv}
use Rattle.meta_model.specs.declared.segment.Leg.{Leg}
use Rattle.meta_model.specs.declared.segment.On.{On}
use Rattle.meta_model.specs.declared.segment.On.TheVariants as on
use Rattle.meta_model.specs.declared.segment.SegKind.{SegKind}
use Rattle.meta_model.specs.declared.segment.SegKind.TheVariants.{Striped, Mirror}
use Rattle.extent_alloc.specs.Giving.{IsGiven, IsRequest, covered, covered_by, extents_in, LieApart as PvApart}
use Rattle.extent_alloc.specs.declared.part.Part.{Part}
use Rattle.extent_alloc.specs.declared.part.PartRun.{PartRun}
use Rattle.extent_alloc.specs.declared.part.PvRun.{PvRun}
use Rattle.extent_alloc.specs.declared.request.Request.{Request}
use Rattle.volume_rules.specs.Extents.{leg_share}
use Rattle.volume_rules.specs.Legs.{IsUsed, LegRun, LieApart, runs_of_legs, runs_of_segments}
use Rattle.volume_rules.specs.Rules.{LiesWithin}
use Rattle.group_edits.proofs.GrownRules.{IsNewRun}
use Rattle.list_laws.proofs.Inserted.{first_pairs, later_pairs}
use Rattle.group_edits.specs.GivenSegments.{IsFreeRun, MayBeLaid, extents_by, kind_on, leg_at, legs_in, segments_of}

-- what a request may be given may be laid
pub given_may : (group : Group) (want : Request) (parts : List Part) → IsGiven group want parts → MayBeLaid group want.legs parts
given_may group want parts given =
    record { legs = given.legs; free = λ k d within extent from below. (given.free k d within).1 extent from below; apart = given.apart }

-- and is a part or more
pub given_some : (group : Group) (want : Request) (parts : List Part) → IsRequest want → IsGiven group want parts → 1 ≤ length parts
given_some group want parts request given = by parts given.enough where
  by : (ps : List Part) → extents_in ps ≡ want.extents → 1 ≤ length ps
  by [] enough = let some = request.extents in absurd (omega (arith, enough, some))
  by (part ∷ ps) enough = omega arith

-- ---- the legs of a part

pub legs_on : (legs : List Leg) (kind : SegKind) → legs_of (kind_on legs kind) ≡ legs
legs_on legs (Striped stripe others) = refl
legs_on legs (Mirror region moved others) = refl

pub legs_count : (part : Part) → length (legs_in part) ≡ length part.runs
legs_count part = length-map part.runs leg_at

plus_none : (n : ℕ) → n ≡ n + 0
plus_none n = omega arith

pub share_is : (part : Part) (kind : SegKind) → 1 ≤ length part.runs
    → leg_share (extents_by part.extents (kind_on (legs_in part) kind)) (kind_on (legs_in part) kind) ≡ part.extents
share_is part (Striped stripe others) some =
    ap (λ (n : ℕ). n / length (legs_in part)) (plus_none (part.extents * length (legs_in part)))
    ∙ div-mul-add part.extents (length (legs_in part)) 0 (let same = legs_count part in omega (arith, some, same))
share_is part (Mirror region moved others) some = refl

-- ---- what they cover

-- the run of a leg on a physical volume covers this
pub record IsLaid (leg : LegRun) (run : PvRun) : Type 0 where
  pub on_pv : leg.on ≡ on.Pv run.pv
  pub first_is : leg.first ≡ run.first
  pub count_is : leg.count ≡ run.count

-- each run of the first list covers what stands there in the second
abbrev pub AreLaid : List LegRun → List PvRun → Type 0
AreLaid [] [] = Unit {0}
AreLaid [] (run ∷ runs) = ⊥
AreLaid (leg ∷ legs) [] = ⊥
AreLaid (leg ∷ legs) (run ∷ runs) = IsLaid leg run × AreLaid legs runs

laid_append : (a c : List LegRun) (b d : List PvRun) → AreLaid a b → AreLaid c d → AreLaid (a ++ c) (b ++ d)
laid_append [] c [] d first second = second
laid_append [] c (run ∷ b) d first second = absurd first
laid_append (leg ∷ a) c [] d first second = absurd first
laid_append (leg ∷ a) c (run ∷ b) d first second = (first.0, laid_append a c b d first.1 second)

laid_all : (P : LegRun → Type 0) (Q : PvRun → Type 0) → ((leg : LegRun) (run : PvRun) → IsLaid leg run → Q run → P leg)
    → (a : List LegRun) (b : List PvRun) → AreLaid a b → All Q b → All P a
laid_all P Q step [] [] laid all = All-nil P
laid_all P Q step [] (run ∷ b) laid all = absurd laid
laid_all P Q step (leg ∷ a) [] laid all = absurd laid
laid_all P Q step (leg ∷ a) (run ∷ b) laid all =
    All-cons P leg a (step leg run laid.0 (All-head Q run b all)) (laid_all P Q step a b laid.1 (All-tail Q run b all))

pv_same : (a b : ℕ) → on.Pv a ≡ on.Pv b → a ≡ b
pv_same a b same = ap pv_number same where
  pv_number : On → ℕ
  pv_number (on.Pv pv) = pv
  pv_number (on.Lv lv) = 0

legs_apart : (a b : LegRun) (x y : PvRun) → IsLaid a x → IsLaid b y → PvApart x y → LieApart a b
legs_apart a b x y is_a is_b apart on extent in_a in_b =
    let same : x.pv ≡ y.pv = pv_same x.pv y.pv (sym is_a.on_pv ∙ in_a.0 ∙ sym in_b.0 ∙ is_b.on_pv) in
    let from_a : a.first ≤ extent = in_a.1 in
    let to_a : extent < a.first + a.count = in_a.2 in
    let from_b : b.first ≤ extent = in_b.1 in
    let to_b : extent < b.first + b.count = in_b.2 in
    apart x.pv extent
    (refl, omega (arith, is_a.first_is, from_a), omega (arith, is_a.first_is, is_a.count_is, to_a))
    (sym same, omega (arith, is_b.first_is, from_b), omega (arith, is_b.first_is, is_b.count_is, to_b))

laid_pairs : (a : List LegRun) (b : List PvRun) → AreLaid a b → AllPairs PvApart b → AllPairs LieApart a
laid_pairs [] b laid pairs = λ i j d before within. absurd (omega (arith, before, within))
laid_pairs (leg ∷ a) [] laid pairs = absurd laid
laid_pairs (leg ∷ a) (run ∷ b) laid pairs =
    AllPairs-cons LieApart leg a
    (laid_all (LieApart leg) (PvApart run) (λ other there is apart. legs_apart leg other run there laid.0 is apart) a b laid.1
    (first_pairs PvApart run b pairs))
    (laid_pairs a b laid.1 (later_pairs PvApart run b pairs))

-- ---- the segments

module _ (kind : SegKind) (lv : ℕ) where
  legs_laid : (segment number count : ℕ) (runs : List PartRun)
      → AreLaid (runs_of_legs lv segment count number (map leg_at runs))
      (map (λ (run : PartRun). record { pv = run.pv; first = run.first; count = count }) runs)
  legs_laid segment number count [] = tt
  legs_laid segment number count (run ∷ runs) =
      (record { on_pv = refl; first_is = refl; count_is = refl }, legs_laid segment (number + 1) count runs)

  part_laid : (segment start : ℕ) (part : Part) → 1 ≤ length part.runs
      → AreLaid (runs_of_legs lv segment (leg_share (extents_by part.extents (kind_on (legs_in part) kind)) (kind_on (legs_in part) kind)) 0
      (legs_of (kind_on (legs_in part) kind))) (covered_by part)
  part_laid segment start part some =
      subst (λ (share : ℕ). AreLaid (runs_of_legs lv segment share 0 (legs_of (kind_on (legs_in part) kind))) (covered_by part))
      (sym (share_is part kind some))
      (subst (λ (legs : List Leg). AreLaid (runs_of_legs lv segment part.extents 0 legs) (covered_by part))
      (sym (legs_on (legs_in part) kind)) (legs_laid segment 0 part.extents part.runs))

  pub parts_laid : (segment start : ℕ) (parts : List Part) → All (λ (part : Part). 1 ≤ length part.runs) parts
      → AreLaid (runs_of_segments lv segment (segments_of kind start parts)) (covered parts)
  parts_laid segment start [] some = tt
  parts_laid segment start (part ∷ parts) some =
      laid_append
      (runs_of_legs lv segment (leg_share (extents_by part.extents (kind_on (legs_in part) kind)) (kind_on (legs_in part) kind)) 0
      (legs_of (kind_on (legs_in part) kind)))
      (runs_of_segments lv (segment + 1) (segments_of kind (start + extents_by part.extents (kind_on (legs_in part) kind)) parts))
      (covered_by part) (covered parts)
      (part_laid segment start part (All-head (λ (part : Part). 1 ≤ length part.runs) part parts some))
      (parts_laid (segment + 1) (start + extents_by part.extents (kind_on (legs_in part) kind)) parts
      (All-tail (λ (part : Part). 1 ≤ length part.runs) part parts some))

-- ---- the legs of all parts

-- what holds of what is covered holds of each leg
module _ (Q : PvRun → Type 0) (R : Leg → Type 0)
    (step : (run : PartRun) (count : ℕ) → Q (record { pv = run.pv; first = run.first; count = count }) → R (leg_at run)) where
  part_legs : (part : Part) (more : List PvRun) → All Q (covered_by part ++ more) → All R (legs_in part) × All Q more
  part_legs part more all = by part.runs all where
    by : (runs : List PartRun) → All Q (map (λ (run : PartRun). record { pv = run.pv; first = run.first; count = part.extents }) runs
        ++ more) → All R (map leg_at runs) × All Q more
    by [] all = (All-nil R, all)
    by (run ∷ runs) all =
        let rest : List PvRun = map (λ (run : PartRun). record { pv = run.pv; first = run.first; count = part.extents }) runs ++ more in
        let covers : PvRun = record { pv = run.pv; first = run.first; count = part.extents } in
        let later = by runs (All-tail Q covers rest all) in
        (All-cons R (leg_at run) (map leg_at runs) (step run part.extents (All-head Q covers rest all)) later.0, later.1)

  pub legs_by : (parts : List Part) → All Q (covered parts) → All (λ (part : Part). All R (legs_in part)) parts
  legs_by [] all = All-nil (λ (part : Part). All R (legs_in part))
  legs_by (part ∷ parts) all =
      let both = part_legs part (covered parts) all in
      All-cons (λ (part : Part). All R (legs_in part)) part parts both.0 (legs_by parts both.1)

-- ---- in the group

module _ (group : Group) (count : ℕ) (parts : List Part) (may : MayBeLaid group count parts) (legs : 1 ≤ count) where
  each_has_runs : All (λ (part : Part). 1 ≤ length part.runs) parts
  each_has_runs k d within = let here = may.legs k d within in let same = here.1 in omega (arith, same, legs)

  -- each run that is covered has an extent
  covered_some : (parts : List Part) → All (λ (part : Part). 1 ≤ part.extents) parts → All (λ (run : PvRun). 1 ≤ run.count) (covered parts)
  covered_some [] some = All-nil (λ (run : PvRun). 1 ≤ run.count)
  covered_some (part ∷ parts) some =
      All-append (λ (run : PvRun). 1 ≤ run.count) (covered_by part) (covered parts)
      (by part.runs (All-head (λ (part : Part). 1 ≤ part.extents) part parts some))
      (covered_some parts (All-tail (λ (part : Part). 1 ≤ part.extents) part parts some))
    where
      by : (runs : List PartRun) → 1 ≤ part.extents
          → All (λ (run : PvRun). 1 ≤ run.count) (map (λ (run : PartRun). record { pv = run.pv; first = run.first; count = part.extents })
          runs)
      by [] here = All-nil (λ (run : PvRun). 1 ≤ run.count)
      by (run ∷ runs) here =
          All-cons (λ (run : PvRun). 1 ≤ run.count) (record { pv = run.pv; first = run.first; count = part.extents })
          (map (λ (run : PartRun). record { pv = run.pv; first = run.first; count = part.extents }) runs) here (by runs here)

  -- the last extent of a free run is one of its volume
  pub free_within : (run : PvRun) → 1 ≤ run.count → IsFreeRun group run
      → (row : List ℕ × Pv) × (slice_get group.pvs run.pv ≡ Some row) × (run.first + run.count ≤ row.1.pe_count)
  free_within run some free =
      let last = free (run.first + (run.count - 1)) (omega arith) (omega (arith, some)) in
      let below : run.first + (run.count - 1) < last.0.0.1.pe_count = last.0.2 in
      (last.0.0, last.0.1, omega (arith, some, below))

  new_run : (leg : LegRun) (run : PvRun) → IsLaid leg run → (1 ≤ run.count) × IsFreeRun group run → IsNewRun group leg
  new_run leg run is free = record {
    pv = run.pv;
    on_pv = is.on_pv;
    some = (let some = free.0 in omega (arith, is.count_is, some));
    within =
        let inside = free_within run free.0 free.1 in
        subst (λ (on : On). LiesWithin group on (leg.first + leg.count)) (sym is.on_pv)
        (inside.0.0, inside.0.1, inside.1, (let most = inside.2 in omega (arith, is.first_is, is.count_is, most)));
    unused = λ on extent inside used.
        let from : leg.first ≤ extent = inside.1 in
        let to : extent < leg.first + leg.count = inside.2 in
        (free.1 extent (omega (arith, is.first_is, from)) (omega (arith, is.first_is, is.count_is, to))).1
        (subst (λ (o : On). IsUsed group o extent) (sym inside.0 ∙ is.on_pv) used);
  }

  pub each_free : All (λ (run : PvRun). (1 ≤ run.count) × IsFreeRun group run) (covered parts)
  each_free k d within = (covered_some parts (λ i e inside. (may.legs i e inside).0) k d within, may.free k d within)

  pub runs_new : (kind : SegKind) (lv segment start : ℕ) → All (IsNewRun group) (runs_of_segments lv segment (segments_of kind start parts))
  runs_new kind lv segment start =
      laid_all (IsNewRun group) (λ (run : PvRun). (1 ≤ run.count) × IsFreeRun group run) new_run
      (runs_of_segments lv segment (segments_of kind start parts)) (covered parts)
      (parts_laid kind lv segment start parts each_has_runs) each_free

  pub runs_apart : (kind : SegKind) (lv segment start : ℕ) → AllPairs LieApart (runs_of_segments lv segment (segments_of kind start parts))
  runs_apart kind lv segment start =
      laid_pairs (runs_of_segments lv segment (segments_of kind start parts)) (covered parts)
      (parts_laid kind lv segment start parts each_has_runs) may.apart
