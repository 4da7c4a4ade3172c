-- The small group is accepted, before and after its segment is moved.
use Rattle.std.proofs.Common.{◌≡◌, ◌≢◌, ◌^◌, ℕ, zero, suc, ◌+◌, ◌*◌, ◌<◌, ◌≤◌, Bool, true, false, ◌||◌, not, ◌&&◌, cond, get_or, nat_le}
use Rattle.std.proofs.Common.{nat_eq, IsTrue, IsFalse, List, [], ◌∷◌, length, Some, ⊎_elim, refl, sym, ap, subst, ◌∙◌, arith}
use Rattle.std.proofs.lemmas.Bool.{or_cases, and_parts, leb-true, eq-eqb, not-true, false≢true}
use Rattle.std.proofs.lemmas.Option.{same_Some}
use Rattle.std.proofs.lemmas.List.Elements.{All-from_recursion, All-contains}
use Rattle.std.proofs.lemmas.List.Kept.{AllPairs-cons}
use Rattle.std.specs.Prelude.{All, AllPairs, Contains, slice_get, codes}
use Rattle.std.specs.List.{AllByRecursion, list_all}
use Rattle.meta_model.specs.declared.pv.Pv.{Pv}
use Rattle.meta_model.specs.declared.lv.Lv.{Lv}
use Rattle.meta_model.specs.declared.segment.Segment.{Segment}
use Rattle.meta_model.specs.declared.segment.SegKind.TheVariants.{Striped}
use Rattle.meta_model.specs.declared.segment.Leg.{Leg}
use Rattle.meta_model.specs.declared.segment.On.TheVariants as on
use Rattle.volume_rules.specs.Extents.{extents_of}
use Rattle.volume_rules.specs.Legs.{LegRun, runs_of, LieApart}
use Rattle.volume_rules.specs.Depths.{height}
use Rattle.volume_rules.specs.Moving.{named_by}
use Rattle.volume_rules.specs.Sorting.{on_number}
use Rattle.volume_rules.specs.declared.rule.Rule.TheVariants.{Numbers, Ids, Volumes, Segments, Extents, Follows, Stripes, Mirrors, Within}
use Rattle.volume_rules.specs.declared.rule.Rule.TheVariants.{Apart, Depth, Moved, Pvmove, Locked}
use Rattle.volume_rules.specs.Rules.{IsAccepted, IsLv, IsPvmove, IsMove, IsMoving, IsMoveFrom, DepthIsAtMostThree, NumbersAreAllowed}
use Rattle.volume_rules.specs.Rules.{LegsLieWithin, PvIsSmall, LvIsSmall, SegmentIsSmall, FitsDevice, Follow, IsWholeStriped, IsWholeMirror}
use Rattle.volume_rules.specs.Rules.{IsSmall, LiesWithin, MovedIsAllowed, counts, ids_of, pvmove_number}
use Rattle.volume_rules.proofs.NamedVolumes.{depth_by_rounds}
use Rattle.volume_rules.proofs.MovingVolumes.{moving_is}
use Rattle.volume_view.proofs.CopiesApart.{same_number}
use Rattle.volume_view.proofs.Examples.{example, pv, lvs, segment, on_pv, on_lv, data_lv, first_lv, second_lv, move_lv, stripes, mirror}
use Rattle.volume_view.proofs.Examples.{move}

-- each of a list that is written out
each : {X : Type 0} (P : X → Type 0) (xs : List X) → AllByRecursion P xs → All P xs
each P xs all = All-from_recursion P xs all

-- a test of all pairs of a list
abbrev all_pairs : {X : Type 0} → (X → X → Bool) → List X → Bool
all_pairs test [] = true
all_pairs test (x ∷ xs) = list_all (test x) xs && all_pairs test xs

with_each : {X : Type 0} (R : X → X → Type 0) (test : X → X → Bool) → ((x y : X) → test x y ≡ true → R x y) → (x : X) (xs : List X)
    → list_all (test x) xs ≡ true → AllByRecursion (R x) xs
with_each R test tells x [] passes = tt
with_each R test tells x (y ∷ ys) passes =
    let parts = and_parts (test x y) (list_all (test x) ys) passes in
    (tells x y parts.0, with_each R test tells x ys parts.1)

tested_pairs : {X : Type 0} (R : X → X → Type 0) (test : X → X → Bool) → ((x y : X) → test x y ≡ true → R x y) → (xs : List X)
    → all_pairs test xs ≡ true → AllPairs R xs
tested_pairs R test tells [] passes = λ i j d less within. absurd (omega arith)
tested_pairs R test tells (x ∷ xs) passes =
    let parts = and_parts (list_all (test x) xs) (all_pairs test xs) passes in
    AllPairs-cons R x xs (each (R x) xs (with_each R test tells x xs parts.0)) (tested_pairs R test tells xs parts.1)

-- two ids whose first characters differ
abbrev differ : List ℕ → List ℕ → Bool
differ a b = not (nat_eq (get_or a 0 0) (get_or b 0 0))

they_differ : (a b : List ℕ) → differ a b ≡ true → a ≢ b
they_differ a b test same =
    false≢true (sym (not-true (nat_eq (get_or a 0 0) (get_or b 0 0)) test)
    ∙ eq-eqb (get_or a 0 0) (get_or b 0 0) (ap (λ (id : List ℕ). get_or id 0 0) same))

-- two runs on different volumes, or one behind the other
abbrev lie_beside : LegRun → LegRun → Bool
lie_beside a b =
    not (nat_eq (on_number a.on) (on_number b.on)) || (nat_le (a.first + a.count) b.first || nat_le (b.first + b.count) a.first)

they_lie_apart : (a b : LegRun) → lie_beside a b ≡ true → LieApart a b
they_lie_apart a b test below extent here there =
    ⊎_elim
    (λ other. false≢true (sym (not-true (nat_eq (on_number a.on) (on_number b.on)) other)
    ∙ eq-eqb (on_number a.on) (on_number b.on) (ap on_number (here.0 ∙ sym there.0))))
    (λ behind.
    ⊎_elim
    (λ first. let e : a.first + a.count ≤ b.first = leb-true (a.first + a.count) b.first first in absurd (omega (arith, here.2, there.1)))
    (λ second. let e : b.first + b.count ≤ a.first = leb-true (b.first + b.count) a.first second in absurd (omega (arith, here.1, there.2)))
    (or_cases (nat_le (a.first + a.count) b.first) (nat_le (b.first + b.count) a.first) behind))
    (or_cases (not (nat_eq (on_number a.on) (on_number b.on))) (nat_le (a.first + a.count) b.first || nat_le (b.first + b.count) a.first)
    test)

-- a volume that a leg names isn't the first
names_later : (moved below : ℕ) (run : LegRun) → Contains (runs_of (example moved)) run → run.on ≡ on.Lv below → 1 ≤ below
unfolding runs_of
names_later moved below run within is =
    let P : LegRun → Type 0 = λ r. (n : ℕ) → r.on ≡ on.Lv n → 1 ≤ n in
    All-contains P (runs_of (example moved)) run
    (each P (runs_of (example moved)) (
      (λ n h. cc),
      (
        (λ n h. cc),
        (
          (λ n h. omega (arith, same_number 1 n h)),
          (
            (λ n h. omega (arith, same_number 2 n h)),
            ((λ n h. omega (arith, same_number 3 n h)), ((λ n h. cc), ((λ n h. cc), ((λ n h. cc), tt)))),
          ),
        ),
      ),
    ))
    within below is

-- what a status says
pub true_is : (b : Bool) → b ≡ true → IsTrue b
true_is true is = grind arith
true_is false is = absurd (false≢true is)

false_is : (b : Bool) → b ≡ false → IsFalse b
false_is false is = grind arith
false_is true is = absurd (false≢true (sym is))

-- and what it does not
pub not_true : (b : Bool) → b ≡ false → IsTrue b → ⊥
not_true true is t = absurd (false≢true (sym is))
not_true false is t = grind arith

-- all but the first are hidden
hidden_is : (moved number : ℕ) (v : Lv) → 1 ≤ number → IsLv (example moved) number v → IsFalse v.status.visible
hidden_is moved zero v later is = absurd (omega arith)
hidden_is moved (suc zero) v later is = false_is v.status.visible (sym (ap (λ (p : List ℕ × Lv). p.1.status.visible) (same_Some _ _ is.1)))
hidden_is moved (suc (suc zero)) v later is =
    false_is v.status.visible (sym (ap (λ (p : List ℕ × Lv). p.1.status.visible) (same_Some _ _ is.1)))
hidden_is moved (suc (suc (suc zero))) v later is =
    false_is v.status.visible (sym (ap (λ (p : List ℕ × Lv). p.1.status.visible) (same_Some _ _ is.1)))
hidden_is moved (suc (suc (suc (suc n)))) v later is = cc

-- how deep each volume lies
at_most_one : (b : Bool) → cond b 0 1 ≤ 1
at_most_one true = omega arith
at_most_one false = omega arith

low : (moved lv : ℕ) → (height (λ v. 1) (named_by (example moved)) 5 lv ≤ 4)
    × (height (counts (example moved)) (named_by (example moved)) 5 lv ≤ 3)
low moved zero = (omega arith, omega arith)
low moved (suc zero) = (omega arith, omega arith)
low moved (suc (suc zero)) = (omega arith, omega arith)
low moved (suc (suc (suc zero))) = (omega arith, omega arith)
low moved (suc (suc (suc (suc n)))) =
    (omega arith, omega (arith, at_most_one (nat_eq (suc (suc (suc (suc n)))) (pvmove_number (lvs moved)))))

depth : (moved : ℕ) → DepthIsAtMostThree (example moved)
depth moved =
    let heights = (depth_by_rounds (example moved)).1 (λ lv below named. low moved below) in
    record {
      hidden = λ lv below v lies is. hidden_is moved below v (names_later moved below lies.0 lies.1 lies.3) is;
      ends = λ lv way is. (heights lv way is).0;
      few = λ lv way is. (heights lv way is).1;
    }

-- the legs of a move from the first physical volume
is_moving_to : (moved : ℕ) → IsMoveFrom 0 (move moved).kind
is_moving_to moved = (refl, (1, refl, (λ same. cc)))

-- its volume is as a move has to be
is_move : (moved : ℕ) → IsMove (example moved) 3 (codes "pvmove0") (move_lv moved)
unfolding runs_of
is_move moved =
    record {
      hidden = false_is false refl;
      locked = true_is true refl;
      named = refl;
      from_one = (0, each (λ (s : Segment). IsMoveFrom 0 s.kind) (move moved ∷ []) (is_moving_to moved, tt));
      stands_in_legs =
          λ extent lt. (
            record { lv = 1; segment = 0; leg = 0; on = on.Lv 3; first = 0; count = 1 },
            (4, omega arith, refl),
            (refl, omega arith, omega arith),
          );
    }

whole_move : (moved number : ℕ) (name : List ℕ) (v : Lv) → slice_get (lvs moved) number ≡ Some (name, v) → IsTrue v.status.pvmove
    → IsMove (example moved) number name v
whole_move moved zero name v is t =
    absurd (not_true v.status.pvmove (sym (ap (λ (p : List ℕ × Lv). p.1.status.pvmove) (same_Some _ _ is))) t)
whole_move moved (suc zero) name v is t =
    absurd (not_true v.status.pvmove (sym (ap (λ (p : List ℕ × Lv). p.1.status.pvmove) (same_Some _ _ is))) t)
whole_move moved (suc (suc zero)) name v is t =
    absurd (not_true v.status.pvmove (sym (ap (λ (p : List ℕ × Lv). p.1.status.pvmove) (same_Some _ _ is))) t)
whole_move moved (suc (suc (suc zero))) name v is t =
    subst (λ (p : List ℕ × Lv). IsMove (example moved) 3 p.0 p.1)
    (same_Some {A = List ℕ × Lv} (codes "pvmove0", move_lv moved) (name, v) is) (is_move moved)
whole_move moved (suc (suc (suc (suc n)))) name v is t = cc

-- and it is the only one
only_move : (moved number : ℕ) → IsPvmove (example moved) number → number ≡ 3
only_move moved zero is =
    absurd (not_true is.0.status.pvmove (sym (ap (λ (p : List ℕ × Lv). p.1.status.pvmove) (same_Some _ _ is.1.1))) is.2)
only_move moved (suc zero) is =
    absurd (not_true is.0.status.pvmove (sym (ap (λ (p : List ℕ × Lv). p.1.status.pvmove) (same_Some _ _ is.1.1))) is.2)
only_move moved (suc (suc zero)) is =
    absurd (not_true is.0.status.pvmove (sym (ap (λ (p : List ℕ × Lv). p.1.status.pvmove) (same_Some _ _ is.1.1))) is.2)
only_move moved (suc (suc (suc zero))) is = refl
only_move moved (suc (suc (suc (suc n)))) (v, (name, is), t) = cc

-- the locked volumes lie on it
locked_move : (moved number : ℕ) (v : Lv) → IsLv (example moved) number v → IsTrue v.status.locked → IsMoving (example moved) number
locked_move moved zero v is t = (moving_is (example moved) 0 (depth moved)).0 refl
locked_move moved (suc zero) v is t = (moving_is (example moved) 1 (depth moved)).0 refl
locked_move moved (suc (suc zero)) v is t =
    absurd (not_true v.status.locked (sym (ap (λ (p : List ℕ × Lv). p.1.status.locked) (same_Some _ _ is.1))) t)
locked_move moved (suc (suc (suc zero))) v is t = (moving_is (example moved) 3 (depth moved)).0 refl
locked_move moved (suc (suc (suc (suc n)))) v is t = cc

numbers_are : (moved : ℕ) → moved ≤ 1 → NumbersAreAllowed (example moved)
numbers_are moved small =
    let two : (a b : Leg) → IsSmall a.first → IsSmall b.first → All (λ (l : Leg). IsSmall l.first) (a ∷ b ∷ []) =
    λ a b x y. each (λ (l : Leg). IsSmall l.first) (a ∷ b ∷ []) (x, (y, tt)) in
    let one : (a : Leg) → IsSmall a.first → All (λ (l : Leg). IsSmall l.first) (a ∷ []) =
    λ a x. each (λ (l : Leg). IsSmall l.first) (a ∷ []) (x, tt) in
    record {
      seqno = (omega arith, omega arith);
      extent_size = (omega arith, omega arith, refl);
      limits = (omega arith, omega arith, omega arith);
      pvs =
          each (λ (p : List ℕ × Pv). PvIsSmall p.1) (pv 1 2048 ∷ pv 2 4096 ∷ [])
          ((omega arith, omega arith, omega arith), ((omega arith, omega arith, omega arith), tt));
      lvs =
          each (λ (v : List ℕ × Lv). LvIsSmall v.1) (lvs moved) (
            (
              omega arith,
              each SegmentIsSmall data_lv.segments (
                (omega arith, omega arith, (omega arith, two (on_pv 0 3) (on_pv 1 5) (omega arith) (omega arith))),
                ((omega arith, omega arith, (omega arith, two (on_lv 1 0) (on_lv 2 0) (omega arith) (omega arith))), tt),
              ),
            ),
            (
              (
                omega arith,
                each SegmentIsSmall first_lv.segments
                    ((omega arith, omega arith, (omega arith, one (on_lv 3 0) (omega arith))), tt),
              ),
              (
                (
                  omega arith,
                  each SegmentIsSmall second_lv.segments
                      ((omega arith, omega arith, (omega arith, one (on_pv 1 7) (omega arith))), tt),
                ),
                (
                  (
                    omega arith,
                    each SegmentIsSmall (move_lv moved).segments (
                      (omega arith, omega arith, (omega arith, omega arith, two (on_pv 0 2) (on_pv 1 9) (omega arith) (omega arith))),
                      tt,
                    ),
                  ),
                  tt,
                ),
              ),
            ),
          );
    }

-- each volume's segments keep a rule where these do
segments_keep : (P : Bool → Segment → Type 0) (moved : ℕ) → P false stripes → P false mirror
    → P false (segment 0 1 (Striped 0 (on_lv 3 0 ∷ []))) → P false (segment 0 1 (Striped 0 (on_pv 1 7 ∷ []))) → P true (move moved)
    → All (λ (v : List ℕ × Lv). All (λ (s : Segment). P v.1.status.pvmove s) v.1.segments) (lvs moved)
segments_keep P moved a b c d e =
    each (λ (v : List ℕ × Lv). All (λ (s : Segment). P v.1.status.pvmove s) v.1.segments) (lvs moved) (
      each (P false) data_lv.segments (a, (b, tt)),
      (
        each (P false) first_lv.segments (c, tt),
        (each (P false) second_lv.segments (d, tt), (each (P true) (move_lv moved).segments (e, tt), tt)),
      ),
    )

within : (moved : ℕ) → LegsLieWithin (example moved)
unfolding runs_of
within moved =
    each (λ (r : LegRun). LiesWithin (example moved) r.on (r.first + r.count)) (runs_of (example moved)) (
      (1 ∷ [], (pv 1 2048).1, refl, omega arith),
      (
        (2 ∷ [], (pv 2 4096).1, refl, omega arith),
        (
          (first_lv, (4 ∷ [], refl), omega arith),
          (
            (second_lv, (5 ∷ [], refl), omega arith),
            (
              (move_lv moved, (codes "pvmove0", refl), omega arith),
              (
                (2 ∷ [], (pv 2 4096).1, refl, omega arith),
                (
                  (1 ∷ [], (pv 1 2048).1, refl, omega arith),
                  (
                    (2 ∷ [], (pv 2 4096).1, refl, omega arith),
                    tt,
                  ),
                ),
              ),
            ),
          ),
        ),
      ),
    )

-- the group keeps all rules
pub accepted : (moved : ℕ) → moved ≤ 1 → IsAccepted (example moved)
unfolding runs_of
accepted moved small Numbers = numbers_are moved small
accepted moved small Ids = tested_pairs (λ (a b : List ℕ). a ≢ b) differ they_differ (ids_of (example moved)) refl
accepted moved small Volumes =
    record { pvs = (omega arith, omega arith); lvs = omega arith; max_pv = λ h. absurd (h refl); max_lv = λ h. absurd (h refl) }
accepted moved small Segments =
    record {
      few = omega arith;
      some = each (λ (v : List ℕ × Lv). 1 ≤ length v.1.segments) (lvs moved)
          (omega arith, (omega arith, (omega arith, (omega arith, tt))));
    }
accepted moved small Extents =
    each (λ (p : List ℕ × Pv). FitsDevice 64 p.1) (pv 1 2048 ∷ pv 2 4096 ∷ [])
    ((omega arith, λ h. absurd (h refl)), ((omega arith, λ h. absurd (h refl)), tt))
accepted moved small Follows =
    each (λ (v : List ℕ × Lv). Follow 0 v.1.segments × (extents_of v.1 * 64 < 2 ^ 48)) (lvs moved) (
      ((refl, omega arith, (refl, omega arith, tt)), omega arith),
      (((refl, omega arith, tt), omega arith), (((refl, omega arith, tt), omega arith), (((refl, omega arith, tt), omega arith), tt))),
    )
accepted moved small Stripes =
    segments_keep (λ b s. IsWholeStriped 64 s.count s.kind) moved (omega arith, omega arith, refl, λ more. ((3, refl), omega arith, refl))
    tt (omega arith, omega arith, refl, λ more. absurd (omega arith)) (omega arith, omega arith, refl, λ more. absurd (omega arith)) tt
accepted moved small Mirrors =
    segments_keep (λ b s. IsWholeMirror s.kind) moved tt (omega arith, omega arith, (10, refl), omega arith) tt tt
    (omega arith, omega arith, (5, refl), omega arith)
accepted moved small Within = within moved
accepted moved small Apart = tested_pairs LieApart lie_beside they_lie_apart (runs_of (example moved)) refl
accepted moved small Depth = depth moved
accepted moved small Moved = segments_keep (λ b s. MovedIsAllowed b s.count s.kind) moved tt tt tt tt (true_is true refl, small)
accepted moved small Pvmove = record { one = λ a b x y. only_move moved a x ∙ sym (only_move moved b y); whole = whole_move moved }
accepted moved small Locked = locked_move moved
