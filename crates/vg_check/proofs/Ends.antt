-- What the rules before that on legs say of the rows of a group.
use Rattle.std.proofs.Common.{◌≡◌, ℕ, zero, suc, ◌+◌, ◌-◌, ◌*◌, ◌^◌, ◌/◌, ◌%◌, ◌<◌, ◌≤◌, List, [], ◌∷◌, length, get_or, Some, inl, inr, ap}
use Rattle.std.proofs.Common.{subst, arith}
use Rattle.std.specs.Prelude.{All, slice_get, sum_by}
use Rattle.std.proofs.lemmas.Bool.{cases_lt}
use Rattle.std.proofs.lemmas.List.Sums.{sum_by-cons}
use Rattle.std.proofs.lemmas.Option.{slice_get_within, get_or_from_slice_get}
use Rattle.meta_model.specs.declared.group.Group.{Group}
use Rattle.meta_model.specs.declared.lv.Lv.{Lv}
use Rattle.meta_model.specs.declared.segment.Segment.{Segment}
use Rattle.meta_model.specs.declared.segment.SegKind.{SegKind}
use Rattle.meta_model.specs.declared.segment.SegKind.TheVariants.{Striped, Mirror}
use Rattle.meta_model.specs.Runs.{legs_of}
use Rattle.volume_rules.specs.Extents.{extents_of, leg_share}
use Rattle.volume_rules.specs.declared.rule.Rule.TheVariants.{Numbers, Follows, Stripes, Mirrors}
use Rattle.volume_rules.specs.Rules.{Follow, SegmentsFollow, KeepsBelow, LvIsSmall, IsWholeStriped, IsWholeMirror, NumbersAreAllowed}
use Rattle.list_laws.proofs.Fronts.{all_at}
use Rattle.vg_check.specs.Whole.{SegmentIsWhole}

-- the last of segments that follow each other ends where all end
pub last_end : (at : ℕ) (segments : List Segment) → Follow at segments → (k : ℕ) (d : Segment) → k + 1 ≡ length segments
    → (get_or segments k d).start + (get_or segments k d).count ≡ at + sum_by (λ (s : Segment). s.count) segments
last_end at [] follow k d is = absurd (omega arith)
last_end at (s ∷ []) follow zero d is = omega (arith, follow.0, sum_by-cons (λ (s : Segment). s.count) s [])
last_end at (s ∷ []) follow (suc k) d is = absurd (omega arith)
last_end at (s ∷ t ∷ segments) follow zero d is = absurd (omega arith)
last_end at (s ∷ t ∷ segments) follow (suc k) d is =
    omega (
      arith,
      last_end (at + s.count) (t ∷ segments) follow.2 k d (omega arith),
      sum_by-cons (λ (s : Segment). s.count) s (t ∷ segments),
    )

-- each of them has an extent
follow_some : (at : ℕ) (segments : List Segment) → Follow at segments → All (λ s. 1 ≤ s.count) segments
follow_some at [] follow k d lt = absurd (omega arith)
follow_some at (s ∷ segments) follow zero d lt = follow.1
follow_some at (s ∷ segments) follow (suc k) d lt = follow_some (at + s.count) segments follow.2 k d (omega arith)

-- what a number holds a whole number of times, and isn't none, it holds once
quotient : (count legs : ℕ) → 1 ≤ count → 1 ≤ legs → count % legs ≡ 0 → 1 ≤ count / legs
quotient count legs some more whole =
    elim (cases_lt (count / legs) 1) [
      | inl none ↦ let none' : count / legs ≡ 0 = omega arith in absurd (omega (arith, ap (λ (q : ℕ). legs * q) none'))
      | inr is ↦ is
    ]

whole_kind : (extent_size count : ℕ) (kind : SegKind) → 1 ≤ count → IsWholeStriped extent_size count kind → IsWholeMirror kind
    → (1 ≤ length (legs_of kind)) × (1 ≤ leg_share count kind)
whole_kind extent_size count (Striped stripe legs) some striped mirror = (striped.0, quotient count (length legs) some striped.0 striped.2)
whole_kind extent_size count (Mirror region moved legs) some striped mirror = (omega (arith, mirror.0), some)

pub lvs_follow : (group : Group) (n : ℕ) (row : List ℕ × Lv) → KeepsBelow 9 group → slice_get group.lvs n ≡ Some row
    → Follow 0 row.1.segments
lvs_follow group n row below is =
    let keeps : SegmentsFollow group = below Follows (omega arith) in
    (all_at (λ (lv : List ℕ × Lv). Follow 0 lv.1.segments × (extents_of lv.1 * group.extent_size < 2 ^ 48)) group.lvs n row keeps is).0

pub lvs_small : (group : Group) (n : ℕ) (row : List ℕ × Lv) → KeepsBelow 9 group → slice_get group.lvs n ≡ Some row → LvIsSmall row.1
lvs_small group n row below is =
    let keeps : NumbersAreAllowed group = below Numbers (omega arith) in
    all_at (λ (lv : List ℕ × Lv). LvIsSmall lv.1) group.lvs n row keeps.lvs is

pub lvs_whole : (group : Group) (n : ℕ) (row : List ℕ × Lv) → KeepsBelow 9 group → slice_get group.lvs n ≡ Some row
    → All SegmentIsWhole row.1.segments
lvs_whole group n row below is k d lt =
    let stripes =
    all_at (λ (lv : List ℕ × Lv). All (λ segment. IsWholeStriped group.extent_size segment.count segment.kind) lv.1.segments) group.lvs
    n row (below Stripes (omega arith)) is k d lt in
    let mirrors =
    all_at (λ (lv : List ℕ × Lv). All (λ segment. IsWholeMirror segment.kind) lv.1.segments) group.lvs n row
    (below Mirrors (omega arith)) is k d lt in
    let both =
    whole_kind group.extent_size (get_or row.1.segments k d).count (get_or row.1.segments k d).kind
    (follow_some 0 row.1.segments (lvs_follow group n row below is) k d lt) stripes mirrors in
    record { small = (lvs_small group n row below is).1 k d lt; legs = both.0; covers = both.1 }

-- the last one, as it is found
pub last_at : (found segments : List Segment) (last : Segment) → found ≡ segments → slice_get found (length found - 1) ≡ Some last
    → Follow 0 segments → last.start + last.count ≡ sum_by (λ (s : Segment). s.count) segments
last_at found segments last same is follow =
    let is' : slice_get segments (length segments - 1) ≡ Some last = subst (λ xs. slice_get xs (length xs - 1) ≡ Some last) same is in
    let within : length segments - 1 < length segments = slice_get_within segments (length segments - 1) last is' in
    let there = get_or_from_slice_get segments (length segments - 1) last last is' in
    let ends = last_end 0 segments follow (length segments - 1) last (omega arith) in
    subst (λ (s : Segment). s.start + s.count ≡ sum_by (λ (s : Segment). s.count) segments) there (omega (arith, ends))

-- the rules before an earlier one
pub fewer : (group : Group) (less more : ℕ) → less ≤ more → KeepsBelow more group → KeepsBelow less group
fewer group less more le below rule lt = below rule (omega arith)
