-- How many extents of segments stay, and that the segment which is cut keeps whole stripes.
use Rattle.std.proofs.Common.{◌≡◌, ◌≤◌, ◌<◌, ℕ, ◌+◌, ◌-◌, ◌*◌, ◌/◌, Bool, true, false, cond, List, [], ◌∷◌, length, inl, inr, refl, ap, ◌∙◌}
use Rattle.std.proofs.Common.{arith}
use Rattle.std.specs.Prelude.{◌%◌, min, nat_le, sum_by}
use Rattle.std.specs.List.{AllByRecursion as Each}
use Rattle.std.proofs.lemmas.Bool.{cases_lt}
use Rattle.std.proofs.lemmas.Bool.Decides.{nat_tests}
use Rattle.std.proofs.lemmas.Grind.{div_ceil_times}
use Rattle.std.proofs.lemmas.List.Sums.{sum_by-cons}
use Rattle.std.proofs.lemmas.Nat.{div-add-mod', div-mul-add, mod-mul-add, mul-le}
use Rattle.meta_model.specs.Runs.{legs_of}
use Rattle.meta_model.specs.declared.segment.SegKind.{SegKind}
use Rattle.meta_model.specs.declared.segment.SegKind.TheVariants.{Striped, Mirror}
use Rattle.meta_model.specs.declared.segment.Segment.{Segment}
use Rattle.volume_rules.specs.Rules.{IsWholeStriped}
use Rattle.group_edits.specs.ShortenedVolume.{kept_of, parts_of, whole_stripes}

-- ---- one segment

-- a multiple of a size has whole parts
parts_times : (n size : ℕ) → 1 ≤ size → parts_of (n * size) size ≡ n
parts_times n size some =
    let e : n * size ≡ n * size + 0 = omega arith in
    let d : n * size / size ≡ n = ap (λ (x : ℕ). x / size) e ∙ div-mul-add n size 0 (omega (arith, some)) in
    let m : n * size % size ≡ 0 = ap (λ (x : ℕ). x % size) e ∙ mod-mul-add n size 0 (omega (arith, some)) in
    ap (λ (x : ℕ). x + min 1 (n * size % size)) d ∙ ap (λ (x : ℕ). n + min 1 x) m ∙ (let z : n + 0 ≡ n = omega arith in z)

-- no more than another multiple of it, which is no less
parts_below : (count most size : ℕ) → 1 ≤ size → count ≤ most → most % size ≡ 0 → parts_of count size * size ≤ most
parts_below count most size some less whole =
    let bounds = div_ceil_times count size (omega (arith, some)) in
    let most_is : most / size * size ≡ most = (let e = div-add-mod' most size in omega (arith, e, whole)) in
    let q : ℕ = most / size in
    let p : ℕ = parts_of count size in
    by q p most_is bounds.1
  where
    by : (q p : ℕ) → q * size ≡ most → p * size < count + size → p * size ≤ most
    by q p is few = elim (cases_lt q p) [
      | inl over ↦
          let next : (q + 1) * size ≤ p * size = mul-le (q + 1) size p size (omega (arith, over)) (omega arith) in
          let parts : (q + 1) * size ≡ q * size + size = omega arith in
          absurd (omega (arith, next, parts, is, few, less))
      | inr under ↦
          let most_parts : p * size ≤ q * size = mul-le p size q size (omega (arith, under)) (omega arith) in
          omega (arith, most_parts, is)
    ]

pub whole_more : (count : ℕ) (kind : SegKind) → 1 ≤ length (legs_of kind) → count ≤ whole_stripes count kind
whole_more count (Striped stripe legs) some = (div_ceil_times count (length legs) (omega (arith, some))).0
whole_more count (Mirror region moved legs) some = omega arith

pub whole_below : (size count most : ℕ) (kind : SegKind) → 1 ≤ length (legs_of kind) → IsWholeStriped size most kind → count ≤ most
    → whole_stripes count kind ≤ most
whole_below size count most (Striped stripe legs) some is less = parts_below count most (length legs) some less is.2
whole_below size count most (Mirror region moved legs) some is less = less

whole_again : (count : ℕ) (kind : SegKind) → 1 ≤ length (legs_of kind)
    → whole_stripes (whole_stripes count kind) kind ≡ whole_stripes count kind
whole_again count (Striped stripe legs) some =
    ap (λ (n : ℕ). n * length legs) (parts_times (parts_of count (length legs)) (length legs) some)
whole_again count (Mirror region moved legs) some = refl

-- so many extents, which end with a whole stripe, are a segment's
pub whole_striped : (size count most : ℕ) (kind : SegKind) → 1 ≤ length (legs_of kind) → whole_stripes count kind ≡ count
    → IsWholeStriped size most kind → IsWholeStriped size count kind
whole_striped size count most (Striped stripe legs) some whole is =
    let p : ℕ = parts_of count (length legs) in
    let e : count ≡ p * length legs + 0 = omega (arith, whole) in
    (is.0, is.1, ap (λ (n : ℕ). n % length legs) e ∙ mod-mul-add p (length legs) 0 (omega (arith, some)), is.3)
whole_striped size count most (Mirror region moved legs) some whole is = tt

-- ---- segments

-- it has a leg, and its stripes share its extents evenly
abbrev pub IsShared : ℕ → Segment → Type 0
IsShared size segment = (1 ≤ length (legs_of segment.kind)) × IsWholeStriped size segment.count segment.kind

-- no more than there are, where no more are said
pub kept_below : (size : ℕ) (segments : List Segment) (said : ℕ) → Each (IsShared size) segments
    → said ≤ sum_by (λ (s : Segment). s.count) segments → kept_of segments said ≤ sum_by (λ (s : Segment). s.count) segments
kept_below size [] said shared less = less
kept_below size (segment ∷ segments) said shared less =
    by (nat_le said segment.count) refl (kept_below size segments (said - segment.count) shared.1) where
      rest : ℕ
      rest = sum_by (λ (s : Segment). s.count) segments

      all : sum_by (λ (s : Segment). s.count) (segment ∷ segments) ≡ segment.count + rest
      all = sum_by-cons (λ (s : Segment). s.count) segment segments

      by : (b : Bool) → nat_le said segment.count ≡ b → (said - segment.count ≤ rest → kept_of segments (said - segment.count) ≤ rest)
          → cond b (whole_stripes said segment.kind) (segment.count + kept_of segments (said - segment.count))
          ≤ sum_by (λ (s : Segment). s.count) (segment ∷ segments)
      by true within later =
          let few : said ≤ segment.count = grind (arith, nat_tests, within) in
          let own : whole_stripes said segment.kind ≤ segment.count =
          whole_below size said segment.count segment.kind shared.0.0 shared.0.1 few in
          omega (arith, own, all)
      by false past later =
          let more : kept_of segments (said - segment.count) ≤ rest = later (omega (arith, less, all)) in
          omega (arith, more, all)

-- no fewer than said
pub kept_more : (size : ℕ) (segments : List Segment) (said : ℕ) → Each (IsShared size) segments → said ≤ kept_of segments said
kept_more size [] said shared = omega arith
kept_more size (segment ∷ segments) said shared =
    by (nat_le said segment.count) refl (kept_more size segments (said - segment.count) shared.1) where
      by : (b : Bool) → nat_le said segment.count ≡ b → said - segment.count ≤ kept_of segments (said - segment.count)
          → said ≤ cond b (whole_stripes said segment.kind) (segment.count + kept_of segments (said - segment.count))
      by true is later = whole_more said segment.kind shared.0.0
      by false is later = omega (arith, later)

-- they stay where they are said
pub kept_again : (size : ℕ) (segments : List Segment) (said : ℕ) → Each (IsShared size) segments
    → kept_of segments (kept_of segments said) ≡ kept_of segments said
kept_again size [] said shared = refl
kept_again size (segment ∷ segments) said shared =
    by (nat_le said segment.count) refl (kept_again size segments (said - segment.count) shared.1)
    (kept_more size segments (said - segment.count) shared.1) where
      by : (b : Bool) → nat_le said segment.count ≡ b
          → kept_of segments (kept_of segments (said - segment.count)) ≡ kept_of segments (said - segment.count)
          → said - segment.count ≤ kept_of segments (said - segment.count)
          → kept_of (segment ∷ segments) (cond b (whole_stripes said segment.kind)
          (segment.count + kept_of segments (said - segment.count)))
          ≡ cond b (whole_stripes said segment.kind) (segment.count + kept_of segments (said - segment.count))
      by true is again more =
          let n : ℕ = whole_stripes said segment.kind in
          let less : said ≤ segment.count = grind (arith, nat_tests, is) in
          let below : n ≤ segment.count = whole_below size said segment.count segment.kind shared.0.0 shared.0.1 less in
          let test : nat_le n segment.count ≡ true = grind (arith, nat_tests, below) in
          ap (λ (b : Bool). cond b (whole_stripes n segment.kind) (segment.count + kept_of segments (n - segment.count))) test
          ∙ whole_again said segment.kind shared.0.0
      by false is again more =
          let k : ℕ = kept_of segments (said - segment.count) in
          let n : ℕ = segment.count + k in
          let over : segment.count < said = grind (arith, nat_tests, is) in
          let above : segment.count < n = omega (arith, over, more) in
          let test : nat_le n segment.count ≡ false = grind (arith, nat_tests, above) in
          let back : n - segment.count ≡ k = omega arith in
          ap (λ (b : Bool). cond b (whole_stripes n segment.kind) (segment.count + kept_of segments (n - segment.count))) test
          ∙ ap (λ (x : ℕ). segment.count + kept_of segments x) back
          ∙ ap (λ (x : ℕ). segment.count + x) again
