-- Marks after rounds over the legs tell which volumes are moving.
use Rattle.std.proofs.Common.{◌≡◌, ℕ, zero, suc, ◌+◌, ◌<◌, ◌≤◌, Bool, true, false, ◌||◌, List, [], ◌∷◌, length, Option, Some, inl, inr}
use Rattle.std.proofs.Common.{refl, sym, ap, ◌∙◌, arith, length-set}
use Rattle.std.specs.Prelude.{filter_map, option_map, replicate, slice_get, slice_set, unwrap_or}
use Rattle.std.specs.List.{cons_option, flat_map, list_any}
use Rattle.std.proofs.Math.Path.{fun_ext}
use Rattle.std.proofs.lemmas.Bool.{cases_eq, cases_lt}
use Rattle.std.proofs.lemmas.List.{get_or-replicate, get_or-set_other, get_or-set_same, length-replicate}
use Rattle.std.proofs.lemmas.List.Folds.{list_any-append}
use Rattle.std.proofs.lemmas.Option.{slice_get_past, unwrap_or-slice_get}
use Rattle.meta_model.specs.declared.group.Group.{Group}
use Rattle.meta_model.specs.declared.lv.Lv.{Lv}
use Rattle.meta_model.specs.declared.segment.Leg.{Leg}
use Rattle.meta_model.specs.declared.segment.On.{On}
use Rattle.meta_model.specs.declared.segment.On.TheVariants as on
use Rattle.meta_model.specs.declared.segment.Segment.{Segment}
use Rattle.meta_model.specs.Runs.{legs_of}
use Rattle.volume_rules.specs.Moving.{has_move, has_pvmove, leads_to_pvmove, lv_number, named_by}
use Rattle.seg_place.specs.Marks.{is_above, is_marked, legs_on_marked, lies_on_marked, segments_on_marked}

-- the marks after so many rounds, of which none are there at first
abbrev pub marked_after : Group → ℕ → ℕ → Bool
marked_after group zero lv = false
marked_after group (suc rounds) lv = has_pvmove group lv || list_any (marked_after group rounds) (named_by group lv)

or_parts : (a b : Bool) → (a || b) ≡ false → (a ≡ false) × (b ≡ false)
or_parts true b none = cc
or_parts false b none = (refl, none)

or_false : (b : Bool) → (b || false) ≡ b
or_false true = refl
or_false false = refl

any_same : (p q : ℕ → Bool) → ((x : ℕ) → p x ≡ q x) → (xs : List ℕ) → list_any p xs ≡ list_any q xs
any_same p q same xs = ap (λ (f : ℕ → Bool). list_any f xs) (fun_ext same)

none_any : (xs : List ℕ) → list_any (λ (x : ℕ). false) xs ≡ false
none_any [] = refl
none_any (x ∷ xs) = none_any xs

-- the marks after a round more are those of the definition
pub leads_after : (group : Group) (steps lv : ℕ) → marked_after group (suc steps) lv ≡ leads_to_pvmove group steps lv
leads_after group zero lv = ap (λ (b : Bool). has_pvmove group lv || b) (none_any (named_by group lv)) ∙ or_false (has_pvmove group lv)
leads_after group (suc steps) lv =
    ap (λ (b : Bool). has_pvmove group lv || b)
    (any_same (marked_after group (suc steps)) (leads_to_pvmove group steps) (leads_after group steps) (named_by group lv))

-- a round more
pub after_more : (group : Group) (marks above : List Bool) (rounds : ℕ) → ((lv : ℕ) → is_marked marks lv ≡ marked_after group rounds lv)
    → ((lv : ℕ) → is_marked above lv ≡ is_above group marks lv) → (lv : ℕ) → is_marked above lv ≡ marked_after group (rounds + 1) lv
after_more group marks above rounds old new lv =
    let more : suc rounds ≡ rounds + 1 = omega arith in
    new lv ∙ ap (λ (b : Bool). has_pvmove group lv || b) (any_same (is_marked marks) (marked_after group rounds) old (named_by group lv))
    ∙ ap (λ (n : ℕ). marked_after group n lv) more

-- no mark
pub none_marked : (n lv : ℕ) → is_marked (replicate n false) lv ≡ false
none_marked n lv = elim (cases_lt lv n) [
  | inl lt ↦ unwrap_or-slice_get (replicate n false) lv false ∙ get_or-replicate n lv false false lt
  | inr past ↦ ap (λ (o : Option Bool). unwrap_or o false) (slice_get_past (replicate n false) lv (omega (arith, length-replicate n false)))
]

-- where no move stands, no volume has PVMOVE
pub no_move : (group : Group) → has_move group ≡ false → (lv : ℕ) → has_pvmove group lv ≡ false
no_move group none = by group.lvs none
  where
    by : (rows : List (List ℕ × Lv)) → list_any (λ (row : List ℕ × Lv). row.1.status.pvmove) rows ≡ false → (lv : ℕ)
        → unwrap_or (option_map (λ (row : List ℕ × Lv). row.1.status.pvmove) (slice_get rows lv)) false ≡ false
    by [] none lv = refl
    by (row ∷ rows) none zero = (or_parts row.1.status.pvmove (list_any (λ (r : List ℕ × Lv). r.1.status.pvmove) rows) none).0
    by (row ∷ rows) none (suc lv) =
        by rows (or_parts row.1.status.pvmove (list_any (λ (r : List ℕ × Lv). r.1.status.pvmove) rows) none).1 lv

-- where no volume has PVMOVE, none is moving
pub none_leads : (group : Group) → ((lv : ℕ) → has_pvmove group lv ≡ false) → (steps lv : ℕ) → leads_to_pvmove group steps lv ≡ false
none_leads group none zero lv = none lv
none_leads group none (suc steps) lv =
    ap (λ (b : Bool). b || list_any (leads_to_pvmove group steps) (named_by group lv)) (none lv)
    ∙ any_same (leads_to_pvmove group steps) (λ (x : ℕ). false) (none_leads group none steps) (named_by group lv)
    ∙ none_any (named_by group lv)

-- a volume by its row, and one that isn't there
pub pvmove_at : (group : Group) (lv : ℕ) (volume : List ℕ × Lv) → slice_get group.lvs lv ≡ Some volume
    → has_pvmove group lv ≡ volume.1.status.pvmove
pvmove_at group lv volume is =
    ap (λ (o : Option (List ℕ × Lv)). unwrap_or (option_map (λ (row : List ℕ × Lv). row.1.status.pvmove) o) false) is

pub pvmove_past : (group : Group) (lv : ℕ) → length group.lvs ≤ lv → has_pvmove group lv ≡ false
pvmove_past group lv past =
    ap (λ (o : Option (List ℕ × Lv)). unwrap_or (option_map (λ (row : List ℕ × Lv). row.1.status.pvmove) o) false)
    (slice_get_past group.lvs lv past)

-- what the legs of a volume name
abbrev in_segments : List Segment → List ℕ
in_segments segments = flat_map (λ (segment : Segment). filter_map (λ (leg : Leg). lv_number leg.on) (legs_of segment.kind)) segments

named_at : (group : Group) (lv : ℕ) (volume : List ℕ × Lv) → slice_get group.lvs lv ≡ Some volume
    → named_by group lv ≡ in_segments volume.1.segments
named_at group lv volume is =
    ap (λ (o : Option (List ℕ × Lv)). in_segments (unwrap_or (option_map (λ (row : List ℕ × Lv). row.1.segments) o) [])) is

named_past : (group : Group) (lv : ℕ) → length group.lvs ≤ lv → named_by group lv ≡ []
named_past group lv past =
    ap (λ (o : Option (List ℕ × Lv)). in_segments (unwrap_or (option_map (λ (row : List ℕ × Lv). row.1.segments) o) []))
    (slice_get_past group.lvs lv past)

-- is marked where one of the legs lies on a marked volume
any_leg : (marks : List Bool) (legs : List Leg)
    → list_any (is_marked marks) (filter_map (λ (leg : Leg). lv_number leg.on) legs) ≡ legs_on_marked marks legs
any_leg marks [] = refl
any_leg marks (leg ∷ legs) = by_on leg.on (any_leg marks legs) where
  by_on : (on : On) → list_any (is_marked marks) (filter_map (λ (l : Leg). lv_number l.on) legs) ≡ legs_on_marked marks legs
      → list_any (is_marked marks) (cons_option (lv_number on) (filter_map (λ (l : Leg). lv_number l.on) legs))
      ≡ (lies_on_marked marks on || legs_on_marked marks legs)
  by_on (on.Pv pv) rest = rest
  by_on (on.Lv lv) rest = ap (λ (b : Bool). is_marked marks lv || b) rest

any_segment : (marks : List Bool) (segments : List Segment)
    → list_any (is_marked marks) (in_segments segments) ≡ segments_on_marked marks segments
any_segment marks [] = refl
any_segment marks (segment ∷ segments) =
    list_any-append (is_marked marks) (filter_map (λ (leg : Leg). lv_number leg.on) (legs_of segment.kind)) (in_segments segments)
    ∙ ap (λ (b : Bool). b || list_any (is_marked marks) (in_segments segments)) (any_leg marks (legs_of segment.kind))
    ∙ ap (λ (b : Bool). legs_on_marked marks (legs_of segment.kind) || b) (any_segment marks segments)

-- so is a volume above them
above_at : (group : Group) (marks : List Bool) (lv : ℕ) (volume : List ℕ × Lv) → slice_get group.lvs lv ≡ Some volume
    → is_above group marks lv ≡ (volume.1.status.pvmove || segments_on_marked marks volume.1.segments)
above_at group marks lv volume is =
    ap (λ (b : Bool). b || list_any (is_marked marks) (named_by group lv)) (pvmove_at group lv volume is)
    ∙ ap (λ (names : List ℕ). volume.1.status.pvmove || list_any (is_marked marks) names) (named_at group lv volume is)
    ∙ ap (λ (b : Bool). volume.1.status.pvmove || b) (any_segment marks volume.1.segments)

above_past : (group : Group) (marks : List Bool) (lv : ℕ) → length group.lvs ≤ lv → is_above group marks lv ≡ false
above_past group marks lv past =
    ap (λ (b : Bool). b || list_any (is_marked marks) (named_by group lv)) (pvmove_past group lv past)
    ∙ ap (λ (names : List ℕ). list_any (is_marked marks) names) (named_past group lv past)

-- the volumes below this number have got their marks, and the others none
pub record HasMarked (group : Group) (marks above : List Bool) (number : ℕ) : Type 0 where
  pub long : length above ≡ 1024
  pub told : (lv : ℕ) → lv < number → is_marked above lv ≡ is_above group marks lv
  pub none : (lv : ℕ) → number ≤ lv → is_marked above lv ≡ false

pub none_has_marked : (group : Group) (marks : List Bool) (n : ℕ) → n ≡ 1024 → HasMarked group marks (replicate n false) 0
none_has_marked group marks n is =
    record { long = length-replicate n false ∙ is; told = λ lv lt. absurd (omega arith); none = λ lv past. none_marked n lv }

-- a mark is set
set_there : (above : List Bool) (number lv : ℕ) (mark : Bool) → number < length above → lv ≡ number
    → is_marked (slice_set above number mark) lv ≡ mark
set_there above number lv mark lt same =
    ap (is_marked (slice_set above number mark)) same ∙ unwrap_or-slice_get (slice_set above number mark) number false
    ∙ get_or-set_same above number mark false lt

set_beside : (above : List Bool) (number lv : ℕ) (mark : Bool) → (lv ≡ number → ⊥)
    → is_marked (slice_set above number mark) lv ≡ is_marked above lv
set_beside above number lv mark other =
    unwrap_or-slice_get (slice_set above number mark) lv false ∙ get_or-set_other above number lv mark false other
    ∙ sym (unwrap_or-slice_get above lv false)

-- one volume more
pub has_marked_more : (group : Group) (marks above : List Bool) (number : ℕ) (volume : List ℕ × Lv) (mark : Bool)
    → HasMarked group marks above number → number < 1024 → slice_get group.lvs number ≡ Some volume
    → mark ≡ (volume.1.status.pvmove || segments_on_marked marks volume.1.segments)
    → HasMarked group marks (slice_set above number mark) (number + 1)
has_marked_more group marks above number volume mark old lt is same =
    record {
      long = length-set above number mark ∙ old.long;
      told = λ lv below. elim (cases_eq lv number) [
        | inl here ↦ set_there above number lv mark (omega (arith, old.long)) here ∙ same ∙ sym (above_at group marks number volume is)
            ∙ ap (is_above group marks) (sym here)
        | inr other ↦ set_beside above number lv mark other ∙ old.told lv (omega (arith, other))
      ];
      none = λ lv past. set_beside above number lv mark (λ here. omega arith) ∙ old.none lv (omega arith);
    }

-- all of them
pub all_has_marked : (group : Group) (marks above : List Bool) (number : ℕ) → HasMarked group marks above number → length group.lvs ≤ number
    → (lv : ℕ) → is_marked above lv ≡ is_above group marks lv
all_has_marked group marks above number has all lv = elim (cases_lt lv number) [
  | inl lt ↦ has.told lv lt
  | inr past ↦ has.none lv past ∙ sym (above_past group marks lv (omega arith))
]
