-- Marks go up along the legs, a step at a time.
use Rattle.std.proofs.Common.{◌≡◌, ℕ, zero, suc, ◌+◌, ◌<◌, ◌≤◌, Bool, false, ◌||◌, List, [], ◌∷◌, ◌++◌, length, get_or, map, drop}
use Rattle.std.proofs.Common.{append_assoc, Some, inl, inr, refl, sym, ap, ◌∙◌, arith, add-one}
use Rattle.std.specs.Prelude.{filter_map, slice_get, slice_index_or}
use Rattle.std.specs.List.{flat_map, list_any, range_with_len}
use Rattle.std.proofs.Math.Path.{fun_ext}
use Rattle.std.proofs.lemmas.Bool.{cases_lt}
use Rattle.std.proofs.lemmas.List.{get_or_past}
use Rattle.std.proofs.lemmas.List.FromFn.{get_or-map-range_with_len, length-map-range_with_len}
use Rattle.std.proofs.lemmas.List.Folds.{list_any-append}
use Rattle.std.proofs.lemmas.Option.{slice_get_past}
use Rattle.meta_model.specs.declared.group.Group.{Group}
use Rattle.meta_model.specs.declared.lv.Lv.{Lv}
use Rattle.meta_model.specs.declared.segment.Leg.{Leg}
use Rattle.meta_model.specs.declared.segment.On.{On}
use Rattle.meta_model.specs.declared.segment.On.TheVariants as on
use Rattle.meta_model.specs.declared.segment.Segment.{Segment}
use Rattle.meta_model.specs.Runs.{legs_of}
use Rattle.volume_rules.specs.Moving.{has_pvmove, leads_to_pvmove, lv_number, named_by}
use Rattle.lvm_report.specs.Marks.{is_marked, leg_is_marked, names_marked, next_mark, next_marks}
use Rattle.lvm_report.specs.Volumes.{leading_down}
use Rattle.lvm_report.proofs.Rows.{next_row, range_at}

-- no way leads down from what is no volume
past : (group : Group) (steps lv : ℕ) → length group.lvs ≤ lv → leads_to_pvmove group steps lv ≡ false
past group zero lv beyond = rw (slice_get_past group.lvs lv beyond) refl
past group (suc steps) lv beyond = rw (slice_get_past group.lvs lv beyond) refl

-- a mark says whether one does
mark_is : (group : Group) (marked : List Bool) (steps lv : ℕ) → marked ≡ leading_down group steps
    → slice_index_or marked lv false ≡ leads_to_pvmove group steps lv
mark_is group marked steps lv is =
    ap (λ (marks : List Bool). slice_index_or marks lv false) is
    ∙ elim (cases_lt lv (length group.lvs)) [
      | inl within ↦ get_or-map-range_with_len (leads_to_pvmove group steps) 0 (length group.lvs) lv lv false within (omega arith)
      | inr beyond ↦ get_or_past (leading_down group steps) lv false
          (omega (arith, length-map-range_with_len (leads_to_pvmove group steps) 0 (length group.lvs)))
          ∙ sym (past group steps lv (omega arith))
    ]

-- the marks of all volumes, at each number
pub marks_count : (group : Group) (marks : List Bool) (steps : ℕ) → marks ≡ leading_down group steps → length marks ≡ length group.lvs
marks_count group marks steps is =
    ap (λ (some : List Bool). length some) is ∙ length-map-range_with_len (leads_to_pvmove group steps) 0 (length group.lvs)

pub mark_at : (group : Group) (marks : List Bool) (steps number : ℕ) (other : Bool) → marks ≡ leading_down group steps
    → number < length group.lvs → get_or marks number other ≡ leads_to_pvmove group steps number
mark_at group marks steps number other is within =
    ap (λ (some : List Bool). get_or some number other) is
    ∙ get_or-map-range_with_len (leads_to_pvmove group steps) 0 (length group.lvs) number number other within (omega arith)

-- one step more
pub more_steps : (group : Group) (marked : List Bool) (steps : ℕ) → marked ≡ leading_down group steps
    → next_marks group marked ≡ leading_down group (steps + 1)
more_steps group marked steps is =
    rw add-one
    (ap (λ (test : ℕ → Bool). map (λ number. has_pvmove group number || list_any test (named_by group number))
    (range_with_len 0 (length group.lvs)))
    (fun_ext (λ lv. mark_is group marked steps lv is)))

-- ---- the legs of a volume

abbrev of_segment : Segment → List ℕ
of_segment segment = filter_map (λ (leg : Leg). lv_number leg.on) (legs_of segment.kind)

leg_named : (marked : List Bool) (o : On) (first : ℕ) (legs : List Leg)
    → list_any (λ lv. slice_index_or marked lv false)
    (filter_map (λ (leg : Leg). lv_number leg.on) (record { on = o; first = first } ∷ legs))
    ≡ (is_marked marked o || list_any (λ lv. slice_index_or marked lv false) (filter_map (λ (leg : Leg). lv_number leg.on) legs))
leg_named marked (on.Pv pv) first legs = refl
leg_named marked (on.Lv lv) first legs = refl

legs_named : (marked : List Bool) (legs : List Leg)
    → list_any (λ lv. slice_index_or marked lv false) (filter_map (λ (leg : Leg). lv_number leg.on) legs)
    ≡ list_any (leg_is_marked marked) legs
legs_named marked [] = refl
legs_named marked (leg ∷ legs) =
    leg_named marked leg.on leg.first legs ∙ ap (λ rest. is_marked marked leg.on || rest) (legs_named marked legs)

segments_named : (marked : List Bool) (segments : List Segment)
    → list_any (λ lv. slice_index_or marked lv false) (flat_map of_segment segments) ≡ list_any (names_marked marked) segments
segments_named marked [] = refl
segments_named marked (segment ∷ segments) =
    list_any-append (λ lv. slice_index_or marked lv false) (of_segment segment) (flat_map of_segment segments)
    ∙ ap (λ here. here || list_any (λ lv. slice_index_or marked lv false) (flat_map of_segment segments))
    (legs_named marked (legs_of segment.kind))
    ∙ ap (λ rest. names_marked marked segment || rest) (segments_named marked segments)

-- the next mark of a volume by its row
pub mark_of_row : (group : Group) (marked : List Bool) (number : ℕ) (row : List ℕ × Lv) → slice_get group.lvs number ≡ Some row
    → next_mark group marked number ≡ (row.1.status.pvmove || list_any (names_marked marked) row.1.segments)
mark_of_row group marked number row here = rw here (ap (λ below. row.1.status.pvmove || below) (segments_named marked row.1.segments))

pub pvmove_of_row : (group : Group) (number : ℕ) (row : List ℕ × Lv) → slice_get group.lvs number ≡ Some row
    → has_pvmove group number ≡ row.1.status.pvmove
pvmove_of_row group number row here = rw here refl

-- one mark more
pub one_mark : (f : ℕ → Bool) (total n : ℕ) (value : Bool) (before after whole : List Bool) → n < total → value ≡ f n
    → after ≡ before ++ value ∷ [] → before ++ map f (drop n (range_with_len 0 total)) ≡ whole
    → after ++ map f (drop (n + 1) (range_with_len 0 total)) ≡ whole
one_mark f total n value before after whole within is pushed so_far =
    let rest : List Bool = map f (drop (n + 1) (range_with_len 0 total)) in
    ap (λ (l : List Bool). l ++ rest) pushed
    ∙ append_assoc before (value ∷ []) rest
    ∙ ap (λ (mark : Bool). before ++ mark ∷ rest) is
    ∙ ap (λ (l : List ℕ). before ++ map f l) (sym (next_row (range_with_len 0 total) n n (range_at total n within)))
    ∙ so_far
