-- What is printed of a logical volume is read again.
use Rattle.std.proofs.Common.{◌≡◌, ℕ, ◌+◌, ◌<◌, ◌≤◌, ◌^◌, true, List, [], ◌∷◌, length, map, Ok, refl, ap, ◌∙◌, arith}
use Rattle.std.specs.Prelude.{codes}
use Rattle.std.specs.List.{AllByRecursion as Each}
use Rattle.std.proofs.lemmas.List.{length-map}
use Rattle.lvm_id.specs.LvmId.{hyphen_form}
use Rattle.conf_text.specs.Entries.{ConfEntry}
use Rattle.conf_text.specs.Items.{Body, items}
use Rattle.meta_model.specs.Keys.{Items, each, counted}
use Rattle.meta_model.specs.PassedOver.{path_in, in_segment, in_lv}
use Rattle.meta_model.specs.Standing.{is_segment_name, segment_of, segments_of, lv_of}
use Rattle.meta_model.specs.declared.group.Group.{Group}
use Rattle.meta_model.specs.declared.lv.Lv.{Lv}
use Rattle.meta_model.specs.declared.segment.Segment.{Segment}
use Rattle.meta_print.specs.Layout.{text, words, number, section, lv_words, segments_entries}
use Rattle.meta_print.proofs.Sections.{IsWhole, whole_none, whole_assign, whole_append, whole_section, section_item}
use Rattle.meta_print.proofs.Printable.{names_of, IsSegment, IsLv}
use Rattle.meta_print.proofs.Numbered.{numbered, numbered_names}
use Rattle.meta_print.proofs.WordsAgain.{texts_again, lv_known, lv_again}
use Rattle.meta_print.proofs.SegmentAgain.{segment_body, segment_again, segment_known, segment_whole, counted_same}

-- what stands in the section
abbrev pub lv_body : Group → Lv → List ConfEntry
lv_body group lv =
    text (codes "id") (hyphen_form lv.id)
    ∷ words (codes "status") (lv_words lv.status)
    ∷ words (codes "flags") []
    ∷ number (codes "creation_time") lv.created
    ∷ text (codes "creation_host") lv.host
    ∷ number (codes "segment_count") (length lv.segments)
    ∷ segments_entries group 1 lv.segments

-- ---- the segments' sections

abbrev pub segment_items : Group → ℕ → List Segment → Items
segment_items group at [] = []
segment_items group at (segment ∷ segments) = (numbered at, Body (segment_body group segment)) ∷ segment_items group (at + 1) segments

segments_whole : (group : Group) (at : ℕ) (segments : List Segment) → IsWhole (segments_entries group at segments)
segments_whole group at [] = whole_none
segments_whole group at (segment ∷ segments) =
    whole_append (section (numbered at) (segment_body group segment)) (segments_entries group (at + 1) segments)
    (whole_section (numbered at) (segment_body group segment) (segment_whole group segment)) (segments_whole group (at + 1) segments)

segments_items : (group : Group) (at : ℕ) (segments : List Segment)
    → items (segments_entries group at segments) ≡ segment_items group at segments
segments_items group at [] = refl
segments_items group at (segment ∷ segments) =
    section_item (numbered at) (segment_body group segment) (segments_entries group (at + 1) segments) (segment_whole group segment)
    ∙ ap (λ found. (numbered at, Body (segment_body group segment)) ∷ found) (segments_items group (at + 1) segments)

one_segment : (name : List ℕ) (body : List ConfEntry) (more : Items) → is_segment_name name ≡ true
    → segments_of ((name, Body body) ∷ more) ≡ body ∷ segments_of more
one_segment name body more named = rw named refl

bodies_again : (group : Group) (at : ℕ) (segments : List Segment) → 0 < at → at + length segments ≤ 2 ^ 64
    → segments_of (segment_items group at segments) ≡ map (segment_body group) segments
bodies_again group at [] some fits = refl
bodies_again group at (segment ∷ segments) some fits =
    one_segment (numbered at) (segment_body group segment) (segment_items group (at + 1) segments)
    (numbered_names at some (omega (arith, fits)))
    ∙ ap (λ bodies. segment_body group segment ∷ bodies) (bodies_again group (at + 1) segments (omega arith) (omega (arith, fits)))

segments_again : (group : Group) (segments : List Segment) → Each (IsSegment group) segments
    → each (λ body. segment_of (names_of group) (items body)) (map (segment_body group) segments) ≡ Ok segments
segments_again group [] h = refl
segments_again group (segment ∷ segments) h = rw (segment_again group segment h.0, segments_again group segments h.1) refl

-- ---- the volume

pub lv_read_again : (group : Group) (lv : Lv) → IsLv group lv → lv_of (names_of group) (items (lv_body group lv)) ≡ Ok lv
lv_read_again group lv h =
    let bodies : segments_of (items (lv_body group lv)) ≡ map (segment_body group) lv.segments =
    ap segments_of (segments_items group 1 lv.segments) ∙ bodies_again group 1 lv.segments (omega arith) (omega (arith, h.count_fits))
    in
    let counts : counted (length lv.segments) (segments_of (items (lv_body group lv))) ≡ Ok (map (segment_body group) lv.segments) =
    ap (counted (length lv.segments)) bodies
    ∙ counted_same (length lv.segments) (map (segment_body group) lv.segments) (length-map lv.segments (segment_body group))
    in
    rw (
      h.id_again.again,
      texts_again (lv_words lv.status),
      (lv_known lv.status).none,
      counts,
      segments_again group lv.segments h.each,
      lv_again lv.status,
    ) refl

-- ---- its keys are known

one_known : (path name : List ℕ) (body : List ConfEntry) (more : Items) → is_segment_name name ≡ true
    → in_segment (path_in path name) (items body) ≡ [] → in_lv path ((name, Body body) ∷ more) ≡ in_lv path more
one_known path name body more named known = rw (named, known) refl

segments_known : (group : Group) (path : List ℕ) (at : ℕ) (segments : List Segment) → 0 < at → at + length segments ≤ 2 ^ 64
    → in_lv path (segment_items group at segments) ≡ []
segments_known group path at [] some fits = refl
segments_known group path at (segment ∷ segments) some fits =
    one_known path (numbered at) (segment_body group segment) (segment_items group (at + 1) segments)
    (numbered_names at some (omega (arith, fits))) (segment_known group (path_in path (numbered at)) segment)
    ∙ segments_known group path (at + 1) segments (omega arith) (omega (arith, fits))

pub lv_keys_known : (group : Group) (path : List ℕ) (lv : Lv) → length lv.segments < 2 ^ 64 → in_lv path (items (lv_body group lv)) ≡ []
lv_keys_known group path lv fits =
    ap (in_lv path) (segments_items group 1 lv.segments) ∙ segments_known group path 1 lv.segments (omega arith) (omega (arith, fits))

pub lv_whole : (group : Group) (lv : Lv) → IsWhole (lv_body group lv)
lv_whole group lv =
    whole_assign _ _ _ (whole_assign _ _ _ (whole_assign _ _ _
    (whole_assign _ _ _ (whole_assign _ _ _ (whole_assign _ _ _ (segments_whole group 1 lv.segments))))))
