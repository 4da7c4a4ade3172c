-- A group for which a tree stands can be printed.
use Rattle.std.proofs.Common.{◌≡◌, ℕ, ◌<◌, ◌^◌, Bool, true, false, List, [], ◌∷◌, ◌++◌, length, map, Some, None, Ok, refl, ap, subst, ◌∙◌}
use Rattle.std.proofs.Common.{arith}
use Rattle.std.specs.Prelude.{◌&&◌, not, codes, filter_map, is_none, if◌then◌else◌}
use Rattle.std.specs.List.{cons_option, AllByRecursion as Each}
use Rattle.std.proofs.lemmas.Bool.{and_parts, not-true}
use Rattle.lvm_name.specs.Names.{is_among, group_name_refusal, any_name_refusal}
use Rattle.conf_text.specs.Entries.{Conf, ConfEntry}
use Rattle.conf_text.specs.Printed.{CanPrint}
use Rattle.conf_text.specs.Items.{items}
use Rattle.meta_model.specs.Keys.{Items, Read, ◌>>=◌, each, number, words, section, id as keys_id, status as keys_status, required}
use Rattle.meta_model.specs.Keys.{optional, only_text, only_number, counted}
use Rattle.meta_model.specs.Standing as standing
use Rattle.meta_model.specs.Standing.{Names, segment_of, segments_of, sections_of, is_segment_name, lv_of, pv_of, named, group_in}
use Rattle.meta_model.specs.Standing.{only_section, group_of, HasTree}
use Rattle.meta_model.specs.declared.refusal.GroupRefusal.TheVariants.{BadName, Foreign, WrongKind}
use Rattle.meta_model.specs.declared.group.Group.{Group}
use Rattle.meta_model.specs.declared.pv.Pv.{Pv}
use Rattle.meta_model.specs.declared.lv.Lv.{Lv}
use Rattle.meta_print.proofs.Printable.{names_of, IsIdAgain, IsSegment, IsLv, IsPv, AreNames, IsPrintable}
use Rattle.meta_print.proofs.Inverting.{bound, same_Ok, not_refused, counted_as}
use Rattle.meta_print.proofs.TextParts.{AreGood, text_can, body_good, sections_good, number_read, number_or, text_or, section_read}
use Rattle.meta_print.proofs.TextParts.{section_or, id_read}
use Rattle.meta_print.proofs.FromTree.{each_from, segment_from, pv_from}

-- ---- a logical volume

bodies_by : (part : List ℕ × List ConfEntry) (test : Bool) (more : List (List ConfEntry)) → CanPrint part.1 → Each CanPrint more
    → Each CanPrint (cons_option (if test then Some part.1 else None) more)
bodies_by part true more good later = (good, later)
bodies_by part false more good later = later

bodies_good : (parts : List (List ℕ × List ConfEntry)) → Each (λ (part : List ℕ × List ConfEntry). CanPrint part.1) parts
    → Each CanPrint (filter_map (λ found. if is_segment_name found.0 then Some found.1 else None) parts)
bodies_good [] good = tt
bodies_good (part ∷ parts) good = bodies_by part (is_segment_name part.0) _ good.0 (bodies_good parts good.1)

lv_from : (group : Group) (keys : Items) (lv : Lv) → AreGood keys → lv_of (names_of group) keys ≡ Ok lv → IsLv group lv
lv_from group keys lv good h =
    bound h (λ id id_is h1.
    bound {x = keys_status standing.lv_words (codes "status") keys} h1 (λ status status_is h2.
    bound h2 (λ said said_is h3.
    bound {x = counted said (segments_of keys)} h3 (λ bodies bodies_is h4.
    bound {x = optional words [] (codes "flags") keys} h4 (λ flags flags_is h5.
    bound h5 (λ created created_is h6.
    bound h6 (λ host host_is h7.
    bound {x = each (λ body. segment_of (names_of group) (items body)) bodies} h7 (λ segments segments_is e.
    let counts : (length (segments_of keys) ≡ said) × (segments_of keys ≡ bodies) = counted_as said (segments_of keys) bodies bodies_is in
    let all : Each (IsSegment group) segments × (length segments ≡ length bodies) =
    each_from (λ body. segment_of (names_of group) (items body)) CanPrint (IsSegment group)
    (λ body can segment is. segment_from group (items body) segment (body_good body can) is) bodies segments
    (subst (Each CanPrint) counts.1 (bodies_good (sections_of keys) (sections_good keys good))) segments_is
    in
    let small : said < 2 ^ 64 = number_read (codes "segment_count") keys said good said_is in
    subst (IsLv group) (same_Ok e) (record {
      id_again = id_read (codes "id") keys id good id_is;
      created_fits = number_or 0 (codes "creation_time") keys created (omega arith) good created_is;
      host_content = text_or (codes "creation_host") keys host good host_is;
      count_fits = omega (arith, all.1, counts.0, ap length counts.1, small);
      each = all.0;
    })))))))))

-- ---- named sections

-- what a row's reading gives, step by step
named_step : {A : Type 0} (read : Items → Read A) (taken : List (List ℕ)) (part : List ℕ × List ConfEntry)
    (more : List (List ℕ × List ConfEntry)) (rows : List (List ℕ × A)) → named read taken (part ∷ more) ≡ Ok rows
    → (is_none (any_name_refusal part.0) ≡ true) × (is_among taken part.0 ≡ false) × (x : A) × (xs : List (List ℕ × A))
    × (read (items part.1) ≡ Ok x) × (named read (part.0 ∷ taken) more ≡ Ok xs) × ((part.0, x) ∷ xs ≡ rows)
named_step read taken part more rows h =
    let parts : ((is_none (any_name_refusal part.0) && not (is_among taken part.0)) ≡ true)
    × (((read (items part.1) >>= λ x. named read (part.0 ∷ taken) more >>= λ xs. Ok ((part.0, x) ∷ xs))) ≡ Ok rows) = not_refused
    (BadName part.0) h in
    let tests : (is_none (any_name_refusal part.0) ≡ true) × (not (is_among taken part.0) ≡ true) =
    and_parts (is_none (any_name_refusal part.0)) (not (is_among taken part.0)) parts.0 in
    bound parts.1 (λ x x_is h1. bound h1 (λ xs xs_is e. (tests.0, not-true (is_among taken part.0) tests.1, x, xs, x_is, xs_is, same_Ok e)))

-- the rows have these names
record HasNames {A : Type 0} (taken names : List (List ℕ)) (rows : List (List ℕ × A)) : Type 0 where
  are : AreNames taken (map (λ row. row.0) rows)
  same : names ≡ map (λ row. row.0) rows

named_names : {A : Type 0} (read : Items → Read A) (taken : List (List ℕ)) (parts : List (List ℕ × List ConfEntry))
    (rows : List (List ℕ × A)) → named read taken parts ≡ Ok rows
    → HasNames taken (map (λ part. part.0) parts) rows
named_names read taken [] rows h = subst (HasNames taken []) (same_Ok h) (record { are = tt; same = refl })
named_names read taken (part ∷ more) rows h =
    let (is_name, free, x, xs, x_is, xs_is, e) = named_step read taken part more rows h in
    let rest : HasNames (part.0 ∷ taken) (map (λ part. part.0) more) xs = named_names read (part.0 ∷ taken) more xs xs_is in
    subst (HasNames taken (map (λ part. part.0) (part ∷ more))) e
    (record { are = (is_name, free, rest.are); same = ap (λ names. part.0 ∷ names) rest.same })

named_each : {A : Type 0} (read : Items → Read A) (Q : A → Type 0) → ((keys : Items) (x : A) → AreGood keys → read keys ≡ Ok x → Q x)
    → (taken : List (List ℕ)) (parts : List (List ℕ × List ConfEntry)) (rows : List (List ℕ × A))
    → Each (λ (part : List ℕ × List ConfEntry). CanPrint part.1) parts → named read taken parts ≡ Ok rows
    → Each (λ (row : List ℕ × A). Q row.1) rows
named_each {A} read Q one taken [] rows good h = subst (Each (λ (row : List ℕ × A). Q row.1)) (same_Ok h) tt
named_each {A} read Q one taken (part ∷ more) rows good h =
    let (is_name, free, x, xs, x_is, xs_is, e) = named_step read taken part more rows h in
    subst (Each (λ (row : List ℕ × A). Q row.1)) e
    (one (items part.1) x (body_good part.1 good.0) x_is, named_each read Q one (part.0 ∷ taken) more xs good.1 xs_is)

-- ---- the volumes

-- what holds of the volumes of a group that can be printed
record ArePrintable (group : Group) : Type 0 where
  pv_names : AreNames [] (map (λ pv. pv.0) group.pvs)
  lv_names : AreNames [] (map (λ lv. lv.0) group.lvs)
  each_pv : Each (λ (pv : List ℕ × Pv). IsPv pv.1) group.pvs
  each_lv : Each (λ (lv : List ℕ × Lv). IsLv group lv.1) group.lvs

abbrev part_names : List (List ℕ × List ConfEntry) → List (List ℕ)
part_names parts = map (λ found. found.0) parts

volumes_from : (group : Group) (pvs lvs : List (List ℕ × List ConfEntry)) → Each (λ (part : List ℕ × List ConfEntry). CanPrint part.1) pvs
    → Each (λ (part : List ℕ × List ConfEntry). CanPrint part.1) lvs
    → named pv_of [] pvs ≡ Ok group.pvs → named (lv_of (record { pvs = part_names pvs; lvs = part_names lvs })) [] lvs ≡ Ok group.lvs
    → ArePrintable group
volumes_from group pvs lvs pvs_good lvs_good pvs_are lvs_are =
    let names : Names = record { pvs = part_names pvs; lvs = part_names lvs } in
    let pv_names : HasNames [] (part_names pvs) group.pvs = named_names pv_of [] pvs group.pvs pvs_are in
    let lv_names : HasNames [] (part_names lvs) group.lvs = named_names (lv_of names) [] lvs group.lvs lvs_are in
    let same : names ≡ names_of group = rw (pv_names.same, lv_names.same) refl in
    record {
      pv_names = pv_names.are;
      lv_names = lv_names.are;
      each_pv = named_each pv_of IsPv pv_from [] pvs group.pvs pvs_good pvs_are;
      each_lv =
          named_each (lv_of (names_of group)) (IsLv group) (lv_from group) [] lvs group.lvs lvs_good
          (subst (λ (n : Names). named (lv_of n) [] lvs ≡ Ok group.lvs) same lvs_are);
    }

-- ---- the group

-- the volumes of both sections
abbrev volumes_in : List (List ℕ × List ConfEntry) → List (List ℕ × List ConfEntry) → Read (List (List ℕ × Pv) × List (List ℕ × Lv))
volumes_in pvs lvs =
    named pv_of [] pvs >>= λ pvs_read. named (lv_of (record { pvs = part_names pvs; lvs = part_names lvs })) [] lvs
    >>= λ lvs_read. Ok (pvs_read, lvs_read)

volumes_are : (group : Group) (pvs lvs : List (List ℕ × List ConfEntry)) (found : List (List ℕ × Pv) × List (List ℕ × Lv))
    → Each (λ (part : List ℕ × List ConfEntry). CanPrint part.1) pvs
    → Each (λ (part : List ℕ × List ConfEntry). CanPrint part.1) lvs → volumes_in pvs lvs ≡ Ok found → found.0 ≡ group.pvs
    → found.1 ≡ group.lvs → ArePrintable group
volumes_are group pvs lvs found pvs_good lvs_good h same_pvs same_lvs =
    bound {x = named pv_of [] pvs} h (λ pvs_read pvs_is h1.
    bound {x = named (lv_of (record { pvs = part_names pvs; lvs = part_names lvs })) [] lvs} h1 (λ lvs_read lvs_is e.
    let both : (pvs_read, lvs_read) ≡ found = same_Ok e in
    let pvs_same : pvs_read ≡ group.pvs = ap (λ (u : List (List ℕ × Pv) × List (List ℕ × Lv)). u.0) both ∙ same_pvs in
    let lvs_same : lvs_read ≡ group.lvs = ap (λ (u : List (List ℕ × Pv) × List (List ℕ × Lv)). u.1) both ∙ same_lvs in
    volumes_from group pvs lvs pvs_good lvs_good (pvs_is ∙ ap (λ (l : List (List ℕ × Pv)). Ok l) pvs_same)
    (lvs_is ∙ ap (λ (l : List (List ℕ × Lv)). Ok l) lvs_same)))

group_by : (group : Group) → is_none (group_name_refusal group.name) ≡ true → IsIdAgain group.id → group.seqno < 2 ^ 64
    → group.extent_size < 2 ^ 64 → group.max_lv < 2 ^ 64 → group.max_pv < 2 ^ 64 → group.copies < 2 ^ 64
    → ArePrintable group → IsPrintable group
group_by group name id seqno extent_size max_lv max_pv copies volumes = record {
  name_is = name;
  id_again = id;
  seqno_fits = seqno;
  extent_fits = extent_size;
  max_lv_fits = max_lv;
  max_pv_fits = max_pv;
  copies_fits = copies;
  pv_names = volumes.pv_names;
  lv_names = volumes.lv_names;
  each_pv = volumes.each_pv;
  each_lv = volumes.each_lv;
}

group_from : (name : List ℕ) (keys : Items) (group : Group) → is_none (group_name_refusal name) ≡ true → AreGood keys
    → group_in name keys ≡ Ok group → IsPrintable group
group_from name keys group named_well good h =
    bound {x = keys_id (codes "id") keys} h (λ id id_is h1.
    bound {x = required number (codes "seqno") keys} h1 (λ seqno seqno_is h2.
    bound {x = required number (codes "extent_size") keys} h2 (λ extent_size extent_size_is h3.
    bound {x = required number (codes "max_lv") keys} h3 (λ max_lv max_lv_is h4.
    bound {x = required number (codes "max_pv") keys} h4 (λ max_pv max_pv_is h5.
    bound {x = keys_status (standing.vg_words ++ codes "PVMOVE" ∷ []) (codes "status") keys} h5 (λ status status_is h6.
    bound {x = only_text (codes "lvm2") (λ key. Foreign key) (codes "format") keys} h6 (λ format format_is h7.
    bound {x = only_text [] (λ key. Foreign key) (codes "system_id") keys} h7 (λ system system_is h8.
    bound {x = only_text (codes "none") (λ key. Foreign key) (codes "lock_type") keys} h8 (λ lock lock_is h9.
    bound {x = optional words [] (codes "flags") keys} h9 (λ flags flags_is h10.
    bound {x = optional number 0 (codes "metadata_copies") keys} h10 (λ copies copies_is h11.
    bound {x = required section (codes "physical_volumes") keys} h11 (λ pv_entries pv_entries_is h12.
    bound {x = optional section [] (codes "logical_volumes") keys} h12 (λ lv_entries lv_entries_is h13.
    bound {x = volumes_in (sections_of (items pv_entries)) (sections_of (items lv_entries))} h13 (λ volumes volumes_is e.
    let same : record {
      name = name;
      id = id;
      seqno = seqno;
      status = standing.vg_status status;
      extent_size = extent_size;
      max_lv = max_lv;
      max_pv = max_pv;
      copies = copies;
      pvs = volumes.0;
      lvs = volumes.1;
    } ≡ group = same_Ok e in
    group_by group
    (subst (λ (n : List ℕ). is_none (group_name_refusal n) ≡ true) (ap (λ (g : Group). g.name) same) named_well)
    (subst IsIdAgain (ap (λ (g : Group). g.id) same) (id_read (codes "id") keys id good id_is))
    (subst (λ (n : ℕ). n < 2 ^ 64) (ap (λ (g : Group). g.seqno) same) (number_read (codes "seqno") keys seqno good seqno_is))
    (subst (λ (n : ℕ). n < 2 ^ 64) (ap (λ (g : Group). g.extent_size) same)
    (number_read (codes "extent_size") keys extent_size good extent_size_is))
    (subst (λ (n : ℕ). n < 2 ^ 64) (ap (λ (g : Group). g.max_lv) same) (number_read (codes "max_lv") keys max_lv good max_lv_is))
    (subst (λ (n : ℕ). n < 2 ^ 64) (ap (λ (g : Group). g.max_pv) same) (number_read (codes "max_pv") keys max_pv good max_pv_is))
    (subst (λ (n : ℕ). n < 2 ^ 64) (ap (λ (g : Group). g.copies) same)
    (number_or 0 (codes "metadata_copies") keys copies (omega arith) good copies_is))
    (volumes_are group (sections_of (items pv_entries)) (sections_of (items lv_entries)) volumes
    (sections_good (items pv_entries) (body_good pv_entries (section_read (codes "physical_volumes") keys pv_entries good pv_entries_is)))
    (sections_good (items lv_entries) (body_good lv_entries (section_or (codes "logical_volumes") keys lv_entries good lv_entries_is)))
    volumes_is (ap (λ (g : Group). g.pvs) same) (ap (λ (g : Group). g.lvs) same))))))))))))))))

-- ---- the whole tree

one_section : (parts : List (List ℕ × List ConfEntry)) (part : List ℕ × List ConfEntry)
    → Each (λ (part : List ℕ × List ConfEntry). CanPrint part.1) parts → only_section parts ≡ Ok part
    → CanPrint part.1 × (is_none (group_name_refusal part.0) ≡ true)
one_section [] part good h = absurd cc
one_section (found ∷ second ∷ more) part good h = absurd cc
one_section (found ∷ []) part good h =
    let parts : (is_none (group_name_refusal found.0) ≡ true) × (◌≡◌ {A = Read (List ℕ × List ConfEntry)} (Ok found) (Ok part)) =
    not_refused (BadName found.0) h in
    let same : found ≡ part = same_Ok parts.1 in (
      subst (λ (p : List ℕ × List ConfEntry). CanPrint p.1) same good.0,
      subst (λ (p : List ℕ × List ConfEntry). is_none (group_name_refusal p.0) ≡ true) same parts.0,
    )

tree_from : (tree : Conf) (group : Group) → CanPrint tree → group_of tree ≡ Ok group → IsPrintable group
unfolding group_of
tree_from tree group can h =
    bound {x = only_section (sections_of (items tree))} h (λ found found_is h1.
    bound {x = only_text (codes "Text Format Volume Group") (λ key. WrongKind key) (codes "contents") (items tree)} h1
    (λ contents contents_is h2.
    bound {x = only_number 1 (λ key. WrongKind key) (codes "version") (items tree)} h2 (λ version version_is e.
    let one : CanPrint found.1 × (is_none (group_name_refusal found.0) ≡ true) =
    one_section (sections_of (items tree)) found (sections_good (items tree) (body_good tree can)) found_is in
    group_from found.0 (items found.1) group one.1 (body_good found.1 one.0) e)))

pub printable : (group : Group) → HasTree group → IsPrintable group
printable group h = tree_from h.tree group (text_can h.text h.tree h.is_text) h.stands
