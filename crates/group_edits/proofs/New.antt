-- A group with one more volume on free extents keeps all rules, and a tree stands for it.
use Rattle.std.proofs.Common.{◌≡◌, ◌≢◌, ◌<◌, ℕ, ◌^◌, false, List, [], ◌∷◌, ◌++◌, None, refl, sym, ap, subst, ◌∙◌, arith}
use Rattle.std.specs.Prelude.{codes}
use Rattle.std.proofs.lemmas.List.{map-append}
use Rattle.conf_text.specs.Bytes.{kind}
use Rattle.conf_text.specs.Grammar.{IsContent}
use Rattle.lvm_id.specs.LvmId.{IsId}
use Rattle.lvm_name.specs.Names.{is_among, volume_name_refusal}
use Rattle.meta_model.specs.Standing.{HasTree}
use Rattle.meta_model.specs.Tables.{names_of}
use Rattle.meta_model.specs.declared.group.Group.{Group}
use Rattle.meta_model.specs.declared.lv.Lv.{Lv}
use Rattle.meta_model.specs.declared.segment.SegKind.{SegKind}
use Rattle.meta_print.proofs.GroupFrom.{printable}
use Rattle.meta_print.proofs.Printable.{AreNames, IsLv, IsPrintable}
use Rattle.meta_print.proofs.ReadAgain.{has_tree}
use Rattle.extent_alloc.specs.declared.part.Part.{Part}
use Rattle.volume_rules.specs.Rules.{IsAccepted}
use Rattle.volume_rules.specs.declared.rule.Rule.TheVariants.{Numbers}
use Rattle.group_edits.proofs.EditedLegs.{legs_allowed}
use Rattle.group_edits.proofs.EditedPrintable.{rows_print}
use Rattle.group_edits.proofs.Edits.{AnySegments}
use Rattle.group_edits.proofs.GivenRules.{segments_count}
use Rattle.group_edits.proofs.GrownPrintable.{version_printable}
use Rattle.group_edits.proofs.GrownRules.{grown_volumes}
use Rattle.list_laws.proofs.Inserted.{each_pushed}
use Rattle.group_edits.proofs.LongerRules.{below_sectors}
use Rattle.group_edits.proofs.MadePrintable.{parts_print}
use Rattle.group_edits.proofs.NewRules.{ends, is_grown, new_accepted}
use Rattle.group_edits.proofs.PrintedIds.{id_again}
use Rattle.group_edits.proofs.PrintedNames.{lv_names, names_pushed}
use Rattle.group_edits.proofs.Renamed.{given_named}
use Rattle.group_edits.proofs.Whole.{IsWhole, seqno_below}
use Rattle.group_edits.specs.GivenSegments.{extents_in, segments_of}
use Rattle.group_edits.specs.NewVolume.{MayHave, new_lv, with_volume}
use Rattle.group_edits.specs.NextVersion.{next_version}

abbrev Row : Type 0
Row = List ℕ × Lv

host_content : IsContent (codes "localhost")
unfolding kind
host_content = refl

module _ (group : Group) (name id : List ℕ) (made : SegKind) (given : List Part) (now : ℕ) (may : MayHave group id made given now)
    (accepted : IsAccepted group) where
  abbrev row : Row
  row = (name, new_lv id made given now)

  abbrev next : Group
  next = with_volume row group

  printable_new : is_among (names_of group.lvs) name ≡ false → volume_name_refusal name ≡ None → IsId id → group.seqno < 4294967295
      → IsPrintable group → IsPrintable next
  printable_new free valid is_id below can =
      version_printable group (group.lvs ++ row ∷ []) below can names
      (each_pushed (λ (r : Row). IsLv next r.1) group.lvs row
      (rows_print group next AnySegments (grown_volumes group (group.lvs ++ row ∷ []) (is_grown group name id made given now may accepted))
      (legs_allowed group accepted) can.pv_names names (λ own none. none) can.each_lv) is_new) where
        names : AreNames [] (lv_names next)
        names =
            subst (AreNames []) (sym (map-append (λ (lv : Row). lv.0) group.lvs (row ∷ [])))
            (names_pushed [] (lv_names group) name (given_named name valid) refl free can.lv_names)

        is_new : IsLv next (new_lv id made given now)
        is_new = record {
          id_again = id_again id is_id;
          created_fits = (let small = may.created in omega (arith, small));
          host_content = host_content;
          count_fits = (let few = may.segments in let same = segments_count made 0 given in omega (arith, few, same));
          each =
              parts_print made group next may.count given may.legs may.laid (accepted Numbers).pvs refl can.pv_names 0
              (ends group name id made given now may accepted);
        }

  pub new_whole : is_among (names_of group.lvs) name ≡ false → volume_name_refusal name ≡ None → IsId id → group.seqno ≢ 4294967295
      → HasTree group → IsWhole next
  new_whole free valid is_id other tree =
      let below : group.seqno < 4294967295 = seqno_below group accepted other in
      record {
        accepted = new_accepted group name id made given now may accepted below;
        tree = has_tree next (printable_new free valid is_id below (printable group tree));
      }

-- the extents of the new volume fit
pub new_fits : (group : Group) (id : List ℕ) (made : SegKind) (given parts : List Part) (now : ℕ) → parts ≡ given
    → MayHave group id made given now → IsAccepted group → extents_in (segments_of made 0 parts) < 2 ^ 64
new_fits group id made given parts now slice may accepted =
    subst (λ (ps : List Part). extents_in (segments_of made 0 ps) < 2 ^ 64) (sym slice)
    (let few = below_sectors group accepted (extents_in (segments_of made 0 given)) may.sectors in omega (arith, few))

-- ---- as it is made

module _ (group found : Group) (name id : List ℕ) (made : SegKind) (given parts : List Part) (now : ℕ) (same : found ≡ group)
    (slice : parts ≡ given) where
  pub fits_made : MayHave group id made given now → IsAccepted found → extents_in (segments_of made 0 parts) < 2 ^ 64
  fits_made may accepted = new_fits group id made given parts now slice may (subst IsAccepted same accepted)

  pub new_made : (before : Group) (lv : Lv) (own : List ℕ) (lvs : List Row) → before ≡ next_version found → lv ≡ new_lv id made parts now
      → own ≡ name → lvs ≡ before.lvs ++ (own, lv) ∷ []
      → record before { lvs = lvs } ≡ with_volume (name, new_lv id made given now) group
  new_made before lv own lvs is lv_is own_is pushed =
      ap (λ (rows : List Row). record before { lvs = rows })
      (pushed ∙ ap (λ (l : Lv). before.lvs ++ (own, l) ∷ []) (lv_is ∙ ap (λ (ps : List Part). new_lv id made ps now) slice)
      ∙ ap (λ (n : List ℕ). before.lvs ++ (n, new_lv id made given now) ∷ []) own_is)
      ∙ ap (λ (g : Group). record g { lvs = g.lvs ++ (name, new_lv id made given now) ∷ [] }) is
      ∙ ap (with_volume (name, new_lv id made given now)) same

  pub made_whole : (later : Group) → later ≡ with_volume (name, new_lv id made given now) group → is_among (names_of group.lvs) name ≡ false
      → volume_name_refusal name ≡ None → IsId id → MayHave group id made given now → group.seqno ≢ 4294967295
      → IsAccepted found → HasTree found → IsWhole later
  made_whole later is free valid is_id may other accepted tree =
      subst IsWhole (sym is) (new_whole group name id made given now may (subst IsAccepted same accepted) free valid is_id other
      (subst HasTree same tree))
