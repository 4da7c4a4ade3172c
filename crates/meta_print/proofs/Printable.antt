-- What a group is for which a tree stands: all of it can be printed, and is found again.
use Rattle.std.proofs.Common.{◌≡◌, ℕ, ◌<◌, ◌^◌, true, false, List, [], ◌∷◌, length, map, Some}
use Rattle.std.specs.Prelude.{is_none}
use Rattle.std.specs.List.{AllByRecursion as Each}
use Rattle.lvm_id.specs.LvmId.{hyphen_form}
use Rattle.lvm_name.specs.Names.{is_among, group_name_refusal, any_name_refusal}
use Rattle.conf_text.specs.Grammar.{IsContent}
use Rattle.meta_model.specs.Keys.{id_printed}
use Rattle.meta_model.specs.Standing.{Names, on_named}
use Rattle.meta_model.specs.declared.group.Group.{Group}
use Rattle.meta_model.specs.declared.pv.Pv.{Pv}
use Rattle.meta_model.specs.declared.lv.Lv.{Lv}
use Rattle.meta_model.specs.declared.segment.Leg.{Leg}
use Rattle.meta_model.specs.declared.segment.SegKind.{SegKind}
use Rattle.meta_model.specs.declared.segment.SegKind.TheVariants.{Striped, Mirror}
use Rattle.meta_model.specs.declared.segment.Segment.{Segment}
use Rattle.std.specs.Prelude.{Option, None}
use Rattle.meta_print.specs.Layout.{name_of}

-- the names that a group's tree has
abbrev pub names_of : Group → Names
names_of group = record { pvs = map (λ pv. pv.0) group.pvs; lvs = map (λ lv. lv.0) group.lvs }

-- the id prints with its hyphens, and is read from that again
pub record IsIdAgain (id : List ℕ) : Type 0 where
  pub again : id_printed (hyphen_form id) ≡ Some id
  pub content : IsContent (hyphen_form id)

-- what the leg lies on has a name, and the name is that of what the leg lies on
pub record IsLeg (group : Group) (leg : Leg) : Type 0 where
  pub found : on_named (names_of group) (name_of group leg.on) ≡ Some leg.on
  pub content : IsContent (name_of group leg.on)
  pub first_fits : leg.first < 2 ^ 64

abbrev pub FitsIfThere : Option ℕ → Type 0
FitsIfThere None = Unit {0}
FitsIfThere (Some n) = n < 2 ^ 64

pub record IsLegs (group : Group) (legs : List Leg) : Type 0 where
  pub count_fits : length legs < 2 ^ 64
  pub each : Each (IsLeg group) legs

abbrev pub IsKind : Group → SegKind → Type 0
IsKind group (Striped stripe legs) = (stripe < 2 ^ 64) × IsLegs group legs
IsKind group (Mirror region moved legs) = (region < 2 ^ 64) × FitsIfThere moved × IsLegs group legs

pub record IsSegment (group : Group) (segment : Segment) : Type 0 where
  pub start_fits : segment.start < 2 ^ 64
  pub count_fits : segment.count < 2 ^ 64
  pub kind_is : IsKind group segment.kind

pub record IsLv (group : Group) (lv : Lv) : Type 0 where
  pub id_again : IsIdAgain lv.id
  pub created_fits : lv.created < 2 ^ 64
  pub host_content : IsContent lv.host
  pub count_fits : length lv.segments < 2 ^ 64
  pub each : Each (IsSegment group) lv.segments

pub record IsPv (pv : Pv) : Type 0 where
  pub id_again : IsIdAgain pv.id
  pub device_content : IsContent pv.device
  pub size_fits : pv.dev_size < 2 ^ 64
  pub start_fits : pv.pe_start < 2 ^ 64
  pub count_fits : pv.pe_count < 2 ^ 64

-- each name is one of a volume, stands once, and not among these
abbrev pub AreNames : List (List ℕ) → List (List ℕ) → Type 0
AreNames taken [] = Unit {0}
AreNames taken (name ∷ names) = (is_none (any_name_refusal name) ≡ true) × (is_among taken name ≡ false) × AreNames (name ∷ taken) names

pub record IsPrintable (group : Group) : Type 0 where
  pub name_is : is_none (group_name_refusal group.name) ≡ true
  pub id_again : IsIdAgain group.id
  pub seqno_fits : group.seqno < 2 ^ 64
  pub extent_fits : group.extent_size < 2 ^ 64
  pub max_lv_fits : group.max_lv < 2 ^ 64
  pub max_pv_fits : group.max_pv < 2 ^ 64
  pub copies_fits : group.copies < 2 ^ 64
  pub pv_names : AreNames [] (map (λ pv. pv.0) group.pvs)
  pub lv_names : AreNames [] (map (λ lv. lv.0) group.lvs)
  pub each_pv : Each (λ (pv : List ℕ × Pv). IsPv pv.1) group.pvs
  pub each_lv : Each (λ (lv : List ℕ × Lv). IsLv group lv.1) group.lvs
