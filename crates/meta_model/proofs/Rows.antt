-- Refusals as they print, names in tables, and room for runs, tried on values.
use Rattle.std.proofs.Common.{◌≡◌, ℕ, nat_eq, true, false, List, [], ◌∷◌, Some, None, position, codes, refl}
use Rattle.std.specs.Cmp.Lexicographic.{pointwise}
use Rattle.std.specs.Fmt.{digits}
use Rattle.lvm_name.specs.Names.{is_among}
use Rattle.sector_base.specs.Shown.{shown_text}
use Rattle.meta_model.specs.declared.lv.Lv.{Lv}
use Rattle.meta_model.specs.declared.refusal.GroupRefusal.{GroupRefusal}
use Rattle.meta_model.specs.declared.refusal.GroupRefusal.TheVariants.{NoMemory, Missing, WrongKind, UnknownStatus, UnknownSegment}
use Rattle.meta_model.specs.declared.refusal.GroupRefusal.TheVariants.{Foreign, CountDiffers, UnknownName, BadName, BadId}
use Rattle.meta_model.specs.declared.segment.On.TheVariants as on
use Rattle.meta_model.specs.declared.segment.SegKind.TheVariants.{Striped, Mirror}
use Rattle.meta_model.specs.Runs.{run_room}
use Rattle.meta_model.specs.ShownGroup.{shown_group}

-- ---- refusals as they print

abbrev shown : GroupRefusal → List ℕ
shown refusal = shown_text (shown_group refusal)

no_memory_shown : shown NoMemory ≡ codes "NoMemory"
no_memory_shown = refl

missing_shown : shown (Missing (codes "seqno")) ≡ codes "Missing seqno"
missing_shown = refl

wrong_kind_shown : shown (WrongKind (codes "flags")) ≡ codes "WrongKind flags"
wrong_kind_shown = refl

-- blanks stand, and so does the last byte that can be printed
unknown_status_shown : shown (UnknownStatus (codes "A B~")) ≡ codes "UnknownStatus A B~"
unknown_status_shown = refl

unknown_segment_shown : shown (UnknownSegment (codes "raid1")) ≡ codes "UnknownSegment raid1"
unknown_segment_shown = refl

foreign_shown : shown (Foreign (codes "format")) ≡ codes "Foreign format"
foreign_shown = refl

count_differs_shown : shown (CountDiffers 1000000 1) ≡ codes "CountDiffers 1000000 1"
unfolding digits
count_differs_shown = refl

-- an escape and two bytes of a letter can't be printed
unknown_name_shown : shown (UnknownName (27 ∷ 91 ∷ 50 ∷ 74 ∷ 195 ∷ 169 ∷ [])) ≡ codes "UnknownName ?[2J??"
unknown_name_shown = refl

-- nor can the byte behind the last one that can
bad_name_shown : shown (BadName (127 ∷ [])) ≡ codes "BadName ?"
bad_name_shown = refl

-- a name without bytes leaves the space
no_name_shown : shown (BadName []) ≡ codes "BadName "
no_name_shown = refl

bad_id_shown : shown (BadId (codes "id")) ≡ codes "BadId id"
bad_id_shown = refl

-- ---- names in tables

abbrev names : List (List ℕ)
names = codes "pv1" ∷ codes "pv0" ∷ []

name_stands : is_among names (codes "pv1") ≡ true
name_stands = refl

name_is_free : is_among names (codes "pv2") ≡ false
name_is_free = refl

place_of_name : position (pointwise nat_eq (codes "pv0")) names ≡ Some 1
place_of_name = refl

-- a front of a name is another name
front_has_no_place : position (pointwise nat_eq (codes "pv")) names ≡ None
front_has_no_place = refl

-- ---- room for runs

-- a mirror with two legs, and a segment with one
abbrev volume : Lv
volume = record {
  id = codes "00000000100000000100000030000000";
  status = record { read = true; write = false; visible = true; fixed_minor = false; pvmove = false; locked = false; notsynced = true };
  created = 5;
  host = codes "h";
  segments =
      record {
        start = 0;
        count = 4;
        kind = Mirror 1024 (Some 2) (record { on = on.Pv 0; first = 4 } ∷ record { on = on.Lv 1; first = 0 } ∷ []);
      }
      ∷ record { start = 4; count = 2; kind = Striped 0 (record { on = on.Lv 1; first = 0 } ∷ []) } ∷ [];
}

-- one for each of three volumes, and for each of their three legs
room_of_three : run_room ((codes "a", volume) ∷ (codes "b", volume) ∷ (codes "c", volume) ∷ []) ≡ 12
room_of_three = refl
