-- The rows on a logical volume that users name.
use Rattle.std.specs.Prelude.{ℕ, List, [], ◌∷◌, Option, Some}
use Rattle.std.specs.Option.{option_map_or}
use Rattle.lvm_name.specs.Names.{is_among}
use Rattle.line_answers.specs.declared.op_refusal.OpRefusal.{OpRefusal}
use Rattle.line_answers.specs.declared.op_refusal.OpRefusal.TheVariants.{Layered, Locked, NameTaken, UnknownVolume}
use Rattle.meta_model.specs.declared.group.Group.{Group}
use Rattle.meta_model.specs.declared.lv.Lv.{Lv}
use Rattle.meta_model.specs.Tables.{names_of}
use Rattle.volume_rules.specs.Moving.{leads_to_pvmove}
use Rattle.group_edits.specs.ShortenedVolume.{is_layered}
use Rattle.group_edits.specs.Visible.{visible_named}
use Rattle.group_plan.specs.Judging.{refused_if}

-- no visible volume has the name, or the rows on the one that has it: its number, and itself
abbrev pub rows_on : Group → List ℕ → (ℕ × Lv → List (Option OpRefusal)) → List (Option OpRefusal)
rows_on group name rows = option_map_or rows (visible_named group name) (Some (UnknownVolume name) ∷ [])

-- a logical volume has the name, visible or not
unfoldable pub taken_row : Group → List ℕ → Option OpRefusal
taken_row group name = refused_if (is_among (names_of group.lvs) name) (NameTaken name)

-- the volume with this number is moving (pvmove(8)): ways down have at most four volumes below it
unfoldable pub locked_row : Group → List ℕ → ℕ → Option OpRefusal
locked_row group name number = refused_if (leads_to_pvmove group 4 number) (Locked name)

-- a leg of the volume lies on another logical volume
unfoldable pub layered_row : List ℕ → Lv → Option OpRefusal
layered_row name lv = refused_if (is_layered lv) (Layered name)
