-- An option is a flag or has a value.
use Rattle.std.proofs.Common.{◌≡◌, refl}
use Rattle.command_table.specs.declared.kind.Kind.{Kind}
use Rattle.command_table.specs.declared.kind.Kind.TheVariants.{Flag, Number, Growth, Size, SizeGrowth, PowerSize, Policy, Disk, Group}
use Rattle.command_table.specs.declared.kind.Kind.TheVariants.{Volume, Path, Hex}
use Rattle.command_table.specs.declared.role.Role.TheVariants as role
use Rattle.command_table.specs.declared.table.OptionRow.{OptionRow}
use Rattle.command_table.specs.Words.{role_of_row}
use Rattle.lvm_words.specs.Parser.{value_count}

pub data Form (row : OptionRow) : Type 0 where
  flag : row.kind ≡ Flag → value_count row.kind ≡ 0 → role_of_row row ≡ role.Flag row.key → Form row
  takes : value_count row.kind ≡ 1 → role_of_row row ≡ role.Option row → Form row

form_at : (row : OptionRow) (kind : Kind) → row.kind ≡ kind → Form row
form_at row Flag e = flag e (rw e refl) (rw e refl)
form_at row (Number least most) e = takes (rw e refl) (rw e refl)
form_at row (Growth least most) e = takes (rw e refl) (rw e refl)
form_at row (Size unit least most) e = takes (rw e refl) (rw e refl)
form_at row (SizeGrowth unit least most) e = takes (rw e refl) (rw e refl)
form_at row (PowerSize unit least most) e = takes (rw e refl) (rw e refl)
form_at row Policy e = takes (rw e refl) (rw e refl)
form_at row Disk e = takes (rw e refl) (rw e refl)
form_at row Group e = takes (rw e refl) (rw e refl)
form_at row Volume e = takes (rw e refl) (rw e refl)
form_at row Path e = takes (rw e refl) (rw e refl)
form_at row Hex e = takes (rw e refl) (rw e refl)

pub form : (row : OptionRow) → Form row
form row = form_at row row.kind refl
