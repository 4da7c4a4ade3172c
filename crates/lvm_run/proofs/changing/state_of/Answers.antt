use Rattle.std.proofs.Common.{◌≡◌, List, [], ◌∷◌, refl, ap, ◌∙◌}
use Rattle.std.specs.List.{AllZip}
use Rattle.std.specs.String.{string_bytes}
use Rattle.std.specs.declared.string.String.{String}
use Rattle.command_table.specs.Options.{Word, words_of}
use Rattle.lvm_run.proofs.changing.state_of.Goals as goal

-- texts with the same bytes, one by one
same_words : {A : Type 0} (xs ys : List (String A)) → AllZip (λ (s t : String A). string_bytes t ≡ string_bytes s) xs ys
    → words_of ys ≡ words_of xs
same_words [] [] same = refl
same_words [] (y ∷ ys) same = absurd same
same_words (x ∷ xs) [] same = absurd same
same_words (x ∷ xs) (y ∷ ys) same =
    ap (λ (w : Word). w ∷ words_of ys) same.0 ∙ ap (λ (ws : List Word). string_bytes x ∷ ws) (same_words xs ys same.1)

pub returns : goal.returns
returns c =
    let names =
    c.from_vec-names.ensures ∙ (same_words c.as_vec.result.now.items c.in_ok-clone.field-0.items c.in_ok-clone.ensures.cases.0
    ∙ c.as_vec.ensures) in (
      c.in_ok-backup.backup,
      c.in_ok-backup.ensures,
      λ i. record {
        group = c.args.found.group;
        disks = c.args.found.disks;
        names = names i;
        areas = c.args.found.areas;
        disk_of = c.args.found.disk_of;
        backup = c.in_ok-backup.backup;
      },
    )
