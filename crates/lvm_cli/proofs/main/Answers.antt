use Rattle.std.proofs.Common.{◌≡◌, List, Some, length, sym, ap, subst, ◌∙◌, arith}
use Rattle.std.proofs.lemmas.List.{length-map}
use Rattle.std.specs.declared.string.String.{String}
use Rattle.std.specs.Vec.{vec_len}
use Rattle.command_table.specs.Options.{Word, words_of}
use Rattle.lvm_words.specs.Disks.{disks_named}
use Rattle.lvm_cli.proofs.OpenedDisks.{opened_disks_as}
use Rattle.lvm_cli.proofs.main.Goals as goal

pub guarded_run-ended-requires-clause-disks : goal.guarded_run-ended-requires-clause-disks
guarded_run-ended-requires-clause-disks g c κs = λ names named.
    let list = c.as_vec-names.result.now in
    let again = subst (λ (w : List (String _)). disks_named (words_of w) ≡ Some names) (sym c.deref.ensures.value) named in
    let are : names ≡ words_of list.items = c.in-Ok-named_disks.ensures names again ∙ sym c.as_vec-names.ensures in
    let bytes = ap (λ (l : List Word). length l) are in
    let long : length names ≡ length list.items = rw length-map at bytes in
    let count : vec_len list ≡ length names = omega (arith, long, list.ok.0) in
    opened_disks_as (vec_len list) (length names) _ count c.in-Ok-open_images.ensures.ok
