use Rattle.std.proofs.Common.{◌≡◌, ℕ, List, Some, length, sym, subst}
use Rattle.std.specs.declared.string.String.{String}
use Rattle.command_table.specs.Options.{words_of}
use Rattle.lvm_words.specs.Disks.{disks_named}
use Rattle.dev_shelf.specs.MemShelf.{state_of_shelf}
use Rattle.lvm_run.specs.Disks.{AreDisks}
use Rattle.lvm_rows.proofs.NewDisks.{new_disks}
use Rattle.lvm_rows.proofs.run.shelf_for.Goals as goal

pub returns : goal.returns
returns c = λ names named.
    let again = subst (λ (list : List (String _)). disks_named (words_of list) ≡ Some names) (sym c.deref.ensures.value) named in
    let are = c.in_ok-are_named.ensures (cc) names again in
    let made = subst (AreDisks (length c.args.images)) (sym c.in_ok-new.ensures.state) (new_disks c.args.images are.1) in
    subst (λ (n : ℕ). AreDisks n (state_of_shelf c.in_ok-new.field-0)) (sym are.0) made
