-- Disks without a header have no group.
use Rattle.std.proofs.Common.{refl, ◌∙◌}
use Rattle.group_tests.proofs.BareDisks.{bare_shape}
use Rattle.group_tests.proofs.finds.without_group.Goals as goal

pub returns : goal.returns
returns c =
    bare_shape _ c.args.disks.items c.from_vec-2.ensures c.requires.some c.requires.few c.requires.each c.requires.bare c.requires.below
    refl (c.from_vec-3.ensures ∙ c.new-2.ensures.items)
    (c.from_vec-4.ensures ∙ c.new-3.ensures.items) c.new-4.ensures c.new-5.ensures
