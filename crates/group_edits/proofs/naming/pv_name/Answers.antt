use Rattle.std.proofs.Common.{rules, ◌≡◌, None, sym, subst, ◌∙◌}
use Rattle.lvm_name.specs.Names.{any_name_refusal}
use Rattle.group_edits.proofs.FreeNames.{pv_name-named}
use Rattle.group_edits.proofs.naming.pv_name.Goals as goal

pub unreachable-requires : goal.unreachable-requires
unreachable-requires c =
    let named : any_name_refusal c.as_bytes.result.now ≡ None =
    subst (λ text. any_name_refusal text ≡ None) (sym (c.as_bytes.ensures.value ∙ c.in_ok-text.ensures.ok))
    (pv_name-named c.args.number c.ranges.number.fits)
    in
    search rules
