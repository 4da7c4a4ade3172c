-- The name is tested, and the section goes with it.
use Rattle.std.proofs.Common.{List, ℕ, Ok, Err, is_none, if◌then◌else◌, subst, sym, ap, ◌∙◌}
use Rattle.std.proofs.lemmas.Result.{err_from_is_err_and}
use Rattle.lvm_name.specs.Names.{group_name_refusal}
use Rattle.conf_text.specs.Entries.{ConfEntry}
use Rattle.meta_model.specs.Keys.{Read, ◌>>=◌}
use Rattle.meta_model.specs.declared.refusal.GroupRefusal.TheVariants.{BadName}
use Rattle.meta_read.specs.Reading.{GivesBy, as_named}
use Rattle.meta_read.proofs.Steps.{refused_first, paired, tested_pair}
use Rattle.meta_read.proofs.top.with_group_name.Goals as goal

pub returns-in_err-name : goal.returns-in_err-name
returns-in_err-name c =
    let given = err_from_is_err_and c.from_residual.result c.from_residual.ensures.1 in
    let name : List ℕ = c.args.found.now.0.now in
    let tested : Read (List ℕ) = if is_none (group_name_refusal name) then Ok name else Err (BadName name) in
    let body : List ConfEntry = c.args.found.now.1 in
    rw (given.1, given.2) (subst (λ (wanted : Read (List ℕ × List ConfEntry)). GivesBy as_named wanted (Err c.in_err-name.field-0.0))
    (tested_pair (is_none (group_name_refusal name)) name body (BadName name))
    (refused_first as_named (λ x. x) tested (paired body) c.in_err-name.field-0.0 c.in_err-name.ensures))

pub returns : goal.returns
returns c =
    let name : List ℕ = c.args.found.now.0.now in
    let body : List ConfEntry = c.args.found.now.1 in
    sym (tested_pair (is_none (group_name_refusal name)) name body (BadName name))
    ∙ ap (λ (named : Read (List ℕ)). named >>= paired body) c.in_ok-name.ensures
