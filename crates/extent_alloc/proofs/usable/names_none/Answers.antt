use Rattle.std.proofs.Common.{◌≡◌, true, false, sym, ◌∙◌, ⊎_elim}
use Rattle.std.proofs.lemmas.Bool.{cases_Bool, false≢true}
use Rattle.extent_alloc.proofs.Walks.{empty_is, not_empty}
use Rattle.extent_alloc.proofs.usable.names_none.Goals as goal

pub returns : goal.returns
returns c =
    ⊎_elim
    (λ (is : c.is_empty.result ≡ true). is ∙ sym (empty_is c.args.want.now.on (c.is_empty.ensures.0 is)))
    (λ (is : c.is_empty.result ≡ false). is ∙ sym (not_empty c.args.want.now.on (λ same. false≢true (sym is ∙ c.is_empty.ensures.1 same))))
    (cases_Bool c.is_empty.result)
