use Rattle.std.proofs.Common.{List, ℕ, sym, ap, ◌∙◌}
use Rattle.meta_model.proofs.TableLemmas.{absent}
use Rattle.meta_read.specs.Places.{place_in}
use Rattle.meta_read.proofs.Finding.{place_in-insert}
use Rattle.meta_read.proofs.places.add.Goals as goal

pub returns-in-Ok : goal.returns-in-Ok
returns-in-Ok c =
    λ (q : List ℕ). ap (λ entries. place_in entries q) c.in-Ok.ensures.entries
    ∙ place_in-insert c.args.on.now c.args.name c.args.carrier (absent _ (sym c.contains_key.ensures ∙ c.if-contains_key.false)) q
