use Rattle.std.proofs.Common.{List, Option, Some, ◌∷◌, [], ◌++◌, ◌∙◌, ap}
use Rattle.table_lock.proofs.Keeps.{opens_with}
use Rattle.table_lock.proofs.calls.open.Goals as goal

pub new-requires : goal.new-requires
new-requires g c =
    opens_with g.T.Grows.origin g.T.Grows.story c.of-key.result.value c.args.value c.push_reserved.new.self.items c.of-key.ensures
    (c.push_reserved.ensures.items ∙ ap (λ (xs : List (Option g.row.T.Denot)). xs ++ Some c.args.value ∷ []) c.in-Ok.ensures.items)
