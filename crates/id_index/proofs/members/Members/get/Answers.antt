use Rattle.std.proofs.Common.{◌≡◌, ℕ, List, Option, sym, ap, ◌∙◌}
use Rattle.std.specs.Prelude.{option_map}
use Rattle.std.specs.FinMap as map
use Rattle.std.specs.List.{position_from}
use Rattle.meta_model.specs.declared.pv.Pv.{Pv}
use Rattle.id_index.specs.Ids.{IdNumbers, has_id, pv_with, pvs_by_id}
use Rattle.id_index.proofs.Found.{found_at, found_none, pv_number}
use Rattle.id_index.proofs.members.Members.get.Goals as goal

-- the number that was got is that of the first with the id
placed : (numbers : IdNumbers) (pvs : List (List ℕ × Pv)) (id : List ℕ) (got : Option ℕ) → numbers ≡ pvs_by_id 0 pvs
    → got ≡ map.get numbers id → position_from (has_id id) 0 pvs ≡ got
placed numbers pvs id got indexed is = sym (pv_number id 0 pvs) ∙ ap (λ m. map.get m id) (sym indexed) ∙ sym is

pub get-requires-in-Some : goal.get-requires-in-Some
get-requires-in-Some c =
    let id = c.args.id.now in
    let pvs = c.self.inside.group.now.pvs in
    (found_at (has_id id) pvs c.in-Some.number
    (placed c.self.inside.numbers pvs id c.get.result c.self.invariant.1 c.get.ensures ∙ c.in-Some.is)).0

pub returns-in-Some : goal.returns-in-Some
returns-in-Some c =
    let id = c.args.id.now in
    let pvs = c.self.inside.group.now.pvs in
    let found =
    (found_at (has_id id) pvs c.in-Some.number
    (placed c.self.inside.numbers pvs id c.get.result c.self.invariant.1 c.get.ensures ∙ c.in-Some.is)).1 in
    ap (λ o. option_map (λ pv. pv.1) o) (sym (found ∙ c.get-in-Some.ensures)) ∙ ap (λ g. pv_with g.pvs id) c.self.view_is

pub returns-in-None : goal.returns-in-None
returns-in-None c =
    let id = c.args.id.now in
    let pvs = c.self.inside.group.now.pvs in
    let none =
    found_none (has_id id) pvs (placed c.self.inside.numbers pvs id c.get.result c.self.invariant.1 c.get.ensures ∙ c.in-None.is) in
    ap (λ o. option_map (λ pv. pv.1) o) (sym none) ∙ ap (λ g. pv_with g.pvs id) c.self.view_is
