-- A plan holds on in a world that has grown.
use Rattle.std.proofs.Common.{◌≡◌, ℕ, List, sym, ap, subst}
use Rattle.disk_model.specs.State.{State}
use Rattle.lvm_script.specs.declared.line.Line.{Line}
use Rattle.world_acts.specs.declared.state.Core.{Core}
use Rattle.world_acts.specs.declared.volumes.Volumes.{Volumes}
use Rattle.world_acts.specs.Acts.{IsGrown, World}
use Rattle.world_acts.specs.Orderly.{IsOrderly}
use Rattle.line_plans.specs.declared.preparing.Plan.{Plan}
use Rattle.line_plans.specs.Plans.{HasRoomFor, IsPlanFor, IsPlanned, MayBeBegun}

pub prepared : (w v : World) (line : Line) (plan : Plan) → IsGrown w v → IsOrderly w → IsPlanFor w.core line plan → HasRoomFor v plan
    → MayBeBegun v line plan
prepared w v line plan g o planned room =
    let volumes : v.core.volumes ≡ w.core.volumes = ap (λ (c : Core). c.volumes) g.core in
    let sizes : v.shelf.sizes ≡ w.shelf.sizes = ap (λ (s : State). s.sizes) g.shelf in
    record {
      planned =
          subst (λ (s : List ℕ). IsPlanned v.core.volumes s line plan) (sym sizes)
          (subst (λ (x : Volumes). IsPlanned x w.shelf.sizes line plan) (sym volumes)
          (planned w.shelf.sizes o.backed.places.laid o.backed.places.many));
      room = room;
    }
