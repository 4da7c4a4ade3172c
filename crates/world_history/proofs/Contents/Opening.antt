-- A world is opened: nothing was begun or read yet, and the machine has what the disks show.
use Rattle.std.proofs.Common.{◌≡◌, ℕ, List, [], length, Some, IfSome, refl, sym, ap, subst, ◌∙◌, arith}
use Rattle.std.proofs.lemmas.Option.{none-some}
use Rattle.disk_model.specs.Record.{Operation}
use Rattle.line_table.specs.Machine.{PlainState, PlainVolume}
use Rattle.vg_found.specs.declared.found.Found.{Found}
use Rattle.vg_scan.specs.Versions.{Version}
use Rattle.volume_history.specs.Chronicles.{Origin}
use Rattle.volume_history.specs.Placed.{group_name, volumes_of}
use Rattle.volume_history.specs.Starting.{StartsWith}
use Rattle.world_acts.specs.Acts.{World}
use Rattle.world_acts.specs.OpenLines.{Opens, open_at}
use Rattle.world_acts.specs.Owners.{in_flight_at}
use Rattle.world_acts.specs.Volumes.{rows_at_opening}
use Rattle.io_core.specs.Worlds.{IsOpenedOn}
use Rattle.world_history.specs.Contents.{HasContents}
use Rattle.world_history.specs.Shown.{AreOfVersion}
use Rattle.world_history.proofs.Contents.StartedApart.{none_apart}

module _ (o : Origin) (w : World) (found : Found) (disks : ℕ) (opened : IsOpenedOn found disks w.core) (starts : StartsWith o found) where
  volumes_are : AreOfVersion w.core.volumes o.version
  volumes_are = record {
    group = opened.group ∙ starts.group;
    disks = subst (λ (l : List ℕ). IfSome o.version (λ (v : Version). v.disk_of ≡ l)) (sym opened.disk_of) starts.disks;
    differ = starts.differ;
    rows = opened.rows ∙ ap rows_at_opening (sym opened.group);
  }

  pub opened_holds : w.shelf.told ≡ Some o.told → w.shelf.in_flight ≡ [] → HasContents o w []
  opened_holds is flying = record {
    told = o.told;
    is = is;
    holds = record {
      shows = record {
        so_far = record {
          legal =
              record { from = starts.from; opening = starts.opening; told = omega (arith, starts.start); ordered = tt; faithful = tt };
          first = omega (arith, starts.from, starts.start);
          upto = tt;
          force = refl;
        };
        machine =
            ap {B = PlainState} (λ (l : List PlainVolume). record {
              group = group_name o.version;
              volumes = l;
              next_key = length (volumes_of o.version);
            }) starts.shown;
      };
      brought = λ n x at. absurd (none-some x (ap (λ (y : Opens). open_at y n) (sym opened.opens) ∙ at));
      alone = λ tag span at. absurd (none-some _ (ap (λ (ops : List Operation). in_flight_at ops tag) (sym flying) ∙ at));
      apart = none_apart w.core opened.pieces;
      volumes = volumes_are;
    };
  }
