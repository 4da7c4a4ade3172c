use Rattle.repair_scans.proofs.RepairPlaces.{place_kept}
use Rattle.repair_scans.proofs.laws.repair_keeps_places.Goals as goal

pub returns : goal.returns
returns c = λ base image sizes found group p is h lv sector at there. place_kept base sizes found p group is lv sector at there image h
