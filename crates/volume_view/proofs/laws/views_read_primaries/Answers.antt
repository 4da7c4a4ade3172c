use Rattle.volume_view.proofs.Views.{view_reads_primaries, others_stay}
use Rattle.volume_view.proofs.laws.views_read_primaries.Goals as goal

pub returns-clause-views : goal.returns-clause-views
returns-clause-views c = λ image other group disk_of agree. view_reads_primaries image other group disk_of agree

pub returns-clause-puts : goal.returns-clause-puts
returns-clause-puts c = λ image new group disk_of lv other sector other_sector at accepted disks top top' here differ beside.
    others_stay image new group disk_of lv sector other other_sector at accepted disks top top' here differ beside
