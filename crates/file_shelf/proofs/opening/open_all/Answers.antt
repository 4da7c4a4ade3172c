-- The files that are measured are those that were opened and locked.
use Rattle.std.proofs.Common.{◌≢◌, ◌<ℤ◌, pos, map, IfSome}
use Rattle.std.proofs.lemmas.Result.{IfOk-weaker}
use Rattle.file_shelf.specs.declared.image.Image.{Image}
use Rattle.file_shelf.specs.declared.image.Node.{Node}
use Rattle.file_shelf.specs.declared.image.Unmeasured.{Unmeasured}
use Rattle.file_shelf.proofs.Rows.{all_by_parts, pairs_by_parts}
use Rattle.file_shelf.proofs.opening.open_all.Goals as goal

pub returns-clause-spared : goal.returns-clause-spared
returns-clause-spared g c =
    let all = c.in_ok-files.files.items in
    IfOk-weaker c.measure_each.result _ _
    (λ images same. all_by_parts (λ (i : Image _). i.file) images.items (λ (o : Unmeasured _). o.file) all same
    (λ file. IfSome (g.R.File.AsRawFd.raw_fd file) (λ fd. pos 2 <ℤ fd)) c.in_ok-files.ensures.spared)
    c.measure_each.ensures.files

pub returns-clause-apart : goal.returns-clause-apart
returns-clause-apart g c =
    let all = c.in_ok-files.files.items in
    IfOk-weaker c.measure_each.result _ _
    (λ images same. pairs_by_parts (λ (i : Image _). i.node) images.items (map (λ (o : Unmeasured _). o.node) all) same
    (λ (a b : Node). a ≢ b) c.in_ok-files.ensures.apart)
    c.measure_each.ensures.nodes

pub returns-clause-locked : goal.returns-clause-locked
returns-clause-locked g c =
    let all = c.in_ok-files.files.items in
    IfOk-weaker c.measure_each.result _ _
    (λ images same. all_by_parts (λ (i : Image _). i.file) images.items (λ (o : Unmeasured _). o.file) all same
    (λ file. g.R.File.ImageFile.Holds file c.args.access) c.in_ok-lock_each.ensures.locked)
    c.measure_each.ensures.files
