-- What stands on the disk, and then what it shows.
use Rattle.std.proofs.Common.{ℕ, List}
use Rattle.disk_model.specs.Steps.{Image}
use Rattle.disk_use.specs.declared.in_use.Shown.{Shown}
use Rattle.disk_use.specs.LookedAt.{IsShownWith}
use Rattle.disk_use.proofs.Looking.{looked_again, looks_both}
use Rattle.disk_use.proofs.Showing.{shown_there}
use Rattle.disk_use.proofs.look.look.Goals as goal

pub returns-clause-cause : goal.returns-clause-cause
returns-clause-cause g c =
    let s0 = g.S.Shelf.state c.args.shelf.now in
    let s1 = g.S.Shelf.state c.contents_of.new.shelf in
    let s2 = g.S.Shelf.state c.look_behind.new.shelf in
    let found = c.in_ok-contents.ensures in
    shown_there c.args.new s0 s2 c.args.disk c.in_ok-contents.contents c.look_behind.result found.cause.1
    (looked_again s0 s1 s2 (λ (sizes : List ℕ) (image : Image) (shown : Shown). IsShownWith c.args.new image sizes c.args.disk
    c.in_ok-contents.contents shown) c.look_behind.result found.cause.0
    found.looks c.look_behind.ensures.cause)

pub returns-clause-looks : goal.returns-clause-looks
returns-clause-looks g c =
    looks_both (g.S.Shelf.state c.args.shelf.now) (g.S.Shelf.state c.contents_of.new.shelf) (g.S.Shelf.state c.look_behind.new.shelf)
    c.in_ok-contents.ensures.looks c.look_behind.ensures.looks
