-- One disk after another is looked at, and then those that are marked.
use Rattle.std.proofs.Common.{◌≡◌, ℕ, ◌+◌, List, Contains, get_or, refl, sym, subst, arith}
use Rattle.std.specs.Prelude.{IfSome}
use Rattle.vg_scan.specs.Scans.{HoldsNow}
use Rattle.disk_use.specs.declared.in_use.Shown.{Shown}
use Rattle.disk_use.specs.LookedAt.{IsShown}
use Rattle.disk_use.proofs.Finding.{AreLookedAt, LeftOf, all_looked_at, found_among, free_next, marked_next, used_there}
use Rattle.disk_use.proofs.Looking.{looks_both}
use Rattle.disk_use.proofs.find.find_among.Goals as goal
use Rattle.disk_use.proofs.find.find_among.Goals.{in-Free, in-Marked+in_ok-push-in-Marked}

pub returns-in_err-look-clause-looks : goal.returns-in_err-look-clause-looks
returns-in_err-look-clause-looks g c =
    looks_both (g.S.Shelf.state c.args.shelf.now) (g.S.Shelf.state c.loop-disk.shelf) (g.S.Shelf.state c.look.new.shelf)
    c.loop-disk.invariant.looks c.look.ensures.looks

pub returns-in_err-push-in-Marked-clause-looks : goal.returns-in_err-push-in-Marked-clause-looks
returns-in_err-push-in-Marked-clause-looks g c =
    looks_both (g.S.Shelf.state c.args.shelf.now) (g.S.Shelf.state c.loop-disk.shelf) (g.S.Shelf.state c.look.new.shelf)
    c.loop-disk.invariant.looks c.look.ensures.looks

pub returns-in-Used-clause-cause : goal.returns-in-Used-clause-cause
returns-in-Used-clause-cause g c =
    let s0 = g.S.Shelf.state c.args.shelf.now in
    let s1 = g.S.Shelf.state c.loop-disk.shelf in
    let s2 = g.S.Shelf.state c.look.new.shelf in
    let all = c.args.taken.now in
    let i = c.loop-disk.disk-index in
    let pv = get_or all i 0 in
    used_there c.args.new s0 s1 s2 all i c.loop-disk.marked.items pv c.loop-disk.invariant c.loop-disk-test.true refl
    c.in_ok-look.ensures.cause.0 c.look.ensures.looks c.in-Used.by
    (subst (λ (s : Shown). HoldsNow s1.told (λ image. IsShown c.args.new image s1.sizes pv s)) c.in-Used.is c.in_ok-look.ensures.cause.1)

pub returns-in-Used-clause-looks : goal.returns-in-Used-clause-looks
returns-in-Used-clause-looks g c =
    looks_both (g.S.Shelf.state c.args.shelf.now) (g.S.Shelf.state c.loop-disk.shelf) (g.S.Shelf.state c.look.new.shelf)
    c.loop-disk.invariant.looks c.look.ensures.looks

pub loop-disk-preserved : goal.loop-disk-preserved
loop-disk-preserved g c =
    let s0 = g.S.Shelf.state c.args.shelf.now in
    let s1 = g.S.Shelf.state c.loop-disk.shelf in
    let s2 = g.S.Shelf.state c.look.new.shelf in
    let all = c.args.taken.now in
    let i = c.loop-disk.disk-index in
    let pv = get_or all i 0 in
    let marked = c.loop-disk.marked.items in
    let so_far = c.loop-disk.invariant in
    let cause = c.in_ok-look.ensures.cause in
    elim c.match-branch-2.branch [
      | in-Free w ↦
          let pushed : c.match-branch-2.marked.items ≡ marked = λ k. (w.marked-is k).items in
          subst (λ (l : List ℕ). AreLookedAt c.args.new s0 all (i + 1) l s2) (sym pushed)
          (free_next c.args.new s0 s1 s2 all i marked pv so_far c.loop-disk-test.true refl cause.0 c.look.ensures.looks
          (subst (λ (s : Shown). HoldsNow s1.told (λ image. IsShown c.args.new image s1.sizes pv s)) w.in-Free.is cause.1))
      | in-Marked+in_ok-push-in-Marked w ↦
          let pushed : c.match-branch-2.marked.items ≡ w.push.new.self.items = λ k. (w.marked-is k).items in
          subst (λ (l : List ℕ). AreLookedAt c.args.new s0 all (i + 1) l s2) (sym pushed)
          (marked_next c.args.new s0 s1 s2 all i marked pv so_far c.loop-disk-test.true refl cause.0 c.look.ensures.looks
          w.push.new.self.items w.in_ok-push-in-Marked.ensures.items
          (subst (λ (s : Shown). HoldsNow s1.told (λ image. IsShown c.args.new image s1.sizes pv s)) w.in-Marked.is cause.1))
    ]

pub returns-in_err-left-clause-looks : goal.returns-in_err-left-clause-looks
returns-in_err-left-clause-looks g c =
    looks_both (g.S.Shelf.state c.args.shelf.now) (g.S.Shelf.state c.loop-disk.shelf) (g.S.Shelf.state c.first_left.new.shelf)
    c.loop-disk.invariant.looks c.first_left.ensures.looks

pub returns-clause-cause : goal.returns-clause-cause
returns-clause-cause g c =
    let s0 = g.S.Shelf.state c.args.shelf.now in
    let s1 = g.S.Shelf.state c.loop-disk.shelf in
    let s2 = g.S.Shelf.state c.first_left.new.shelf in
    let cause = c.in_ok-left.ensures.cause in
    all_looked_at c.args.new s0 s1 s2 c.args.taken.now c.loop-disk.disk-index c.loop-disk.marked.items c.in_ok-left.left c.in_use.result
    c.loop-disk.invariant (omega (arith, c.loop-disk-test.false))
    cause.0 (subst (λ (l : List ℕ). HoldsNow s1.told (λ image. LeftOf l s1.sizes image c.in_ok-left.left)) c.deref.ensures.value cause.1)
    c.in_use.ensures

pub returns-clause-of : goal.returns-clause-of
returns-clause-of g c =
    found_among c.args.taken.now c.loop-disk.marked.items c.in_ok-left.left c.in_use.result c.loop-disk.invariant.among
    (subst (λ (l : List ℕ). IfSome c.in_ok-left.left (Contains l)) c.deref.ensures.value c.in_ok-left.ensures.of) c.in_use.ensures

pub returns-clause-looks : goal.returns-clause-looks
returns-clause-looks g c =
    looks_both (g.S.Shelf.state c.args.shelf.now) (g.S.Shelf.state c.loop-disk.shelf) (g.S.Shelf.state c.first_left.new.shelf)
    c.loop-disk.invariant.looks c.first_left.ensures.looks
