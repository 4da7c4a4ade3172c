use Rattle.std.proofs.Common.{◌≡◌, true, List, sym, subst}
use Rattle.std.specs.declared.string.String.{String}
use Rattle.command_table.specs.Options.{words_of}
use Rattle.disk_model.specs.State.{State}
use Rattle.lvm_run.specs.Guarded.{AreFree}
use Rattle.lvm_run.specs.InUse.{LeavesInUse}
use Rattle.lvm_run.specs.Sessions.{asks_session}
use Rattle.lvm_run.proofs.LookedFirst.{either_way, left_by_session, left_free, left_looked_at, none_found}
use Rattle.lvm_run.proofs.guarded.guarded_run.Goals as goal

pub returns-in-Ok-None-clause-kept : goal.returns-in-Ok-None-clause-kept
returns-in-Ok-None-clause-kept g c = λ unforced.
    let words = words_of c.args.words.now.items in
    let before = g.S.Shelf.state c.args.shelf in
    let after = g.S.Shelf.state c.lvm_run.result.shelf in
    let free = none_found _ c.in-Ok-None.field-0 c.in-Ok-None.field-0-is c.in-Ok-None.ensures.cause unforced in
    either_way (asks_session words)
    (λ asks.
    let same : g.S.Shelf.state c.find_unless.new.shelf ≡ before =
    c.find_unless.ensures.session (subst (λ (words : List (String _)). asks_session (words_of words) ≡ true) (sym c.deref.ensures.value)
    asks) in
    left_by_session words before after asks c.requires.disks
    (subst (λ (s : State). LeavesInUse s after) same (c.lvm_run.ensures.kept unforced asks)))
    (λ other. left_free words before after other
    (subst (λ (words : List (String _)). AreFree (words_of words) before) c.deref.ensures.value free))

pub returns-in-Ok-Some-clause-kept : goal.returns-in-Ok-Some-clause-kept
returns-in-Ok-Some-clause-kept g c = λ unforced.
    left_looked_at (words_of c.args.words.now.items) (g.S.Shelf.state c.args.shelf) (g.S.Shelf.state c.find_unless.new.shelf)
    c.find_unless.ensures.looks

pub returns-in-Err-clause-kept : goal.returns-in-Err-clause-kept
returns-in-Err-clause-kept g c = λ unforced.
    left_looked_at (words_of c.args.words.now.items) (g.S.Shelf.state c.args.shelf) (g.S.Shelf.state c.find_unless.new.shelf)
    c.find_unless.ensures.looks
