-- Each exit gives the answer of the readings.
use Rattle.std.proofs.Common.{◌≡◌, ◌<◌, ℕ, List, [], length, sym, ap, subst, ◌∙◌}
use Rattle.std.specs.Prelude.{None, Some, MatchResult}
use Rattle.scan_rules.specs.declared.held.HeldCopy.{HeldCopy}
use Rattle.scan_rules.specs.declared.readings.GroupCopy.{GroupCopy}
use Rattle.scan_rules.specs.declared.readings.DiskRead.{DiskRead}
use Rattle.scan_rules.specs.Answers.{IsDecided, IsRefusedBy, answer_for}
use Rattle.scan_rules.specs.Decision.{ScanAnswer, best, decide_scan, first_duplicate, ids_from}
use Rattle.scan_rules.specs.Flat.{IsThat, all_held, held_on}
use Rattle.scan_rules.specs.Readings.{readings_of}
use Rattle.scan_rules.proofs.Answering.{answer_is_for, answer_is_without, best_found, best_within, found_pair, is_duplicate}
use Rattle.scan_rules.proofs.deciding.decide_read.Goals as goal

pub returns-in-Some : goal.returns-in-Some
returns-in-Some c =
    let disks : List DiskRead = c.args.disks.items in
    let pair : ℕ × ℕ = (c.in-Some.first, c.in-Some.second) in
    is_duplicate c.args.copies.items disks pair
    (found_pair c.deref-2.result.now c.in_ok-ids.ids.items c.deref.result.now disks (Some pair) (sym c.in-Some.is ∙ c.in_ok-found.ensures.1)
    c.deref-2.ensures.value c.in_ok-ids.ensures c.deref.ensures.value)

pub decide_copy-requires-clause-copy : goal.decide_copy-requires-clause-copy
decide_copy-requires-clause-copy c =
    subst (λ (l : List GroupCopy). c.in-Some-best_copy.best.number < length l) c.deref-4.ensures.value
    (best_within c.deref-4.result.now c.in-Some-best_copy.best (best (all_held c.deref-4.result.now c.deref-5.result.now))
    c.in-Some-best_copy.ensures)

pub returns-in-Some-best_copy : goal.returns-in-Some-best_copy
returns-in-Some-best_copy c =
    let copies : List GroupCopy = c.args.copies.items in
    let disks : List DiskRead = c.args.disks.items in
    let chosen : HeldCopy = c.in-Some-best_copy.best in
    let none : first_duplicate (ids_from 0 (readings_of [] disks)) ≡ None =
    found_pair c.deref-2.result.now c.in_ok-ids.ids.items c.deref.result.now disks None (sym c.in_default.is ∙ c.in_ok-found.ensures.1)
    c.deref-2.ensures.value c.in_ok-ids.ensures c.deref.ensures.value in
    let that : IsThat copies (Some chosen) (best (all_held copies (held_on 0 disks))) =
    best_found c.deref-4.result.now copies c.deref-5.result.now c.in_ok-held.held.items c.deref-3.result.now disks (Some chosen)
    c.in-Some-best_copy.ensures c.deref-4.ensures.value c.deref-5.ensures.value c.in_ok-held.ensures c.deref-3.ensures.value in
    let held : c.deref-in-Some-best_copy.result.now ≡ held_on 0 disks =
    c.deref-in-Some-best_copy.ensures.value ∙ c.in_ok-held.ensures ∙ ap (held_on 0) c.deref-3.ensures.value in
    let answer : decide_scan (readings_of copies disks) ≡ answer_for copies disks c.deref-in-Some-best_copy.result.now chosen =
    answer_is_for copies disks chosen none that ∙ ap (λ (l : List HeldCopy). answer_for copies disks l chosen) (sym held) in
    subst (λ (a : ScanAnswer). MatchResult c.decide_copy.result (IsDecided a) (IsRefusedBy a)) (sym answer) c.decide_copy.ensures

pub returns-in-None : goal.returns-in-None
returns-in-None c =
    let copies : List GroupCopy = c.args.copies.items in
    let disks : List DiskRead = c.args.disks.items in
    let none : first_duplicate (ids_from 0 (readings_of [] disks)) ≡ None =
    found_pair c.deref-2.result.now c.in_ok-ids.ids.items c.deref.result.now disks None (sym c.in_default.is ∙ c.in_ok-found.ensures.1)
    c.deref-2.ensures.value c.in_ok-ids.ensures c.deref.ensures.value in
    let that : IsThat copies None (best (all_held copies (held_on 0 disks))) =
    best_found c.deref-4.result.now copies c.deref-5.result.now c.in_ok-held.held.items c.deref-3.result.now disks None c.in-None.ensures
    c.deref-4.ensures.value c.deref-5.ensures.value c.in_ok-held.ensures c.deref-3.ensures.value in
    subst (λ (a : ScanAnswer). MatchResult c.decide_none.result (IsDecided a) (IsRefusedBy a))
    (sym (answer_is_without copies disks none that)) c.decide_none.ensures
