use Rattle.std.proofs.Common.{◌+◌, ◌-◌, ◌≤◌, ◌∷◌, length, map, drop, ap, sym, ◌∙◌, arith}
use Rattle.std.proofs.lemmas.List.{drop-map, length-drop, take_all}
use Rattle.conf_text.specs.Items.{items}
use Rattle.conf_text.specs.Views.{entry_view}
use Rattle.conf_text.proofs.Bodies.{seen_at, items_go_on}
use Rattle.conf_text.proofs.section.Section.split_first.Goals as goal

pub returns-in-Some-clause-first : goal.returns-in-Some-clause-first
returns-in-Some-clause-first c =
    let xs = c.self.inside.entries.now in
    let e = c.entry-item.result in
    let next = c.loop-at.at + 1 in
    let here = seen_at entry_view xs c.loop-at.at e c.loop-at-test.true c.entry-item.is in
    let all : length (drop next xs) ≤ length xs - next = omega (arith, length-drop next xs) in
    ap items (sym c.self.view_is) ∙ sym c.loop-at.invariant
    ∙ ap items (here ∙ ap (λ r. entry_view e ∷ r) (drop-map entry_view next xs ∙ ap (map entry_view) (sym (take_all _ _ all))))
    ∙ c.in-Some.ensures.first

pub loop-at-preserved : goal.loop-at-preserved
loop-at-preserved c =
    let xs = c.self.inside.entries.now in
    let here = seen_at entry_view xs c.loop-at.at c.entry-item.result c.loop-at-test.true c.entry-item.is in
    items_go_on c.loop-at.at (map entry_view xs) here c.in-None.ensures.none c.loop-at.invariant
