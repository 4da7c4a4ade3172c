use Rattle.std.proofs.Common.{map, take, drop, ap, sym, ◌∙◌}
use Rattle.std.proofs.lemmas.List.{drop-map, take-map}
use Rattle.conf_text.specs.Items.{items}
use Rattle.conf_text.specs.Views.{entry_view}
use Rattle.conf_text.proofs.Bodies.{body_taken, items_after}
use Rattle.conf_text.proofs.section.split_body.Goals as goal

pub returns-clause-body : goal.returns-clause-body
returns-clause-body c =
    let es = map entry_view c.args.entries.now in
    let len = c.body_len-len.ensures.place in
    c.new.ensures ∙ ap (map entry_view) c.split_at.ensures.front ∙ sym (take-map entry_view c.body_len-len.result c.args.entries.now)
    ∙ ap (λ n. take n es) len ∙ sym (body_taken 0 es)

pub returns-clause-after : goal.returns-clause-after
returns-clause-after c =
    let es = map entry_view c.args.entries.now in
    let len = c.body_len-len.ensures.place in
    ap items (c.new-2.ensures ∙ ap (map entry_view) c.split_at.ensures.back
    ∙ sym (drop-map entry_view c.body_len-len.result c.args.entries.now) ∙ ap (λ n. drop n es) len) ∙ sym (items_after 0 es)
