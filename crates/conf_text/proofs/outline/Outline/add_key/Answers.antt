use Rattle.std.proofs.Common.{◌++◌, ◌∷◌, [], map, reverse, ap, sym, ◌∙◌, subst}
use Rattle.conf_text.specs.Entries.{sections}
use Rattle.conf_text.specs.Outline.{HasSections}
use Rattle.conf_text.specs.Views.{entry_view}
use Rattle.conf_text.proofs.Depth.{sections_pushed}
use Rattle.conf_text.proofs.Names.{key_put}
use Rattle.conf_text.proofs.outline.Outline.add_key.Goals as goal

pub invariant_of-self-2 : goal.invariant_of-self-2
invariant_of-self-2 c =
    let pushed = sections_pushed entry_view c.self.inside.entries.items c.push.new.self.items c.args.entry
    (c.in_ok-push.ensures.items ∙ ap (λ x. x ++ c.args.entry ∷ []) c.in_ok-make_room.ensures.items) in
    subst (HasSections (λ k. k.now) c.insert.new.self.keys (reverse c.self.inside.outer.items)) (sym pushed)
    (key_put (λ k. k.now) c.self.inside.names.keys c.insert.new.self.keys c.args.name.now (reverse c.self.inside.outer.items)
    (sections (map entry_view c.self.inside.entries.items)) (entry_view c.args.entry)
    (λ q. c.in_ok-insert.ensures.updates.0 (record c.args.name { now = q })) c.requires c.self.invariant)
