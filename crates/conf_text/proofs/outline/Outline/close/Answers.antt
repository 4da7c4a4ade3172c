use Rattle.std.proofs.Common.{◌++◌, ◌∷◌, [], map, reverse, ap, sym, ◌∙◌, subst}
use Rattle.conf_text.specs.declared.tree.ConfEntry.TheVariants as code
use Rattle.conf_text.specs.Entries.{Close, sections}
use Rattle.conf_text.specs.Outline.{HasSections}
use Rattle.conf_text.specs.Views.{entry_view}
use Rattle.conf_text.proofs.Depth.{sections_pushed}
use Rattle.conf_text.proofs.Names.{section_left, braces_pushed, entries_pushed, seen}
use Rattle.conf_text.proofs.outline.Outline.close.Goals as goal

pub invariant_of-self-in-Some : goal.invariant_of-self-in-Some
invariant_of-self-in-Some c =
    let pushed = sections_pushed entry_view c.self.inside.entries.items c.push.new.self.items code.Close
    (c.in_ok-push-in-Some.ensures.items ∙ ap (λ x. x ++ code.Close ∷ []) c.in_ok-make_room.ensures.items) in
    subst (HasSections (λ k. k.now) c.in-Some.outer.names.keys (reverse c.pop.new.self.items)) (sym pushed)
    (section_left (λ k. k.now) c.self.inside.names.keys c.self.inside.outer.items c.pop.new.self.items c.in-Some.outer
    (sections (map entry_view c.self.inside.entries.items)) c.in-Some.ensures.items c.self.invariant)

pub returns-in_ok-push-in-Some : goal.returns-in_ok-push-in-Some
returns-in_ok-push-in-Some c =
    let braces = reverse (map (λ o. o.brace) c.pop.new.self.items) in
    let pushed = entries_pushed c.self.inside.entries.items c.push.new.self.items code.Close
    (c.in_ok-push-in-Some.ensures.items ∙ ap (λ x. x ++ code.Close ∷ []) c.in_ok-make_room.ensures.items) in
    record {
      closed = (
        c.in-Some.outer.brace,
        braces,
        sym (ap (λ s. s.braces) c.self.view_is) ∙ braces_pushed c.pop.new.self.items c.self.inside.outer.items c.in-Some.outer
            c.in-Some.ensures.items,
        ap (λ es. seen es braces) pushed ∙ ap (λ s. seen (s.entries ++ Close ∷ []) braces) c.self.view_is,
      );
    }
