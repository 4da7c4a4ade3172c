use Rattle.std.proofs.Common.{◌≡◌, ◌++◌, ◌∷◌, [], map, reverse, ap, sym, ◌∙◌, subst, refl}
use Rattle.conf_text.specs.declared.tree.ConfEntry.TheVariants as code
use Rattle.conf_text.specs.declared.outline.Outer.{Outer}
use Rattle.conf_text.specs.Entries.{Many, Assign, after_entry, sections}
use Rattle.conf_text.specs.Outline.{HasSections}
use Rattle.conf_text.specs.Views.{entry_view}
use Rattle.conf_text.proofs.Depth.{sections_pushed}
use Rattle.conf_text.proofs.Names.{key_put, section_entered}
use Rattle.conf_text.proofs.outline.Outline.open.Goals as goal

pub invariant_of-self-2 : goal.invariant_of-self-2
invariant_of-self-2 c =
    let o : Outer = record { brace = c.args.brace; names = c.replace-names.result } in
    let given = sections (map entry_view c.self.inside.entries.items) in
    let k = c.args.name.now in
    let pushed = sections_pushed entry_view c.self.inside.entries.items c.push-2.new.self.items (code.Open c.args.name)
    (c.in_ok-push-2.ensures.items ∙ ap (λ x. x ++ code.Open c.args.name ∷ []) c.in_ok-make_room.ensures.items) in
    let named =
    key_put (λ k. k.now) c.self.inside.names.keys c.insert.new.self.keys k (reverse c.self.inside.outer.items) given
    (Assign k (Many []))
    (λ q. c.in_ok-insert.ensures.updates.0 (record c.args.name { now = q })) refl c.self.invariant in
    let more : c.push.new.self.items ≡ c.self.inside.outer.items ++ o ∷ [] =
    c.in_ok-push.ensures.items ∙ ap (λ x. x ++ o ∷ []) c.in_ok-reserve.ensures.items in
    let moved =
    subst (λ s. HasSections (λ k. k.now) s.keys (reverse c.self.inside.outer.items) (after_entry given (Assign k (Many []))))
    (sym c.replace-names.ensures.value) named in
    subst (HasSections (λ k. k.now) c.replace-names.new.dest.keys (reverse c.push.new.self.items)) (sym pushed)
    (section_entered (λ k. k.now) c.replace-names.new.dest.keys k c.self.inside.outer.items c.push.new.self.items o given moved more
    (ap (λ s. s.keys) c.replace-names.ensures.after ∙ c.new.ensures.empty))
