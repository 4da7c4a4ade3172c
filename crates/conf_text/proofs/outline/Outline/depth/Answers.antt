use Rattle.std.proofs.Common.{◌≡◌, suc, ◌∙◌, ap, sym, length, map}
use Rattle.conf_text.specs.Entries.{sections}
use Rattle.conf_text.specs.Views.{entry_view}
use Rattle.conf_text.proofs.Names.{sections-length}
use Rattle.conf_text.proofs.outline.Outline.depth.Goals as goal

pub returns : goal.returns
returns c =
    let e : sections (map entry_view c.self.inside.entries.items) ≡ sections c.args.self.now.entries =
    ap (λ s. sections s.entries) c.self.view_is in
    ap length (sym e) ∙ sections-length (λ k. k.now) c.self.inside.names.keys c.self.inside.outer.items _ c.self.invariant
    ∙ ap (λ x. suc (length x)) (sym c.as_slice.ensures.value)
