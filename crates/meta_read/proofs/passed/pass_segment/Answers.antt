-- The keys of a segment are those of its type.
use Rattle.std.proofs.Common.{◌≡◌, ◌++◌, ◌∷◌, [], ℕ, List, Bool, false, codes, flat_map, OnOk, if◌then◌else◌, subst, sym, ap, ◌∙◌}
use Rattle.conf_text.specs.Items.{items}
use Rattle.meta_model.specs.PassedOver.{segment_keys, unless_known}
use Rattle.meta_read.proofs.passed.pass_segment.Goals as goal

pub returns-else-is_striped : goal.returns-else-is_striped
returns-else-is_striped c =
    let keys : Bool → List (List ℕ) = λ is_striped.
    codes "start_extent" ∷ codes "extent_count" ∷ codes "type"
    ∷ (if is_striped then codes "stripe_count" ∷ codes "stripes" ∷ codes "stripe_size" ∷ [] else codes "mirror_count" ∷ codes "mirrors"
    ∷ codes "region_size" ∷ codes "extents_moved" ∷ codes "mirror_log" ∷ []) in
    let known : keys false ≡ segment_keys (items c.args.section.now) = ap keys (sym (sym c.is_striped.ensures ∙ c.if-is_striped.false)) in
    subst (λ (known : List (List ℕ)). OnOk c.pass_known-else-is_striped.result
    (c.pass_known-else-is_striped.new.unknown.items
    ≡ c.args.unknown.now.items ++ flat_map (λ item. unless_known known c.args.path.now item.0) (items c.args.section.now))) known
    c.pass_known-else-is_striped.ensures
