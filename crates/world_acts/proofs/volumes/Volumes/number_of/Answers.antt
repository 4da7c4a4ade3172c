use Rattle.std.proofs.Common.{ℕ, Option, option_map, rules, slice_get, sym, ap, ◌∙◌}
use Rattle.std.specs.Option.{option_and_then}
use Rattle.std.proofs.lemmas.Fn.{always_returns_same}
use Rattle.world_acts.specs.declared.volumes.VolumeRow.{VolumeRow}
use Rattle.world_acts.proofs.RowSearch.{item_found, item_wanting}
use Rattle.world_acts.proofs.volumes.Volumes.number_of.Goals as goal

abbrev key_in : VolumeRow → ℕ
key_in r = r.key

pub returns-in-Ok : goal.returns-in-Ok
returns-in-Ok c =
    let rows = c.args.self.now.rows.items in
    let found =
    item_found key_in c.deref.result.now rows c.args.key c.in-Ok.at c.index.result.now c.deref.ensures.value
    (λ i j d lt within. (c.requires i j d lt within).0)
    (c.in-Ok.ensures.position key_in (always_returns_same _ _ _ (λ a r f k. search rules))) c.in-Ok.ensures.bound c.index.ensures in
    sym (ap (λ (o : Option ℕ). option_and_then (λ (at : ℕ). option_map (λ (r : VolumeRow). r.lv) (slice_get rows at)) o) found.1
    ∙ ap (λ (o : Option VolumeRow). option_map (λ (r : VolumeRow). r.lv) o) found.2)

pub returns-in-Err : goal.returns-in-Err
returns-in-Err c =
    let rows = c.args.self.now.rows.items in
    sym (ap (λ (o : Option ℕ). option_and_then (λ (at : ℕ). option_map (λ (r : VolumeRow). r.lv) (slice_get rows at)) o)
    (item_wanting key_in c.deref.result.now rows c.args.key c.in-Err.field-0 (record { key = 0; lv = 0 }) c.deref.ensures.value
    (λ i j d lt within. (c.requires i j d lt within).0)
    (c.in-Err.ensures.position key_in (always_returns_same _ _ _ (λ a r f k. search rules)))).1)
