use Rattle.std.proofs.Common.{ℕ, rules, sym}
use Rattle.std.proofs.lemmas.Fn.{always_returns_same}
use Rattle.world_acts.specs.declared.volumes.VolumeRow.{VolumeRow}
use Rattle.world_acts.proofs.RowSearch.{item_found, item_wanting}
use Rattle.world_acts.proofs.volumes.Volumes.with_number.Goals as goal

abbrev number : VolumeRow → ℕ
number r = r.lv

pub returns-in-Ok : goal.returns-in-Ok
returns-in-Ok c =
    sym (item_found number c.deref.result.now c.args.self.now.rows.items c.args.lv c.in-Ok.at c.index.result.now c.deref.ensures.value
    (λ i j d lt within. (c.requires i j d lt within).1)
    (c.in-Ok.ensures.position number (always_returns_same _ _ _ (λ a r f k. search rules))) c.in-Ok.ensures.bound c.index.ensures).0

pub returns-in-Err : goal.returns-in-Err
returns-in-Err c =
    sym (item_wanting number c.deref.result.now c.args.self.now.rows.items c.args.lv c.in-Err.field-0 (record { key = 0; lv = 0 })
    c.deref.ensures.value (λ i j d lt within. (c.requires i j d lt within).1)
    (c.in-Err.ensures.position number (always_returns_same _ _ _ (λ a r f k. search rules)))).0
