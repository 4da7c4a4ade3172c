-- One table after the other grows.
use Rattle.std.proofs.Common.{◌≡◌, ◌<◌, ℕ, ◌+◌, ◌^◌, Option, None, Some, refl, sym, ◌∙◌}
use Rattle.std.specs.Option.{SomeIff}
use Rattle.std.proofs.lemmas.Option.{same_Some}
use Rattle.world_acts.specs.Acts.{world}
use Rattle.world_acts.proofs.Growing.{grown_none}
use Rattle.line_plans.proofs.Reserved.{lines_more, lines_none, opens_more, opens_none, pieces_more, pieces_none, tables_grow, tables_have}
use Rattle.line_plans.proofs.Reserved.{waits_more, waits_none}
use Rattle.line_plans.proofs.preparing.reserve_tables.Goals as goal

made : (o : Option ℕ) (n sum : ℕ) → o ≡ Some n → SomeIff o (sum < 2 ^ 64) sum → n ≡ sum
made None n sum is some = absurd cc
made (Some m) n sum is some = sym (same_Some m n is) ∙ some.1

pub returns-in_err-entries-clause-grown : goal.returns-in_err-entries-clause-grown
returns-in_err-entries-clause-grown c = λ shelf lawful. grown_none (world shelf c.args.core.now) lawful

pub returns-in_err-reserve-clause-grown : goal.returns-in_err-reserve-clause-grown
returns-in_err-reserve-clause-grown c =
    let old = c.args.core.now in
    λ shelf lawful. tables_grow shelf old c.reserve.new.self old.lines old.waits old.pieces lawful
    (opens_none old.opens c.reserve.new.self c.in_err-reserve.ensures.err) (lines_none old.lines old.lines refl)
    (waits_none old.waits old.waits refl) (pieces_none old.pieces old.pieces refl)

pub returns-in_err-reserve-2-clause-grown : goal.returns-in_err-reserve-2-clause-grown
returns-in_err-reserve-2-clause-grown c =
    let old = c.args.core.now in
    λ shelf lawful. tables_grow shelf old c.reserve.new.self c.reserve-2.new.self old.waits old.pieces lawful
    (opens_more old.opens c.reserve.new.self c.in_ok-reserve.ensures.ok)
    (lines_none old.lines c.reserve-2.new.self c.in_err-reserve-2.ensures.err) (waits_none old.waits old.waits refl)
    (pieces_none old.pieces old.pieces refl)

pub returns-in_err-reserve-3-clause-grown : goal.returns-in_err-reserve-3-clause-grown
returns-in_err-reserve-3-clause-grown c =
    let old = c.args.core.now in
    λ shelf lawful. tables_grow shelf old c.reserve.new.self c.reserve-2.new.self c.reserve-3.new.self old.pieces lawful
    (opens_more old.opens c.reserve.new.self c.in_ok-reserve.ensures.ok)
    (lines_more old.lines c.reserve-2.new.self c.in_ok-entries.entries c.in_ok-reserve-2.ensures.ok)
    (waits_none old.waits c.reserve-3.new.self c.in_err-reserve-3.ensures.err) (pieces_none old.pieces old.pieces refl)

pub returns-in_err-reserve-4-clause-grown : goal.returns-in_err-reserve-4-clause-grown
returns-in_err-reserve-4-clause-grown c =
    let old = c.args.core.now in
    λ shelf lawful. tables_grow shelf old c.reserve.new.self c.reserve-2.new.self c.reserve-3.new.self c.reserve-4.new.self lawful
    (opens_more old.opens c.reserve.new.self c.in_ok-reserve.ensures.ok)
    (lines_more old.lines c.reserve-2.new.self c.in_ok-entries.entries c.in_ok-reserve-2.ensures.ok)
    (waits_more old.waits c.reserve-3.new.self c.args.room.writes c.args.room.waits c.in_ok-reserve-3.ensures.ok)
    (pieces_none old.pieces c.reserve-4.new.self c.in_err-reserve-4.ensures.err)

pub returns-clause-grown : goal.returns-clause-grown
returns-clause-grown c =
    let old = c.args.core.now in
    λ shelf lawful. tables_grow shelf old c.reserve.new.self c.reserve-2.new.self c.reserve-3.new.self c.reserve-4.new.self lawful
    (opens_more old.opens c.reserve.new.self c.in_ok-reserve.ensures.ok)
    (lines_more old.lines c.reserve-2.new.self c.in_ok-entries.entries c.in_ok-reserve-2.ensures.ok)
    (waits_more old.waits c.reserve-3.new.self c.args.room.writes c.args.room.waits c.in_ok-reserve-3.ensures.ok)
    (pieces_more old.pieces c.reserve-4.new.self c.args.pieces c.args.room.ops c.in_ok-reserve-4.ensures.ok)

pub returns-clause-room : goal.returns-clause-room
returns-clause-room c =
    tables_have c.args.core.now c.reserve.new.self c.reserve-2.new.self c.reserve-3.new.self c.reserve-4.new.self c.args.pieces
    c.in_ok-entries.entries c.args.room
    (made c.checked_add.result c.in_ok-entries.entries (c.args.room.entries + 1) c.in_ok-entries.ensures.ok_part c.checked_add.ensures)
    c.in_ok-reserve.ensures.ok c.in_ok-reserve-2.ensures.ok c.in_ok-reserve-3.ensures.ok c.in_ok-reserve-4.ensures.ok
