use Rattle.std.proofs.Common.{◌≡◌, ◌∙◌, ◌≤◌, ◌+◌, [], ◌∷◌, length, map, None, Ok, ap, sym, subst, eqb-true}
use Rattle.std.proofs.lemmas.List.{map-append, nil_from_length}
use Rattle.std.specs.Prelude.{IfSome, option_map}
use Rattle.command_table.specs.Commands.{sectors_of}
use Rattle.lvm_script.specs.Script.{numbered}
use Rattle.lvm_script.proofs.ScriptLines.{ReadSoFar, at_end, passed, refused, taken}
use Rattle.lvm_script.proofs.script.lines_without_ids.Goals as goal

pub loop-rest-preserved-in-Ok-None : goal.loop-rest-preserved-in-Ok-None
loop-rest-preserved-in-Ok-None c =
    passed c.first_line.result.1.now c.loop-rest.invariant c.first_line.ensures.lines c.in-Ok-None.ensures.lines
    (c.in-Ok-None.ensures.meant ∙ ap (option_map Ok) c.in-Ok-None.field-0-is)

pub loop-rest-preserved : goal.loop-rest-preserved
loop-rest-preserved c =
    rw (
      c.in_ok-push-in-Ok-Some.ensures.items,
      c.sectors-sectors.ensures,
      map-append numbered c.loop-rest.lines.items
          (record { number = c.loop-rest.number + 1; id = None; command = c.in-Ok-Some.command } ∷ []),
    )
    (taken c.first_line.result.1.now c.loop-rest.invariant c.first_line.ensures.lines c.in-Ok-Some.ensures.lines
    (c.in-Ok-Some.ensures.meant ∙ ap (option_map Ok) c.in-Ok-Some.field-0-is)
    (subst (λ command. IfSome command (λ command. c.loop-rest.sectors + sectors_of command ≤ 524288)) c.in-Ok-Some.field-0-is
    c.in-Ok-Some.ensures.sectors))

pub returns-in-Err : goal.returns-in-Err
returns-in-Err c =
    rw c.in_line.ensures (refused c.first_line.result.1.now c.loop-rest.invariant c.first_line.ensures.lines c.in-Err.refusal
    c.in-Err.ensures.meant)

pub returns : goal.returns
returns c =
    let none : length c.loop-rest.rest.now ≡ 0 =
    eqb-true (length c.loop-rest.rest.now) 0 (sym c.is_empty.ensures ∙ c.loop-rest-test.false) in
    at_end (subst (λ rest. ReadSoFar c.args.text.now rest c.loop-rest.number c.loop-rest.sectors (map numbered c.loop-rest.lines.items))
    (nil_from_length c.loop-rest.rest.now none) c.loop-rest.invariant)
