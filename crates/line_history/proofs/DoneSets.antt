-- At the end of a run whose line has committed a group, or removed it, each set of disks finds no group or the one that all find.
use Rattle.std.proofs.Common.{◌≡◌, ℕ, ◌-◌, Bool, true, List, [], length, drop, Option, Some, None, refl, sym, ap, subst, ◌∙◌, arith}
use Rattle.std.proofs.lemmas.Bool.{true≢false}
use Rattle.std.specs.Prelude.{is_some, option_map}
use Rattle.std.proofs.lemmas.Option.{same_Some}
use Rattle.command_table.specs.Options.{Word}
use Rattle.command_table.specs.declared.command.Command.{Command}
use Rattle.command_table.specs.declared.command.Command.TheVariants.{Vgremove}
use Rattle.disk_model.specs.Moments.{at_moment}
use Rattle.disk_model.specs.CrashValues.{IsImage}
use Rattle.disk_model.specs.Durability.{IsBase}
use Rattle.disk_model.specs.Steps.{Image, Record}
use Rattle.meta_model.specs.declared.group.Group.{Group}
use Rattle.disk_batch.specs.InTurn.{HasFirstBatches, Put, with_batches}
use Rattle.vg_scan.specs.Scans.{IsScanOf}
use Rattle.group_plan.specs.declared.state.Change.{Change}
use Rattle.group_plan.specs.declared.state.GroupState.{GroupState}
use Rattle.group_ops.specs.Laws.{state_in}
use Rattle.group_ops.specs.Planning.{change_of}
use Rattle.vg_change.specs.LineBatches.{batches_of}
use Rattle.vg_repair.proofs.RepairedSizes.{repaired_count}
use Rattle.vg_repair.specs.Repaired.{repaired_of}
use Rattle.image_scans.proofs.ClearScans.{clears_scan}
use Rattle.image_scans.proofs.CommitLine.{all_written}
use Rattle.image_scans.specs.Laws.{CanCarryOut, none_out, version_of}
use Rattle.vg_scan.specs.Versions.{FindsVersion, Version}
use Rattle.repair_scans.specs.Laws.{RepairedScans}
use Rattle.volume_history.proofs.CommandKinds.{created_plain}
use Rattle.volume_history.specs.Commands.{commits}
use Rattle.volume_history.specs.Laws.{ScansAreOne}
use Rattle.line_history.proofs.Clearing.{clearing, more}
use Rattle.line_history.proofs.Finding.{can_carry_out, one_image, zeroed_base}
use Rattle.line_history.proofs.Images.{line as line_writes, zeroed_base_is}
use Rattle.line_history.proofs.LineKinds.{Kind, commits_group, creates, kind_of, removes_group}
use Rattle.line_history.specs.EachSet.{AreMembers, EachMemberFinds, EachSetFinds, EachSetRemoved, MembersAgree, SetsAgree}
use Rattle.line_history.specs.Histories.{commits_in}
use Rattle.line_history.specs.LineRun.{ClearsLine, Done, Given, batches_in, clears_in}

-- what is told at the last moment is all
last_told : (told : Record) → at_moment (length told.steps) told ≡ told
last_told told =
    let e : length told.steps - length told.steps ≡ 0 = omega arith in
    ap (λ (k : ℕ). record { opened = told.opened; steps = drop k told.steps }) e

module _ (scans : RepairedScans) (finds_each : EachSetFinds) (removed_each : EachSetRemoved) (one : ScansAreOne) (g : Given)
    (start ended : Record) (c : ClearsLine g true start ended) where
  abbrev state : GroupState
  state = state_in (repaired_of g.found) g.names g.backup

  abbrev change : Change
  change = change_of state g.line g.clock g.given

  -- the image with all that the line writes, and the one with the disks cleared too
  abbrev made : Image
  made = with_batches (batches_in g) (zeroed_base g)

  abbrev last : Image
  last = with_batches (clears_in g) made

  made_base : IsBase c.made made
  made_base =
      (line_writes g Done start c.made c.line refl refl).lasting refl (zeroed_base g) (zeroed_base_is g Done start c.made c.line refl refl)

  last_image : (image : Image) → IsImage ended image → image ≡ last
  last_image image is =
      one_image image last (λ pv sector. let m = is pv sector in (c.clears.lasting refl made made_base pv sector).each m.0 (image pv sector)
      m.1)

  can : CanCarryOut (zeroed_base g) g.sizes (repaired_of g.found) g.names g.backup g.line g.clock g.given
  can = can_carry_out scans g Done start c.made c.line refl refl

  of_commit : (group : Group) → change.group ≡ Some group → SetsAgree g.sizes ended
  of_commit group commit image is version finds some other scan there =
      let last_is : image ≡ last = last_image image is in
      let next : Option Version = Some (version_of group change) in
      let found : FindsVersion g.sizes last none_out next =
      clears_scan (zeroed_base g) last g.sizes (repaired_of g.found) g.names g.backup g.line g.clock g.given group can commit
      (all_written (clears_in g) made)
      in
      let same : version ≡ next =
      one g.sizes image none_out version next finds (subst (λ (i : Image). FindsVersion g.sizes i none_out next) (sym last_is) found) in
      let own : other ≡ group =
      finds_each (zeroed_base g) g.sizes (repaired_of g.found) g.names g.backup g.line g.clock g.given group can commit some other
      (subst (λ (i : Image). IsScanOf i g.sizes some) last_is scan) there
      in
      ap (λ (v : Option Version). option_map (λ (w : Version). w.group) v) same ∙ ap (λ (x : Group). Some x) (sym own)

  -- a vgremove writes nothing but what clears the disks
  of_removal : (vg : Word) → g.line.command ≡ Vgremove vg → SetsAgree g.sizes ended
  of_removal vg removal image is version finds some other scan there =
      let none : batches_in g ≡ [] =
      ap (λ (command : Command). batches_of state (record { number = g.line.number; id = g.line.id; command = command }) g.clock
      g.given) removal in
      let last_is : image ≡ with_batches (clears_in g) (zeroed_base g) =
      last_image image is ∙ ap (λ (l : List (List Put)). with_batches (clears_in g) (with_batches l (zeroed_base g))) none in
      let no_group : some.group ≡ None =
      removed_each (zeroed_base g) g.sizes (repaired_of g.found) g.names g.backup g.line g.clock g.given vg can removal some
      (subst (λ (i : Image). IsScanOf i g.sizes some) last_is scan)
      in
      absurd (let e : ◌≡◌ {A = Option Group} None (Some other) = sym no_group ∙ there in cc)

  pub sets_agree : commits g.line.command ≡ true → SetsAgree g.sizes ended
  sets_agree commit =
      by (kind_of state g.sizes can.scan.are.sizes_is (c.line.given.named ∙ sym (repaired_count g.found))
      (λ k disk there. ((c.line.repaired_shape refl).disks k disk there).0) g.line g.clock g.given c.line.given.planned
      (c.line.given_back refl) (c.line.takes refl) (c.line.passes refl))
    where
      by : Kind g.sizes g.names g.line.command change → SetsAgree g.sizes ended
      by (commits_group group is) = of_commit group is
      by (creates disk label none created labels on no_zeros places) =
          absurd (true≢false (sym commit ∙ (created_plain g.names disk g.line.command created).1))
      by (removes_group vg is none labels no_zeros) = of_removal vg is

-- ---- while disks are cleared, or where that failed

module _ (scans : RepairedScans) (finds_members : EachMemberFinds) (one : ScansAreOne) (g : Given) (well : Bool) (start ended : Record)
    (c : ClearsLine g well start ended) where
  abbrev now_change : Change
  now_change = change_of (state_in (repaired_of g.found) g.names g.backup) g.line g.clock g.given

  pub members_agree : commits_in g ≡ true → MembersAgree g.sizes ended
  members_agree commit = by now_change.group refl
    where
      can_now : CanCarryOut (zeroed_base g) g.sizes (repaired_of g.found) g.names g.backup g.line g.clock g.given
      can_now = can_carry_out scans g Done start c.made c.line refl refl

      of_group : (group : Group) → now_change.group ≡ Some group → MembersAgree g.sizes ended
      of_group group is image shown version finds some other scan members there =
          let way : HasFirstBatches (clears_in g) (with_batches (batches_in g) (zeroed_base g)) image =
          clearing scans g well start ended c (length ended.steps) (more scans g well start ended c) (omega arith) image
          (subst (λ (told : Record). IsImage told image) (sym (last_told ended)) shown)
          in
          let next : Version = version_of group now_change in
          let found : FindsVersion g.sizes image none_out (Some next) =
          clears_scan (zeroed_base g) image g.sizes (repaired_of g.found) g.names g.backup g.line g.clock g.given group can_now is way
          in
          let same : version ≡ next = same_Some version next (one g.sizes image none_out (Some version) (Some next) finds found) in
          let own : other ≡ group =
          finds_members (zeroed_base g) image g.sizes (repaired_of g.found) g.names g.backup g.line g.clock g.given group can_now is way
          some other scan
          (subst (λ (v : Version). AreMembers g.sizes v.disk_of some) same members) there
          in
          own ∙ sym (ap (λ (v : Version). v.group) same)

      by : (o : Option Group) → now_change.group ≡ o → MembersAgree g.sizes ended
      by (Some group) is = of_group group is
      by None is = absurd (true≢false (sym commit ∙ ap (λ (o : Option Group). is_some o) is))
