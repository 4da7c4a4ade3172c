-- A line that stays open with its volume and its work: what its pieces are to be.
use Rattle.std.proofs.Common.{◌≡◌, ℕ, false, true, List, All, Option, None, Some, is_some, unwrap_or, refl, sym, ap, subst, ◌∙◌, true≢false}
use Rattle.std.specs.Option.{option_map_or}
use Rattle.std.proofs.lemmas.List.Elements.{All-weaker}
use Rattle.std.proofs.lemmas.Option.{none-some, same_Some}
use Rattle.lvm_script.specs.declared.line.Line.{Line}
use Rattle.data_lines.specs.DataLines.{is_through}
use Rattle.world_acts.specs.declared.open_line.OpenLine.{OpenLine}
use Rattle.world_acts.specs.declared.open_line.Work.{Work}
use Rattle.world_acts.specs.declared.volumes.Volumes.{Volumes}
use Rattle.world_acts.specs.Acts.{IsPartOf}
use Rattle.world_acts.specs.OpenLines.{Opens, no_open, open_at}
use Rattle.world_acts.specs.Owners.{values_of}
use Rattle.world_acts.specs.Volumes.{IsPlaced}
use Rattle.line_plans.specs.declared.preparing.NewPiece.{NewPiece}
use Rattle.line_plans.specs.Plans.{MayBeOf}
use Rattle.io_core.specs.Rest.{SameLines}
use Rattle.io_core.proofs.LineKinds.{kind_of}

-- the line is open still, with the same volume and the same work
pub record KindKept (o p : Option OpenLine) : Type 0 where
  pub opened : is_some p ≡ true
  pub key : (unwrap_or p no_open).key ≡ (unwrap_or o no_open).key
  pub work : (unwrap_or p no_open).work ≡ (unwrap_or o no_open).work

of_kinds : (o p : Option OpenLine) → kind_of p ≡ kind_of o → is_some o ≡ true → KindKept o p
of_kinds None p same some = absurd (true≢false (sym some))
of_kinds (Some o) None same some = absurd (none-some (o.key, o.work) same)
of_kinds (Some o) (Some p) same some =
    let is : ◌≡◌ {A = ℕ × Work} (p.key, p.work) (o.key, o.work) = same_Some (p.key, p.work) (o.key, o.work) same in
    record { opened = refl; key = ap (λ (x : ℕ × Work). x.0) is; work = ap (λ (x : ℕ × Work). x.1) is }

pub kept_kind : (old new : Opens) (line : ℕ) → SameLines old new → is_some (open_at old line) ≡ true
    → KindKept (open_at old line) (open_at new line)
kept_kind old new line same some = of_kinds (open_at old line) (open_at new line) (same line) some

-- and its pieces may be its pieces still
pub record SameFor (v u : Volumes) (sizes now : List ℕ) (o p : OpenLine) (line later : Option Line) : Type 0 where
  pub volumes : u ≡ v
  pub disks : now ≡ sizes
  pub key : p.key ≡ o.key
  pub work : p.work ≡ o.work
  pub brings : later ≡ line

pub may_be_still : {v u : Volumes} {sizes now : List ℕ} {o p : OpenLine} {line later : Option Line} (pieces : List NewPiece)
    → SameFor v u sizes now o p line later
    → All (MayBeOf v sizes o line) pieces
    → All (MayBeOf u now p later) pieces
may_be_still {v} {u} {sizes} {now} {o} {p} {line} {later} pieces same all =
    All-weaker (MayBeOf v sizes o line) (MayBeOf u now p later) (λ new m. record {
      key = m.key ∙ sym same.key;
      part = subst (λ (x : Work). IsPartOf x new.piece) (sym same.work) m.part;
      placed =
          subst (λ (x : Volumes). IsPlaced x now new.piece) (sym same.volumes)
          (subst (λ (x : List ℕ). IsPlaced v x new.piece) (sym same.disks) m.placed);
      many = m.many;
      brought = λ writes. m.brought writes ∙ ap (λ (x : Option Line). values_of x new.piece) (sym same.brings);
      through = m.through;
      waits = m.waits ∙ ap (λ (x : Option Line). option_map_or (λ (l : Line). is_through l.command) x false) (sym same.brings);
    }) pieces all
