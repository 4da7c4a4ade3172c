-- Lines on logical volumes, judged by computing.
use Rattle.std.proofs.Common.{◌≡◌, ℕ, true, false, List, [], ◌∷◌, ◌++◌, map, Some, None, refl}
use Rattle.std.specs.Cmp.{nat_cmp_total}
use Rattle.std.specs.FinSet as set
use Rattle.std.specs.Ordering.{nat_cmp}
use Rattle.std.specs.Prelude.{Bool, codes, option_map}
use Rattle.command_table.specs.declared.amount.Amount.{Amount}
use Rattle.command_table.specs.declared.amount.Amount.TheVariants.{Extents, Sectors}
use Rattle.command_table.specs.declared.amount.Growth.{Growth}
use Rattle.command_table.specs.declared.amount.Growth.TheVariants.{By, To}
use Rattle.command_table.specs.declared.command.Command.{Command}
use Rattle.command_table.specs.declared.command.Command.TheVariants.{Lvcreate, Lvextend, Lvreduce}
use Rattle.command_table.specs.declared.command.NewVolume.{NewVolume}
use Rattle.command_table.specs.Options.{number_named}
use Rattle.line_answers.specs.declared.op_refusal.OpRefusal.TheVariants.{BadStripe, IdTaken, Layered, Locked, NameTaken, NoRun, NoSpace}
use Rattle.line_answers.specs.declared.op_refusal.OpRefusal.TheVariants.{NotAllocatable, NotInGroup, NotLonger, NotShorter, TooFewPvs}
use Rattle.line_answers.specs.declared.op_refusal.OpRefusal.TheVariants.{TooMany, UnknownGroup, UnknownPv, UnknownVolume}
use Rattle.lvm_script.specs.declared.line.Line.{Line}
use Rattle.meta_model.specs.declared.group.Group.{Group}
use Rattle.meta_model.specs.declared.lv.Lv.{Lv}
use Rattle.meta_model.specs.declared.pv.Pv.{Pv}
use Rattle.meta_model.specs.declared.segment.Leg.{Leg}
use Rattle.meta_model.specs.declared.segment.On.TheVariants as on
use Rattle.meta_model.specs.declared.segment.SegKind.{SegKind}
use Rattle.meta_model.specs.declared.segment.SegKind.TheVariants.{Mirror, Striped}
use Rattle.meta_model.specs.declared.segment.Segment.{Segment}
use Rattle.extent_alloc.specs.declared.part.Part.{Part}
use Rattle.extent_alloc.specs.declared.part.PartRun.{PartRun}
use Rattle.extent_alloc.specs.declared.refusal.AllocRefusal.TheVariants as alloc
use Rattle.group_edits.specs.ShortenedVolume.{kept_of, shortened, shortened_volume}
use Rattle.group_edits.specs.Visible.{visible_named}
use Rattle.group_plan.specs.Added.{added_named}
use Rattle.group_plan.specs.Judging.{area_row, many_row, unknown_row}
use Rattle.group_plan.specs.Stripes.{stripe_row, stripes_row}
use Rattle.group_plan.specs.Members.{outside_row, pv_named, pvs_named}
use Rattle.group_plan.specs.declared.state.GroupState.{GroupState}
use Rattle.lv_plans.specs.Allocating.{Asking, segments_row, shown_refusal, space_row}
use Rattle.lv_plans.specs.Lvcreate.{id_row, kind_for, legs_for, share_for}
use Rattle.lv_plans.specs.Lvextend.{longer_row, more_for}
use Rattle.lv_plans.specs.Lvreduce.{shorter_row}
use Rattle.lv_plans.specs.Sizes.{kept_by}
use Rattle.lv_plans.specs.Volumes.{layered_row, locked_row, taken_row}
use Rattle.group_ops.specs.Planning.{asks_of, change_of, refusal_of}

-- a physical volume of 15 extents of 8,192 sectors, on a disk with this name
abbrev pv : ℕ → List ℕ → List ℕ × Pv
pv id name = (
  codes "pv" ++ id ∷ [],
  record {
    id = id ∷ [];
    device = name;
    allocatable = true;
    missing = false;
    dev_size = 131072;
    pe_start = 2048;
    pe_count = 15;
  },
)

-- a logical volume of these segments, visible or not
abbrev lv : List ℕ → ℕ → Bool → List Segment → List ℕ × Lv
lv name id visible segments = (
  name,
  record {
    id = id ∷ [];
    status =
        record { read = true; write = true; visible = visible; fixed_minor = false; pvmove = false; locked = false; notsynced = false };
    created = 0;
    host = [];
    segments = segments;
  },
)

abbrev leg : ℕ → ℕ → Leg
leg number first = record { on = on.Pv number; first = first }

-- a leg on a logical volume
abbrev sub : ℕ → ℕ → Leg
sub number first = record { on = on.Lv number; first = first }

abbrev segment : ℕ → ℕ → SegKind → Segment
segment start count kind = record { start = start; count = count; kind = kind }

-- the group on a and b, with these logical volumes
abbrev group : List (List ℕ × Lv) → Group
group lvs = record {
  name = codes "vg0";
  id = 9 ∷ [];
  seqno = 4;
  status = record { resizeable = true; read = true; write = true };
  extent_size = 8192;
  max_lv = 0;
  max_pv = 0;
  copies = 0;
  pvs = pv 48 (codes "a") ∷ pv 49 (codes "b") ∷ [];
  lvs = lvs;
}

-- a, c and b are the disks, of which a and b are in the group, each with a metadata area
abbrev held : List (List ℕ × Lv) → GroupState
held lvs = record {
  group = Some (group lvs);
  disks = [];
  names = codes "a" ∷ codes "c" ∷ codes "b" ∷ [];
  areas = (record { pv = 0; start = 4096; size = 1044480 }, None) ∷ (record { pv = 2; start = 4096; size = 1044480 }, None) ∷ [];
  disk_of = 0 ∷ 2 ∷ [];
  backup = None;
}

-- ---- lvreduce: how many extents are kept

abbrev volume : List Segment → Lv
volume segments = (lv (codes "s") 7 true segments).1

-- nine extents on three stripes: of five they keep six
abbrev stripes : List Segment
stripes = segment 0 9 (Striped 128 (leg 0 0 ∷ leg 1 0 ∷ leg 1 3 ∷ [])) ∷ []

row_stripes : map (kept_of stripes) (1 ∷ 2 ∷ 3 ∷ 4 ∷ 5 ∷ 6 ∷ 7 ∷ 9 ∷ 10 ∷ []) ≡ 3 ∷ 3 ∷ 3 ∷ 6 ∷ 6 ∷ 6 ∷ 9 ∷ 9 ∷ 10 ∷ []
row_stripes = refl

-- four linear extents and then four on two stripes: three stay as they are, and of five the stripes keep two
abbrev mixed : List Segment
mixed = segment 0 4 (Striped 0 (leg 0 3 ∷ [])) ∷ segment 4 4 (Striped 128 (leg 0 7 ∷ leg 1 3 ∷ [])) ∷ []

row_kept : map (λ n. kept_by 8192 (Extents n) (volume mixed)) (3 ∷ 4 ∷ 5 ∷ 6 ∷ 7 ∷ 8 ∷ 9 ∷ []) ≡ 3 ∷ 4 ∷ 6 ∷ 6 ∷ 8 ∷ 8 ∷ 9 ∷ []
row_kept = refl

-- sizes are rounded up to whole extents first
row_sizes : map (λ n. kept_by 8192 (Sectors n) (volume mixed)) (1 ∷ 24576 ∷ 24577 ∷ 32769 ∷ 65536 ∷ []) ≡ 1 ∷ 3 ∷ 4 ∷ 6 ∷ 8 ∷ []
row_sizes = refl

-- a mirror keeps what is said
row_mirror : map (kept_of (segment 0 5 (Mirror 1024 None (leg 0 0 ∷ leg 1 0 ∷ [])) ∷ [])) (1 ∷ 3 ∷ 5 ∷ []) ≡ 1 ∷ 3 ∷ 5 ∷ []
row_mirror = refl

row_not_shorter : map (λ n. shorter_row (kept_by 8192 (Extents n) (volume mixed)) 8) (6 ∷ 7 ∷ 9 ∷ [])
    ≡ None ∷ Some (NotShorter 8 8) ∷ Some (NotShorter 9 8) ∷ []
row_not_shorter = refl

-- ---- lvreduce: the shorter volume

row_reduced : (shortened_volume (codes "s") 6 (group (lv (codes "s") 7 true mixed ∷ []))).lvs
    ≡ lv (codes "s") 7 true (segment 0 4 (Striped 0 (leg 0 3 ∷ [])) ∷ segment 4 2 (Striped 128 (leg 0 7 ∷ leg 1 3 ∷ [])) ∷ []) ∷ []
row_reduced = refl

row_front : (shortened 4 (volume mixed)).segments ≡ segment 0 4 (Striped 0 (leg 0 3 ∷ [])) ∷ []
row_front = refl

-- other volumes stay, and the version is the next one
abbrev two : List (List ℕ × Lv)
two =
    lv (codes "data") 1 true (segment 0 4 (Striped 0 (leg 0 0 ∷ [])) ∷ [])
    ∷ lv (codes "home") 2 true (segment 0 2 (Striped 0 (leg 1 0 ∷ [])) ∷ []) ∷ []

row_others : shortened_volume (codes "data") 1 (group two)
    ≡ record (group (lv (codes "data") 1 true (segment 0 1 (Striped 0 (leg 0 0 ∷ [])) ∷ [])
    ∷ lv (codes "home") 2 true (segment 0 2 (Striped 0 (leg 1 0 ∷ [])) ∷ []) ∷ [])) { seqno = 5 }
row_others = refl

-- ---- lvreduce: whole lines

abbrev line : Command → Line
line command = record { number = 1; id = Some (7 ∷ []); command = command }

-- an lvreduce of a volume of the group
abbrev reduce : List ℕ → Amount → Line
reduce name amount = line (Lvreduce (record { vg = codes "vg0"; lv = name }) amount)

row_other_group : refusal_of (held two) (line (Lvreduce (record { vg = codes "vg1"; lv = codes "data" }) (Extents 1))) 0 []
    ≡ Some (UnknownGroup (codes "vg1"))
row_other_group = refl

row_unknown : refusal_of (held two) (reduce (codes "logs") (Extents 1)) 0 [] ≡ Some (UnknownVolume (codes "logs"))
unfolding visible_named
row_unknown = refl

-- four extents aren't fewer than four
row_four : refusal_of (held two) (reduce (codes "data") (Extents 4)) 0 [] ≡ Some (NotShorter 4 4)
unfolding area_row layered_row locked_row visible_named
row_four = simp (set.contains-insert nat_cmp_total) refl

-- top and side lie on low, which is hidden
abbrev layers : List (List ℕ × Lv)
layers =
    lv (codes "low") 2 false (segment 0 4 (Striped 0 (leg 0 2 ∷ [])) ∷ [])
    ∷ lv (codes "top") 3 true (segment 0 1 (Striped 0 (leg 1 0 ∷ [])) ∷ segment 1 2 (Striped 0 (sub 0 0 ∷ [])) ∷ [])
    ∷ lv (codes "side") 5 true (segment 0 2 (Striped 0 (sub 0 2 ∷ [])) ∷ [])
    ∷ []

row_layered : map (λ name. refusal_of (held layers) (reduce name (Extents 1)) 0 []) (codes "top" ∷ codes "side" ∷ codes "low" ∷ [])
    ≡ Some (Layered (codes "top")) ∷ Some (Layered (codes "side")) ∷ Some (UnknownVolume (codes "low")) ∷ []
unfolding layered_row locked_row visible_named
row_layered = refl

-- the PVMOVE volume moves extent 5 of a to b, and data lies on it: data is moving, which is said before that it is layered
abbrev moving : List (List ℕ × Lv)
moving =
    lv (codes "data") 1 true (segment 0 1 (Striped 0 (sub 1 0 ∷ [])) ∷ [])
    ∷ (
      codes "pvmove0",
      record {
        id = 2 ∷ [];
        status =
            record { read = true; write = true; visible = false; fixed_minor = false; pvmove = true; locked = true; notsynced = false };
        created = 0;
        host = [];
        segments = segment 0 1 (Mirror 1024 (Some 0) (leg 0 5 ∷ leg 1 0 ∷ [])) ∷ [];
      },
    )
    ∷ []

row_locked : refusal_of (held moving) (reduce (codes "data") (Extents 1)) 0 [] ≡ Some (Locked (codes "data"))
unfolding locked_row visible_named
row_locked = refl

-- what five extents of mixed are committed as
row_change : (change_of (held (lv (codes "s") 7 true mixed ∷ [])) (reduce (codes "s") (Extents 5)) 0 []).group
    ≡ Some (record (group (lv (codes "s") 7 true
    (segment 0 4 (Striped 0 (leg 0 3 ∷ [])) ∷ segment 4 2 (Striped 128 (leg 0 7 ∷ leg 1 3 ∷ [])) ∷ []) ∷ [])) { seqno = 5 })
unfolding visible_named
row_change = refl

-- ---- the physical volumes that a line names

row_members : map (pv_named (held two)) (codes "a" ∷ codes "b" ∷ codes "c" ∷ codes "d" ∷ []) ≡ Some 0 ∷ Some 1 ∷ None ∷ None ∷ []
unfolding number_named pv_named
row_members = refl

row_outside : outside_row (held two) (codes "b" ∷ codes "c" ∷ codes "d" ∷ []) ≡ Some (NotInGroup (codes "c"))
unfolding number_named outside_row pv_named
row_outside = refl

-- ---- lvextend: what is asked for

-- six extents on two stripes
abbrev striped : Segment
striped = segment 0 6 (Striped 128 (leg 0 0 ∷ leg 1 0 ∷ []))

-- six extents are as many as it has, and so are five, in whole stripes; three are four; a sector more than six extents is one extent
-- more
row_not_longer : map (longer_row 8192 (volume (striped ∷ [])))
    (To (Extents 6) ∷ To (Extents 5) ∷ To (Extents 3) ∷ To (Extents 7) ∷ To (Sectors 49152) ∷ To (Sectors 49153) ∷ By (Extents 1) ∷ [])
    ≡ Some (NotLonger 6 6) ∷ Some (NotLonger 6 6) ∷ Some (NotLonger 4 6) ∷ None ∷ Some (NotLonger 6 6) ∷ None ∷ None ∷ []
row_not_longer = refl

-- how many extents each of its legs gets
abbrev shares : List Segment → List Growth → List ℕ
shares segments growths = map (λ growth. (more_for (held []) (group []) growth [] (volume segments)).extents) growths

-- seven extents are one more, and with two stripes one on each
row_shares : shares (striped ∷ []) (To (Extents 7) ∷ To (Extents 8) ∷ To (Extents 9) ∷ By (Extents 3) ∷ By (Sectors 8193) ∷ [])
    ≡ 1 ∷ 1 ∷ 2 ∷ 2 ∷ 1 ∷ []
row_shares = refl

-- the last segment alone decides: with the two stripes behind four linear extents each gets half
row_last : shares mixed (To (Extents 13) ∷ []) ≡ 3 ∷ []
row_last = refl

-- each leg of a mirror gets all
row_mirrors : shares (segment 0 5 (Mirror 1024 None (leg 0 0 ∷ leg 1 0 ∷ [])) ∷ []) (To (Extents 8) ∷ By (Extents 2) ∷ []) ≡ 3 ∷ 2 ∷ []
row_mirrors = refl

-- an lvextend of a volume of the group, on the disks with these names
abbrev extend : List ℕ → Growth → List (List ℕ) → Line
extend name growth pvs = line (Lvextend (record { vg = codes "vg0"; lv = name }) growth pvs)

-- data has four extents on one leg
row_asks : option_map {U = ℕ × ℕ} (λ (asking : Asking). (asking.want.extents, asking.want.legs))
    (asks_of (held two) (extend (codes "data") (To (Extents 9)) [])) ≡ Some (5, 1)
unfolding visible_named
row_asks = refl

row_asks_none : asks_of (held two) (extend (codes "logs") (To (Extents 9)) []) ≡ None
unfolding visible_named
row_asks_none = refl

-- ---- lvextend: whole lines

row_six : refusal_of (held (lv (codes "s") 7 true (striped ∷ []) ∷ [])) (extend (codes "s") (To (Extents 6)) []) 0 [] ≡ Some (NotLonger 6 6)
unfolding area_row layered_row locked_row outside_row unknown_row visible_named
row_six = simp (set.contains-insert nat_cmp_total) refl

-- that a name is unknown is said before that the volume is moving, and this before that it is layered
row_unknown_pv : refusal_of (held moving) (extend (codes "data") (By (Extents 1)) (codes "d" ∷ [])) 0 [] ≡ Some (UnknownPv (codes "d"))
unfolding added_named number_named unknown_row visible_named
row_unknown_pv = refl

row_extend_locked : refusal_of (held moving) (extend (codes "data") (By (Extents 1)) []) 0 [] ≡ Some (Locked (codes "data"))
unfolding locked_row outside_row unknown_row visible_named
row_extend_locked = refl

row_extend_layered : refusal_of (held layers) (extend (codes "side") (By (Extents 1)) []) 0 [] ≡ Some (Layered (codes "side"))
unfolding layered_row locked_row outside_row unknown_row visible_named
row_extend_layered = refl

-- of the thirty extents of a and b six are used
row_full : refusal_of (held two) (extend (codes "data") (By (Extents 25)) []) 0 [] ≡ Some (NoSpace 25 24)
unfolding area_row layered_row locked_row outside_row pvs_named space_row unknown_row visible_named
row_full = simp (set.len-empty nat_cmp, set.contains-empty nat_cmp, set.contains-insert nat_cmp_total) refl

-- the allocator's refusals name a disk, here the third, by its number
row_shown : map (shown_refusal (0 ∷ 2 ∷ []))
    (alloc.NoMemory ∷ alloc.NotAllocatable 1 ∷ alloc.NoSpace 16 15 ∷ alloc.NoRun 9 8 ∷ alloc.TooFewPvs 3 2 ∷ [])
    ≡ None ∷ Some (NotAllocatable 2) ∷ Some (NoSpace 16 15) ∷ Some (NoRun 9 8) ∷ Some (TooFewPvs 3 2) ∷ []
row_shown = refl

row_segments : map (segments_row (group two)) (1 ∷ 16382 ∷ 16383 ∷ []) ≡ None ∷ None ∷ Some (TooMany 16385 16384) ∷ []
unfolding segments_row
row_segments = refl

-- ---- lvextend: the longer volume

abbrev begin : ℕ → ℕ → PartRun
begin number first = record { pv = number; first = first }

-- each part that is given is a segment
row_longer : (change_of (held two) (extend (codes "data") (By (Extents 3)) []) 0
    ((record { extents = 2; runs = begin 0 4 ∷ [] }) ∷ (record { extents = 1; runs = begin 1 2 ∷ [] }) ∷ [])).group
    ≡ Some (record (group (lv (codes "data") 1 true
    (segment 0 4 (Striped 0 (leg 0 0 ∷ [])) ∷ segment 4 2 (Striped 0 (leg 0 4 ∷ [])) ∷ segment 6 1 (Striped 0 (leg 1 2 ∷ [])) ∷ [])
    ∷ lv (codes "home") 2 true (segment 0 2 (Striped 0 (leg 1 0 ∷ [])) ∷ []) ∷ [])) { seqno = 5 })
row_longer = refl

row_longer_stripes : (change_of (held (lv (codes "s") 7 true (striped ∷ []) ∷ [])) (extend (codes "s") (To (Extents 7)) []) 0
    ((record { extents = 1; runs = begin 0 3 ∷ begin 1 5 ∷ [] }) ∷ [])).group
    ≡ Some (record (group (lv (codes "s") 7 true (striped ∷ segment 6 2 (Striped 128 (leg 0 3 ∷ leg 1 5 ∷ [])) ∷ []) ∷ [])) { seqno = 5 })
row_longer_stripes = refl

-- ---- lvcreate: what is asked for

-- a new volume of so much, on so many stripes, with so many mirrors
abbrev wanted : Amount → ℕ → ℕ → NewVolume
wanted amount stripes mirrors =
    record {
      vg = codes "vg0";
      lv = codes "new";
      amount = amount;
      stripes = stripes;
      stripe_size = 128;
      mirrors = mirrors;
      contiguous = false;
      pvs = [];
    }

-- two stripes have half of the extents each, and three of five; each leg of a mirror has all; a sector more than an extent is two
row_created_shares : map (share_for 8192)
    (wanted (Extents 5) 1 0 ∷ wanted (Extents 6) 2 0 ∷ wanted (Extents 5) 2 0 ∷ wanted (Extents 5) 1 2 ∷ wanted (Sectors 8193) 1 0
    ∷ wanted (Sectors 8193) 2 0 ∷ wanted (Sectors 8192) 1 1 ∷ []) ≡ 5 ∷ 3 ∷ 3 ∷ 5 ∷ 2 ∷ 1 ∷ 1 ∷ []
row_created_shares = refl

row_created_legs : map legs_for (wanted (Extents 1) 1 0 ∷ wanted (Extents 1) 2 0 ∷ wanted (Extents 1) 8 0 ∷ wanted (Extents 1) 1 1
    ∷ wanted (Extents 1) 1 7 ∷ []) ≡ 1 ∷ 2 ∷ 8 ∷ 2 ∷ 8 ∷ []
row_created_legs = refl

-- a single leg has no stripe size
row_created_kinds : map kind_for (wanted (Extents 1) 1 0 ∷ wanted (Extents 1) 2 0 ∷ wanted (Extents 1) 1 1 ∷ [])
    ≡ Striped 0 [] ∷ Striped 128 [] ∷ Mirror 1024 None [] ∷ []
row_created_kinds = refl

-- an lvcreate of it
abbrev create : NewVolume → Line
create new = line (Lvcreate new)

row_created_asks : option_map {U = ℕ × ℕ × Bool} (λ (asking : Asking). (asking.want.extents, asking.want.legs, asking.want.contiguous))
    (asks_of (held two) (create (record (wanted (Extents 5) 2 0) { contiguous = true }))) ≡ Some (3, 2, true)
row_created_asks = refl

-- ---- lvcreate: rows

-- pieces of 128 sectors don't divide extents of 64; a single leg has none
row_stripe_pieces : map (λ (new : NewVolume). stripe_row 64 new.stripes new.stripe_size)
    (wanted (Extents 1) 2 0 ∷ wanted (Extents 1) 1 0 ∷ record (wanted (Extents 1) 2 0) { stripe_size = 64 } ∷ [])
    ≡ Some (BadStripe 128 64) ∷ None ∷ None ∷ []
row_stripe_pieces = refl

-- of a group the first volume whose pieces don't divide an extent, 0 sectors among them; one of a single leg has no pieces
row_stripes_of :
    map
    (λ (kind : SegKind). stripes_row (group (lv (codes "s") 7 true (striped ∷ []) ∷ lv (codes "t") 8 true (striped ∷ segment 6 6 kind ∷ [])
    ∷ [])))
    (Striped 256 (leg 0 6 ∷ leg 1 6 ∷ []) ∷ Striped 192 (leg 0 6 ∷ leg 1 6 ∷ []) ∷ Striped 0 (leg 0 6 ∷ leg 1 6 ∷ [])
    ∷ Striped 0 (leg 0 6 ∷ []) ∷ [])
    ≡ None ∷ Some (BadStripe 192 8192) ∷ Some (BadStripe 0 8192) ∷ None ∷ []
row_stripes_of = refl

-- volumes beside a limit of three and of none
row_volumes : map (many_row 1024 3) (3 ∷ 4 ∷ 1025 ∷ []) ≡ None ∷ Some (TooMany 4 3) ∷ Some (TooMany 1025 1024) ∷ []
unfolding many_row
row_volumes = refl

row_no_limit : map (many_row 1024 0) (1024 ∷ 1025 ∷ []) ≡ None ∷ Some (TooMany 1025 1024) ∷ []
unfolding many_row
row_no_limit = refl

-- 9 is the id of the group, 48 that of a physical volume and 2 that of a logical one
row_ids : map (λ (id : ℕ). id_row (held two) (group two) (id ∷ [])) (7 ∷ 9 ∷ 48 ∷ 2 ∷ [])
    ≡ None ∷ Some (IdTaken (9 ∷ [])) ∷ Some (IdTaken (48 ∷ [])) ∷ Some (IdTaken (2 ∷ [])) ∷ []
row_ids = refl

-- ---- lvcreate: whole lines

row_created_elsewhere : refusal_of (held two) (create (record (wanted (Extents 1) 1 0) { vg = codes "vg1" })) 0 []
    ≡ Some (UnknownGroup (codes "vg1"))
row_created_elsewhere = refl

-- hidden volumes have their names too, and this is said before that a disk is unknown
row_name_taken : map (λ name. refusal_of (held layers) (create (record (wanted (Extents 1) 1 0) { lv = name; pvs = codes "d" ∷ [] })) 0 [])
    (codes "top" ∷ codes "low" ∷ codes "new" ∷ [])
    ≡ Some (NameTaken (codes "top")) ∷ Some (NameTaken (codes "low")) ∷ Some (UnknownPv (codes "d")) ∷ []
unfolding added_named number_named taken_row unknown_row
row_name_taken = refl

-- of the thirty extents of a and b six are used
row_created_full : refusal_of (held two) (create (wanted (Extents 25) 1 0)) 0 [] ≡ Some (NoSpace 25 24)
unfolding area_row many_row outside_row pvs_named space_row taken_row unknown_row
row_created_full = simp (set.len-empty nat_cmp, set.contains-empty nat_cmp, set.contains-insert nat_cmp_total) refl

-- three legs want three physical volumes
row_few_volumes : refusal_of (held []) (create (wanted (Extents 15) 1 2)) 0 [] ≡ Some (TooFewPvs 3 2)
unfolding area_row many_row outside_row pvs_named space_row taken_row unknown_row
row_few_volumes = simp (set.len-empty nat_cmp, set.contains-empty nat_cmp, set.contains-insert nat_cmp_total) refl

-- ---- lvcreate: the new volume

-- the volume that stands behind the others, created at 12 on localhost
abbrev made : List Segment → List ℕ × Lv
made segments = (codes "new", record (lv (codes "new") 7 true segments).1 { created = 12; host = codes "localhost" })

-- five extents on two stripes are six
abbrev both_stripes : List Part
both_stripes = (record { extents = 3; runs = begin 0 4 ∷ begin 1 2 ∷ [] }) ∷ []

row_created : (change_of (held two) (create (wanted (Extents 5) 2 0)) 12 both_stripes).group
    ≡ Some (record (group (two ++ made (segment 0 6 (Striped 128 (leg 0 4 ∷ leg 1 2 ∷ [])) ∷ []) ∷ [])) { seqno = 5 })
row_created = refl

row_created_mirror : (change_of (held two) (create (wanted (Extents 3) 1 1)) 12 both_stripes).group
    ≡ Some (record (group (two ++ made (segment 0 3 (Mirror 1024 None (leg 0 4 ∷ leg 1 2 ∷ [])) ∷ []) ∷ [])) { seqno = 5 })
row_created_mirror = refl

-- its first eight sectors are those of its first leg; the second physical volume is on the third disk
row_zeroed : map (λ (given : List Part). (change_of (held two) (create (wanted (Extents 6) 2 0)) 12 given).zero)
    (both_stripes ∷ ((record { extents = 6; runs = begin 1 2 ∷ [] }) ∷ []) ∷ [] ∷ [])
    ≡ ((record { pv = 0; first = 34816; count = 8 }) ∷ []) ∷ ((record { pv = 2; first = 18432; count = 8 }) ∷ []) ∷ [] ∷ []
row_zeroed = refl
