-- Stripes whose pieces don't divide an extent.
use Rattle.std.specs.Prelude.{ℕ, ◌%◌, ◌&&◌, ◌||◌, ◌==◌, not, nat_lt, List, length, map, Option, None}
use Rattle.line_answers.specs.declared.op_refusal.OpRefusal.{OpRefusal}
use Rattle.line_answers.specs.declared.op_refusal.OpRefusal.TheVariants.{BadStripe}
use Rattle.meta_model.specs.declared.group.Group.{Group}
use Rattle.meta_model.specs.declared.lv.Lv.{Lv}
use Rattle.meta_model.specs.declared.segment.SegKind.{SegKind}
use Rattle.meta_model.specs.declared.segment.SegKind.TheVariants.{Mirror, Striped}
use Rattle.meta_model.specs.declared.segment.Segment.{Segment}
use Rattle.group_plan.specs.Judging.{first_refusal, refused_if}

-- there are several stripes, and their pieces of so many sectors don't divide an extent
abbrev pub stripe_row : ℕ → ℕ → ℕ → Option OpRefusal
stripe_row extent_size stripes piece =
    refused_if (nat_lt 1 stripes && (piece == 0 || not (extent_size % piece == 0))) (BadStripe piece extent_size)

-- so it is in a segment of this kind
abbrev pub kind_row : ℕ → SegKind → Option OpRefusal
kind_row extent_size (Striped stripe legs) = stripe_row extent_size (length legs) stripe
kind_row extent_size (Mirror region moved legs) = None

-- in the first of these segments
abbrev pub segments_row : ℕ → List Segment → Option OpRefusal
segments_row extent_size segments = first_refusal (map (λ (segment : Segment). kind_row extent_size segment.kind) segments)

-- in the first of the group's
abbrev pub stripes_row : Group → Option OpRefusal
stripes_row group = first_refusal (map (λ (lv : List ℕ × Lv). segments_row group.extent_size lv.1.segments) group.lvs)
