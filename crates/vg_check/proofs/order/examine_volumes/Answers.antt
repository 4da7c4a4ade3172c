-- Each exit: what was kept before, and the offence there.
use Rattle.volume_rules.specs.declared.rule.Rule.TheVariants.{Extents, Follows, Stripes, Mirrors}
use Rattle.volume_rules.specs.Rules.{KeepsBelow}
use Rattle.volume_rules.proofs.FirstBroken.{below_more}
use Rattle.vg_check.proofs.Refusals.{refused_first}
use Rattle.vg_check.proofs.order.examine_volumes.Goals as goal

pub returns-in-Some : goal.returns-in-Some
returns-in-Some c =
    let group = c.args.group.now in
    refused_first group (KeepsBelow 9 group) Extents c.in-Some.at 0 _ c.refused.ensures c.requires c.in-Some.ensures

pub returns-in-Some-lv_with_gap : goal.returns-in-Some-lv_with_gap
returns-in-Some-lv_with_gap c =
    let group = c.args.group.now in
    let below6 = below_more group Extents c.requires c.in_default.ensures in
    refused_first group (KeepsBelow 9 group) Follows c.in-Some-lv_with_gap.at 0 _ c.refused-in-Some-lv_with_gap.ensures below6
    c.in-Some-lv_with_gap.ensures

pub returns-in-Some-uneven_stripes : goal.returns-in-Some-uneven_stripes
returns-in-Some-uneven_stripes c =
    let group = c.args.group.now in
    let below6 = below_more group Extents c.requires c.in_default.ensures in
    let below7 = below_more group Follows below6 c.in_default-lv_with_gap.ensures in
    refused_first group (KeepsBelow 9 group) Stripes c.in-Some-uneven_stripes.at c.in-Some-uneven_stripes.other _
    c.refused-in-Some-uneven_stripes.ensures below7 c.in-Some-uneven_stripes.ensures

pub returns-in-Some-broken_mirror : goal.returns-in-Some-broken_mirror
returns-in-Some-broken_mirror c =
    let group = c.args.group.now in
    let below6 = below_more group Extents c.requires c.in_default.ensures in
    let below7 = below_more group Follows below6 c.in_default-lv_with_gap.ensures in
    let below8 = below_more group Stripes below7 c.in_default-uneven_stripes.ensures in
    refused_first group (KeepsBelow 9 group) Mirrors c.in-Some-broken_mirror.at c.in-Some-broken_mirror.other _
    c.refused-in-Some-broken_mirror.ensures below8 c.in-Some-broken_mirror.ensures

pub returns : goal.returns
returns c =
    let group = c.args.group.now in
    let below6 = below_more group Extents c.requires c.in_default.ensures in
    let below7 = below_more group Follows below6 c.in_default-lv_with_gap.ensures in
    let below8 = below_more group Stripes below7 c.in_default-uneven_stripes.ensures in
    below_more group Mirrors below8 c.in_default-broken_mirror.ensures
